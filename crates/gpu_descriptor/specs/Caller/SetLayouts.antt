-- What a layout is to a device.
use Rattle.std.specs.Prelude.{◌≡◌}
use Rattle.gpu_descriptor_types.specs.Counts.{kinds}
use Rattle.gpu_descriptor_types.specs.Meaning.{Meaning}
use Rattle.gpu_descriptor.specs.Caller.Flags.{is_marked}
use Rattle.gpu_descriptor.specs.declared.layout.SetLayout.{SetLayout}

module _ {L P S : Type 0} (means : Meaning L P S) where
  -- its counts and its mark are those that the device gives to the layout
  pub record IsMeant (l : SetLayout L) : Type 0 where
    pub counted : kinds l.counts ≡ means.counts l.layout
    pub marked : is_marked l.flags ≡ means.mark l.layout
