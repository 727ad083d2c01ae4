-- The slots of a session, as the code has them.
use Rattle.std.specs.Prelude.{ℕ, ◌+◌, ◌≤◌, vec_len, vec_capacity}
use Rattle.descriptor_script.specs.declared.slots.Slots.{Slots}

module _ {S : Type 0} where
  -- n tickets can be given without an allocation
  pub record HasSpareSlots (n : ℕ) (s : Slots S) : Type 0 where
    pub sets : vec_len s.sets + n ≤ vec_capacity s.sets
    pub listed : vec_len s.listed + n ≤ vec_capacity s.listed
