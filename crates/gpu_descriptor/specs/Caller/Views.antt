-- What readers see of one key's pools.
use Rattle.std.specs.Prelude.{ℕ, slice_get, Option, option_map}
use Rattle.gpu_descriptor.specs.declared.view.PoolView.{PoolView}
use Rattle.gpu_descriptor.specs.Model.Books.{BucketOf}

-- what the books of a key say of the pool at this place
abbrev pub view_in : {P : Type 0} → BucketOf P → ℕ → Option PoolView
view_in b i = option_map (λ e. record { number = e.number; allocated = e.allocated; available = e.available }) (slice_get b.pools i)
