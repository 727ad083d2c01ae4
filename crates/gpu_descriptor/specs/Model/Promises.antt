-- What a caller may conclude of a request without its outcomes.
use Rattle.gpu_descriptor.specs.Model.Grants.{Grant}
use Rattle.gpu_descriptor.specs.Model.FreshPools.{Fresh}
use Rattle.std.specs.Prelude.{◌≡◌, ℕ, ◌+◌, ◌-◌, ◌*◌, ◌<◌, List, [], ◌∷◌, length, slice_get, take, sum_by, All, Some, OnOk, false}
use Rattle.gpu_descriptor_types.specs.PoolSize.{pool_size_floor, start_size}
use Rattle.gpu_descriptor.specs.Model.Books.{Key, Entry, key_eq}
use Rattle.gpu_descriptor.specs.Model.Agreement.{State, Item, count_of, outstanding}
use Rattle.gpu_descriptor.specs.Model.Outcomes.{Call, taken_by, out_then, needed, Allocates}
use Rattle.gpu_descriptor.specs.Model.Shares.{offer, all_shared}

-- exactly these sets are outstanding in addition to those before
abbrev pub AreOutBesides : List Item → State → State → Type 0
AreOutBesides items old new = (t : Item) → outstanding new t ≡ outstanding old t + count_of t items

-- the same sets are outstanding
abbrev pub KeepsOutstanding : State → State → Type 0
KeepsOutstanding old new = (t : Item) → outstanding new t ≡ outstanding old t

-- each set is of the key
abbrev pub AreOfKey : Key → List Item → Type 0
AreOfKey k items = (t : Item) → 0 < count_of t items → t.key ≡ k

-- new pools in order. Before the first, `out` sets of the key are outstanding, and `wanted` are needed. Each is created only if some are needed, and has fewer sets than twice the start size at that time
abbrev pub AreBelowTwice : (out wanted : ℕ) → List Fresh → Type 0
AreBelowTwice out wanted [] = Unit {0}
AreBelowTwice out wanted (f ∷ later) = (0 < wanted) × (f.size < 2 * start_size out wanted) × AreBelowTwice (out + f.given) (wanted - f.given) later

module _ (c : Call) where
  -- the existing pools fall short: those that didn't refuse have fewer known free places than are needed. A new pool that refused was destroyed at once: few counts it, below_twice does not
  pub record IsShort (g : Grant) : Type 0 where
    pub short : sum_by (offer g.refused) (c.old.books c.key).pools < c.count
    -- therefore they have no known free place left when the first new one is created
    pub used_up : All (λ e. e.available ≡ 0) (all_shared g.refused c.count (c.old.books c.key).pools)
    -- if the request succeeded, no pool of the key but the newest has a known free place
    pub filled : OnOk c.answer (let pools = (c.new.books c.key).pools in All (λ e. e.available ≡ 0) (take (length pools - 1) pools))
    pub below_twice : AreBelowTwice (out_then c g) (needed c g) g.fresh
    -- the number of new pools is at most that of the sets needed divided by the floor of a pool's size, rounded up
    pub few : let floor = pool_size_floor c.key.counts in (c.after.created - c.before.created) * floor < needed c g + floor

-- a pool is created only if the key's existing pools fall short
abbrev pub CreatesOnlyWhereShort : {c : Call} → Allocates c → Type 0
CreatesOnlyWhereShort {c} outcome = c.before.created < c.after.created → (g : Grant) × (taken_by outcome ≡ Some g) × IsShort c g

-- the key's pools are as they were, in the books and on the device
pub record IsUntouched (k : Key) (old new : State) : Type 0 where
  pub books : new.books k ≡ old.books k
  pub pools : (i : ℕ) (e : Entry) → slice_get (old.books k).pools i ≡ Some e → new.ledger e.pool ≡ old.ledger e.pool

-- all other keys are untouched
abbrev pub KeepsOtherKeys : Key → State → State → Type 0
KeepsOtherKeys k old new = (l : Key) → key_eq k l ≡ false → IsUntouched l old new
