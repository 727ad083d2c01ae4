-- What a request takes of a key's pools, and what books and ledger are then.
use Rattle.std.specs.Prelude.{◌≡◌, ℕ, ◌+◌, ◌<◌, Bool, ◌==◌, if◌then◌else◌, List, [], ◌∷◌, ◌++◌, map, length, take, drop, flat_map, Option, Some, option_map}
use Rattle.gpu_descriptor_types.specs.Ledger.{Pool, live_sets, fresh}
use Rattle.gpu_descriptor_types.specs.Multiset.{LiveSet, times}
use Rattle.gpu_descriptor_types.specs.PoolSize.{pool_counts}
use Rattle.gpu_descriptor.specs.Model.Books.{Key, Bucket, key_eq, next_number}
use Rattle.gpu_descriptor.specs.Model.Agreement.{State, Item, flags_of}
use Rattle.gpu_descriptor.specs.Model.Shares.{all_shared, Portion, OnlyAskedRefuse, portions_of}
use Rattle.gpu_descriptor.specs.Model.FreshPools.{Fresh, fresh_entries, AreNew, fresh_portions}

-- the sets that one pool gave
pub record Part : Type 0 where
  pub number : ℕ
  pub pool : ℕ
  pub names : List ℕ

-- the part without the names of its sets
abbrev pub portion_of : Part → Portion
portion_of p = record { number = p.number; pool = p.pool; given = length p.names }

-- what a request took: how many of the oldest pools gave nothing because it stopped, which pools refused, the new pools, and the sets in their order
pub record Grant : Type 0 where
  -- the id of the key from then on
  pub id : ℕ
  -- how many of the oldest pools gave nothing, because the request stopped at the newest of these
  pub skipped : ℕ
  -- which existing pools refused as fragmented or full, by name
  pub refused : ℕ → Bool
  pub fresh : List Fresh
  pub parts : List Part

-- n sets could be taken of a key's pools in this way: only asked pools refuse, the sets are in order, and the new pools' names are new
pub record IsGrantOf (n : ℕ) (b : Bucket) (ledger : ℕ → Option Pool) (g : Grant) : Type 0 where
  -- a key that has pools keeps its id. Which id a new key gets is left open, since the books would otherwise carry the counter of ids
  pub id : 0 < length b.pools → g.id ≡ b.id
  -- only a pool that was asked refused
  pub refusing : OnlyAskedRefuse g.refused n (drop g.skipped b.pools)
  -- the parts are the shares of the existing pools, the newest first, and then what the new pools gave
  pub parts : map portion_of g.parts ≡ portions_of g.refused n (drop g.skipped b.pools) ++ fresh_portions (next_number b) g.fresh
  -- no new pool has the name of a live one
  pub new : AreNew ledger g.fresh

-- sets of a key's pool under these names
abbrev pub items_at : Key → ℕ → ℕ → List ℕ → List Item
items_at k id number names = map (λ name. record { key = k; id = id; number = number; name = name }) names

-- the sets of the result
abbrev pub items_in : Key → ℕ → List Part → List Item
items_in k id parts = flat_map (λ p. items_at k id p.number p.names) parts

-- the names of the sets that a pool gave
abbrev pub came : List Part → ℕ → List ℕ
came parts pool = flat_map (λ p. if p.pool == pool then p.names else []) parts

-- the pools of the key: the oldest unchanged, the others after they gave their shares, the new ones last
abbrev pub bucket_with : ℕ → Grant → Bucket → Bucket
bucket_with n g b = record b { id = g.id; pools = take g.skipped b.pools ++ all_shared g.refused n (drop g.skipped b.pools) ++ fresh_entries (next_number b) g.fresh }

-- the ledger's pool of this name, with the new ones
abbrev pub fresh_or : Key → List Fresh → ℕ → Option Pool → Option Pool
fresh_or k [] name old = old
fresh_or k (f ∷ pools) name old = if f.pool == name then Some (fresh (pool_counts k.counts f.size) f.size (flags_of k)) else fresh_or k pools name old

-- the pool with more sets, and with one more refusal if it refused
abbrev pub pool_with : List LiveSet → Bool → Pool → Pool
pool_with sets refused p = record p { live = λ x. p.live x + times sets x; refusals = if refused then p.refusals + 1 else p.refusals }

-- the ledger's pools and the new ones, each with the sets that it gave, and with its refusal if it refused
abbrev pub ledger_with : Key → Grant → (ℕ → Option Pool) → ℕ → Option Pool
ledger_with k g ledger name = option_map (pool_with (live_sets k.counts (came g.parts name)) (g.refused name)) (fresh_or k g.fresh name (ledger name))

-- books and ledger with what a request of n sets took
abbrev pub granted : Key → ℕ → Grant → State → State
granted k n g s = record { books = λ l. if key_eq k l then bucket_with n g (s.books k) else s.books l; ledger = ledger_with k g s.ledger }
