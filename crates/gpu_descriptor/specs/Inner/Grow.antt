-- What one new pool adds, why a request stops, and what it has taken by then.
use Rattle.std.specs.Prelude.{◌≡◌, ℕ, ◌+◌, false, nat_eq, min, List, [], ◌∷◌, ◌++◌, length, Option, Some, None, Result, Ok, Err}
use Rattle.std.specs.Map.{update}
use Rattle.gpu_descriptor_types.specs.Ledger.{Ledger, live_sets, on_pool, fresh, no_rise}
use Rattle.gpu_descriptor_types.specs.PoolSize.{pool_counts}
use Rattle.gpu_descriptor.specs.declared.bucket.stop.Stop.{Stop}
use Rattle.gpu_descriptor.specs.Model.Outcomes.{risen, StopsAt}
use Rattle.gpu_descriptor.specs.Model.Books.{Key, Entry, Bucket, number_after, numbers_of}
use Rattle.gpu_descriptor.specs.Model.Agreement.{Item, flags_of}
use Rattle.gpu_descriptor.specs.Model.Load.{allocated_in, pool_descriptors}
use Rattle.gpu_descriptor.specs.Model.Shares.{rest, all_shared}
use Rattle.gpu_descriptor.specs.Model.FreshPools.{Fresh, fresh_entry, IsNextSize, IsFreshList}
use Rattle.gpu_descriptor.specs.Model.Grants.{Grant, pool_with}
use Rattle.gpu_descriptor.specs.Inner.Walk.{HasTaken, IsRefused}

-- a new pool was created, used up room for its descriptors, and gave the sets still needed or as many as it has
pub record IsGrown (bound : Option ℕ) (k : Key) (room room_left total wanted : ℕ) (names : List ℕ) (old new : List Entry) (before after : Ledger) : Type 0 where
  pub pool : Fresh
  -- it has the size of the key's next pool at that moment
  pub size : IsNextSize bound k room total wanted pool.size
  pub less : room_left + pool_descriptors k pool.size ≡ room
  pub given : pool.given ≡ min pool.size wanted
  pub many : length names ≡ pool.given
  -- its name was that of no live pool
  pub is_new : before.pools pool.pool ≡ None
  -- its entry comes last, with the next number
  pub entries : new ≡ old ++ fresh_entry (number_after (numbers_of old)) pool ∷ []
  -- it was created in the ledger, and has the sets
  pub pools : after.pools ≡ on_pool pool.pool (pool_with (live_sets k.counts names) false) (update nat_eq before.pools pool.pool (Some (fresh (pool_counts k.counts pool.size) pool.size (flags_of k))))
  pub counters : after.counters ≡ risen (record no_rise { created = 1; asked = 1 }) before.counters

-- what was taken of a key's pools: all that was requested, or what had been taken when the request stopped
abbrev pub IsTaken : Result (Unit {0}) Stop → Option ℕ → Key → (room n : ℕ) → List Item → (old new : Bucket) → (before after : Ledger) → Type 0
IsTaken (Ok done) bound k room n items old new before after = (g : Grant) × HasTaken k n g items old new before after × (g.skipped ≡ 0) × IsFreshList bound k room (allocated_in (all_shared g.refused n old.pools)) (rest g.refused n old.pools) g.fresh
IsTaken (Err why) bound k room n items old new before after = (g : Grant) × (between : Ledger) × HasTaken k n g items old new before between × StopsAt why bound k room n g old.pools × IsRefused why between after
