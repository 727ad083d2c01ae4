-- An allocator without pools, of which only one key was touched since.
use Rattle.gpu_descriptor.proofs.Common.{arith, common_steps, ◌≡◌, ℕ, length, nil_from_length, length-map, Ledger, State, HasNoPools, Key, books_of, Allocations, KeepsOtherKeys, state_of, entry_of}
use Rattle.gpu_descriptor.proofs.sums.TableSums.{books_named}
use Rattle.gpu_descriptor.proofs.table.Exact.{key_exact}

module _ {P : Type 0} (name : P → ℕ) where
  -- it has none if that key has none
  pub still_without : (k : Key) (s : State) (a : Allocations P) (l : Ledger) → HasNoPools s → KeepsOtherKeys k s (state_of name a l) → length (books_of a.table k).pools ≡ 0 → HasNoPools (state_of name a l)
  still_without k s a l none others empty m = grind (arith, common_steps, books_named, key_exact, length-map, entry_of, nil_from_length)
