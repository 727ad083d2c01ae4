use Rattle.gpu_descriptor.proofs.Common.{◌≡◌, ℕ, ◌+◌, slice_get, slice_index, Some, Agree, Entry, Key, State, numbers_of, arith, common_steps}
use Rattle.gpu_descriptor.specs.Caller.Comparisons.{gap_digits}
use Rattle.gpu_descriptor.specs.Model.Agreement.{HasNoGaps}
use Rattle.gpu_descriptor.proofs.NoGaps.{none_begins, none_cleaned, none_freed, none_requested}
use Rattle.gpu_descriptor.proofs.lists.Gaps.{dense_at}
use Rattle.gpu_descriptor.proofs.lists.Numbers.{number_of}
use Rattle.gpu_descriptor.proofs.laws.only_a_trim_leaves_gaps.Goals as goal

by_place : (s : State) (k : Key) (i : ℕ) (e : Entry) → Agree s → HasNoGaps s → slice_get (s.books k).pools i ≡ Some e → e.number ≡ slice_index (numbers_of (s.books k).pools) 0 + i
by_place s k i e agree dense at = dense_at (numbers_of (s.books k).pools) (agree.rising k) (dense k) i e.number (number_of (s.books k).pools i e at)

digits : (s : State) (k : Key) → HasNoGaps s → gap_digits (numbers_of (s.books k).pools) ≡ 0
digits s k dense = grind (arith, common_steps)

pub returns : goal.returns
returns c = record { begins = none_begins; requests = none_requested; frees = none_freed; cleanups = none_cleaned; by_place = by_place; digits = digits }
