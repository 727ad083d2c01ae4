-- The names that most proofs cite, passed on from one place. Declares nothing.
pub use Rattle.std.proofs.Common.{Bool, Err, Global, IfSome, IsSome, List, MatchBool, MatchOption, None, Ok, OnSome, Option, Result, Some, [], ap, append_assoc, arith, cond, count_by, drop, drop-drop, eq-eqb, eqb-true, false, filter, flat_map, get_or, inl, inr, insert, is_some, le-ltb, length}
pub use Rattle.std.proofs.Common.{length-append, length-drop, lt-ltb, ltb, map, max, min, nat_eq, nat_lt, ne_eqb, not, option_map, pow-suc, refl, rules, set, slice_get, slice_index, slice_set, subst, suc, sum, sum_by, sym, take, take-add, true, zero, ℕ, ◌&&◌, ◌*◌, ◌++◌, ◌+◌, ◌-◌, ◌/◌, ◌<◌, ◌==◌}
pub use Rattle.std.proofs.Common.{◌^◌, ◌||◌, ◌∙◌, ◌∷◌, ◌≡◌, ◌≢◌, ◌≤◌, ◌⊎◌}
pub use Rattle.std.specs.Prelude.{All, IfErr, IfOk, IsTrue, OnOk, if◌then◌else◌, replicate, slice_index_or, ◌↔◌}
unfoldable pub use Rattle.std.specs.List.{IsDistinct}
pub use Rattle.std.specs.List.{AllByRecursion, AllWithin, list_all, list_any, position, prefix_len}
pub use Rattle.std.specs.Map.{keys_of, lookup, set_value, update, values_of}
pub use Rattle.std.specs.Option.{option_copied, option_len, option_map_or}
pub use Rattle.std.specs.Iterator.{Count, HoldsAlong, IsFinite, IsNearerEnd, MakesProgress, Yields, YieldsThen, size}
pub use Rattle.std.specs.Global.{Vec}
pub use Rattle.std.specs.VecDeque.{deque_capacity}
pub use Rattle.std.specs.List.Sorted.{IsNonDecreasing, IsNonDecreasingBy, IsPartitionPoint, IsPartitionedBy, IsPermutation}
pub use Rattle.std.proofs.lemmas.Bool.{and_from, and_parts, cases_Bool, cases_eq, cases_lt, eqb-false, false_from_ne_true, ltb-false, ltb-true, or_cases, or_from, or_left, or_parts, or_right, false≢true, true≢false}
pub use Rattle.std.proofs.lemmas.List.{append-nil, drop-map, drop_all, get_or_default, length-map, length-set, length-take-le, map-append, map-set, nil_from_length, set-get_or, set_split, take-map, take_all, take_at}
pub use Rattle.std.proofs.lemmas.List.Sums.{count_by-le-length, length-filter, prefix_len-le-length, sum_by-append, sum_by-cons, sum_by_more}
pub use Rattle.std.proofs.lemmas.List.Elements.{All-append, All-cons, All-nil, All-same}
pub use Rattle.std.proofs.lemmas.Option.{get_or_from_slice_get, slice_get-get_or, slice_get-map, slice_get_past, slice_get_read, slice_get_within, none-some, same_Some}
pub use Rattle.std.proofs.Math.Path.{fun_ext}
pub use Rattle.std.proofs.Math.Nat.{mul-le-mul_right}
pub use Rattle.std.proofs.Math.Logic.{∥∥₁_elim, ∥∥₁_map, ∥∥₁_prop}
pub use Rattle.std.proofs.Props.{props}
pub use Rattle.gpu_descriptor_types.specs.Bounds.{greatest_u64}
pub use Rattle.gpu_descriptor_types.specs.Counts.{kinds}
pub use Rattle.gpu_descriptor_types.specs.Flags.{CanFree, IsUpdateAfterBind}
pub use Rattle.gpu_descriptor_types.specs.Ledger.{AreLive, Counters, HasNoSets, CanGive, Ledger, Pool, after_alloc, after_create, after_destroy, after_no_alloc, after_no_create, after_release, alloc_refused, create_refused, fresh, live_sets, no_rise, on_pool, pool_refusals}
pub use Rattle.gpu_descriptor_types.specs.Meaning.{IsOfLayout, Meaning}
pub use Rattle.gpu_descriptor_types.specs.Multiset.{AreIn, HasSize, LiveSet, Spells, set_eq, times}
pub use Rattle.gpu_descriptor_types.specs.PoolSize.{bounded_sets, greatest_pool_size, IsPoolSize, pool_counts, pool_size_floor, sets_in_room, start_size}
pub use Rattle.gpu_descriptor_types.specs.Side.{side}
pub use Rattle.gpu_descriptor_types.proofs.Counting.{IsExact, all_taken_out, any_found, any_from, bool_iff, count_by-append, count_by_alike, count_by_no, count_by_none, count_by_yes, counts_alike, list_any-count_by, set_exact, times-append}
pub use Rattle.gpu_descriptor_types.specs.declared.errors.CreatePoolError.{CreatePoolError}
pub use Rattle.gpu_descriptor_types.specs.declared.errors.DeviceAllocationError.{DeviceAllocationError}
pub use Rattle.gpu_descriptor.specs.declared.errors.AllocationError.{AllocationError}
pub use Rattle.gpu_descriptor.specs.declared.key.BucketKey.{BucketKey}
pub use Rattle.gpu_descriptor.specs.declared.set.DescriptorSet.{DescriptorSet}
pub use Rattle.gpu_descriptor.specs.declared.bucket.DescriptorBucket.{DescriptorBucket}
pub use Rattle.gpu_descriptor.specs.declared.bucket.DescriptorPool.{DescriptorPool}
pub use Rattle.gpu_descriptor.specs.declared.bucket.stop.Stop.{Stop}
pub use Rattle.gpu_descriptor.specs.Model.Books.{AddsUp, Bucket, BucketOf, Entry, HasDistinctKeys, Key, books_of, entry_at, key_eq, next_number, no_pools, number_after, numbers_of, rises, sum_over}
pub use Rattle.gpu_descriptor.specs.Model.Agreement.{Agree, AreOutstanding, HasNoPools, IsAsBooked, IsBookedIn, Item, State, count_of, flags_of, item_eq, live_at, live_in, outstanding, set_of}
pub use Rattle.gpu_descriptor.specs.Inner.KeyOf.{key_of}
pub use Rattle.gpu_descriptor.specs.Caller.Values.{Allocations}
pub use Rattle.gpu_descriptor.specs.Caller.Call.{call_of, layout_key}
pub use Rattle.gpu_descriptor.specs.Caller.Comparisons.{binary_digits, digits_at, digits_behind, digits_within, gap_digits, run_digits, search_digits}
pub use Rattle.gpu_descriptor.specs.Caller.Frees.{Frees, GivesBack, Returns, marked_descriptors}
pub use Rattle.gpu_descriptor.specs.Caller.Keys.{with_key}
pub use Rattle.gpu_descriptor.specs.Caller.Others.{is_named}
pub use Rattle.gpu_descriptor.specs.Caller.Sets.{AreOfLayout, item_of, items_of}
pub use Rattle.gpu_descriptor.specs.Caller.States.{Agrees, entry_of, marked_load_of, named_bucket, named_row, outstanding_of, pool_load_of, state_of, table_of}
pub use Rattle.gpu_descriptor.specs.Inner.Buckets.{AreBookedIn, has_pools, ledger_but, bucket_but_front, ledger_but_front}
pub use Rattle.gpu_descriptor.specs.Inner.Grow.{IsGrown, IsTaken}
pub use Rattle.gpu_descriptor.specs.Inner.Ids.{is_of, stored_ids}
pub use Rattle.gpu_descriptor.specs.Inner.OpenOrdinals.{IsEntered, first_ordinal, free_in, open_ordinals}
pub use Rattle.gpu_descriptor.specs.Inner.Releases.{Compares, IsTakenAt, Releases, names_of}
pub use Rattle.gpu_descriptor.specs.Inner.RunSteps.{EndsRun, RunStep}
pub use Rattle.gpu_descriptor.specs.Inner.Serves.{Appends, IsUnserved, ServesKey, Takes}
pub use Rattle.gpu_descriptor.specs.Inner.SetAt.{set_at}
pub use Rattle.gpu_descriptor.specs.Inner.Stored.{IsConsistent, books_in, bucket_of, count_flagged, flag_of, kept_in, row_of, stored_keys}
pub use Rattle.gpu_descriptor.specs.Inner.Walk.{Adds, AsksNewest, CountsLooks, HasTaken, IsAsked, IsRefused, IsWalked}
pub use Rattle.gpu_descriptor.specs.Model.Cleanup.{LosesEmpty, gone_of, left_of, pools_lost, with_pools, without_empty}
pub use Rattle.gpu_descriptor.specs.Model.Foreign.{IsForeign, IsNamed, KeepsForeign}
pub use Rattle.gpu_descriptor.specs.Model.FreshPools.{AreNew, AreSized, Fresh, IsFreshPrefix, IsFreshList, IsNextSize, fresh_entries, fresh_entry, fresh_portions, given_by, room_after}
pub use Rattle.gpu_descriptor.specs.Model.Grants.{Grant, IsGrantOf, Part, bucket_with, came, fresh_or, granted, items_at, items_in, ledger_with, pool_with, portion_of}
pub use Rattle.gpu_descriptor.specs.Model.Load.{allocated_in, bucket_load, descriptors_created, descriptors_out, pool_descriptors, pools_load, set_descriptors, sets_out}
pub use Rattle.gpu_descriptor.specs.Model.Outcomes.{Allocates, Call, IsBack, IsDone, IsStopped, IsWithinLimit, StopsAtNew, Proceeds, Stays, StopsAt, error_of_alloc, grant_rise, out_then, risen, rollback_rise, stop_error, stop_rise, taken_by, needed}
pub use Rattle.gpu_descriptor.specs.Model.Promises.{AreBelowTwice, AreOfKey, AreOutBesides, CreatesOnlyWhereShort, IsShort, IsUntouched, KeepsOtherKeys, KeepsOutstanding}
pub use Rattle.gpu_descriptor.specs.Model.Release.{are_named, bucket_less, entry_less, front_but, fronts_gone, given_back, has_sets, is_empty, lies_in, more_destroyed, more_released, pool_less, pools_gone, released, spent_front, without_front}
pub use Rattle.gpu_descriptor.specs.Model.Runs.{runs}
pub use Rattle.gpu_descriptor.specs.Model.Shares.{OnlyAskedRefuse, Portion, all_shared, asked_count, asks, is_asked, offer, portions_of, refused_count, rest, share}
pub use Rattle.gpu_descriptor.specs.declared.bucket.run.Run.{Run}
pub use Rattle.std.proofs.lemmas.Grind.{common_steps, flat_map-append}
pub use Rattle.std.proofs.lemmas.List.Folds.{list_any-append, list_any_more}
pub use Rattle.std.proofs.lemmas.Map.{update_apart, update_here}
