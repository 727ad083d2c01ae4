-- The names that most proofs cite, passed on from one place. Declares nothing.
pub use Rattle.std.proofs.Common.{Bool, Err, IfSome, IsSome, List, None, Ok, Option, Result, Some, [], add-one, ap, arith, eq-eqb, false, get_or, if◌then◌else◌, inl, inr, is_some, length, length-set, map, nat_le, nat_lt, ne_eqb, not, option_map, refl, rules, set, slice_index_or, subst, suc, sum, zero-add}
pub use Rattle.std.proofs.Common.{sym, take, take-suc-set, take_all, true, true≢false, zero, ℕ, ◌&&◌, ◌*◌, ◌++◌, ◌+◌, ◌-◌, ◌<◌, ◌==◌, ◌||◌, ◌∙◌, ◌∷◌, ◌≡◌, ◌≢◌, ◌≤◌, ◌⊎◌}
pub use Rattle.std.proofs.Math.Bool.{and-false}
pub use Rattle.std.proofs.lemmas.Bool.{and_left, and_right, cases_eq, cases_lt, le-leb, lt-leb}
pub use Rattle.std.proofs.lemmas.Grind.{common_steps}
pub use Rattle.std.proofs.lemmas.List.{get_or-append-add, get_or_append_left, get_or_default, get_or_past, get_or_push, length-append, take-map}
pub use Rattle.std.proofs.lemmas.Option.{same_Some}
pub use Rattle.std.specs.List.{cons_option, filter_map}
pub use Rattle.descriptor_manager.specs.LayoutRegistries.{layout_at, layout_slots, layouts_by, registry_of}
pub use Rattle.descriptor_manager.specs.Managers.{Rendering, pools_for, seen}
pub use Rattle.descriptor_manager.specs.Own.{HasSetsOf}
pub use Rattle.descriptor_manager.specs.Stores.{AreCleaned, AreAllOf, Asks, AsksAtLast, ComesInto, ComesOf, HoldEach, Holds, IsAtRest, IsCleared, IsRefused, IsRefusedAtLast, IsUnmet, KeepsContents, KeepsStore, NoneComes, Requests, SetsCome, SettlesTo, StoreStays, handles_in, is_placed, kept_of}
pub use Rattle.descriptor_manager.specs.Stores.{pools_besides, removed_in, side_of, slots_in}
pub use Rattle.descriptor_manager.specs.WholeSets.{GivesNext, whole_in, whole_sets}
pub use Rattle.descriptor_manager.specs.declared.layout_registry.LayoutHandle.{LayoutHandle}
pub use Rattle.descriptor_manager.specs.declared.layout_registry.LayoutRegistry.{LayoutRegistry}
pub use Rattle.descriptor_manager.specs.declared.manager.SetManager.{SetManager}
pub use Rattle.descriptor_manager.specs.declared.store.Store.{Store}
pub use Rattle.descriptor_table.proofs.Chains.{lists_apart, live_no_list}
pub use Rattle.descriptor_table.proofs.Counts.{count_same, count_few, count_none, count_set, none_count, same_count}
pub use Rattle.descriptor_table.proofs.Holding.{held_is, named_or}
pub use Rattle.descriptor_table.proofs.Leaving.{gives_weigh, group_out, same_sets, tally, tally_length}
pub use Rattle.descriptor_table.proofs.Listed.{bit, other_slots, past_end, slot_set, test_within}
pub use Rattle.descriptor_table.proofs.Names.{handles_both, handles_long, handles_written, place_read}
pub use Rattle.descriptor_table.proofs.Naming.{ShowsSame, names_kept, names_lost, shown}
pub use Rattle.descriptor_table.proofs.Renewing.{kept_full, kept_is, room_stays, vacant_is}
pub use Rattle.descriptor_table.proofs.Turning.{due_full, going_out}
pub use Rattle.descriptor_table.specs.Groups.{is_of}
pub use Rattle.descriptor_table.specs.Sets.{AllFit, AreHeldOnce, LoseNames, NameEach, Sets, find, is_given, is_held, sets_of}
pub use Rattle.descriptor_table.specs.Slots.{Slot, frame_of, goes, in_list, is_due, is_in, is_kept_of, is_live, is_removed, is_set_of, slot_at, waits, waits_for}
pub use Rattle.descriptor_table.specs.Places.{count}
pub use Rattle.descriptor_table.specs.Tables.{AreAllUsed, Becomes, Grows, HasLayout, HasRoom, IsBack, ids_of, MayBecome, Puts, Renews, Settings, TurnEach, Turns, aged, holds, is_held_use, is_kept, is_usable, layouts_of, place_at, removed_as, removed_of, renewed, settings_of, slots_of, used_for, vacated}
pub use Rattle.descriptor_table.specs.declared.handle.SetHandle.{SetHandle}
pub use Rattle.descriptor_table.specs.declared.set_table.SetTable.{SetTable}
pub use Rattle.descriptor_table.specs.declared.slot.Use.{Use}
pub use Rattle.descriptor_table.specs.declared.slot.Use.TheVariants.{Going, Held, Kept, Vacant, Waits}
pub use Rattle.gpu_descriptor.proofs.callers.HeldSets.{count_parts, counted}
pub use Rattle.gpu_descriptor.proofs.request.Passed.{passed}
pub use Rattle.gpu_descriptor.specs.Caller.SetLayouts.{IsMeant}
pub use Rattle.gpu_descriptor.specs.Caller.Sets.{AreSetsOf, IsSetOf, item_of, items_of, whole}
pub use Rattle.gpu_descriptor.specs.Caller.States.{named_row, outstanding_of, state_of}
pub use Rattle.gpu_descriptor.specs.Caller.Values.{Allocations}
pub use Rattle.gpu_descriptor.specs.Model.Agreement.{Item, State, count_of, outstanding}
pub use Rattle.gpu_descriptor.specs.Model.Books.{BucketOf, books_of}
pub use Rattle.gpu_descriptor.specs.declared.errors.AllocationError.{AllocationError}
pub use Rattle.gpu_descriptor.specs.declared.layout.SetLayout.{SetLayout}
pub use Rattle.gpu_descriptor.specs.declared.compact.CompactDescriptorSet.{CompactDescriptorSet}
pub use Rattle.gpu_descriptor.specs.declared.set.DescriptorSet.{DescriptorSet}
pub use Rattle.gpu_descriptor_types.specs.Meaning.{IsOfLayout, Meaning}
pub use Rattle.gpu_descriptor_types.specs.Side.{Side, side}
pub use Rattle.gpu_descriptor_types.specs.declared.device.DescriptorDevice.{Ghosts}
