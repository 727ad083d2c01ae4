-- The names that most proofs cite, passed on from one place. Declares nothing.
pub use Rattle.std.proofs.Common.{Bool, List, None, Option, Some, [], option_map, ap, arith, drop, eq-eqb, eqb-true, false, get_or, if◌then◌else◌, inl, inr, is_some, length, map, min, nat_eq, nat_le, nat_lt, ne_eqb, not, refl, rules, set, slice_index_or, slice_set, subst, suc, sym, take}
pub use Rattle.std.proofs.Common.{true, zero, zero-add, ℕ, ◌%◌, ◌&&◌, ◌++◌, ◌+◌, ◌-◌, ◌<◌, ◌==◌, ◌∙◌, ◌∷◌, ◌≡◌, ◌≢◌, ◌≤◌, ◌⊎◌}
pub use Rattle.std.proofs.Math.Nat.{add-mod_right, mod-eq_of_lt}
pub use Rattle.std.proofs.Math.Seq.{get_or-append_seam, map-set_same, set-append_seam}
pub use Rattle.std.proofs.lemmas.Bool.{and_left, and_right, cases_eq, cases_lt, false≢true, le-leb, le-ltb, lt-leb, lt-ltb, ltb-false, true≢false}
pub use Rattle.std.proofs.lemmas.Grind.{common_steps}
pub use Rattle.std.proofs.lemmas.List.{ext_get_or, get_or-map, get_or-set_other, get_or-set_same, get_or-take, get_or_append_left, get_or_default, get_or_past, get_or_push, length-map, length-set, length-take-le, length_push, map-append, map-set, set-set}
pub use Rattle.std.specs.List.{cons_option, filter_map, last_or}
pub use Rattle.descriptor_table.specs.Groups.{is_of, list_of}
pub use Rattle.descriptor_table.specs.Handles.{values_of}
pub use Rattle.descriptor_table.specs.Lists.{HasList, Relisted, chains_in, layouts_in, removed_in}
pub use Rattle.std.specs.List.Sorted.{IsNonDecreasingBy}
pub use Rattle.descriptor_table.specs.Places.{AreFree, times, users_at, walk}
pub use Rattle.descriptor_table.specs.Sets.{AllFit, AreHeldOnce, LoseNames, is_held, is_last, sets_of}
pub use Rattle.descriptor_table.specs.Slots.{AreCounted, AreLinked, AreSound, IsListed, IsNowhere, IsQueue, Lists, Slot, chain_at, filled, frame_at, frame_of, in_list, is_due, is_in, is_kept_of, is_live, is_removed, is_set_of, last_up_to, nexts_in, no_slot, places_in, shown, slot_at, slot_of, slots_in, space_in, waits, waits_for}
pub use Rattle.descriptor_table.specs.Places.{count}
pub use Rattle.descriptor_table.specs.Tables.{AreAllUsed, At, Becomes, Changes, GivesAny, HasLayout, HasRoom, HasTaken, IsBack, ids_of, MayBecome, Picks, Puts, Settings, Stays, TurnEach, Turns, aged, holds, is_held_use, is_kept, is_usable, layouts_of, may_join, may_stay, next_use, place_at}
pub use Rattle.descriptor_table.specs.Tables.{removed_as, removed_of, renewed, settings_of, slots_of, stays, used_for, vacated}
pub use Rattle.descriptor_table.specs.Users.{ids_in, users_in}
pub use Rattle.descriptor_table.specs.declared.group.Group.{Group}
pub use Rattle.descriptor_table.specs.declared.group.Group.TheVariants.{KeptOf}
pub use Rattle.descriptor_table.specs.declared.handle.SetHandle.{SetHandle}
pub use Rattle.descriptor_table.specs.declared.handle.SetName.{Ghosts}
pub use Rattle.descriptor_table.specs.declared.set_table.SetTable.{SetTable}
pub use Rattle.descriptor_table.specs.declared.slot.Chain.{Chain}
pub use Rattle.descriptor_table.specs.declared.slot.Queue.{Queue}
pub use Rattle.descriptor_table.specs.declared.slot.Use.{Use}
pub use Rattle.descriptor_table.specs.declared.slot.Use.TheVariants.{Going, Held, Kept, Taken, Vacant, Waits}
pub use Rattle.descriptor_table.specs.declared.slot_list.SlotList.{SlotList}
