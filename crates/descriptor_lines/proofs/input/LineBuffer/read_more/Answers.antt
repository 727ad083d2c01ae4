use Rattle.std.proofs.lemmas.Grind.{common_steps}
use borrow.Rule.Slice.PartMut.{post_of}
use Rattle.std.proofs.Common.{ℕ, List, length, arith, ◌≤◌, ◌≡◌, ◌-◌, ◌++◌, take, slice_range, subst, sym}
use Rattle.std.specs.declared.vec.Vec.{Vec}
use Rattle.std.specs.Vec.{with_items}
use Rattle.std.proofs.lemmas.List.{with_items_is}
use Rattle.std.proofs.lemmas.List.Edits.{length-between}
use Rattle.descriptor_lines.specs.Lines.{HasNoEnd}
use Rattle.descriptor_lines.proofs.LineLemmas.{front_part, part_behind, read_kept, read_failed_kept}
use Rattle.descriptor_lines.proofs.input.LineBuffer.read_more.Goals as goal

-- what stands in the buffer after a read behind its bytes
read_behind : {Z : Type 0} (v : Vec ℕ Z) (shown got : List ℕ) (end : ℕ) → length shown ≡ v.len → end ≤ length shown → length got ≡ length (slice_range shown end (length shown))
    → let all = take end shown ++ (got ++ post_of end (length shown - end) shown) in (with_items v all).items ≡ all
read_behind v shown got end size fits behind = grind (arith, common_steps, length-between, post_of, with_items_is)

-- what stands before the place of a read stays
front_stays : {Z : Type 0} (v : Vec ℕ Z) (shown got : List ℕ) (start place end : ℕ) → shown ≡ v.items → length shown ≡ v.len → end ≤ v.len → place ≤ end → length got ≡ length (slice_range shown end (length shown))
    → slice_range (with_items v (take end shown ++ (got ++ post_of end (length shown - end) shown))).items start place ≡ slice_range v.items start place
front_stays v shown got start place end is size fits before behind = grind (arith, common_steps, front_part, post_of, read_behind)

pub returns-clause-kept : goal.returns-clause-kept
returns-clause-kept g c = grind (arith, common_steps, part_behind, post_of, read_behind, read_kept)

pub invariant_of-self-2-clause-unended : goal.invariant_of-self-2-clause-unended
invariant_of-self-2-clause-unended g c =
    let s = c.move_to_front.new.self in
    subst HasNoEnd (sym (front_stays s.bytes c.deref_mut.result.now c.read.new.buf s.start s.searched s.end c.deref_mut.ensures.value c.deref_mut.ensures.len (omega arith) s.to_end c.read.auto.buf)) s.unended

pub invariant_of-self-in_default-clause-unended : goal.invariant_of-self-in_default-clause-unended
invariant_of-self-in_default-clause-unended g c =
    let s = c.move_to_front.new.self in
    subst HasNoEnd (sym (front_stays s.bytes c.deref_mut.result.now c.read.new.buf s.start s.searched s.end c.deref_mut.ensures.value c.deref_mut.ensures.len (omega arith) s.to_end c.read.auto.buf)) s.unended

pub returns-in_default-clause-kept : goal.returns-in_default-clause-kept
returns-in_default-clause-kept g c = grind (arith, common_steps, front_stays, read_failed_kept)
