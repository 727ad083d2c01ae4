use Rattle.std.proofs.lemmas.Grind.{common_steps}
use Rattle.std.proofs.Common.{rules, ◌≡◌, ℕ, ◌<◌, ◌==◌, nat_eq, List, [], ◌∷◌, ◌++◌, length, map, count_by, sym, ap, ◌∙◌, arith}
use Rattle.std.proofs.iter.Next.{Yields-more}
use Rattle.std.proofs.lemmas.List.{length-map, map_push}
use Rattle.indexmap.specs.IndexMap.{get}
use Rattle.gpu_descriptor_types.specs.Multiset.{LiveSet, set_eq}
use Rattle.gpu_descriptor_types.proofs.Counting.{count_by-append}
use Rattle.descriptor_script.specs.Inner.Live.{live_set_of, live_sets_of}
use Rattle.descriptor_script.specs.Scripted.Raw.{set_id}
use Rattle.descriptor_script.specs.declared.raw.RawSet.{RawSet}
use Rattle.descriptor_script.proofs.Entries.{gone_many, none_either, taken, some_left, found_left}
use Rattle.descriptor_script.proofs.live.take_back.Goals as goal

pub loop-set-preserved : goal.loop-set-preserved
loop-set-preserved g c =
    let i = c.loop-set.invariant in
    let n : ℕ = c.in-Some.set.id in
    let more = Yields-more g.I.Iterator.next_gives c.args.sets.now c.loop-set.yielded c.loop-set.sets c.in-Some.set c.next.new.self i.steps c.in-Some.ensures.steps in
    let named = c.requires.live (c.loop-set.yielded ++ c.in-Some.set ∷ []) c.next.new.self more in
    let left : 0 < count_by (λ s. s.name == n) (live_sets_of c.loop-set.live.entries) =
    some_left (live_sets_of c.args.live.now.entries) (live_sets_of c.loop-set.live.entries) i.gone named.gone
    (map set_id c.loop-set.yielded) n i.parts i.named
    (named.named ∙ map_push set_id c.loop-set.yielded c.in-Some.set) named.live in
    let had = found_left n c.loop-set.live.entries left in
    let out = taken n had.0 c.loop-set.live.entries c.swap_remove.new.self.entries had.1 c.swap_remove.ensures.entries in
    record {
      gone = i.gone ++ live_set_of (n, had.0) ∷ [];
      steps = more;
      named = map_push (λ (s : LiveSet). s.name) i.gone (live_set_of (n, had.0)) ∙ ap (λ l. l ++ n ∷ []) i.named ∙ sym (map_push set_id c.loop-set.yielded c.in-Some.set);
      parts = grind (arith, common_steps, count_by-append);
      fresh = λ m h. c.swap_remove.ensures.updates.0 m ∙ none_either (nat_eq n m) (get nat_eq c.loop-set.live m) (i.fresh m h);
    }

-- the names of those that are gone are those of the items
gone_items : (gone : List LiveSet) (items : List RawSet) → map (λ (s : LiveSet). s.name) gone ≡ map set_id items → length items ≡ length gone
gone_items gone items named = sym (length-map items set_id) ∙ ap length (sym named) ∙ length-map gone (λ (s : LiveSet). s.name)

pub overflow_sub-result : goal.overflow_sub-result
overflow_sub-result g c = omega (arith, gone_many c.loop-set.invariant.gone c.args.live.now.entries c.loop-set.live.entries c.loop-set.invariant.parts, c.len-before.ensures.len, c.len.ensures.len)

pub returns-clause-back : goal.returns-clause-back
returns-clause-back g c =
    let i = c.loop-set.invariant in
    record {
      items = c.loop-set.yielded;
      many = omega (arith, gone_items i.gone c.loop-set.yielded i.named, gone_many i.gone c.args.live.now.entries c.loop-set.live.entries i.parts, c.len-before.ensures.len, c.len.ensures.len);
      drained = (c.loop-set.sets, i.steps, search rules);
      taken = record { gone = i.gone; named = i.named; live = λ x. (let p = i.parts (λ y. set_eq y x) in omega arith) };
      less = λ x. (let p = i.parts (λ y. set_eq y x) in omega arith);
    }
