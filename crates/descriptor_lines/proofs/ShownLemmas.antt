-- The pools of a layout that `show` prints, one by one: for the loops of `Program::show` and `show_pools`.
use Rattle.std.proofs.lemmas.Grind.{common_steps}
use Rattle.std.proofs.Common.{◌≡◌, ℕ, ◌+◌, ◌<◌, ◌≤◌, true, false, List, [], ◌∷◌, ◌++◌, append_assoc, filter, length, map, take, slice_get, Option, None, Some, option_map, String, Global, refl, ap, sym, ◌∙◌, arith}
use Rattle.std.specs.List.{flat_map}
use Rattle.std.proofs.lemmas.List.{flat_map_more, take_all, take_more}
use Rattle.std.proofs.lemmas.Option.{get_or_from_slice_get, slice_get_cases, slice_get_within}
use Rattle.gpu_descriptor.specs.Caller.States.{marked_load_of}
use Rattle.gpu_descriptor.specs.Caller.Views.{view_in}
use Rattle.gpu_descriptor.specs.Model.Books.{BucketOf, Key, books_of}
use Rattle.gpu_descriptor.specs.declared.bucket.DescriptorPool.{DescriptorPool}
use Rattle.gpu_descriptor.specs.declared.view.PoolView.{PoolView}
use Rattle.descriptor_script.specs.Sessions.Tickets.{held_sets}
use Rattle.descriptor_script.specs.declared.raw.RawPool.{RawPool}
use Rattle.descriptor_lines.specs.Answers.{device_answer, held_answer, pool_answer}
use Rattle.descriptor_lines.specs.LayoutTables.{key_of, listed}
use Rattle.descriptor_lines.specs.LineStates.{LineState}
use Rattle.descriptor_lines.specs.Shown.{pools_answer, show_answer}
use Rattle.descriptor_lines.specs.declared.layouts.Entry.{Entry}
use Rattle.descriptor_lines.specs.declared.layouts.Layout.{Layout}

-- the line of a pool of the books
abbrev line_of : List ℕ → DescriptorPool RawPool → List ℕ
line_of name pool = pool_answer name pool.number pool.allocated pool.available

-- it is the line of what readers see of the pool
seen_line : (name : List ℕ) (pool : Option (DescriptorPool RawPool)) (view : PoolView) → option_map (λ e. record { number = e.number; allocated = e.allocated; available = e.available }) pool ≡ Some view → (e : DescriptorPool RawPool) × (pool ≡ Some e) × (line_of name e ≡ pool_answer name view.number view.allocated view.available)
seen_line name None view seen = absurd (cc)
seen_line name (Some e) view seen =
    let same : record { number = e.number; allocated = e.allocated; available = e.available } ≡ view = cc in
    (e, refl, ap (λ v. pool_answer name v.number v.allocated v.available) same)

-- the lines of the first n pools for a layout's sets
unfoldable pub pools_so_far : ℕ → List (Key × BucketOf RawPool) → List ℕ × Layout → List ℕ
pools_so_far n rows (name, layout) = flat_map (line_of name) (take n (books_of rows (key_of layout)).pools)

pub none_so_far : (rows : List (Key × BucketOf RawPool)) (l : List ℕ × Layout) → pools_so_far 0 rows l ≡ []
unfolding pools_so_far
none_so_far rows l = refl

-- with the next pool its line comes after; and after the last pool these are all lines
pub one_more : (rows : List (Key × BucketOf RawPool)) (name : List ℕ) (layout : Layout) (n : ℕ) (view : PoolView) → view_in (books_of rows (key_of layout)) n ≡ Some view → pools_so_far (n + 1) rows (name, layout) ≡ pools_so_far n rows (name, layout) ++ pool_answer name view.number view.allocated view.available
unfolding pools_so_far
one_more rows name layout n view seen =
    let pools = (books_of rows (key_of layout)).pools in
    let (pool, there, line) = seen_line name (slice_get pools n) view seen in
    ap (flat_map (line_of name)) (take_more pools n pool (slice_get_within pools n pool there)) ∙ ap (λ p. flat_map (line_of name) (take n pools ++ p ∷ [])) (get_or_from_slice_get pools n pool pool there) ∙ sym (flat_map_more (line_of name) [] (take n pools) pool) ∙ ap (λ text. flat_map (line_of name) (take n pools) ++ text) line

pub all_so_far : (rows : List (Key × BucketOf RawPool)) (l : List ℕ × Layout) (n : ℕ) → length (books_of rows (key_of l.1)).pools ≤ n → pools_so_far n rows l ≡ pools_answer rows l
unfolding pools_so_far pools_answer
all_so_far rows l n all = ap (flat_map (line_of l.0)) (take_all n (books_of rows (key_of l.1)).pools all)

-- a pool that is there is seen
pub seen_within : (rows : List (Key × BucketOf RawPool)) (key : Key) (n : ℕ) → n < length (books_of rows key).pools → view_in (books_of rows key) n ≡ None → ⊥
seen_within rows key n inside none = grind (arith, common_steps, slice_get_cases)

-- the lines of the pools for those of these entries that are told to be first
unfoldable pub said_of_told : List (Key × BucketOf RawPool) → List (String Global × Entry) → List ℕ
said_of_told rows entries = flat_map (pools_answer rows) (map listed (filter (λ e. e.1.is_first) entries))

pub said_of_none : (rows : List (Key × BucketOf RawPool)) → said_of_told rows [] ≡ []
unfolding said_of_told
said_of_none rows = refl

-- an entry that is first adds the lines of its pools, another adds nothing
pub said_of_first : (rows : List (Key × BucketOf RawPool)) (e : String Global × Entry) (es : List (String Global × Entry)) → e.1.is_first ≡ true → said_of_told rows (e ∷ es) ≡ pools_answer rows (listed e) ++ said_of_told rows es
unfolding said_of_told
said_of_first rows e es first = rw first refl

pub said_of_later : (rows : List (Key × BucketOf RawPool)) (e : String Global × Entry) (es : List (String Global × Entry)) → e.1.is_first ≡ false → said_of_told rows (e ∷ es) ≡ said_of_told rows es
unfolding said_of_told
said_of_later rows e es later = rw later refl

joined : (old pools calls held : List ℕ) → ((old ++ pools) ++ calls) ++ held ≡ old ++ ((pools ++ calls) ++ held)
joined old pools calls held = simp append_assoc

-- behind the pools of those that are told to be first the calls and the sets make the text of `show`
pub said_whole :
    (p : LineState) (old text : List ℕ)
    → text ≡ old ++ said_of_told p.session.value.allocator.table p.layouts.by_name.entries
    → (text ++ device_answer p.session.ledger.counters)
    ++ held_answer (length (held_sets p.session.value.sets)) (marked_load_of p.session.value.allocator)
    ≡ old ++ show_answer p
unfolding said_of_told show_answer
said_whole p old text pools =
    let calls = device_answer p.session.ledger.counters in
    let held = held_answer (length (held_sets p.session.value.sets)) (marked_load_of p.session.value.allocator) in
    ap (λ said. (said ++ calls) ++ held) pools ∙ joined old (said_of_told p.session.value.allocator.table p.layouts.by_name.entries) calls held
