-- Which sets of a list are outstanding after a call: for callers that hold sets.
use Rattle.gpu_descriptor.proofs.Common.{◌≡◌, ℕ, ◌+◌, ◌<◌, List, ◌++◌, slice_get, Some, option_map, sym, ap, ◌∙◌, arith, ltb-true, map-append, slice_get-map, count_by, count_by-append, list_any-count_by, DescriptorSet, State, Item, item_eq, Agree, AreOutstanding, count_of, outstanding, AreOutBesides, released, item_of, items_of}
use Rattle.gpu_descriptor.proofs.lists.AtPlaces.{any_here}
use Rattle.gpu_descriptor.proofs.release.ReleaseAgrees.{takes}
use Rattle.gpu_descriptor.proofs.table.Exact.{item_exact}

-- ---- lists of items

pub count_of-append : (u : Item) (a b : List Item) → count_of u (a ++ b) ≡ count_of u a + count_of u b
count_of-append u a b = count_by-append (λ t. item_eq t u) a b

-- what came besides is outstanding
pub came_out : (items : List Item) (s t : State) → AreOutBesides items s t → AreOutstanding items t
came_out items s t besides u = (let h = besides u in omega arith)

-- what went back is outstanding no longer, and all else still is
pub out_less : (items : List Item) (s t : State) → Agree s → AreOutstanding items s → t ≡ released items s → AreOutBesides items t s
out_less items s t agree out is u = sym (takes items s agree out u) ∙ ap (λ (w : State). outstanding w u + count_of u items) (sym is)

-- ---- lists of sets

module _ {S : Type 0} (name : S → ℕ) where
  pub count_parts : (xs ys : List (DescriptorSet S)) (u : Item) → count_of u (items_of name (xs ++ ys)) ≡ count_of u (items_of name xs) + count_of u (items_of name ys)
  count_parts xs ys u = ap (count_of u) (map-append (λ (x : DescriptorSet S). item_of name x) xs ys) ∙ count_of-append u (items_of name xs) (items_of name ys)

  pub out_front : (xs ys all : List (DescriptorSet S)) (s : State) → all ≡ xs ++ ys → AreOutstanding (items_of name all) s → AreOutstanding (items_of name xs) s
  out_front xs ys all s is out u = (let a = ap (λ (l : List (DescriptorSet S)). count_of u (items_of name l)) is ∙ count_parts xs ys u in let b = out u in omega arith)

  pub out_back : (xs ys all : List (DescriptorSet S)) (s : State) → all ≡ xs ++ ys → AreOutstanding (items_of name all) s → AreOutstanding (items_of name ys) s
  out_back xs ys all s is out u = (let a = ap (λ (l : List (DescriptorSet S)). count_of u (items_of name l)) is ∙ count_parts xs ys u in let b = out u in omega arith)

  -- a set of the list counts there
  pub counted : (x : DescriptorSet S) (l : List (DescriptorSet S)) (i : ℕ) → slice_get l i ≡ Some x → 0 < count_of (item_of name x) (items_of name l)
  counted x l i at =
      let is_it = λ (t : Item). item_eq t (item_of name x) in
      ltb-true 0 (count_by is_it (items_of name l)) (sym (list_any-count_by is_it (items_of name l)) ∙ any_here is_it (items_of name l) i (item_of name x) (slice_get-map (item_of name) l i ∙ ap (option_map (item_of name)) at) (item_exact.self (item_of name x)))
