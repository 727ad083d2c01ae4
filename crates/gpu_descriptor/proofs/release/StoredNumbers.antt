-- The numbers of the pools that a bucket stores are those of its books.
-- For `take`, `release_sets`, `destroy_empty` and its parts. items are the pools of the code, listed is its list of open ones.
use Rattle.gpu_descriptor.proofs.Common.{◌⊎◌, inl, inr, Bool, filter, cases_Bool, ◌+◌, ◌≤◌, nat_lt, drop, and_parts, list_all, first_ordinal, free_in, number_after, open_ordinals, ◌≡◌, ℕ, zero, suc, ◌<◌, true, List, [], ◌∷◌, length, map, get_or, slice_get, slice_set, Some, refl, sym, common_steps}
use Rattle.gpu_descriptor.proofs.Common.{ap, ◌∙◌, arith, length-map, slice_get_within, slice_get-map, slice_get_read, option_map, Entry, entry_at, rises, numbers_of, DescriptorPool, entry_of}
use Rattle.gpu_descriptor.proofs.table.Exact.{bucket}
use Rattle.gpu_descriptor.proofs.lists.Numbers.{below_next, entry_at-found, entry_at-named, few_numbers, number_of}

module _ {P : Type 0} where
  pub numbers_set : (items : List (DescriptorPool P)) (i : ℕ) (q new : DescriptorPool P) → slice_get items i ≡ Some q → new.number ≡ q.number → numbers_of (slice_set items i new) ≡ numbers_of items
  numbers_set [] i q new at same = refl
  numbers_set (p ∷ items) zero q new at same = (let is : p ≡ q = cc in ap (λ (n : ℕ). n ∷ numbers_of items) (same ∙ ap (λ (x : DescriptorPool P). x.number) (sym is)))
  numbers_set (p ∷ items) (suc i) q new at same = ap (λ (l : List ℕ). p.number ∷ l) (numbers_set items i q new at same)

module _ {P : Type 0} (name : P → ℕ) where
  pub numbers_stored : (items : List (DescriptorPool P)) → numbers_of (map (entry_of name) items) ≡ numbers_of items
  numbers_stored [] = refl
  numbers_stored (p ∷ items) = ap (λ (l : List ℕ). p.number ∷ l) (numbers_stored items)

  -- a number of the books is stored
  pub stored_at : (id number : ℕ) (items : List (DescriptorPool P)) (e : Entry) → entry_at (bucket id (map (entry_of name) items)) number ≡ Some e → (i : ℕ) × (slice_get (numbers_of items) i ≡ Some number)
  stored_at id number items e at =
      let found = entry_at-found (bucket id (map (entry_of name) items)) number e at in
      (found.0, ap (λ (l : List ℕ). slice_get l found.0) (sym (numbers_stored items)) ∙ number_of (map (entry_of name) items) found.0 e found.1 ∙ ap Some found.2)

  -- the pool at the place where a number is stored
  pub record IsAt (number place : ℕ) (items : List (DescriptorPool P)) (p : DescriptorPool P) : Type 0 where
    pub within : place < length items
    pub named : p.number ≡ number
    pub at : slice_get (map (entry_of name) items) place ≡ Some (entry_of name p)
    pub there : (id : ℕ) → entry_at (bucket id (map (entry_of name) items)) number ≡ Some (entry_of name p)

  pub stands_at : (number place : ℕ) (items : List (DescriptorPool P)) (p : DescriptorPool P) → rises (numbers_of items) ≡ true → slice_get (numbers_of items) place ≡ Some number → p ≡ get_or items place p → IsAt number place items p
  stands_at number place items p rising stored is =
      let long = length-map items (λ (q : DescriptorPool P). q.number) in
      let lt : place < length items = (let within = slice_get_within (numbers_of items) place number stored in omega arith) in
      let read : slice_get items place ≡ Some p = slice_get_read items (length items) place p refl lt is in
      let own : slice_get (numbers_of items) place ≡ Some p.number = slice_get-map (λ (q : DescriptorPool P). q.number) items place ∙ ap (option_map (λ (q : DescriptorPool P). q.number)) read in
      let same : p.number ≡ number = cc in
      let at : slice_get (map (entry_of name) items) place ≡ Some (entry_of name p) = slice_get-map (entry_of name) items place ∙ ap (option_map (entry_of name)) read in
      record { within = lt; named = same; at = at; there = λ id. entry_at-named (bucket id (map (entry_of name) items)) place number (entry_of name p) (ap rises (numbers_stored items) ∙ rising) at same }

-- ---- the first pool goes

module _ {P : Type 0} where
  -- the pools after it keep their ordinals
  open_behind : (p : DescriptorPool P) (items : List (DescriptorPool P)) → rises (numbers_of (p ∷ items)) ≡ true → open_ordinals (suc (first_ordinal (p ∷ items))) (free_in items) ≡ open_ordinals (first_ordinal items) (free_in items)
  open_behind p [] h = refl
  open_behind p (q ∷ items) h = grind (arith, common_steps, (few_numbers (numbers_of (p ∷ q ∷ items)) h))

  -- the list loses its first ordinal if the pool was open, and else stays
  listed_behind : (p : DescriptorPool P) (items : List (DescriptorPool P)) (listed listed' : List ℕ) (free : ℕ) → p.available ≡ free → rises (numbers_of (p ∷ items)) ≡ true → listed ≡ open_ordinals (first_ordinal (p ∷ items)) (free_in (p ∷ items))
      → (0 < p.available → listed' ≡ drop 1 listed) → (p.available ≡ 0 → listed' ≡ listed) → listed' ≡ open_ordinals (first_ordinal items) (free_in items)
  listed_behind p items listed listed' zero is h was popped stays =
      stays is ∙ was ∙ ap (λ n. open_ordinals (first_ordinal (p ∷ items)) (n ∷ free_in items)) is ∙ open_behind p items h
  listed_behind p items listed listed' (suc n) is h was popped stays =
      popped (omega arith) ∙ ap (drop 1) (was ∙ ap (λ n. open_ordinals (first_ordinal (p ∷ items)) (n ∷ free_in items)) is) ∙ open_behind p items h

  pub popped_open : (p : DescriptorPool P) (items news : List (DescriptorPool P)) (listed listed' : List ℕ) → 0 < length items → p ≡ get_or items 0 p → news ≡ drop 1 items → rises (numbers_of items) ≡ true → listed ≡ open_ordinals (first_ordinal items) (free_in items)
      → (0 < p.available → listed' ≡ drop 1 listed) → (p.available ≡ 0 → listed' ≡ listed) → listed' ≡ open_ordinals (first_ordinal news) (free_in news)
  popped_open p [] news listed listed' some is rest h was popped stays = absurd (omega arith)
  popped_open p (x ∷ items) news listed listed' some is rest h was popped stays =
      rw rest (listed_behind x items listed listed' x.available refl h was (λ t. popped (let same = ap (λ (q : DescriptorPool P). q.available) is in omega arith)) (λ f. stays (ap (λ (q : DescriptorPool P). q.available) is ∙ f)))

  -- the numbers still rise, and the next one is no greater
  pub popped_numbers : (items news : List (DescriptorPool P)) → news ≡ drop 1 items → rises (numbers_of items) ≡ true → (number_after (numbers_of news) ≤ number_after (numbers_of items)) × (rises (numbers_of news) ≡ true)
  popped_numbers [] news rest h = rw rest (omega arith, h)
  popped_numbers (x ∷ []) news rest h = rw rest (omega arith, refl)
  popped_numbers (x ∷ y ∷ items) news rest h = rw rest (omega arith, (and_parts (list_all (nat_lt x.number) (numbers_of (y ∷ items))) (rises (numbers_of (y ∷ items))) h).1)

-- ---- some pools stay

module _ {P : Type 0} (stays : DescriptorPool P → Bool) where
  all_stored : (n : ℕ) (items : List (DescriptorPool P)) → list_all (nat_lt n) (numbers_of items) ≡ true → list_all (nat_lt n) (numbers_of (filter stays items)) ≡ true
  all_stored n [] h = refl
  all_stored n (p ∷ items) h = grind (arith, (all_stored n items))

  pub rises_stored : (items : List (DescriptorPool P)) → rises (numbers_of items) ≡ true → rises (numbers_of (filter stays items)) ≡ true
  rises_stored [] h = refl
  rises_stored (p ∷ items) h = grind (arith, all_stored, (rises_stored items))

  pub next_stored : (items : List (DescriptorPool P)) → rises (numbers_of items) ≡ true → number_after (numbers_of (filter stays items)) ≤ number_after (numbers_of items)
  next_stored [] h = omega arith
  next_stored (p ∷ items) h =
      let both = and_parts (list_all (nat_lt p.number) (numbers_of items)) (rises (numbers_of items)) h in
      let rest = next_stored items both.1 in
      let own = below_next (numbers_of (p ∷ items)) h 0 p.number refl in
      let later = longer p.number (numbers_of items) in
      elim (cases_Bool (stays p)) [
        | inl hit ↦ rw hit (elim (cases_next p.number (numbers_of (filter stays items))) [ inl one ↦ (omega arith) | inr more ↦ (omega arith) ])
        | inr miss ↦ rw miss (omega arith)
      ]
    where
      longer : (n : ℕ) (xs : List ℕ) → number_after xs ≤ number_after (n ∷ xs)
      longer n [] = omega arith
      longer n (x ∷ xs) = omega arith

      cases_next : (n : ℕ) (xs : List ℕ) → (number_after (n ∷ xs) ≡ n + 1) ⊎ (number_after (n ∷ xs) ≡ number_after xs)
      cases_next n [] = inl refl
      cases_next n (x ∷ xs) = inr refl
