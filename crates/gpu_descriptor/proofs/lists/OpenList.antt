-- The ordinals of the open pools, as the code keeps them: numbers is the list of a bucket, items are its pools.
use Rattle.gpu_descriptor.proofs.Common.{◌≡◌, ℕ, ◌+◌, ◌<◌, ◌≤◌, ◌++◌, ◌∷◌, [], List, length, insert, arith, ap, sym, ◌∙◌, slice_set, inl, inr, cases_lt, Some, slice_get, length-map, map-append, map-set, slice_get-map, option_map, IsPartitionPoint, DescriptorPool, common_steps, free_in}
use Rattle.gpu_descriptor.proofs.Common.{open_ordinals, IsEntered}
use Rattle.gpu_descriptor.proofs.lists.OpenOrdinals.{IsNewestOpen, open_few, open_few_at, open_push_none, open_push_some, open_set_open, open_gains, open_closes}

module _ {P : Type 0} (first : ℕ) (items : List (DescriptorPool P)) (numbers : List ℕ) (listed : numbers ≡ open_ordinals first (free_in items)) where
  pub few_listed : length numbers ≤ length items
  few_listed = (let few = open_few first (free_in items) in let long = length-map items (λ p. p.available) in let is = ap length listed in omega arith)

  pushed : (p : DescriptorPool P) → free_in (items ++ p ∷ []) ≡ free_in items ++ p.available ∷ []
  pushed p = map-append (λ p. p.available) items (p ∷ [])

  -- a new pool is listed if it has known free places
  listed_push_open : (p : DescriptorPool P) → 0 < p.available → numbers ++ (first + length items) ∷ [] ≡ open_ordinals first (free_in (items ++ p ∷ []))
  listed_push_open p some = grind (arith, common_steps, open_push_some)

  listed_push_closed : (p : DescriptorPool P) → p.available ≤ 0 → numbers ≡ open_ordinals first (free_in (items ++ p ∷ []))
  listed_push_closed p none =
      listed ∙ sym (ap (open_ordinals first) (pushed p ∙ ap (λ n. free_in items ++ n ∷ []) (let e : p.available ≡ 0 = omega arith in e)) ∙ open_push_none first (free_in items))

  pub listed_push : (p : DescriptorPool P) (numbers' : List ℕ) → (0 < p.available → numbers' ≡ numbers ++ (first + length items) ∷ []) → (p.available ≡ 0 → numbers' ≡ numbers) → numbers' ≡ open_ordinals first (free_in (items ++ p ∷ []))
  listed_push p numbers' comes stays = elim (cases_lt 0 p.available) [ inl some ↦ comes some ∙ listed_push_open p some | inr none ↦ stays (omega arith) ∙ listed_push_closed p none ]

  module _ (place : ℕ) (old new : DescriptorPool P) (at : slice_get items place ≡ Some old) where
    free_at : slice_get (free_in items) place ≡ Some old.available
    free_at = slice_get-map (λ p. p.available) items place ∙ ap (option_map (λ p. p.available)) at

    free_set : free_in (slice_set items place new) ≡ slice_set (free_in items) place new.available
    free_set = map-set (λ p. p.available) items place new

    -- a pool with known free places still has some
    pub listed_stays : 0 < old.available → 0 < new.available → numbers ≡ open_ordinals first (free_in (slice_set items place new))
    listed_stays was is = listed ∙ sym (ap (open_ordinals first) free_set ∙ open_set_open first (free_in items) place old.available new.available free_at was is)

    pub listed_gains : (at_place : ℕ) → old.available ≡ 0 → 0 < new.available → at_place ≤ length numbers → IsPartitionPoint (λ x. x < first + place) (λ x. first + place ≤ x) numbers at_place
        → insert numbers at_place (first + place) ≡ open_ordinals first (free_in (slice_set items place new))
    listed_gains at_place none some within point = grind (arith, free_at, free_set, open_gains)

    -- so it goes after a release, whether it was full or not
    pub listed_again : (number : ℕ) → number ≡ first + place → 0 < new.available → (numbers' : List ℕ) → (old.available ≡ 0 → IsEntered number numbers numbers') → (0 < old.available → numbers' ≡ numbers)
        → numbers' ≡ open_ordinals first (free_in (slice_set items place new))
    listed_again number is some numbers' enters stays = grind (arith, listed_gains, listed_stays)

    -- where a pool isn't listed there are fewer numbers than pools
    pub fewer_listed : old.available ≡ 0 → length numbers < length items
    fewer_listed none = grind (arith, free_at, length-map, open_few_at)

  -- the newest open pool has none left
  listed_closes : (front : List ℕ) (number : ℕ) (o : IsNewestOpen first (free_in items) front number) (new : DescriptorPool P) → new.available ≡ 0 → front ≡ open_ordinals first (free_in (slice_set items o.place new))
  listed_closes front number o new none =
      sym (ap (open_ordinals first) (map-set (λ p. p.available) items o.place new ∙ ap (slice_set (free_in items) o.place) none) ∙ open_closes first (free_in items) front number o)

  -- or is asked
  pub listed_asked : (front : List ℕ) (number : ℕ) (o : IsNewestOpen first (free_in items) front number) (old new : DescriptorPool P) → slice_get items o.place ≡ Some old → (numbers' : List ℕ) → (new.available ≡ 0 → numbers' ≡ front) → (0 < new.available → numbers' ≡ numbers) → numbers' ≡ open_ordinals first (free_in (slice_set items o.place new))
  listed_asked front number o old new at numbers' closed stays = elim (cases_lt 0 new.available) [
    | inl some ↦ stays some ∙ listed_stays o.place old new at (let same = slice_get-map (λ p. p.available) items o.place ∙ ap (option_map (λ p. p.available)) at in grind (arith, common_steps, o)) some
    | inr none ↦ closed (omega arith) ∙ listed_closes front number o new (omega arith)
  ]
