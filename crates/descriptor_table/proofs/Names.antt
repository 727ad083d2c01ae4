-- The handles of names: `n` says which each has, and `each` that a list's are those of its names.
use Rattle.std.specs.List.{slice_get}
use Rattle.std.specs.Prelude.{reverse}
use Rattle.std.proofs.lemmas.List.{reverse-append}
use Rattle.descriptor_table.proofs.Counting.{last_append}
use Rattle.descriptor_table.proofs.Common.{◌≡◌, ℕ, ◌<◌, List, [], ◌∷◌, None, Some, last_or, ◌++◌, length, get_or, set, map, sym, ap, ◌∙◌, get_or-map, length-map, map-append, map-set, place_at, SetHandle, Ghosts}

module _ {N T : Type 0} (n : Ghosts N T) (each : (names : List N) → n.handles_of names ≡ map n.handle_of names) where
  -- as many as there are names
  pub handles_long : (names : List N) → length (n.handles_of names) ≡ length names
  handles_long names = ap length (each names) ∙ length-map names n.handle_of

  -- the handle of a name that was read
  pub handle_read : (names : List N) (i : ℕ) (x : N) (h : SetHandle) → i < length names → x ≡ get_or names i x → h ≡ n.handle_of x → (d : SetHandle) → h ≡ get_or (n.handles_of names) i d
  handle_read names i x h lt read is d = is ∙ ap n.handle_of read ∙ sym (get_or-map n.handle_of names i x d lt) ∙ ap (λ l. get_or l i d) (sym (each names))

  pub place_read : (names : List N) (i : ℕ) (x : N) (h : SetHandle) → i < length names → x ≡ get_or names i x → h ≡ n.handle_of x → place_at (n.handles_of names) i ≡ h.place
  place_read names i x h lt read is = sym (ap (λ (h : SetHandle). h.place) (handle_read names i x h lt read is (record { manager = 0; place = 0; generation = 0 })))

  -- a name that was written
  pub handles_written : (names : List N) (i : ℕ) (x : N) (h : SetHandle) → n.handle_of x ≡ h → n.handles_of (set names i x) ≡ set (n.handles_of names) i h
  handles_written names i x h is = each (set names i x) ∙ map-set n.handle_of names i x ∙ (λ j. set (sym (each names) j) i (is j))

  -- the handles of two lists
  pub handles_both : (a b : List N) → n.handles_of (a ++ b) ≡ n.handles_of a ++ n.handles_of b
  handles_both a b = each (a ++ b) ∙ map-append n.handle_of a b ∙ (λ i. sym (each a) i ++ sym (each b) i)

  -- backwards the first name's set comes last
  pub names_last : (names : List N) (name : N) (h : SetHandle) → Some name ≡ slice_get names 0 → h ≡ n.handle_of name → last_or None (reverse (map (λ (h : SetHandle). h.place) (n.handles_of names))) ≡ Some h.place
  names_last [] name h is read = absurd (cc is)
  names_last (x ∷ names) name h is read =
      let rest = map (λ (h : SetHandle). h.place) (map n.handle_of names) in
      let first : n.handle_of x ≡ h = cc (is, read) in
      ap (λ l. last_or None (reverse (map (λ (h : SetHandle). h.place) l))) (each (x ∷ names)) ∙ ap (last_or None) (reverse-append ((n.handle_of x).place ∷ []) rest) ∙ last_append None (reverse rest) ((n.handle_of x).place ∷ []) ∙ ap (λ (h : SetHandle). Some h.place) first
