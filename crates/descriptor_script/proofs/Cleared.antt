-- Marks of slots: one more that is not set, for `Slots::push`.
use Rattle.std.proofs.Common.{zero, suc, Bool, false, List, [], ◌∷◌, ◌++◌, refl}
use Rattle.descriptor_script.specs.Inner.Marks.{AreClear}

-- one more that isn't set
pub clear_more : (marks : List Bool) → AreClear marks → AreClear (marks ++ false ∷ [])
clear_more [] clear zero = refl
clear_more [] clear (suc n) = refl
clear_more (b ∷ marks) clear zero = clear zero
clear_more (b ∷ marks) clear (suc n) = clear_more marks (λ m. clear (suc m)) n
