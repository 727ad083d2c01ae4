-- Texts of which all is written, or a part at the front.
use Rattle.std.proofs.Common.{◌≡◌, ℕ, List, [], ◌++◌, Option, sym, ap, ◌∙◌, append_assoc, append-nil, refl}
use Rattle.std.proofs.KnownBytes.{Appends-kept, Appends-nil, Appends-trans}
use Rattle.std.specs.Io.KnownBytes.{Appends, Keeps}
use Rattle.descriptor_lines.specs.Outcomes.{AppendsPrefix}

-- nothing was written
pub none_written : (old new : Option (List ℕ)) (text : List ℕ) → Keeps old new → AppendsPrefix old new text
none_written old new text keeps = record { prefix = []; unwritten = text; split = refl; grown = Appends-kept old old new [] (Appends-nil old) keeps }

-- all was
pub all_written : (old new : Option (List ℕ)) (text : List ℕ) → Appends old new text → AppendsPrefix old new text
all_written old new text all = record { prefix = text; unwritten = []; split = sym (append-nil text); grown = all }

-- a part of the first of two texts was
pub part_of_first : (old new : Option (List ℕ)) (a b : List ℕ) → AppendsPrefix old new a → AppendsPrefix old new (a ++ b)
part_of_first old new a b part = record { prefix = part.prefix; unwritten = part.unwritten ++ b; split = ap (λ l. l ++ b) part.split ∙ append_assoc part.prefix part.unwritten b; grown = part.grown }

-- the first was, and a part of the second
pub part_of_second : (old mid new : Option (List ℕ)) (a b : List ℕ) → Appends old mid a → AppendsPrefix mid new b → AppendsPrefix old new (a ++ b)
part_of_second old mid new a b all part = record { prefix = a ++ part.prefix; unwritten = part.unwritten; split = ap (λ l. a ++ l) part.split ∙ sym (append_assoc a part.prefix part.unwritten); grown = Appends-trans old mid new a part.prefix all part.grown }
