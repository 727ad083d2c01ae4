-- The words that commands begin with.
use Rattle.std.specs.Prelude.{ℕ, List, [], ◌∷◌, Option, bytes_eq, codes}
use Rattle.std.specs.Map.{lookup}
use Rattle.descriptor_lines.specs.declared.words.keyword.Keyword.{Keyword}
use Rattle.descriptor_lines.specs.declared.words.keyword.Keyword.TheVariants.{Limit, Layout, Size, Script, Alloc, Free, Cleanup, Show}

-- the command that a word begins
abbrev pub keyword_of : List ℕ → Option Keyword
keyword_of word =
    lookup (bytes_eq word) ((codes "limit", Limit) ∷ (codes "layout", Layout) ∷ (codes "size", Size) ∷ (codes "script", Script) ∷ (codes "alloc", Alloc) ∷ (codes "free", Free) ∷ (codes "cleanup", Cleanup) ∷ (codes "show", Show) ∷ [])
