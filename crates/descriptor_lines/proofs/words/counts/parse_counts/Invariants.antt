use Rattle.std.proofs.Common.{◌≡◌, false, replicate}
use Rattle.gpu_descriptor_types.specs.Counts.{kinds}
use Rattle.descriptor_lines.specs.Kinds.{with_count}
use Rattle.descriptor_lines.specs.Words.{in_turn, words_left}
use Rattle.descriptor_lines.proofs.words.counts.parse_counts.Given as goal

abbrev pub invariant-loop-word : goal.invariant-loop-word
invariant-loop-word l =
    in_turn with_count (replicate 14 false, replicate 14 0) (words_left l.fn.words) ≡ in_turn with_count (l.is_named, kinds l.counts) (words_left l.word-iterator)
