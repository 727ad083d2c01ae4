use Rattle.std.proofs.Common.{◌≡◌, take}
use Rattle.descriptor_lines.specs.Numbers.{value_of}
use Rattle.descriptor_lines.proofs.words.text.number_within.Given as goal

abbrev pub invariant-loop-byte : goal.invariant-loop-byte
invariant-loop-byte l =
    l.value ≡ value_of (take l.byte-index l.word)
