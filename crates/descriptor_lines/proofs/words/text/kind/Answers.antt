use Rattle.std.proofs.Common.{rules, bytes_eq}
use Rattle.std.proofs.lemmas.Iterator.{YieldsList-from_slice}
use Rattle.std.proofs.lemmas.Iterator.Search.{position_from_yields_List}
use Rattle.descriptor_lines.specs.Kinds.{place_of_kind}
use Rattle.descriptor_lines.proofs.words.text.kind.Goals as goal

pub returns-clause-place : goal.returns-clause-place
unfolding place_of_kind
returns-clause-place c = position_from_yields_List {all = _} (λ name. bytes_eq name.now c.args.word.now) _ _ _ c.position.ensures.ran (YieldsList-from_slice _ c.iter.ensures.rest) (λ x b q k. search rules)
