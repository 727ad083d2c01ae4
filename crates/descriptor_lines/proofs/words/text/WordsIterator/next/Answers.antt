use Rattle.std.proofs.lemmas.Grind.{common_steps}
use Rattle.std.proofs.Common.{◌≡◌, ◌∷◌, arith, rules}
use Rattle.std.proofs.lemmas.Bool.Decides.{nat_tests}
use Rattle.descriptor_lines.specs.Words.{words}
use Rattle.descriptor_lines.proofs.WordLemmas.{words_split}
use Rattle.descriptor_lines.proofs.words.text.WordsIterator.next.Goals as goal
use Rattle.descriptor_lines.proofs.words.text.WordsIterator.next.Goals.{Else-is_empty}

first_word : (c : Else-is_empty) → words c.args.self.now.rest.now ≡ c.split_at.result.0.now ∷ words c.split_at.result.1.now
first_word c = search (rules, nat_tests, words_split)

pub returns-else-is_empty-clause-steps : goal.returns-else-is_empty-clause-steps
returns-else-is_empty-clause-steps c = first_word c

pub returns-else-is_empty-clause-goes : goal.returns-else-is_empty-clause-goes
returns-else-is_empty-clause-goes c = grind (arith, common_steps, first_word)
