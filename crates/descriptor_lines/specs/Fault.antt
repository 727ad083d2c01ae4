-- What the output says of each fault, and how a fault ends the reading of words.
use Rattle.std.specs.Prelude.{◌≡◌, ℕ, List, Result, Ok, Err, codes}
use Rattle.descriptor_lines.specs.declared.words.fault.Fault.{Fault}
use Rattle.descriptor_lines.specs.declared.words.fault.Fault.TheVariants.{LineTooLong, UnknownCommand, LimitNotFirst, BadWordCount, BadName, NameIsTaken, NoSuchLayout, BadMark, BadKind, KindTwice, BadNumber, BadAnswerWord, TooManyTickets, TooManyLayouts}
use Rattle.descriptor_lines.specs.declared.words.fault.Refusal.{Refusal}
use Rattle.descriptor_lines.specs.declared.words.fault.Refusal.TheVariants as refusal

-- what the output says of a fault
abbrev pub words_of_fault : Fault → List ℕ
words_of_fault LineTooLong = codes "line too long"
words_of_fault UnknownCommand = codes "unknown command"
words_of_fault LimitNotFirst = codes "limit must come first"
words_of_fault BadWordCount = codes "bad word count"
words_of_fault BadName = codes "bad name"
words_of_fault NameIsTaken = codes "name is taken"
words_of_fault NoSuchLayout = codes "no such layout"
words_of_fault BadMark = codes "bad mark"
words_of_fault BadKind = codes "bad kind"
words_of_fault KindTwice = codes "kind twice"
words_of_fault BadNumber = codes "bad number"
words_of_fault BadAnswerWord = codes "bad answer word"
words_of_fault TooManyTickets = codes "too many tickets"
words_of_fault TooManyLayouts = codes "too many layouts"

-- what comes next, if nothing is wrong so far: so the first fault counts
infixl 10 ◌>>=◌
abbrev pub ◌>>=◌ : {A B : Type 0} → Result A Fault → (A → Result B Fault) → Result B Fault
Ok x >>= next = next x
Err fault >>= next = Err fault

-- what was read, as the definitions see it, is this value or this fault, if no allocation failed
abbrev pub Reads : {A B : Type 0} → (A → B) → Result A Refusal → Result B Fault → Type 0
Reads view (Ok x) given = given ≡ Ok (view x)
Reads view (Err (refusal.Fault fault)) given = given ≡ Err fault
Reads view (Err refusal.NoMemory) given = Unit {0}
