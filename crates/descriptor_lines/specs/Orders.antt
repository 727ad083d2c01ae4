-- What a line asks for, and what is wrong with it otherwise.
use Rattle.std.specs.Prelude.{◌≡◌, ◌⊎◌, ℕ, Bool, true, false, List, [], ◌∷◌, Option, None, Some, Result, Ok, Err, bytes_eq, codes, is_some, nat_lt, ok_or, if◌then◌else◌, length}
use Rattle.std.specs.Map.{lookup}
use Rattle.gpu_descriptor.specs.Model.Books.{Key}
use Rattle.gpu_descriptor_types.specs.Bounds.{greatest_u32, greatest_u64}
use Rattle.gpu_descriptor_types.specs.Counts.{kinds}
use Rattle.descriptor_script.specs.declared.answer.Answer.{Answer}
use Rattle.descriptor_lines.specs.Commands.{max_sets}
use Rattle.descriptor_lines.specs.LayoutTables.{key_of, layout_named, max_layouts, place_named}
use Rattle.descriptor_lines.specs.ScriptWords.{script_in}
use Rattle.descriptor_lines.specs.declared.command.Command.{Command}
use Rattle.descriptor_lines.specs.declared.command.Command.TheVariants as command
use Rattle.descriptor_lines.specs.declared.layouts.LayoutTable.{LayoutTable}
use Rattle.descriptor_lines.specs.Fault.{◌>>=◌}
use Rattle.descriptor_lines.specs.Keywords.{keyword_of}
use Rattle.descriptor_lines.specs.Kinds.{counts_in}
use Rattle.descriptor_lines.specs.Names.{name_in}
use Rattle.descriptor_lines.specs.Numbers.{number_in}
use Rattle.descriptor_lines.specs.Tickets.{tickets_in}
use Rattle.descriptor_lines.specs.Words.{is_silent}
use Rattle.descriptor_lines.specs.declared.words.keyword.Keyword.{Keyword}
use Rattle.descriptor_lines.specs.declared.words.keyword.Keyword.TheVariants as keyword
use Rattle.descriptor_lines.specs.declared.words.fault.Fault.{Fault}
use Rattle.descriptor_lines.specs.declared.words.fault.Fault.TheVariants.{UnknownCommand, LimitNotFirst, BadWordCount, NameIsTaken, NoSuchLayout, BadMark, TooManyLayouts}

-- what a command says
pub data Order : Type 0 where
  Limit : (max : ℕ) → Order
  Layout : (name : List ℕ) (key : Key) → Order
  Size : (counts : List ℕ) (total wanted : ℕ) → Order
  Script : (script : List Answer) → Order
  Alloc : (place count : ℕ) → Order
  Free : (tickets : List ℕ) → Order
  Cleanup : Order
  Show : Order

-- what a command of the code says
abbrev pub order_of : Command → Order
order_of (command.Limit max) = Limit max
order_of (command.Layout name layout) = Layout name.now (key_of layout)
order_of (command.Size counts total wanted) = Size (kinds counts) total wanted
order_of (command.Script script) = Script script.items
order_of (command.Alloc place count) = Alloc place count
order_of (command.Free tickets) = Free tickets.items
order_of command.Cleanup = Cleanup
order_of command.Show = Show

-- the mark that a word gives
abbrev pub mark_in : List ℕ → Result Bool Fault
mark_in word = ok_or (lookup (bytes_eq word) ((codes "plain", false) ∷ (codes "mark", true) ∷ [])) BadMark

-- a limit comes too late if a line had a command
abbrev pub timely : Keyword → Bool → Result Keyword Fault
timely keyword.Limit true = Err LimitNotFirst
timely keyword has_begun = Ok keyword

module _ (layouts : LayoutTable) where
  -- the words after that of a command
  abbrev pub order_in : Keyword → List (List ℕ) → Result Order Fault
  order_in keyword.Limit (max ∷ []) = do
    max ← number_in greatest_u32 max
    Ok (Limit max)
  order_in keyword.Layout (name ∷ mark ∷ words) = do
    name ← name_in name
    new ← if is_some (layout_named layouts name) then Err NameIsTaken else Ok name
    mark ← mark_in mark
    counts ← counts_in words
    if nat_lt (length layouts.by_name.entries) max_layouts then Ok (Layout name (record { counts = counts; marked = mark })) else Err TooManyLayouts
  order_in keyword.Size (name ∷ total ∷ wanted ∷ []) = do
    name ← name_in name
    layout ← ok_or (layout_named layouts name) NoSuchLayout
    total ← number_in greatest_u64 total
    wanted ← number_in greatest_u32 wanted
    Ok (Size (kinds layout.counts) total wanted)
  order_in keyword.Script words = do
    script ← script_in words
    Ok (Script script)
  order_in keyword.Alloc (name ∷ count ∷ []) = do
    name ← name_in name
    place ← ok_or (place_named layouts name) NoSuchLayout
    count ← number_in max_sets count
    Ok (Alloc place count)
  order_in keyword.Free words = do
    tickets ← tickets_in words
    Ok (Free tickets)
  order_in keyword.Cleanup [] = Ok Cleanup
  order_in keyword.Show [] = Ok Show
  order_in _ words = Err BadWordCount

  -- what a line of these words asks for, if it isn't silent
  abbrev pub line_in : Bool → List (List ℕ) → Result (Option Order) Fault
  line_in has_begun [] = Ok None
  line_in has_begun (word ∷ words) =
      if is_silent (word ∷ words) then Ok None else do
        keyword ← ok_or (keyword_of word) UnknownCommand
        keyword ← timely keyword has_begun
        order ← order_in keyword words
        Ok (Some order)

-- the words begin with a command that reads a list of words, which may be so long that an allocation to read it fails
abbrev pub BeginsList : List (List ℕ) → Type 0
BeginsList [] = ⊥
BeginsList (word ∷ words) = (keyword_of word ≡ Some keyword.Script) ⊎ (keyword_of word ≡ Some keyword.Free)
