-- What a line does to what the lines before it made.
use Rattle.std.specs.Prelude.{◌≡◌, ◌⊎◌, ◌≤◌, ◌++◌, ◌∷◌, [], ℕ, List, IfErr, IsOkAnd, MatchOption, IsSome, OnErr, OnOk, Option, Result, Err, codes, length, map, nat_le, sum, true, IsTrue, IsFalse, if◌then◌else◌}
use Rattle.std.specs.Fmt.{decimal}
use Rattle.gpu_descriptor_types.specs.Bounds.{greatest_u32}
use Rattle.descriptor_script.specs.Scripted.Device.{empty_ledger}
use Rattle.descriptor_script.specs.Scripted.Raw.{script_meaning}
use Rattle.descriptor_script.specs.Sessions.Session.{IsReady, KeepsSession, new_session}
use Rattle.descriptor_script.specs.Sessions.Steps.{FreesTo, IsTurnedAway, StepsTo}
use Rattle.descriptor_script.specs.declared.command.Command.TheVariants as session
use Rattle.descriptor_script.specs.declared.command.Reply.{Reply}
use Rattle.descriptor_lines.specs.Answers.{size_answer}
use Rattle.gpu_descriptor_types.specs.PoolSize.{IsPoolSize, pool_counts}
use Rattle.descriptor_lines.specs.LayoutTables.{first_layouts, has_key, key_of, layouts_in}
use Rattle.descriptor_lines.specs.LineStates.{LineState}
use Rattle.descriptor_lines.specs.Orders.{BeginsList, Order, Limit, Layout as NewLayout, Size, Script, Alloc, Free, Cleanup, Show, line_in}
use Rattle.descriptor_lines.specs.Replies.{LineSession}
use Rattle.descriptor_lines.specs.ReplyTexts.{text_of_reply}
use Rattle.descriptor_lines.specs.Shown.{show_answer}
use Rattle.descriptor_lines.specs.Lines.{longest_line}
use Rattle.descriptor_lines.specs.Words.{words_in}
use Rattle.descriptor_lines.specs.declared.words.fault.Fault.{Fault}
use Rattle.descriptor_lines.specs.declared.words.fault.Fault.TheVariants.{LineTooLong}
use Rattle.descriptor_lines.specs.declared.words.fault.Refusal.{Refusal}
use Rattle.descriptor_lines.specs.declared.words.fault.Refusal.TheVariants as refusal
use Rattle.descriptor_lines.specs.declared.layouts.Layout.{Layout}
use Rattle.gpu_descriptor_types.specs.Side.{Side, side}

-- the program can run a line
pub record CanRun (p : LineState) : Type 0 where
  -- the session can make a step on the device
  pub ready : IsReady script_meaning p.session
  -- the session has the layouts of the lines, in their order
  pub layouts : map (λ k. k.layout) p.session.value.layouts ≡ map (λ l. record { counts = l.1.counts; mark = l.1.mark }) (layouts_in p.layouts)
  -- before the first command there is no layout
  pub fresh : IsFalse p.has_begun → length p.layouts.by_name.entries ≡ 0

-- the program can run a line, and the text that gets the answer is empty
pub record CanAnswer (text : List ℕ) (p : LineState) : Type 0 where
  pub ready : CanRun p
  pub empty : text ≡ []

-- no line was run yet
pub record IsFresh (p : LineState) : Type 0 where
  pub layouts : layouts_in p.layouts ≡ []
  pub begun : IsFalse p.has_begun
  pub session : p.session ≡ side (new_session greatest_u32) empty_ledger
  pub script : p.script ≡ []

-- layouts, books, sets, ledger and script are as before
pub record IsUnchanged (old new : LineState) : Type 0 where
  pub layouts : new.layouts.by_name.entries ≡ old.layouts.by_name.entries
  pub session : new.session ≡ old.session
  pub script : new.script ≡ old.script

-- a layout of a new name came last
pub record AddsLayout (name : List ℕ) (layout : Layout) (old new : LineState) : Type 0 where
  pub layouts : layouts_in new.layouts ≡ layouts_in old.layouts ++ (name, layout) ∷ []
  -- it is the first with its counts and mark, unless there was one before
  pub firsts : first_layouts new.layouts ≡ first_layouts old.layouts ++ (if has_key (layouts_in old.layouts) layout then [] else (name, layout) ∷ [])
  pub session : new.session ≡ side (record old.session.value { layouts = new.session.value.layouts }) old.session.ledger
  pub script : new.script ≡ old.script

-- the session of the program made a step, and the text is the answer to its reply
pub record Does (Step : Reply → Side LineSession → Side LineSession → Type 0) (text : List ℕ) (old new : LineState) : Type 0 where
  pub reply : Reply
  pub said : text ≡ text_of_reply new.session.value.sets reply
  pub step : Step reply old.session new.session
  -- no word is read if the device is not asked
  pub turned_away : IsTurnedAway reply → new.script ≡ old.script
  -- limit and layouts stay
  pub keeps : KeepsSession script_meaning old.session new.session
  pub layouts : new.layouts.by_name.entries ≡ old.layouts.by_name.entries

-- this was done, or an allocation failed and nothing changed; and the program can run on
pub record RunsAs {E : Type 0} (Done : List ℕ → LineState → LineState → Type 0) (result : Result Unit E) (text : List ℕ) (old new : LineState) : Type 0 where
  pub done : OnOk result (Done text old new)
  pub err : OnErr result (IsUnchanged old new)
  -- the session has the layouts of the lines, and its books agree with the device
  pub ready : CanRun new
  pub begun : IsTrue old.has_begun → IsTrue new.has_begun

-- what a command does, and its answer, if no allocation fails
abbrev pub DoesOrder : Order → List ℕ → LineState → LineState → Type 0
DoesOrder (Limit max) text old new =
    (new ≡ record old { session = side (new_session max) old.session.ledger }) × (text ≡ codes "limit " ++ decimal max ++ codes "\n")
DoesOrder (NewLayout name key) text old new =
    (layout : Layout) × (key_of layout ≡ key) × AddsLayout name layout old new × (text ≡ codes "layout " ++ name ++ codes " total " ++ decimal (sum key.counts) ++ codes "\n")
DoesOrder (Size counts total wanted) text old new =
    (new ≡ old) × (sets : ℕ) × IsPoolSize counts total wanted sets × (text ≡ size_answer sets (pool_counts counts sets))
DoesOrder (Script script) text old new =
    (new ≡ record old { script = script }) × (text ≡ codes "script " ++ decimal (length script) ++ codes "\n")
DoesOrder (Alloc place count) text old new =
    Does (StepsTo script_meaning (session.Allocate place count)) text old new
DoesOrder (Free tickets) text old new =
    Does (λ reply before after. FreesTo script_meaning tickets before after reply) text old new
DoesOrder Cleanup text old new = Does (StepsTo script_meaning session.Cleanup) text old new
DoesOrder Show text old new = (new ≡ old) × (text ≡ show_answer old)

-- what a line asks for, if it isn't silent, or its fault. Its words are those before the carriage return that it may end in
abbrev pub asked_in : LineState → List ℕ → Result (Option Order) Fault
asked_in p line =
    if nat_le (length line) longest_line then line_in p.layouts p.has_begun (words_in line) else Err LineTooLong

-- what a line that asks for this does, and its answer, if no allocation fails: nothing if it is silent, else its command, and from then on one has come
abbrev pub DoesLine : Result (Option Order) Fault → List ℕ → LineState → LineState → Type 0
DoesLine asked text old new =
    IsOkAnd asked (λ asked. MatchOption asked ((text ≡ []) × (new ≡ old)) (λ order. DoesOrder order text (record old { has_begun = true }) new × IsTrue new.has_begun))

-- why a line of these words is not run: it is faulty; or an allocation failed, to run its command or to read its words
abbrev pub IsReasonFor : Result (Option Order) Fault → List (List ℕ) → Refusal → Type 0
IsReasonFor asked words (refusal.Fault fault) = asked ≡ Err fault
IsReasonFor asked words refusal.NoMemory = IsOkAnd asked IsSome ⊎ BeginsList words

-- a line was run, with this outcome, and made this text; or for this reason it was not run
pub record Runs (outcome : Result Unit Refusal) (line text : List ℕ) (old new : LineState) : Type 0 where
  pub runs : RunsAs (DoesLine (asked_in old line)) outcome text old new
  pub reason : IfErr outcome (IsReasonFor (asked_in old line) (words_in line))
  -- a command has come if an allocation failed, and not in a line that is too long
  pub begun : outcome ≡ Err refusal.NoMemory → IsTrue new.has_begun × (length line ≤ longest_line)
