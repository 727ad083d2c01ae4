-- How a run of lines ends: for `run_lines_on` and `run_to_end`. `Stands` says how far a run over known bytes came, and `Takes` what came of
-- its next line.
use Rattle.std.proofs.lemmas.Grind.{common_steps}
use Rattle.std.proofs.Common.{◌≡◌, ℕ, ◌+◌, ◌-◌, ◌<◌, ◌⊎◌, inl, inr, List, [], ◌∷◌, ◌++◌, Option, Some, Result, Ok, Err, length, subst, refl, sym, ap, ◌∙◌, arith, ◌≤◌, IsTrue, IsFalse, IfErr, slice_range}
use Rattle.std.specs.Io.BufRead.{strip_last}
use Rattle.std.specs.Io.KnownBytes.{Appends}
use Rattle.std.proofs.lemmas.Bool.Decides.{nat_tests}
use Rattle.std.proofs.KnownBytes.{Appends-nil, Appends-trans}
use Rattle.descriptor_lines.specs.Words.{words}
use Rattle.descriptor_lines.specs.declared.words.fault.Fault.TheVariants.{LineTooLong}
use Rattle.descriptor_lines.specs.declared.words.fault.Refusal.{Refusal}
use Rattle.descriptor_lines.specs.declared.words.fault.Refusal.TheVariants as refusal
use Rattle.descriptor_lines.specs.LineBuffers.{unread}
use Rattle.descriptor_lines.specs.LineStates.{LineState}
use Rattle.descriptor_lines.specs.Lines.{after_end, before_end, lines_of, longest_line}
use Rattle.descriptor_lines.specs.Orders.{line_in}
use Rattle.descriptor_lines.specs.Outcomes.{AppendsPrefix, IsNoFault, said_of}
use Rattle.descriptor_lines.specs.Programs.{CanRun, DoesLine, IsReasonFor, Runs, RunsAs}
use Rattle.descriptor_lines.specs.Transcripts.{Ends, Says}
use Rattle.descriptor_lines.specs.declared.exit.Exit.{Exit}
use Rattle.descriptor_lines.specs.declared.exit.Exit.TheVariants.{BadLine, Done, ReadFault, WriteFault}
use Rattle.descriptor_lines.specs.declared.input.LineBuffer.{LineBuffer}
use Rattle.descriptor_lines.specs.declared.input.Span.{Span}
use Rattle.descriptor_lines.proofs.TranscriptLemmas.{lines_split, no_lines}

-- how far a run over bytes has come, where these are left: what is said of their lines comes after the text
pub record Stands (bytes : List ℕ) (start : LineState) (text : List ℕ) (number : ℕ) (left : Option (List ℕ)) (p : LineState) : Type 0 where
  pub rest : List ℕ
  pub known : left ≡ Some rest
  pub goes : (exit : Exit) (said : List ℕ) (last : LineState) → Says exit number (lines_of rest) said p last → Says exit 1 (lines_of bytes) (text ++ said) start last

-- what came of the first line of these bytes, of which then these are left
pub record Takes (bytes : List ℕ) (left : Option (List ℕ)) (outcome : Result Unit Refusal) (text : List ℕ) (old new : LineState) : Type 0 where
  pub some : 0 < length bytes
  pub ran : Runs outcome (before_end bytes) text old new
  pub gone : IsNoFault outcome → left ≡ Some (after_end bytes)

-- a line at its place in the buffer, run
pub takes_span :
    (bytes line : List ℕ) (buffer : LineBuffer) (span : Span) (left : Option (List ℕ))
    (outcome : Result Unit Refusal) (text : List ℕ) (old new : LineState)
    → (0 < length bytes) × (slice_range buffer.bytes.items span.start span.end ≡ before_end bytes) × (left ≡ Some (after_end bytes))
    → span.end - span.start ≤ longest_line → line ≡ strip_last 13 (slice_range buffer.bytes.items span.start span.end)
    → RunsAs (DoesLine (line_in old.layouts old.has_begun (words line))) outcome text old new
    → IfErr outcome (IsReasonFor (line_in old.layouts old.has_begun (words line)) (words line))
    → (outcome ≡ Err refusal.NoMemory → IsTrue new.has_begun) → Takes bytes left outcome text old new
takes_span bytes line buffer span left outcome text old new (some, first, gone) few is runs reason begun = grind (arith, common_steps, nat_tests)

-- a line that is too long
pub too_long : (bytes text : List ℕ) (left : Option (List ℕ)) (p : LineState) → longest_line < length (before_end bytes) → CanRun p → Takes bytes left (Err (refusal.Fault LineTooLong)) text p p
too_long bytes text left p long ready = grind (arith, common_steps, nat_tests)

-- what a run of all lines wrote
abbrev pub Wrote : Exit → List ℕ → LineState → Option (List ℕ) → Option (List ℕ) → LineState → Type 0
Wrote exit bytes start old new last =
    (said : List ℕ) × Appends old new said × Says exit 1 (lines_of bytes) said start last

ends_here : (exit : Exit) (number : ℕ) (lines : List (List ℕ)) (said : List ℕ) (p last : LineState) → Ends exit number lines said p last → Says exit number lines said p last
ends_here exit number [] said p last how = how
ends_here exit number (line ∷ lines) said p last how = inl how

-- a run ends at a line that it refuses
is_bad : (number : ℕ) (outcome : Result Unit Refusal) (line text : List ℕ) (lines : List (List ℕ)) (p last : LineState) → ¬ (IsNoFault outcome) → Runs outcome line text p last → Ends BadLine number (line ∷ lines) (said_of number outcome text) p last
is_bad number (Ok done) line text lines p last faulty ran = absurd (faulty tt)
is_bad number (Err refusal.NoMemory) line text lines p last faulty ran = absurd (faulty refl)
is_bad number (Err (refusal.Fault fault)) line text lines p last faulty ran =
    (fault, record { runs = record { done = tt; err = ran.runs.err; ready = ran.runs.ready; begun = ran.runs.begun }; reason = ran.reason; begun = ran.begun }, refl)

module _ (bytes : List ℕ) (start p : LineState) (answers : List ℕ) (number : ℕ) (left : Option (List ℕ)) (at : Stands bytes start answers number left p) where
  -- the run ends before these lines
  ends :
      (exit : Exit) (lines : List (List ℕ)) (said : List ℕ) (last : LineState) (old mid new : Option (List ℕ))
      → lines_of at.rest ≡ lines → Ends exit number lines said p last
      → Appends old mid answers → Appends mid new said → Wrote exit bytes start old new last
  ends exit lines said last old mid new is how before after =
      (answers ++ said, Appends-trans old mid new answers said before after, at.goes exit said last (subst (λ l. Says exit number l said p last) (sym is) (ends_here exit number lines said p last how)))

  -- a run at the end of its input is done, and one whose input can't be read ends where it came
  pub ends_done : (old new : Option (List ℕ)) → at.rest ≡ [] → Appends old new answers → Wrote Done bytes start old new p
  ends_done old new end grown =
      ends Done [] [] p old new new (ap lines_of end ∙ no_lines) refl grown (Appends-nil new)

  pub ends_unread : (old new : Option (List ℕ)) → Appends old new answers → Wrote ReadFault bytes start old new p
  ends_unread old new grown = ends ReadFault (lines_of at.rest) [] p old new new refl refl grown (Appends-nil new)

  -- ---- a line, and what came of it

  module _ (rest : Option (List ℕ)) (now : LineState) (text : List ℕ) (outcome : Result Unit Refusal) (takes : Takes at.rest rest outcome text p now) where
    abbrev line : List ℕ
    line = before_end at.rest

    abbrev others : List (List ℕ)
    others = lines_of (after_end at.rest)

    split : lines_of at.rest ≡ line ∷ others
    split = lines_split at.rest takes.some

    -- the run goes on after it, if it had no fault
    pub stands_on : IsNoFault outcome → Stands bytes start (answers ++ said_of number outcome text) (number + 1) rest now
    stands_on fine = grind (arith, common_steps, split)

    -- a faulty line was the last
    pub ends_at_fault : (old mid new : Option (List ℕ)) → ¬ (IsNoFault outcome) → Appends old mid answers → Appends mid new (said_of number outcome text) → Wrote BadLine bytes start old new now
    ends_at_fault old mid new faulty =
        ends BadLine (line ∷ others) (said_of number outcome text) now old mid new split (is_bad number outcome line text others p now faulty takes.ran)

    -- a write failed
    pub ends_unwritten : (old mid new : Option (List ℕ)) → Appends old mid answers → AppendsPrefix mid new (said_of number outcome text) → Wrote WriteFault bytes start old new now
    ends_unwritten old mid new before wrote =
        ends WriteFault (line ∷ others) wrote.prefix now old mid new split (outcome, text, takes.ran, wrote.unwritten, wrote.split) before wrote.grown

-- an answer ends a run early only at a fault or a failed write
pub ends_early :
    (exit : Exit) (bytes : List ℕ) (start last : LineState) (old new : Option (List ℕ))
    → (exit ≡ BadLine) ⊎ (exit ≡ WriteFault) → (exit ≡ BadLine → Wrote BadLine bytes start old new last)
    → (exit ≡ WriteFault → Wrote WriteFault bytes start old new last) → Wrote exit bytes start old new last
ends_early exit bytes start last old new (inl bad) faulty failed = rw bad (faulty bad)
ends_early exit bytes start last old new (inr broken) faulty failed = rw broken (failed broken)

-- ---- the start

-- a new buffer has read nothing
pub unread_first : (buffer : LineBuffer) (known : Option (List ℕ)) (bytes : List ℕ) → buffer.start ≡ buffer.end → IsFalse buffer.is_at_end → known ≡ Some bytes → unread buffer known ≡ Some bytes
unread_first buffer known bytes empty begun is = grind (arith, common_steps)
