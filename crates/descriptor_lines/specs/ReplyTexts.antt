-- What the program answers to a reply of its session.
use Rattle.std.specs.Prelude.{ℕ, suc, ◌+◌, ◌*◌, ◌==◌, if◌then◌else◌, List, [], ◌∷◌, ◌++◌, map, codes, Option, ◌-◌}
use Rattle.std.specs.Fmt.{decimal}
use Rattle.std.specs.List.{flat_map, range_with_len}
use Rattle.gpu_descriptor.specs.Caller.Errors.{error_text}
use Rattle.gpu_descriptor.specs.declared.set.DescriptorSet.{DescriptorSet}
use Rattle.descriptor_script.specs.declared.command.Command.{Command}
use Rattle.descriptor_script.specs.declared.command.Command.TheVariants.{Allocate}
use Rattle.descriptor_script.specs.declared.command.Reply.{Reply}
use Rattle.descriptor_script.specs.declared.command.Reply.TheVariants.{Sets, Refused, Freed, BadTicket, BadLayout, NoMemory, Clean}
use Rattle.descriptor_script.specs.declared.raw.RawSet.{RawSet}
use Rattle.descriptor_lines.specs.Answers.{no_memory}
use Rattle.descriptor_lines.specs.Replies.{pool_at}

-- the runs with this pool before them: the first run is longer if it is of this pool, and else the pool begins one
abbrev pub run_before : ℕ → List (ℕ × ℕ) → List (ℕ × ℕ)
run_before pool [] = (pool, 1) ∷ []
run_before pool ((next, count) ∷ runs) =
    if next == pool then (pool, suc count) ∷ runs else (pool, 1) ∷ (next, count) ∷ runs

-- the longest runs of one pool, each with the pool and its length
unfoldable pub stretches : List ℕ → List (ℕ × ℕ)
stretches [] = []
stretches (pool ∷ pools) = run_before pool (stretches pools)

-- the text of a run
abbrev pub stretch_text : ℕ × ℕ → List ℕ
stretch_text (pool, length) = codes " " ++ decimal pool ++ (codes "*" ++ decimal length)

-- the text of all runs
unfoldable pub stretches_text : List ℕ → List ℕ
stretches_text pools = flat_map stretch_text (stretches pools)

-- the tickets from the first to the last
abbrev pub range_text : ℕ → ℕ → List ℕ
range_text first last = codes "sets " ++ decimal first ++ (codes "-" ++ decimal last) ++ codes ":"

module _ (slots : List (Option (DescriptorSet RawSet))) where
  -- the device pools of the tickets from the first up
  abbrev pub pools_from : ℕ → ℕ → List ℕ
  pools_from first count = map (pool_at slots) (range_with_len first count)

  -- the answer to a request for this many sets, which have the tickets from the first up
  abbrev pub sets_text : ℕ → ℕ → List ℕ
  sets_text first count =
      if count == 0 then codes "sets none\n" else range_text first (first + count - 1) ++ stretches_text (pools_from first count) ++ codes "\n"

  -- the answer to a reply, if these are the sets afterwards. A layout that isn't there has none
  abbrev pub text_of_reply : Reply → List ℕ
  text_of_reply (Sets first count) = sets_text first count
  text_of_reply (Refused error) = codes "refused: " ++ error_text error ++ codes "\n"
  text_of_reply (Freed count) = codes "freed " ++ decimal count ++ codes "\n"
  text_of_reply BadTicket = codes "bad ticket\n"
  text_of_reply BadLayout = []
  text_of_reply NoMemory = no_memory
  text_of_reply Clean = codes "clean\n"

-- how many sets a command asks for
abbrev pub sets_asked : Command → ℕ
sets_asked (Allocate layout count) = count
sets_asked _ = 0

-- how many sets a reply has
abbrev pub sets_given : Reply → ℕ
sets_given (Sets first count) = count
sets_given _ = 0

-- the max of the bytes of an answer with this many sets: a run of one set has at most 23
abbrev pub max_bytes : ℕ → ℕ
max_bytes sets = 64 + 23 * sets
