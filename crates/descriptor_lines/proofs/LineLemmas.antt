-- The lines that bytes begin with: for `LineBuffer::next_line`, `read_more` and `take_line`, which search a buffer for the end of a line.
-- `bytes` are those of the buffer: from `start` on they are in no line yet, up to `searched` no line ends among them, and up to `end` they
-- were read. Byte 10 ends a line. `known` are the bytes that the reader has left, if that is known.
use Rattle.std.proofs.lemmas.Grind.{common_steps}
use Rattle.std.proofs.Common.{◌≡◌, ℕ, ◌+◌, ◌-◌, ◌<◌, ◌≤◌, append_assoc, append-nil, length-take, List, [], ◌++◌, Option, None, Some, IfSome, IfNone, Bool, true, false, IsTrue, if◌then◌else◌, not, unwrap_or, position, length, length-take-le, take, drop, slice_range, length-append}
use Rattle.std.proofs.Common.{refl, sym, ap, ◌∙◌, arith}
use Rattle.std.specs.List.{position_or_len}
use Rattle.std.specs.Io.KnownBytes.{Keeps, IsAtEnd, Consumes, prepend_known}
use Rattle.std.proofs.Math.Seq.{take-add}
use Rattle.std.proofs.lemmas.Bool.Decides.{nat_tests}
use Rattle.std.proofs.lemmas.List.{drop-drop, drop-take, take-take, take_all, drop_all, take-append-le, drop-append-le, drop_at}
use Rattle.std.proofs.lemmas.Slice.{between_is}
use Rattle.std.proofs.lemmas.List.Edits.{length-between}
use Rattle.std.proofs.lemmas.List.Folds.{prefix_len-append}
use Rattle.std.proofs.lemmas.List.Sums.{prefix_len-le-length}
use Rattle.descriptor_lines.specs.Lines.{HasEnd, HasNoEnd, before_end, after_end, longest_line}
use Rattle.descriptor_lines.specs.LineBuffers.{TakesLine, buffered, unread}
use Rattle.descriptor_lines.specs.Words.{is_byte}
use Rattle.descriptor_lines.specs.declared.input.LineBuffer.{LineBuffer}
use Rattle.descriptor_lines.specs.declared.input.Span.{Span}

-- ---- parts of a list

-- two parts that meet
pub parts_joined : (bytes : List ℕ) (a b c : ℕ) → a ≤ b → b ≤ c → slice_range bytes a c ≡ slice_range bytes a b ++ slice_range bytes b c
parts_joined bytes a b c ab bc =
    let whole : c - a ≡ b - a + (c - b) = omega arith in
    let at : a + (b - a) ≡ b = omega arith in
    ap (λ k. take k (drop a bytes)) whole ∙ take-add (b - a) (c - b) (drop a bytes) ∙ ap (λ l. slice_range bytes a b ++ take (c - b) l) (drop-drop (b - a) a bytes ∙ ap (λ k. drop k bytes) at)

-- the rest of a part
pub part_rest : (bytes : List ℕ) (a b n : ℕ) → a + n ≤ b → drop n (slice_range bytes a b) ≡ slice_range bytes (a + n) b
part_rest bytes a b n fits =
    let m : ℕ = b - (a + n) in
    let whole : b - a ≡ n + m = omega arith in
    ap (λ k. drop n (take k (drop a bytes))) whole ∙ drop-take n m (drop a bytes) ∙ ap (take m) (drop-drop n a bytes)

-- a part of the front
pub front_part : (bytes back : List ℕ) (a b end : ℕ) → b ≤ end → end ≤ length bytes → slice_range (take end bytes ++ back) a b ≡ slice_range bytes a b
front_part bytes back a b end to fits = grind (arith, common_steps, between_is, take-append-le, take-take)

-- a part that goes on behind the front
pub part_behind : (bytes got more : List ℕ) (a end n : ℕ) → a ≤ end → end ≤ length bytes → n ≤ length got → slice_range (take end bytes ++ (got ++ more)) a (end + n) ≡ slice_range bytes a end ++ take n got
part_behind bytes got more a end n from fits few =
    let size : length (take end bytes) ≡ end = length-take-le end bytes fits in
    let split : slice_range (take end bytes ++ (got ++ more)) a (end + n) ≡ slice_range (take end bytes ++ (got ++ more)) a end ++ slice_range (take end bytes ++ (got ++ more)) end (end + n) = parts_joined (take end bytes ++ (got ++ more)) a end (end + n) from (omega arith) in
    let count : end + n - end ≡ n = omega arith in
    let behind : drop end (take end bytes ++ (got ++ more)) ≡ got ++ more = drop_at (take end bytes) (got ++ more) end size in
    split
    ∙ ap (λ l. l ++ slice_range (take end bytes ++ (got ++ more)) end (end + n))
    (front_part bytes (got ++ more) a end end (omega arith) fits)
    ∙ ap (λ l. slice_range bytes a end ++ l)
    (ap (λ k. take k (drop end (take end bytes ++ (got ++ more)))) count ∙ ap (take n) behind
    ∙ take-append-le n got more few)

-- ---- the first end of a line

-- where no line ends in the front, the first end is behind it
pub end_behind : (front rest : List ℕ) → HasNoEnd front → position_or_len (is_byte 10) (front ++ rest) ≡ length front + position_or_len (is_byte 10) rest
end_behind front rest none = grind (arith, nat_tests, prefix_len-append (λ x. not (is_byte 10 x)) front rest)

-- where a line ends in the front, that is the first end
pub end_in_front : (front rest : List ℕ) → HasEnd front → position_or_len (is_byte 10) (front ++ rest) ≡ position_or_len (is_byte 10) front
end_in_front front rest some = grind (arith, nat_tests, prefix_len-append (λ x. not (is_byte 10 x)) front rest)

-- what a search of the bytes from `searched` on finds
pub first_end : (bytes : List ℕ) (start searched end : ℕ) → start ≤ searched → searched ≤ end → end ≤ length bytes → HasNoEnd (slice_range bytes start searched)
    → let rest = slice_range bytes searched end in searched - start + unwrap_or (position (is_byte 10) rest) (length rest) ≡ position_or_len (is_byte 10) (slice_range bytes start end)
first_end bytes start searched end from to fits none =
    let rest : List ℕ = slice_range bytes searched end in
    let size : length (slice_range bytes start searched) ≡ searched - start = length-between bytes start searched (omega arith) in
    let at_most : position_or_len (is_byte 10) rest ≤ length rest = prefix_len-le-length _ rest in
    let found : unwrap_or (position (is_byte 10) rest) (length rest) ≡ position_or_len (is_byte 10) rest = grind (arith, nat_tests) in
    ap (λ n. searched - start + n) found ∙ ap (λ n. n + position_or_len (is_byte 10) rest) (sym size) ∙ sym (end_behind (slice_range bytes start searched) rest none) ∙ ap (position_or_len (is_byte 10)) (sym (parts_joined bytes start searched end from to))

-- ---- the first line of bytes, of which more may come

-- a line that ended stays if more bytes come; if none ended, all bytes are the line so far
pub before_end-append : (front rest : List ℕ) → HasEnd front → before_end (front ++ rest) ≡ before_end front
before_end-append front rest some = ap (λ k. take k (front ++ rest)) (end_in_front front rest some) ∙ take-append-le (position_or_len (is_byte 10) front) front rest (omega arith)

pub after_end-append : (front rest : List ℕ) → HasEnd front → after_end (front ++ rest) ≡ after_end front ++ rest
after_end-append front rest some = ap (λ k. drop (k + 1) (front ++ rest)) (end_in_front front rest some) ∙ drop-append-le (position_or_len (is_byte 10) front + 1) front rest (omega arith)

pub before_end-whole : (bytes : List ℕ) → HasNoEnd bytes → before_end bytes ≡ bytes
before_end-whole bytes none = ap (λ k. take k bytes) none ∙ take_all (length bytes) bytes (omega arith)

pub after_end-whole : (bytes : List ℕ) → HasNoEnd bytes → after_end bytes ≡ []
after_end-whole bytes none = ap (λ k. drop (k + 1) bytes) none ∙ drop_all (length bytes + 1) bytes (omega arith)

-- with more bytes the first line is no shorter
before_end-grows : (front rest : List ℕ) → length (before_end front) ≤ length (before_end (front ++ rest))
before_end-grows front rest = grind (arith, nat_tests, prefix_len-append (λ x. not (is_byte 10 x)) front rest, length-take (position_or_len (is_byte 10) front) front, length-take (position_or_len (is_byte 10) (front ++ rest)) (front ++ rest), length-append front rest)

-- ---- known bytes

pub Keeps-Some : (a b : Option (List ℕ)) (bytes : List ℕ) → Keeps a b → a ≡ Some bytes → b ≡ Some bytes
Keeps-Some None b bytes same is = absurd (cc)
Keeps-Some (Some x) None bytes same is = absurd same
Keeps-Some (Some x) (Some y) bytes same is = cc

-- known bytes are those at hand and then those that are left
behind : (known : Option (List ℕ)) (bytes all : List ℕ) → prepend_known bytes known ≡ Some all → (more : List ℕ) × (known ≡ Some more) × (all ≡ bytes ++ more)
behind None bytes all is = absurd (cc)
behind (Some more) bytes all is = (more, refl, (let e : bytes ++ more ≡ all = cc in sym e))

-- the line that ends among the bytes at hand is the first of all
pub takes_ended :
    (known : Option (List ℕ)) (bytes all line rest : List ℕ)
    → prepend_known bytes known ≡ Some all → HasEnd bytes → line ≡ before_end bytes → rest ≡ after_end bytes
    → (0 < length all) × (line ≡ before_end all) × (prepend_known rest known ≡ Some (after_end all))
takes_ended known bytes all line rest is some first after = grind (arith, common_steps, after_end-append, before_end-append)

-- bytes at hand in which no line ends are the last line at the end of the reader, if there are some
pub takes_last :
    (known : Option (List ℕ)) (all : List ℕ) (line : Option Span) (old new : LineBuffer)
    → IsTrue old.is_at_end → new.is_at_end ≡ old.is_at_end → unread old known ≡ Some all → HasNoEnd (buffered old)
    → IfSome line (λ _. 0 < length (buffered old)) → IfSome line (λ span. slice_range new.bytes.items span.start span.end ≡ buffered old)
    → IfNone line (buffered old ≡ []) → buffered new ≡ [] → TakesLine all line new (unread new known)
takes_last known all None old new ended stays is no_end some first none empty = grind (arith, common_steps, append-nil)
takes_last known all (Some span) old new ended stays is no_end some first none empty = grind (arith, common_steps, append-nil, before_end-whole, after_end-whole)

-- a line that is too long begins all
pub begins_too_long : (known : Option (List ℕ)) (bytes all : List ℕ) → prepend_known bytes known ≡ Some all → longest_line < length (before_end bytes) → longest_line < length (before_end all)
begins_too_long known bytes all is long = grind (arith, common_steps, before_end-grows)

-- a read put its bytes behind those at hand, and one that failed nothing
pub read_kept : (old new : Option (List ℕ)) (ended : Bool) (bytes front got all : List ℕ) → front ≡ bytes → all ≡ front ++ got → Consumes old new got → (IsTrue ended → IsAtEnd new)
    → Keeps (prepend_known bytes old) (prepend_known all (if ended then Some [] else new))
read_kept None new ended bytes front got all same is took sees = tt
read_kept (Some xs) None ended bytes front got all same is took sees = absurd took
read_kept (Some xs) (Some ys) true bytes front got all same is took sees = grind (arith, append_assoc, sees refl)
read_kept (Some xs) (Some ys) false bytes front got all same is took sees = grind (arith, append_assoc)

pub read_failed_kept : (old new : Option (List ℕ)) (bytes front : List ℕ) → front ≡ bytes → Keeps old new → Keeps (prepend_known bytes old) (prepend_known front new)
read_failed_kept None new bytes front is same = tt
read_failed_kept (Some xs) None bytes front is same = absurd same
read_failed_kept (Some xs) (Some ys) bytes front is same = ap (λ l. l ++ ys) is ∙ ap (λ l. bytes ++ l) same
