use Rattle.std.proofs.Common.{◌≤◌, ◌+◌, ◌-◌, length, position, slice_range, unwrap_or, arith, ap, ◌∙◌}
use Rattle.descriptor_lines.specs.Words.{is_byte}
use Rattle.descriptor_lines.proofs.LineLemmas.{first_end}
use Rattle.descriptor_lines.proofs.input.LineBuffer.line_len.Goals as goal

pub returns-clause-len : goal.returns-clause-len
returns-clause-len c =
    let s = c.args.self.now in
    let fits : s.end ≤ length s.bytes.items = omega (arith, ap length c.deref.ensures.value, c.deref.ensures.len) in
    let found =
    c.unwrap_or.ensures
    ∙ ap (λ place. unwrap_or place (length (slice_range c.deref.result.now s.searched s.end))) c.first_of.ensures.place
    ∙ ap (λ bytes. unwrap_or (position (is_byte 10) (slice_range bytes s.searched s.end)) (length (slice_range bytes s.searched s.end))) c.deref.ensures.value in
    ap (λ n. s.searched - s.start + n) found ∙ first_end s.bytes.items s.start s.searched s.end s.from_start s.to_end fits s.unended
