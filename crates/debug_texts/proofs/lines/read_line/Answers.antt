use Rattle.std.proofs.Common.{◌∙◌, ◌≡◌}
use Rattle.debug_texts.proofs.LineLemmas.{Read, line_ends, read_more}
use Rattle.debug_texts.proofs.lines.read_line.Goals as goal

pub returns-then-byte-eq10-clause-line : goal.returns-then-byte-eq10-clause-line
returns-then-byte-eq10-clause-line g c some =
    line_ends _ _ _ c.bytes.line c.in-Ok-Some.field-0 c.in-Ok-Some.byte _ _ c.bytes.invariant.read
    c.in-Ok-Some.field-0-is c.in-Ok-Some.ensures.bytes c.if-byte-eq10.true

pub bytes-preserved : goal.bytes-preserved
bytes-preserved g c = record {
  read = rw c.push.ensures
      (read_more _ _ _ c.bytes.line c.in-Ok-Some.field-0 c.in-Ok-Some.byte _ _ _ c.bytes.invariant.read
      c.in-Ok-Some.field-0-is c.in-Ok-Some.ensures.bytes c.if-byte-eq10.false c.in-Ok-Some.ensures.ends);
  same = c.in-Ok-Some.ensures.same ∙ c.bytes.invariant.same;
}
