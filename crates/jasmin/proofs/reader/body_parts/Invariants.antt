use Rattle.std.proofs.Common.{◌≡◌, length}
use Rattle.jasmin.specs.Bodies.{after_block, first_parts, opened}
use Rattle.jasmin.proofs.BodyLemmas.{rest_from}
use Rattle.jasmin.proofs.reader.body_parts.Given as goal

-- what was read so far, and the statements that follow
abbrev pub invariant-rows : goal.invariant-rows
invariant-rows g l = record {
  rest : rest_from l.stack l.locals l.rows.items l.lines.items (opened l.open) l.statements
      ≡ first_parts l.fn.statements;
  following : after_block l.statements ≡ after_block l.fn.statements;
}

abbrev pub decreases-rows : goal.decreases-rows
decreases-rows g l = length l.statements
