use Rattle.std.proofs.Common.{◌≡◌, ◌-◌, ◌∙◌, ap, arith, length}
use Rattle.std.specs.Prelude.{slice_get}
use Rattle.scheduler.proofs.Making.{none-following}
use Rattle.scheduler.proofs.replaying.row_after.Goals as goal

pub returns-then-before-len : goal.returns-then-before-len
returns-then-before-len c =
    let place : length c.args.rows - 1 ≡ c.args.before = omega (arith, c.requires, c.if-before-len.true, c.len.ensures)
    in
    c.last.ensures ∙ ap (slice_get c.args.rows) place

pub returns-else-before-len : goal.returns-else-before-len
returns-else-before-len c = none-following c.args.rows c.args.before (omega (
  arith,
  c.if-before-len.false,
  c.len.ensures,
))
