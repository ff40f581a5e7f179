use Rattle.std.proofs.Common.{rules, arith, ◌≡◌}
use Rattle.std.proofs.lemmas.Int.{ints, to_z-of_z}
use Rattle.std.proofs.lemmas.Result.{err_from_is_err_and}
use Rattle.opcodes.specs.Reading.Switches.{table_len}
use Rattle.opcodes.proofs.Loops.{table_fails, int_lt-not}
use Rattle.opcodes.proofs.switches.table.Goals as goal

pub returns-in_err-targets : goal.returns-in_err-targets
returns-in_err-targets c =
    let p = err_from_is_err_and c.from_residual-in_err-targets.result c.from_residual-in_err-targets.ensures.1 in
    let n : c.len_between.result ≡ table_len c.in_ok-low.low c.in_ok-high.high = search (rules, ints, to_z-of_z) in
    rw (p.1, p.2) (table_fails c.in_err-targets.field-0.0 c.args.pc c.len_between.result c.args.bytes.now _ _ _ _
    c.in_ok-default.default c.in_ok-low.low c.in_ok-high.high c.in_ok-rest.ensures.gives c.in_ok-default.ensures.gives
    c.in_ok-low.ensures.gives c.in_ok-high.ensures.gives (int_lt-not c.in_ok-high.high c.in_ok-low.low (omega (arith, ints))) n
    c.in_err-targets.ensures)
