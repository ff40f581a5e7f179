use Rattle.std.proofs.Common.{◌≡◌, ◌∙◌, ◌≤◌, None, Some, ap, arith, length, ltb-false, rules, sym}
use Rattle.instructions.specs.CallsByNumbers.{known_at}
use Rattle.instructions.specs.Starting.{is_own_run}
use Rattle.instructions.proofs.RunRows.{known_run, own-row}
use Rattle.instructions.proofs.starting.is_run_row.Goals as goal

pub returns-in-Some-method : goal.returns-in-Some-method
returns-in-Some-method c =
    let program = c.args.program.now in
    let row = c.args.row in
    let count = ap length c.listings.ensures.listings in
    let past : length program ≤ row.class =
    let past = ltb-false row.class (length c.listings.result.now) (sym c.in-None.ensures.lookup.0)
    in omega (arith, count, past) in
    let known : known_at program (record { class = row.class; method = row.method })
    ≡ Some c.in-Some-method.method.now = search rules in
    c.is_own_run.ensures ∙ ap is_own_run c.body.ensures ∙ sym (ap (known_run program) known) ∙ own-row program row past

pub returns-in-None-method : goal.returns-in-None-method
returns-in-None-method c =
    let program = c.args.program.now in
    let row = c.args.row in
    let count = ap length c.listings.ensures.listings in
    let past : length program ≤ row.class =
    let past = ltb-false row.class (length c.listings.result.now) (sym c.in-None.ensures.lookup.0)
    in omega (arith, count, past) in
    let known : known_at program (record { class = row.class; method = row.method }) ≡ None = search rules in
    sym (ap (known_run program) known) ∙ own-row program row past
