use Rattle.std.proofs.Common.{◌≡◌, ◌++◌, ◌∷◌, [], rules, ap, sym, ◌∙◌, to_z, of_z}
use Rattle.std.specs.Int.{w32}
use Rattle.std.proofs.lemmas.Int.{ints, to_z-of_z}
use Rattle.std.proofs.Common.{None}
use Rattle.std.proofs.lemmas.Result.{err_from_is_err_and}
use Rattle.opcodes.specs.Reading.Switches.{pairs_at, landing, rises}
use Rattle.opcodes.proofs.Loops.{pairs_go_on, pairs_end, pairs_stop, pairs_break, pairs_done}
use Rattle.opcodes.proofs.switches.pairs.Goals as goal

pub returns-in_err-key : goal.returns-in_err-key
returns-in_err-key c =
    let p = err_from_is_err_and c.from_residual.result c.from_residual.ensures.1 in
    rw (p.1, p.2) (pairs_end c.in_err-key.field-0.0 c.loop.pairs.items c.args.pc c.loop.before c.args.count
    c.loop.counter c.loop.rest.now (pairs_at c.args.pc None c.args.count c.args.bytes.now) c.loop-test.true
    c.in_err-key.ensures.gives c.loop.invariant)

pub returns-then-not-rises : goal.returns-then-not-rises
returns-then-not-rises c = pairs_stop c.loop.pairs.items c.args.pc c.loop.before c.args.count c.loop.counter
    c.loop.rest.now c.in_ok-key.key c.in_ok-key.after.now (pairs_at c.args.pc None c.args.count c.args.bytes.now)
    c.loop-test.true c.in_ok-key.ensures.gives (sym (ap (rises c.loop.before) (to_z-of_z w32 c.in_ok-key.key (search rules)))
    ∙ sym c.rises.ensures ∙ c.if-not-rises.true) c.loop.invariant

pub returns-in_err-offset : goal.returns-in_err-offset
returns-in_err-offset c =
    let p = err_from_is_err_and c.from_residual-in_err-offset.result c.from_residual-in_err-offset.ensures.1 in
    rw (p.1, p.2) (pairs_break c.in_err-offset.field-0.0 c.loop.pairs.items c.args.pc c.loop.before c.args.count
    c.loop.counter c.loop.rest.now c.in_ok-key.key c.in_ok-key.after.now
    (pairs_at c.args.pc None c.args.count c.args.bytes.now) c.loop-test.true c.in_ok-key.ensures.gives
    (sym (ap (rises c.loop.before) (to_z-of_z w32 c.in_ok-key.key (search rules))) ∙ sym c.rises.ensures
    ∙ c.if-not-rises.false) c.in_err-offset.ensures.gives c.loop.invariant)

pub loop-preserved : goal.loop-preserved
loop-preserved c =
    let same : to_z w32 (of_z w32 c.in_ok-key.key) ≡ c.in_ok-key.key = to_z-of_z w32 c.in_ok-key.key (search rules) in
    let e : c.push.new.self.items ≡ c.loop.pairs.items ++ (c.in_ok-key.key, landing c.args.pc c.in_ok-offset.offset)
    ∷ [] = search (rules, ints, to_z-of_z) in
    let up = sym (ap (rises c.loop.before) same) ∙ sym c.rises.ensures ∙ c.if-not-rises.false in
    rw (e, same) (pairs_go_on c.loop.pairs.items c.args.pc c.loop.before c.args.count c.loop.counter c.loop.rest.now
    c.in_ok-key.key c.in_ok-key.after.now c.in_ok-offset.offset c.in_ok-offset.after.now
    (pairs_at c.args.pc None c.args.count c.args.bytes.now) c.loop-test.true c.in_ok-key.ensures.gives up
    c.in_ok-offset.ensures.gives c.loop.invariant)

pub returns : goal.returns
returns c = pairs_done c.loop.pairs.items c.args.pc c.loop.before c.args.count c.loop.counter c.loop.rest.now
    (pairs_at c.args.pc None c.args.count c.args.bytes.now) c.loop-test.false c.loop.invariant
