use Rattle.std.proofs.Common.{ap, arith, subst}
use Rattle.model.specs.declared.journals.Limits.{Limits}
use Rattle.std.proofs.lemmas.Option.{slice_get-get_or}
use Rattle.exploring.specs.Origins.{LeadsOn}
use Rattle.exploring.proofs.StartLemmas.{all_made, few_made, none_made, not_made, one_made, too_many}
use Rattle.exploring.proofs.starts.after_moves.Goals as goal

pub returns-then-limits-moves : goal.returns-then-limits-moves
returns-then-limits-moves c =
    let s = c.args.transitions.now in
    let steps = ap (λ (l : Limits). l.steps) c.limits.ensures in
    let past = c.if-limits-moves.true in
    too_many s.program s.limits c.args.moves.now (omega (arith, steps, past))

pub loop-turn-init : goal.loop-turn-init
loop-turn-init c =
    let s = c.args.transitions.now in
    none_made s.program s.limits c.args.moves.now c.in_ok-world.world c.in_ok-world.ensures

pub returns : goal.returns
returns c =
    let s = c.args.transitions.now in
    let past = c.loop-turn-test.false in
    all_made s.program s.limits c.args.moves.now c.loop-turn.turn-index c.loop-turn.world c.loop-turn.invariant
    (omega (arith, past))

pub returns-in-None : goal.returns-in-None
returns-in-None c =
    let s = c.args.transitions.now in
    let moves = c.args.moves.now in
    let n = c.loop-turn.turn-index in
    let a = c.loop-turn.invariant in
    let within = c.loop-turn-test.true in
    let steps = ap (λ (l : Limits). l.steps) c.limits.ensures in
    let past = c.if-limits-moves.false in
    let here = slice_get-get_or moves n _ (omega (arith, within)) in
    let under = few_made s.program s.limits moves n c.loop-turn.world a _ here (omega (arith, steps, past)) in
    not_made s.program s.limits moves n c.loop-turn.world a _ here
    (subst (LeadsOn s.program s.limits a.done _) c.in-None.is (c.in_ok-after_move.ensures a.done a.met under))

pub loop-turn-preserved : goal.loop-turn-preserved
loop-turn-preserved c =
    let s = c.args.transitions.now in
    let moves = c.args.moves.now in
    let n = c.loop-turn.turn-index in
    let a = c.loop-turn.invariant in
    let within = c.loop-turn-test.true in
    let steps = ap (λ (l : Limits). l.steps) c.limits.ensures in
    let past = c.if-limits-moves.false in
    let here = slice_get-get_or moves n _ (omega (arith, within)) in
    let under = few_made s.program s.limits moves n c.loop-turn.world a _ here (omega (arith, steps, past)) in
    one_made s.program s.limits moves n c.loop-turn.world a _ here c.in-Some.after
    (subst (LeadsOn s.program s.limits a.done _) c.in-Some.is (c.in_ok-after_move.ensures a.done a.met under))
