use Rattle.std.proofs.Common.{◌≡◌, ◌≤◌, ◌+◌, ◌-◌, ◌∙◌, ap, arith, nat_eq, subst, sym, true}
use Rattle.model.specs.Machines.{Recorded}
use Rattle.debugger.specs.Runs.{Covers, are_whole, run_for, run_on}
use Rattle.debugger.proofs.RunSteps.{more}
use Rattle.debugger.proofs.StopRuns.{led_past, round_ends, some_left, sweep_ends, turn_ends, whole_there}
use Rattle.debugger.proofs.runs.run_to_breakpoint.Goals as goal

pub turns-preserved-then-are_whole : goal.turns-preserved-then-are_whole
turns-preserved-then-are_whole c =
    let bs = c.args.breakpoints.now.slots in
    let covers : Covers c.stops.result.marks.now bs = subst (λ m. Covers m bs) (sym c.stops.ensures)
    c.marks_of-marks.ensures in
    let quick = c.rounds_past-quick.result in
    let led = c.rounds_past-quick.ensures.rounds in
    let made = c.turns.made in
    let n = quick.made in
    let turns = c.args.turns in
    let total = run_for bs turns c.args.world.now in
    let fits : made + n ≤ turns = omega (arith, c.turns-test.true, c.rounds_past-quick.ensures.most) in
    let whole : are_whole n quick.begun ≡ true = sym c.are_whole.ensures ∙ c.if-are_whole.true in
    record {
      few = fits;
      leads =
          ap (λ (y : Recorded). more (made + n) (run_on bs (nat_eq (made + n) 0) (turns - (made + n)) y))
          (whole_there bs c.stops.result covers n quick.begun led.0 c.rounds_past-quick.new.self whole led.2)
          ∙ led_past bs c.stops.result covers made n turns c.turns.world led.0 total fits led.1 c.turns.invariant.leads;
    }

pub returns-then-not-is_done : goal.returns-then-not-is_done
returns-then-not-is_done c =
    let bs = c.args.breakpoints.now.slots in
    let quick = c.rounds_past-quick in
    let led = quick.ensures.rounds in
    turn_ends bs c.stops.result c.turns.made quick.result.made c.args.turns quick.result.begun c.turns.world led.0
    quick.new.self
    (run_for bs c.args.turns c.args.world.now) c.stops.ensures c.marks_of-marks.ensures c.are_whole.ensures
    c.if-are_whole.false c.status.ensures c.is_running.ensures c.if-not-is_running.false c.held_unless.ensures
    c.in_default.is c.turns-test.true quick.ensures.most quick.ensures.begun led.1 led.2 c.turns.invariant.leads
    c.turn_unless-answer.new.world c.turn_unless-answer.result c.turn_unless-answer.ensures.world
    c.turn_unless-answer.ensures.answer c.is_done.ensures c.if-not-is_done.true

pub returns-then-not-is_done-2 : goal.returns-then-not-is_done-2
returns-then-not-is_done-2 c =
    let bs = c.args.breakpoints.now.slots in
    let quick = c.rounds_past-quick in
    let led = quick.ensures.rounds in
    sweep_ends bs c.stops.result c.turns.made quick.result.made c.args.turns quick.result.begun c.turns.world led.0
    quick.new.self
    (run_for bs c.args.turns c.args.world.now) c.stops.ensures c.marks_of-marks.ensures c.are_whole.ensures
    c.if-are_whole.false c.status.ensures c.is_running.ensures c.if-not-is_running.false c.held_unless.ensures
    c.in_default.is c.turns-test.true quick.ensures.most quick.ensures.begun led.1 led.2 c.turns.invariant.leads
    c.turn_unless-answer.new.world c.turn_unless-answer.result c.turn_unless-answer.ensures.world
    c.turn_unless-answer.ensures.answer c.is_done.ensures c.if-not-is_done.false c.sweep_once-swept.new.world
    c.sweep_once-swept.result c.sweep_once-swept.ensures.world c.sweep_once-swept.ensures.answer
    c.is_done-in-turns.ensures c.if-not-is_done-2.true

pub turns-preserved : goal.turns-preserved
turns-preserved c =
    let bs = c.args.breakpoints.now.slots in
    let quick = c.rounds_past-quick in
    let led = quick.ensures.rounds in
    record {
      few = omega (
        arith,
        some_left c.turns.made quick.result.made c.args.turns quick.result.begun
            (sym c.are_whole.ensures ∙ c.if-are_whole.false) c.turns-test.true quick.ensures.most quick.ensures.begun,
      );
      leads =
          round_ends bs c.stops.result c.turns.made quick.result.made c.args.turns quick.result.begun c.turns.world led.0
          quick.new.self
          (run_for bs c.args.turns c.args.world.now) c.stops.ensures c.marks_of-marks.ensures c.are_whole.ensures
          c.if-are_whole.false c.status.ensures c.is_running.ensures c.if-not-is_running.false c.held_unless.ensures
          c.in_default.is c.turns-test.true quick.ensures.most quick.ensures.begun led.1 led.2 c.turns.invariant.leads
          c.turn_unless-answer.new.world c.turn_unless-answer.result c.turn_unless-answer.ensures.world
          c.turn_unless-answer.ensures.answer c.is_done.ensures c.if-not-is_done.false c.sweep_once-swept.new.world
          c.sweep_once-swept.result c.sweep_once-swept.ensures.world c.sweep_once-swept.ensures.answer
          c.is_done-in-turns.ensures c.if-not-is_done-2.false;
    }
