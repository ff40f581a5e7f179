use Rattle.std.proofs.Common.{ap, arith, subst, sym}
use Rattle.model.specs.declared.journals.Limits.{Limits}
use Rattle.exploring.specs.Explorations.{Exploration, IsBefore, IsOnItsWay, Outcomes}
use Rattle.exploring.proofs.ExplorationLemmas.{moved_on, noted_on}
use Rattle.exploring.proofs.schedules.Exploration.expand.Goals as goal

pub returns-else-not-moved : goal.returns-else-not-moved
returns-else-not-moved c =
    λ before.
    let s = c.args.transitions.now in
    let first = c.args.first.now in
    let no_room = c.args.bounds.no_room in
    let old : Exploration = record { search = c.self.inside.search; outcomes = c.self.inside.outcomes } in
    let b = subst (λ (e : Exploration). IsBefore s.program s.limits first no_room e c.args.state.now) (sym c.self.view_is) before in
    let steps = ap (λ (l : Limits). l.steps) c.limits-steps.ensures in
    let past = c.if-steps-state.false in
    moved_on s.program s.limits first no_room old c.args.state.now b c.expand.new.self c.in_ok-moved.moved
    (c.in_ok-moved.ensures first b.known b.has b.traced (omega (arith, steps, past))) c.if-not-moved.false

pub returns-in_ok-note : goal.returns-in_ok-note
returns-in_ok-note c =
    λ before.
    let s = c.args.transitions.now in
    let first = c.args.first.now in
    let no_room = c.args.bounds.no_room in
    let old : Exploration = record { search = c.self.inside.search; outcomes = c.self.inside.outcomes } in
    let b = subst (λ (e : Exploration). IsBefore s.program s.limits first no_room e c.args.state.now) (sym c.self.view_is) before in
    let steps = ap (λ (l : Limits). l.steps) c.limits-steps.ensures in
    let past = c.if-steps-state.false in
    subst (λ (o : Outcomes). IsOnItsWay s.program s.limits first no_room (record { search = c.expand.new.self; outcomes = o }))
    (sym c.in_ok-note.ensures.noted)
    (noted_on s.program s.limits first no_room old c.args.state.now b c.expand.new.self c.in_ok-moved.moved
    (c.in_ok-moved.ensures first b.known b.has b.traced (omega (arith, steps, past))) c.if-not-moved.true
    (omega (arith, steps, past)))
