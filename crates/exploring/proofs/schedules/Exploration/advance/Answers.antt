use Rattle.std.proofs.Common.{Option, refl, subst, sym}
use Rattle.exploring.specs.declared.search.Waiting.{Waiting}
use Rattle.exploring.specs.Expansion.{Takes}
use Rattle.exploring.specs.Explorations.{Exploration, IsOnItsWay}
use Rattle.exploring.proofs.ExplorationLemmas.{all_done, taken_next}
use Rattle.exploring.proofs.schedules.Exploration.advance.Goals as goal

pub returns-in-None : goal.returns-in-None
returns-in-None c =
    λ way.
    let s = c.args.transitions.now in
    let first = c.args.first.now in
    let no_room = c.args.bounds.no_room in
    let old : Exploration = record { search = c.self.inside.search; outcomes = c.self.inside.outcomes } in
    let new : Exploration = record { search = c.next.new.self; outcomes = c.self.inside.outcomes } in
    let none = subst (λ (o : Option Waiting). Takes c.self.inside.search c.next.new.self o) c.in-None.is c.next.ensures in
    all_done s.program s.limits first no_room old new (subst (IsOnItsWay s.program s.limits first no_room) (sym c.self.view_is) way)
    none.0 none.1 refl

pub returns-in-Some : goal.returns-in-Some
returns-in-Some c =
    λ way.
    let s = c.args.transitions.now in
    let first = c.args.first.now in
    let no_room = c.args.bounds.no_room in
    let old : Exploration = record { search = c.self.inside.search; outcomes = c.self.inside.outcomes } in
    let new : Exploration = record { search = c.next.new.self; outcomes = c.self.inside.outcomes } in
    c.expand.ensures (taken_next s.program s.limits first no_room old new c.in-Some.state
    (subst (IsOnItsWay s.program s.limits first no_room) (sym c.self.view_is) way)
    (subst (λ (o : Option Waiting). Takes c.self.inside.search c.next.new.self o) c.in-Some.is c.next.ensures) refl)
