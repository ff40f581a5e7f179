use Rattle.std.proofs.Common.{◌≡◌, ℕ, arith, refl, subst}
use Rattle.model.specs.Machines.{Recorded}
use Rattle.scheduler.specs.Rounds.{LeadsPast}
use Rattle.scheduler.proofs.PastStops.{led-nowhere}
use Rattle.scheduler.proofs.worlds.World.rounds_past.Goals as goal

pub returns-clause-rounds : goal.returns-clause-rounds
returns-clause-rounds c =
    let stops = c.args.stops in
    let gc = c.args.gc in
    let v = c.args.self.now in
    let worker = c.first_worker-worker.result in
    let none = c.rounds_at_pace-rounds in
    let made = c.rounds_in_turn in
    let zero : none.result.made ≡ 0 = omega (arith, c.if-rounds-gt0.false) in
    let same = led-nowhere stops v none.new.self worker gc none.result zero c.if-rounds.false none.ensures.past in
    subst (λ (n : ℕ). LeadsPast stops v n gc made.result made.new.self) c.first_worker-worker.ensures.first
    (subst (λ (x : Recorded). LeadsPast stops x worker gc made.result made.new.self) same (made.ensures.past refl))
