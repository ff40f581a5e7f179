use Rattle.std.proofs.Common.{◌∙◌, ◌+◌, ◌++◌, ◌∷◌, [], ℕ, Bool, ap, arith, length, refl, subst, sym}
use Rattle.model.specs.declared.journals.Limits.{Limits}
use Rattle.model.specs.Worlds.{World}
use Rattle.exploring.specs.declared.origins.Origin.{Origin}
use Rattle.exploring.specs.declared.search.Waiting.{Waiting}
use Rattle.exploring.specs.Canonical.{canonical}
use Rattle.exploring.specs.Expansion.{Search}
use Rattle.exploring.specs.States.{AddsState, HasStates, IsOneOf, Stored}
use Rattle.exploring.proofs.ExpansionLemmas.{finds_new, finds_old, goes_on}
use Rattle.exploring.proofs.search.Search.find.Goals as goal

pub returns-then-not-fresh : goal.returns-then-not-fresh
returns-then-not-fresh c =
    λ first known has follows.
    let s = c.args.transitions.now in
    let v = c.in_ok-world.world in
    let steps = ap (λ (l : Limits). l.steps) c.limits-steps.ensures in
    let one = c.saturating_sub.ensures in
    let other = c.saturating_sub-room.ensures in
    let goes = goes_on s.program s.limits c.args.parent.now c.args.by c.args.world v c.saturating_sub-room.result
    c.in_ok-world.ahead follows.below (omega (arith, steps, one, other)) c.in_ok-world.ensures in
    let adds = c.in_ok-fresh.ensures known (subst (λ (x : Search). HasStates x.stored known) (sym c.self.view_is) has.has) in
    let both = subst (λ (y : World). HasStates c.add.new.self known × IsOneOf known y) c.in_ok-world-2.ensures.is
    (subst (λ (b : Bool). AddsState c.add.new.self known c.in_ok-world-2.world b) c.if-not-fresh.true adds) in
    finds_old s.program s.limits first c.args.self.now known has _ c.args.parent.now c.args.by c.args.world follows v
    c.in_ok-world.ahead goes both (ap (λ (x : Search). x.origins) c.self.view_is)
    (ap (λ (x : Search). x.waiting) c.self.view_is)

pub returns : goal.returns
returns c =
    λ first known has follows.
    let s = c.args.transitions.now in
    let v = c.in_ok-world.world in
    let n = c.in_ok-world.ahead in
    let parent = c.args.parent.now in
    let steps = ap (λ (l : Limits). l.steps) c.limits-steps.ensures in
    let one = c.saturating_sub.ensures in
    let other = c.saturating_sub-room.ensures in
    let goes = goes_on s.program s.limits parent c.args.by c.args.world v c.saturating_sub-room.result n follows.below
    (omega (arith, steps, one, other)) c.in_ok-world.ensures in
    let adds = c.in_ok-fresh.ensures known (subst (λ (x : Search). HasStates x.stored known) (sym c.self.view_is) has.has) in
    let more = subst (λ (y : World). HasStates c.add.new.self (known ++ y ∷ [])) c.in_ok-world-2.ensures.is
    (subst (λ (b : Bool). AddsState c.add.new.self known c.in_ok-world-2.world b) c.if-not-fresh.false adds) in
    let o : Origin = record { parent = parent.place; by = c.args.by; ahead = n } in
    let old = c.args.self.now in
    let state = c.in_ok-state.state in
    let size = ap (λ (x : Search). length x.origins) c.self.view_is in
    let is = c.in_ok-state.ensures
    ∙ ap (λ (y : World). let x : Waiting = record {
      world = y;
      place = length c.self.inside.origins.items;
      level = parent.level + 1;
      depth = parent.depth + 1 + n;
    } in x) c.in_ok-world-2.ensures.is
    ∙ ap (λ (k : ℕ). let x : Waiting = record {
      world = canonical v;
      place = k;
      level = parent.level + 1;
      depth = parent.depth + 1 + n;
    } in x) size in
    finds_new s.program s.limits first old known has _ parent c.args.by c.args.world follows v n goes
    (subst (λ (x : Stored). HasStates x (known ++ canonical v ∷ []))
    (sym (ap (λ (x : Search). x.stored) c.in_ok-keep.ensures)) more) o refl state is
    (ap (λ (x : Search). x.origins) c.in_ok-keep.ensures
    ∙ ap (λ (x : Search). x.origins ++ o ∷ []) c.self.view_is)
    (ap (λ (x : Search). x.waiting) c.in_ok-keep.ensures
    ∙ ap (λ (x : Search). x.waiting ++ state ∷ []) c.self.view_is)
