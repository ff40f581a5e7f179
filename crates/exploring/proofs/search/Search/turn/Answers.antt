use Rattle.std.proofs.Common.{◌∙◌, ◌++◌, ◌&&◌, Bool, Some, ap, refl, sym}
use Rattle.model.specs.Effects.Choice.{NewObject}
use Rattle.ideal_run.specs.declared.effects.Choice.TheVariants as code
use Rattle.ideal_run.specs.Successors.{Successor}
use Rattle.exploring.specs.declared.explored.Move.{Move}
use Rattle.exploring.proofs.ExpansionLemmas.{expands_alone, expands_both, expands_refused, follows, traced_after}
use Rattle.exploring.proofs.search.Search.turn.Goals as goal
use Rattle.exploring.proofs.search.Search.turn.Goals.{else-bounds-via-then-bounds+else-asks, else-bounds-via-else-bounds}

pub returns-in-None : goal.returns-in-None
returns-in-None c =
    λ first known has traced under.
    expands_refused c.args.transitions.now first c.args.bounds.no_room c.args.state.now.world c.args.thread NewObject
    c.args.self.now known has (sym c.in-None.is ∙ c.in_ok-successor.ensures)

pub returns-else-bounds : goal.returns-else-bounds
returns-else-bounds c =
    λ first known has traced under.
    let s = c.args.transitions.now in
    let x = c.args.state.now.world in
    let no_room = c.args.bounds.no_room in
    let a : Successor = record { world = c.made.inside.world; asks = c.made.inside.asks } in
    let k = ap (λ (y : Successor). Some y) c.made.view_is ∙ sym c.in-Some.is ∙ c.in_ok-successor.ensures in
    let m : Move = record { thread = c.args.thread; choice = code.NewObject } in
    let f = c.in_ok-find.ensures first known has
    (follows s first no_room x c.args.thread c.args.self.now.origins c.args.state.now refl traced under m refl a k) in
    expands_alone s first no_room x c.args.thread a k c.args.self.now c.find.new.self known f (elim c.else-bounds.branch [
      | else-bounds-via-then-bounds+else-asks w ↦
          ap (λ (b : Bool). b && c.made.inside.asks) w.if-bounds.true ∙ w.if-asks.false
      | else-bounds-via-else-bounds w ↦ ap (λ (b : Bool). b && c.made.inside.asks) w.if-bounds.false
    ])

pub returns-in_ok-find-2 : goal.returns-in_ok-find-2
returns-in_ok-find-2 c =
    λ first known has traced under.
    let s = c.args.transitions.now in
    let x = c.args.state.now.world in
    let no_room = c.args.bounds.no_room in
    let a : Successor = record { world = c.made.inside.world; asks = c.made.inside.asks } in
    let k = ap (λ (y : Successor). Some y) c.made.view_is ∙ sym c.in-Some.is ∙ c.in_ok-successor.ensures in
    let m : Move = record { thread = c.args.thread; choice = code.NewObject } in
    let f = c.in_ok-find.ensures first known has
    (follows s first no_room x c.args.thread c.args.self.now.origins c.args.state.now refl traced under m refl a k) in
    let b : Successor = record { world = c.other.inside.world; asks = c.other.inside.asks } in
    let q = ap (λ (y : Successor). Some y) c.other.view_is ∙ sym c.in-Some-2.is ∙ c.in_ok-other.ensures in
    let n : Move = record { thread = c.args.thread; choice = code.NoRoom } in
    let mid = c.find.new.self in
    let g = c.in_ok-find-2.ensures first (known ++ f.grows.more) f.grows.has
    (follows s first no_room x c.args.thread mid.origins c.args.state.now refl
    (traced_after s.program s.limits first c.args.self.now mid known f.grows c.args.state.now traced) under n refl b q) in
    expands_both s first no_room x c.args.thread a k c.args.self.now mid known f b q _ g
