use Rattle.std.proofs.Common.{◌++◌, ◌∙◌, ap, arith, length}
use Rattle.exploring.proofs.ExpansionLemmas.{all_threads, either_is, none_yet, one_thread_more, traced_after}
use Rattle.exploring.proofs.search.Search.expand.Goals as goal

pub loop-place-init : goal.loop-place-init
loop-place-init c =
    λ first known has traced under.
    let s = c.args.transitions.now in
    none_yet s.program s.limits first c.args.bounds.no_room c.args.state.now.world c.args.self.now known has

pub loop-place-preserved : goal.loop-place-preserved
loop-place-preserved c =
    λ first known has traced under.
    let s = c.args.transitions.now in
    let mid = c.loop-place.self in
    let e = c.loop-place.invariant first known has traced under in
    let a = c.loop-place.moved in
    let b = c.in_ok-turned.turned in
    one_thread_more s.program s.limits first c.args.bounds.no_room c.args.state.now.world c.args.self.now mid c.turn.new.self
    known c.loop-place.place c.in-Ok.thread c.in-Ok.ensures.1 a b _ (c.either-moved.ensures ∙ either_is a b) e
    (c.in_ok-turned.ensures first (known ++ e.grows.more) e.grows.has
    (traced_after s.program s.limits first c.args.self.now mid known e.grows c.args.state.now traced) under)

pub returns : goal.returns
returns c =
    λ first known has traced under.
    let s = c.args.transitions.now in
    let past = c.loop-place-test.false in
    let count = ap length c.threads-place-end.ensures in
    all_threads s.program s.limits first c.args.bounds.no_room c.args.state.now.world c.args.self.now c.loop-place.self known
    c.loop-place.place c.loop-place.moved (omega (arith, past, count)) (c.loop-place.invariant first known has traced under)
