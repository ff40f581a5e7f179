use Rattle.std.proofs.Common.{ap, sym, ◌∙◌, arith}
use Rattle.model.specs.Values.{units_of_all}
use Rattle.frames.proofs.LayoutLemmas.{opened, stands_last, stack_is, region_fits}
use Rattle.frames.proofs.thread_frames.Frames.taken.Goals as goal

pub returns-clause-units : goal.returns-clause-units
returns-clause-units c =
    let sound = rw (← c.deref.ensures) at c.self.invariant in
    let view = rw (← c.deref.ensures) at c.self.view_is in
    let o = opened _ _ _ _ _ sound view c.requires c.running.ensures in
    (stands_last o).stands.taken_is ∙ sym (ap units_of_all (stack_is o))

pub returns-clause-few : goal.returns-clause-few
returns-clause-few c =
    let sound = rw (← c.deref.ensures) at c.self.invariant in
    let view = rw (← c.deref.ensures) at c.self.view_is in
    let o = opened _ _ _ _ _ sound view c.requires c.running.ensures in
    let fits = region_fits o in
    omega arith
