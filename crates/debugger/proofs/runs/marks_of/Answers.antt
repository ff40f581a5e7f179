use Rattle.std.proofs.Common.{◌∙◌, ℕ, ap, sym}
use Rattle.model.specs.declared.places.CodePlace.{CodePlace}
use Rattle.instructions.specs.Stops.{number_of}
use Rattle.debugger.specs.Breakpoints.{first_at}
use Rattle.debugger.proofs.StopRuns.{first_other, unmarked_before}
use Rattle.debugger.proofs.runs.marks_of.Goals as goal

pub loop-number-preserved : goal.loop-number-preserved
loop-number-preserved c = (
  tt,
  tt,
  λ place free.
      let at = c.loop-number in
      let marks = c.add.new.self in
      let entry : ℕ × CodePlace = (c.in-Some._number, c.in-Some.place.now) in
      let step = c.in-Some.ensures.steps in
      sym (first_other entry c.next.new.self marks place c.add.ensures.added free)
      ∙ ap (first_at place) (sym step)
      ∙ at.invariant.2 place
      (unmarked_before at.marks marks (number_of place) (c.add.ensures.others (number_of place)) free),
)
