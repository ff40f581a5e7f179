use Rattle.std.proofs.Common.{◌≡◌, ◌∙◌, ◌++◌, List, ap, subst, sym}
use Rattle.exploring.specs.Explorations.{Begins, Finding, IsFurther}
use Rattle.exploring.specs.Parts.{AreParts, rests, ways}
use Rattle.exploring.proofs.PartLemmas.{parts_of_all, parts_so_far}
use Rattle.exploring.proofs.parts.split.Goals as goal
use Rattle.exploring.proofs.parts.split.Goals.{then-left+in_ok-add_ways, else-left}

pub returns-in_default-clause-refused : goal.returns-in_default-clause-refused
returns-in_default-clause-refused c =
    λ none turns.
    let s = c.args.transitions.now in
    let no_room = c.args.bounds.no_room in
    subst (Begins s.program s.limits c.args.first.now no_room) c.in_default.is (c.in_ok-exploration.ensures no_room) turns

pub returns-clause-parts : goal.returns-clause-parts
returns-clause-parts c =
    let s = c.args.transitions.now in
    let first = c.args.first.now in
    let no_room = c.args.bounds.no_room in
    let e = c.divide.new.exploration in
    let way = subst (Begins s.program s.limits first no_room) c.in-Some.is (c.in_ok-exploration.ensures no_room) in
    let further = c.in_ok-left.ensures way in
    let found : c.in_ok-parts.parts.items ≡ rests e.outcomes.found =
    c.in_ok-parts.ensures ∙ ap (λ (fs : List Finding). rests fs) c.found.ensures in
    elim c.if-left.branch [
      | then-left+in_ok-add_ways w ↦ (
          let so_far = subst (IsFurther s.program s.limits first no_room e) w.if-left.true further in
          let all = w.in_ok-add_ways.ensures ∙ ap (λ ps. ps ++ ways first e.search) found in
          rw w.parts-is (subst (AreParts s.program s.limits first no_room) (sym all)
          (parts_so_far s.program s.limits no_room first e so_far)))
      | else-left w ↦ (
          let all = subst (IsFurther s.program s.limits first no_room e) w.if-left.false further in
          rw w.parts-is (subst (AreParts s.program s.limits first no_room) (sym found)
          (parts_of_all s.program s.limits no_room first e all.0 all.1)))
    ]
