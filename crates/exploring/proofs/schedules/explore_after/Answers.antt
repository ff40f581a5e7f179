use Rattle.std.proofs.Common.{subst}
use Rattle.exploring.specs.Explorations.{Begins}
use Rattle.exploring.proofs.ExplorationLemmas.{over_complete, over_sound}
use Rattle.exploring.proofs.schedules.explore_after.Goals as goal

pub returns-in-Err-clause-sound : goal.returns-in-Err-clause-sound
returns-in-Err-clause-sound g c =
    let s = c.args.transitions.now in
    c.nothing.ensures.sound s.program s.limits c.args.first.now

pub returns-in-Ok-None-clause-refused : goal.returns-in-Ok-None-clause-refused
returns-in-Ok-None-clause-refused g c =
    λ none turns.
    let s = c.args.transitions.now in
    let no_room = c.args.bounds.no_room in
    subst (Begins s.program s.limits c.args.first.now no_room) c.in-Ok-None.field-0-is (c.in-Ok-None.ensures no_room) turns

pub returns-in-Ok-Some-clause-complete : goal.returns-in-Ok-Some-clause-complete
returns-in-Ok-Some-clause-complete g c =
    let s = c.args.transitions.now in
    let first = c.args.first.now in
    let no_room = c.args.bounds.no_room in
    over_complete s.program s.limits first no_room c.run-cut.new.self c.run-cut.result c.explored.result
    (c.run-cut.ensures (subst (Begins s.program s.limits first no_room) c.in-Ok-Some.field-0-is
    (c.in-Ok-Some.ensures no_room))) c.explored.ensures

pub returns-in-Ok-Some-clause-sound : goal.returns-in-Ok-Some-clause-sound
returns-in-Ok-Some-clause-sound g c =
    let s = c.args.transitions.now in
    let first = c.args.first.now in
    let no_room = c.args.bounds.no_room in
    over_sound s.program s.limits first no_room c.run-cut.new.self c.run-cut.result c.explored.result
    (c.run-cut.ensures (subst (Begins s.program s.limits first no_room) c.in-Ok-Some.field-0-is
    (c.in-Ok-Some.ensures no_room))) c.explored.ensures
