use Rattle.std.proofs.Common.{◌∙◌, ap}
use Rattle.model.specs.Effects.Choice.{NewObject, NoRoom}
use Rattle.ideal_run.specs.Runs.{Run, run_after}
use Rattle.comparison.proofs.Followed.{clean_before_row, fault_seen, reference_at_fault, reference_without_room}
use Rattle.comparison.proofs.references.follow_fault.Goals as goal

pub made_again-requires-clause-clean : goal.made_again-requires-clause-clean
made_again-requires-clause-clean c =
    clean_before_row c.args.world.now c.args.row.actor NewObject c.is_made.ensures
    (fault_seen c.args.world.now c.args.run.now c.turn.new.self c.args.row.actor c.world.result.now c.fault.result
    c.requires.beside c.in_ok-turn.ensures c.world.ensures c.fault.ensures
    ∙ c.in-None.is)

pub returns-in-Some : goal.returns-in-Some
returns-in-Some c =
    c.in_ok-turn.ensures
    ∙ ap (λ (r : Run). run_after r c.args.row.actor NewObject) c.requires.beside
    ∙ reference_at_fault c.args.world.now c.args.row c.in-Some.field-0 c.requires.fault
    (fault_seen c.args.world.now c.args.run.now c.turn.new.self c.args.row.actor c.world.result.now c.fault.result
    c.requires.beside c.in_ok-turn.ensures c.world.ensures c.fault.ensures
    ∙ c.in-Some.is)

pub returns-in_ok-turn-in-None : goal.returns-in_ok-turn-in-None
returns-in_ok-turn-in-None c =
    c.in_ok-turn-in-None.ensures
    ∙ ap (λ (r : Run). run_after r c.args.row.actor NoRoom) c.in_ok-again-in-None.ensures
    ∙ reference_without_room c.args.world.now c.args.row c.requires.fault
    (fault_seen c.args.world.now c.args.run.now c.turn.new.self c.args.row.actor c.world.result.now c.fault.result
    c.requires.beside c.in_ok-turn.ensures c.world.ensures c.fault.ensures
    ∙ c.in-None.is)
