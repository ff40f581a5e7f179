-- The reference beside a world: the ideal run whose choices a journal's rows tell.
use Rattle.std.specs.Prelude.{◌≢◌}
use Rattle.model.specs.declared.journals.Row.{Row}
use Rattle.model.specs.Machines.{Recorded, machine_of}
use Rattle.model.specs.Worlds.{World}
use Rattle.ideal_run.specs.Runs.{Run}
use Rattle.model.specs.declared.journals.Outcome.{Outcome}
use Rattle.model.specs.declared.journals.Outcome.TheVariants.{Done, Object, NoRoom, Fault}
use Rattle.model.specs.Effects.Choice.{NewObject, NoRoom as NoneHasRoom}
use Rattle.model.specs.Effects.{Choice}

-- the choice that an outcome tells; a fault tells none
abbrev pub reported_choice : Outcome → Choice
reported_choice Done = NewObject
reported_choice Object = NewObject
reported_choice NoRoom = NoneHasRoom
reported_choice Fault = NewObject

-- a row that isn't at fault
abbrev pub IsNoFault : Row → Type 0
IsNoFault row = row.outcome ≢ Fault

-- the ideal run of a world's program at this world
abbrev pub run_of : Recorded → World → Run
run_of v w = record { program = v.program; limits = v.journal.limits; world = w }

-- the ideal run that has followed a world's journal
abbrev pub reference_of : Recorded → Run
reference_of v = run_of v (machine_of v).world
