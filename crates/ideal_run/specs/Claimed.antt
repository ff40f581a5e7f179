use Rattle.std.specs.Prelude.{ℕ, List, ◌++◌, Option, Some, None}
use Rattle.model.specs.Completions as completion
use Rattle.model.specs.Completions.{Site, frames_in}
use Rattle.model.specs.Initialisation.{callers_waiting, initializer_frames}
use Rattle.model.specs.Table.Initialisation.{claims_with}
use Rattle.ideal_run.specs.declared.completions.Completion.{Completion}
use Rattle.ideal_run.specs.Completed.{reported, plainly}

-- the claim of classes at a site
abbrev pub claimed_at : Site → List ℕ → completion.Completion
claimed_at s classes = claims_with s classes (frames_in s ++ callers_waiting (initializer_frames s.program classes))

-- what comes before an instruction's own case, if anything does
abbrev pub comes_before : Site → Option Completion → completion.Completion → completion.Completion
comes_before s None own = plainly own
comes_before s (Some before) own = reported s.world s.thread before
