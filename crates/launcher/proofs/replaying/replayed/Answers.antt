use Rattle.std.proofs.Common.{ℕ, List, subst, Vec}
use Rattle.std.specs.Global.{Global}
use Rattle.launcher.specs.Launching.{Excuses, bytes_of}
use Rattle.launcher.proofs.replaying.replayed.Goals as goal

pub returns-in-Err-clause-refused : goal.returns-in-Err-clause-refused
returns-in-Err-clause-refused g c = λ shape limits.
    subst (λ (ss : List (Vec ℕ Global)). Excuses (bytes_of ss) shape limits c.in-Err.error) c.as_slice.ensures.value
    (c.in-Err.ensures.refused shape limits)
