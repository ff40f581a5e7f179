use Rattle.std.proofs.Common.{ℕ, List, Err, ap, subst, Vec}
use Rattle.std.specs.Global.{Global}
use Rattle.launcher.specs.Launching.{AreAccepted, AreListings, Excuses, bytes_of}
use Rattle.launcher.proofs.SourceLemmas.{world_excused}
use Rattle.launcher.proofs.launching.launch.Goals as goal

pub returns-in-Err-clause-refused : goal.returns-in-Err-clause-refused
returns-in-Err-clause-refused c =
    subst (λ (ss : List (Vec ℕ Global)). Excuses (bytes_of ss) c.args.shape c.args.limits c.in-Err.error)
    c.as_slice.ensures.value (c.in-Err.ensures.refused c.args.shape c.args.limits)

pub returns-clause-refused : goal.returns-clause-refused
returns-clause-refused c =
    let e = c.in-Err-new.ensures in
    let sound : AreAccepted (bytes_of c.args.sources.items) = record {
      program = c.in-Ok.program;
      listings_are = subst (λ (ss : List (Vec ℕ Global)). AreListings (bytes_of ss) c.in-Ok.program)
          c.as_slice.ensures.value c.in-Ok.ensures.listings;
      accepted = c.in-Ok.ensures.accepted;
    } in
    world_excused (bytes_of c.args.sources.items) c.args.shape c.args.limits c.in-Err-new.error sound
    (λ is. e.shape.0 (ap Err is)) (λ is. e.limits.0 (ap Err is)) (λ is. e.frames (ap Err is))
    (λ is. e.ranges (ap Err is))
