use Rattle.std.proofs.Common.{◌≡◌, ℕ, codes, Option, Some, None, Result, Ok, Err, refl}
use Rattle.model.specs.declared.turns.Fault.{Fault}
use Rattle.model.specs.Classes.Types.{is_subtype}
use Rattle.model.specs.Frames.{running, ref_on}
use Rattle.model.specs.Objects.{class_at}
use Rattle.model.specs.Completions.{Site, frames_in}
use Rattle.model.specs.Table.Throws.{throws, threw}
use Rattle.model.specs.Collector.Places.{Reach}
use Rattle.model.specs.Collector.Moves.{CompletionMoves}
use Rattle.model.proofs.CollectorLemmas.Known.{stack_known}
use Rattle.model.proofs.CollectorLemmas.Table.Monitors.{reference_may, if_moves}

-- what is thrown was on the stack
throws_moves : (s : Site) (r : Result (Option ℕ) Fault) → ((b : ℕ) → r ≡ Ok (Some b) → Reach s.world b)
    → CompletionMoves s.world (throws s r)
throws_moves s (Err fault) h = tt
throws_moves s (Ok None) h = tt
throws_moves s (Ok (Some birth)) h = if_moves s.world (is_subtype s.program (class_at s.world birth)
    (codes "java/lang/Throwable")) _ _ (h birth refl) tt

pub threw_moves : (s : Site) → running (frames_in s) ≡ Some s.frame → CompletionMoves s.world (threw s)
threw_moves s e = throws_moves s (ref_on s.frame.stack) (λ b h. reference_may (Reach s.world) s.frame.stack b
    (stack_known s.world s.thread _ s.frame e) h)
