use Rattle.std.proofs.Common.{◌≡◌, ℕ, pos, Bool, true, false, List, [], ◌∷◌, Option, Some, None, Result, Ok, Err, refl}
use Rattle.model.specs.declared.instructions.ClassOperation.{ClassOperation}
use Rattle.model.specs.declared.instructions.ClassOperation.TheVariants.{New, CheckCast, InstanceOf}
use Rattle.model.specs.declared.turns.Fault.{Fault}
use Rattle.model.specs.declared.values.Value.TheVariants.{Int, Ref}
use Rattle.model.specs.Classes.Layout.{layout}
use Rattle.model.specs.Frames.{ref_on, running, replaced}
use Rattle.model.specs.Completions.{Site, frames_in}
use Rattle.model.specs.Table.Objects.{is_instance, cast_if, cast, reported_if, tested, class_operated}
use Rattle.model.specs.Collector.Places.{Reach}
use Rattle.model.specs.Collector.Moves.{CompletionMoves}
use Rattle.model.proofs.CollectorLemmas.Known.{stack_known}
use Rattle.model.proofs.CollectorLemmas.Stepping.{replaced_lawful, site_moves}
use Rattle.model.proofs.CollectorLemmas.Words.{ref_on-known, unwritten_nowhere}

cast_if_moves : (s : Site) → running (frames_in s) ≡ Some s.frame → (birth : ℕ) → Reach s.world birth → (is : Bool)
    → CompletionMoves s.world (cast_if s birth is)
cast_if_moves s e birth r true =
    site_moves s e (replaced s.next s.frame 1 (Ref (Some birth) ∷ []))
    (replaced_lawful s.world s.next s.frame 1 (Ref (Some birth) ∷ [])
    ((λ b k. (let h : birth ≡ b = cc in rw (← h) r)), tt))
cast_if_moves s e birth r false = tt

cast_moves : (s : Site) → running (frames_in s) ≡ Some s.frame → (name : List ℕ) (r : Result (Option ℕ) Fault)
    → ref_on s.frame.stack ≡ r → CompletionMoves s.world (cast s name r)
cast_moves s e name (Err fault) k = tt
cast_moves s e name (Ok None) k =
    site_moves s e (replaced s.next s.frame 1 (Ref None ∷ []))
    (replaced_lawful s.world s.next s.frame 1 (Ref None ∷ []) ((λ b k. absurd (cc)), tt))
cast_moves s e name (Ok (Some birth)) k =
    cast_if_moves s e birth (ref_on-known _ s.frame.stack birth (stack_known s.world s.thread _ s.frame e) k)
    (is_instance s name birth)

reported_moves : (s : Site) → running (frames_in s) ≡ Some s.frame → (is : Bool)
    → CompletionMoves s.world (reported_if s is)
reported_moves s e true =
    site_moves s e (replaced s.next s.frame 1 (Int (pos 1) ∷ []))
    (replaced_lawful s.world s.next s.frame 1 (Int (pos 1) ∷ []) ((λ b k. absurd (cc)), tt))
reported_moves s e false =
    site_moves s e (replaced s.next s.frame 1 (Int (pos 0) ∷ []))
    (replaced_lawful s.world s.next s.frame 1 (Int (pos 0) ∷ []) ((λ b k. absurd (cc)), tt))

tested_moves : (s : Site) → running (frames_in s) ≡ Some s.frame → (name : List ℕ) (r : Result (Option ℕ) Fault)
    → CompletionMoves s.world (tested s name r)
tested_moves s e name (Err fault) = tt
tested_moves s e name (Ok None) = reported_moves s e false
tested_moves s e name (Ok (Some birth)) = reported_moves s e (is_instance s name birth)

pub class_moves : (s : Site) → running (frames_in s) ≡ Some s.frame → (operation : ClassOperation) (name : List ℕ)
    → CompletionMoves s.world (class_operated s operation name)
class_moves s e New name = unwritten_nowhere (layout s.program name)
class_moves s e CheckCast name = cast_moves s e name (ref_on s.frame.stack) refl
class_moves s e InstanceOf name = tested_moves s e name (ref_on s.frame.stack)
