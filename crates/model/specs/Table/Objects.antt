use Rattle.std.specs.Prelude.{ℕ, pos, List, [], ◌∷◌, map, Bool, true, false, Option, Some, None, Result, Ok, Err}
use Rattle.model.specs.declared.instructions.ClassOperation.{ClassOperation}
use Rattle.model.specs.declared.instructions.ClassOperation.TheVariants.{New, CheckCast, InstanceOf}
use Rattle.model.specs.declared.turns.Exception.TheVariants.{ClassCast}
use Rattle.model.specs.declared.turns.Fault.{Fault}
use Rattle.model.specs.declared.values.Value.TheVariants.{Int, Ref}
use Rattle.model.specs.ClassListings.{ClassListing}
use Rattle.model.specs.Classes.Layout.{layout}
use Rattle.model.specs.Classes.Types.{is_subtype}
use Rattle.model.specs.Frames.{ref_on, replaced}
use Rattle.model.specs.Worlds.{Contents}
use Rattle.model.specs.Worlds.Contents.{Instance}
use Rattle.model.specs.Objects.{class_at}
use Rattle.model.specs.Completions.{Completion, Site, moves_in, raises}
use Rattle.model.specs.Completions.Completion.{Creates, Faults}
use Rattle.model.specs.Words.{unwritten}

-- an object of a class as it is made: its fields in the layout's order, none written yet
abbrev pub new_instance : List ClassListing → List ℕ → Contents
new_instance program class = Instance class (map unwritten (layout program class))

-- whether an object is of a subclass of a type
abbrev pub is_instance : Site → List ℕ → ℕ → Bool
is_instance s name birth = is_subtype s.program (class_at s.world birth) name

-- ---- checkcast: the reference is pushed again

abbrev pub cast_if : Site → ℕ → Bool → Completion
cast_if s birth true = moves_in s.world s (replaced s.next s.frame 1 (Ref (Some birth) ∷ []))
cast_if s birth false = raises ClassCast

abbrev pub cast : Site → List ℕ → Result (Option ℕ) Fault → Completion
cast s name (Err fault) = Faults fault
cast s name (Ok None) = moves_in s.world s (replaced s.next s.frame 1 (Ref None ∷ []))
cast s name (Ok (Some birth)) = cast_if s birth (is_instance s name birth)

-- ---- instanceof: null is no instance

abbrev pub reported_if : Site → Bool → Completion
reported_if s true = moves_in s.world s (replaced s.next s.frame 1 (Int (pos 1) ∷ []))
reported_if s false = moves_in s.world s (replaced s.next s.frame 1 (Int (pos 0) ∷ []))

abbrev pub tested : Site → List ℕ → Result (Option ℕ) Fault → Completion
tested s name (Err fault) = Faults fault
tested s name (Ok None) = reported_if s false
tested s name (Ok (Some birth)) = reported_if s (is_instance s name birth)

-- new, checkcast and instanceof (JVMS 6.5)
abbrev pub class_operated : Site → ClassOperation → List ℕ → Completion
class_operated s New name = Creates s.next 0 (new_instance s.program name)
class_operated s CheckCast name = cast s name (ref_on s.frame.stack)
class_operated s InstanceOf name = tested s name (ref_on s.frame.stack)
