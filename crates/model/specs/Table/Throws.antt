use Rattle.std.specs.Prelude.{ℕ, codes, Option, Some, None, Result, Ok, Err, if◌then◌else◌}
use Rattle.model.specs.declared.turns.Fault.{Fault}
use Rattle.model.specs.declared.turns.Fault.TheVariants.{WrongClass}
use Rattle.model.specs.declared.turns.Exception.TheVariants.{NullPointer}
use Rattle.model.specs.Classes.Types.{is_subtype}
use Rattle.model.specs.Frames.{ref_on}
use Rattle.model.specs.Objects.{class_at}
use Rattle.model.specs.Completions.{Completion, Site, raises}
use Rattle.model.specs.Completions.Completion.{Throws, Faults}

abbrev pub throws : Site → Result (Option ℕ) Fault → Completion
throws s (Err fault) = Faults fault
throws s (Ok None) = raises NullPointer
throws s (Ok (Some birth)) = if is_subtype s.program (class_at s.world birth) (codes "java/lang/Throwable")
    then Throws birth else Faults WrongClass

-- athrow (JVMS 6.5): a null, then F6
abbrev pub threw : Site → Completion
threw s = throws s (ref_on s.frame.stack)
