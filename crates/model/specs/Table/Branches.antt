use Rattle.std.specs.Prelude.{ℕ, ℤ, pos, [], Bool, true, false, not, ◌==◌, Option, Some, None, Result, Ok, Err}
use Rattle.model.specs.declared.turns.Fault.{Fault}
use Rattle.model.specs.declared.turns.Abrupt.{Abrupt}
use Rattle.model.specs.declared.turns.Abrupt.TheVariants.{Fault as Faulted}
use Rattle.model.specs.declared.instructions.Comparison.{Comparison}
use Rattle.model.specs.declared.instructions.Identity.{Identity}
use Rattle.model.specs.declared.instructions.Identity.TheVariants.{Same, Different}
use Rattle.model.specs.declared.instructions.Test.{Test}
use Rattle.model.specs.declared.instructions.Test.TheVariants.{Always, Zero, Ints, Refs, Null}
use Rattle.model.specs.Arithmetic.{comparison_holds}
use Rattle.model.specs.Frames.{Frame, Moved, int_on, ref_on, two_ints_on, two_refs_on, replaced}

-- whether two references are one, both null among them
abbrev pub same_reference : Option ℕ → Option ℕ → Bool
same_reference None None = true
same_reference None (Some b) = false
same_reference (Some a) None = false
same_reference (Some a) (Some b) = a == b

abbrev pub identity_holds : Identity → Option ℕ → Option ℕ → Bool
identity_holds Same r s = same_reference r s
identity_holds Different r s = not (same_reference r s)

-- whether a branch is taken, by what it finds

abbrev pub zero_test : Comparison → Result ℤ Fault → Result Bool Fault
zero_test comparison (Err e) = Err e
zero_test comparison (Ok z) = Ok (comparison_holds comparison z (pos 0))

-- operands stand with the right one first
abbrev pub ints_test : Comparison → Result (ℤ × ℤ) Fault → Result Bool Fault
ints_test comparison (Err e) = Err e
ints_test comparison (Ok operands) = Ok (comparison_holds comparison operands.1 operands.0)

abbrev pub refs_test : Identity → Result (Option ℕ × Option ℕ) Fault → Result Bool Fault
refs_test identity (Err e) = Err e
refs_test identity (Ok operands) = Ok (identity_holds identity operands.1 operands.0)

abbrev pub null_test : Identity → Result (Option ℕ) Fault → Result Bool Fault
null_test identity (Err e) = Err e
null_test identity (Ok r) = Ok (identity_holds identity r None)

-- the target where the branch is taken, else the next instruction
abbrev pub branch_pc : ℕ → ℕ → Bool → ℕ
branch_pc next target true = target
branch_pc next target false = next

-- so many operands go
abbrev pub branched_on : ℕ → ℕ → Frame → ℕ → Result Bool Fault → Result Moved Abrupt
branched_on next target f n (Err e) = Err (Faulted e)
branched_on next target f n (Ok taken) = Ok (replaced (branch_pc next target taken) f n [])

-- branches (JVMS 6.5): ints compare signed, references by identity
abbrev pub branched : ℕ → Test → ℕ → Frame → Result Moved Abrupt
branched next (Always width) target f = Ok (replaced target f 0 [])
branched next (Zero comparison) target f = branched_on next target f 1 (zero_test comparison (int_on f.stack))
branched next (Ints comparison) target f = branched_on next target f 2 (ints_test comparison (two_ints_on f.stack))
branched next (Refs identity) target f = branched_on next target f 2 (refs_test identity (two_refs_on f.stack))
branched next (Null identity) target f = branched_on next target f 1 (null_test identity (ref_on f.stack))
