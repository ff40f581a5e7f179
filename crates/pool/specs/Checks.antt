-- Tests of what entries name, as their answers are given.
use Rattle.std.specs.Prelude.{ℕ, Bool, false, List, Option, Some, None, Result, Ok, Err}
use Rattle.model.specs.declared.class_files.FormatFault.{FormatFault}
use Rattle.model.specs.ClassFiles.References.{is_field, is_method}
use Rattle.pool.specs.declared.references.MemberKind.{MemberKind}
use Rattle.pool.specs.declared.references.MemberKind.TheVariants.{Field, Method}

-- the fault that a test told
abbrev pub fault_in : {A : Type 0} → Result A FormatFault → Option FormatFault
fault_in (Ok x) = None
fault_in (Err fault) = Some fault

-- what a member's name and descriptor are to pass
abbrev pub member_test : MemberKind → List ℕ → List ℕ → Bool
member_test Field = is_field
member_test Method = is_method

-- two texts pass a test together
abbrev pub both_pass : (List ℕ → List ℕ → Bool) → Option (List ℕ) → Option (List ℕ) → Bool
both_pass test None descriptor = false
both_pass test (Some name) None = false
both_pass test (Some name) (Some descriptor) = test name descriptor
