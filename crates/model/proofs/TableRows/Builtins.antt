-- Worked rows of the machine's own methods: what they print, and those that do nothing.
use Rattle.std.specs.Prelude.{◌≡◌, ℕ, pos, negsuc, [], ◌∷◌, List, codes, Some, None, refl}
use Rattle.std.specs.Int.{int_wrap}
use Rattle.std.specs.Fmt.{digits}
use Rattle.model.specs.declared.values.Value.{Value}
use Rattle.model.specs.declared.values.Value.TheVariants.{Int, Long, Ref}
use Rattle.model.specs.declared.turns.Fault.TheVariants.{StackEmpty, WrongKind}
use Rattle.model.specs.declared.instructions.Invocation.{Invocation}
use Rattle.model.specs.declared.instructions.Invocation.TheVariants.{Virtual, Static}
use Rattle.model.specs.ClassListings.{ClassListing}
use Rattle.model.specs.Classes.Builtin.{builtin_classes}
use Rattle.model.specs.Classes.Search.{upwards, interfaces_from}
use Rattle.model.specs.Classes.Subclasses.{is_within}
use Rattle.model.specs.Classes.Types.{is_subtype_within}
use Rattle.model.specs.Frames.{Frame}
use Rattle.model.specs.Worlds.{World}
use Rattle.model.specs.Worlds.Thread.{Live}
use Rattle.model.specs.Completions.{Completion}
use Rattle.model.specs.Completions.Completion.{Goes, Prints, Faults}
use Rattle.model.specs.Table.Invokes.{invoked}
use Rattle.model.proofs.TableRows.Sites.{class, member, place, frame, object, world, site}

-- a class over vm/Sys, by which its methods are found too
abbrev program : List ClassListing
program = class (codes "E") (codes "vm/Sys") [] [] ∷ []

abbrev at : ℕ → List Value → Frame
at pc stack = frame (place 0 0) pc [] stack 4 None

-- birth 3 is a Thread
abbrev standing : ℕ → List Value → World
standing pc stack = world (Live (at pc stack ∷ []) ∷ []) (object (codes "java/lang/Thread") None 0 None ∷ [])

abbrev calls : Invocation → List Value → List ℕ → List ℕ → List ℕ → Completion
calls how stack class name descriptor = invoked (site program (standing 6 stack) (at 6 stack) 9) how
    (member class name descriptor)

-- the operand goes; the bytes come after the output
abbrev prints : List Value → List ℕ → Completion
prints stack bytes = Prints (standing 9 stack) bytes

print_least : calls Static (Int (negsuc 2147483647) ∷ Int (pos 1) ∷ []) (codes "vm/Sys") (codes "print") (codes "(I)V")
    ≡ prints (Int (pos 1) ∷ []) (codes "-2147483648\n")
unfolding upwards interfaces_from is_within is_subtype_within builtin_classes digits
print_least = refl

print_zero : calls Static (Int (pos 0) ∷ []) (codes "E") (codes "print") (codes "(I)V") ≡ prints [] (codes "0\n")
unfolding upwards interfaces_from is_within is_subtype_within builtin_classes digits
print_zero = refl

printl_greatest : calls Static (Long (pos 9223372036854775807) ∷ Int (pos 1) ∷ []) (codes "vm/Sys") (codes "printl")
    (codes "(J)V") ≡ prints (Int (pos 1) ∷ []) (codes "9223372036854775807\n")
unfolding upwards interfaces_from is_within is_subtype_within builtin_classes digits
printl_greatest = refl

-- the low 8 bits alone, and no newline: 321 is 256 and 65
putc_low : calls Static (Int (pos 321) ∷ []) (codes "vm/Sys") (codes "putc") (codes "(I)V") ≡ prints [] (codes "A")
unfolding upwards interfaces_from is_within is_subtype_within builtin_classes int_wrap
putc_low = refl

putc_minus_one : calls Static (Int (negsuc 0) ∷ []) (codes "vm/Sys") (codes "putc") (codes "(I)V")
    ≡ prints [] (255 ∷ [])
unfolding upwards interfaces_from is_within is_subtype_within builtin_classes int_wrap
putc_minus_one = refl

print_nothing : calls Static [] (codes "vm/Sys") (codes "print") (codes "(I)V") ≡ Faults StackEmpty
print_nothing = refl

print_long : calls Static (Long (pos 1) ∷ []) (codes "vm/Sys") (codes "print") (codes "(I)V") ≡ Faults WrongKind
print_long = refl

printl_int : calls Static (Int (pos 1) ∷ []) (codes "vm/Sys") (codes "printl") (codes "(J)V") ≡ Faults WrongKind
printl_int = refl

putc_ref : calls Static (Ref None ∷ []) (codes "vm/Sys") (codes "putc") (codes "(I)V") ≡ Faults WrongKind
putc_ref = refl

-- the object goes, and nothing else changes
run_own : calls Virtual (Ref (Some 3) ∷ Int (pos 1) ∷ []) (codes "java/lang/Thread") (codes "run") (codes "()V")
    ≡ Goes (standing 9 (Int (pos 1) ∷ [])) []
unfolding upwards interfaces_from is_within is_subtype_within builtin_classes
run_own = refl
