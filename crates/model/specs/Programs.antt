use Rattle.std.specs.Prelude.{ℕ, List, [], ◌∷◌, length, slice_get, Option, Some, None, is_some, Bool, ◌&&◌, ◌==◌, codes}
use Rattle.std.specs.Prelude.{cond, position}
use Rattle.std.specs.Option.{option_map, option_and_then}
use Rattle.std.specs.Str.{bytes_eq}
use Rattle.std.specs.List.{find}
use Rattle.model.specs.declared.listings.Method.{Method}
use Rattle.model.specs.declared.listings.Placed.{Placed}
use Rattle.model.specs.declared.names.Member.{Member}
use Rattle.model.specs.declared.builtins.Builtin.{Builtin}
use Rattle.model.specs.declared.builtins.Builtin.TheVariants.{PrintInt, PrintLong, PutByte, Initialize, RunThread}
use Rattle.model.specs.declared.builtins.Builtin.TheVariants.{StartThread, JoinThread}
use Rattle.model.specs.CodeListings.{CodeListing}
use Rattle.model.specs.ClassListings.{ClassListing}
use Rattle.model.specs.declared.instructions.Instruction.TheVariants.{Return}
use Rattle.model.specs.Classes.Flags.{is_static}
use Rattle.model.specs.Classes.Named.{builtin, or_else}
use Rattle.model.specs.declared.places.MethodPlace.{MethodPlace}
use Rattle.model.specs.Frames.{Frame}

-- A program is a list of class listings.

-- ---- methods by their places

-- a class initializer (JVMS 2.9)
abbrev pub is_class_initializer : Method → Bool
is_class_initializer m = bytes_eq m.name (codes "<clinit>")

-- the initializer of a class that declares none: a `return`, with limits 0
abbrev pub empty_initializer : Method
empty_initializer = record {
  flags = record { 0 = 8 };
  name = codes "<clinit>";
  descriptor = codes "()V";
  code = Some (record {
    max_stack = 0;
    max_locals = 0;
    rows = [];
    instructions = record {
      pc = 0;
      next = 1;
      instruction = Return None;
    } ∷ [];
  });
}

-- past the last method of a class stands its empty initializer
abbrev pub method_in : ClassListing → ℕ → Option Method
method_in c n = or_else (slice_get c.methods n) (cond (n == length c.methods) (Some empty_initializer) None)

abbrev pub method_at : List ClassListing → MethodPlace → Option Method
method_at program place = option_and_then (λ (c : ClassListing). method_in c place.method)
    (slice_get program place.class)

abbrev pub code_at : List ClassListing → MethodPlace → Option CodeListing
code_at program place = option_and_then (λ (m : Method). m.code) (method_at program place)

-- the instruction at a pc, with its pc and the next
abbrev pub placed_at : CodeListing → ℕ → Option Placed
placed_at code pc = find (λ (i : Placed). i.pc == pc) code.instructions

-- the instruction at which a frame stands
abbrev pub instruction_of : List ClassListing → Frame → Option Placed
instruction_of program f = option_and_then (λ code. placed_at code f.pc) (code_at program f.method)

-- ---- main

-- a static `main()V` with code (JVMS 5.2)
abbrev pub is_main : Method → Bool
is_main m = is_static m && is_some m.code && bytes_eq m.name (codes "main") && bytes_eq m.descriptor (codes "()V")

-- the place of the main method: in the first class
abbrev pub main_in : List ClassListing → Option MethodPlace
main_in [] = None
main_in (c ∷ cs) = option_map (λ (n : ℕ). record { class = 0; method = n }) (position is_main c.methods)

-- ---- the machine's own methods, by the class that declares them, name and descriptor

abbrev pub is_member : Member → List ℕ → List ℕ → List ℕ → Bool
is_member m class name descriptor = bytes_eq m.class class && bytes_eq m.name name && bytes_eq m.descriptor descriptor

-- all of them have an initializer but `vm/Sys`, which declares none
abbrev pub is_own_initializer : Member → Bool
is_own_initializer m = is_some (builtin m.class) && bytes_eq m.name (codes "<init>")
    && bytes_eq m.descriptor (codes "()V")

abbrev pub builtin_of : Member → Option Builtin
builtin_of m =
    cond (is_member m (codes "vm/Sys") (codes "print") (codes "(I)V")) (Some PrintInt)
    (cond (is_member m (codes "vm/Sys") (codes "printl") (codes "(J)V")) (Some PrintLong)
    (cond (is_member m (codes "vm/Sys") (codes "putc") (codes "(I)V")) (Some PutByte)
    (cond (is_member m (codes "java/lang/Thread") (codes "run") (codes "()V")) (Some RunThread)
    (cond (is_member m (codes "java/lang/Thread") (codes "start") (codes "()V")) (Some StartThread)
    (cond (is_member m (codes "java/lang/Thread") (codes "join") (codes "()V")) (Some JoinThread)
    (cond (is_own_initializer m) (Some Initialize) None))))))
