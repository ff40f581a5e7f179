-- What programs of worked rows are written with: classes of one main, and runs of the ideal world by thread 0 alone.
use Rattle.std.proofs.Common.{◌≡◌, ◌∙◌, ap, arith}
use Rattle.std.specs.Prelude.{ℕ, zero, suc, ◌+◌, ℤ, List, [], ◌∷◌, Some, None, codes}
use Rattle.model.specs.declared.instructions.Constant.TheVariants.{Int as LoadInt, Long as LoadLong}
use Rattle.model.specs.declared.instructions.Width.TheVariants.{Narrow}
use Rattle.model.specs.declared.instructions.Invocation.TheVariants.{Static}
use Rattle.model.specs.declared.instructions.Instruction.TheVariants.{Constant, Return, Invoke}
use Rattle.model.specs.declared.journals.Limits.{Limits}
use Rattle.model.specs.declared.listings.Placed.{Placed}
use Rattle.model.specs.declared.turns.Actor.TheVariants.{Thread}
use Rattle.model.specs.ClassListings.{ClassListing}
use Rattle.model.specs.Worlds.{World, opening_world}
use Rattle.model.specs.Effects.Choice.{NewObject}
use Rattle.model.specs.Table.Next.{Listed}
use Rattle.model.specs.Turns.{ideal_step}

-- an instruction and its size in bytes
abbrev pub Sized : Type 0
Sized = ℕ × Listed

abbrev pub placed_from : ℕ → List Sized → List Placed
placed_from pc [] = []
placed_from pc (i ∷ is) = record { pc = pc; next = pc + i.0; instruction = i.1 } ∷ placed_from (pc + i.0) is

-- a class A whose static main has so much stack and so many locals
abbrev pub main_of : ℕ → ℕ → List Sized → List ClassListing
main_of stack locals code = record {
  name = codes "A";
  flags = record { 0 = 1 };
  superclass = codes "java/lang/Object";
  interfaces = [];
  fields = [];
  methods = record {
    flags = record { 0 = 9 };
    name = codes "main";
    descriptor = codes "()V";
    code = Some (record { max_stack = stack; max_locals = locals; rows = []; instructions = placed_from 0 code });
  } ∷ [];
} ∷ []

abbrev pub ldc : ℤ → Sized
ldc z = (2, Constant (LoadInt Narrow z))

abbrev pub ldc2_w : ℤ → Sized
ldc2_w z = (3, Constant (LoadLong z))

abbrev pub print : Sized
print = (3, Invoke Static (record { class = codes "vm/Sys"; name = codes "print"; descriptor = codes "(I)V" }))

abbrev pub printl : Sized
printl = (3, Invoke Static (record { class = codes "vm/Sys"; name = codes "printl"; descriptor = codes "(J)V" }))

abbrev pub return : Sized
return = (1, Return None)

abbrev pub ample : Limits
ample = record { steps = 1000000; output = 65536 }

-- the world after so many turns of thread 0 more, each of which gets the cell that it asks for
abbrev pub after : ℕ → List ClassListing → World → World
after zero program w = w
after (suc n) program w = after n program (ideal_step program ample w (Thread 0) NewObject)

abbrev pub run : ℕ → List ClassListing → World
run n program = after n program (opening_world program)

-- some turns, and then some more
pub more : (m n : ℕ) (program : List ClassListing) (w v u : World) → after m program w ≡ v → after n program v ≡ u
    → after (m + n) program w ≡ u
more zero n program w v u h k =
    let e : zero + n ≡ n = omega arith in rw e (ap (after n program) h ∙ k)
more (suc m) n program w v u h k =
    let e : suc m + n ≡ suc (m + n) = omega arith
    in rw e (more m n program (ideal_step program ample w (Thread 0) NewObject) v u h k)
