-- Worked rows of athrow (JVMS 6.5): birth 3 is an object of the class in question.
use Rattle.std.specs.Prelude.{◌≡◌, ℕ, pos, [], ◌∷◌, List, codes, Some, None, refl}
use Rattle.model.specs.declared.values.Value.{Value}
use Rattle.model.specs.declared.values.Value.TheVariants.{Int, Long, Ref}
use Rattle.model.specs.declared.turns.Fault.TheVariants.{StackEmpty, WrongKind, WrongClass}
use Rattle.model.specs.declared.turns.Exception.TheVariants.{NullPointer}
use Rattle.model.specs.ClassListings.{ClassListing}
use Rattle.model.specs.Classes.Builtin.{builtin_classes}
use Rattle.model.specs.Classes.Subclasses.{is_within}
use Rattle.model.specs.Classes.Types.{is_subtype_within}
use Rattle.model.specs.Worlds.{Object}
use Rattle.model.specs.Worlds.Contents.{Array}
use Rattle.model.specs.Worlds.Thread.{Live}
use Rattle.model.specs.Objects.{made_of}
use Rattle.model.specs.Completions.{Completion}
use Rattle.model.specs.Completions.Completion.{Throws, Raises, Faults}
use Rattle.model.specs.Table.Throws.{threw}
use Rattle.model.proofs.TableRows.Sites.{class, place, frame, object, world, site}

-- a class of exceptions, and one that is none
abbrev program : List ClassListing
program = class (codes "X") (codes "java/lang/ArithmeticException") [] [] ∷ class (codes "A") (codes "java/lang/Object")
    [] [] ∷ []

abbrev thrown_from : List Value → Object → Completion
thrown_from stack o = threw (site program (world (Live (frame (place 0 0) 5 [] stack 2 None ∷ []) ∷ []) (o ∷ []))
    (frame (place 0 0) 5 [] stack 2 None) 6)

abbrev of : List ℕ → Object
of name = object name None 0 None

throws_own : thrown_from (Ref (Some 3) ∷ Int (pos 1) ∷ []) (of (codes "java/lang/Throwable")) ≡ Throws 3
unfolding is_subtype_within is_within builtin_classes
throws_own = refl

throws_below : thrown_from (Ref (Some 3) ∷ []) (of (codes "X")) ≡ Throws 3
unfolding is_subtype_within is_within builtin_classes
throws_below = refl

-- the StackOverflowError that was made before the run
throws_made : thrown_from (Ref (Some 2) ∷ []) (of (codes "A")) ≡ Throws 2
unfolding is_subtype_within is_within builtin_classes
throws_made = refl

throws_null : thrown_from (Ref None ∷ []) (of (codes "A")) ≡ Raises NullPointer
throws_null = refl

throws_object : thrown_from (Ref (Some 3) ∷ []) (of (codes "A")) ≡ Faults WrongClass
unfolding is_subtype_within is_within builtin_classes
throws_object = refl

throws_array : thrown_from (Ref (Some 3) ∷ []) (made_of (Array (codes "I") (Int (pos 0) ∷ []))) ≡ Faults WrongClass
unfolding is_subtype_within is_within builtin_classes
throws_array = refl

throws_nothing : thrown_from [] (of (codes "X")) ≡ Faults StackEmpty
throws_nothing = refl

throws_int : thrown_from (Int (pos 3) ∷ []) (of (codes "X")) ≡ Faults WrongKind
throws_int = refl

throws_long : thrown_from (Long (pos 3) ∷ []) (of (codes "X")) ≡ Faults WrongKind
throws_long = refl
