-- Worked rows of new, checkcast and instanceof (JVMS 6.5).
use Rattle.std.specs.Prelude.{◌≡◌, ℕ, pos, List, [], ◌∷◌, Some, codes, refl}
use Rattle.model.specs.declared.instructions.ClassOperation.TheVariants.{New, CheckCast, InstanceOf}
use Rattle.model.specs.declared.turns.Exception.TheVariants.{ClassCast}
use Rattle.model.specs.declared.turns.Fault.TheVariants.{StackEmpty, WrongKind}
use Rattle.model.specs.declared.values.Value.{Value}
use Rattle.model.specs.declared.values.Value.TheVariants.{Int, Long, Ref}
use Rattle.model.specs.Classes.Builtin.{builtin_classes}
use Rattle.model.specs.Classes.Search.{upwards}
use Rattle.model.specs.Classes.Subclasses.{is_within}
use Rattle.model.specs.Classes.Types.{is_subtype_within}
use Rattle.model.specs.Worlds.Contents.{Instance}
use Rattle.model.specs.Completions.{Completion}
use Rattle.model.specs.Completions.Completion.{Creates, Raises, Faults}
use Rattle.model.specs.Table.Objects.{class_operated}
use Rattle.model.proofs.TableRows.HeapSites.{k_fields, null, site, stack_after, pc_after, writes_of}

-- ---- new: the superclass's fields first, each class's in file order, none of them static, all 0 or null

made : class_operated (site 1 []) New (codes "K")
    ≡ Creates 9 0 (Instance (codes "K") (k_fields (Int (pos 0)) (Int (pos 0)) (Long (pos 0)) null))
unfolding builtin_classes upwards
made = refl

-- a class of the machine's own has no field
made-object : class_operated (site 1 []) New (codes "java/lang/Object")
    ≡ Creates 9 0 (Instance (codes "java/lang/Object") [])
unfolding builtin_classes upwards
made-object = refl

-- ---- checkcast: births 3, 4, 7 and 8 are a K, a P, an array of Ks and one of arrays of ints

abbrev casts : List ℕ → List Value → Completion
casts name stack = class_operated (site 2 stack) CheckCast name

-- to a superclass, and to an interface: the reference is pushed again, and so written
cast : stack_after (casts (codes "P") (Ref (Some 3) ∷ null ∷ [])) ≡ Ref (Some 3) ∷ null ∷ []
unfolding builtin_classes is_within is_subtype_within
cast = refl

cast-writes : writes_of (casts (codes "P") (Ref (Some 3) ∷ [])) ≡ 3 ∷ []
unfolding builtin_classes is_within is_subtype_within
cast-writes = refl

cast-pc : pc_after (casts (codes "I") (Ref (Some 3) ∷ [])) ≡ 9
unfolding builtin_classes is_within is_subtype_within
cast-pc = refl

-- null passes, to whatever class
cast-null : stack_after (casts (codes "K") (null ∷ [])) ≡ null ∷ []
cast-null = refl

cast-empty : casts (codes "K") [] ≡ Faults StackEmpty
cast-empty = refl

cast-int : casts (codes "K") (Int (pos 3) ∷ []) ≡ Faults WrongKind
cast-int = refl

cast-below : casts (codes "K") (Ref (Some 4) ∷ []) ≡ Raises ClassCast
unfolding builtin_classes is_within is_subtype_within
cast-below = refl

-- ---- instanceof

abbrev tests : List ℕ → ℕ → List Value
tests name birth = stack_after (class_operated (site 1 (Ref (Some birth) ∷ [])) InstanceOf name)

tested : tests (codes "P") 3 ≡ Int (pos 1) ∷ []
unfolding builtin_classes is_within is_subtype_within
tested = refl

tested-interface : tests (codes "I") 3 ≡ Int (pos 1) ∷ []
unfolding builtin_classes is_within is_subtype_within
tested-interface = refl

tested-below : tests (codes "K") 4 ≡ Int (pos 0) ∷ []
unfolding builtin_classes is_within is_subtype_within
tested-below = refl

-- an array of Ks is one of Ps, and an Object, and no array of ints
tested-array : tests (codes "[LP;") 7 ≡ Int (pos 1) ∷ []
unfolding builtin_classes is_within is_subtype_within
tested-array = refl

tested-object : tests (codes "java/lang/Object") 7 ≡ Int (pos 1) ∷ []
unfolding builtin_classes is_within is_subtype_within
tested-object = refl

tested-numbers : tests (codes "[I") 7 ≡ Int (pos 0) ∷ []
unfolding builtin_classes is_within is_subtype_within
tested-numbers = refl

tested-arrays : tests (codes "[[I") 8 ≡ Int (pos 1) ∷ []
unfolding builtin_classes is_within is_subtype_within
tested-arrays = refl

-- null is no instance
tested-null : stack_after (class_operated (site 1 (null ∷ [])) InstanceOf (codes "K")) ≡ Int (pos 0) ∷ []
tested-null = refl

tested-empty : class_operated (site 1 []) InstanceOf (codes "K") ≡ Faults StackEmpty
tested-empty = refl

tested-long : class_operated (site 2 (Long (pos 3) ∷ [])) InstanceOf (codes "K") ≡ Faults WrongKind
tested-long = refl
