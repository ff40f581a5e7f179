-- Worked rows of getfield and putfield (JVMS 6.5).
use Rattle.std.specs.Prelude.{◌≡◌, pos, negsuc, List, [], ◌∷◌, Some, codes, refl}
use Rattle.std.specs.Int.{int_wrap}
use Rattle.model.specs.declared.instructions.Access.TheVariants.{Get, Put}
use Rattle.model.specs.declared.names.Member.{Member}
use Rattle.model.specs.declared.turns.Exception.TheVariants.{NullPointer}
use Rattle.model.specs.declared.turns.Fault.TheVariants.{StackEmpty, StackFull, WrongKind, WrongClass}
use Rattle.model.specs.declared.values.Value.{Value}
use Rattle.model.specs.declared.values.Value.TheVariants.{Int, Long, Ref}
use Rattle.model.specs.Classes.Builtin.{builtin_classes}
use Rattle.model.specs.Classes.Search.{upwards, interfaces_from}
use Rattle.model.specs.Classes.Subclasses.{is_within}
use Rattle.model.specs.Classes.Types.{is_subtype_within}
use Rattle.model.specs.Worlds.{Contents}
use Rattle.model.specs.Worlds.Contents.{Instance}
use Rattle.model.specs.Completions.{Completion}
use Rattle.model.specs.Completions.Completion.{Raises, Faults}
use Rattle.model.specs.Words.{contents_at}
use Rattle.model.specs.Table.Fields.{field_accessed}
use Rattle.model.proofs.TableRows.HeapSites.{member, k_fields, null, site, after_of, stack_after, pc_after, writes_of}

-- births: 3 is a K with x = 7, y = -1, l = 9 and itself in n; 4 is a P; 5 is an array
abbrev x : Member
x = member (codes "K") (codes "x") (codes "I")

abbrev y : Member
y = member (codes "K") (codes "y") (codes "B")

abbrev l : Member
l = member (codes "K") (codes "l") (codes "J")

abbrev n : Member
n = member (codes "K") (codes "n") (codes "LK;")

-- ---- getfield

abbrev gets : Member → List Value → Completion
gets m stack = field_accessed (site 2 stack) Get m

-- a field that the superclass declares, in place of the object
got : stack_after (gets x (Ref (Some 3) ∷ null ∷ [])) ≡ Int (pos 7) ∷ null ∷ []
unfolding builtin_classes upwards interfaces_from is_within is_subtype_within
got = refl

got-pc : pc_after (gets x (Ref (Some 3) ∷ [])) ≡ 9
unfolding builtin_classes upwards interfaces_from is_within is_subtype_within
got-pc = refl

-- a reference that is got is written
got-reference : stack_after (gets n (Ref (Some 3) ∷ [])) ≡ Ref (Some 3) ∷ []
unfolding builtin_classes upwards interfaces_from is_within is_subtype_within
got-reference = refl

got-writes : writes_of (gets n (Ref (Some 3) ∷ [])) ≡ 3 ∷ []
unfolding builtin_classes upwards interfaces_from is_within is_subtype_within
got-writes = refl

-- F1, F3, null, F6 of an object above the class and of an array, and last F2
got-empty : gets x [] ≡ Faults StackEmpty
unfolding builtin_classes upwards interfaces_from is_within is_subtype_within
got-empty = refl

got-int : gets x (Int (pos 3) ∷ []) ≡ Faults WrongKind
unfolding builtin_classes upwards interfaces_from is_within is_subtype_within
got-int = refl

got-null : gets l (null ∷ null ∷ []) ≡ Raises NullPointer
unfolding builtin_classes upwards interfaces_from is_within is_subtype_within
got-null = refl

got-above : gets l (Ref (Some 4) ∷ null ∷ []) ≡ Faults WrongClass
unfolding builtin_classes upwards interfaces_from is_within is_subtype_within
got-above = refl

got-array : gets l (Ref (Some 5) ∷ null ∷ []) ≡ Faults WrongClass
unfolding builtin_classes upwards interfaces_from is_within is_subtype_within
got-array = refl

got-full : gets l (Ref (Some 3) ∷ null ∷ []) ≡ Faults StackFull
unfolding builtin_classes upwards interfaces_from is_within is_subtype_within
got-full = refl

-- an object of a subclass has the fields of the class named
got-below : stack_after (gets (member (codes "P") (codes "x") (codes "I")) (Ref (Some 3) ∷ [])) ≡ Int (pos 7) ∷ []
unfolding builtin_classes upwards interfaces_from is_within is_subtype_within
got-below = refl

-- ---- putfield: the value lies above the object

abbrev puts : Member → List Value → Completion
puts m stack = field_accessed (site 3 stack) Put m

abbrev third_after : Completion → Contents
third_after c = contents_at (after_of c) 3

-- 200 in a byte is -56, and both operands are gone
put-byte : third_after (puts y (Int (pos 200) ∷ Ref (Some 3) ∷ null ∷ []))
    ≡ Instance (codes "K") (k_fields (Int (pos 7)) (Int (negsuc 55)) (Long (pos 9)) (Ref (Some 3)))
unfolding builtin_classes upwards interfaces_from is_within is_subtype_within int_wrap
put-byte = refl

put-stack : stack_after (puts y (Int (pos 200) ∷ Ref (Some 3) ∷ null ∷ [])) ≡ null ∷ []
unfolding builtin_classes upwards interfaces_from is_within is_subtype_within
put-stack = refl

-- a reference that is put is written; its class isn't tested
put-reference : third_after (puts n (Ref (Some 4) ∷ Ref (Some 3) ∷ []))
    ≡ Instance (codes "K") (k_fields (Int (pos 7)) (Int (negsuc 0)) (Long (pos 9)) (Ref (Some 4)))
unfolding builtin_classes upwards interfaces_from is_within is_subtype_within
put-reference = refl

put-writes : writes_of (puts n (Ref (Some 4) ∷ Ref (Some 3) ∷ [])) ≡ 4 ∷ []
unfolding builtin_classes upwards interfaces_from is_within is_subtype_within
put-writes = refl

-- the value's F1 and F3, then the object's, then null, then F6
put-empty : puts y [] ≡ Faults StackEmpty
unfolding builtin_classes upwards interfaces_from is_within is_subtype_within
put-empty = refl

put-null_as_int : puts y (null ∷ []) ≡ Faults WrongKind
unfolding builtin_classes upwards interfaces_from is_within is_subtype_within
put-null_as_int = refl

put-no_object : puts y (Int (pos 1) ∷ []) ≡ Faults StackEmpty
unfolding builtin_classes upwards interfaces_from is_within is_subtype_within
put-no_object = refl

put-int_as_object : puts y (Int (pos 1) ∷ Int (pos 3) ∷ []) ≡ Faults WrongKind
unfolding builtin_classes upwards interfaces_from is_within is_subtype_within
put-int_as_object = refl

put-null : puts y (Int (pos 1) ∷ null ∷ []) ≡ Raises NullPointer
unfolding builtin_classes upwards interfaces_from is_within is_subtype_within
put-null = refl

put-above : puts y (Int (pos 1) ∷ Ref (Some 4) ∷ []) ≡ Faults WrongClass
unfolding builtin_classes upwards interfaces_from is_within is_subtype_within
put-above = refl
