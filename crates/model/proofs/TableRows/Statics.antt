-- Worked rows of getstatic and putstatic (JVMS 6.5, 4.7.2).
use Rattle.std.specs.Prelude.{◌≡◌, pos, negsuc, List, [], ◌∷◌, map, Some, codes, refl}
use Rattle.std.specs.Int.{int_wrap}
use Rattle.model.specs.declared.instructions.Access.TheVariants.{Get, Put}
use Rattle.model.specs.declared.names.Member.{Member}
use Rattle.model.specs.declared.turns.Fault.TheVariants.{StackEmpty, StackFull, WrongKind}
use Rattle.model.specs.declared.values.Value.{Value}
use Rattle.model.specs.declared.values.Value.TheVariants.{Int, Long, Ref}
use Rattle.model.specs.Classes.Builtin.{builtin_classes}
use Rattle.model.specs.Classes.Search.{upwards, interfaces_from}
use Rattle.model.specs.Worlds.{FieldValue, opening_slots}
use Rattle.model.specs.Completions.{Completion}
use Rattle.model.specs.Completions.Completion.{Faults}
use Rattle.model.specs.Table.Statics.{static_accessed}
use Rattle.model.proofs.TableRows.HeapSites.{classes, member, field_value, null, site, after_of, stack_after, pc_after}
use Rattle.model.proofs.TableRows.HeapSites.{writes_of}

-- ---- the slots at first: by class and field order, constants as a store keeps them (40000 in a short, 200 in a byte
-- and -1 in a char are -25536, -56 and 65535), the others null or 0

slots_at_first : opening_slots classes ≡ field_value (codes "P") (codes "s") (codes "S") (Int (negsuc 25535))
    ∷ field_value (codes "K") (codes "b") (codes "B") (Int (negsuc 55)) ∷ field_value (codes "K") (codes "c")
    (codes "C") (Int (pos 65535)) ∷ field_value (codes "K") (codes "j") (codes "J") (Long (pos 5))
    ∷ field_value (codes "K") (codes "r") (codes "LK;") null ∷ field_value (codes "K") (codes "i") (codes "I")
    (Int (pos 0)) ∷ []
unfolding int_wrap
slots_at_first = refl

-- ---- getstatic

abbrev gets : Member → List Value → Completion
gets m stack = static_accessed (site 2 stack) Get m

-- an int on top of what is there, and the next instruction
got : stack_after (gets (member (codes "K") (codes "b") (codes "B")) (null ∷ [])) ≡ Int (negsuc 55) ∷ null ∷ []
unfolding builtin_classes upwards interfaces_from int_wrap
got = refl

got-pc : pc_after (gets (member (codes "K") (codes "b") (codes "B")) []) ≡ 9
unfolding builtin_classes upwards interfaces_from int_wrap
got-pc = refl

-- a field that the superclass declares has its slot
got-above : stack_after (gets (member (codes "K") (codes "s") (codes "S")) []) ≡ Int (negsuc 25535) ∷ []
unfolding builtin_classes upwards interfaces_from int_wrap
got-above = refl

-- a long takes two units: with one value there it has no room in two
got-long : stack_after (gets (member (codes "K") (codes "j") (codes "J")) []) ≡ Long (pos 5) ∷ []
unfolding builtin_classes upwards interfaces_from int_wrap
got-long = refl

got-full : gets (member (codes "K") (codes "j") (codes "J")) (null ∷ []) ≡ Faults StackFull
unfolding builtin_classes upwards interfaces_from int_wrap
got-full = refl

-- ---- putstatic

abbrev puts_b : List Value → Completion
puts_b stack = static_accessed (site 2 stack) Put (member (codes "K") (codes "b") (codes "B"))

abbrev puts_j : List Value → Completion
puts_j stack = static_accessed (site 2 stack) Put (member (codes "K") (codes "j") (codes "J"))

abbrev puts_r : List Value → Completion
puts_r stack = static_accessed (site 2 stack) Put (member (codes "K") (codes "r") (codes "LK;"))

abbrev slots_after : Completion → List Value
slots_after c = map (λ (f : FieldValue). f.value) (after_of c).statics.fields

-- 384 in a byte is -128, and the operand is gone
put-byte : slots_after (puts_b (Int (pos 384) ∷ null ∷ [])) ≡ Int (negsuc 25535) ∷ Int (negsuc 127) ∷ Int (pos 65535)
    ∷ Long (pos 5) ∷ null ∷ Int (pos 0) ∷ []
unfolding builtin_classes upwards interfaces_from int_wrap
put-byte = refl

put-stack : stack_after (puts_b (Int (pos 384) ∷ null ∷ [])) ≡ null ∷ []
unfolding builtin_classes upwards interfaces_from int_wrap
put-stack = refl

-- a reference that is put is written
put-reference : slots_after (puts_r (Ref (Some 3) ∷ [])) ≡ Int (negsuc 25535) ∷ Int (negsuc 55) ∷ Int (pos 65535)
    ∷ Long (pos 5) ∷ Ref (Some 3) ∷ Int (pos 0) ∷ []
unfolding builtin_classes upwards interfaces_from int_wrap
put-reference = refl

put-writes : writes_of (puts_r (Ref (Some 3) ∷ [])) ≡ 3 ∷ []
unfolding builtin_classes upwards interfaces_from int_wrap
put-writes = refl

-- F1, and F3 by the field's kind
put-empty : puts_j [] ≡ Faults StackEmpty
unfolding builtin_classes upwards interfaces_from int_wrap
put-empty = refl

put-int_as_long : puts_j (Int (pos 1) ∷ []) ≡ Faults WrongKind
unfolding builtin_classes upwards interfaces_from int_wrap
put-int_as_long = refl

put-null_as_int : puts_b (null ∷ []) ≡ Faults WrongKind
unfolding builtin_classes upwards interfaces_from int_wrap
put-null_as_int = refl
