use Rattle.std.specs.Prelude.{ℕ, ◌+◌, List, [], ◌∷◌, Some, None, pos}
use Rattle.model.specs.declared.values.Kind.{Kind}
use Rattle.model.specs.declared.values.Kind.TheVariants.{Int as IntKind, Long as LongKind, Ref as RefKind}
use Rattle.model.specs.declared.values.Value.{Value}
use Rattle.model.specs.declared.values.Value.TheVariants.{Int, Long, Ref}

-- a long takes two units of a stack, every other value one (JVMS 2.6.2)
abbrev pub units_of : Value → ℕ
units_of (Int z) = 1
units_of (Long z) = 2
units_of (Ref r) = 1

abbrev pub units_of_all : List Value → ℕ
units_of_all [] = 0
units_of_all (v ∷ vs) = units_of v + units_of_all vs

-- the births among values, in order
abbrev pub births_of : List Value → List ℕ
births_of [] = []
births_of (Int z ∷ vs) = births_of vs
births_of (Long z ∷ vs) = births_of vs
births_of (Ref None ∷ vs) = births_of vs
births_of (Ref (Some b) ∷ vs) = b ∷ births_of vs

-- what a field, a static or an element is before it is written (JVMS 2.3, 2.4)
abbrev pub default_of : Kind → Value
default_of IntKind = Int (pos 0)
default_of LongKind = Long (pos 0)
default_of RefKind = Ref None
