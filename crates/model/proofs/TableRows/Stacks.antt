-- Worked pops, copies and swaps, each in every form that JVMS 6.5 gives it. Stacks are written top first; the frame
-- stands at pc 3, and the next instruction at pc 4.
use Rattle.std.specs.Prelude.{◌≡◌, ℕ, pos, List, [], ◌∷◌, Result, Some, refl}
use Rattle.model.specs.declared.values.Value.{Value}
use Rattle.model.specs.declared.values.Value.TheVariants.{Int, Long, Ref}
use Rattle.model.specs.declared.turns.Fault.TheVariants.{StackEmpty, StackFull, WrongKind}
use Rattle.model.specs.declared.turns.Abrupt.{Abrupt}
use Rattle.model.specs.declared.instructions.StackOperation.{StackOperation}
use Rattle.model.specs.declared.instructions.StackOperation.TheVariants.{Pop, Pop2, Dup, DupX1, DupX2, Dup2, Dup2X1}
use Rattle.model.specs.declared.instructions.StackOperation.TheVariants.{Dup2X2, Swap}
use Rattle.model.specs.Frames.{Moved}
use Rattle.model.specs.Table.Stacks.{rearranged}
use Rattle.model.proofs.TableRows.Worked.{frame, goes, fails}

-- values of category 1, of which two are references, and longs
abbrev a : Value
a = Int (pos 1)

abbrev b : Value
b = Ref (Some 5)

abbrev c : Value
c = Ref (Some 6)

abbrev d : Value
d = Int (pos 4)

abbrev seven : Value
seven = Long (pos 7)

abbrev nine : Value
nine = Long (pos 9)

-- an operation on a stack with room for so many units
abbrev on : StackOperation → List Value → ℕ → Result Moved Abrupt
on operation stack room = rearranged 4 operation (frame 3 [] stack room)

abbrev gives : List Value → ℕ → List ℕ → Result Moved Abrupt
gives stack room writes = goes (frame 4 [] stack room) writes

-- ---- one unit goes, or two

pub pop_of_one : on Pop (b ∷ a ∷ []) 8 ≡ gives (a ∷ []) 8 []
pop_of_one = refl

pub pop_of_nothing : on Pop [] 8 ≡ fails StackEmpty
pop_of_nothing = refl

pub pop_of_a_long : on Pop (seven ∷ a ∷ []) 8 ≡ fails WrongKind
pop_of_a_long = refl

pub pop2_of_two : on Pop2 (a ∷ b ∷ c ∷ []) 8 ≡ gives (c ∷ []) 8 []
pop2_of_two = refl

pub pop2_of_a_long : on Pop2 (seven ∷ c ∷ []) 8 ≡ gives (c ∷ []) 8 []
pop2_of_a_long = refl

pub pop2_of_nothing : on Pop2 [] 8 ≡ fails StackEmpty
pop2_of_nothing = refl

pub pop2_of_one : on Pop2 (a ∷ []) 8 ≡ fails StackEmpty
pop2_of_one = refl

pub pop2_of_half_a_long : on Pop2 (a ∷ seven ∷ []) 8 ≡ fails WrongKind
pop2_of_half_a_long = refl

-- ---- a value of one unit is copied

pub dup_of_one : on Dup (b ∷ a ∷ []) 8 ≡ gives (b ∷ b ∷ a ∷ []) 8 (5 ∷ 5 ∷ [])
dup_of_one = refl

pub dup_of_nothing : on Dup [] 8 ≡ fails StackEmpty
dup_of_nothing = refl

pub dup_of_a_long : on Dup (seven ∷ []) 8 ≡ fails WrongKind
dup_of_a_long = refl

pub dup_without_room : on Dup (a ∷ []) 1 ≡ fails StackFull
dup_without_room = refl

-- the kind before the room

pub dup_of_a_long_without_room : on Dup (seven ∷ []) 2 ≡ fails WrongKind
dup_of_a_long_without_room = refl

pub dup_x1_of_two : on DupX1 (b ∷ c ∷ a ∷ []) 8 ≡ gives (b ∷ c ∷ b ∷ a ∷ []) 8 (5 ∷ 6 ∷ 5 ∷ [])
dup_x1_of_two = refl

pub dup_x1_of_nothing : on DupX1 [] 8 ≡ fails StackEmpty
dup_x1_of_nothing = refl

pub dup_x1_of_one : on DupX1 (a ∷ []) 8 ≡ fails StackEmpty
dup_x1_of_one = refl

pub dup_x1_of_a_long : on DupX1 (seven ∷ a ∷ []) 8 ≡ fails WrongKind
dup_x1_of_a_long = refl

pub dup_x1_over_a_long : on DupX1 (a ∷ seven ∷ []) 8 ≡ fails WrongKind
dup_x1_over_a_long = refl

pub dup_x1_without_room : on DupX1 (a ∷ b ∷ []) 2 ≡ fails StackFull
dup_x1_without_room = refl

-- the top before what lies below it

pub dup_x1_of_a_long_alone : on DupX1 (seven ∷ []) 8 ≡ fails WrongKind
dup_x1_of_a_long_alone = refl

pub dup_x2_over_two : on DupX2 (b ∷ a ∷ c ∷ d ∷ []) 8 ≡ gives (b ∷ a ∷ c ∷ b ∷ d ∷ []) 8 (5 ∷ 6 ∷ 5 ∷ [])
dup_x2_over_two = refl

pub dup_x2_over_a_long : on DupX2 (b ∷ seven ∷ d ∷ []) 8 ≡ gives (b ∷ seven ∷ b ∷ d ∷ []) 8 (5 ∷ 5 ∷ [])
dup_x2_over_a_long = refl

pub dup_x2_of_nothing : on DupX2 [] 8 ≡ fails StackEmpty
dup_x2_of_nothing = refl

pub dup_x2_of_one : on DupX2 (a ∷ []) 8 ≡ fails StackEmpty
dup_x2_of_one = refl

pub dup_x2_of_two : on DupX2 (a ∷ b ∷ []) 8 ≡ fails StackEmpty
dup_x2_of_two = refl

pub dup_x2_of_a_long : on DupX2 (seven ∷ a ∷ b ∷ []) 8 ≡ fails WrongKind
dup_x2_of_a_long = refl

pub dup_x2_over_half_a_long : on DupX2 (a ∷ b ∷ seven ∷ []) 8 ≡ fails WrongKind
dup_x2_over_half_a_long = refl

pub dup_x2_without_room : on DupX2 (a ∷ seven ∷ []) 3 ≡ fails StackFull
dup_x2_without_room = refl

-- ---- two units are copied

pub dup2_of_two : on Dup2 (a ∷ b ∷ c ∷ []) 8 ≡ gives (a ∷ b ∷ a ∷ b ∷ c ∷ []) 8 (5 ∷ 5 ∷ [])
dup2_of_two = refl

pub dup2_of_a_long : on Dup2 (seven ∷ a ∷ []) 8 ≡ gives (seven ∷ seven ∷ a ∷ []) 8 []
dup2_of_a_long = refl

pub dup2_of_nothing : on Dup2 [] 8 ≡ fails StackEmpty
dup2_of_nothing = refl

pub dup2_of_one : on Dup2 (a ∷ []) 8 ≡ fails StackEmpty
dup2_of_one = refl

pub dup2_of_half_a_long : on Dup2 (a ∷ seven ∷ []) 8 ≡ fails WrongKind
dup2_of_half_a_long = refl

pub dup2_without_room : on Dup2 (seven ∷ []) 3 ≡ fails StackFull
dup2_without_room = refl

pub dup2_x1_of_two : on Dup2X1 (a ∷ b ∷ c ∷ d ∷ []) 8 ≡ gives (a ∷ b ∷ c ∷ a ∷ b ∷ d ∷ []) 8 (5 ∷ 6 ∷ 5 ∷ [])
dup2_x1_of_two = refl

pub dup2_x1_of_a_long : on Dup2X1 (seven ∷ b ∷ d ∷ []) 8 ≡ gives (seven ∷ b ∷ seven ∷ d ∷ []) 8 (5 ∷ [])
dup2_x1_of_a_long = refl

pub dup2_x1_of_nothing : on Dup2X1 [] 8 ≡ fails StackEmpty
dup2_x1_of_nothing = refl

pub dup2_x1_of_one : on Dup2X1 (a ∷ []) 8 ≡ fails StackEmpty
dup2_x1_of_one = refl

pub dup2_x1_over_nothing : on Dup2X1 (a ∷ b ∷ []) 8 ≡ fails StackEmpty
dup2_x1_over_nothing = refl

pub dup2_x1_of_a_long_over_nothing : on Dup2X1 (seven ∷ []) 8 ≡ fails StackEmpty
dup2_x1_of_a_long_over_nothing = refl

pub dup2_x1_of_half_a_long : on Dup2X1 (a ∷ seven ∷ b ∷ []) 8 ≡ fails WrongKind
dup2_x1_of_half_a_long = refl

pub dup2_x1_over_a_long : on Dup2X1 (a ∷ b ∷ seven ∷ []) 8 ≡ fails WrongKind
dup2_x1_over_a_long = refl

pub dup2_x1_without_room : on Dup2X1 (seven ∷ a ∷ []) 4 ≡ fails StackFull
dup2_x1_without_room = refl

pub dup2_x2_of_two_over_two : on Dup2X2 (a ∷ b ∷ c ∷ d ∷ []) 8 ≡ gives (a ∷ b ∷ c ∷ d ∷ a ∷ b ∷ []) 8 (5 ∷ 6 ∷ 5 ∷ [])
dup2_x2_of_two_over_two = refl

pub dup2_x2_of_a_long_over_two : on Dup2X2 (seven ∷ b ∷ c ∷ d ∷ []) 8
    ≡ gives (seven ∷ b ∷ c ∷ seven ∷ d ∷ []) 8 (6 ∷ 5 ∷ [])
dup2_x2_of_a_long_over_two = refl

pub dup2_x2_of_two_over_a_long : on Dup2X2 (b ∷ c ∷ seven ∷ d ∷ []) 8
    ≡ gives (b ∷ c ∷ seven ∷ b ∷ c ∷ d ∷ []) 8 (6 ∷ 5 ∷ 6 ∷ 5 ∷ [])
dup2_x2_of_two_over_a_long = refl

pub dup2_x2_of_longs : on Dup2X2 (nine ∷ seven ∷ []) 6 ≡ gives (nine ∷ seven ∷ nine ∷ []) 6 []
dup2_x2_of_longs = refl

pub dup2_x2_of_nothing : on Dup2X2 [] 8 ≡ fails StackEmpty
dup2_x2_of_nothing = refl

pub dup2_x2_of_two_over_one : on Dup2X2 (a ∷ b ∷ c ∷ []) 8 ≡ fails StackEmpty
dup2_x2_of_two_over_one = refl

pub dup2_x2_of_two_over_half_a_long : on Dup2X2 (a ∷ b ∷ c ∷ seven ∷ []) 8 ≡ fails WrongKind
dup2_x2_of_two_over_half_a_long = refl

pub dup2_x2_of_half_a_long : on Dup2X2 (a ∷ seven ∷ b ∷ c ∷ []) 8 ≡ fails WrongKind
dup2_x2_of_half_a_long = refl

pub dup2_x2_without_room : on Dup2X2 (nine ∷ seven ∷ []) 5 ≡ fails StackFull
dup2_x2_without_room = refl

-- ---- two values change places, both written

pub swap_of_two : on Swap (b ∷ c ∷ a ∷ []) 8 ≡ gives (c ∷ b ∷ a ∷ []) 8 (5 ∷ 6 ∷ [])
swap_of_two = refl

pub swap_on_a_full_stack : on Swap (a ∷ d ∷ []) 2 ≡ gives (d ∷ a ∷ []) 2 []
swap_on_a_full_stack = refl

pub swap_of_nothing : on Swap [] 8 ≡ fails StackEmpty
swap_of_nothing = refl

pub swap_of_one : on Swap (a ∷ []) 8 ≡ fails StackEmpty
swap_of_one = refl

pub swap_of_a_long : on Swap (seven ∷ a ∷ []) 8 ≡ fails WrongKind
swap_of_a_long = refl

pub swap_over_a_long : on Swap (a ∷ seven ∷ []) 8 ≡ fails WrongKind
swap_over_a_long = refl
