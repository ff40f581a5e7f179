-- Worked runs that end in a fault which depends on whether a cell has room, and fields that an object hasn't.
use Rattle.std.specs.Prelude.{◌≡◌, ℕ, pos, List, [], ◌∷◌, ◌++◌, Some, None, true, codes, refl}
use Rattle.std.specs.Int.{int_wrap}
use Rattle.std.specs.Fmt.{digits}
use Rattle.model.specs.declared.colours.Colour.TheVariants.{Grey}
use Rattle.model.specs.declared.instructions.Access.TheVariants.{Get, Put}
use Rattle.model.specs.declared.instructions.Instruction.TheVariants.{Field}
use Rattle.model.specs.declared.journals.Outcome.TheVariants.{Done, Object as GotObject, Fault}
use Rattle.model.specs.declared.turns.Actor.TheVariants.{Thread as ByThread}
use Rattle.model.specs.declared.turns.ClassState.TheVariants.{Unused, Running, Done as Initialised, Failed}
use Rattle.model.specs.declared.turns.Fault.TheVariants.{StackFull, WrongClass}
use Rattle.model.specs.declared.turns.Turn.TheVariants.{Stopped}
use Rattle.model.specs.declared.values.Value.{Value}
use Rattle.model.specs.declared.values.Value.TheVariants.{Int, Ref}
use Rattle.model.specs.Accounts.{Account, after_turn, shade}
use Rattle.model.specs.declared.colours.Cell.TheVariants.{Free, Taken}
use Rattle.model.specs.ClassListings.{ClassListing}
use Rattle.model.specs.Classes.Builtin.{builtin_classes}
use Rattle.model.specs.Classes.Search.{upwards, interfaces_from}
use Rattle.model.specs.Classes.Subclasses.{is_within, is_subclass}
use Rattle.model.specs.Classes.Types.{is_subtype_within}
use Rattle.model.specs.Frames.{Frame}
use Rattle.model.specs.Initialisation.{waiting}
use Rattle.model.specs.Table.Next.{completion, next}
use Rattle.model.specs.Turns.{refusal}
use Rattle.model.specs.Worlds.{World, plain_object, with_fault, counted}
use Rattle.model.specs.Worlds.Thread.{Live}
use Rattle.model.proofs.TableRows.Listings.{Sized, ample, print, return}
use Rattle.model.proofs.TableRows.Sites.{class, interface, member, method}
use Rattle.model.proofs.TableRows.Stages.{small}
use Rattle.model.proofs.TableRows.Outcomes.{plays, opens, and_then, played, iconst_0, iconst_1, idiv, pop, athrow, new}
use Rattle.model.proofs.TableRows.Outcomes.{invokestatic, object_class, catching, row, main, initializer, plain, x, at}
use Rattle.model.proofs.TableRows.Outcomes.{world, cells, done, error}

-- ---- no cell has room, and the handler's stack has none for the OutOfMemoryError: F2. Births 1 and 2 fill the heap

abbrev filled : Account
filled = cells [] [] []

abbrev one_taken : Account
one_taken = cells (Taken 3 Grey ∷ []) [] (3 ∷ [])

-- the world before, with the fault and one row more
abbrev stopped : World → World
stopped w = counted (with_fault w 0 StackFull)

-- main has no stack; its handler is at pc 4, and takes what comes from pc 0
abbrev main_over : List Sized → List Sized → ClassListing
main_over code callee =
    plain (codes "E") (catching (row 0 3 4 None ∷ []) (main 0 code) ∷ method 9 (codes "f") (codes "()V") 2 0 callee
    ∷ [])

abbrev standing : List Frame → ℕ → World
standing frames rows = world (Live frames ∷ []) [] (Initialised ∷ []) [] [] rows

abbrev in_main : List ClassListing
in_main = main_over (new object_class ∷ return ∷ return ∷ []) [] ∷ []

in_main-run : plays in_main (small 2) (opens in_main (small 2)) (0 ∷ [])
    ≡ played (stopped (standing (at 0 0 0 [] 0 ∷ []) 0)) filled (Some Fault ∷ [])
unfolding refusal next completion after_turn shade builtin_classes upwards interfaces_from is_within is_subtype_within
    int_wrap digits
in_main-run = refl

-- the next turn is refused
in_main-refused : refusal in_main ample (stopped (standing (at 0 0 0 [] 0 ∷ []) 0)) (ByThread 0) ≡ Some Stopped
unfolding refusal
in_main-refused = refl

-- the same where f, with room for the object, is called: the choice by which the turn faults is that no cell has room
abbrev calling : List Sized → List ClassListing
calling callee = main_over (invokestatic (codes "E") (codes "f") ∷ return ∷ return ∷ []) callee ∷ []

abbrev in_callee : List ClassListing
in_callee = calling (new object_class ∷ pop ∷ return ∷ [])

abbrev called : World
called = standing (at 0 0 0 [] 0 ∷ at 0 1 0 [] 2 ∷ []) 1

in_callee-called : plays in_callee (small 2) (opens in_callee (small 2)) (0 ∷ []) ≡ played called filled (done 1)
unfolding refusal next completion after_turn shade builtin_classes upwards interfaces_from is_within is_subtype_within
    int_wrap digits
in_callee-called = refl

in_callee-faults : plays in_callee (small 2) (played called filled (done 1)) (0 ∷ [])
    ≡ played (stopped called) filled (done 1 ++ Some Fault ∷ [])
unfolding refusal next completion after_turn shade builtin_classes upwards interfaces_from is_within is_subtype_within
    int_wrap digits
in_callee-faults = refl

in_callee-run : plays in_callee (small 2) (opens in_callee (small 2)) (0 ∷ 0 ∷ [])
    ≡ played (stopped called) filled (done 1 ++ Some Fault ∷ [])
in_callee-run =
    and_then in_callee (small 2) (opens in_callee (small 2)) (played called filled (done 1)) _ (0 ∷ []) (0 ∷ [])
    in_callee-called in_callee-faults

-- with a third cell the object is made
in_callee-made : plays in_callee (small 3) (played called (cells (Free ∷ []) (2 ∷ []) []) (done 1)) (0 ∷ [])
    ≡ played (world (Live (at 0 0 0 [] 0 ∷ at 0 1 3 (Ref (Some 3) ∷ []) 2 ∷ []) ∷ []) [] (Initialised ∷ []) []
    (plain_object object_class ∷ []) 2) (cells (Taken 3 Grey ∷ []) [] (3 ∷ [])) (done 1 ++ Some GotObject ∷ [])
unfolding refusal next completion after_turn shade builtin_classes upwards interfaces_from is_within is_subtype_within
    int_wrap digits
in_callee-made = refl

-- and where f divides by zero
abbrev dividing : List ClassListing
dividing = calling (iconst_1 ∷ iconst_0 ∷ idiv ∷ pop ∷ return ∷ [])

abbrev divides : World
divides = standing (at 0 0 0 [] 0 ∷ at 0 1 2 (Int (pos 0) ∷ Int (pos 1) ∷ []) 2 ∷ []) 3

dividing-called : plays dividing (small 2) (opens dividing (small 2)) (0 ∷ 0 ∷ 0 ∷ []) ≡ played divides filled (done 3)
unfolding refusal next completion after_turn shade builtin_classes upwards interfaces_from is_within is_subtype_within
    int_wrap digits
dividing-called = refl

dividing-faults : plays dividing (small 2) (played divides filled (done 3)) (0 ∷ [])
    ≡ played (stopped divides) filled (done 3 ++ Some Fault ∷ [])
unfolding refusal next completion after_turn shade builtin_classes upwards interfaces_from is_within is_subtype_within
    int_wrap digits
dividing-faults = refl

dividing-run : plays dividing (small 2) (opens dividing (small 2)) (0 ∷ 0 ∷ 0 ∷ 0 ∷ [])
    ≡ played (stopped divides) filled (done 3 ++ Some Fault ∷ [])
dividing-run =
    and_then dividing (small 2) (opens dividing (small 2)) (played divides filled (done 3)) _ (0 ∷ 0 ∷ 0 ∷ []) (0 ∷ [])
    dividing-called dividing-faults

-- with a third cell too, the exception comes to no handler: no cell is taken
dividing-room : plays dividing (small 3) (played divides (cells (Free ∷ []) (2 ∷ []) []) (done 3)) (0 ∷ [])
    ≡ played (stopped divides) (cells (Free ∷ []) (2 ∷ []) []) (done 3 ++ Some Fault ∷ [])
unfolding refusal next completion after_turn shade builtin_classes upwards interfaces_from is_within is_subtype_within
    int_wrap digits
dividing-room = refl

-- ---- so it is where a class can't be used, and where an initializer fails: no class changes its state

-- main has no stack, and handles at pc 4 what comes of the new Q, below P
abbrev failing : List ClassListing
failing =
    plain (codes "M") (catching (row 0 3 4 None ∷ []) (main 0 (new (codes "Q") ∷ return ∷ return ∷ [])) ∷ []) ∷
    plain (codes "P") (initializer 1 (new error ∷ athrow ∷ []) ∷ []) ∷
    class (codes "Q") (codes "P") [] [] ∷ []

abbrev denied : World
denied = world (Live (at 0 0 0 [] 0 ∷ []) ∷ []) [] (Initialised ∷ Failed ∷ Unused ∷ []) [] [] 0

denied-run : plays failing (small 2) (played denied filled []) (0 ∷ [])
    ≡ played (stopped denied) filled (Some Fault ∷ [])
unfolding refusal next completion after_turn shade builtin_classes upwards interfaces_from is_within is_subtype_within
    int_wrap digits
denied-run = refl

denied-room : plays failing (small 3) (played denied (cells (Free ∷ []) (2 ∷ []) []) []) (0 ∷ [])
    ≡ played (stopped denied) (cells (Free ∷ []) (2 ∷ []) []) (Some Fault ∷ [])
unfolding refusal next completion after_turn shade builtin_classes upwards interfaces_from is_within is_subtype_within
    int_wrap digits
denied-room = refl

-- P throws an Error, above Q, which waits
abbrev erring : World
erring = world
    (Live (at 0 0 0 [] 0 ∷ waiting (at 2 0 0 [] 0) ∷ at 1 0 3 (Ref (Some 3) ∷ []) 1 ∷ []) ∷ []) [] (Initialised
    ∷ Running 0 ∷ Running 0 ∷ []) []
    (plain_object error ∷ []) 2

erring-run : plays failing (small 3) (played erring one_taken []) (0 ∷ [])
    ≡ played (stopped erring) one_taken (Some Fault ∷ [])
unfolding refusal next completion after_turn shade builtin_classes upwards interfaces_from is_within is_subtype_within
    int_wrap digits
erring-run = refl

-- ---- a D is an A by an interface whose superclass is A, and has none of A's fields: F6

abbrev odd_with : ℕ → List Sized → List ClassListing
odd_with stack code =
    plain (codes "M") (main stack code ∷ []) ∷
    record (plain (codes "A") []) { fields = x 0 ∷ [] } ∷
    record (interface (codes "I") []) { superclass = codes "A" } ∷
    class (codes "D") object_class (codes "I" ∷ []) [] ∷ []

abbrev got : List ClassListing
got = odd_with 1 (new (codes "D") ∷ (3, Field Get (member (codes "A") (codes "x") (codes "I"))) ∷ print ∷ return ∷ [])

got-subclass : is_subclass got (codes "D") (codes "A") ≡ true
unfolding is_within builtin_classes
got-subclass = refl

-- a D has no words
abbrev odd_world : ℕ → List Value → ℕ → ℕ → World
odd_world pc stack room rows =
    world (Live (at 0 0 pc stack room ∷ []) ∷ []) [] (Initialised ∷ Initialised ∷ Initialised ∷ Initialised ∷ []) []
    (plain_object (codes "D") ∷ []) rows

abbrev wrong_class : World → World
wrong_class w = counted (with_fault w 0 WrongClass)

got-run : plays got (small 3) (opens got (small 3)) (0 ∷ 0 ∷ [])
    ≡ played (wrong_class (odd_world 3 (Ref (Some 3) ∷ []) 1 1)) one_taken (Some GotObject ∷ Some Fault ∷ [])
unfolding refusal next completion after_turn shade builtin_classes upwards interfaces_from is_within is_subtype_within
    int_wrap digits
got-run = refl

abbrev put : List ClassListing
put = odd_with 2 (new (codes "D") ∷ iconst_1 ∷ (3, Field Put (member (codes "A") (codes "x") (codes "I"))) ∷ return
    ∷ [])

put-run : plays put (small 3) (opens put (small 3)) (0 ∷ 0 ∷ 0 ∷ [])
    ≡ played (wrong_class (odd_world 4 (Int (pos 1) ∷ Ref (Some 3) ∷ []) 2 2)) one_taken (Some GotObject ∷ Some Done
    ∷ Some Fault ∷ [])
unfolding refusal next completion after_turn shade builtin_classes upwards interfaces_from is_within is_subtype_within
    int_wrap digits
put-run = refl
