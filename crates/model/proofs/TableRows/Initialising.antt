-- Worked rows of class initialisation (JVMS 5.5): states at first, limits of a claim and of the opening, and which
-- initializers a program may have.
use Rattle.std.specs.Prelude.{◌≡◌, ℕ, pos, List, [], ◌∷◌, ◌++◌, replicate, Bool, true, false, Some, None, codes, refl}
use Rattle.std.specs.Int.{int_wrap}
use Rattle.model.specs.declared.instructions.ClassOperation.TheVariants.{InstanceOf}
use Rattle.model.specs.declared.instructions.Instruction.TheVariants.{Class, Invoke}
use Rattle.model.specs.declared.instructions.Invocation.{Invocation}
use Rattle.model.specs.declared.instructions.Invocation.TheVariants.{Virtual, Special, Static, Interface}
use Rattle.model.specs.declared.listings.Method.{Method}
use Rattle.model.specs.declared.turns.ClassState.{ClassState}
use Rattle.model.specs.declared.turns.ClassState.TheVariants.{Unused, Running, Done as Initialised, Failed}
use Rattle.model.specs.declared.values.Value.TheVariants.{Int, Ref}
use Rattle.model.specs.Accepted.RefusedMembers.{is_refused}
use Rattle.model.specs.Accepted.References.{resolves}
use Rattle.model.specs.ClassListings.{ClassListing}
use Rattle.model.specs.Classes.Builtin.{builtin_classes}
use Rattle.model.specs.Classes.Search.{upwards, interfaces_from}
use Rattle.model.specs.Classes.Subclasses.{is_within}
use Rattle.model.specs.Completions.Completion.{Creates, Denies, Waits}
use Rattle.model.specs.Worlds.Contents.{Instance}
use Rattle.model.specs.Effects.Choice.{NewObject}
use Rattle.model.specs.Frames.{Frame}
use Rattle.model.specs.Initialisation.{Chain, chain_of, opening_states, waiting}
use Rattle.model.specs.Results.{Effect}
use Rattle.model.specs.Table.Next.{completion, next}
use Rattle.model.specs.Worlds.{World, opening_fits}
use Rattle.model.specs.Worlds.Thread.{Live, Ended}
use Rattle.model.proofs.TableRows.Listings.{Sized, return}
use Rattle.model.proofs.TableRows.Sites.{class, interface, member, method}
use Rattle.model.proofs.TableRows.Outcomes.{pop, new, getstatic, putstatic, invokestatic, catching, row, main}
use Rattle.model.proofs.TableRows.Outcomes.{initializer, plain, with_x, holding, at, world, stack_overflow}

abbrev empty : ℕ → Method
empty stack = initializer stack (return ∷ [])

abbrev turn : List ClassListing → World → Effect
turn program w = next program w 0 NewObject

abbrev then : World → List ℕ → Effect
then after writes = record { after = after; writes = writes }

-- ---- states at first

-- below P, which declares an initializer, Q and R want initialising; M and an interface don't
abbrev family : List ClassListing
family =
    plain (codes "M") (main 0 (return ∷ []) ∷ []) ∷
    class (codes "R") (codes "Q") [] [] ∷
    class (codes "Q") (codes "P") (codes "J" ∷ []) [] ∷
    class (codes "P") (codes "O") [] (empty 0 ∷ []) ∷
    plain (codes "O") [] ∷
    interface (codes "J") (empty 0 ∷ []) ∷ []

family-states : opening_states family ≡ Initialised ∷ Unused ∷ Unused ∷ Unused ∷ Initialised ∷ Initialised ∷ []
unfolding upwards builtin_classes
family-states = refl

-- ---- a class and those above it, up to the first that was used

abbrev chain : List ℕ → ClassState → Chain
chain classes state = record { unused = classes; above = state }

-- with these states of R, Q and P
abbrev upwards_from : List ℕ → ClassState → ClassState → ClassState → Chain
upwards_from name r q p = chain_of family (Initialised ∷ r ∷ q ∷ p ∷ Initialised ∷ Initialised ∷ []) name

chain-all : upwards_from (codes "R") Unused Unused Unused ≡ chain (1 ∷ 2 ∷ 3 ∷ []) Initialised
unfolding upwards builtin_classes
chain-all = refl

chain-running : upwards_from (codes "R") Unused Unused (Running 1) ≡ chain (1 ∷ 2 ∷ []) (Running 1)
unfolding upwards builtin_classes
chain-running = refl

chain-failed : upwards_from (codes "R") Unused Failed Failed ≡ chain (1 ∷ []) Failed
unfolding upwards builtin_classes
chain-failed = refl

chain-done : upwards_from (codes "R") Initialised Initialised Initialised ≡ chain [] Initialised
unfolding upwards builtin_classes
chain-done = refl

-- the machine's own classes are initialised
chain-own : upwards_from (codes "java/lang/Thread") Unused Unused Unused ≡ chain [] Initialised
unfolding upwards builtin_classes
chain-own = refl

-- ---- which class an instruction uses

-- main stands at the instruction; P declares the field and f, and Q is below it
abbrev uses : Sized → List ClassListing
uses i =
    plain (codes "M") (main 2 (i ∷ return ∷ []) ∷ []) ∷
    with_x (plain (codes "P") (empty 0 ∷ method 9 (codes "f") (codes "()V") 0 0 (return ∷ []) ∷ [])) ∷
    class (codes "Q") (codes "P") [] (empty 0 ∷ []) ∷ []

-- with these states of P and Q
abbrev standing : List Frame → ClassState → ClassState → World
standing frames p q = world (Live frames ∷ []) (holding (codes "P") 0 ∷ []) (Initialised ∷ p ∷ q ∷ []) [] [] 0

abbrev unused : World
unused = standing (at 0 0 0 [] 2 ∷ []) Unused Unused

abbrev claims_p : Effect
claims_p = then (standing (at 0 0 0 [] 2 ∷ at 1 0 0 [] 0 ∷ []) (Running 0) Unused) []

uses-new : turn (uses (new (codes "Q"))) unused ≡
    then (standing (at 0 0 0 [] 2 ∷ waiting (at 2 0 0 [] 0) ∷ at 1 0 0 [] 0 ∷ []) (Running 0) (Running 0)) []
unfolding next completion builtin_classes upwards
uses-new = refl

-- the class that declares the field or method, whichever class the reference names
uses-get : turn (uses (getstatic (codes "Q"))) unused ≡ claims_p
unfolding next completion builtin_classes upwards interfaces_from
uses-get = refl

uses-call : turn (uses (invokestatic (codes "Q") (codes "f"))) unused ≡ claims_p
unfolding next completion builtin_classes upwards interfaces_from
uses-call = refl

-- before any operand is tested
uses-put : turn (uses (putstatic (codes "P"))) unused ≡ claims_p
unfolding next completion builtin_classes upwards interfaces_from
uses-put = refl

-- instanceof uses none
uses-none : turn (uses (3, Class InstanceOf (codes "Q"))) (standing (at 0 0 0 (Ref None ∷ []) 2 ∷ []) Unused Unused) ≡
    then (standing (at 0 0 3 (Int (pos 0) ∷ []) 2 ∷ []) Unused Unused) []
unfolding next completion builtin_classes upwards int_wrap
uses-none = refl

-- ---- the first class upwards that was used runs its initializer: by this thread, or by another

uses-own : completion (uses (new (codes "P"))) (standing (at 0 0 0 [] 2 ∷ []) (Running 0) Unused) 0
    ≡ Creates 3 0 (Instance (codes "P") [])
unfolding completion builtin_classes upwards
uses-own = refl

uses-below_own : turn (uses (new (codes "Q"))) (standing (at 0 0 0 [] 2 ∷ []) (Running 0) Unused) ≡
    then (standing (at 0 0 0 [] 2 ∷ at 2 0 0 [] 0 ∷ []) (Running 0) (Running 0)) []
unfolding next completion builtin_classes upwards
uses-below_own = refl

uses-others : completion (uses (new (codes "P"))) (standing (at 0 0 0 [] 2 ∷ []) (Running 1) Unused) 0 ≡ Waits
unfolding completion builtin_classes upwards
uses-others = refl

uses-below_others : completion (uses (new (codes "Q"))) (standing (at 0 0 0 [] 2 ∷ []) (Running 1) Unused) 0 ≡ Waits
unfolding completion builtin_classes upwards
uses-below_others = refl

-- what is initialised is used at once, whatever is above it
uses-done : completion (uses (new (codes "Q"))) (standing (at 0 0 0 [] 2 ∷ []) (Running 1) Initialised) 0
    ≡ Creates 3 0 (Instance (codes "Q") [])
unfolding completion builtin_classes upwards
uses-done = refl

-- Q fails with P
uses-failed : completion (uses (new (codes "Q"))) (standing (at 0 0 0 [] 2 ∷ []) Failed Unused) 0
    ≡ Denies (Initialised ∷ Failed ∷ Failed ∷ [])
unfolding completion builtin_classes upwards
uses-failed = refl

-- ---- a claim has room for the initializers' frames, or throws the StackOverflowError that was made before the run

-- M's f calls itself at pc 0, uses K or L over K at pc 3, and handles all at pc 6
abbrev deep : List ℕ → List ClassListing
deep used =
    plain (codes "M") (
    main 0 (invokestatic (codes "M") (codes "f") ∷ return ∷ []) ∷
    catching (row 3 6 6 None ∷ []) (method 9 (codes "f") (codes "()V") 1 0 (invokestatic (codes "M") (codes "f")
    ∷ getstatic used ∷ pop ∷ return ∷ [])) ∷ []) ∷
    with_x (plain (codes "K") (empty 0 ∷ [])) ∷
    with_x (class (codes "L") (codes "K") [] (empty 0 ∷ [])) ∷ []

-- main and so many frames of f, and these inside of them
abbrev depth : ℕ → List Frame → ClassState → World
depth n inside state = world (Live (at 0 0 0 [] 0 ∷ replicate n (at 0 1 0 [] 1) ++ inside) ∷ []) (holding (codes "K") 0
    ∷ holding (codes "L") 0 ∷ []) (Initialised ∷ state ∷ Unused ∷ []) [] [] 0

abbrev using : Frame
using = at 0 1 3 [] 1

-- the 256th frame is the initializer's
deep-claims : turn (deep (codes "K")) (depth 253 (using ∷ []) Unused) ≡
    then (depth 253 (using ∷ at 1 0 0 [] 0 ∷ []) (Running 0)) []
unfolding next completion builtin_classes upwards interfaces_from
deep-claims = refl

-- it would be the 257th
deep-overflows : turn (deep (codes "K")) (depth 254 (using ∷ []) Unused) ≡
    then (depth 254 (at 0 1 6 (Ref (Some 2) ∷ []) 1 ∷ []) Unused) (2 ∷ [])
unfolding next completion builtin_classes upwards interfaces_from is_within
deep-overflows = refl

-- of two, neither is claimed
deep-neither : turn (deep (codes "L")) (depth 253 (using ∷ []) Unused) ≡
    then (depth 253 (at 0 1 6 (Ref (Some 2) ∷ []) 1 ∷ []) Unused) (2 ∷ [])
unfolding next completion builtin_classes upwards interfaces_from is_within
deep-neither = refl

-- main has a stack of 4,000 units, and the initializer one of so many
abbrev wide : ℕ → List ClassListing
wide units = plain (codes "M") (main 4000 (getstatic (codes "K") ∷ pop ∷ return ∷ []) ∷ [])
    ∷ with_x (plain (codes "K") (empty units ∷ [])) ∷ []

abbrev width : List Frame → ClassState → World
width inside state = world (Live (at 0 0 0 [] 4000 ∷ inside) ∷ []) (holding (codes "K") 0 ∷ []) (Initialised ∷ state
    ∷ []) [] [] 0

wide-claims : turn (wide 96) (width [] Unused) ≡ then (width (at 1 0 0 [] 96 ∷ []) (Running 0)) []
unfolding next completion builtin_classes upwards interfaces_from
wide-claims = refl

wide-overflows : turn (wide 97) (width [] Unused) ≡
    then (record (width [] Unused) { threads = Ended (Some stack_overflow) ∷ [] }) []
unfolding next completion builtin_classes upwards interfaces_from is_within
wide-overflows = refl

-- ---- the frames with which thread 0 opens

-- I over H, with initializers of these units, and a main of some
abbrev opening : ℕ → ℕ → ℕ → List ClassListing
opening of_main of_i of_h = class (codes "I") (codes "H") [] (main of_main (return ∷ []) ∷ empty of_i ∷ [])
    ∷ plain (codes "H") (empty of_h ∷ []) ∷ []

opening-plain : opening_fits (plain (codes "M") (main 0 (return ∷ []) ∷ []) ∷ []) ≡ true
unfolding upwards builtin_classes
opening-plain = refl

opening-within : opening_fits (opening 96 2000 2000) ≡ true
unfolding upwards builtin_classes
opening-within = refl

opening-past : opening_fits (opening 97 2000 2000) ≡ false
unfolding upwards builtin_classes
opening-past = refl

opening-two : opening_fits (opening 0 3000 3000) ≡ false
unfolding upwards builtin_classes
opening-two = refl

-- ---- which initializers a class may have: static, without arguments and result, with code

abbrev refused : Method → Bool
refused m = is_refused (plain (codes "K") (m ∷ []) ∷ []) (codes "K") m

may-static : refused (empty 0) ≡ false
may-static = refl

-- private too
may-private : refused (method 0x000A (codes "<clinit>") (codes "()V") 0 0 (return ∷ [])) ≡ false
may-private = refl

not-argument : refused (method 8 (codes "<clinit>") (codes "(I)V") 0 1 (return ∷ [])) ≡ true
not-argument = refl

not-result : refused (method 8 (codes "<clinit>") (codes "()I") 0 0 (return ∷ [])) ≡ true
not-result = refl

not-instance : refused (method 1 (codes "<clinit>") (codes "()V") 0 1 (return ∷ [])) ≡ true
not-instance = refl

not-codeless : refused (record (empty 0) { code = None }) ≡ true
not-codeless = refl

-- ---- no instruction calls it

abbrev called_as : List ℕ → Invocation → Bool
called_as name how = resolves (plain (codes "K") (method 8 name (codes "()V") 0 0 (return ∷ []) ∷ []) ∷ [])
    (Invoke how (member (codes "K") name (codes "()V")))

abbrev called : Invocation → Bool
called how = called_as (codes "<clinit>") how

-- by any other name it could be
yes-static : called_as (codes "f") Static ≡ true
unfolding builtin_classes upwards interfaces_from
yes-static = refl

no-static : called Static ≡ false
unfolding builtin_classes upwards interfaces_from
no-static = refl

no-special : called Special ≡ false
unfolding builtin_classes upwards interfaces_from
no-special = refl

no-virtual : called Virtual ≡ false
unfolding builtin_classes upwards interfaces_from
no-virtual = refl

no-interface : called (Interface 1) ≡ false
unfolding builtin_classes upwards interfaces_from
no-interface = refl
