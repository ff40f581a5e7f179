-- Worked runs of class initialisation (JVMS 5.5): the outcome of each turn, and what the machine is after it.
use Rattle.std.specs.Prelude.{◌≡◌, ℕ, List, [], ◌∷◌, ◌++◌, Option, Some, None, false, codes, refl}
use Rattle.std.specs.Int.{int_wrap}
use Rattle.std.specs.Fmt.{digits}
use Rattle.model.specs.declared.instructions.Instruction.TheVariants.{Invoke}
use Rattle.model.specs.declared.instructions.Invocation.TheVariants.{Virtual}
use Rattle.model.specs.declared.turns.Actor.TheVariants.{Thread as ByThread}
use Rattle.model.specs.declared.turns.Turn.TheVariants.{NotReady}
use Rattle.model.specs.declared.values.Entry.TheVariants.{Holds}
use Rattle.model.specs.Ready.{is_ready}
use Rattle.model.specs.declared.journals.Outcome.{Outcome}
use Rattle.model.specs.declared.journals.Outcome.TheVariants.{Done, Object as GotObject, NoRoom}
use Rattle.model.specs.declared.colours.Colour.TheVariants.{Grey}
use Rattle.model.specs.declared.listings.Method.{Method}
use Rattle.model.specs.declared.turns.ClassState.{ClassState}
use Rattle.model.specs.declared.turns.ClassState.TheVariants.{Unused, Running, Done as Initialised, Failed}
use Rattle.model.specs.declared.values.Value.TheVariants.{Ref}
use Rattle.model.specs.Accounts.{after_turn, shade}
use Rattle.model.specs.Machines.{machine_of, opened}
use Rattle.model.specs.Observers.{status_in, class_state_of}
use Rattle.model.specs.declared.turns.Status.TheVariants.{Stuck}
use Rattle.model.specs.declared.colours.Cell.TheVariants.{Free, Taken}
use Rattle.model.specs.Frames.{Frame}
use Rattle.model.specs.Worlds.{World, Thread, Object, plain_object}
use Rattle.model.specs.ClassListings.{ClassListing}
use Rattle.model.specs.Classes.Builtin.{builtin_classes}
use Rattle.model.specs.Classes.Search.{upwards, interfaces_from}
use Rattle.model.specs.Classes.Subclasses.{is_within}
use Rattle.model.specs.Classes.Types.{is_subtype_within}
use Rattle.model.specs.Initialisation.{waiting}
use Rattle.model.specs.Table.Next.{completion, next}
use Rattle.model.specs.Turns.{refusal}
use Rattle.model.specs.Worlds.Thread.{Live, Ended}
use Rattle.model.proofs.TableRows.Listings.{Sized, ample, print, return}
use Rattle.model.proofs.TableRows.Stages.{small}
use Rattle.model.proofs.TableRows.Sites.{class, frame, member, method, object, place}
use Rattle.model.proofs.TableRows.Outcomes.{Played, plays, opens, and_then, played, iconst_0, iconst_1, iconst_2}
use Rattle.model.proofs.TableRows.Outcomes.{bipush, idiv, pop, new, getstatic, putstatic, catching, row, main}
use Rattle.model.proofs.TableRows.Outcomes.{initializer, plain, with_x, holding, at, failed, world, cells, three_free}
use Rattle.model.proofs.TableRows.Outcomes.{done, zeros, arithmetic, in_initializer, no_class, out_of_memory, two_free}

-- ---- the first class has an initializer: thread 0 opens in it, above a waiting main

abbrev own : List ClassListing
own = with_x (plain (codes "I") (
    main 1 (getstatic (codes "I") ∷ print ∷ return ∷ []) ∷
    initializer 1 (bipush 9 ∷ putstatic (codes "I") ∷ return ∷ []) ∷ [])) ∷ []

own-opens : opens own (small 5)
    ≡ played (world (Live (waiting (at 0 0 0 [] 1) ∷ at 0 1 0 [] 1 ∷ []) ∷ []) (holding (codes "I") 0 ∷ [])
    (Running 0 ∷ []) [] [] 0) three_free []
unfolding builtin_classes upwards int_wrap
own-opens = refl

-- the states of classes by their names: one that is being initialised, one of the machine's own, and one that isn't
-- there
own-state : class_state_of (opened own (small 5) ample) (codes "I") ≡ Some (Running 0)
unfolding machine_of builtin_classes upwards
own-state = refl

own-builtin_state : class_state_of (opened own (small 5) ample) (codes "java/lang/Object") ≡ Some Initialised
unfolding machine_of builtin_classes upwards
own-builtin_state = refl

own-missing_state : class_state_of (opened own (small 5) ample) (codes "X") ≡ None
unfolding builtin_classes
own-missing_state = refl

-- main goes on when the initializer has returned
abbrev own_initialised : Played
own_initialised = played (world (Live (at 0 0 0 [] 1 ∷ []) ∷ []) (holding (codes "I") 9 ∷ []) (Initialised ∷ []) [] []
    3) three_free (done 3)

own-first : plays own (small 5) (opens own (small 5)) (zeros 3) ≡ own_initialised
unfolding refusal next completion after_turn shade builtin_classes upwards interfaces_from is_within is_subtype_within
    int_wrap digits
own-first = refl

own-later : plays own (small 5) own_initialised (zeros 3)
    ≡ played (world (Ended None ∷ []) (holding (codes "I") 9 ∷ []) (Initialised ∷ []) (codes "9\n") [] 6) three_free
    (done 6)
unfolding refusal next completion after_turn shade builtin_classes upwards interfaces_from is_within is_subtype_within
    int_wrap digits
own-later = refl

own-run : plays own (small 5) (opens own (small 5)) (zeros 6)
    ≡ played (world (Ended None ∷ []) (holding (codes "I") 9 ∷ []) (Initialised ∷ []) (codes "9\n") [] 6) three_free
    (done 6)
own-run = and_then own (small 5) (opens own (small 5)) own_initialised _ (zeros 3) (zeros 3) own-first own-later

-- ---- another class's: a turn claims it

abbrev others : List ClassListing
others =
    plain (codes "M") (main 1 (getstatic (codes "I") ∷ print ∷ return ∷ []) ∷ []) ∷
    with_x (plain (codes "I") (initializer 1 (bipush 9 ∷ putstatic (codes "I") ∷ return ∷ []) ∷ [])) ∷ []

abbrev others_opened : Played
others_opened = played (world (Live (at 0 0 0 [] 1 ∷ []) ∷ []) (holding (codes "I") 0 ∷ []) (Initialised ∷ Unused ∷ [])
    [] [] 0) three_free []

others-opens : opens others (small 5) ≡ others_opened
unfolding builtin_classes upwards int_wrap
others-opens = refl

-- main stays at its getstatic
abbrev others_claimed : Played
others_claimed = played (world (Live (at 0 0 0 [] 1 ∷ at 1 0 0 [] 1 ∷ []) ∷ []) (holding (codes "I") 0 ∷ [])
    (Initialised ∷ Running 0 ∷ []) [] [] 1) three_free (done 1)

others-claim : plays others (small 5) others_opened (zeros 1) ≡ others_claimed
unfolding refusal next completion after_turn shade builtin_classes upwards interfaces_from is_within is_subtype_within
    int_wrap digits
others-claim = refl

abbrev others_initialised : Played
others_initialised = played (world (Live (at 0 0 0 [] 1 ∷ []) ∷ []) (holding (codes "I") 9 ∷ []) (Initialised
    ∷ Initialised ∷ []) [] [] 4) three_free (done 4)

others-first : plays others (small 5) others_claimed (zeros 3) ≡ others_initialised
unfolding refusal next completion after_turn shade builtin_classes upwards interfaces_from is_within is_subtype_within
    int_wrap digits
others-first = refl

others-later : plays others (small 5) others_initialised (zeros 3)
    ≡ played (world (Ended None ∷ []) (holding (codes "I") 9 ∷ []) (Initialised ∷ Initialised ∷ []) (codes "9\n") [] 7)
    three_free (done 7)
unfolding refusal next completion after_turn shade builtin_classes upwards interfaces_from is_within is_subtype_within
    int_wrap digits
others-later = refl

others-run : plays others (small 5) others_opened (zeros 7)
    ≡ played (world (Ended None ∷ []) (holding (codes "I") 9 ∷ []) (Initialised ∷ Initialised ∷ []) (codes "9\n") [] 7)
    three_free (done 7)
others-run =
    and_then others (small 5) others_opened others_claimed _ (zeros 1) (zeros 6) others-claim
    (and_then others (small 5) others_claimed others_initialised _ (zeros 3) (zeros 3) others-first others-later)

-- ---- Q over P: P's initializer runs before Q's

abbrev printing : Sized → Method
printing constant = initializer 1 (constant ∷ print ∷ return ∷ [])

abbrev over : List ClassListing
over =
    plain (codes "M") (main 1 (new (codes "Q") ∷ pop ∷ return ∷ []) ∷ []) ∷
    plain (codes "P") (printing iconst_1 ∷ []) ∷
    class (codes "Q") (codes "P") [] (printing iconst_2 ∷ []) ∷ []

abbrev over_opened : Played
over_opened = played (world (Live (at 0 0 0 [] 1 ∷ []) ∷ []) [] (Initialised ∷ Unused ∷ Unused ∷ []) [] [] 0) three_free
    []

over-opens : opens over (small 5) ≡ over_opened
unfolding builtin_classes upwards int_wrap
over-opens = refl

-- one turn claims both: Q's frame waits below P's
abbrev over_claimed : Played
over_claimed = played (world (Live (at 0 0 0 [] 1 ∷ waiting (at 2 0 0 [] 1) ∷ at 1 0 0 [] 1 ∷ []) ∷ []) [] (Initialised
    ∷ Running 0 ∷ Running 0 ∷ []) [] [] 1) three_free (done 1)

over-claim : plays over (small 5) over_opened (zeros 1) ≡ over_claimed
unfolding refusal next completion after_turn shade builtin_classes upwards interfaces_from is_within is_subtype_within
    int_wrap digits
over-claim = refl

abbrev over_above : Played
over_above = played (world (Live (at 0 0 0 [] 1 ∷ at 2 0 0 [] 1 ∷ []) ∷ []) [] (Initialised ∷ Initialised ∷ Running 0
    ∷ []) (codes "1\n") [] 4) three_free (done 4)

over-first : plays over (small 5) over_claimed (zeros 3) ≡ over_above
unfolding refusal next completion after_turn shade builtin_classes upwards interfaces_from is_within is_subtype_within
    int_wrap digits
over-first = refl

abbrev over_initialised : Played
over_initialised = played (world (Live (at 0 0 0 [] 1 ∷ []) ∷ []) [] (Initialised ∷ Initialised ∷ Initialised ∷ [])
    (codes "1\n2\n") [] 7) three_free (done 7)

over-second : plays over (small 5) over_above (zeros 3) ≡ over_initialised
unfolding refusal next completion after_turn shade builtin_classes upwards interfaces_from is_within is_subtype_within
    int_wrap digits
over-second = refl

-- the eighth row is the object
abbrev over_ended : Played
over_ended = played (world (Ended None ∷ []) [] (Initialised ∷ Initialised ∷ Initialised ∷ []) (codes "1\n2\n")
    (plain_object (codes "Q") ∷ []) 10) two_free (done 7 ++ Some GotObject ∷ done 2)

over-later : plays over (small 5) over_initialised (zeros 3) ≡ over_ended
unfolding refusal next completion after_turn shade builtin_classes upwards interfaces_from is_within is_subtype_within
    int_wrap digits
over-later = refl

over-run : plays over (small 5) over_opened (zeros 10) ≡ over_ended
over-run =
    and_then over (small 5) over_opened over_claimed over_ended (zeros 1) (zeros 9) over-claim
    (and_then over (small 5) over_claimed over_above over_ended (zeros 3) (zeros 6) over-first
    (and_then over (small 5) over_above over_initialised over_ended (zeros 3) (zeros 3) over-second over-later))

-- ---- an initializer that divides by zero, and main that catches what comes of it, and asks for the class again

abbrev dividing : ClassListing
dividing = with_x (plain (codes "P") (initializer 2 (iconst_1 ∷ iconst_0 ∷ idiv ∷ pop ∷ return ∷ []) ∷ []))

-- instructions of main at their pcs: 0 to 6, and the handler at 7, 8, 11 and 14
abbrev again : List ClassListing
again =
    plain (codes "M") (
    catching (row 0 3 7 (Some in_initializer) ∷ [])
    (main 1 (getstatic (codes "P") ∷ print ∷ return ∷ pop ∷ getstatic (codes "P") ∷ print ∷ return ∷ [])) ∷ []) ∷
    dividing ∷ []

abbrev again_world : List Frame → ClassState → List Object → ℕ → World
again_world frames state objects rows = world (Live frames ∷ []) (holding (codes "P") 0 ∷ []) (Initialised ∷ state ∷ [])
    [] objects rows

abbrev again_opened : Played
again_opened = played (again_world (at 0 0 0 [] 1 ∷ []) Unused [] 0) three_free []

again-opens : opens again (small 5) ≡ again_opened
unfolding builtin_classes upwards int_wrap
again-opens = refl

-- the exception's turn ends at the initializer, which fails
abbrev again_stopped : Played
again_stopped = played
    (again_world (at 0 0 0 [] 1 ∷ failed (at 1 0 2 [] 2) ∷ []) (Running 0) (plain_object arithmetic ∷ []) 4)
    two_free
    (done 3 ++ Some GotObject ∷ [])

again-stops : plays again (small 5) again_opened (zeros 4) ≡ again_stopped
unfolding refusal next completion after_turn shade builtin_classes upwards interfaces_from is_within is_subtype_within
    int_wrap digits
again-stops = refl

-- the next makes the error in place of it, which main catches; then the class has failed
abbrev again_failed : Played
again_failed = played
    (again_world (at 0 0 7 (Ref (Some 4) ∷ []) 1 ∷ []) Failed (plain_object arithmetic ∷ plain_object
    in_initializer ∷ []) 5)
    (cells (Taken 3 Grey ∷ Taken 4 Grey ∷ Free ∷ []) (4 ∷ []) (3 ∷ 4 ∷ []))
    (done 3 ++ Some GotObject ∷ Some GotObject ∷ [])

again-fails : plays again (small 5) again_stopped (zeros 1) ≡ again_failed
unfolding refusal next completion after_turn shade builtin_classes upwards interfaces_from is_within is_subtype_within
    int_wrap digits
again-fails = refl

abbrev again_ended : Played
again_ended = played
    (world (Ended (Some no_class) ∷ []) (holding (codes "P") 0 ∷ []) (Initialised ∷ Failed ∷ []) []
    (plain_object arithmetic ∷ plain_object in_initializer ∷ plain_object no_class ∷ []) 7)
    (cells (Taken 3 Grey ∷ Taken 4 Grey ∷ Taken 5 Grey ∷ []) [] (3 ∷ 4 ∷ 5 ∷ []))
    (done 3 ++ Some GotObject ∷ Some GotObject ∷ Some Done ∷ Some GotObject ∷ [])

again-ends : plays again (small 5) again_failed (zeros 2) ≡ again_ended
unfolding refusal next completion after_turn shade builtin_classes upwards interfaces_from is_within is_subtype_within
    int_wrap digits
again-ends = refl

again-run : plays again (small 5) again_opened (zeros 7) ≡ again_ended
again-run =
    and_then again (small 5) again_opened again_stopped again_ended (zeros 4) (zeros 3) again-stops
    (and_then again (small 5) again_stopped again_failed again_ended (zeros 1) (zeros 2) again-fails again-ends)

-- on four cells: none is left for the last error
abbrev scarce_failed : Played
scarce_failed = played
    (again_world (at 0 0 7 (Ref (Some 4) ∷ []) 1 ∷ []) Failed (plain_object arithmetic ∷ plain_object
    in_initializer ∷ []) 5)
    (cells (Taken 3 Grey ∷ Taken 4 Grey ∷ []) [] (3 ∷ 4 ∷ []))
    (done 3 ++ Some GotObject ∷ Some GotObject ∷ [])

scarce-fails : plays again (small 4) (opens again (small 4)) (zeros 5) ≡ scarce_failed
unfolding refusal next completion after_turn shade builtin_classes upwards interfaces_from is_within is_subtype_within
    int_wrap digits
scarce-fails = refl

abbrev scarce_ended : Played
scarce_ended = played
    (world (Ended (Some out_of_memory) ∷ []) (holding (codes "P") 0 ∷ []) (Initialised ∷ Failed ∷ []) []
    (plain_object arithmetic ∷ plain_object in_initializer ∷ []) 7)
    (cells (Taken 3 Grey ∷ Taken 4 Grey ∷ []) [] (3 ∷ 4 ∷ []))
    (done 3 ++ Some GotObject ∷ Some GotObject ∷ Some Done ∷ Some NoRoom ∷ [])

scarce-ends : plays again (small 4) scarce_failed (zeros 2) ≡ scarce_ended
unfolding refusal next completion after_turn shade builtin_classes upwards interfaces_from is_within is_subtype_within
    int_wrap digits
scarce-ends = refl

scarce-run : plays again (small 4) (opens again (small 4)) (zeros 7) ≡ scarce_ended
scarce-run = and_then again (small 4) (opens again (small 4)) scarce_failed scarce_ended (zeros 5) (zeros 2)
    scarce-fails scarce-ends

-- ---- two threads: thread 1 wants the class that thread 0 initialises

abbrev meeting : List ClassListing
meeting =
    plain (codes "M") (main 1 (new (codes "T") ∷ (3, Invoke Virtual (member (codes "T") (codes "start") (codes "()V")))
    ∷ getstatic (codes "I") ∷ print ∷ return ∷ []) ∷ []) ∷
    with_x (plain (codes "I") (initializer 1 (bipush 9 ∷ putstatic (codes "I") ∷ return ∷ []) ∷ [])) ∷
    class (codes "T") (codes "java/lang/Thread") [] (method 1 (codes "run") (codes "()V") 1 1 (getstatic (codes "I")
    ∷ print ∷ return ∷ []) ∷ []) ∷ []

-- thread 1 stands at its getstatic
abbrev run_begins : Thread
run_begins = Live (frame (place 2 0) 0 (Holds (Ref (Some 3)) ∷ []) [] 1 None ∷ [])

abbrev meeting_played : List Thread → ℕ → ClassState → List ℕ → ℕ → List (Option Outcome) → Played
meeting_played threads n state output rows outcomes = played
    (world threads (holding (codes "I") n ∷ []) (Initialised ∷ state ∷ Initialised ∷ []) output
    (object (codes "T") None 0 (Some 1) ∷ []) rows)
    two_free
    outcomes

-- both threads stand at their getstatic
abbrev meeting_started : Played
meeting_started = meeting_played (Live (at 0 0 6 [] 1 ∷ []) ∷ run_begins ∷ []) 0 Unused [] 2 (Some GotObject ∷ done 1)

meeting-starts : plays meeting (small 5) (opens meeting (small 5)) (zeros 2) ≡ meeting_started
unfolding refusal next completion after_turn shade builtin_classes upwards interfaces_from is_within is_subtype_within
    int_wrap digits
meeting-starts = refl

-- thread 0 claims the class, and thread 1's turn is refused
abbrev claimed_world : World
claimed_world = (meeting_played (Live (at 0 0 6 [] 1 ∷ at 1 0 0 [] 1 ∷ []) ∷ run_begins ∷ []) 0 (Running 0) [] 3
    []).machine.world

abbrev meeting_claimed : Played
meeting_claimed = meeting_played (Live (at 0 0 6 [] 1 ∷ at 1 0 0 [] 1 ∷ []) ∷ run_begins ∷ []) 0 (Running 0) [] 3
    (Some GotObject ∷ done 2 ++ None ∷ [])

meeting-claims : plays meeting (small 5) meeting_started (0 ∷ 1 ∷ []) ≡ meeting_claimed
unfolding refusal next completion after_turn shade builtin_classes upwards interfaces_from is_within is_subtype_within
    int_wrap digits
meeting-claims = refl

meeting-not_ready : is_ready meeting claimed_world 1 ≡ false
unfolding completion builtin_classes upwards interfaces_from
meeting-not_ready = refl

meeting-refused : refusal meeting ample claimed_world (ByThread 1) ≡ Some NotReady
unfolding refusal completion builtin_classes upwards interfaces_from
meeting-refused = refl

-- it is refused until the initializer has returned
abbrev meeting_initialised : Played
meeting_initialised = meeting_played (Live (at 0 0 6 [] 1 ∷ []) ∷ run_begins ∷ []) 9 Initialised [] 6 (Some GotObject
    ∷ done 2 ++ None ∷ done 2 ++ None ∷ done 1)

meeting-initialises : plays meeting (small 5) meeting_claimed (0 ∷ 0 ∷ 1 ∷ 0 ∷ []) ≡ meeting_initialised
unfolding refusal next completion after_turn shade builtin_classes upwards interfaces_from is_within is_subtype_within
    int_wrap digits
meeting-initialises = refl

abbrev meeting_ended : Played
meeting_ended = meeting_played (Ended None ∷ Ended None ∷ []) 9 Initialised (codes "9\n9\n") 12 (Some GotObject ∷ done 2
    ++ None ∷ done 2 ++ None ∷ done 7)

meeting-ends : plays meeting (small 5) meeting_initialised (1 ∷ 1 ∷ 1 ∷ 0 ∷ 0 ∷ 0 ∷ []) ≡ meeting_ended
unfolding refusal next completion after_turn shade builtin_classes upwards interfaces_from is_within is_subtype_within
    int_wrap digits
meeting-ends = refl

meeting-run : plays meeting (small 5) (opens meeting (small 5)) (0 ∷ 0 ∷ 0 ∷ 1 ∷ 0 ∷ 0 ∷ 1 ∷ 0 ∷ 1 ∷ 1 ∷ 1 ∷ 0 ∷ 0 ∷ 0
    ∷ []) ≡ meeting_ended
meeting-run =
    and_then meeting (small 5) (opens meeting (small 5)) meeting_started meeting_ended (zeros 2) (0 ∷ 1 ∷ 0 ∷ 0 ∷ 1 ∷ 0
    ∷ 1 ∷ 1 ∷ 1 ∷ 0 ∷ 0 ∷ 0 ∷ []) meeting-starts
    (and_then meeting (small 5) meeting_started meeting_claimed meeting_ended (0 ∷ 1 ∷ []) (0 ∷ 0 ∷ 1 ∷ 0 ∷ 1 ∷ 1 ∷ 1
    ∷ 0 ∷ 0 ∷ 0 ∷ []) meeting-claims
    (and_then meeting (small 5) meeting_claimed meeting_initialised meeting_ended (0 ∷ 0 ∷ 1 ∷ 0 ∷ []) (1 ∷ 1 ∷ 1 ∷ 0
    ∷ 0 ∷ 0 ∷ []) meeting-initialises meeting-ends))

-- ---- each of two threads initialises a class, and wants the other's: neither is ever ready again

abbrev wanting : List ℕ → ClassListing → ClassListing
wanting other c = with_x (record c { methods = initializer 1 (getstatic other ∷ pop ∷ return ∷ []) ∷ [] })

abbrev locking : List ClassListing
locking =
    plain (codes "M") (main 1 (getstatic (codes "A") ∷ pop ∷ return ∷ []) ∷ []) ∷
    class (codes "T") (codes "java/lang/Thread") [] (method 1 (codes "run") (codes "()V") 1 1 (getstatic (codes "B")
    ∷ pop ∷ return ∷ []) ∷ []) ∷
    wanting (codes "B") (plain (codes "A") []) ∷
    wanting (codes "A") (plain (codes "B") []) ∷ []

-- thread 1 runs T's run
abbrev locking_world : List Frame → List Frame → ClassState → ClassState → ℕ → World
locking_world of_0 of_1 a b rows = world
    (Live (at 0 0 0 [] 1 ∷ of_0) ∷ Live (frame (place 1 0) 0 (Holds (Ref (Some 3)) ∷ []) [] 1 None ∷ of_1) ∷ [])
    (holding (codes "A") 0 ∷ holding (codes "B") 0 ∷ []) (Initialised ∷ Initialised ∷ a ∷ b ∷ []) []
    (object (codes "T") None 0 (Some 1) ∷ []) rows

abbrev locked : World
locked = locking_world (at 2 0 0 [] 1 ∷ []) (at 3 0 0 [] 1 ∷ []) (Running 0) (Running 1) 2

locking-run : plays locking (small 5) (played (locking_world [] [] Unused Unused 0) two_free []) (0 ∷ 1 ∷ 0 ∷ 1 ∷ [])
    ≡ played locked two_free (done 2 ++ None ∷ None ∷ [])
unfolding refusal next completion after_turn shade builtin_classes upwards interfaces_from is_within is_subtype_within
    int_wrap digits
locking-run = refl

locking-stuck : status_in locking locked ≡ Stuck
unfolding completion builtin_classes upwards interfaces_from
locking-stuck = refl

-- ---- a class without an initializer between two that declare one: it has an empty one, after its last method

abbrev between : List ClassListing
between =
    plain (codes "M") (main 1 (new (codes "R") ∷ pop ∷ return ∷ []) ∷ []) ∷
    plain (codes "P") (printing iconst_1 ∷ []) ∷
    class (codes "Q") (codes "P") [] (method 9 (codes "f") (codes "()V") 0 0 (return ∷ []) ∷ []) ∷
    class (codes "R") (codes "Q") [] (printing iconst_2 ∷ []) ∷ []

abbrev between_claimed : Played
between_claimed = played
    (world (Live (at 0 0 0 [] 1 ∷ waiting (at 3 0 0 [] 1) ∷ waiting (at 2 1 0 [] 0) ∷ at 1 0 0 [] 1 ∷ []) ∷ []) []
    (Initialised ∷ Running 0 ∷ Running 0 ∷ Running 0 ∷ []) [] [] 1)
    three_free (done 1)

between-claim : plays between (small 5) (opens between (small 5)) (zeros 1) ≡ between_claimed
unfolding refusal next completion after_turn shade builtin_classes upwards interfaces_from is_within is_subtype_within
    int_wrap digits
between-claim = refl

-- Q's turn is its return
abbrev between_above : Played
between_above = played
    (world (Live (at 0 0 0 [] 1 ∷ at 3 0 0 [] 1 ∷ []) ∷ []) [] (Initialised ∷ Initialised ∷ Initialised ∷ Running 0
    ∷ []) (codes "1\n") [] 5)
    three_free (done 5)

between-first : plays between (small 5) between_claimed (zeros 4) ≡ between_above
unfolding refusal next completion after_turn shade builtin_classes upwards interfaces_from is_within is_subtype_within
    int_wrap digits
between-first = refl

abbrev between_ended : Played
between_ended = played
    (world (Ended None ∷ []) [] (Initialised ∷ Initialised ∷ Initialised ∷ Initialised ∷ []) (codes "1\n2\n")
    (plain_object (codes "R") ∷ []) 11)
    two_free
    (done 8 ++ Some GotObject ∷ done 2)

between-later : plays between (small 5) between_above (zeros 6) ≡ between_ended
unfolding refusal next completion after_turn shade builtin_classes upwards interfaces_from is_within is_subtype_within
    int_wrap digits
between-later = refl

between-run : plays between (small 5) (opens between (small 5)) (zeros 11) ≡ between_ended
between-run =
    and_then between (small 5) (opens between (small 5)) between_claimed between_ended (zeros 1) (zeros 10)
    between-claim
    (and_then between (small 5) between_claimed between_above between_ended (zeros 4) (zeros 6) between-first
    between-later)
