-- Worked runs of class initialisation that fails (JVMS 5.5): errors, other throwables, the classes that wait, and
-- classes that failed and are asked for again.
use Rattle.std.specs.Prelude.{◌≡◌, ℕ, pos, List, [], ◌∷◌, ◌++◌, replicate, Option, Some, None, codes, refl}
use Rattle.std.specs.Int.{int_wrap}
use Rattle.std.specs.Fmt.{digits}
use Rattle.model.specs.declared.colours.Colour.TheVariants.{Grey}
use Rattle.model.specs.declared.journals.Outcome.{Outcome}
use Rattle.model.specs.declared.journals.Outcome.TheVariants.{Object as GotObject, NoRoom}
use Rattle.model.specs.declared.listings.ExceptionRow.{ExceptionRow}
use Rattle.model.specs.declared.turns.ClassState.TheVariants.{Unused, Running, Done as Initialised, Failed}
use Rattle.model.specs.declared.turns.ClassState.{ClassState}
use Rattle.model.specs.declared.values.Entry.TheVariants.{Holds}
use Rattle.model.specs.declared.values.Value.TheVariants.{Int, Ref}
use Rattle.model.specs.Accounts.{Account, after_turn, shade}
use Rattle.model.specs.declared.colours.Cell.TheVariants.{Free, Taken}
use Rattle.model.specs.ClassListings.{ClassListing}
use Rattle.model.specs.Classes.Builtin.{builtin_classes}
use Rattle.model.specs.Classes.Search.{upwards, interfaces_from}
use Rattle.model.specs.Classes.Subclasses.{is_within}
use Rattle.model.specs.Classes.Types.{is_subtype_within}
use Rattle.model.specs.Frames.{Frame}
use Rattle.model.specs.Initialisation.{waiting}
use Rattle.model.specs.Table.Next.{completion, next}
use Rattle.model.specs.Turns.{refusal}
use Rattle.model.specs.Worlds.{World, Thread, Object, plain_object}
use Rattle.model.specs.Worlds.Thread.{Live, Ended}
use Rattle.model.proofs.TableRows.Listings.{print, return}
use Rattle.model.proofs.TableRows.Sites.{class, frame, method, object, place}
use Rattle.model.proofs.TableRows.Stages.{small}
use Rattle.model.proofs.TableRows.Outcomes.{Played, plays, opens, and_then, played, iconst_0, iconst_1, iconst_2, idiv}
use Rattle.model.proofs.TableRows.Outcomes.{pop, athrow, new, getstatic, catching, row, main, initializer, plain}
use Rattle.model.proofs.TableRows.Outcomes.{with_x, at, failed, holding, world, cells, three_free, done, zeros, error}
use Rattle.model.proofs.TableRows.Outcomes.{arithmetic, in_initializer, no_class, out_of_memory, two_free}

-- ---- an Error in P's initializer

abbrev throwing : ClassListing
throwing = plain (codes "P") (initializer 1 (new error ∷ athrow ∷ []) ∷ [])

-- main's class Q over P: thread 0 opens with both. Main waits, so that its row isn't tried
abbrev opened : List ClassListing
opened =
    class (codes "Q") (codes "P") [] (
    catching (row 0 1 0 None ∷ []) (main 1 (return ∷ [])) ∷
    initializer 1 (iconst_2 ∷ print ∷ return ∷ []) ∷ []) ∷
    throwing ∷ []

opened-opens : opens opened (small 5)
    ≡ played (world (Live (waiting (at 0 0 0 [] 1) ∷ waiting (at 0 1 0 [] 1) ∷ at 1 0 0 [] 1 ∷ []) ∷ []) []
    (Running 0 ∷ Running 0 ∷ []) [] [] 0) three_free []
unfolding builtin_classes upwards int_wrap
opened-opens = refl

opened-run : plays opened (small 5) (opens opened (small 5)) (zeros 2)
    ≡ played (world (Ended (Some error) ∷ []) [] (Failed ∷ Failed ∷ []) [] (plain_object error ∷ []) 2) two_free
    (Some GotObject ∷ done 1)
unfolding refusal next completion after_turn shade builtin_classes upwards interfaces_from is_within is_subtype_within
    int_wrap digits
opened-run = refl

-- M's main asks for R over Q over P, and catches the error: all three have failed. R waits too, so that its row isn't
-- tried
abbrev caught : List ClassListing
caught =
    plain (codes "M") (catching (row 0 3 3 None ∷ []) (main 1 (new (codes "R") ∷ return ∷ [])) ∷ []) ∷
    throwing ∷
    class (codes "Q") (codes "P") [] [] ∷
    class (codes "R") (codes "Q") [] (catching (row 0 1 0 None ∷ []) (initializer 1 (iconst_2 ∷ print ∷ return ∷ []))
    ∷ []) ∷ []

abbrev caught_claimed : Played
caught_claimed = played
    (world (Live (at 0 0 0 [] 1 ∷ waiting (at 3 0 0 [] 1) ∷ waiting (at 2 0 0 [] 0) ∷ at 1 0 0 [] 1 ∷ []) ∷ []) []
    (Initialised ∷ Running 0 ∷ Running 0 ∷ Running 0 ∷ []) [] [] 1)
    three_free (done 1)

caught-claim : plays caught (small 5) (opens caught (small 5)) (zeros 1) ≡ caught_claimed
unfolding refusal next completion after_turn shade builtin_classes upwards interfaces_from is_within is_subtype_within
    int_wrap digits
caught-claim = refl

abbrev caught_failed : Played
caught_failed = played
    (world (Live (at 0 0 3 (Ref (Some 3) ∷ []) 1 ∷ []) ∷ []) [] (Initialised ∷ Failed ∷ Failed ∷ Failed ∷ []) []
    (plain_object error ∷ []) 3)
    two_free (done 1 ++ Some GotObject ∷ done 1)

caught-fails : plays caught (small 5) caught_claimed (zeros 2) ≡ caught_failed
unfolding refusal next completion after_turn shade builtin_classes upwards interfaces_from is_within is_subtype_within
    int_wrap digits
caught-fails = refl

caught-run : plays caught (small 5) (opens caught (small 5)) (zeros 3) ≡ caught_failed
caught-run = and_then caught (small 5) (opens caught (small 5)) caught_claimed caught_failed (zeros 1) (zeros 2)
    caught-claim caught-fails

-- ---- a division by zero in P's initializer, which handles it itself or not

abbrev dividing : List ExceptionRow → ClassListing
dividing rows = with_x
    (plain (codes "P") (catching rows (initializer 2 (iconst_1 ∷ iconst_0 ∷ idiv ∷ pop ∷ return ∷ [])) ∷ []))

-- P's frame stands at the division, above Q's, which waits
abbrev below : List ExceptionRow → List ClassListing
below rows =
    plain (codes "M") (main 1 (new (codes "Q") ∷ pop ∷ return ∷ []) ∷ []) ∷
    dividing rows ∷
    class (codes "Q") (codes "P") [] (initializer 1 (iconst_2 ∷ print ∷ return ∷ []) ∷ []) ∷ []

abbrev below_played : List Frame → List Object → ℕ → Account → List (Option Outcome) → Played
below_played frames objects rows account outcomes = played
    (world (Live (at 0 0 0 [] 1 ∷ waiting (at 2 0 0 [] 1) ∷ frames) ∷ []) (holding (codes "P") 0 ∷ []) (Initialised
    ∷ Running 0 ∷ Running 0 ∷ []) [] objects rows)
    account outcomes

abbrev below_divides : Played
below_divides = below_played (at 1 0 2 (Int (pos 0) ∷ Int (pos 1) ∷ []) 2 ∷ []) [] 3 three_free (done 3)

below-divides : (rows : List ExceptionRow) → plays (below rows) (small 5) (opens (below rows) (small 5)) (zeros 3)
    ≡ below_divides
unfolding refusal next completion after_turn shade builtin_classes upwards interfaces_from is_within is_subtype_within
    int_wrap digits
below-divides rows = refl

-- handled, it is no failure
below-handles : plays (below (row 2 3 3 None ∷ [])) (small 5) below_divides (zeros 1)
    ≡ below_played (at 1 0 3 (Ref (Some 3) ∷ []) 2 ∷ []) (plain_object arithmetic ∷ []) 4 two_free (done 3
    ++ Some GotObject ∷ [])
unfolding refusal next completion after_turn shade builtin_classes upwards interfaces_from is_within is_subtype_within
    int_wrap digits
below-handles = refl

-- not handled: P is marked first, and the error of the next turn fails P, and Q with it
abbrev below_marked : Played
below_marked = below_played (failed (at 1 0 2 [] 2) ∷ []) (plain_object arithmetic ∷ []) 4 two_free (done 3
    ++ Some GotObject ∷ [])

below-marked : plays (below []) (small 5) below_divides (zeros 1) ≡ below_marked
unfolding refusal next completion after_turn shade builtin_classes upwards interfaces_from is_within is_subtype_within
    int_wrap digits
below-marked = refl

abbrev below_ended : Played
below_ended = played
    (world (Ended (Some in_initializer) ∷ []) (holding (codes "P") 0 ∷ []) (Initialised ∷ Failed ∷ Failed ∷ []) []
    (plain_object arithmetic ∷ plain_object in_initializer ∷ []) 5)
    (cells (Taken 3 Grey ∷ Taken 4 Grey ∷ Free ∷ []) (4 ∷ []) (3 ∷ 4 ∷ []))
    (done 3 ++ Some GotObject ∷ Some GotObject ∷ [])

below-ends : plays (below []) (small 5) below_marked (zeros 1) ≡ below_ended
unfolding refusal next completion after_turn shade builtin_classes upwards interfaces_from is_within is_subtype_within
    int_wrap digits
below-ends = refl

below-run : plays (below []) (small 5) (opens (below []) (small 5)) (zeros 5) ≡ below_ended
below-run =
    and_then (below []) (small 5) (opens (below []) (small 5)) below_divides below_ended (zeros 3) (zeros 2)
    (below-divides [])
    (and_then (below []) (small 5) below_divides below_marked below_ended (zeros 1) (zeros 1) below-marked below-ends)

-- the row of a marked frame isn't tried any more
abbrev once : List ClassListing
once = below (row 2 3 3 (Some in_initializer) ∷ [])

once-marked : plays once (small 5) below_divides (zeros 1) ≡ below_marked
unfolding refusal next completion after_turn shade builtin_classes upwards interfaces_from is_within is_subtype_within
    int_wrap digits
once-marked = refl

once-ends : plays once (small 5) below_marked (zeros 1) ≡ below_ended
unfolding refusal next completion after_turn shade builtin_classes upwards interfaces_from is_within is_subtype_within
    int_wrap digits
once-ends = refl

-- where no cell has room the OutOfMemoryError takes the place of either, and fails both classes at once
abbrev ended_without_room : Account → List Object → ℕ → List (Option Outcome) → Played
ended_without_room account objects rows outcomes = played
    (world (Ended (Some out_of_memory) ∷ []) (holding (codes "P") 0 ∷ []) (Initialised ∷ Failed ∷ Failed ∷ []) []
    objects rows)
    account outcomes

below-no_error : plays (below []) (small 3) (opens (below []) (small 3)) (zeros 5)
    ≡ ended_without_room (cells (Taken 3 Grey ∷ []) [] (3 ∷ [])) (plain_object arithmetic ∷ []) 5 (done 3
    ++ Some GotObject ∷ Some NoRoom ∷ [])
unfolding refusal next completion after_turn shade builtin_classes upwards interfaces_from is_within is_subtype_within
    int_wrap digits
below-no_error = refl

below-no_exception : plays (below []) (small 2) (opens (below []) (small 2)) (zeros 4)
    ≡ ended_without_room (cells [] [] []) [] 4 (done 3 ++ Some NoRoom ∷ [])
unfolding refusal next completion after_turn shade builtin_classes upwards interfaces_from is_within is_subtype_within
    int_wrap digits
below-no_exception = refl

-- ---- thread 1 waits for a class that thread 0 initialises, and that fails

abbrev sharing : List ClassListing
sharing =
    plain (codes "M") (main 1 (getstatic (codes "P") ∷ pop ∷ return ∷ []) ∷ []) ∷
    class (codes "T") (codes "java/lang/Thread") [] (method 1 (codes "run") (codes "()V") 1 1 (getstatic (codes "P")
    ∷ pop ∷ return ∷ []) ∷ []) ∷
    dividing [] ∷ []

abbrev shared_world : List Thread → ClassState → List Object → ℕ → World
shared_world threads state objects rows = world threads (holding (codes "P") 0 ∷ []) (Initialised ∷ Initialised ∷ state
    ∷ []) []
    (object (codes "T") None 0 (Some 1) ∷ plain_object arithmetic ∷ objects) rows

-- P is marked, and T's run stands at its getstatic
abbrev sharing_marked : Played
sharing_marked = played
    (shared_world (Live (at 0 0 0 [] 1 ∷ failed (at 2 0 2 [] 2) ∷ [])
    ∷ Live (frame (place 1 0) 0 (Holds (Ref (Some 3)) ∷ []) [] 1 None ∷ []) ∷ []) (Running 0) [] 0)
    (cells (Taken 3 Grey ∷ Taken 4 Grey ∷ Free ∷ Free ∷ []) (4 ∷ 5 ∷ []) (3 ∷ 4 ∷ [])) []

-- its first turn is refused, and its next finds a class that failed
sharing-run : plays sharing (small 6) sharing_marked (1 ∷ 0 ∷ 1 ∷ [])
    ≡ played (shared_world (Ended (Some in_initializer) ∷ Ended (Some no_class) ∷ []) Failed (plain_object
    in_initializer ∷ plain_object no_class ∷ []) 2) (cells (Taken 3 Grey ∷ Taken 4 Grey ∷ Taken 5 Grey ∷ Taken 6 Grey
    ∷ []) [] (3 ∷ 4 ∷ 5 ∷ 6 ∷ [])) (None ∷ Some GotObject ∷ Some GotObject ∷ [])
unfolding refusal next completion after_turn shade builtin_classes upwards interfaces_from is_within is_subtype_within
    int_wrap digits
sharing-run = refl

-- ---- P failed and is asked for again, by R over Q over P first: both fail with it

-- instructions of main at their pcs: 0, 3, 6, 9 and 12; each catches what the one before it throws
abbrev asking : List ClassListing
asking =
    plain (codes "M") (
    catching (row 0 3 3 None ∷ row 3 6 6 None ∷ row 6 9 9 None ∷ row 9 12 12 None ∷ [])
    (main 1 (getstatic (codes "P") ∷ new (codes "R") ∷ new (codes "Q") ∷ getstatic (codes "P") ∷ return ∷ [])) ∷ []) ∷
    dividing [] ∷
    class (codes "Q") (codes "P") [] [] ∷
    class (codes "R") (codes "Q") [] [] ∷ []

abbrev asking_thread : ℕ → ℕ → Thread
asking_thread pc birth = Live (at 0 0 pc (Ref (Some birth) ∷ []) 1 ∷ [])

abbrev denied : List Object
denied = plain_object no_class ∷ []

-- P alone has failed
abbrev asking_first : Played
asking_first = played
    (world (asking_thread 3 4 ∷ []) (holding (codes "P") 0 ∷ []) (Initialised ∷ Failed ∷ Unused ∷ Unused ∷ []) []
    (plain_object arithmetic ∷ plain_object in_initializer ∷ []) 5)
    (cells (Taken 3 Grey ∷ Taken 4 Grey ∷ Free ∷ Free ∷ Free ∷ []) (4 ∷ 5 ∷ 6 ∷ []) (3 ∷ 4 ∷ []))
    (done 3 ++ Some GotObject ∷ Some GotObject ∷ [])

asking-first : plays asking (small 7) (opens asking (small 7)) (zeros 5) ≡ asking_first
unfolding refusal next completion after_turn shade builtin_classes upwards interfaces_from is_within is_subtype_within
    int_wrap digits
asking-first = refl

-- the new R fails, and with it R and Q
abbrev asking_second : Played
asking_second = played
    (world (asking_thread 6 5 ∷ []) (holding (codes "P") 0 ∷ []) (Initialised ∷ Failed ∷ Failed ∷ Failed ∷ []) []
    (plain_object arithmetic ∷ plain_object in_initializer ∷ denied) 6)
    (cells (Taken 3 Grey ∷ Taken 4 Grey ∷ Taken 5 Grey ∷ Free ∷ Free ∷ []) (5 ∷ 6 ∷ []) (3 ∷ 4 ∷ 5 ∷ []))
    (done 3 ++ replicate 3 (Some GotObject))

asking-second : plays asking (small 7) asking_first (zeros 1) ≡ asking_second
unfolding refusal next completion after_turn shade builtin_classes upwards interfaces_from is_within is_subtype_within
    int_wrap digits
asking-second = refl

-- so do the new Q, and P again
abbrev asking_ended : Played
asking_ended = played
    (world (Ended None ∷ []) (holding (codes "P") 0 ∷ []) (Initialised ∷ Failed ∷ Failed ∷ Failed ∷ []) []
    (plain_object arithmetic ∷ plain_object in_initializer ∷ denied ++ denied ++ denied) 9)
    (cells (Taken 3 Grey ∷ Taken 4 Grey ∷ Taken 5 Grey ∷ Taken 6 Grey ∷ Taken 7 Grey ∷ []) [] (3 ∷ 4 ∷ 5 ∷ 6 ∷ 7 ∷ []))
    (done 3 ++ replicate 5 (Some GotObject) ++ done 1)

asking-ends : plays asking (small 7) asking_second (zeros 3) ≡ asking_ended
unfolding refusal next completion after_turn shade builtin_classes upwards interfaces_from is_within is_subtype_within
    int_wrap digits
asking-ends = refl

asking-run : plays asking (small 7) (opens asking (small 7)) (zeros 9) ≡ asking_ended
asking-run =
    and_then asking (small 7) (opens asking (small 7)) asking_first asking_ended (zeros 5) (zeros 4) asking-first
    (and_then asking (small 7) asking_first asking_second asking_ended (zeros 1) (zeros 3) asking-second asking-ends)
