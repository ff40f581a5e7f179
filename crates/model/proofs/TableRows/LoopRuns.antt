-- A loop that makes objects and drops them, on eight small cells without a collector: six objects have cells, and the
-- next ask finds none.
use Rattle.std.specs.Prelude.{◌≡◌, pos, List, [], ◌∷◌, ◌++◌, Some, codes, refl}
use Rattle.std.specs.Int.{int_wrap}
use Rattle.std.specs.Fmt.{digits}
use Rattle.model.specs.declared.colours.Colour.TheVariants.{White, Grey}
use Rattle.model.specs.declared.colours.Phase.TheVariants.{Idle}
use Rattle.model.proofs.TableRows.Listings.{return, ample}
use Rattle.model.proofs.TableRows.Stages.{class_of, small, main_at, world, thread, account, stage, then}
use Rattle.model.specs.declared.colours.Cell.TheVariants.{Free, Taken}
use Rattle.model.specs.Accounts.{after_turn, shade}
use Rattle.model.specs.ClassListings.{ClassListing}
use Rattle.model.specs.Classes.Builtin.{builtin_classes}
use Rattle.model.specs.Classes.Search.{upwards, interfaces_from}
use Rattle.model.specs.Classes.Subclasses.{is_within}
use Rattle.model.specs.Classes.Types.{is_subtype_within}
use Rattle.model.specs.Collector.Places.{root_at, word_at}
use Rattle.model.specs.Collector.Runs.{moved_by, moved_by_all}
use Rattle.model.specs.Collector.Table.{collected}
use Rattle.model.specs.Machines.{Machine, opening_machine, row_by}
use Rattle.model.specs.Objects.{made_of}
use Rattle.model.specs.Table.Next.{completion, next}
use Rattle.model.specs.Turns.{refusal}
use Rattle.model.specs.Worlds.Contents.{Instance}
use Rattle.model.specs.Worlds.Thread.{Ended}
use Rattle.model.specs.Worlds.{Object}
use Rattle.model.specs.declared.instructions.ClassOperation.TheVariants.{New}
use Rattle.model.specs.declared.instructions.Comparison.TheVariants.{Less}
use Rattle.model.specs.declared.instructions.Constant.TheVariants.{SmallInt, Short}
use Rattle.model.specs.declared.instructions.FirstLocal.TheVariants.{Zero as FirstZero}
use Rattle.model.specs.declared.instructions.Increment.TheVariants.{Byte as ByByte}
use Rattle.model.specs.declared.instructions.Instruction.TheVariants.{Class, Constant, Local, Stack, Branch}
use Rattle.model.specs.declared.instructions.Local.TheVariants.{First}
use Rattle.model.specs.declared.instructions.LocalAccess.TheVariants.{Load, Store, Increment}
use Rattle.model.specs.declared.instructions.SmallInt.TheVariants.{Zero}
use Rattle.model.specs.declared.instructions.StackOperation.TheVariants.{Pop}
use Rattle.model.specs.declared.instructions.Test.TheVariants.{Ints}
use Rattle.model.specs.declared.journals.Outcome.TheVariants.{NoRoom}
use Rattle.model.specs.declared.turns.Actor.TheVariants.{Thread}
use Rattle.model.specs.declared.turns.Actor.{Actor}
use Rattle.model.specs.declared.values.Entry.TheVariants.{Holds}
use Rattle.model.specs.declared.values.Kind.TheVariants.{Int as IntKind}
use Rattle.model.specs.declared.values.Value.TheVariants.{Int}

-- instructions at their pcs: 0, 1, 2 (Top), 5, 6, 9, 10, 13 and 16
abbrev g : List ClassListing
g = class_of (codes "G") [] 2 1 []
    ((1, Constant (SmallInt Zero)) ∷ (1, Local (Store IntKind (First FirstZero))) ∷ (3, Class New (codes "G"))
    ∷ (1, Stack Pop) ∷
    (3, Local (Increment (ByByte 0 (pos 1)))) ∷ (1, Local (Load IntKind (First FirstZero)))
    ∷ (3, Constant (Short (pos 10000))) ∷
    (3, Branch (Ints Less) 2) ∷ return ∷ []) ∷ []

abbrev object : Object
object = made_of (Instance (codes "G") [])

abbrev moved : Machine → List Actor → Machine
moved = moved_by_all g (small 8) ample

-- ---- 38 turns, and the ask that finds no room: the thread ends by the error that was made before the run

abbrev full0 : Machine
full0 = opening_machine g (small 8)

abbrev full1 : Machine
full1 =
    stage (world (main_at 2 2 (Holds (Int (pos 0)) ∷ []) []) [] [] 2)
    (account (Taken 1 White ∷ Taken 2 White ∷ Free ∷ Free ∷ Free ∷ Free ∷ Free ∷ Free ∷ []) (2 ∷ 3 ∷ 4 ∷ 5 ∷ 6 ∷ 7 ∷ [])
    [] Idle)

full0-full1 : moved full0 (thread 2) ≡ full1
unfolding moved_by refusal next completion after_turn shade collected root_at word_at builtin_classes upwards
    interfaces_from is_within is_subtype_within int_wrap digits
full0-full1 = refl

abbrev full2 : Machine
full2 =
    stage (world (main_at 2 2 (Holds (Int (pos 1)) ∷ []) []) [] (object ∷ []) 8)
    (account (Taken 1 White ∷ Taken 2 White ∷ Taken 3 Grey ∷ Free ∷ Free ∷ Free ∷ Free ∷ Free ∷ []) (3 ∷ 4 ∷ 5 ∷ 6 ∷ 7
    ∷ []) (3 ∷ []) Idle)

full1-full2 : moved full1 (thread 6) ≡ full2
unfolding moved_by refusal next completion after_turn shade collected root_at word_at builtin_classes upwards
    interfaces_from is_within is_subtype_within int_wrap digits
full1-full2 = refl

abbrev full3 : Machine
full3 =
    stage (world (main_at 2 2 (Holds (Int (pos 2)) ∷ []) []) [] (object ∷ object ∷ []) 14)
    (account (Taken 1 White ∷ Taken 2 White ∷ Taken 3 Grey ∷ Taken 4 Grey ∷ Free ∷ Free ∷ Free ∷ Free ∷ [])
    (4 ∷ 5 ∷ 6 ∷ 7 ∷ []) (3 ∷ 4 ∷ []) Idle)

full2-full3 : moved full2 (thread 6) ≡ full3
unfolding moved_by refusal next completion after_turn shade collected root_at word_at builtin_classes upwards
    interfaces_from is_within is_subtype_within int_wrap digits
full2-full3 = refl

abbrev full4 : Machine
full4 =
    stage (world (main_at 2 2 (Holds (Int (pos 3)) ∷ []) []) [] (object ∷ object ∷ object ∷ []) 20)
    (account (Taken 1 White ∷ Taken 2 White ∷ Taken 3 Grey ∷ Taken 4 Grey ∷ Taken 5 Grey ∷ Free ∷ Free ∷ Free ∷ [])
    (5 ∷ 6 ∷ 7 ∷ []) (3 ∷ 4 ∷ 5 ∷ []) Idle)

full3-full4 : moved full3 (thread 6) ≡ full4
unfolding moved_by refusal next completion after_turn shade collected root_at word_at builtin_classes upwards
    interfaces_from is_within is_subtype_within int_wrap digits
full3-full4 = refl

abbrev full5 : Machine
full5 =
    stage (world (main_at 2 2 (Holds (Int (pos 4)) ∷ []) []) [] (object ∷ object ∷ object ∷ object ∷ []) 26)
    (account (Taken 1 White ∷ Taken 2 White ∷ Taken 3 Grey ∷ Taken 4 Grey ∷ Taken 5 Grey ∷ Taken 6 Grey ∷ Free ∷ Free
    ∷ []) (6 ∷ 7 ∷ []) (3 ∷ 4 ∷ 5 ∷ 6 ∷ []) Idle)

full4-full5 : moved full4 (thread 6) ≡ full5
unfolding moved_by refusal next completion after_turn shade collected root_at word_at builtin_classes upwards
    interfaces_from is_within is_subtype_within int_wrap digits
full4-full5 = refl

abbrev full6 : Machine
full6 =
    stage (world (main_at 2 2 (Holds (Int (pos 5)) ∷ []) []) [] (object ∷ object ∷ object ∷ object ∷ object ∷ []) 32)
    (account (Taken 1 White ∷ Taken 2 White ∷ Taken 3 Grey ∷ Taken 4 Grey ∷ Taken 5 Grey ∷ Taken 6 Grey ∷ Taken 7 Grey
    ∷ Free ∷ []) (7 ∷ []) (3 ∷ 4 ∷ 5 ∷ 6 ∷ 7 ∷ []) Idle)

full5-full6 : moved full5 (thread 6) ≡ full6
unfolding moved_by refusal next completion after_turn shade collected root_at word_at builtin_classes upwards
    interfaces_from is_within is_subtype_within int_wrap digits
full5-full6 = refl

abbrev full7 : Machine
full7 =
    stage (world (main_at 2 2 (Holds (Int (pos 6)) ∷ []) []) [] (object ∷ object ∷ object ∷ object ∷ object ∷ object
    ∷ []) 38)
    (account (Taken 1 White ∷ Taken 2 White ∷ Taken 3 Grey ∷ Taken 4 Grey ∷ Taken 5 Grey ∷ Taken 6 Grey ∷ Taken 7 Grey
    ∷ Taken 8 Grey ∷ []) [] (3 ∷ 4 ∷ 5 ∷ 6 ∷ 7 ∷ 8 ∷ []) Idle)

full6-full7 : moved full6 (thread 6) ≡ full7
unfolding moved_by refusal next completion after_turn shade collected root_at word_at builtin_classes upwards
    interfaces_from is_within is_subtype_within int_wrap digits
full6-full7 = refl

abbrev full8 : Machine
full8 =
    stage (world (Ended (Some (codes "java/lang/OutOfMemoryError"))) [] (object ∷ object ∷ object ∷ object ∷ object
    ∷ object ∷ []) 39)
    (account (Taken 1 White ∷ Taken 2 White ∷ Taken 3 Grey ∷ Taken 4 Grey ∷ Taken 5 Grey ∷ Taken 6 Grey ∷ Taken 7 Grey
    ∷ Taken 8 Grey ∷ []) [] (3 ∷ 4 ∷ 5 ∷ 6 ∷ 7 ∷ 8 ∷ []) Idle)

full7-full8 : moved full7 (thread 1) ≡ full8
unfolding moved_by refusal next completion after_turn shade collected root_at word_at builtin_classes upwards
    interfaces_from is_within is_subtype_within int_wrap digits
full7-full8 = refl

pub full-run : moved full0 (thread 2 ++ thread 6 ++ thread 6 ++ thread 6 ++ thread 6 ++ thread 6 ++ thread 6
    ++ thread 1) ≡ full8
full-run =
    then g (small 8) ample full0 full1 full8 (thread 2) (thread 6 ++ thread 6 ++ thread 6 ++ thread 6 ++ thread 6
    ++ thread 6 ++ thread 1) full0-full1
    (then g (small 8) ample full1 full2 full8 (thread 6) (thread 6 ++ thread 6 ++ thread 6 ++ thread 6 ++ thread 6
    ++ thread 1) full1-full2
    (then g (small 8) ample full2 full3 full8 (thread 6) (thread 6 ++ thread 6 ++ thread 6 ++ thread 6 ++ thread 1)
    full2-full3
    (then g (small 8) ample full3 full4 full8 (thread 6) (thread 6 ++ thread 6 ++ thread 6 ++ thread 1) full3-full4
    (then g (small 8) ample full4 full5 full8 (thread 6) (thread 6 ++ thread 6 ++ thread 1) full4-full5
    (then g (small 8) ample full5 full6 full8 (thread 6) (thread 6 ++ thread 1) full5-full6
    (then g (small 8) ample full6 full7 full8 (thread 6) (thread 1) full6-full7
    full7-full8))))))

-- the thirty-ninth row
full-row : row_by g ample full7 (Thread 0) 0 ≡ Some (record { actor = Thread 0; outcome = NoRoom; worker = 0 })
unfolding refusal next completion builtin_classes upwards is_within int_wrap
full-row = refl
