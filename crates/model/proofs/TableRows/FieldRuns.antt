-- An object that comes while the collector marks, and one that comes while it appends: class K makes an object with an
-- int, puts 5 into it and prints what it gets back, on three small cells.
use Rattle.std.specs.Prelude.{◌≡◌, pos, List, [], ◌∷◌, ◌++◌, Some, None, codes, refl}
use Rattle.std.specs.Int.{int_wrap}
use Rattle.std.specs.Fmt.{digits}
use Rattle.model.specs.declared.colours.Colour.TheVariants.{White, Grey, Black}
use Rattle.model.specs.declared.colours.Phase.TheVariants.{Idle, Mark, Append}
use Rattle.model.proofs.TableRows.Listings.{Sized, print, return, ample}
use Rattle.model.proofs.TableRows.Stages.{class_of, field, member, small, main_at, world, collector, thread, account}
use Rattle.model.proofs.TableRows.Stages.{stage, then}
use Rattle.model.specs.declared.colours.Cell.TheVariants.{Free, Taken}
use Rattle.model.specs.Accounts.{after_turn, shade}
use Rattle.model.specs.ClassListings.{ClassListing}
use Rattle.model.specs.Classes.Builtin.{builtin_classes}
use Rattle.model.specs.Classes.Search.{upwards, interfaces_from}
use Rattle.model.specs.Classes.Subclasses.{is_within}
use Rattle.model.specs.Classes.Types.{is_subtype_within}
use Rattle.model.specs.Collector.Places.{root_at, word_at}
use Rattle.model.specs.Collector.Runs.{moved_by, moved_by_all}
use Rattle.model.specs.Collector.Table.{collected}
use Rattle.model.specs.Machines.{Machine, opening_machine, row_by}
use Rattle.model.specs.Objects.{made_of}
use Rattle.model.specs.Table.Next.{completion, next}
use Rattle.model.specs.Turns.{refusal}
use Rattle.model.specs.Worlds.Contents.{Instance}
use Rattle.model.specs.Worlds.Thread.{Ended}
use Rattle.model.specs.Worlds.{Object}
use Rattle.model.specs.declared.instructions.Access.TheVariants.{Get, Put}
use Rattle.model.specs.declared.instructions.ClassOperation.TheVariants.{New}
use Rattle.model.specs.declared.instructions.Constant.TheVariants.{Byte}
use Rattle.model.specs.declared.instructions.FirstLocal.TheVariants.{Zero}
use Rattle.model.specs.declared.instructions.Instruction.TheVariants.{Class, Constant, Field, Local}
use Rattle.model.specs.declared.instructions.Local.TheVariants.{First}
use Rattle.model.specs.declared.instructions.LocalAccess.TheVariants.{Load, Store}
use Rattle.model.specs.declared.journals.Outcome.TheVariants.{Object as GotObject}
use Rattle.model.specs.declared.turns.Actor.TheVariants.{Thread}
use Rattle.model.specs.declared.turns.Actor.{Actor}
use Rattle.model.specs.declared.values.Entry.TheVariants.{Unset, Holds}
use Rattle.model.specs.declared.values.Kind.TheVariants.{Ref as RefKind}
use Rattle.model.specs.declared.values.Value.TheVariants.{Int, Ref}
use Rattle.model.specs.declared.values.Value.{Value}

abbrev aload_0 : Sized
aload_0 = (1, Local (Load RefKind (First Zero)))

abbrev k : List ClassListing
k = class_of (codes "K") (field (codes "x") (codes "I") ∷ []) 2 1 []
    ((3, Class New (codes "K")) ∷ (1, Local (Store RefKind (First Zero))) ∷ aload_0 ∷ (2, Constant (Byte (pos 5))) ∷
    (3, Field Put (member (codes "K") (codes "x") (codes "I"))) ∷ aload_0
    ∷ (3, Field Get (member (codes "K") (codes "x") (codes "I"))) ∷
    print ∷ return ∷ []) ∷ []

abbrev object : Value → Object
object value = made_of (Instance (codes "K") (record {
  class = codes "K";
  name = codes "x";
  descriptor = codes "I";
  value = value;
} ∷ []))

abbrev moved : Machine → List Actor → Machine
moved = moved_by_all k (small 3) ample

-- ---- the collector has 8 turns, the thread 1, the collector 7, the thread 8. After the tenth turn of the collector
-- cell 2 is black; after the fifteenth the cycle has ended and it is white

abbrev first0 : Machine
first0 = opening_machine k (small 3)

abbrev first1 : Machine
first1 =
    stage (world (main_at 2 0 (Unset ∷ []) []) [] [] 8)
    (account (Taken 1 Black ∷ Taken 2 Black ∷ Free ∷ []) (2 ∷ []) [] (Mark 0))

first0-first1 : moved first0 (collector 8) ≡ first1
unfolding moved_by refusal next completion after_turn shade collected root_at word_at builtin_classes upwards
    interfaces_from is_within is_subtype_within int_wrap digits
first0-first1 = refl

abbrev first2 : Machine
first2 =
    stage (world (main_at 2 3 (Unset ∷ []) (Ref (Some 3) ∷ [])) [] (object (Int (pos 0)) ∷ []) 9)
    (account (Taken 1 Black ∷ Taken 2 Black ∷ Taken 3 Grey ∷ []) [] (3 ∷ []) (Mark 0))

first1-first2 : moved first1 (thread 1) ≡ first2
unfolding moved_by refusal next completion after_turn shade collected root_at word_at builtin_classes upwards
    interfaces_from is_within is_subtype_within int_wrap digits
first1-first2 = refl

abbrev first3 : Machine
first3 =
    stage (world (main_at 2 3 (Unset ∷ []) (Ref (Some 3) ∷ [])) [] (object (Int (pos 0)) ∷ []) 11)
    (account (Taken 1 Black ∷ Taken 2 Black ∷ Taken 3 Black ∷ []) [] [] (Mark 0))

first2-first3 : moved first2 (collector 2) ≡ first3
unfolding moved_by refusal next completion after_turn shade collected root_at word_at builtin_classes upwards
    interfaces_from is_within is_subtype_within int_wrap digits
first2-first3 = refl

abbrev first4 : Machine
first4 =
    stage (world (main_at 2 3 (Unset ∷ []) (Ref (Some 3) ∷ [])) [] (object (Int (pos 0)) ∷ []) 16)
    (account (Taken 1 White ∷ Taken 2 White ∷ Taken 3 White ∷ []) [] [] Idle)

first3-first4 : moved first3 (collector 5) ≡ first4
unfolding moved_by refusal next completion after_turn shade collected root_at word_at builtin_classes upwards
    interfaces_from is_within is_subtype_within int_wrap digits
first3-first4 = refl

abbrev first5 : Machine
first5 =
    stage (world (main_at 2 10 (Holds (Ref (Some 3)) ∷ []) []) [] (object (Int (pos 5)) ∷ []) 20)
    (account (Taken 1 White ∷ Taken 2 White ∷ Taken 3 Grey ∷ []) [] (3 ∷ []) Idle)

first4-first5 : moved first4 (thread 4) ≡ first5
unfolding moved_by refusal next completion after_turn shade collected root_at word_at builtin_classes upwards
    interfaces_from is_within is_subtype_within int_wrap digits
first4-first5 = refl

abbrev first6 : Machine
first6 =
    stage (world (Ended None) (codes "5\n") (object (Int (pos 5)) ∷ []) 24)
    (account (Taken 1 White ∷ Taken 2 White ∷ Taken 3 Grey ∷ []) [] (3 ∷ []) Idle)

first5-first6 : moved first5 (thread 4) ≡ first6
unfolding moved_by refusal next completion after_turn shade collected root_at word_at builtin_classes upwards
    interfaces_from is_within is_subtype_within int_wrap digits
first5-first6 = refl

pub first-run : moved first0 (collector 8 ++ thread 1 ++ collector 2 ++ collector 5 ++ thread 4 ++ thread 4) ≡ first6
first-run =
    then k (small 3) ample first0 first1 first6 (collector 8) (thread 1 ++ collector 2 ++ collector 5 ++ thread 4
    ++ thread 4) first0-first1
    (then k (small 3) ample first1 first2 first6 (thread 1) (collector 2 ++ collector 5 ++ thread 4 ++ thread 4)
    first1-first2
    (then k (small 3) ample first2 first3 first6 (collector 2) (collector 5 ++ thread 4 ++ thread 4) first2-first3
    (then k (small 3) ample first3 first4 first6 (collector 5) (thread 4 ++ thread 4) first3-first4
    (then k (small 3) ample first4 first5 first6 (thread 4) (thread 4) first4-first5
    first5-first6))))

-- the ninth row
first-row : row_by k ample first1 (Thread 0) 0 ≡ Some (record { actor = Thread 0; outcome = GotObject; worker = 0 })
unfolding refusal next completion builtin_classes upwards
first-row = refl

-- ---- the collector has 9 turns, the thread 1, the collector 4, the thread 8. After the thirteenth turn of the
-- collector the cycle has ended and cell 2 is grey

abbrev second0 : Machine
second0 = opening_machine k (small 3)

abbrev second1 : Machine
second1 =
    stage (world (main_at 2 3 (Unset ∷ []) (Ref (Some 3) ∷ [])) [] (object (Int (pos 0)) ∷ []) 10)
    (account (Taken 1 Black ∷ Taken 2 Black ∷ Taken 3 Grey ∷ []) [] (3 ∷ []) (Append 0))

second0-second1 : moved second0 (collector 9 ++ thread 1) ≡ second1
unfolding moved_by refusal next completion after_turn shade collected root_at word_at builtin_classes upwards
    interfaces_from is_within is_subtype_within int_wrap digits
second0-second1 = refl

abbrev second2 : Machine
second2 =
    stage (world (main_at 2 3 (Unset ∷ []) (Ref (Some 3) ∷ [])) [] (object (Int (pos 0)) ∷ []) 14)
    (account (Taken 1 White ∷ Taken 2 White ∷ Taken 3 Grey ∷ []) [] (3 ∷ []) Idle)

second1-second2 : moved second1 (collector 4) ≡ second2
unfolding moved_by refusal next completion after_turn shade collected root_at word_at builtin_classes upwards
    interfaces_from is_within is_subtype_within int_wrap digits
second1-second2 = refl

abbrev second3 : Machine
second3 =
    stage (world (main_at 2 10 (Holds (Ref (Some 3)) ∷ []) []) [] (object (Int (pos 5)) ∷ []) 18)
    (account (Taken 1 White ∷ Taken 2 White ∷ Taken 3 Grey ∷ []) [] (3 ∷ []) Idle)

second2-second3 : moved second2 (thread 4) ≡ second3
unfolding moved_by refusal next completion after_turn shade collected root_at word_at builtin_classes upwards
    interfaces_from is_within is_subtype_within int_wrap digits
second2-second3 = refl

abbrev second4 : Machine
second4 =
    stage (world (Ended None) (codes "5\n") (object (Int (pos 5)) ∷ []) 22)
    (account (Taken 1 White ∷ Taken 2 White ∷ Taken 3 Grey ∷ []) [] (3 ∷ []) Idle)

second3-second4 : moved second3 (thread 4) ≡ second4
unfolding moved_by refusal next completion after_turn shade collected root_at word_at builtin_classes upwards
    interfaces_from is_within is_subtype_within int_wrap digits
second3-second4 = refl

pub second-run : moved second0 ((collector 9 ++ thread 1) ++ collector 4 ++ thread 4 ++ thread 4) ≡ second4
second-run =
    then k (small 3) ample second0 second1 second4 (collector 9 ++ thread 1) (collector 4 ++ thread 4 ++ thread 4)
    second0-second1
    (then k (small 3) ample second1 second2 second4 (collector 4) (thread 4 ++ thread 4) second1-second2
    (then k (small 3) ample second2 second3 second4 (thread 4) (thread 4) second2-second3
    second3-second4))
