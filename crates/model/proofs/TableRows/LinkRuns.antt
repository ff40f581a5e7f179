-- A reference that moves from an object to the stack while the collector marks: class N makes two objects, links the
-- first to the second, and later takes the link away with the second on its stack, on four small cells.
use Rattle.std.specs.Prelude.{◌≡◌, pos, List, [], ◌∷◌, ◌++◌, Some, None, codes, refl}
use Rattle.std.specs.Int.{int_wrap}
use Rattle.std.specs.Fmt.{digits}
use Rattle.model.specs.declared.colours.Colour.TheVariants.{White, Grey}
use Rattle.model.specs.declared.colours.Phase.TheVariants.{Idle, Mark}
use Rattle.model.proofs.TableRows.Listings.{Sized, print, return, ample}
use Rattle.model.proofs.TableRows.Stages.{class_of, field, member, small, main_at, world, collector, thread, account}
use Rattle.model.proofs.TableRows.Stages.{stage, then}
use Rattle.model.specs.declared.colours.Cell.TheVariants.{Taken}
use Rattle.model.specs.Accounts.{after_turn, shade}
use Rattle.model.specs.ClassListings.{ClassListing}
use Rattle.model.specs.Classes.Builtin.{builtin_classes}
use Rattle.model.specs.Classes.Search.{upwards, interfaces_from}
use Rattle.model.specs.Classes.Subclasses.{is_within}
use Rattle.model.specs.Classes.Types.{is_subtype_within}
use Rattle.model.specs.Collector.Places.{root_at, word_at}
use Rattle.model.specs.Collector.Runs.{moved_by, moved_by_all}
use Rattle.model.specs.Collector.Table.{collected}
use Rattle.model.specs.Machines.{Machine, opening_machine}
use Rattle.model.specs.Objects.{made_of}
use Rattle.model.specs.Table.Next.{completion, next}
use Rattle.model.specs.Turns.{refusal}
use Rattle.model.specs.Worlds.Contents.{Instance}
use Rattle.model.specs.Worlds.Thread.{Ended}
use Rattle.model.specs.Worlds.{Object}
use Rattle.model.specs.declared.instructions.Access.TheVariants.{Get, Put}
use Rattle.model.specs.declared.instructions.ClassOperation.TheVariants.{New}
use Rattle.model.specs.declared.instructions.Constant.TheVariants.{Byte, Null}
use Rattle.model.specs.declared.instructions.FirstLocal.TheVariants.{Zero, One}
use Rattle.model.specs.declared.instructions.Instruction.TheVariants.{Class, Constant, Field, Local}
use Rattle.model.specs.declared.instructions.Local.TheVariants.{First}
use Rattle.model.specs.declared.instructions.LocalAccess.TheVariants.{Load, Store}
use Rattle.model.specs.declared.turns.Actor.{Actor}
use Rattle.model.specs.declared.values.Entry.TheVariants.{Holds}
use Rattle.model.specs.declared.values.Kind.TheVariants.{Ref as RefKind}
use Rattle.model.specs.declared.values.Value.TheVariants.{Int, Ref}
use Rattle.model.specs.declared.values.Value.{Value}

abbrev aload_0 : Sized
aload_0 = (1, Local (Load RefKind (First Zero)))

abbrev aload_1 : Sized
aload_1 = (1, Local (Load RefKind (First One)))

abbrev astore_0 : Sized
astore_0 = (1, Local (Store RefKind (First Zero)))

abbrev astore_1 : Sized
astore_1 = (1, Local (Store RefKind (First One)))

abbrev new : Sized
new = (3, Class New (codes "N"))

abbrev aconst_null : Sized
aconst_null = (1, Constant Null)

abbrev put_next : Sized
put_next = (3, Field Put (member (codes "N") (codes "next") (codes "LN;")))

abbrev n : List ClassListing
n = class_of (codes "N") (field (codes "x") (codes "I") ∷ field (codes "next") (codes "LN;") ∷ []) 3 2 []
    (new ∷ astore_0 ∷ new ∷ astore_1 ∷ aload_1 ∷ (2, Constant (Byte (pos 7)))
    ∷ (3, Field Put (member (codes "N") (codes "x") (codes "I"))) ∷
    aload_0 ∷ aload_1 ∷ put_next ∷ aconst_null ∷ astore_1 ∷ aload_0
    ∷ (3, Field Get (member (codes "N") (codes "next") (codes "LN;"))) ∷
    aload_0 ∷ aconst_null ∷ put_next ∷ (3, Field Get (member (codes "N") (codes "x") (codes "I"))) ∷ print ∷ return
    ∷ []) ∷ []

abbrev object : Value → Value → Object
object x next = made_of (Instance (codes "N") (record {
  class = codes "N";
  name = codes "x";
  descriptor = codes "I";
  value = x;
} ∷ record { class = codes "N"; name = codes "next"; descriptor = codes "LN;"; value = next } ∷ []))

abbrev moved : Machine → List Actor → Machine
moved = moved_by_all n (small 4) ample

-- ---- 12 turns of the thread; 28 of the collector, of which the first cycle takes 21; 5 of the thread, which turn
-- birth 4 grey; 14 of the collector, to the end of the cycle; 3 of the thread

abbrev link0 : Machine
link0 = opening_machine n (small 4)

abbrev link1 : Machine
link1 =
    stage (world (main_at 3 8 (Holds (Ref (Some 3)) ∷ Holds (Ref (Some 4)) ∷ []) []) [] (object (Int (pos 0)) (Ref None)
    ∷ object (Int (pos 0)) (Ref None) ∷ []) 4)
    (account (Taken 1 White ∷ Taken 2 White ∷ Taken 3 Grey ∷ Taken 4 Grey ∷ []) [] (3 ∷ 4 ∷ []) Idle)

link0-link1 : moved link0 (thread 4) ≡ link1
unfolding moved_by refusal next completion after_turn shade collected root_at word_at builtin_classes upwards
    interfaces_from is_within is_subtype_within int_wrap digits
link0-link1 = refl

abbrev link2 : Machine
link2 =
    stage (world (main_at 3 15 (Holds (Ref (Some 3)) ∷ Holds (Ref (Some 4)) ∷ []) (Ref (Some 3) ∷ [])) []
    (object (Int (pos 0)) (Ref None) ∷ object (Int (pos 7)) (Ref None) ∷ []) 8)
    (account (Taken 1 White ∷ Taken 2 White ∷ Taken 3 Grey ∷ Taken 4 Grey ∷ []) [] (3 ∷ 4 ∷ []) Idle)

link1-link2 : moved link1 (thread 4) ≡ link2
unfolding moved_by refusal next completion after_turn shade collected root_at word_at builtin_classes upwards
    interfaces_from is_within is_subtype_within int_wrap digits
link1-link2 = refl

abbrev link3 : Machine
link3 =
    stage (world (main_at 3 21 (Holds (Ref (Some 3)) ∷ Holds (Ref None) ∷ []) []) []
    (object (Int (pos 0)) (Ref (Some 4)) ∷ object (Int (pos 7)) (Ref None) ∷ []) 12)
    (account (Taken 1 White ∷ Taken 2 White ∷ Taken 3 Grey ∷ Taken 4 Grey ∷ []) [] (3 ∷ 4 ∷ []) Idle)

link2-link3 : moved link2 (thread 4) ≡ link3
unfolding moved_by refusal next completion after_turn shade collected root_at word_at builtin_classes upwards
    interfaces_from is_within is_subtype_within int_wrap digits
link2-link3 = refl

abbrev link4 : Machine
link4 =
    stage (world (main_at 3 21 (Holds (Ref (Some 3)) ∷ Holds (Ref None) ∷ []) []) []
    (object (Int (pos 0)) (Ref (Some 4)) ∷ object (Int (pos 7)) (Ref None) ∷ []) 33)
    (account (Taken 1 White ∷ Taken 2 White ∷ Taken 3 White ∷ Taken 4 White ∷ []) [] [] Idle)

link3-link4 : moved link3 (collector 21) ≡ link4
unfolding moved_by refusal next completion after_turn shade collected root_at word_at builtin_classes upwards
    interfaces_from is_within is_subtype_within int_wrap digits
link3-link4 = refl

abbrev link5 : Machine
link5 =
    stage (world (main_at 3 21 (Holds (Ref (Some 3)) ∷ Holds (Ref None) ∷ []) []) []
    (object (Int (pos 0)) (Ref (Some 4)) ∷ object (Int (pos 7)) (Ref None) ∷ []) 40)
    (account (Taken 1 Grey ∷ Taken 2 Grey ∷ Taken 3 Grey ∷ Taken 4 White ∷ []) [] (1 ∷ 2 ∷ 3 ∷ []) (Mark 0))

link4-link5 : moved link4 (collector 7) ≡ link5
unfolding moved_by refusal next completion after_turn shade collected root_at word_at builtin_classes upwards
    interfaces_from is_within is_subtype_within int_wrap digits
link4-link5 = refl

abbrev link6 : Machine
link6 =
    stage (world (main_at 3 30 (Holds (Ref (Some 3)) ∷ Holds (Ref None) ∷ []) (Ref (Some 4) ∷ [])) []
    (object (Int (pos 0)) (Ref None) ∷ object (Int (pos 7)) (Ref None) ∷ []) 45)
    (account (Taken 1 Grey ∷ Taken 2 Grey ∷ Taken 3 Grey ∷ Taken 4 Grey ∷ []) [] (1 ∷ 2 ∷ 3 ∷ 4 ∷ []) (Mark 0))

link5-link6 : moved link5 (thread 5) ≡ link6
unfolding moved_by refusal next completion after_turn shade collected root_at word_at builtin_classes upwards
    interfaces_from is_within is_subtype_within int_wrap digits
link5-link6 = refl

abbrev link7 : Machine
link7 =
    stage (world (main_at 3 30 (Holds (Ref (Some 3)) ∷ Holds (Ref None) ∷ []) (Ref (Some 4) ∷ [])) []
    (object (Int (pos 0)) (Ref None) ∷ object (Int (pos 7)) (Ref None) ∷ []) 59)
    (account (Taken 1 White ∷ Taken 2 White ∷ Taken 3 White ∷ Taken 4 White ∷ []) [] [] Idle)

link6-link7 : moved link6 (collector 14) ≡ link7
unfolding moved_by refusal next completion after_turn shade collected root_at word_at builtin_classes upwards
    interfaces_from is_within is_subtype_within int_wrap digits
link6-link7 = refl

abbrev link8 : Machine
link8 =
    stage (world (Ended None) (codes "7\n") (object (Int (pos 0)) (Ref None) ∷ object (Int (pos 7)) (Ref None) ∷ []) 62)
    (account (Taken 1 White ∷ Taken 2 White ∷ Taken 3 White ∷ Taken 4 White ∷ []) [] [] Idle)

link7-link8 : moved link7 (thread 3) ≡ link8
unfolding moved_by refusal next completion after_turn shade collected root_at word_at builtin_classes upwards
    interfaces_from is_within is_subtype_within int_wrap digits
link7-link8 = refl

pub link-run : moved link0 (thread 4 ++ thread 4 ++ thread 4 ++ collector 21 ++ collector 7 ++ thread 5 ++ collector 14
    ++ thread 3) ≡ link8
link-run =
    then n (small 4) ample link0 link1 link8 (thread 4) (thread 4 ++ thread 4 ++ collector 21 ++ collector 7 ++ thread 5
    ++ collector 14 ++ thread 3) link0-link1
    (then n (small 4) ample link1 link2 link8 (thread 4) (thread 4 ++ collector 21 ++ collector 7 ++ thread 5
    ++ collector 14 ++ thread 3) link1-link2
    (then n (small 4) ample link2 link3 link8 (thread 4) (collector 21 ++ collector 7 ++ thread 5 ++ collector 14
    ++ thread 3) link2-link3
    (then n (small 4) ample link3 link4 link8 (collector 21) (collector 7 ++ thread 5 ++ collector 14 ++ thread 3)
    link3-link4
    (then n (small 4) ample link4 link5 link8 (collector 7) (thread 5 ++ collector 14 ++ thread 3) link4-link5
    (then n (small 4) ample link5 link6 link8 (thread 5) (collector 14 ++ thread 3) link5-link6
    (then n (small 4) ample link6 link7 link8 (collector 14) (thread 3) link6-link7
    link7-link8))))))
