-- An object that is dropped at once: the first cycle leaves it, grey as it was made, and the second gives its cell
-- back.
use Rattle.std.specs.Prelude.{◌≡◌, pos, List, [], ◌∷◌, ◌++◌, codes, refl}
use Rattle.std.specs.Int.{int_wrap}
use Rattle.std.specs.Fmt.{digits}
use Rattle.model.specs.declared.colours.Colour.TheVariants.{White, Grey}
use Rattle.model.specs.declared.colours.Phase.TheVariants.{Idle, Append}
use Rattle.model.proofs.TableRows.Listings.{return, ample}
use Rattle.model.proofs.TableRows.Stages.{class_of, field, small, main_at, world, collector, thread, account, stage}
use Rattle.model.proofs.TableRows.Stages.{then}
use Rattle.model.specs.declared.colours.Cell.TheVariants.{Free, Taken}
use Rattle.model.specs.Accounts.{after_turn, shade}
use Rattle.model.specs.ClassListings.{ClassListing}
use Rattle.model.specs.Classes.Builtin.{builtin_classes}
use Rattle.model.specs.Classes.Search.{upwards, interfaces_from}
use Rattle.model.specs.Classes.Subclasses.{is_within}
use Rattle.model.specs.Classes.Types.{is_subtype_within}
use Rattle.model.specs.Collector.Places.{root_at, word_at}
use Rattle.model.specs.Collector.Runs.{moved_by, moved_by_all}
use Rattle.model.specs.Collector.Table.{collected}
use Rattle.model.specs.Machines.{Machine, opening_machine}
use Rattle.model.specs.Objects.{made_of}
use Rattle.model.specs.Table.Next.{completion, next}
use Rattle.model.specs.Turns.{refusal}
use Rattle.model.specs.Worlds.Contents.{Instance}
use Rattle.model.specs.Worlds.{Object}
use Rattle.model.specs.declared.instructions.ClassOperation.TheVariants.{New}
use Rattle.model.specs.declared.instructions.Instruction.TheVariants.{Class, Stack}
use Rattle.model.specs.declared.instructions.StackOperation.TheVariants.{Pop}
use Rattle.model.specs.declared.turns.Actor.{Actor}
use Rattle.model.specs.declared.values.Value.TheVariants.{Int}
use Rattle.model.specs.declared.values.Value.{Value}

abbrev k : List ClassListing
k = class_of (codes "K") (field (codes "x") (codes "I") ∷ []) 1 0 [] ((3, Class New (codes "K")) ∷ (1, Stack Pop)
    ∷ return ∷ []) ∷ []

abbrev object : Value → Object
object value = made_of (Instance (codes "K") (record {
  class = codes "K";
  name = codes "x";
  descriptor = codes "I";
  value = value;
} ∷ []))

abbrev moved : Machine → List Actor → Machine
moved = moved_by_all k (small 3) ample

-- ---- two turns of the thread; after the collector's fourteenth the phase is Idle, after its twenty-fifth cell 2 is
-- free, and its twenty-sixth ends the second cycle

abbrev drop0 : Machine
drop0 = opening_machine k (small 3)

abbrev drop1 : Machine
drop1 =
    stage (world (main_at 1 4 [] []) [] (object (Int (pos 0)) ∷ []) 2)
    (account (Taken 1 White ∷ Taken 2 White ∷ Taken 3 Grey ∷ []) [] (3 ∷ []) Idle)

drop0-drop1 : moved drop0 (thread 2) ≡ drop1
unfolding moved_by refusal next completion after_turn shade collected root_at word_at builtin_classes upwards
    interfaces_from is_within is_subtype_within int_wrap digits
drop0-drop1 = refl

abbrev drop2 : Machine
drop2 =
    stage (world (main_at 1 4 [] []) [] (object (Int (pos 0)) ∷ []) 16)
    (account (Taken 1 White ∷ Taken 2 White ∷ Taken 3 White ∷ []) [] [] Idle)

drop1-drop2 : moved drop1 (collector 14) ≡ drop2
unfolding moved_by refusal next completion after_turn shade collected root_at word_at builtin_classes upwards
    interfaces_from is_within is_subtype_within int_wrap digits
drop1-drop2 = refl

abbrev drop3 : Machine
drop3 =
    stage (world (main_at 1 4 [] []) [] (object (Int (pos 0)) ∷ []) 26)
    (account (Taken 1 White ∷ Taken 2 White ∷ Taken 3 White ∷ []) [] [] (Append 2))

drop2-drop3 : moved drop2 (collector 10) ≡ drop3
unfolding moved_by refusal next completion after_turn shade collected root_at word_at builtin_classes upwards
    interfaces_from is_within is_subtype_within int_wrap digits
drop2-drop3 = refl

abbrev drop4 : Machine
drop4 =
    stage (world (main_at 1 4 [] []) [] (object (Int (pos 0)) ∷ []) 27)
    (account (Taken 1 White ∷ Taken 2 White ∷ Free ∷ []) (2 ∷ []) [] (Append 3))

drop3-drop4 : moved drop3 (collector 1) ≡ drop4
unfolding moved_by refusal next completion after_turn shade collected root_at word_at builtin_classes upwards
    interfaces_from is_within is_subtype_within int_wrap digits
drop3-drop4 = refl

abbrev drop5 : Machine
drop5 =
    stage (world (main_at 1 4 [] []) [] (object (Int (pos 0)) ∷ []) 28)
    (account (Taken 1 White ∷ Taken 2 White ∷ Free ∷ []) (2 ∷ []) [] Idle)

drop4-drop5 : moved drop4 (collector 1) ≡ drop5
unfolding moved_by refusal next completion after_turn shade collected root_at word_at builtin_classes upwards
    interfaces_from is_within is_subtype_within int_wrap digits
drop4-drop5 = refl

pub drop-run : moved drop0 (thread 2 ++ collector 14 ++ collector 10 ++ collector 1 ++ collector 1) ≡ drop5
drop-run =
    then k (small 3) ample drop0 drop1 drop5 (thread 2) (collector 14 ++ collector 10 ++ collector 1 ++ collector 1)
    drop0-drop1
    (then k (small 3) ample drop1 drop2 drop5 (collector 14) (collector 10 ++ collector 1 ++ collector 1) drop1-drop2
    (then k (small 3) ample drop2 drop3 drop5 (collector 10) (collector 1 ++ collector 1) drop2-drop3
    (then k (small 3) ample drop3 drop4 drop5 (collector 1) (collector 1) drop3-drop4
    drop4-drop5)))
