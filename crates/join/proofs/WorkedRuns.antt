-- A run on cells, computed: an object is made and dropped, two cycles give its cell back, and the next object gets the
-- same cell. So the reference on the stack is 3 again, and the birth is 4.
use Rattle.std.proofs.Common.{◌≡◌, ◌∙◌, ap}
use Rattle.std.specs.Prelude.{ℕ, pos, List, [], ◌∷◌, ◌++◌, Some, codes, refl}
use Rattle.std.specs.Int.{int_wrap}
use Rattle.std.specs.Fmt.{digits}
use Rattle.model.specs.declared.colours.Colour.TheVariants.{White, Grey}
use Rattle.model.specs.declared.colours.Phase.TheVariants.{Idle, Append}
use Rattle.model.specs.declared.instructions.ClassOperation.TheVariants.{New}
use Rattle.model.specs.declared.instructions.Instruction.TheVariants.{Class, Stack}
use Rattle.model.specs.declared.instructions.StackOperation.TheVariants.{Pop}
use Rattle.model.specs.declared.turns.Actor.{Actor}
use Rattle.model.specs.declared.values.Value.TheVariants.{Int, Ref}
use Rattle.model.specs.Accounts.{Account}
use Rattle.model.specs.declared.colours.Cell.TheVariants.{Free, Taken}
use Rattle.model.specs.ClassListings.{ClassListing}
use Rattle.model.specs.Classes.Builtin.{builtin_classes}
use Rattle.model.specs.Classes.Search.{upwards, interfaces_from}
use Rattle.model.specs.Classes.Subclasses.{is_within}
use Rattle.model.specs.Classes.Types.{is_subtype_within}
use Rattle.model.specs.Collector.Places.{root_at, word_at}
use Rattle.model.specs.Objects.{made_of}
use Rattle.model.specs.Table.Next.{completion}
use Rattle.model.specs.Turns.{refusal}
use Rattle.model.specs.Worlds.{World, Object}
use Rattle.model.specs.Worlds.Contents.{Instance}
use Rattle.model.proofs.TableRows.Listings.{return, ample}
use Rattle.model.proofs.TableRows.Stages.{class_of, field, small, main_at, world, collector, thread, account}
use Rattle.join.specs.OnCells.{nobody}
use Rattle.join.specs.TurnsOnCells.{CellMachine, collected_on, turned_on, moved_on, moved_on_by_all, opening_on}
use Rattle.join.specs.TurnsOnCells.{cells_after}

abbrev k : List ClassListing
k = class_of (codes "K") (field (codes "x") (codes "I") ∷ []) 1 0 [] ((3, Class New (codes "K")) ∷ (1, Stack Pop)
    ∷ (3, Class New (codes "K")) ∷ return ∷ []) ∷ []

abbrev object : Object
object = made_of (Instance (codes "K") (record {
  class = codes "K";
  name = codes "x";
  descriptor = codes "I";
  value = Int (pos 0);
} ∷ []))

abbrev stage : World → Account → ℕ → CellMachine
stage w a births = record { world = w; account = a; births = births }

abbrev moved : CellMachine → List Actor → CellMachine
moved = moved_on_by_all k (small 3) ample

-- made, and dropped
abbrev dropped : CellMachine
dropped =
    stage (world (main_at 1 4 [] []) [] (object ∷ []) 2)
    (account (Taken 1 White ∷ Taken 2 White ∷ Taken 3 Grey ∷ []) [] (3 ∷ []) Idle) 4

opening-dropped : moved (opening_on k (small 3)) (thread 2) ≡ dropped
unfolding moved_on turned_on refusal completion root_at word_at builtin_classes upwards
    interfaces_from is_within is_subtype_within int_wrap digits
opening-dropped = refl

-- the first cycle leaves it white
abbrev cycled : CellMachine
cycled =
    stage (world (main_at 1 4 [] []) [] (object ∷ []) 16)
    (account (Taken 1 White ∷ Taken 2 White ∷ Taken 3 White ∷ []) [] [] Idle) 4

dropped-cycled : moved dropped (collector 14) ≡ cycled
unfolding moved_on collected_on refusal root_at word_at builtin_classes
dropped-cycled = refl

-- the second comes to its cell
abbrev appending : CellMachine
appending =
    stage (world (main_at 1 4 [] []) [] (object ∷ []) 26)
    (account (Taken 1 White ∷ Taken 2 White ∷ Taken 3 White ∷ []) [] [] (Append 2)) 4

cycled-appending : moved cycled (collector 10) ≡ appending
unfolding moved_on collected_on refusal root_at word_at builtin_classes
cycled-appending = refl

-- and gives it back: nobody stands there
abbrev emptied : CellMachine
emptied =
    stage (world (main_at 1 4 [] []) [] (nobody ∷ []) 28)
    (account (Taken 1 White ∷ Taken 2 White ∷ Free ∷ []) (2 ∷ []) [] Idle) 4

appending-emptied : moved appending (collector 2) ≡ emptied
unfolding moved_on collected_on refusal root_at word_at builtin_classes
appending-emptied = refl

-- the next object is birth 4 in the same cell
abbrev again : CellMachine
again =
    stage (world (main_at 1 7 [] (Ref (Some 3) ∷ [])) [] (object ∷ []) 29)
    (account (Taken 1 White ∷ Taken 2 White ∷ Taken 4 Grey ∷ []) [] (3 ∷ []) Idle) 5

emptied-again : moved emptied (thread 1) ≡ again
unfolding moved_on turned_on refusal completion root_at word_at builtin_classes upwards
    interfaces_from is_within is_subtype_within int_wrap digits
emptied-again = refl

pub same-cell : cells_after k (small 3) ample (thread 2 ++ collector 14 ++ collector 10 ++ collector 2 ++ thread 1)
    ≡ again
unfolding cells_after
same-cell =
    ap (λ x. moved x (collector 14 ++ collector 10 ++ collector 2 ++ thread 1)) opening-dropped
    ∙ ap (λ x. moved x (collector 10 ++ collector 2 ++ thread 1)) dropped-cycled
    ∙ ap (λ x. moved x (collector 2 ++ thread 1)) cycled-appending
    ∙ ap (λ x. moved x (thread 1)) appending-emptied
    ∙ emptied-again
