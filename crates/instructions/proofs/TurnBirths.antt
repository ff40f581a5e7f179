-- A turn makes one birth at most.
use Rattle.std.proofs.Common.{◌≤◌, ◌+◌, ℕ, suc, List, Option, Some, None, Result, Ok, Err, arith}
use Rattle.model.specs.declared.turns.Abrupt.{Abrupt}
use Rattle.model.specs.declared.turns.Exception.{Exception}
use Rattle.model.specs.declared.turns.Exception.TheVariants as exception
use Rattle.model.specs.declared.turns.Fault.{Fault}
use Rattle.model.specs.ClassListings.{ClassListing}
use Rattle.model.specs.Accounts.{Account, take_cell}
use Rattle.model.specs.Completions.{Completion}
use Rattle.model.specs.Completions.Completion.{Goes, Prints, Creates, Throws, Raises, Denies, Faults, Waits}
use Rattle.model.specs.Frames.{Frame, Moved, running}
use Rattle.model.specs.Results.{Effect}
use Rattle.model.specs.Unwinding.{thrown}
use Rattle.model.specs.Worlds.{World, Contents, frames_at, plain_object, with_class_states}
use Rattle.model.specs.Classes.Exceptions.{exception_class}
use Rattle.model.specs.Objects.{with_object, words_in}
use Rattle.join.specs.TurnsOnCells.{CellMachine, birth_in, carried_unless, created_at, created_in, created_with_on}
use Rattle.join.specs.TurnsOnCells.{raised_at, turned_on}

carried_births : (x : CellMachine) (a : Account) (births : ℕ) (e : Effect) (o : Option (Fault × ℕ)) → x.births ≤ births
    → births ≤ x.births + 1 → (carried_unless x a births e o).births ≤ x.births + 1
carried_births x a births e None least most = most
carried_births x a births e (Some fault) least most = omega arith

made_births : (x : CellMachine) (t c : ℕ) (a : Account) (contents : Contents) (r : Result Moved Abrupt)
    → (created_with_on x t c a contents r).births ≤ x.births + 1
made_births x t c a contents (Ok moved) = omega arith
made_births x t c a contents (Err e) = omega arith

created_births : (x : CellMachine) (t next taken c : ℕ) (contents : Contents) (a : Account) (o : Option Frame)
    → (created_in x t next taken contents c a o).births ≤ x.births + 1
created_births x t next taken c contents a None = omega arith
created_births x t next taken c contents a (Some f) = made_births x t c a contents _

at_births : (program : List ClassListing) (x : CellMachine) (t next taken : ℕ) (contents : Contents)
    (o : Option (ℕ × Account)) → (created_at program x t next taken contents o).births ≤ x.births + 1
at_births program x t next taken contents None = carried_births x x.account x.births
    (thrown program x.world x.world t 1) _ (omega arith) (omega arith)
at_births program x t next taken contents (Some cell) = created_births x t next taken cell.0 contents cell.1
    (running (frames_at x.world t))

raised_births : (program : List ClassListing) (x : CellMachine) (w : World) (t : ℕ) (e : Exception)
    (o : Option (ℕ × Account)) → (raised_at program x w t e o).births ≤ x.births + 1
raised_births program x w t e None = carried_births x x.account x.births (thrown program x.world w t 1) _ (omega arith)
    (omega arith)
raised_births program x w t e (Some cell) =
    carried_births x (birth_in cell.1 cell.0 x.births) (x.births + 1)
    (thrown program x.world (with_object w (suc cell.0) (plain_object (exception_class e))) t (suc cell.0)) _
    (omega arith) (omega arith)

pub turned_births : (program : List ClassListing) (x : CellMachine) (t : ℕ) (c : Completion)
    → (turned_on program x t c).births ≤ x.births + 1
unfolding turned_on
turned_births program x t (Goes after writes) = omega arith
turned_births program x t (Prints after bytes) = omega arith
turned_births program x t (Creates next taken contents) = at_births program x t next taken contents
    (take_cell x.account (words_in contents))
turned_births program x t (Throws r) = carried_births x x.account x.births (thrown program x.world x.world t r) _
    (omega arith) (omega arith)
turned_births program x t (Raises e) = raised_births program x x.world t e (take_cell x.account 0)
turned_births program x t (Denies states) =
    raised_births program x (with_class_states x.world states) t exception.NoClassDefFound (take_cell x.account 0)
turned_births program x t (Faults fault) = omega arith
turned_births program x t Waits = omega arith
