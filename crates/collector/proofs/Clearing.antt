use Rattle.std.proofs.Common.{◌≡◌, refl, ap, ℕ}
use Rattle.model.specs.declared.colours.Cell.{Cell}
use Rattle.model.specs.declared.colours.Cell.TheVariants.{Free, Taken}
use Rattle.model.specs.declared.colours.Colour.TheVariants.{White, Grey, Black}
use Rattle.model.specs.declared.colours.Phase.{Phase}
use Rattle.model.specs.declared.colours.Phase.TheVariants.{Idle, Statics, Frames, Mark, Append}
use Rattle.model.specs.Accounts.{Account}
use Rattle.model.specs.Worlds.{World}
use Rattle.model.specs.declared.journals.HeapShape.{HeapShape}
use Rattle.join.specs.TurnsOnCells.{CellMachine, collected_on, emptied, step_on, swept_on}
use Rattle.collector.specs.Freed.{freed_in, freed_cell, without}

-- A world without the object of the cell that a step gives back is the world that the step leaves.

emptied-is : (w : World) (p : ℕ) (cell : Cell) → without w (freed_in p cell) ≡ emptied w p cell
emptied-is w p Free = refl
emptied-is w p (Taken birth White) = refl
emptied-is w p (Taken birth Grey) = refl
emptied-is w p (Taken birth Black) = refl

pub swept-is : (w : World) (a : Account) (phase : Phase) → without w (freed_cell a phase) ≡ swept_on w a phase
swept-is w a Idle = refl
swept-is w a (Statics s) = refl
swept-is w a (Frames t d j) = refl
swept-is w a (Mark q) = refl
swept-is w a (Append p) = emptied-is w p _

-- with what `collect_step` leaves of the account, it is the collector's turn of the machine on cells
pub collected-is : (shape : HeapShape) (x : CellMachine)
    → record {
      world = without x.world (freed_cell x.account x.account.phase);
      account = step_on shape x.world x.account x.account.phase;
      births = x.births;
    } ≡ collected_on shape x
unfolding collected_on
collected-is shape x =
    ap (λ (w : World). record {
      world = w;
      account = step_on shape x.world x.account x.account.phase;
      births = x.births;
    })
    (swept-is x.world x.account x.account.phase)
