-- The errors that were made before a run have the first two cells, in every world.
use Rattle.std.proofs.Common.{◌≡◌, ℕ, suc, Some, refl, sym, ap, ◌∙◌}
use Rattle.model.specs.declared.colours.Cell.TheVariants.{Taken}
use Rattle.model.specs.declared.colours.Colour.{Colour}
use Rattle.model.specs.declared.journals.HeapShape.{HeapShape}
use Rattle.model.specs.Accounts.{Account}
use Rattle.model.specs.Machines.{Machine, machine_of}
use Rattle.model.specs.Journals.{JournalValue}
use Rattle.model.specs.Collector.Places.{root_at}
use Rattle.model.specs.Collector.Places.Place.{MemoryError, StackError}
use Rattle.model.specs.Collector.Runs.{Holds}
use Rattle.model.specs.Collector.Table.{cell_at}
use Rattle.model.specs.Worlds.{World}
use Rattle.join.specs.Joined.{Joint}
use Rattle.join.specs.ReadBack.{birth_of}
use Rattle.join.specs.TurnsOnCells.{CellMachine}
use Rattle.join.proofs.Reached.{root_in_cell}
use Rattle.instructions.specs.HeapsAgree.{HoldsErrors}
use Rattle.instructions.specs.Loaded.{Loaded}
use Rattle.scheduler.specs.Worlds.{IsOf, recorded}

memory_root : (w : World) → root_at w MemoryError ≡ Some 1
unfolding root_at
memory_root w = refl

stack_root : (w : World) → root_at w StackError ≡ Some 2
unfolding root_at
stack_root w = refl

-- a birth that is named by the number of the next cell stands there
stands : (n cell b : ℕ) (a : Account) (colour : Colour) → suc cell ≡ suc n → cell_at a.cells cell ≡ Taken b colour
    → birth_of (cell_at a.cells n) ≡ b
stands n cell b a colour same held =
    let at : cell ≡ n = cc in ap (λ c. birth_of (cell_at a.cells c)) (sym at) ∙ ap birth_of held

module _ (on : CellMachine) (m : Machine) (shape : HeapShape) (joint : Joint on m) (holds : Holds shape m) where
  cells_hold : HoldsErrors on.account
  unfolding Holds
  cells_hold =
      let h = joint.naming in
      let joined = joint.joined in
      let memory = root_in_cell h shape m.world m.account joined.named holds MemoryError 1 (memory_root m.world) in
      let stack = root_in_cell h shape m.world m.account joined.named holds StackError 2 (stack_root m.world) in (
        ap (λ (a : Account). birth_of (cell_at a.cells 0)) joined.account
            ∙ stands 0 memory.cell 1 m.account memory.colour (sym memory.named ∙ joined.memory_error) memory.held,
        ap (λ (a : Account). birth_of (cell_at a.cells 1)) joined.account
            ∙ stands 1 stack.cell 2 m.account stack.colour (sym stack.named ∙ joined.stack_error) stack.held,
      )

pub errors_stand : (s : Loaded) (j : JournalValue) (k : ℕ) → IsOf s j k → HoldsErrors s.machine.account
errors_stand s j k is = cells_hold s.machine (machine_of (recorded s j)) j.shape is.joint is.holds
