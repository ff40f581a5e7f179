use Rattle.std.proofs.Common.{◌≡◌, ◌≤◌, ◌*◌, None, List, length, map}
use Rattle.std.specs.Prelude.{replicate}
use Rattle.model.specs.declared.values.Value.{Value}
use Rattle.model.specs.Room.{words_of_cell}
use Rattle.cells.specs.Layout.{AreLaidOut, stored_in}
use Rattle.cells.proofs.cells.Cells.new.Given as goal

abbrev pub invariant-loop-cell : goal.invariant-loop-cell
invariant-loop-cell g l = record {
  laid_out : AreLaidOut (words_of_cell l.shape) 0 0 l.headers.items l.end;
  count : length l.headers.items ≡ l.cell;
  bound : l.end ≤ 256 * l.cell;
  nobody : (words : List Value) → map (stored_in words) l.headers.items ≡ replicate l.cell None;
}
