use Rattle.std.proofs.Common.{◌≡◌, ◌++◌, drop, map}
use Rattle.model.specs.ClassFiles.Listing.{listed_row}
use Rattle.classfile.proofs.listings.listed_rows.Given as goal

-- the rows so far, and those that follow
abbrev pub invariant-loop-row : goal.invariant-loop-row
invariant-loop-row l = l.all.items ++ map (listed_row l.pool) (drop l.row-index l.rows) ≡ map (listed_row l.pool) l.rows
