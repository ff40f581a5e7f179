use Rattle.std.proofs.Common.{◌≡◌, ◌++◌, drop, map}
use Rattle.model.specs.Texts.ListingOfTree.{row_with}
use Rattle.assembler.specs.Checks.{pc_in}
use Rattle.assembler.proofs.listings.listed_rows.Given as goal

-- the rows so far, and those that follow
abbrev pub invariant-loop-row : goal.invariant-loop-row
invariant-loop-row l =
    l.listed.items ++ map (row_with (pc_in l.pcs)) (drop l.row-index l.rows) ≡ map (row_with (pc_in l.pcs)) l.rows
