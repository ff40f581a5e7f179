use Rattle.std.proofs.Common.{◌≡◌, ◌++◌, drop, map}
use Rattle.model.specs.Texts.Labels.{pc_following}
use Rattle.model.specs.Texts.ListingOfTree.{placed_from}
use Rattle.model.specs.Texts.Widths.{widened_line}
use Rattle.assembler.specs.Checks.{pc_in}
use Rattle.assembler.proofs.listings.placed.Given as goal

-- the instructions so far, and those that follow
abbrev pub invariant-loop-line : goal.invariant-loop-line
invariant-loop-line l = record {
  listed : l.placed.items ++ placed_from (pc_in l.pcs) l.pc (map (widened_line l.narrow) (drop l.line-index l.lines))
      ≡ placed_from (pc_in l.pcs) 0 (map (widened_line l.narrow) l.lines);
  following : pc_following l.pc (map (widened_line l.narrow) (drop l.line-index l.lines))
      ≡ pc_following 0 (map (widened_line l.narrow) l.lines);
}
