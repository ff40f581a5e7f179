use Rattle.std.proofs.Common.{◌≡◌, ℕ, List, drop, map}
use Rattle.std.specs.Option.{unwrap_or}
use Rattle.model.specs.Texts.Labels.{pc_following, pc_of}
use Rattle.model.specs.Texts.Tables.{named}
use Rattle.model.specs.Texts.Widths.{widened_line}
use Rattle.assembler.proofs.labels.label_pcs.Given as goal

-- the labels so far are noted, and the others follow
abbrev pub invariant-loop-line : goal.invariant-loop-line
invariant-loop-line l = record {
  following : pc_following l.pc (map (widened_line l.narrow) (drop l.line-index l.lines))
      ≡ pc_following 0 (map (widened_line l.narrow) l.lines);
  noted : (name : List ℕ)
      → unwrap_or (named l.pcs name) (pc_of l.pc (map (widened_line l.narrow) (drop l.line-index l.lines)) name)
      ≡ pc_of 0 (map (widened_line l.narrow) l.lines) name;
}
