use Rattle.std.proofs.Common.{◌≡◌, ◌++◌}
use Rattle.std.specs.List.{flat_map}
use Rattle.explore_texts.specs.Witnesses.{move_line}
use Rattle.explore_texts.proofs.witnesses.turns_in.Given as goal

-- the lines so far and the rest are all
abbrev pub invariant-loop-line : goal.invariant-loop-line
invariant-loop-line l = l.text ≡ flat_map move_line l.moves.items ++ l.rest
