use Rattle.std.proofs.Common.{◌≡◌, ◌++◌, drop}
use Rattle.std.specs.List.{flat_map}
use Rattle.explore_texts.specs.Witnesses.{move_line}
use Rattle.explore_texts.proofs.witnesses.turns_text.Given as goal

-- the text so far, and the lines that are left
abbrev pub invariant-loop-turn : goal.invariant-loop-turn
invariant-loop-turn l = l.text.items ++ flat_map move_line (drop l.turn-index l.turns) ≡ flat_map move_line l.turns
