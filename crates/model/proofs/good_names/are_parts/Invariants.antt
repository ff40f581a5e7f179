use Rattle.std.proofs.Common.{◌≡◌, drop, false}
use Rattle.model.specs.Texts.Names.{are_parts}
use Rattle.model.proofs.good_names.are_parts.Given as goal

-- the parts so far, and those that follow
abbrev pub invariant-loop-b : goal.invariant-loop-b
invariant-loop-b l = are_parts l.begun (drop l.b-index l.word) ≡ are_parts false l.word
