use Rattle.std.proofs.Common.{map}
use Rattle.model.specs.Worlds.{FieldValue}
use Rattle.comparison.proofs.Deciding.{Agree}
use Rattle.comparison.proofs.comparing.hold.Given as goal

-- the first ones are the same
abbrev pub invariant-loop-n : goal.invariant-loop-n
invariant-loop-n l = Agree l.n (map (λ (f : FieldValue). f.value) l.fields) l.words
