use Rattle.comparison.proofs.Deciding.{Agree}
use Rattle.comparison.proofs.comparing.are_fields.Given as goal

-- the first ones are the same
abbrev pub invariant-loop-n : goal.invariant-loop-n
invariant-loop-n l = Agree l.n (l.views) l.fields
