use Rattle.std.proofs.Common.{◌≡◌, ◌+◌}
use Rattle.std.specs.Prelude.{vec_len, sum_by}
use Rattle.hall.proofs.halls.gathered.Given as goal

-- what is in one hand, and what is left
abbrev pub invariant-loop-share : goal.invariant-loop-share
invariant-loop-share g l = record {
  parts : l.all.parts + vec_len l.shares ≡ vec_len l.fn.shares;
  amount : l.all.amount + sum_by (λ s. s.count) l.shares.items ≡ sum_by (λ s. s.count) l.fn.shares.items;
}

abbrev pub decreases-loop-share : goal.decreases-loop-share
decreases-loop-share g l = vec_len l.shares
