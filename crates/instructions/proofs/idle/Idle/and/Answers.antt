use Rattle.std.proofs.Common.{ap, w64, ◌==◌, ℕ}
use Rattle.std.proofs.lemmas.Nat.Bits.{bit_at_set_other}
use Rattle.instructions.proofs.idle.Idle.and.Goals as goal

pub returns : goal.returns
returns c t other = ap (λ (n : ℕ). n == 1) (bit_at_set_other w64 _ _ c.requires t other)
