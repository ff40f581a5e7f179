use Rattle.std.proofs.Common.{◌∙◌, ap, sym, ◌==◌, ℕ}
use Rattle.std.proofs.lemmas.Nat.Bits.{bit_at_or, shr_and_one}
use Rattle.instructions.proofs.IdleLemmas.{bit-less, none-of-both}
use Rattle.instructions.proofs.idle.Idle.concerns.Goals as goal

pub returns : goal.returns
returns c = λ none.
    let bits = c.args.self.bits in
    let before = c.args.self.before in
    let t = c.args.thread in
    none-of-both _ _ _ (bit-less bits t) (bit-less before t) (bit_at_or bits before t)
    (sym (ap (λ (n : ℕ). n == 1) (shr_and_one _ _)) ∙ none)
