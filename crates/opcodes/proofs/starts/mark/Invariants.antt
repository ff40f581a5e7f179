use Rattle.std.proofs.Common.{◌≡◌, ℕ, vec_len}
use Rattle.opcodes.specs.Starts.{is_start}
use Rattle.opcodes.proofs.starts.mark.Given as goal

abbrev pub invariant-loop : goal.invariant-loop
invariant-loop l = (vec_len l.starts ≡ l.counter)
    × ((k : ℕ) → is_start l.starts.items k ≡ is_start l.initial.starts.items k)
