use Rattle.std.proofs.Common.{◌≡◌, ℕ, vec_len}
use Rattle.disasm.specs.Marks.{is_marked}
use Rattle.disasm.proofs.labels.mark.Given as goal

-- the table grows by pcs that aren't marked
abbrev pub invariant-loop : goal.invariant-loop
invariant-loop l = (vec_len l.table ≡ l.counter)
    × ((k : ℕ) → is_marked l.table.items k ≡ is_marked l.initial.table.items k)
