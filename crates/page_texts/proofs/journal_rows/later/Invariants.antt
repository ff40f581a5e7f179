use Rattle.std.proofs.Common.{◌≡◌, ◌-◌, drop}
use Rattle.page_texts.proofs.journal_rows.later.Given as goal

-- without those that are still to be passed over, it is what is wanted
abbrev pub invariant-loop-row : goal.invariant-loop-row
invariant-loop-row l = drop (l.first - l._row) l.rest ≡ drop l.first l.fn.rows
