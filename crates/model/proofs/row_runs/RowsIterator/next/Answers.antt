use Rattle.std.proofs.Common.{◌≡◌, ◌+◌, ◌∷◌, ◌∙◌, ap, arith, drop, get_or, length, sym}
use Rattle.std.proofs.lemmas.List.{take_rest}
use Rattle.model.specs.declared.journals.Row.{Row}
use Rattle.model.specs.RowRuns.{rows_count, rows_in}
use Rattle.model.proofs.RunsAndRows.{after_run, left_after_run, left_in_run, next_row, no_run, some_left, within_first}
use Rattle.model.proofs.row_runs.RowsIterator.next.Goals as goal

pub overflow_sub-self : goal.overflow_sub-self
overflow_sub-self c =
    let a = c.self.inside in some_left a.passed a.count a.runs.now c.self.invariant c.in-len1-up.len_at_least

pub invariant_of-self : goal.invariant_of-self
invariant_of-self c =
    let a = c.self.inside in
    left_in_run a.passed a.count a.runs.now no_run c.self.invariant c.in-len1-up.len_at_least
    (omega (arith, c.if-self-count.true, c.count-count.ensures))

pub invariant_of-self-else-self-count : goal.invariant_of-self-else-self-count
invariant_of-self-else-self-count c =
    let a = c.self.inside in
    let some = c.in-len1-up.len_at_least in
    let inside = within_first a.passed a.runs.now no_run c.self.invariant.inside some in
    left_after_run a.passed a.count a.runs.now no_run c.self.invariant some
    (omega (arith, inside, c.if-self-count.false, c.count-count.ensures))

pub returns-then-self-count-clause-steps : goal.returns-then-self-count-clause-steps
returns-then-self-count-clause-steps c =
    let a = c.self.inside in
    sym c.self.view_is
    ∙ next_row a.passed a.runs.now no_run c.self.invariant.inside c.in-len1-up.len_at_least
    ∙ ap (λ (row : Row). row ∷ drop (a.passed + 1) (rows_in a.runs.now)) (sym c.after-row.ensures)

pub returns-else-self-count-clause-steps : goal.returns-else-self-count-clause-steps
returns-else-self-count-clause-steps c =
    let a = c.self.inside in
    let some = c.in-len1-up.len_at_least in
    let inside = within_first a.passed a.runs.now no_run c.self.invariant.inside some in
    let all : a.passed + 1 ≡ rows_count (get_or a.runs.now 0 no_run) = omega (
      arith,
      inside,
      c.if-self-count.false,
      c.count-count.ensures,
    ) in
    sym c.self.view_is
    ∙ next_row a.passed a.runs.now no_run c.self.invariant.inside some
    ∙ ap (λ (row : Row). row ∷ drop (a.passed + 1) (rows_in a.runs.now)) (sym c.after-row.ensures)
    ∙ ap (λ l. c.after-row.result ∷ l) (after_run (a.passed + 1) a.runs.now no_run some all
    ∙ ap rows_in (sym (take_rest a.runs.now 1)))

pub returns-then-self-count-clause-goes : goal.returns-then-self-count-clause-goes
returns-then-self-count-clause-goes c =
    let long = ap length (returns-then-self-count-clause-steps c) in
    record { on = λ finite. (tt, tt, omega (arith, long)); keeps = tt; rests = λ finite. tt }

pub returns-else-self-count-clause-goes : goal.returns-else-self-count-clause-goes
returns-else-self-count-clause-goes c =
    let long = ap length (returns-else-self-count-clause-steps c) in
    record { on = λ finite. (tt, tt, omega (arith, long)); keeps = tt; rests = λ finite. tt }
