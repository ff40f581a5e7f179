use Rattle.std.proofs.Common.{sym, ◌∙◌}
use Rattle.std.proofs.lemmas.Result.{err_from_is_err_and, MatchResult-weaker}
use Rattle.jasmin.proofs.BodyLemmas.{rest_nothing, rest_line, rest_row, rest_opens, rest_stack, rest_stack_twice}
use Rattle.jasmin.proofs.BodyLemmas.{rest_locals, rest_locals_twice, rest_end, after_end, after_other}
use Rattle.jasmin.proofs.reader.body_parts.Goals as goal

pub returns-in_err-noted_part : goal.returns-in_err-noted_part
returns-in_err-noted_part g c =
    let p = err_from_is_err_and c.from_residual-in_err-noted_part.result c.from_residual-in_err-noted_part.ensures.1 in
    let read = rw c.in-Some.is at c.in_ok-statement.ensures in
    let begun = rw (← c.take.ensures.value) at c.rows.invariant.rest in
    rw (p.1, p.2)
    (λ h. sym begun ∙ rest_nothing c.rows.stack c.rows.locals c.rows.rows.items c.rows.lines.items _ c.rows.statements _
    _ read (c.in_err-noted_part.ensures h))

pub returns-in-End : goal.returns-in-End
returns-in-End g c =
    let read = rw c.in-Some.is at c.in_ok-statement.ensures in
    let begun = rw (← c.take.ensures.value) at c.rows.invariant.rest in
    let says = rw c.in-End.is at c.in_ok-noted_part.ensures in
    let whole = sym begun ∙ rest_end c.rows.stack c.rows.locals c.rows.rows.items c.rows.lines.items _ c.rows.statements
    _ _ read says in
    MatchResult-weaker c.whole_body.result c.whole_body.ensures
    (λ body h. (whole ∙ h, sym (after_end c.rows.statements _ _ read says.1) ∙ c.rows.invariant.following))
    (λ _ h. λ _. whole ∙ h)

pub returns-then-is_some : goal.returns-then-is_some
returns-then-is_some g c =
    let read = rw c.in-Some.is at c.in_ok-statement.ensures in
    let begun = rw (← c.take.ensures.value) at c.rows.invariant.rest in
    let says = rw c.in-StackLimit.is at c.in_ok-noted_part.ensures in
    λ _. sym begun ∙ rest_stack_twice c.rows.stack c.rows.locals c.rows.rows.items c.rows.lines.items _
    c.rows.statements _ _ c.in-StackLimit.n c.if-is_some.ensures read says

pub rows-preserved-in-StackLimit : goal.rows-preserved-in-StackLimit
rows-preserved-in-StackLimit g c =
    let read = rw c.in-Some.is at c.in_ok-statement.ensures in
    let begun = rw (← c.take.ensures.value) at c.rows.invariant.rest in
    let says = rw c.in-StackLimit.is at c.in_ok-noted_part.ensures in
    rw c.take.ensures.after
    record {
      rest = sym (rest_stack c.rows.stack c.rows.locals c.rows.rows.items c.rows.lines.items _ c.rows.statements _ _
          c.in-StackLimit.n c.if-is_some.ensures read says) ∙ begun;
      following = sym (after_other c.rows.statements _ _ read says.0) ∙ c.rows.invariant.following;
    }

pub returns-then-is_some-2 : goal.returns-then-is_some-2
returns-then-is_some-2 g c =
    let read = rw c.in-Some.is at c.in_ok-statement.ensures in
    let begun = rw (← c.take.ensures.value) at c.rows.invariant.rest in
    let says = rw c.in-LocalsLimit.is at c.in_ok-noted_part.ensures in
    λ _. sym begun ∙ rest_locals_twice c.rows.stack c.rows.locals c.rows.rows.items c.rows.lines.items _
    c.rows.statements _ _ c.in-LocalsLimit.n c.if-is_some-2.ensures read says

pub rows-preserved-in-LocalsLimit : goal.rows-preserved-in-LocalsLimit
rows-preserved-in-LocalsLimit g c =
    let read = rw c.in-Some.is at c.in_ok-statement.ensures in
    let begun = rw (← c.take.ensures.value) at c.rows.invariant.rest in
    let says = rw c.in-LocalsLimit.is at c.in_ok-noted_part.ensures in
    rw c.take.ensures.after
    record {
      rest = sym (rest_locals c.rows.stack c.rows.locals c.rows.rows.items c.rows.lines.items _ c.rows.statements _ _
          c.in-LocalsLimit.n c.if-is_some-2.ensures read says) ∙ begun;
      following = sym (after_other c.rows.statements _ _ read says.0) ∙ c.rows.invariant.following;
    }

pub rows-preserved-in-Continue-branch-5 : goal.rows-preserved-in-Continue-branch-5
rows-preserved-in-Continue-branch-5 g c =
    let read = rw c.in-Some.is at c.in_ok-statement.ensures in
    let begun = rw (← c.take.ensures.value) at c.rows.invariant.rest in
    let says = rw c.in-Row.is at c.in_ok-noted_part.ensures in
    rw (c.take.ensures.after, c.in_ok-push-in-Row.ensures.items)
    record {
      rest = sym (rest_row c.rows.stack c.rows.locals c.rows.rows.items c.rows.lines.items _ c.rows.statements _ _
          c.in-Row.row read says) ∙ begun;
      following = sym (after_other c.rows.statements _ _ read says.0) ∙ c.rows.invariant.following;
    }

pub rows-preserved-in-Continue-branch-6 : goal.rows-preserved-in-Continue-branch-6
rows-preserved-in-Continue-branch-6 g c =
    let read = rw c.in-Some.is at c.in_ok-statement.ensures in
    let begun = rw (← c.take.ensures.value) at c.rows.invariant.rest in
    let says = rw c.in-Line.is at c.in_ok-noted_part.ensures in
    rw (c.take.ensures.after, c.in_ok-push-in-Line.ensures.items)
    record {
      rest = sym (rest_line c.rows.stack c.rows.locals c.rows.rows.items c.rows.lines.items _ c.rows.statements _ _
          c.in-Line.line read says) ∙ begun;
      following = sym (after_other c.rows.statements _ _ read says.0) ∙ c.rows.invariant.following;
    }

pub rows-preserved : goal.rows-preserved
rows-preserved g c =
    let read = rw c.in-Some.is at c.in_ok-statement.ensures in
    let begun = rw (← c.take.ensures.value) at c.rows.invariant.rest in
    let says = rw c.in-Open.is at c.in_ok-noted_part.ensures in
    record {
      rest = sym (rest_opens c.rows.stack c.rows.locals c.rows.rows.items c.rows.lines.items _ c.rows.statements _ _ _
          read says.0 says.1) ∙ begun;
      following = sym (after_other c.rows.statements _ _ read says.0) ∙ c.rows.invariant.following;
    }
