use Rattle.std.proofs.Common.{sym, ◌∙◌, refl}
use Rattle.std.proofs.lemmas.Result.{err_from_is_err_and}
use Rattle.jasmin.proofs.DeclarationLemmas.{ahead_is}
use Rattle.jasmin.proofs.MethodLemmas.{with_unread, with_no_head, with_method, with_no_method}
use Rattle.jasmin.proofs.reader.methods_of.Goals as goal

pub returns-in_err-head : goal.returns-in_err-head
returns-in_err-head g c =
    let p = err_from_is_err_and c.from_residual.result c.from_residual.ensures.1 in
    let begun = rw c.in-Some.is at c.rows.invariant in
    rw p.1 (λ _. sym begun ∙ with_no_head c.args.class c.rows.methods.items _ _ _ refl c.in_err-head.ensures)

pub returns-in_err-method : goal.returns-in_err-method
returns-in_err-method g c =
    let p = err_from_is_err_and c.from_residual-in_err-method.result c.from_residual-in_err-method.ensures.1 in
    let begun = rw c.in-Some.is at c.rows.invariant in
    rw (p.1, p.2)
    (λ h. sym begun ∙ with_no_method c.args.class c.rows.methods.items _ _ _ _ refl c.in_ok-head.ensures
    (c.in_err-method.ensures h))

pub returns-in_err-next : goal.returns-in_err-next
returns-in_err-next g c =
    let p = err_from_is_err_and c.from_residual-in_err-next.result c.from_residual-in_err-next.ensures.1 in
    let begun = rw c.in-Some.is at c.rows.invariant in
    let step = with_method c.args.class c.rows.methods.items _ _ _ _ _ _ refl c.in_ok-head.ensures
    c.in_ok-method.ensures.0 c.in_ok-method.ensures.1 in
    rw p.1 (λ _. sym begun ∙ step ∙ with_unread c.args.class _ _ _ c.in_err-next.ensures)

pub rows-preserved : goal.rows-preserved
rows-preserved g c =
    let begun = rw c.in-Some.is at c.rows.invariant in
    let step = with_method c.args.class c.rows.methods.items _ _ _ _ _ _ refl c.in_ok-head.ensures
    c.in_ok-method.ensures.0 c.in_ok-method.ensures.1 in
    rw (c.in_ok-push.ensures.items, ahead_is c.in_ok-next.next _ _ c.in_ok-next.ensures) (sym step ∙ begun)
