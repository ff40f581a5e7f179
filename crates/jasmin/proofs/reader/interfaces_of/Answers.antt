use Rattle.std.proofs.Common.{sym, ◌∙◌, refl, codes}
use Rattle.std.proofs.lemmas.Result.{err_from_is_err_and}
use Rattle.model.specs.Texts.Heads.{interface_of}
use Rattle.jasmin.proofs.DeclarationLemmas.{said_stop, said_step, said_wrong, said_unread, after_stop}
use Rattle.jasmin.proofs.reader.interfaces_of.Goals as goal

pub returns-then-begins_otherwise : goal.returns-then-begins_otherwise
returns-then-begins_otherwise c =
    let begun = rw c.in-Some.is at c.rows.invariant.said in
    let following = rw c.in-Some.is at c.rows.invariant.following in
    let other = sym c.if-begins_otherwise.ensures in (
      sym begun ∙ said_stop (codes ".implements") interface_of c.rows.interfaces.items _ _ other,
      sym following
          ∙ after_stop (codes ".implements") _ _ other,
    )

pub returns-in_err-name : goal.returns-in_err-name
returns-in_err-name c =
    let p = err_from_is_err_and c.from_residual.result c.from_residual.ensures.1 in
    let begun = rw c.in-Some.is at c.rows.invariant.said in
    rw p.1 (λ _. sym begun ∙ said_wrong (codes ".implements")
    interface_of c.rows.interfaces.items _ _ (sym c.if-begins_otherwise.ensures) c.in_err-name.ensures)

pub returns-in_err-next : goal.returns-in_err-next
returns-in_err-next c =
    let p = err_from_is_err_and c.from_residual-in_err-next.result c.from_residual-in_err-next.ensures.1 in
    let begun = rw c.in-Some.is at c.rows.invariant.said in
    let step = said_step (codes ".implements")
    interface_of c.rows.interfaces.items _ _ _ (sym c.if-begins_otherwise.ensures) c.in_ok-name.ensures in
    rw p.1 (λ _. sym begun ∙ step ∙ said_unread (codes ".implements") interface_of _ _ _ refl c.in_err-next.ensures)
