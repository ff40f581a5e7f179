use Rattle.std.proofs.Common.{sym, ◌∙◌, refl, codes}
use Rattle.std.proofs.lemmas.Result.{err_from_is_err_and}
use Rattle.model.specs.Texts.Heads.{field_of}
use Rattle.jasmin.proofs.DeclarationLemmas.{said_step, said_unread}
use Rattle.jasmin.proofs.reader.fields_of.Goals as goal

pub returns-in_err-next : goal.returns-in_err-next
returns-in_err-next c =
    let p = err_from_is_err_and c.from_residual-in_err-next.result c.from_residual-in_err-next.ensures.1 in
    let begun = rw c.in-Some.is at c.rows.invariant.said in
    let step = said_step (codes ".field") (field_of c.args.class) c.rows.fields.items _ _ _
    (sym c.if-begins_otherwise.ensures) c.in_ok-field.ensures in
    rw p.1 (λ _. sym begun ∙ step ∙ said_unread (codes ".field") (field_of c.args.class) _ _ _ refl
    c.in_err-next.ensures)
