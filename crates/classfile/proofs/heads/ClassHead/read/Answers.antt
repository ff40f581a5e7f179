use Rattle.std.proofs.Common.{sym, ap, subst, ◌∙◌, arith}
use Rattle.std.proofs.lemmas.Result.{err_from_is_err_and}
use Rattle.model.specs.ClassFiles.Heads.{HeadPart}
use Rattle.pool.specs.Reading.Steps.{Fails}
use Rattle.classfile.specs.Reading.Attributes.{Reads}
use Rattle.classfile.specs.Reading.Heads.{head_from}
use Rattle.classfile.proofs.HeadLaws.{head_takes, head_again}
use Rattle.classfile.proofs.heads.ClassHead.read.Goals as goal

pub returns-in_err-parts-clause-only : goal.returns-in_err-parts-clause-only
returns-in_err-parts-clause-only c = λ head text rest spells e.
    let p = err_from_is_err_and c.from_residual.result c.from_residual.ensures.1 in
    rw (p.1, p.2) (subst (λ (f : Reads HeadPart). Fails c.in_err-parts.field-0.0 f) (ap head_from e
    ∙ head_again text head rest spells) c.in_err-parts.ensures)

pub invariant_of-result : goal.invariant_of-result
invariant_of-result c = let f = head_takes c.args.bytes.now (c.in_ok-parts.parts, c.in_ok-parts.rest.now)
    (λ i. omega (arith, c.type_inv.bytes i)) c.in_ok-parts.ensures in (f.text, f.spells)

pub returns-clause-found : goal.returns-clause-found
returns-clause-found c = let f = head_takes c.args.bytes.now (c.in_ok-parts.parts, c.in_ok-parts.rest.now)
    (λ i. omega (arith, c.type_inv.bytes i)) c.in_ok-parts.ensures
    in (f.text, f.spells, f.takes.parts)

pub returns-clause-only : goal.returns-clause-only
returns-clause-only c = λ head text rest spells e. sym (head_again text head rest spells) ∙ ap head_from (sym e)
    ∙ c.in_ok-parts.ensures
