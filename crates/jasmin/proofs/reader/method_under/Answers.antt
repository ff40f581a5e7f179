use Rattle.std.proofs.Common.{◌∙◌}
use Rattle.std.proofs.lemmas.Result.{err_from_is_err_and}
use Rattle.model.specs.Texts.Heads.{MethodHead}
use Rattle.jasmin.proofs.MethodLemmas.{first_without_body, has_from}
use Rattle.jasmin.proofs.reader.method_under.Goals as goal

pub returns-in_err-no_body : goal.returns-in_err-no_body
returns-in_err-no_body g c =
    let p = err_from_is_err_and c.from_residual-in_err-no_body.result c.from_residual-in_err-no_body.ensures.1 in
    let head : MethodHead = record {
      flags = c.args.head.flags;
      name = c.args.head.name.now;
      descriptor = c.args.head.descriptor.now;
    } in
    rw p.1
    (λ _. first_without_body head c.args.statements.now c.bits.result (c.bits.ensures tt)
    (has_from c.bits.result 0x0500 c.if-bits-ne0.true) ∙ c.in_err-no_body.ensures head)
