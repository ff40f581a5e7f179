use Rattle.std.proofs.Common.{◌∙◌, sym, arith}
use Rattle.std.proofs.lemmas.Result.{err_from_is_err_and}
use Rattle.pool.proofs.Steps.{ok_is}
use Rattle.classfile.proofs.ClassLaws.{file_is, file_again, only_memory}
use Rattle.classfile.proofs.files.read.Goals as goal

pub returns-in_err-head-clause-only : goal.returns-in_err-head-clause-only
returns-in_err-head-clause-only c = λ file is.
    let p = err_from_is_err_and c.from_residual.result c.from_residual.ensures.1 in
    rw (p.1, p.2) (only_memory c.in_err-head.field-0.0 c.args.bytes.now file c.in_err-head.ensures is)

pub invariant_of-result : goal.invariant_of-result
invariant_of-result c = (
  c.args.bytes.now,
  file_is c.args.bytes.now (record { head = c.in_ok-head.head; methods = c.in_ok-head.methods.items })
      (λ i. omega (arith, c.type_inv.bytes i)) c.in_ok-head.ensures,
)

pub returns-clause-found : goal.returns-clause-found
returns-clause-found c = file_is c.args.bytes.now (record {
  head = c.in_ok-head.head;
  methods = c.in_ok-head.methods.items;
}) (λ i. omega (arith, c.type_inv.bytes i)) c.in_ok-head.ensures

pub returns-clause-only : goal.returns-clause-only
returns-clause-only c = λ file is. ok_is (record { head = c.in_ok-head.head; methods = c.in_ok-head.methods.items })
    file (sym c.in_ok-head.ensures ∙ file_again c.args.bytes.now file is)

pub returns-in_err-head-clause-exact : goal.returns-in_err-head-clause-exact
returns-in_err-head-clause-exact c =
    let p = err_from_is_err_and c.from_residual.result c.from_residual.ensures.1 in rw (p.1, p.2) c.in_err-head.ensures
