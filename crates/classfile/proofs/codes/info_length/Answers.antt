use Rattle.std.proofs.Common.{ap, length, arith}
use Rattle.model.specs.ClassFiles.Codes.{CodePart}
use Rattle.classfile.specs.Writing.{code_bytes}
use Rattle.classfile.proofs.CodeLaws.{info_has}
use Rattle.classfile.proofs.codes.info_length.Goals as goal

pub returns : goal.returns
returns c =
    let whole = info_has c.args.code.now in
    let bytes = ap length c.bytes.ensures in
    let rows = ap length c.as_slice.ensures.value in
    let seen_bytes = ap (λ (p : CodePart). length (code_bytes p.instructions)) c.code.view_is in
    let seen_rows = ap (λ (p : CodePart). length p.rows) c.code.view_is in
    omega (arith, whole, bytes, rows, seen_bytes, seen_rows)
