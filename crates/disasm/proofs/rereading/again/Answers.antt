use Rattle.std.proofs.Common.{ap, ◌∙◌}
use Rattle.model.specs.Texts.Spelled.{is_spelled}
use Rattle.disasm.proofs.rereading.again.Goals as goal

pub returns-in-Err-assemble : goal.returns-in-Err-assemble
returns-in-Err-assemble c say =
    let is = c.has_bytes.ensures in
    let spelled = (c.class_files_are_spelled.ensures.spelled is.0 c.args.file.now is.1).1 say in
    let found = c.in-Ok.ensures say in
    c.in-Err-assemble.ensures.only (ap is_spelled found.0 ∙ spelled) found.1
