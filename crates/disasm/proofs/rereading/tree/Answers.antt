use Rattle.std.proofs.Common.{◌∙◌}
use Rattle.model.specs.ClassFiles.Listing.{listing_of}
use Rattle.disasm.proofs.TextAgain.{tree_found, tree_refused}
use Rattle.disasm.proofs.rereading.tree.Goals as goal

pub returns-in-Ok-read : goal.returns-in-Ok-read
returns-in-Ok-read c say =
    let is = c.has_bytes.ensures in
    let spelled = (c.class_files_are_spelled.ensures.spelled is.0 c.args.file.now is.1).1 say in
    let right = c.class_files_are_spelled.ensures.assembled is.0 c.args.file.now is.1 in
    tree_found (listing_of c.args.file.now) spelled right c.as_slice.result.now (c.as_slice.ensures.value
    ∙ c.in-Ok.ensures) c.in-Ok-read.tree c.in-Ok-read.ensures

pub returns : goal.returns
returns c say =
    let is = c.has_bytes.ensures in
    let spelled = (c.class_files_are_spelled.ensures.spelled is.0 c.args.file.now is.1).1 say in
    let right = c.class_files_are_spelled.ensures.assembled is.0 c.args.file.now is.1 in
    tree_refused (listing_of c.args.file.now) spelled right c.as_slice.result.now (c.as_slice.ensures.value
    ∙ c.in-Ok.ensures) c.in-Err-read.error.fault c.in-Err-read.ensures
