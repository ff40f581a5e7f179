use Rattle.model.specs.ClassFiles.Classes.{ClassPart}
use Rattle.classfile.proofs.SoundLaws as laws
use Rattle.classfile.proofs.files.class_stands.Goals as goal

pub returns : goal.returns
returns c =
    let file : ClassPart = record { head = c.args.head.now; methods = c.args.methods.now } in
    laws.class_test file c.pool.result.now c.flags.result c.is_count.result c.in_ok-stand.stand c.both.result
    c.pool.ensures.is c.flags.ensures c.pool.ensures.head c.in_ok-stand.ensures c.is_count.ensures c.both.ensures
