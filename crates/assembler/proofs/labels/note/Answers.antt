use Rattle.assembler.proofs.CheckLemmas.{now_there}
use Rattle.assembler.proofs.labels.note.Goals as goal

pub returns-in_ok-note : goal.returns-in_ok-note
returns-in_ok-note c other later =
    rw (c.in_ok-note.ensures, c.as_bytes-name.ensures) (now_there c.args.pcs.now c.args.name.now other c.args.pc later)
