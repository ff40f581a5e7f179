use Rattle.disasm.proofs.ClassFiles.Programs.{program_is_sayable}
use Rattle.disasm.proofs.laws.programs_are_sayable.Goals as goal

pub returns : goal.returns
returns c program accepted named plain = program_is_sayable program named accepted plain
