use Rattle.opcodes.proofs.EncodingLaws.{one-list, one-text}
use Rattle.opcodes.proofs.laws.one_spelling.Goals as goal

pub returns-clause-instructions : goal.returns-clause-instructions
returns-clause-instructions c = one-list

pub returns-clause-bytes : goal.returns-clause-bytes
returns-clause-bytes c = one-text
