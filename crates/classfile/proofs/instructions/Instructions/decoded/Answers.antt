use Rattle.classfile.proofs.InstructionLaws.{seen_code}
use Rattle.classfile.proofs.instructions.Instructions.decoded.Goals as goal

pub returns-in-Ok-clause-code : goal.returns-in-Ok-clause-code
returns-in-Ok-clause-code c = seen_code c.self.inside.bytes.items c.args.self.now c.self.view_is c.self.invariant

pub returns-in-Err-clause-code : goal.returns-in-Err-clause-code
returns-in-Err-clause-code c = seen_code c.self.inside.bytes.items c.args.self.now c.self.view_is c.self.invariant
