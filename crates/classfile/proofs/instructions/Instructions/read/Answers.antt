use Rattle.std.proofs.Common.{arith, sym}
use Rattle.classfile.proofs.InstructionLaws.{kept_code, kept_decoded, kept_are, is_reported}
use Rattle.classfile.proofs.instructions.Instructions.read.Goals as goal

pub invariant_of-result : goal.invariant_of-result
invariant_of-result c = kept_code c.args.bytes.now c.in_ok-bytes-in-Ok.bytes.items c.in-Ok.code
    c.in_ok-bytes-in-Ok.ensures.items c.in-Ok.ensures.found

pub returns-in_ok-bytes-in-Ok-clause-kept : goal.returns-in_ok-bytes-in-Ok-clause-kept
returns-in_ok-bytes-in-Ok-clause-kept c = kept_decoded c.args.bytes.now c.in_ok-bytes-in-Ok.bytes.items c.in-Ok.code
    c.in_ok-bytes-in-Ok.ensures.items c.in-Ok.ensures.found

pub returns-in_ok-bytes-in-Ok-clause-same : goal.returns-in_ok-bytes-in-Ok-clause-same
returns-in_ok-bytes-in-Ok-clause-same c = sym (kept_are c.args.bytes.now c.in_ok-bytes-in-Ok.bytes.items c.in-Ok.code
    c.in_ok-bytes-in-Ok.ensures.items c.in-Ok.ensures.found)

pub returns-in-Err-clause-kept : goal.returns-in-Err-clause-kept
returns-in-Err-clause-kept c = is_reported c.in-Err.fault c.faulty.result c.args.bytes.now
    (λ i. omega (arith, c.type_inv.bytes i)) c.faulty.ensures c.in-Err.ensures.only
