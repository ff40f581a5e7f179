use Rattle.std.proofs.Common.{◌≡◌, ◌<◌, ◌+◌, ◌++◌, drop, length, arith}
use Rattle.std.proofs.lemmas.Result.{err_from_is_err_and}
use Rattle.model.specs.Bytecode.{spelling}
use Rattle.opcodes.proofs.EncodingLaws.{goes_on, has_next, too_long, take-item, drop-item}
use Rattle.opcodes.proofs.encoding.spelled.Goals as goal

pub returns-in_err-put-clause-err : goal.returns-in_err-put-clause-err
returns-in_err-put-clause-err c =
    let p = err_from_is_err_and c.from_residual.result c.from_residual.ensures.1 in
    let is = c.args.instructions.now in
    let k = c.loop-instruction.instruction-index in
    let i = c.instruction-item.result in
    let pc : c.len-pc.result ≡ length c.loop-instruction.out.items = omega (arith, c.loop-instruction.out.ok.0) in
    rw (p.1, p.2) (λ bytes items code e. c.in_err-put.ensures.err
    (rw pc (has_next is k i (drop (k + 1) is) _ _ bytes items (drop-item is k i c.loop-instruction-test.true
    c.instruction-item.is) c.loop-instruction.invariant code e).fits))

pub returns-then-len-gt65535-clause-err : goal.returns-then-len-gt65535-clause-err
returns-then-len-gt65535-clause-err c = λ bytes items code e.
    let is = c.args.instructions.now in
    let k = c.loop-instruction.instruction-index in
    let i = c.instruction-item.result in
    let pc : c.len-pc.result ≡ length c.loop-instruction.out.items = omega (arith, c.loop-instruction.out.ok.0) in
    let text : c.put.new.out.items ≡ c.loop-instruction.out.items ++ spelling (length c.loop-instruction.out.items)
    i = rw pc at c.in_ok-put.ensures.bytes in
    let long : 65535 < length c.put.new.out.items = omega (arith, c.put.new.out.ok.0) in
    absurd (too_long is k i (drop (k + 1) is) _ _ _ (drop-item is k i c.loop-instruction-test.true
    c.instruction-item.is) c.loop-instruction.invariant text long bytes items code e)

pub loop-instruction-preserved : goal.loop-instruction-preserved
loop-instruction-preserved c =
    let is = c.args.instructions.now in
    let k = c.loop-instruction.instruction-index in
    let i = c.instruction-item.result in
    let pc : c.len-pc.result ≡ length c.loop-instruction.out.items = omega (arith, c.loop-instruction.out.ok.0) in
    let text : c.put.new.out.items ≡ c.loop-instruction.out.items ++ spelling (length c.loop-instruction.out.items)
    i = rw pc at c.in_ok-put.ensures.bytes in
    goes_on is k i c.loop-instruction.out.items c.put.new.out.items c.loop-instruction.starts.items
    c.mark.new.starts.items (take-item is k i c.loop-instruction-test.true c.instruction-item.is)
    (rw pc at c.in_ok-put.ensures.fits) text (omega (arith, c.put.new.out.ok.0)) (rw pc at c.in_ok-mark.ensures.marked)
    (omega (arith, pc, c.mark.new.starts.ok.0, c.in_ok-mark.ensures.len)) c.loop-instruction.invariant
