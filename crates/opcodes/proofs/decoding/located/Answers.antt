use Rattle.std.proofs.Common.{arith, rules}
use Rattle.std.proofs.lemmas.Result.{err_from_is_err_and}
use Rattle.opcodes.proofs.InstructionLaws.{instruction-takes}
use Rattle.opcodes.proofs.DecodingLaws.{some_left, none_left, begun, goes_on, read-fails, is_all, is_only}
use Rattle.opcodes.proofs.decoding.located.Goals as goal

pub loop-rest-init : goal.loop-rest-init
loop-rest-init c = begun c.args.bytes.now _ _ (λ i. omega (arith, c.type_inv.bytes i)) c.new-items.ensures.items
    c.new-starts.ensures.items

pub returns-in_err-instruction-clause-err : goal.returns-in_err-instruction-clause-err
returns-in_err-instruction-clause-err c =
    let p = err_from_is_err_and c.from_residual.result c.from_residual.ensures.1 in
    rw (p.1, p.2) (read-fails c.in_err-instruction.field-0.0 c.args.bytes.now c.loop-rest.rest.now
    c.loop-rest.items.items c.loop-rest.starts.items (some_left _ (search rules)) c.in_err-instruction.ensures
    c.loop-rest.invariant)

pub overflow_sub-bytes : goal.overflow_sub-bytes
overflow_sub-bytes c =
    let taken = instruction-takes _ _ _ _ c.loop-rest.invariant.fits c.in_ok-instruction.ensures in
    omega (arith, taken.shorter)

pub loop-rest-smaller : goal.loop-rest-smaller
loop-rest-smaller c =
    let taken = instruction-takes _ _ _ _ c.loop-rest.invariant.fits c.in_ok-instruction.ensures in
    taken.shorter

pub loop-rest-preserved : goal.loop-rest-preserved
loop-rest-preserved c =
    let items = c.in_ok-push.ensures.items in
    rw items (goes_on c.args.bytes.now c.loop-rest.rest.now c.in_ok-instruction.after.now c.loop-rest.items.items
    c.loop-rest.starts.items c.mark.new.starts.items c.in_ok-instruction.instruction (some_left _ (search rules))
    c.in_ok-instruction.ensures c.in_ok-mark.ensures.marked (search rules) c.loop-rest.invariant)

pub returns-clause-found : goal.returns-clause-found
returns-clause-found c = is_all c.args.bytes.now c.loop-rest.rest.now c.loop-rest.items.items c.loop-rest.starts.items
    (none_left _ (search rules)) c.loop-rest.invariant

pub returns-clause-only : goal.returns-clause-only
returns-clause-only c = is_only c.args.bytes.now c.loop-rest.rest.now c.loop-rest.items.items c.loop-rest.starts.items
    (none_left _ (search rules)) c.loop-rest.invariant
