use Rattle.std.proofs.Common.{◌≡◌, ℕ, ◌+◌, ◌-◌, ◌∙◌, ap, suc, arith, ◌++◌}
use Rattle.circular_buffer.specs.Buffer.{Buffer}
use Rattle.model.specs.Accounts.{numbers_up}
use Rattle.colours.proofs.Keeping.{pushed}
use Rattle.colours.proofs.Numbers.{number_pushed}
use Rattle.colours.proofs.queues.numbers.Goals as goal

pub loop-number-preserved : goal.loop-number-preserved
loop-number-preserved c =
    let l = c.loop-number-test.true in
    let end = c.args.first + c.args.count in
    let one_more = pushed c.loop-number.list c.push.new.list c.loop-number.number c.push.ensures in
    let length = one_more.0 in
    let count = c.loop-number.invariant.count in
    let left : end - c.loop-number.number ≡ suc (end - (c.loop-number.number + 1)) = omega (arith, l) in
    let items = ap (λ (q : Buffer ℕ). q.items ++ numbers_up (c.loop-number.number + 1)
    (end - (c.loop-number.number + 1))) c.push.ensures in
    record {
      room = one_more.1 ∙ c.loop-number.invariant.room;
      count = omega (arith, length, count);
      items = items ∙ number_pushed c.loop-number.list.items c.loop-number.number _ _ left
          ∙ c.loop-number.invariant.items;
    }
