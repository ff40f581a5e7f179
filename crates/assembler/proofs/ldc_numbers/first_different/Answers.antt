use Rattle.std.proofs.Common.{sym, ◌∙◌, arith}
use Rattle.std.proofs.Math.ListN.{drop_of_length-le}
use Rattle.assembler.proofs.NarrowLemmas.{noted_start, noted_end}
use Rattle.assembler.proofs.ldc_numbers.first_different.Goals as goal

pub loop-n-init : goal.loop-n-init
loop-n-init c = record {
  noted = rw c.new-numbers.ensures.items (noted_start c.args.used.now);
  few = omega (arith, c.new-numbers.ensures.len);
}

pub returns : goal.returns
returns c =
    let done = drop_of_length-le c.args.used.now c.loop-n-test.false in
    sym (noted_end c.loop-n.numbers.items (omega (arith, c.loop-n.invariant.few))) ∙ rw done at c.loop-n.invariant.noted
