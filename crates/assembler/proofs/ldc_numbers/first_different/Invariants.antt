use Rattle.std.proofs.Common.{◌≡◌, ◌≤◌, drop, take, vec_len}
use Rattle.model.specs.Texts.Widths.{different}
use Rattle.assembler.specs.Numbers.{numbers_with}
use Rattle.assembler.proofs.ldc_numbers.first_different.Given as goal

-- the numbers so far are noted
abbrev pub invariant-loop-n : goal.invariant-loop-n
invariant-loop-n l = record {
  noted : numbers_with l.numbers.items (drop l.n-index l.used) ≡ take 255 (different l.used);
  few : vec_len l.numbers ≤ 255;
}
