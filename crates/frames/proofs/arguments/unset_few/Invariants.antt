use Rattle.std.proofs.Common.{◌≡◌, ◌+◌, ◌++◌, length, take, drop, replicate}
use Rattle.model.specs.declared.values.Entry.TheVariants.{Unset}
use Rattle.frames.proofs.arguments.unset_few.Given as goal

abbrev pub invariant-loop-made : goal.invariant-loop-made
invariant-loop-made l = record {
  items : l.units ≡ take l.base l.initial.units ++ replicate l.made Unset ++ drop (l.base + l.made) l.initial.units;
  len : length l.units ≡ length l.initial.units;
}
