use Rattle.std.proofs.Common.{◌≡◌, ◌+◌, ◌++◌, length, take, drop}
use Rattle.model.specs.Values.{units_of_all}
use Rattle.model.specs.Locals.{argument_entries}
use Rattle.frames.specs.Layout.{values_between}
use Rattle.frames.proofs.arguments.copy_arguments.Given as goal

abbrev pub invariant-loop-place : goal.invariant-loop-place
invariant-loop-place l = record {
  items : l.units ≡ take l.base l.initial.units ++ argument_entries (values_between l.initial.units l.from l.place)
      ++ drop l.end l.initial.units;
  len : length l.units ≡ length l.initial.units;
  end : l.end ≡ l.base + units_of_all (values_between l.initial.units l.from l.place);
}
