use Rattle.std.proofs.Common.{◌≡◌, ◌+◌, ◌++◌, length, take, drop, reverse, None}
use Rattle.model.specs.Table.Invokes.{fault_in_pops}
use Rattle.model.specs.Values.{units_of_all}
use Rattle.model.specs.Locals.{argument_entries}
use Rattle.frames.specs.Layout.{values_between}
use Rattle.frames.proofs.arguments.copy_of_kinds.Given as goal

abbrev pub invariant-loop-place : goal.invariant-loop-place
invariant-loop-place l = record {
  items : l.units ≡ take l.base l.fn.units ++ argument_entries (values_between l.fn.units l.from (l.below + l.place))
      ++ drop l.end l.fn.units;
  len : length l.units ≡ length l.fn.units;
  end : l.end ≡ l.base + units_of_all (values_between l.fn.units l.from (l.below + l.place));
  kinds : fault_in_pops (reverse (take l.place l.kinds))
      (reverse (values_between l.fn.units (l.from + l.below) l.place)) ≡ None;
}
