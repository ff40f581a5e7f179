use Rattle.std.proofs.Common.{◌≡◌, ◌++◌, drop, reverse}
use Rattle.resolve.specs.Layouts.{fields_in}
use Rattle.resolve.proofs.layout.add_declared.Given as goal

-- the fields from n on are there, the last one first
abbrev pub invariant-loop-n : goal.invariant-loop-n
invariant-loop-n l = l.fields.items ≡ l.fn.fields.items ++ reverse (fields_in l.class.name (drop l.n l.declared))
