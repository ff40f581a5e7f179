use Rattle.std.proofs.Common.{◌≡◌, ◌++◌, length, drop}
use Rattle.std.specs.List.{flat_map}
use Rattle.exploring.specs.Keys.{number, end}
use Rattle.exploring.proofs.keys.Key.add_ends.Given as goal

-- the bytes of those that are left complete the row
abbrev pub invariant-loop-one : goal.invariant-loop-one
invariant-loop-one l = l.self ++ flat_map end (drop l.one-index l.added)
    ≡ (l.fn.self ++ number (length l.added)) ++ flat_map end l.added
