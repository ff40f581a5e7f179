use Rattle.std.proofs.Common.{◌≡◌, ◌++◌, drop, map}
use Rattle.model.specs.ClassFiles.Listing.{class_at}
use Rattle.classfile.proofs.listed_members.class_names.Given as goal

-- the names so far, and those that follow
abbrev pub invariant-loop-number : goal.invariant-loop-number
invariant-loop-number l = l.names.items ++ map (class_at l.pool) (drop l.number-index l.numbers)
    ≡ map (class_at l.pool) l.numbers
