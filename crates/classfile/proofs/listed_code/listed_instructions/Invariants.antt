use Rattle.std.proofs.Common.{◌≡◌, ◌++◌, drop, map}
use Rattle.model.specs.ClassFiles.Listing.{placed}
use Rattle.classfile.proofs.listed_code.listed_instructions.Given as goal

-- the instructions so far, and those that follow
abbrev pub invariant-loop-located : goal.invariant-loop-located
invariant-loop-located l = l.all.items ++ map (placed l.pool) (drop l.located-index l.instructions)
    ≡ map (placed l.pool) l.instructions
