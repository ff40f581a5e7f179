use Rattle.std.proofs.Common.{◌≡◌, ◌++◌, drop, map}
use Rattle.model.specs.ClassFiles.Listing.{listed_method}
use Rattle.classfile.proofs.listings.listed_methods.Given as goal

-- the methods so far, and those that follow
abbrev pub invariant-loop-method : goal.invariant-loop-method
invariant-loop-method l = l.all.items ++ map (listed_method l.pool) (drop l.method-index l.methods)
    ≡ map (listed_method l.pool) l.methods
