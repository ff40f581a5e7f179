use Rattle.std.proofs.Common.{◌≡◌, ◌++◌, drop, map}
use Rattle.resolve.specs.Builtins.{own_listing}
use Rattle.resolve.proofs.builtins.own_listings.Given as goal

abbrev pub invariant-loop-class : goal.invariant-loop-class
invariant-loop-class l = l.listings.items ++ map own_listing (drop l.class-index l.classes) ≡ map own_listing l.classes
