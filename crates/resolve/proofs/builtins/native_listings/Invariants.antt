use Rattle.std.proofs.Common.{◌≡◌, ◌++◌, drop, map}
use Rattle.resolve.specs.Builtins.{native_listing}
use Rattle.resolve.proofs.builtins.native_listings.Given as goal

abbrev pub invariant-loop-native : goal.invariant-loop-native
invariant-loop-native l = l.methods.items ++ map native_listing (drop l.native-index l.natives)
    ≡ map native_listing l.natives
