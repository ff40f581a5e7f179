use Rattle.std.proofs.Common.{◌≡◌, ◌++◌, drop, map}
use Rattle.model.specs.ClassListings.{ClassListing}
use Rattle.linking.proofs.class_numbers.names_in.Given as goal

abbrev pub invariant-loop-class : goal.invariant-loop-class
invariant-loop-class l =
    map (λ n. n.bytes.now) l.names.items ++ map (λ (c : ClassListing). c.name) (drop l.class-index l.program)
    ≡ map (λ (c : ClassListing). c.name) l.program
