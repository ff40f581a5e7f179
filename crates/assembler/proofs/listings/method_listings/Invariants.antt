use Rattle.std.proofs.Common.{◌≡◌, ◌++◌, true, map}
use Rattle.std.specs.List.{list_all}
use Rattle.std.specs.Vec.Iter.{into_iter_items}
use Rattle.model.specs.Texts.Assembling.{method_assembles}
use Rattle.model.specs.Texts.ListingOfTree.{method_listing}
use Rattle.assembler.specs.Checks.{method_is_right}
use Rattle.assembler.proofs.listings.method_listings.Given as goal

-- the listings so far, and those of the trees that are left
abbrev pub invariant-loop-method : goal.invariant-loop-method
invariant-loop-method l = record {
  listed : l.listings.items ++ map (method_listing l.narrow) (into_iter_items l.method-iterator)
      ≡ map (method_listing l.narrow) l.fn.methods.items;
  right : list_all method_is_right (map (method_listing l.narrow) (into_iter_items l.method-iterator))
      ≡ list_all method_is_right (map (method_listing l.narrow) l.fn.methods.items);
  assemble : list_all method_assembles (map (method_listing l.narrow) l.fn.methods.items) ≡ true
      → list_all method_assembles (map (method_listing l.narrow) (into_iter_items l.method-iterator)) ≡ true;
}
