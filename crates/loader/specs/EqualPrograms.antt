use Rattle.std.specs.Prelude.{Bool, List}
use Rattle.std.specs.Cmp.Lexicographic.{pointwise}
use Rattle.model.specs.ClassListings.{ClassListing}
use Rattle.model.specs.contracts.listings.ListingPartialEq.TheImpl as listing

-- whether programs have equal listings, in one order; `proofs/EqualPrograms` shows that it tells one program from
-- another
abbrev pub are_equal : List ClassListing → List ClassListing → Bool
are_equal = pointwise (listing.ghosts).eq
