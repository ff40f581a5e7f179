use Rattle.std.proofs.Common.{◌≡◌, ◌↔◌, true, List, subst}
use Rattle.model.specs.ClassListings.{ClassListing}
use Rattle.model.proofs.EqualListings.{listings_same, same_listings}
use Rattle.loader.specs.EqualPrograms.{are_equal}

-- `==` of programs is true exactly where they are one and the same list of listings
pub equal-programs : (a b : List ClassListing) → are_equal a b ≡ true ↔ a ≡ b
equal-programs a b = (
  same_listings a b,
  λ e. subst (λ (p : List ClassListing). are_equal a p ≡ true) e
      (listings_same a),
)
