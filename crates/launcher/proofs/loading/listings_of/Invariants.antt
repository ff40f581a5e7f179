use Rattle.std.proofs.Common.{◌≡◌, ◌++◌, drop, map}
use Rattle.model.specs.ClassFiles.Listing.{listing_of}
use Rattle.launcher.proofs.loading.listings_of.Given as goal

abbrev pub invariant-loop-file : goal.invariant-loop-file
invariant-loop-file l = l.listings.items ++ map listing_of (drop l.file-index l.files) ≡ map listing_of l.files
