use Rattle.disasm.proofs.ClassFiles.Exactly.{spelled_is_sayable}
use Rattle.disasm.proofs.ClassFiles.Listings.{file_is_spelled, file_assembles}
use Rattle.model.specs.ClassFiles.Listing.{listing_of}
use Rattle.disasm.proofs.laws.class_files_are_spelled.Goals as goal

pub returns-clause-spelled : goal.returns-clause-spelled
returns-clause-spelled c bytes f is = (spelled_is_sayable (listing_of f), file_is_spelled f (bytes, is))

pub returns-clause-assembled : goal.returns-clause-assembled
returns-clause-assembled c bytes f is = file_assembles f (bytes, is)
