use Rattle.std.proofs.Common.{rules}
use Rattle.model.proofs.DescriptorLemmas.{row_cut}
use Rattle.model.proofs.descriptors.split_type.Goals as goal

pub returns-clause-types : goal.returns-clause-types
returns-clause-types c = search (rules, row_cut)
