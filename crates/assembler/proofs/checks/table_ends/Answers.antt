use Rattle.std.proofs.Common.{rules}
use Rattle.std.proofs.lemmas.List.{length-map}
use Rattle.assembler.proofs.checks.table_ends.Goals as goal

pub returns : goal.returns
returns c f = rw (length-map c.args.table.now.targets f) (search rules)
