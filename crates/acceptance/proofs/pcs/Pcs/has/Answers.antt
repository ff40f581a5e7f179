use Rattle.std.proofs.Common.{ap, ltb, ◌∙◌}
use Rattle.acceptance.proofs.PcLemmas.{begins-at}
use Rattle.acceptance.proofs.pcs.Pcs.has.Goals as goal

pub returns : goal.returns
returns c = ap (ltb 0) c.offset.ensures ∙ begins-at 0 c.args.self.now c.args.pc
