use Rattle.std.proofs.Common.{sym, ◌∙◌}
use Rattle.jasmin_words.proofs.LineLemmas.{without_return_drops, without_return_keeps}
use Rattle.jasmin_words.proofs.lines.less_return.Goals as goal

pub returns-in-Some : goal.returns-in-Some
returns-in-Some c = c.in-Some.ensures.cases.1 ∙ sym (without_return_drops c.args.line.now c.in-Some.ensures.cases.0)

pub returns-in-None : goal.returns-in-None
returns-in-None c = sym (without_return_keeps c.args.line.now c.in-None.ensures.cases)
