use Rattle.std.proofs.Common.{◌+◌}
use Rattle.std.proofs.lemmas.List.{take_rest}
use Rattle.std.proofs.Math.Seq.{drop-length}
use Rattle.jasmin_words.proofs.LineLemmas.{cut_at, cut_nowhere}
use Rattle.jasmin_words.proofs.lines.cut_line.Goals as goal

pub returns-in-Some : goal.returns-in-Some
returns-in-Some c = rw (take_rest c.args.text.now (c.in-Some.end + 1), c.less_return.ensures)
    (cut_at c.args.text.now c.in-Some.end c.in-Some.ensures)

pub returns-in-None : goal.returns-in-None
returns-in-None c = rw (take_rest, drop-length c.args.text.now)
    (cut_nowhere c.args.text.now c.requires c.in-None.ensures)
