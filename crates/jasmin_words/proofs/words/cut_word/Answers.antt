use Rattle.std.proofs.lemmas.List.{take_rest}
use Rattle.std.proofs.Math.Seq.{drop-length}
use Rattle.jasmin_words.proofs.WordLemmas.{cut_at_blank, cut_at_end}
use Rattle.jasmin_words.proofs.words.cut_word.Goals as goal

pub returns-in-Some : goal.returns-in-Some
returns-in-Some c = rw take_rest (cut_at_blank c.args.line.now c.in-Some.end c.requires c.in-Some.ensures)

pub returns-in-None : goal.returns-in-None
returns-in-None c = rw (take_rest, drop-length c.args.line.now)
    (cut_at_end c.args.line.now c.requires c.in-None.ensures)
