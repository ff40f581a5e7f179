use Rattle.std.proofs.lemmas.List.{take_rest}
use Rattle.std.proofs.Math.Seq.{drop-length}
use Rattle.jasmin_words.proofs.WordLemmas.{word_at, word_nowhere}
use Rattle.jasmin_words.proofs.words.less_blanks.Goals as goal

pub returns-in-Some-clause-runs : goal.returns-in-Some-clause-runs
returns-in-Some-clause-runs c = rw take_rest (word_at c.args.line.now c.in-Some.start c.in-Some.ensures).0

pub returns-in-Some-clause-first : goal.returns-in-Some-clause-first
returns-in-Some-clause-first c = rw take_rest
    (λ h. let f = (word_at c.args.line.now c.in-Some.start c.in-Some.ensures).1 in cc)

pub returns-in-None-clause-runs : goal.returns-in-None-clause-runs
returns-in-None-clause-runs c = rw (take_rest, drop-length c.args.line.now)
    (word_nowhere c.args.line.now c.in-None.ensures)
