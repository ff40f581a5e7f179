use Rattle.std.proofs.Common.{◌∙◌}
use Rattle.model.specs.Collector.Places.{word_at, words_of}
use Rattle.collector.proofs.ListsNoted.{step}
use Rattle.collector.proofs.reaching.Reaching.note_words.Goals as goal

pub loop-word-preserved : goal.loop-word-preserved
unfolding word_at
loop-word-preserved g c =
    step (words_of (g.R.References.world c.args.references.now).objects c.args.reference) c.loop-word.word
    c.words-word-end.result c.loop-word.self c.note.new.self c.word.result
    c.in_ok-note.ensures c.word.ensures c.loop-word-test.true c.words-word-end.ensures
    ∙ c.loop-word.invariant
