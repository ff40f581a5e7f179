use Rattle.std.proofs.Common.{◌≡◌, drop}
use Rattle.model.specs.Collector.Places.{words_of}
use Rattle.collector.specs.Reaching.{all_noted}
use Rattle.collector.proofs.reaching.Reaching.note_words.Given as goal

abbrev pub invariant-loop-word : goal.invariant-loop-word
invariant-loop-word g l = all_noted l.self
    (drop l.word (words_of (g.R.References.world l.references).objects l.reference))
    ≡ all_noted l.fn.self (words_of (g.R.References.world l.references).objects l.reference)
