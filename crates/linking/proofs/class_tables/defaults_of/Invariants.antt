use Rattle.std.proofs.Common.{◌≡◌, ◌++◌, drop, map}
use Rattle.linking.specs.ClassTables.{opening_word}
use Rattle.linking.proofs.class_tables.defaults_of.Given as goal

abbrev pub invariant-loop-word : goal.invariant-loop-word
invariant-loop-word l = l.defaults.items ++ map opening_word (drop l.word-index l.words) ≡ map opening_word l.words
