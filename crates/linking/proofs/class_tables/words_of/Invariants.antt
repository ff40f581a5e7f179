use Rattle.std.proofs.Common.{◌≡◌, ◌++◌, drop, map}
use Rattle.linking.specs.ClassTables.{word_of}
use Rattle.linking.proofs.class_tables.words_of.Given as goal

abbrev pub invariant-loop-field : goal.invariant-loop-field
invariant-loop-field l = l.words.items ++ map (word_of l.numbers) (drop l.field-index l.fields)
    ≡ map (word_of l.numbers) l.fields
