use Rattle.std.specs.Prelude.{ℕ, List, [], ◌++◌, map, slice_get, slice_index_or, Bool, false, Option, Some, None}
use Rattle.std.specs.Option.{option_and_then}
use Rattle.model.specs.declared.listings.Field.{Field}
use Rattle.model.specs.declared.values.Value.{Value}
use Rattle.model.specs.ClassListings.{ClassListing}
use Rattle.model.specs.Stores.{default_in}
use Rattle.model.specs.Classes.Layout.{layout}
use Rattle.model.specs.Classes.Search.{Declared}
use Rattle.model.specs.Classes.Types.{is_subtype}
use Rattle.linking.specs.declared.class_tables.Word.{Word}
use Rattle.linking.specs.ClassFacts.{ClassFacts}
use Rattle.resolve.specs.Numbers.{all_classes, class_names, class_number}
use Rattle.linking.specs.ClassNumbers.{class_place}
use Rattle.linking.specs.Storages.{descriptor_storage, shown_storage}

-- ---- what is known of each class of a program, by its number

-- the word of a field
abbrev pub word_of : List ClassListing → Declared Field → Word
word_of program f = record { class = class_place program f.class; storage = descriptor_storage f.member.descriptor }

abbrev pub class_facts : List ClassListing → ClassListing → ClassFacts
class_facts program c = record {
  superclass = class_number program c.superclass;
  words = map (word_of program) (layout program c.name);
  above = map (is_subtype program c.name) (class_names program);
}

abbrev pub class_tables : List ClassListing → List ClassFacts
class_tables program = map (class_facts program) (all_classes program)

-- tables with those of some classes after them
abbrev pub with_classes : List ClassListing → List ClassFacts → List ClassListing → List ClassFacts
with_classes program tables classes = tables ++ map (class_facts program) classes

-- ---- what is read of the tables

abbrev pub superclass_in : List ClassFacts → ℕ → Option ℕ
superclass_in tables class = option_and_then (λ (facts : ClassFacts). facts.superclass) (slice_get tables class)

abbrev pub words_if : Option ClassFacts → List Word
words_if None = []
words_if (Some facts) = facts.words

abbrev pub words_in : List ClassFacts → ℕ → List Word
words_in tables class = words_if (slice_get tables class)

-- what a word holds before it is written
abbrev pub opening_word : Word → Value
opening_word word = default_in (shown_storage word.storage)

-- the words of a new object of a class
abbrev pub defaults_in : List ClassFacts → ℕ → List Value
defaults_in tables class = map opening_word (words_in tables class)

abbrev pub is_below : ℕ → Option ClassFacts → Bool
is_below above None = false
is_below above (Some facts) = slice_index_or facts.above above false

abbrev pub is_subtype_in : List ClassFacts → ℕ → ℕ → Bool
is_subtype_in tables class above = is_below above (slice_get tables class)
