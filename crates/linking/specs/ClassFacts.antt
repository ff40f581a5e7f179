use Rattle.std.specs.Prelude.{ℕ, List, Bool, Option}
use Rattle.linking.specs.declared.class_tables.Word.{Word}

-- what is known of one class: the number of its superclass, the words of its objects, and for each class whether this
-- one is a subtype of it
pub record ClassFacts : Type 0 where
  pub superclass : Option ℕ
  pub words : List Word
  pub above : List Bool
