use Rattle.std.specs.Prelude.{ℕ, List, Bool, Option}
use Rattle.model.specs.declared.flags.MethodFlags.{MethodFlags}
use Rattle.model.specs.declared.values.Kind.{Kind}
use Rattle.linking.specs.declared.method_tables.Body.{Body}
use Rattle.linking.specs.declared.method_tables.Row.{Row}

-- what is known of one method: its flags, whether it is a class initializer, the kinds of its arguments and their
-- units, the kind of its result, what it has to run, and its exception table
pub record MethodFacts : Type 0 where
  pub flags : MethodFlags
  pub is_initializer : Bool
  pub arguments : List Kind
  pub argument_units : ℕ
  pub kind : Option Kind
  pub body : Body
  pub rows : List Row
