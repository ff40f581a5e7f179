use Rattle.std.specs.Prelude.{◌≡◌, List}
use Rattle.model.specs.ClassListings.{ClassListing}
use Rattle.linking.specs.declared.tables.Tables.{Tables}
use Rattle.linking.specs.ClassTables.{class_tables}
use Rattle.linking.specs.Initializers.{initializers}
use Rattle.linking.specs.MethodTables.{method_tables}
use Rattle.linking.specs.SelectionTables.{IsSelection}
use Rattle.linking.specs.SelectorArguments.{selector_arguments}
use Rattle.linking.specs.StaticSlots.{static_slots}

-- a program has these tables
pub record HasTables (program : List ClassListing) (tables : Tables) : Type 0 where
  pub classes_are : tables.classes ≡ class_tables program
  pub slots_are : tables.slots ≡ static_slots program
  pub methods_are : tables.methods ≡ method_tables program
  pub initializers_are : tables.initializers ≡ initializers program
  pub selection_is : IsSelection program tables.selection
  pub arguments_are : tables.arguments ≡ selector_arguments program
