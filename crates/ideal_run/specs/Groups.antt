use Rattle.ideal_run.specs.declared.stacks.Units.{Units as UnitsWanted}
use Rattle.ideal_run.specs.declared.stacks.Units.TheVariants.{One as OneWanted, Two as TwoWanted}
use Rattle.model.specs.Table.Stacks.{Units}
use Rattle.model.specs.Table.Stacks.Units.{One, Two}

-- one unit or two, as the definitions have it
abbrev pub units_in : UnitsWanted → Units
units_in OneWanted = One
units_in TwoWanted = Two
