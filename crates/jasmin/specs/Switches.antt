use Rattle.jasmin.specs.declared.switches.OpenSwitch.{OpenSwitch as Held}
use Rattle.jasmin.specs.declared.switches.OpenSwitch.TheVariants.{Table, Lookup}
use Rattle.jasmin.specs.declared.switches.SwitchLine.{SwitchLine as HeldLine}
use Rattle.jasmin.specs.declared.switches.SwitchLine.TheVariants.{GoesOn, Ends}
use Rattle.model.specs.Texts.Switches.{Switch, SwitchLine, table, lookup, goes_on, ends}

-- an open switch, as the text relation has it
abbrev pub switch_of : Held → Switch
switch_of (Table t) = table t.0 t.1
switch_of (Lookup pairs) = lookup pairs

abbrev pub line_said : HeldLine → SwitchLine
line_said (GoesOn switch) = goes_on (switch_of switch)
line_said (Ends i) = ends i
