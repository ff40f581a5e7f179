use Rattle.std.specs.Prelude.{ℕ, List, ◌++◌, codes}
use Rattle.std.specs.Fmt.{decimal}
use Rattle.ideal_run.specs.declared.effects.Choice.{Choice}
use Rattle.ideal_run.specs.declared.effects.Choice.TheVariants.{NewObject, NoRoom}
use Rattle.exploring.specs.declared.explored.Move.{Move}

-- The turns of a witness, a line for each.

abbrev pub room_words : Choice → List ℕ
room_words NewObject = codes "\n"
room_words NoRoom = codes " no room\n"

abbrev pub move_line : Move → List ℕ
move_line m = decimal m.thread ++ room_words m.choice
