use Rattle.std.specs.Prelude.{ℕ, ◌-◌, List, nat_le, Bool, true, false, Option, Some, None}
use Rattle.model.specs.Frames.{Frame, units_of_frames}

-- what is left of so much room
abbrev pub left_if : ℕ → ℕ → Bool → Option ℕ
left_if units room true = Some (room - units)
left_if units room false = None

abbrev pub room_left : List Frame → ℕ → Option ℕ
room_left frames room = left_if (units_of_frames frames) room (nat_le (units_of_frames frames) room)
