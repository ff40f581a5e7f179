use Rattle.std.specs.Prelude.{ℕ, map, Option, Some, None}
use Rattle.model.specs.declared.values.Value.{Value}
use Rattle.model.specs.declared.values.Value.TheVariants.{Int, Long, Ref}
use Rattle.model.specs.declared.values.Entry.{Entry}
use Rattle.model.specs.declared.values.Entry.TheVariants.{Unset, Holds, UpperHalf}
use Rattle.model.specs.Frames.{Frame}
use Rattle.model.specs.Worlds.{Thread, FieldValue}
use Rattle.model.specs.Worlds.Thread.{Live, Ended}

-- Births under other names: what holds references, with the name of each birth in its place.

abbrev pub Naming : Type 0
Naming = ℕ → ℕ

abbrev pub named_ref : Naming → Option ℕ → Option ℕ
named_ref h None = None
named_ref h (Some b) = Some (h b)

abbrev pub named_value : Naming → Value → Value
named_value h (Int z) = Int z
named_value h (Long z) = Long z
named_value h (Ref r) = Ref (named_ref h r)

abbrev pub named_entry : Naming → Entry → Entry
named_entry h Unset = Unset
named_entry h (Holds v) = Holds (named_value h v)
named_entry h UpperHalf = UpperHalf

abbrev pub named_field : Naming → FieldValue → FieldValue
named_field h f = record f { value = named_value h f.value }

abbrev pub named_frame : Naming → Frame → Frame
named_frame h f = record f {
  locals = map (named_entry h) f.locals;
  stack = map (named_value h) f.stack;
  monitor = named_ref h f.monitor;
}

abbrev pub named_thread : Naming → Thread → Thread
named_thread h (Live frames) = Live (map (named_frame h) frames)
named_thread h (Ended by) = Ended by
