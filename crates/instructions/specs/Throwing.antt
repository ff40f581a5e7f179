use Rattle.std.specs.Prelude.{◌≡◌, ◌<◌, ◌+◌, ◌-◌, ℕ, List, length, slice_get, take, reverse, nat_le, nat_lt, Bool, true}
use Rattle.std.specs.Prelude.{false, ◌&&◌, not, ◌==◌, Option, Some, None, Result, Ok, Err, if◌then◌else◌}
use Rattle.std.specs.List.{find}
use Rattle.std.specs.Option.{option_map}
use Rattle.model.specs.declared.turns.Mark.{Mark}
use Rattle.model.specs.declared.turns.Mark.TheVariants.{Unmarked, Waiting, Failing}
use Rattle.model.specs.declared.turns.Exception.TheVariants.{NullPointer}
use Rattle.model.specs.declared.turns.Fault.{Fault}
use Rattle.model.specs.declared.turns.Fault.TheVariants.{WrongClass}
use Rattle.model.specs.Completions.{Completion, raises}
use Rattle.model.specs.Completions.Completion.{Faults, Throws}
use Rattle.model.specs.ClassListings.{ClassListing}
use Rattle.model.specs.Classes.Types.{element_of}
use Rattle.model.specs.Frames.{Frame, callers, running_frame}
use Rattle.model.specs.Initialisation.{is_initializer_if}
use Rattle.model.specs.Programs.{method_at}
use Rattle.model.specs.Unwinding.{Response, Way}
use Rattle.model.specs.Unwinding.Landing.{Handled, Stopped, Unhandled}
use Rattle.model.specs.Unwinding.Response.{Handles, Fails, Leaves}
use Rattle.frames.specs.declared.heads.FrameHead.{FrameHead}
use Rattle.linking.specs.declared.method_tables.Catch.{Catch}
use Rattle.linking.specs.declared.method_tables.Catch.TheVariants.{Any, Class}
use Rattle.linking.specs.declared.method_tables.Row.{Row}
use Rattle.linking.specs.ClassTables.{class_tables, is_subtype_in}
use Rattle.linking.specs.MethodFacts.{MethodFacts}
use Rattle.instructions.specs.declared.kinds.Kind.{Kind}
use Rattle.instructions.specs.declared.kinds.Kind.TheVariants.{Instance, Array}
use Rattle.instructions.specs.declared.unwinding.Answer.{Answer}
use Rattle.instructions.specs.declared.unwinding.Answer.TheVariants as answer
use Rattle.instructions.specs.declared.unwinding.Target.{Target}
use Rattle.instructions.specs.declared.unwinding.Target.TheVariants as target
use Rattle.instructions.specs.Heaps.{HeapValue, kind_held}
use Rattle.instructions.specs.Leaving.{innermost}
use Rattle.instructions.specs.MethodsByNumber.{facts_in}
use Rattle.resolve.specs.Numbers.{all_classes}

-- What frames do with a throwable of a kind, by the numbers of classes (JVMS 2.10).

-- ---- which row fits

abbrev pub is_kind_below : List ClassListing → Kind → ℕ → Bool
is_kind_below program (Instance class) above = is_subtype_in (class_tables program) class above
is_kind_below program (Array type) above = false

abbrev pub takes_kind : List ClassListing → Kind → Catch → Bool
takes_kind program kind Any = true
takes_kind program kind (Class above) = is_kind_below program kind above

abbrev pub row_fits : List ClassListing → Kind → ℕ → Row → Bool
row_fits program kind pc row = nat_le row.start pc && nat_lt pc row.end && takes_kind program kind row.class

abbrev pub handler_in_rows : List ClassListing → Kind → ℕ → List Row → Option ℕ
handler_in_rows program kind pc rows = option_map (λ (row : Row). row.handler) (find (row_fits program kind pc) rows)

abbrev pub handler_in_facts : List ClassListing → Kind → ℕ → Option MethodFacts → Option ℕ
handler_in_facts program kind pc None = None
handler_in_facts program kind pc (Some facts) = handler_in_rows program kind pc facts.rows

-- the rows of a frame that waits for an initializer, or that fails, aren't tried
abbrev pub handler_by : List ClassListing → Kind → FrameHead → Mark → Option ℕ
handler_by program kind head Unmarked = handler_in_facts program kind head.pc (facts_in program head.method)
handler_by program kind head Waiting = None
handler_by program kind head Failing = None

-- ---- what a frame does

-- an initializer is left by an Error, and fails with any other throwable
abbrev pub answers : Option ℕ → Bool → Answer
answers (Some handler) fails = answer.Handles handler
answers None true = answer.Fails
answers None false = answer.Leaves

abbrev pub answer_by : List ClassListing → Kind → FrameHead → Answer
answer_by program kind head =
    answers (handler_by program kind head head.mark)
    (is_initializer_if (method_at program head.method) && not (is_kind_below program kind (length program + 3)))

abbrev pub response_as : Answer → Response
response_as (answer.Handles handler) = Handles handler
response_as answer.Fails = Fails
response_as answer.Leaves = Leaves

-- ---- where it lands

-- the frames that stay when so many of the innermost are left
abbrev pub kept : ℕ → List Frame → List Frame
kept left frames = take (length frames - left) frames

abbrev pub way_as : List Frame → Target → Way
way_as frames (target.Handler left handler) = record {
  landing = Handled handler (running_frame (kept left frames)) (reverse (callers (kept left frames)));
  left = innermost left frames;
}
way_as frames (target.Initializer left) = record {
  landing = Stopped (running_frame (kept left frames)) (reverse (callers (kept left frames)));
  left = innermost left frames;
}
way_as frames target.Nowhere = record { landing = Unhandled; left = reverse frames }

-- some frame stays
abbrev pub IsWithin : List Frame → Target → Type 0
IsWithin frames (target.Handler left handler) = left < length frames
IsWithin frames (target.Initializer left) = left < length frames
IsWithin frames target.Nowhere = Unit {0}

abbrev pub is_full_at : List Frame → Target → Bool
is_full_at frames (target.Handler left handler) = (running_frame (kept left frames)).room == 0
is_full_at frames (target.Initializer left) = false
is_full_at frames target.Nowhere = false

-- ---- athrow (JVMS 6.5): a null, then F6

abbrev pub is_throwable : List ClassListing → Kind → Bool
is_throwable program kind = is_kind_below program kind (length program + 1)

abbrev pub throws_kind : List ClassListing → ℕ → Option Kind → Completion
throws_kind program reference None = Faults WrongClass
throws_kind program reference (Some kind) = if is_throwable program kind then Throws reference else Faults WrongClass

abbrev pub throws_operand : List ClassListing → HeapValue → Result (Option ℕ) Fault → Completion
throws_operand program h (Err fault) = Faults fault
throws_operand program h (Ok None) = raises NullPointer
throws_operand program h (Ok (Some reference)) = throws_kind program reference (kind_held h reference)

-- ---- what can be thrown: of a class, whose name is no array's

pub data IsThrown (program : List ClassListing) : Kind → Type 0 where
  thrown : (class : ℕ) (listing : ClassListing) → slice_get (all_classes program) class ≡ Some listing
      → element_of listing.name ≡ None → IsThrown program (Instance class)
