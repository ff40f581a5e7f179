use Rattle.std.proofs.Common.{◌≡◌, ℕ, [], List, Option, Some, None, Ok, refl}
use Rattle.model.specs.declared.listings.Placed.{Placed}
use Rattle.model.specs.declared.instructions.Instruction.TheVariants.{Nop, Constant, Local, Stack, Number, Branch}
use Rattle.model.specs.declared.instructions.Instruction.TheVariants.{TableSwitch, LookupSwitch, Return}
use Rattle.model.specs.declared.instructions.Instruction.TheVariants.{Static as StaticField, Field, Array, Class}
use Rattle.model.specs.declared.instructions.Instruction.TheVariants.{Invoke, Throw, Monitor}
use Rattle.model.specs.declared.turns.Mark.{Mark}
use Rattle.model.specs.declared.turns.Mark.TheVariants.{Unmarked, Waiting, Failing}
use Rattle.model.specs.ClassListings.{ClassListing}
use Rattle.model.specs.Frames.{Frame, running, replaced}
use Rattle.model.specs.Programs.{instruction_of}
use Rattle.model.specs.Worlds.{World, frames_at}
use Rattle.model.specs.Completions.{Site, frames_in}
use Rattle.model.specs.Effects.{Choice}
use Rattle.model.specs.Table.Constants.{constant}
use Rattle.model.specs.Table.Locals.{local}
use Rattle.model.specs.Table.Stacks.{rearranged}
use Rattle.model.specs.Table.Numbers.{number}
use Rattle.model.specs.Table.Branches.{branched}
use Rattle.model.specs.Table.Switches.{table_switched, lookup_switched}
use Rattle.model.specs.Table.Next.{Listed, by_family, class_used, at_instruction, at_mark, at_frame, completion, next}
use Rattle.model.specs.Table.Next.{asked}
use Rattle.model.specs.Collector.Moves.{CompletionMoves, Lawful, object_of}
use Rattle.model.proofs.CollectorLemmas.Stepping.{replaced_lawful, completes_moves}
use Rattle.model.proofs.CollectorLemmas.Choosing.{effect_lawful}
use Rattle.model.proofs.CollectorLemmas.Table.Constants.{constant_lawful}
use Rattle.model.proofs.CollectorLemmas.Table.Locals.{local_lawful}
use Rattle.model.proofs.CollectorLemmas.Table.Stacks.{rearranged_lawful}
use Rattle.model.proofs.CollectorLemmas.Table.Numbers.{number_lawful}
use Rattle.model.proofs.CollectorLemmas.Table.Branches.{branched_lawful}
use Rattle.model.proofs.CollectorLemmas.Table.Switches.{table_switched_lawful, lookup_switched_lawful}
use Rattle.model.proofs.CollectorLemmas.Table.Initialisation.{after_initialising_moves}
use Rattle.model.proofs.CollectorLemmas.Table.Returns.{returned_moves}
use Rattle.model.proofs.CollectorLemmas.Table.Statics.{static_moves}
use Rattle.model.proofs.CollectorLemmas.Table.Fields.{field_moves}
use Rattle.model.proofs.CollectorLemmas.Table.Arrays.{array_moves}
use Rattle.model.proofs.CollectorLemmas.Table.Objects.{class_moves}
use Rattle.model.proofs.CollectorLemmas.Table.Invokes.{invoked_moves}
use Rattle.model.proofs.CollectorLemmas.Table.Throws.{threw_moves}
use Rattle.model.proofs.CollectorLemmas.Table.Monitors.{monitor_moves}

-- The table as a whole. A family has a file of its own here and its case of `family_moves`.

family_moves : (s : Site) → running (frames_in s) ≡ Some s.frame → (i : Listed)
    → CompletionMoves s.world (by_family s i)
family_moves s e Nop = completes_moves s e (Ok (replaced s.next s.frame 0 [])) (replaced_lawful s.world s.next s.frame 0
    [] tt)
family_moves s e (Constant c) = completes_moves s e (constant s.next c s.frame)
    (constant_lawful s.world s.next c s.frame)
family_moves s e (Local access) = completes_moves s e (local s.next access s.frame)
    (local_lawful s.world s.thread s.next access s.frame e)
family_moves s e (Stack operation) = completes_moves s e (rearranged s.next operation s.frame)
    (rearranged_lawful s.world s.thread s.next operation s.frame e)
family_moves s e (Number operation) = completes_moves s e (number s.next operation s.frame)
    (number_lawful s.world s.next operation s.frame)
family_moves s e (Branch test target) = completes_moves s e (branched s.next test target s.frame)
    (branched_lawful s.world s.next test target s.frame)
family_moves s e (TableSwitch table) = completes_moves s e (table_switched table s.frame)
    (table_switched_lawful s.world table s.frame)
family_moves s e (LookupSwitch lookup) = completes_moves s e (lookup_switched lookup s.frame)
    (lookup_switched_lawful s.world lookup s.frame)
family_moves s e (Return kind) = returned_moves s e kind
family_moves s e (StaticField access member) = static_moves s e access member
family_moves s e (Field access member) = field_moves s e access member
family_moves s e (Array operation) = array_moves s e operation
family_moves s e (Class operation name) = class_moves s e operation name
family_moves s e (Invoke invocation member) = invoked_moves s e invocation member
family_moves s e Throw = threw_moves s e
family_moves s e (Monitor operation) = monitor_moves s e operation

instruction_moves : (program : List ClassListing) (w : World) (t : ℕ) (f : Frame) (i : Option Placed)
    → running (frames_at w t) ≡ Some f → CompletionMoves w (at_instruction program w t f i)
instruction_moves program w t f None e = tt
instruction_moves program w t f (Some i) e =
    let s : Site = record { program = program; world = w; thread = t; frame = f; next = i.next } in
    after_initialising_moves s (class_used program i.instruction) (by_family s i.instruction)
    (family_moves s e i.instruction)

mark_moves : (program : List ClassListing) (w : World) (t : ℕ) (f : Frame) (mark : Mark) → running (frames_at w t)
    ≡ Some f → CompletionMoves w (at_mark program w t f mark)
mark_moves program w t f Unmarked e = instruction_moves program w t f (instruction_of program f) e
mark_moves program w t f Waiting e = tt
mark_moves program w t f Failing e = tt

frame_moves : (program : List ClassListing) (w : World) (t : ℕ) (o : Option Frame) → running (frames_at w t) ≡ o
    → CompletionMoves w (at_frame program w t o)
frame_moves program w t None e = tt
frame_moves program w t (Some f) e = mark_moves program w t f f.mark e

pub completion_moves : (program : List ClassListing) (w : World) (t : ℕ) → CompletionMoves w (completion program w t)
unfolding completion
completion_moves program w t = frame_moves program w t (running (frames_at w t)) refl

-- each turn of a thread, by what was asked for and what was chosen
pub next_lawful : (program : List ClassListing) (w : World) (t : ℕ) (choice : Choice)
    → Lawful w (object_of choice (asked program w t)) (next program w t choice)
unfolding next
next_lawful program w t choice = effect_lawful program w t choice (completion program w t)
    (completion_moves program w t)
