use Rattle.std.proofs.Common.{◌≡◌, ℕ, [], List, Option, Some, None, Ok, refl, ◌∙◌, ap}
use Rattle.std.specs.Option.{option_map}
use Rattle.model.specs.declared.listings.Placed.{Placed}
use Rattle.model.specs.declared.instructions.Instruction.TheVariants.{Nop, Constant, Local, Stack, Number, Branch}
use Rattle.model.specs.declared.instructions.Instruction.TheVariants.{TableSwitch, LookupSwitch, Return}
use Rattle.model.specs.declared.instructions.Instruction.TheVariants.{Static as StaticField, Field, Array, Class}
use Rattle.model.specs.declared.instructions.Instruction.TheVariants.{Invoke, Throw, Monitor}
use Rattle.model.specs.declared.turns.Mark.{Mark}
use Rattle.model.specs.declared.turns.Mark.TheVariants.{Unmarked, Waiting, Failing}
use Rattle.model.specs.ClassListings.{ClassListing}
use Rattle.model.specs.declared.colours.Cell.{Cell}
use Rattle.model.specs.Frames.{Frame, running, replaced}
use Rattle.model.specs.Programs.{instruction_of}
use Rattle.model.specs.Worlds.{World, frames_at}
use Rattle.model.specs.Completions.{Site, frames_in, completes}
use Rattle.model.specs.Table.Constants.{constant}
use Rattle.model.specs.Table.Locals.{local}
use Rattle.model.specs.Table.Stacks.{rearranged}
use Rattle.model.specs.Table.Numbers.{number}
use Rattle.model.specs.Table.Branches.{branched}
use Rattle.model.specs.Table.Switches.{table_switched, lookup_switched}
use Rattle.model.specs.Table.Next.{Listed, by_family, class_used, at_instruction, at_mark, at_frame, completion}
use Rattle.model.proofs.CollectorLemmas.Known.{stack_known}
use Rattle.join.specs.Naming.{Naming, named_frame}
use Rattle.join.specs.OnCells.{site_on, completion_on, on_cells, ReachedInCells}
use Rattle.join.proofs.Naming.{replaced_named}
use Rattle.join.proofs.Completions.{completes_on_cells}
use Rattle.join.proofs.Table.Stacks.{rearranged_named}
use Rattle.join.proofs.Table.Branches.{branched_on_cells}
use Rattle.join.proofs.Table.Initialisation.{after_initialising_on_cells}
use Rattle.join.proofs.Table.Returns.{returned_on_cells}
use Rattle.join.proofs.Table.Statics.{static_on_cells}
use Rattle.join.proofs.Table.Fields.{field_on_cells}
use Rattle.join.proofs.Table.Arrays.{array_on_cells}
use Rattle.join.proofs.Table.Objects.{class_operated_on_cells}
use Rattle.join.proofs.Table.Invokes.{invoked_on_cells}
use Rattle.join.proofs.Table.Monitors.{monitor_operated_on_cells}
use Rattle.join.proofs.Frames.{running_on_cells}
use Rattle.join.proofs.Table.Numbers.{number_named}
use Rattle.join.proofs.Table.Switches.{table_named, lookup_named}
use Rattle.join.proofs.Table.Constants.{constant_named}
use Rattle.join.proofs.Table.Locals.{local_named}
use Rattle.join.proofs.Table.Throws.{threw_on_cells}

-- the whole table comes to the same on cells: what a thread's instruction comes to there is the image of what it comes
-- to in the ideal world

module _ (h : Naming) (cells : List Cell) where
  family_on_cells : (s : Site) → ReachedInCells h cells s.world → running (frames_in s) ≡ Some s.frame → (i : Listed)
      → by_family (site_on h cells s) i ≡ completion_on h cells (by_family s i)
  family_on_cells s u e Nop = ap (λ m. completes (site_on h cells s) (Ok m)) (replaced_named h s.next s.frame 0 [])
      ∙ completes_on_cells h cells u.stack_error s (Ok (replaced s.next s.frame 0 []))
  family_on_cells s u e (Constant c) = ap (completes (site_on h cells s)) (constant_named h s.next c s.frame)
      ∙ completes_on_cells h cells u.stack_error s (constant s.next c s.frame)
  family_on_cells s u e (Local access) = ap (completes (site_on h cells s)) (local_named h s.next access s.frame)
      ∙ completes_on_cells h cells u.stack_error s (local s.next access s.frame)
  family_on_cells s u e (Stack operation) = ap (completes (site_on h cells s))
      (rearranged_named h s.next operation s.frame) ∙ completes_on_cells h cells u.stack_error s
      (rearranged s.next operation s.frame)
  family_on_cells s u e (Number operation) = ap (completes (site_on h cells s))
      (number_named h s.next operation s.frame) ∙ completes_on_cells h cells u.stack_error s
      (number s.next operation s.frame)
  family_on_cells s u e (Branch test target) = ap (completes (site_on h cells s))
      (branched_on_cells h cells s.world u s.next test target s.frame (stack_known s.world s.thread _ s.frame e))
      ∙ completes_on_cells h cells u.stack_error s (branched s.next test target s.frame)
  family_on_cells s u e (TableSwitch table) = ap (completes (site_on h cells s)) (table_named h table s.frame)
      ∙ completes_on_cells h cells u.stack_error s (table_switched table s.frame)
  family_on_cells s u e (LookupSwitch lookup) = ap (completes (site_on h cells s)) (lookup_named h lookup s.frame)
      ∙ completes_on_cells h cells u.stack_error s (lookup_switched lookup s.frame)
  family_on_cells s u e (Return kind) = returned_on_cells h cells s u e kind
  family_on_cells s u e (StaticField access member) = static_on_cells h cells s u access member
  family_on_cells s u e (Field access member) = field_on_cells h cells s u e access member
  family_on_cells s u e (Array operation) = array_on_cells h cells s u e operation
  family_on_cells s u e (Class operation name) = class_operated_on_cells h cells s u e operation name
  family_on_cells s u e (Invoke invocation member) = invoked_on_cells h cells s u e invocation member
  family_on_cells s u e Throw = threw_on_cells h cells s u e
  family_on_cells s u e (Monitor operation) = monitor_operated_on_cells h cells s u e operation

  module _ (program : List ClassListing) (w : World) (u : ReachedInCells h cells w) (t : ℕ) where
    instruction_on_cells : (f : Frame) (i : Option Placed) → running (frames_at w t) ≡ Some f
        → at_instruction program (on_cells h cells w) t (named_frame h f) i
        ≡ completion_on h cells (at_instruction program w t f i)
    instruction_on_cells f None e = refl
    instruction_on_cells f (Some i) e =
        let s : Site = record { program = program; world = w; thread = t; frame = f; next = i.next } in
        after_initialising_on_cells h cells s u.stack_error (class_used program i.instruction) _ _
        (family_on_cells s u e i.instruction)

    mark_on_cells : (f : Frame) (mark : Mark) → running (frames_at w t) ≡ Some f
        → at_mark program (on_cells h cells w) t (named_frame h f) mark
        ≡ completion_on h cells (at_mark program w t f mark)
    mark_on_cells f Unmarked e = instruction_on_cells f (instruction_of program f) e
    mark_on_cells f Waiting e = refl
    mark_on_cells f Failing e = refl

    frame_on_cells : (o : Option Frame) → running (frames_at w t) ≡ o
        → at_frame program (on_cells h cells w) t (option_map (named_frame h) o)
        ≡ completion_on h cells (at_frame program w t o)
    frame_on_cells None e = refl
    frame_on_cells (Some f) e = mark_on_cells f f.mark e

    pub completion_on_cells : completion program (on_cells h cells w) t ≡ completion_on h cells (completion program w t)
    unfolding completion
    completion_on_cells = ap (at_frame program (on_cells h cells w) t) (running_on_cells h cells w t)
        ∙ frame_on_cells (running (frames_at w t)) refl
