use Rattle.std.proofs.Common.{◌≡◌, ℕ, List, [], ◌∷◌, slice_get, true, Option, Some, None, Result, Ok, Err, refl, sym}
use Rattle.std.proofs.Common.{◌∙◌, ap, subst}
use Rattle.model.specs.declared.instructions.Instruction.TheVariants.{Nop, Constant, Local, Stack, Number, Branch}
use Rattle.model.specs.declared.instructions.Instruction.TheVariants.{TableSwitch, LookupSwitch, Return}
use Rattle.model.specs.declared.instructions.Instruction.TheVariants.{Static as StaticField, Field, Array, Class}
use Rattle.model.specs.declared.instructions.Instruction.TheVariants.{Invoke, Throw, Monitor}
use Rattle.model.specs.declared.instructions.Invocation.{Invocation}
use Rattle.model.specs.declared.listings.Placed.{Placed}
use Rattle.model.specs.declared.names.Member.{Member}
use Rattle.model.specs.declared.turns.Abrupt.{Abrupt}
use Rattle.model.specs.declared.turns.Abrupt.TheVariants.{Fault as Faulted, Throw as Throws}
use Rattle.model.specs.declared.turns.Mark.TheVariants.{Unmarked}
use Rattle.model.specs.declared.values.Kind.{Kind}
use Rattle.model.specs.ClassListings.{ClassListing}
use Rattle.model.specs.Completions.{Site, asks, completes}
use Rattle.model.specs.Effects.{effect_of}
use Rattle.model.specs.Effects.Choice.{NewObject}
use Rattle.model.specs.Frames.{Frame, Moved, int_on, replaced, running, with_running}
use Rattle.model.specs.Programs.{instruction_of}
use Rattle.model.specs.Results.{Effect}
use Rattle.model.specs.Table.Branches.{branched}
use Rattle.model.specs.Table.Constants.{constant, constant_value}
use Rattle.model.specs.Table.Locals.{local}
use Rattle.model.specs.Table.Next.{Listed, asked, at_frame, at_instruction, at_mark, at_site, class_used, completion, next}
use Rattle.model.specs.Table.Numbers.{number}
use Rattle.model.specs.Table.Stacks.{rearranged}
use Rattle.model.specs.Table.Switches.{lookup_switched, table_switched}
use Rattle.model.specs.Worlds.{World, frames_of, with_thread}
use Rattle.model.specs.Worlds.Thread.{Live}
use Rattle.exploration.specs.PlainTurns.{HasEntered, IsQuiet, MayReturn, is_plain}
use Rattle.exploration.specs.Reduction.{IsSettled, PlainStep, classes_in, moved_in, plain_at, plain_by, plainly, used_at}
use Rattle.exploration.proofs.PlainFrames.{Calm, calm_branch, calm_local, calm_lookup, calm_number, calm_room, calm_stack}
use Rattle.exploration.proofs.PlainFrames.{calm_table}
use Rattle.exploration.proofs.PlainSteps.{plain_next}
use Rattle.exploration.proofs.PlainTurns.{nothing_is_something, quiet_calls, quiet_returns}

-- a quiet turn of a plain instruction, a return or a call is a plain step

module _ (program : List ClassListing) (w : World) (t : ℕ) (fs : List Frame) (f : Frame)
    (live : slice_get w.threads t ≡ Some (Live fs)) (runs : running fs ≡ Some f) where
  abbrev site_at : ℕ → Site
  site_at n = record { program = program; world = w; thread = t; frame = f; next = n }

  abbrev Finds : Option (List Frame) → Type 0
  Finds o = (gs : List Frame) × (o ≡ Some gs)

  module _ (n : ℕ) where
    abbrev s : Site
    s = site_at n

    by_result : (r : Result Moved Abrupt) → Calm f r → IsQuiet program w t (completes s r) → Finds (moved_in fs r)
    by_result (Ok m) calm q = (with_running fs m.frame, refl)
    by_result (Err (Throws exception)) calm q = absurd (nothing_is_something 0 (sym (ap asks calm) ∙ q.0))
    by_result (Err (Faulted fault)) calm q = absurd (nothing_is_something (fault, t) q.1)

    by_kind : (i : Listed) → is_plain i ≡ true → IsQuiet program w t (at_site s i)
        → Finds (plainly program (classes_in w) fs f n i) × IsSettled program w (class_used program i)
    by_kind Nop k q = (by_result (Ok (replaced n f 0 [])) refl q, tt)
    by_kind (Constant c) k q = (by_result (constant n c f) (calm_room n f 0 (constant_value c ∷ [])) q, tt)
    by_kind (Local access) k q = (by_result (local n access f) (calm_local n f access) q, tt)
    by_kind (Stack operation) k q = (by_result (rearranged n operation f) (calm_stack n f operation) q, tt)
    by_kind (Number operation) k q = (by_result (number n operation f) (calm_number n f operation) q, tt)
    by_kind (Branch test target) k q = (by_result (branched n test target f) (calm_branch n f test target) q, tt)
    by_kind (TableSwitch table) k q = (by_result (table_switched table f) (calm_table table f (int_on f.stack)) q, tt)
    by_kind (LookupSwitch lookup) k q = (by_result (lookup_switched lookup f) (calm_lookup lookup f (int_on f.stack)) q, tt)
    by_kind (Return kind) k q = absurd (cc)
    by_kind (StaticField access member) k q = absurd (cc)
    by_kind (Field access member) k q = absurd (cc)
    by_kind (Array operation) k q = absurd (cc)
    by_kind (Class operation name) k q = absurd (cc)
    by_kind (Invoke invocation member) k q = absurd (cc)
    by_kind Throw k q = absurd (cc)
    by_kind (Monitor operation) k q = absurd (cc)

  module _ (i : Placed) (unmarked : f.mark ≡ Unmarked) (stands : instruction_of program f ≡ Some i) where
    completion_is : completion program w t ≡ at_site (site_at i.next) i.instruction
    unfolding completion
    completion_is = ap (at_frame program w t) (ap running (ap frames_of live) ∙ runs)
        ∙ ap (at_mark program w t f) unmarked ∙ ap (at_instruction program w t f) stands

    next_is : next program w t NewObject ≡ effect_of program w t NewObject (at_site (site_at i.next) i.instruction)
    unfolding next
    next_is = ap (effect_of program w t NewObject) completion_is

    quiet_at : asked program w t ≡ None → (next program w t NewObject).after.fault ≡ None
        → IsQuiet program w t (at_site (site_at i.next) i.instruction)
    quiet_at a e = (sym (ap asks completion_is) ∙ a, ap (λ (x : Effect). x.after.fault) (sym next_is) ∙ e)

    -- the turn leaves what the plain step does
    stepped : (after : World) → after ≡ (next program w t NewObject).after
        → Finds (plainly program (classes_in w) fs f i.next i.instruction)
        → IsSettled program w (class_used program i.instruction)
        → (gs : List Frame) × PlainStep program w fs gs × (after ≡ with_thread w t (Live gs))
    stepped after is found settled =
        let step : PlainStep program w fs found.0 = record {
          frame = f;
          runs = runs;
          steps = ap (plain_by program (classes_in w) fs f) unmarked ∙ ap (plain_at program (classes_in w) fs f) stands
              ∙ found.1;
          settled = subst (λ (o : Option Placed). IsSettled program w (used_at program o)) (sym stands) settled;
        } in
        (found.0, step, is ∙ plain_next program w t fs found.0 live step NewObject)

    module _ (after : World) (is : after ≡ (next program w t NewObject).after) (a : asked program w t ≡ None)
        (clean : after.fault ≡ None) where
      quiet : IsQuiet program w t (at_site (site_at i.next) i.instruction)
      quiet = quiet_at a (ap (λ (y : World). y.fault) (sym is) ∙ clean)

      pub is_step : is_plain i.instruction ≡ true
          → (gs : List Frame) × PlainStep program w fs gs × (after ≡ with_thread w t (Live gs))
      is_step kind = (let k = by_kind i.next i.instruction kind quiet in stepped after is k.0 k.1)

      pub is_return : (kind : Option Kind) → i.instruction ≡ Return kind → MayReturn program fs f
          → (gs : List Frame) × PlainStep program w fs gs × (after ≡ with_thread w t (Live gs))
      is_return kind e may = stepped after is
          (subst (λ (x : Listed). Finds (plainly program (classes_in w) fs f i.next x)) (sym e)
          (quiet_returns program w t fs live f runs i.next may.0.0 may.0.1 may.1 kind
          (subst (λ (x : Listed). IsQuiet program w t (at_site (site_at i.next) x)) e quiet)))
          (subst (λ (x : Listed). IsSettled program w (class_used program x)) (sym e) tt)

      pub is_call : (invocation : Invocation) (m : Member) → i.instruction ≡ Invoke invocation m
          → HasEntered program w t f invocation after
          → (gs : List Frame) × PlainStep program w fs gs × (after ≡ with_thread w t (Live gs))
      is_call invocation m e entered =
          let same : after ≡ (effect_of program w t NewObject (at_site (site_at i.next) (Invoke invocation m))).after =
          is ∙ ap (λ (x : Effect). x.after) next_is
          ∙ ap (λ (x : Listed). (effect_of program w t NewObject (at_site (site_at i.next) x)).after) e in
          let calls = quiet_calls program w t fs live f runs i.next invocation m
          (subst (λ (x : Listed). IsQuiet program w t (at_site (site_at i.next) x)) e quiet)
          (subst (HasEntered program w t f invocation) same entered) in
          stepped after is (subst (λ (x : Listed). Finds (plainly program (classes_in w) fs f i.next x)) (sym e) calls.0)
          (subst (λ (x : Listed). IsSettled program w (class_used program x)) (sym e) calls.1)
