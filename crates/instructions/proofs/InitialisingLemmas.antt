-- What the initialisation of classes tells.
use Rattle.std.proofs.Common.{◌≡◌, ◌≢◌, ℕ, List, [], ◌∷◌, ◌++◌, Bool, true, false, ◌==◌, ◌<◌, length, not, Some, None}
use Rattle.std.proofs.Common.{Ok, refl, sym, ap, ◌∙◌, arith}
use Rattle.std.specs.Prelude.{if◌then◌else◌}
use Rattle.model.specs.declared.turns.ClassState.{ClassState}
use Rattle.model.specs.declared.turns.ClassState.TheVariants.{Unused, Running, Done, Failed}
use Rattle.model.specs.declared.turns.Exception.TheVariants.{StackOverflow}
use Rattle.model.specs.ClassListings.{ClassListing}
use Rattle.model.specs.Completions.{Completion, Site, frames_in, raises}
use Rattle.model.specs.Completions.Completion.{Goes, Waits}
use Rattle.model.specs.Frames.{Frame, within_limits}
use Rattle.model.specs.Initialisation.{Chain, callers_waiting, initializer_frames, with_states}
use Rattle.model.specs.Table.Initialisation.{claims, claims_with, initialises, initialises_chain}
use Rattle.model.specs.Worlds.{World, with_class_states, with_thread}
use Rattle.model.specs.Worlds.Thread.{Live as LiveThread}
use Rattle.join.specs.TurnsOnCells.{turned_on}
use Rattle.linking.specs.declared.operations.Operation.{Operation}
use Rattle.linking.specs.declared.operations.Operation.TheVariants.{Getstatic, Invokestatic, New, Putstatic}
use Rattle.instructions.specs.declared.kinds.Course.TheVariants.{Live}
use Rattle.instructions.specs.declared.machines.Machine.{Machine}
use Rattle.instructions.specs.Acting.{Scene, shown, site_at, reported, turned}
use Rattle.instructions.specs.Heaps.{HeapValue}
use Rattle.instructions.specs.Shown.{objects_shown}
use Rattle.instructions.specs.Initialising.{claims_so_many, denies_so_many}
use Rattle.instructions.specs.InitialisingByNumbers.{AreClaimed, chain_at, claim_frames, claimed, class_used_by}
use Rattle.instructions.specs.InitialisingByNumbers.{initialises_class, is_others}
use Rattle.instructions.proofs.ActingLemmas.{done_in, goes_in}
use Rattle.instructions.proofs.Scenes.{frames_shown}

-- ---- operations that use no class

pub uses_none : (program : List ClassListing) (op : Operation) → ((n : ℕ) → op ≢ Getstatic n)
    → ((n : ℕ) → op ≢ Putstatic n)
    → ((n : ℕ) → op ≢ New n) → ((c m : ℕ) → op ≢ Invokestatic c m) → class_used_by program op ≡ None
uses_none program (Getstatic n) gets puts makes calls = absurd (gets n refl)
uses_none program (Putstatic n) gets puts makes calls = absurd (puts n refl)
uses_none program (New n) gets puts makes calls = absurd (makes n refl)
uses_none program (Invokestatic c m) gets puts makes calls = absurd (calls c m refl)
uses_none program _ gets puts makes calls = refl

pub ruleset uses_no_class = (uses_none)

-- ---- a claim

module _ (program : List ClassListing) (scene : Scene) (m after : Machine) (here : length scene.before ≡ m.thread)
    (next class count : ℕ) where
  abbrev before : World
  before = (shown program scene m Live).world

  abbrev site : Site
  site = site_at program m before next

  abbrev entered : List Frame
  entered = m.frames ++ claim_frames program class count

  abbrev claims_if : Bool → Completion
  claims_if fits =
      if fits
      then Goes (with_class_states (with_thread before m.thread (LiveThread entered))
      (with_states (Running m.thread) (claimed program class count) m.states.items)) []
      else raises StackOverflow

  claim-is : (fits : Bool) → within_limits entered ≡ fits → claims_so_many site class count ≡ claims_if fits
  claim-is fits e =
      ap (λ frames. claims_with site (claimed program class count) (frames ++ claim_frames program class count))
      (frames_shown program scene m here)
      ∙ ap claims_if e

  abbrev claiming : World
  claiming = with_class_states before (with_states (Running m.thread) (claimed program class count) m.states.items)

  pub claim_reported : within_limits entered ≡ true → after.frames ≡ entered → after.slots ≡ m.slots
      → after.states.items ≡ with_states (Running m.thread) (claimed program class count) m.states.items
      → after.output.items ≡ m.output.items → after.heap ≡ m.heap
      → reported (shown program scene m Live) m.thread (shown program scene after) (Ok (done_in Live))
      ≡ turned program (shown program scene m Live) m.thread (claims_so_many site class count)
  claim_reported fits frames slots states output heap =
      goes_in program scene m after here claiming [] refl (rw (slots, states) refl) (sym output)
      (ap (λ (h : HeapValue). objects_shown program h.objects) (sym heap)) refl refl
      (ap (λ (h : HeapValue). h.account) (sym heap)) (ap (λ (h : HeapValue). h.births) heap)
      ∙ ap (turned program (shown program scene m Live) m.thread)
      (ap (λ frames. Goes (with_thread claiming m.thread (LiveThread frames)) []) frames ∙ sym (claim-is true fits))

  pub overflows-claim : within_limits entered ≡ false → claims_so_many site class count ≡ raises StackOverflow
  overflows-claim = claim-is false

-- a turn that waits changes nothing
pub waits_reported : (program : List ClassListing) (scene : Scene) (m : Machine)
    → reported (shown program scene m Live) m.thread (shown program scene m) (Ok (done_in Live))
    ≡ turned program (shown program scene m Live) m.thread Waits
unfolding turned_on
waits_reported program scene m = refl

-- ---- what comes before an operation, by the state of the class above

module _ (s : Site) (own : Completion) (classes : List ℕ) where
  pub waits-others : (above : ClassState) → is_others s.thread above ≡ true → initialises s classes above own ≡ Waits
  waits-others Unused e = cc
  waits-others (Running t) e = by (t == s.thread) e where
    by : (b : Bool) → not b ≡ true → (if b then claims s classes own else Waits) ≡ Waits
    by true e = cc
    by false e = refl
  waits-others Done e = cc
  waits-others Failed e = cc

  pub claims-then : (above : ClassState) → is_others s.thread above ≡ false → above ≢ Failed
      → initialises s classes above own ≡ claims s classes own
  claims-then Unused e fine = refl
  claims-then (Running t) e fine = by (t == s.thread) e where
    by : (b : Bool) → not b ≡ false → (if b then claims s classes own else Waits) ≡ claims s classes own
    by true e = refl
    by false e = cc
  claims-then Done e fine = refl
  claims-then Failed e fine = absurd (fine refl)

claims-none : (s : Site) (own : Completion) (classes : List ℕ) → length classes ≡ 0 → claims s classes own ≡ own
claims-none s own [] e = refl
claims-none s own (c ∷ cs) e = absurd (omega (arith, e))

claims-some : (s : Site) (own : Completion) (classes : List ℕ) → 0 < length classes
    → claims s classes own
    ≡ claims_with s classes (frames_in s ++ callers_waiting (initializer_frames s.program classes))
claims-some s own [] e = absurd (omega (arith, e))
claims-some s own (c ∷ cs) e = refl

module _ (program : List ClassListing) (m : Machine) (next class count : ℕ) (above : ClassState)
    (is : (let chain : Chain = record { unused = claimed program class count; above = above }
    in chain_at program m.states.items class ≡ chain))
    (w : World) (shows : w.statics.states ≡ m.states.items) where
  abbrev here : Site
  here = site_at program m w next

  -- the completion by the chain that was found
  initialises-is : (own : Completion)
      → initialises_class here own (Some class) ≡ initialises here (claimed program class count) above own
  initialises-is own =
      ap (λ states. initialises_chain here own (chain_at program states class)) shows
      ∙ ap (initialises_chain here own) is

  pub others-wait : (own : Completion) → is_others m.thread above ≡ true → initialises_class here own (Some class)
      ≡ Waits
  others-wait own e = initialises-is own ∙ waits-others here own (claimed program class count) above e

  pub failed-denies : (own : Completion) → above ≡ Failed
      → initialises_class here own (Some class) ≡ denies_so_many here class count
  failed-denies own e = initialises-is own ∙ ap (λ above. initialises here (claimed program class count) above own) e

  module _ (fine : is_others m.thread above ≡ false) (usable : above ≢ Failed) (there : AreClaimed program class count)
    where
      pub may-use : (own : Completion) → count ≡ 0 → initialises_class here own (Some class) ≡ own
      may-use own none =
          initialises-is own ∙ claims-then here own (claimed program class count) above fine usable
          ∙ claims-none here own (claimed program class count) (there.whole ∙ none)

      pub claims-all : (own : Completion) → 0 < count
          → initialises_class here own (Some class) ≡ claims_so_many here class count
      claims-all own some =
          let some_too : 0 < length (claimed program class count) = omega (arith, some, there.whole) in
          initialises-is own ∙ claims-then here own (claimed program class count) above fine usable
          ∙ claims-some here own (claimed program class count) some_too
