-- A class that can't be used: what is thrown leaves the machine as every NoClassDefFoundError does, but for the states
-- of the classes that have failed.
use Rattle.std.proofs.Common.{◌≡◌, ◌⊎◌, inl, inr, ℕ, zero, suc, ◌+◌, List, [], ◌∷◌, ◌++◌, Bool, true, false, is_some}
use Rattle.std.proofs.Common.{map, slice_set, Option, Some, None, Ok, Err, refl, sym, ap, subst, ◌∙◌}
use Rattle.std.specs.Prelude.{if◌then◌else◌, nat_le, reverse}
use Rattle.model.specs.declared.journals.Outcome.{Outcome}
use Rattle.model.specs.declared.journals.Outcome.TheVariants.{Fault as FaultOutcome}
use Rattle.model.specs.declared.turns.ClassState.{ClassState}
use Rattle.model.specs.declared.turns.ClassState.TheVariants.{Failed}
use Rattle.model.specs.declared.turns.Exception.TheVariants.{NoClassDefFound}
use Rattle.model.specs.declared.turns.Fault.{Fault}
use Rattle.model.specs.declared.turns.Fault.TheVariants.{StackFull}
use Rattle.model.specs.ClassListings.{ClassListing}
use Rattle.model.specs.Accounts.{Account, take_cell}
use Rattle.model.specs.Classes.Exceptions.{exception_class}
use Rattle.model.specs.Completions.Completion.{Denies, Raises}
use Rattle.model.specs.Frames.{Frame}
use Rattle.model.specs.Initialisation.{with_states}
use Rattle.model.specs.Machines.{outcome_by}
use Rattle.model.specs.Monitors.{is_owner, monitor_of, exited, released, released_all, with_monitor_if, with_monitor_of}
use Rattle.model.specs.Objects.{class_at, object_at, with_object}
use Rattle.model.specs.Results.{Effect, faulted}
use Rattle.model.specs.Turns.{is_fault}
use Rattle.model.specs.Unwinding.{Landing, handling, initialised_by, landed, thrown, way_of, without}
use Rattle.model.specs.Unwinding.Landing.{Handled, Stopped, Unhandled}
use Rattle.model.specs.Worlds.{Monitor, Object, World, frames_at, plain_object, with_class_states, with_thread}
use Rattle.model.specs.Worlds.Thread.{Live as LiveThread}
use Rattle.join.specs.TurnsOnCells.{CellMachine, birth_in, carried_on, carried_unless, faulted_on, outcome_if_on}
use Rattle.join.specs.TurnsOnCells.{raised_at, turned_on}
use Rattle.instructions.specs.declared.acting.Turned.{Turned}
use Rattle.instructions.specs.declared.kinds.Course.TheVariants.{Live}
use Rattle.instructions.specs.declared.machines.Machine.{Machine}
use Rattle.instructions.specs.Acting.{Scene, shown, reported, turned}

-- ---- classes fail in any order

fail-twice : (states : List ClassState) (i j : ℕ)
    → slice_set (slice_set states i Failed) j Failed ≡ slice_set (slice_set states j Failed) i Failed
fail-twice [] i j = refl
fail-twice (s ∷ ss) zero zero = refl
fail-twice (s ∷ ss) zero (suc j) = refl
fail-twice (s ∷ ss) (suc i) zero = refl
fail-twice (s ∷ ss) (suc i) (suc j) = ap (λ rest. s ∷ rest) (fail-twice ss i j)

one-first : (classes : List ℕ) (states : List ClassState) (i : ℕ)
    → with_states Failed classes (slice_set states i Failed) ≡ slice_set (with_states Failed classes states) i Failed
one-first [] states i = refl
one-first (c ∷ cs) states i =
    ap (with_states Failed cs) (fail-twice states i c) ∙ one-first cs (slice_set states c Failed) i

fail-both : (left classes : List ℕ) (states : List ClassState)
    → with_states Failed left (with_states Failed classes states)
    ≡ with_states Failed classes (with_states Failed left states)
fail-both [] classes states = refl
fail-both (c ∷ cs) classes states =
    ap (with_states Failed cs) (sym (one-first classes states c)) ∙ fail-both cs classes (slice_set states c Failed)

-- ---- monitors are given back whatever the classes' states

module _ (states : List ClassState) where
  monitor-too : (w : World) (birth : ℕ) (m : Monitor) (o : Option Object)
      → with_monitor_if (with_class_states w states) birth m o ≡ with_class_states (with_monitor_if w birth m o) states
  monitor-too w birth m None = refl
  monitor-too w birth m (Some object) = refl

  release-too : (w : World) (t : ℕ) (monitor : Option ℕ)
      → released (with_class_states w states) t monitor ≡ with_class_states (released w t monitor) states
  release-too w t None = refl
  release-too w t (Some birth) =
      by (is_owner t (monitor_of w birth).owner) (with_monitor_of w birth (exited (monitor_of w birth)))
      (monitor-too w birth (exited (monitor_of w birth)) (object_at w birth))
    where
      by : (b : Bool) (u : World) → with_monitor_of (with_class_states w states) birth (exited (monitor_of w birth))
          ≡ with_class_states u states
          → (if b then with_monitor_of (with_class_states w states) birth (exited (monitor_of w birth))
          else with_class_states w states)
          ≡ with_class_states (if b then u else w) states
      by true u e = e
      by false u e = refl

  releases-too : (w : World) (t : ℕ) (monitors : List (Option ℕ))
      → released_all (with_class_states w states) t monitors ≡ with_class_states (released_all w t monitors) states
  releases-too w t [] = refl
  releases-too w t (monitor ∷ monitors) =
      ap (λ (u : World). released_all u t monitors) (release-too w t monitor)
      ∙ releases-too (released w t monitor) t monitors

released-fault : (w : World) (t : ℕ) (monitor : Option ℕ) → (released w t monitor).fault ≡ w.fault
released-fault w t None = refl
released-fault w t (Some birth) = by (is_owner t (monitor_of w birth).owner) (object_at w birth) where
  by : (b : Bool) (o : Option Object)
      → (if b then with_monitor_if w birth (exited (monitor_of w birth)) o else w).fault ≡ w.fault
  by true None = refl
  by true (Some object) = refl
  by false o = refl

releases-fault : (w : World) (t : ℕ) (monitors : List (Option ℕ)) → (released_all w t monitors).fault ≡ w.fault
releases-fault w t [] = refl
releases-fault w t (monitor ∷ monitors) =
    releases-fault (released w t monitor) t monitors ∙ released-fault w t monitor

-- ---- what is thrown

module _ (program : List ClassListing) (classes : List ℕ) where
  abbrev pub failed_too : World → World
  failed_too w = with_class_states w (with_states Failed classes w.statics.states)

  without-too : (w : World) (t : ℕ) (left : List Frame)
      → without program (failed_too w) t left ≡ failed_too (without program w t left)
  without-too w t left =
      ap (λ (u : World). with_class_states u (with_states Failed (initialised_by program left)
      (with_states Failed classes w.statics.states)))
      (releases-too (with_states Failed classes w.statics.states) w t (map (λ (f : Frame). f.monitor) left))
      ∙ ap (with_class_states (released_all w t (map (λ (f : Frame). f.monitor) left)))
      (fail-both (initialised_by program left) classes w.statics.states)

  -- the same fault, or the same but for the states
  abbrev Follows : World → Effect → Effect → Type 0
  Follows w e further =
      ((further ≡ e) × (is_fault e.after ≡ true))
      ⊎ ((let same : Effect = record { after = failed_too e.after; writes = e.writes } in further ≡ same)
      × (e.after.fault ≡ w.fault))

  abbrev handled : World → ℕ → ℕ → ℕ → Frame → List Frame → Effect
  handled w t birth handler f callers = record {
    after = with_thread w t (LiveThread (reverse callers ++ handling birth handler f ∷ []));
    writes = birth ∷ [];
  }

  landed-too : (before w : World) (t birth : ℕ) (class : List ℕ) (landing : Landing)
      → Follows w (landed before w t birth class landing) (landed before (failed_too w) t birth class landing)
  landed-too before w t birth class Unhandled = inr (refl, refl)
  landed-too before w t birth class (Stopped f callers) = inr (refl, refl)
  landed-too before w t birth class (Handled handler f callers) = by (nat_le 1 f.room) where
    by : (b : Bool)
        → Follows w (if b then handled w t birth handler f callers else faulted before t StackFull)
        (if b then handled (failed_too w) t birth handler f callers else faulted before t StackFull)
    by true = inr (refl, refl)
    by false = inl (refl, refl)

  follows-from : (v w : World) (e further : Effect) → v.fault ≡ w.fault → Follows v e further → Follows w e further
  follows-from v w e further same (inl f) = inl f
  follows-from v w e further same (inr f) = inr (f.0, f.1 ∙ same)

  thrown-too : (before w : World) (t birth : ℕ)
      → Follows w (thrown program before w t birth) (thrown program before (failed_too w) t birth)
  thrown-too before w t birth =
      let class = class_at w birth in
      let way = way_of program class (reverse (frames_at w t)) in
      let left = without program w t way.left in
      subst (λ (u : World). Follows w (landed before left t birth class way.landing)
      (landed before u t birth class way.landing))
      (sym (without-too w t way.left))
      (follows-from left w (landed before left t birth class way.landing)
      (landed before (failed_too left) t birth class way.landing)
      (releases-fault w t (map (λ (f : Frame). f.monitor) way.left))
      (landed-too before left t birth class way.landing))

  -- ---- on cells

  abbrev pub failed_on : CellMachine → CellMachine
  failed_on y = record { world = failed_too y.world; account = y.account; births = y.births }

  abbrev pub Follows_on : CellMachine → CellMachine → Type 0
  Follows_on y z = ((z ≡ y) × (is_fault y.world ≡ true)) ⊎ ((z ≡ failed_on y) × (is_fault y.world ≡ false))

  carried-too : (x : CellMachine) (a : Account) (births : ℕ) (w : World) (e further : Effect) → w.fault ≡ None
      → Follows w e further → Follows_on (carried_on x a births e) (carried_on x a births further)
  carried-too x a births w e further none (inl f) =
      inl (ap (carried_on x a births) f.0, by e.after.fault refl f.1)
    where
      by : (o : Option (Fault × ℕ)) → e.after.fault ≡ o → is_fault e.after ≡ true
          → is_fault (carried_unless x a births e o).world ≡ true
      by None at faulty = faulty
      by (Some fault) at faulty = faulty
  carried-too x a births w e further none (inr f) =
      inr (
        ap (carried_on x a births) f.0
            ∙ ap (carried_unless x a births (record { after = failed_too e.after; writes = e.writes })) (f.1 ∙ none)
            ∙ sym (ap (λ o. failed_on (carried_unless x a births e o)) (f.1 ∙ none)),
        ap (λ o. is_fault (carried_unless x a births e o).world) (f.1 ∙ none) ∙ ap is_some (f.1 ∙ none),
      )

  raised-too : (x : CellMachine) (t : ℕ) (o : Option (ℕ × Account)) → x.world.fault ≡ None
      → Follows_on (raised_at program x x.world t NoClassDefFound o)
      (raised_at program x (failed_too x.world) t NoClassDefFound o)
  raised-too x t None none =
      carried-too x x.account x.births x.world (thrown program x.world x.world t 1)
      (thrown program x.world (failed_too x.world) t 1) none (thrown-too x.world x.world t 1)
  raised-too x t (Some cell) none =
      let w = with_object x.world (suc cell.0) (plain_object (exception_class NoClassDefFound)) in
      carried-too x (birth_in cell.1 cell.0 x.births) (x.births + 1) w (thrown program x.world w t (suc cell.0))
      (thrown program x.world (failed_too w) t (suc cell.0)) none (thrown-too x.world w t (suc cell.0))

  denied-too : (x : CellMachine) (t : ℕ) → x.world.fault ≡ None
      → Follows_on (turned_on program x t (Raises NoClassDefFound))
      (turned_on program x t (Denies (with_states Failed classes x.world.statics.states)))
  unfolding turned_on
  denied-too x t none = raised-too x t (take_cell x.account 0) none

  -- ---- what the parts tell

  module _ (y z : CellMachine) (o : Outcome) (follows : Follows_on y z) where
    goes-too : (shown_then after : CellMachine) (outcome : Outcome)
        → (let pair : CellMachine × Outcome = (y, outcome_by (is_fault y.world) o) in (shown_then, outcome) ≡ pair)
        → is_fault shown_then.world ≡ false → after ≡ failed_on shown_then
        → (let pair : CellMachine × Outcome = (z, outcome_by (is_fault z.world) o) in (after, outcome) ≡ pair)
    goes-too shown_then after outcome is fine after_is = by follows where
      faults : is_fault y.world ≡ false
      faults = sym (ap (λ (p : CellMachine × Outcome). is_fault p.0.world) is) ∙ fine

      by : Follows_on y z
          → (let pair : CellMachine × Outcome = (z, outcome_by (is_fault z.world) o) in (after, outcome) ≡ pair)
      by (inl f) = let both : true ≡ false = sym f.1 ∙ faults in cc
      by (inr f) =
          let machine : after ≡ z = after_is ∙ ap (λ (p : CellMachine × Outcome). failed_on p.0) is ∙ sym f.0 in
          let came : outcome ≡ outcome_by (is_fault z.world) o =
          ap (λ (p : CellMachine × Outcome). p.1) is
          ∙ sym (ap (λ (u : CellMachine). outcome_by (is_fault u.world) o) f.0) in
          ap (λ (u : CellMachine). let pair : CellMachine × Outcome = (u, outcome) in pair) machine
          ∙ ap (λ (q : Outcome). let pair : CellMachine × Outcome = (z, q) in pair) came

    faults-too : (faulted : CellMachine)
        → (let pair : CellMachine × Outcome = (y, outcome_by (is_fault y.world) o) in (faulted, FaultOutcome) ≡ pair)
        → is_fault faulted.world ≡ true
        → (let pair : CellMachine × Outcome = (z, outcome_by (is_fault z.world) o) in (faulted, FaultOutcome) ≡ pair)
    faults-too faulted is fault = by follows where
      by : Follows_on y z
          → (let pair : CellMachine × Outcome = (z, outcome_by (is_fault z.world) o) in (faulted, FaultOutcome) ≡ pair)
      by (inl f) =
          is ∙ ap (λ (u : CellMachine). let pair : CellMachine × Outcome = (u, outcome_by (is_fault u.world) o) in pair)
          (sym f.0)
      by (inr f) =
          let both : true ≡ false =
          sym fault ∙ ap (λ (p : CellMachine × Outcome). is_fault p.0.world) is ∙ f.1 in
          cc

  module _ (scene : Scene) (m raised after : Machine) where
    abbrev before : CellMachine
    before = shown program scene m Live

    abbrev y : CellMachine
    y = turned_on program before m.thread (Raises NoClassDefFound)

    abbrev z : CellMachine
    z = turned_on program before m.thread (Denies (with_states Failed classes m.states.items))

    pub denies_reported : (t : Turned)
        → reported before m.thread (shown program scene raised) (Ok t)
        ≡ turned program before m.thread (Raises NoClassDefFound)
        → after.frames ≡ raised.frames → after.slots ≡ raised.slots
        → after.states.items ≡ with_states Failed classes raised.states.items → after.output.items ≡ raised.output.items
        → after.heap ≡ raised.heap
        → reported before m.thread (shown program scene after) (Ok t)
        ≡ turned program before m.thread (Denies (with_states Failed classes m.states.items))
    denies_reported t is frames slots states output heap =
        goes-too y z (outcome_if_on before.account (Some 0)) (denied-too before m.thread refl)
        (shown program scene raised t.course) (shown program scene after t.course) t.outcome is refl
        (rw (frames, slots, states, output, heap) refl)

    pub denies_fault_reported : (fault : Fault)
        → reported before m.thread (shown program scene raised) (Err fault)
        ≡ turned program before m.thread (Raises NoClassDefFound)
        → reported before m.thread (shown program scene after) (Err fault)
        ≡ turned program before m.thread (Denies (with_states Failed classes m.states.items))
    denies_fault_reported fault is =
        faults-too y z (outcome_if_on before.account (Some 0)) (denied-too before m.thread refl)
        (faulted_on before m.thread fault) is refl
