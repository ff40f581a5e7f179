-- An actor's turn on the state, and its row in the journal: the state is joined to what the journal stands for again.
use Rattle.std.proofs.Common.{◌≡◌, ◌<◌, ◌+◌, ℕ, zero, suc, List, [], ◌∷◌, ◌++◌, length, Option, Some, None, Bool, true}
use Rattle.std.proofs.Common.{cond, refl, ap, sym, subst, ◌∙◌, arith, length-append}
use Rattle.std.specs.Prelude.{◌&&◌, ◌||◌, map, position, slice_get}
use Rattle.std.specs.List.{find, list_any}
use Rattle.std.specs.Option.{option_map}
use Rattle.model.specs.declared.journals.Outcome.{Outcome}
use Rattle.model.specs.declared.journals.Outcome.TheVariants.{Done}
use Rattle.model.specs.declared.journals.HeapShape.{HeapShape}
use Rattle.model.specs.declared.journals.Limits.{Limits}
use Rattle.model.specs.declared.journals.Row.{Row}
use Rattle.model.specs.declared.turns.ClassState.{ClassState}
use Rattle.model.specs.declared.turns.Actor.{Actor}
use Rattle.model.specs.declared.turns.Actor.TheVariants.{Thread, Collector}
use Rattle.model.specs.ClassListings.{ClassListing}
use Rattle.model.specs.Classes.Named.{class_named, is_named}
use Rattle.model.specs.Collector.Runs.{Holds}
use Rattle.model.specs.Initialisation.{state_at}
use Rattle.model.specs.Effects.{Choice}
use Rattle.model.specs.Journals.{JournalValue, blank, with_row}
use Rattle.model.specs.Limits.{ShapeFits}
use Rattle.model.specs.Worlds.{World, Thread as ThreadOf, opening_fits}
use Rattle.model.specs.Turns.{overflows, refusal, choice_by, acted, unless_refused}
use Rattle.model.specs.Machines.{Machine, Recorded, after_turn_by, machine_of, machine_of-noted, noted, outcome_of}
use Rattle.model.specs.Machines.{row_for, reported_of, with_row as recorded_with}
use Rattle.model.specs.Naming.{named_thread}
use Rattle.model.specs.Accounts.{Account}
use Rattle.model.specs.Observers.{ideal, after_actor, after_last, cell_of, class_state_of, state_named, cell_view}
use Rattle.model.specs.Observers.{cyclic_from, is_held_by_output, object_of, phase_of, pick_of, thread_of}
use Rattle.model.specs.Room.{words_of_cell}
use Rattle.model.specs.Ready.{is_ready, thread_numbers}
use Rattle.model.proofs.NextKeeps.{next-rows}
use Rattle.model.proofs.CollectorLemmas.Running.{opening_holds, recorded_keeps}
use Rattle.join.specs.Joined.{Bounded, Joint}
use Rattle.join.specs.ReadBack.{ReadsBack, birth_read, object_on}
use Rattle.join.specs.Runs.{TurnIsShown}
use Rattle.join.specs.TurnsOnCells.{CellMachine, acted_on, counted_on, moved_on, outcome_on}
use Rattle.join.proofs.Opening.{opening_bounded, opening_joins}
use Rattle.join.proofs.ReadingBack.{reads_back}
use Rattle.join.proofs.Runs.{turn_is_shown}
use Rattle.instructions.specs.Loaded.{Loaded, fresh}
use Rattle.instructions.proofs.Refusing.{unrefused_counted}
use Rattle.scheduler.specs.OnCells.{cells_of}
use Rattle.scheduler.specs.Worlds.{recorded, IsOf}
use Rattle.scheduler.proofs.CellsMoved.{cells_next}
use Rattle.scheduler.proofs.Making.{made_noted}

after_last-push : (n : ℕ) (rows : List Row) (row : Row) → after_last n (rows ++ row ∷ [])
    ≡ after_actor (after_last n rows) row.actor
after_last-push n [] row = refl
after_last-push n (r ∷ rows) row = after_last-push (after_actor n r.actor) rows row

-- an actor changes nothing of the count of rows
acted-rows : (program : List ClassListing) (w : World) (actor : Actor) (choice : Choice)
    → (acted program w actor choice).rows ≡ w.rows
acted-rows program w (Thread t) choice = next-rows program w t choice
acted-rows program w Collector choice = refl

module _ (s : Loaded) (j : JournalValue) (k : ℕ) (is : IsOf s j k) where
  abbrev v : Recorded
  v = recorded s j

  -- what is read off the cells
  pub back : ReadsBack s.program j.limits s.machine (machine_of v)
  back = reads_back s.program j.shape j.limits s.machine (machine_of v) is.holds is.bounded is.joint

  pub refusal_is : (actor : Actor) → refusal s.program s.limits s.machine.world actor
      ≡ refusal s.program j.limits (ideal v) actor
  refusal_is actor = ap (λ (l : Limits). refusal s.program l s.machine.world actor) is.limits_are ∙ back.refusals actor

  -- ---- a turn that nothing refuses

  module _ (actor : Actor) (worker : ℕ) (e : refusal s.program j.limits (ideal v) actor ≡ None) where
    on_cells : refusal s.program j.limits s.machine.world actor ≡ None
    on_cells = back.refusals actor ∙ e

    -- so there is room for a row
    pub row_fits : length j.rows < j.limits.steps
    row_fits = let h = unrefused_counted s.program j.limits s.machine.world actor on_cells
        in let rows = is.rows_are in omega (arith, h, rows)

    abbrev pub row : Row
    row = record { actor = actor; outcome = outcome_on s.program s.machine actor; worker = worker }

    shown : TurnIsShown v s.machine actor worker
    shown = turn_is_shown v s.machine actor worker is.holds is.bounded is.joint

    row_is : row_for v actor worker ≡ Some row
    row_is = sym shown.row ∙ rw on_cells refl

    pub after_is : after_turn_by v actor worker ≡ noted v row
    unfolding after_turn_by
    after_is = ap (recorded_with v) row_is

    abbrev outcome_in : Option Row → Outcome
    outcome_in None = Done
    outcome_in (Some r) = r.outcome

    ideal_row : row_for v actor worker
        ≡ Some (record { actor = actor; outcome = outcome_of s.program (machine_of v) actor; worker = worker })
    ideal_row = rw e refl

    -- the outcome on cells is the outcome
    pub outcome_is : outcome_on s.program s.machine actor ≡ outcome_of s.program (machine_of v) actor
    outcome_is = ap outcome_in (sym row_is ∙ ideal_row)

    -- the state after the turn
    abbrev pub after : Loaded
    after = record s { machine = counted_on (acted_on s.program s.shape s.machine actor) }

    moved_is : moved_on s.program j.shape j.limits s.machine actor
        ≡ counted_on (acted_on s.program s.shape s.machine actor)
    unfolding moved_on
    moved_is = rw on_cells (ap (λ (shape : HeapShape). counted_on (acted_on s.program shape s.machine actor))
        (sym is.shape_is))

    joint_after : Joint after.machine (machine_of (noted v row))
    joint_after = subst (λ m. Joint after.machine (machine_of m)) after_is
        (subst (λ x. Joint x (machine_of (after_turn_by v actor worker))) moved_is shown.joint)

    rows_after : (machine_of (noted v row)).world.rows ≡ (machine_of v).world.rows + 1
    rows_after =
        ap (λ (m : Machine). m.world.rows) (machine_of-noted v row)
        ∙ ap (λ r. (unless_refused s.program (ideal v) actor (choice_by s.program (ideal v) actor row.outcome) r).rows)
        e
        ∙ ap (λ (n : ℕ). n + 1) (acted-rows s.program (ideal v) actor (choice_by s.program (ideal v) actor row.outcome))

    pub noted_is : IsOf after (with_row j row) (after_actor k actor)
    noted_is = record {
      limits_are = is.limits_are;
      shape_is = is.shape_is;
      rows_are =
          ap (λ (w : World). w.rows) joint_after.joined.world ∙ rows_after
          ∙ ap (λ (n : ℕ). n + 1) (sym back.rows ∙ is.rows_are) ∙ sym (length-append j.rows (row ∷ []));
      cells_are =
          sym moved_is ∙ ap (λ (x : CellMachine). moved_on s.program j.shape j.limits x actor) is.cells_are
          ∙ sym (cells_next v row);
      joint = joint_after;
      holds = subst (λ (u : Recorded). Holds j.shape (machine_of u)) after_is (recorded_keeps v actor worker is.holds);
      bounded = subst (λ (u : Recorded). Bounded (machine_of u).world) after_is shown.bounded;
      next_is = ap (λ (n : ℕ). after_actor n actor) is.next_is ∙ sym (after_last-push 0 j.rows row);
      made = made_noted v row is.made row_is;
    }

  -- the answer to a turn is reported by the state's fault
  pub answer_is : reported_of s.machine.world.fault ≡ reported_of (ideal v).fault
  answer_is = ap reported_of back.fault

-- ---- what observers answer

find-same : (p q : ℕ → Bool) → ((n : ℕ) → p n ≡ q n) → (ns : List ℕ) → find p ns ≡ find q ns
find-same p q same [] = refl
find-same p q same (n ∷ ns) = ap (λ b. cond b (Some n) (find p ns)) (same n)
    ∙ ap (cond (q n) (Some n)) (find-same p q same ns)

any-same : (p q : ℕ → Bool) → ((n : ℕ) → p n ≡ q n) → (ns : List ℕ) → list_any p ns ≡ list_any q ns
any-same p q same [] = refl
any-same p q same (n ∷ ns) = ap (λ b. b || list_any p ns) (same n) ∙ ap (λ b. q n || b) (any-same p q same ns)

got-mapped : {A B : Type 0} (f : A → B) (xs : List A) (n : ℕ) → option_map f (slice_get xs n) ≡ slice_get (map f xs) n
got-mapped f [] n = refl
got-mapped f (x ∷ xs) zero = refl
got-mapped f (x ∷ xs) (suc n) = got-mapped f xs n

module _ (s : Loaded) (j : JournalValue) (k : ℕ) (is : IsOf s j k) where
  abbrev r : Recorded
  r = recorded s j

  abbrev read : ReadsBack s.program j.limits s.machine (machine_of r)
  read = back s j k is

  pub pick_is : find (is_ready s.program s.machine.world) (cyclic_from k (thread_numbers s.machine.world)) ≡ pick_of r
  pick_is =
      ap (λ ns. find (is_ready s.program s.machine.world) (cyclic_from k ns)) read.threads_numbered
      ∙ ap (λ n. find (is_ready s.program s.machine.world) (cyclic_from n (thread_numbers (ideal r)))) is.next_is
      ∙ find-same (is_ready s.program s.machine.world) (is_ready s.program (ideal r)) read.ready
      (cyclic_from (after_last 0 j.rows) (thread_numbers (ideal r)))

  held_is : (t : ℕ) → is_held_by_output s.program s.limits s.machine.world t
      ≡ is_held_by_output s.program j.limits (ideal r) t
  held_is t =
      ap (λ (l : Limits). is_held_by_output s.program l s.machine.world t) is.limits_are
      ∙ ap (λ b. b && overflows s.program j.limits s.machine.world t) (read.ready t)
      ∙ ap (λ b. is_ready s.program (ideal r) t && b) (read.overflowing t)

  pub some_held_is : list_any (is_held_by_output s.program s.limits s.machine.world) (thread_numbers s.machine.world)
      ≡ list_any (is_held_by_output s.program j.limits (ideal r)) (thread_numbers (ideal r))
  some_held_is =
      ap (list_any (is_held_by_output s.program s.limits s.machine.world)) read.threads_numbered
      ∙ any-same (is_held_by_output s.program s.limits s.machine.world) (is_held_by_output s.program j.limits (ideal r))
      held_is (thread_numbers (ideal r))

  pub phase_is : s.machine.account.phase ≡ phase_of r
  phase_is = ap (λ (a : Account). a.phase) read.account

  pub class_is : (name : List ℕ) → option_map (λ (class : ClassListing). state_named s.program s.machine.world name)
      (class_named s.program name) ≡ class_state_of r name
  class_is name =
      ap (λ (states : List ClassState). option_map (λ (class : ClassListing). state_at states
      (position (is_named name) s.program)) (class_named s.program name)) read.states

  pub cell_is : (c : ℕ) → option_map (cell_view (words_of_cell s.shape c)) (slice_get s.machine.account.cells c)
      ≡ cell_of r c
  cell_is c =
      ap (λ (shape : HeapShape). option_map (cell_view (words_of_cell shape c)) (slice_get s.machine.account.cells c))
      is.shape_is
      ∙ ap (λ (a : Account). option_map (cell_view (words_of_cell j.shape c)) (slice_get a.cells c)) read.account

  pub thread_is : (t : ℕ) → option_map (named_thread (birth_read s.machine.account.cells))
      (slice_get s.machine.world.threads t) ≡ thread_of r t
  thread_is t =
      got-mapped (named_thread (birth_read s.machine.account.cells)) s.machine.world.threads t
      ∙ ap (λ (threads : List ThreadOf). slice_get threads t) read.threads

  pub object_is : (b : ℕ) → object_on s.machine b ≡ object_of r b
  object_is = read.shown

-- ---- the opening

pub opened_is : (program : List ClassListing) (shape : HeapShape) (limits : Limits)
    → ShapeFits shape.small shape.medium shape.large → opening_fits program ≡ true
    → IsOf (fresh program limits shape) (blank shape limits 1) 0
unfolding machine_of cells_of
opened_is program shape limits fits opens = record {
  limits_are = refl;
  shape_is = refl;
  rows_are = refl;
  cells_are = refl;
  joint = opening_joins program shape fits;
  holds = opening_holds program shape fits.0;
  bounded = opening_bounded program;
  next_is = refl;
  made = record { opens = opens; rows = tt };
}
