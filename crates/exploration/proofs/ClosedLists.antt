use Rattle.std.proofs.Common.{◌≡◌, ℕ, List, [], ◌∷◌, ◌++◌, Bool, true, false, if◌then◌else◌, nat_le}
use Rattle.std.proofs.Common.{Option, Some, None, refl, sym, ◌∙◌, ap, subst, arith}
use Rattle.model.specs.declared.journals.HeapShape.{HeapShape}
use Rattle.model.specs.declared.journals.Limits.{Limits}
use Rattle.model.specs.declared.journals.Row.{Row}
use Rattle.model.specs.declared.turns.Actor.{Actor}
use Rattle.model.specs.declared.turns.Actor.TheVariants.{Thread, Collector}
use Rattle.model.specs.declared.turns.Fault.{Fault}
use Rattle.model.specs.declared.turns.Turn.{Turn}
use Rattle.model.specs.declared.turns.Turn.TheVariants.{NotReady, OutputFull, StepLimit}
use Rattle.model.specs.ClassListings.{ClassListing}
use Rattle.model.specs.Worlds.{World, opening_world}
use Rattle.model.specs.Effects.{Choice}
use Rattle.model.specs.Results.{Effect}
use Rattle.model.specs.Effects.Choice.{NewObject, NoRoom}
use Rattle.model.specs.Table.Next.{next, asked}
use Rattle.model.specs.Ready.{is_ready}
use Rattle.model.specs.Turns.{refusal, refusal_after, thread_refusal, overflows, ideal_step, unless_refused, choice_by}
use Rattle.model.specs.Machines.{Machine, Recorded, machine_of, advance_all, advance, opening_machine, row_by}
use Rattle.model.specs.Collector.Runs.{machine_after, moved_by, moved_by_all, advance_if}
use Rattle.model.proofs.CollectorLemmas.Running.{machine_after-is, unfaulted}
use Rattle.model.proofs.NextKeeps.{next-choice}
use Rattle.join.specs.OnCells.{on_cells}
use Rattle.join.proofs.Refusals.{refusal_on_cells, asked_on_cells, ready_on_cells, overflows_on_cells}
use Rattle.exploration.specs.Representation.{Represents, Images, uncounted}
use Rattle.exploration.specs.ClosedLists.{IsAmong, Closed, Pair, moved_through, HasEveryRun, HasEveryMachine}
use Rattle.exploration.specs.ClosedLists.{PairsFindRoom, RowFindsRoom, RowsFindRoom, TurnFindsRoom, ActorsFindRoom}
use Rattle.exploration.specs.ClosedLists.{ClosedHasAll, ComesTo, HasEveryJournal, RunsCome, ideal_after}
use Rattle.exploration.specs.ClosedLists.ComesTo.{begins, turns}
use Rattle.exploration.proofs.Turns.{turn_images}
use Rattle.exploration.proofs.Composition.{represents_image}
use Rattle.exploration.proofs.RowCounts.{after_at, refused_at}

-- a list of worlds that is closed under turns has one for every world that a run comes to

-- ---- what represents a world has its refusals

pub same_refusal : (program : List ClassListing) (limits : Limits) (x w : World) → Represents x w → (actor : Actor)
    → refusal program limits x actor ≡ refusal program limits w actor
same_refusal program limits x w r actor =
    ap (λ y. refusal program limits y actor) r.is
    ∙ refusal_on_cells r.naming r.cells program limits w r.reached actor

pub same_thread_refusal : (program : List ClassListing) (limits : Limits) (x w : World) → Represents x w → (t : ℕ)
    → thread_refusal program limits x t ≡ thread_refusal program limits w t
same_thread_refusal program limits x w r t =
    let y = on_cells r.naming r.cells w in
    ap (λ z. thread_refusal program limits z t) r.is
    ∙ ap (λ ready. if ready then (if overflows program limits y t then Some OutputFull else None) else Some NotReady)
    (ready_on_cells r.naming r.cells program limits w r.reached t)
    ∙ ap (λ full. if is_ready program w t then (if full then Some OutputFull else None) else Some NotReady)
    (overflows_on_cells r.naming r.cells program limits w r.reached t)

same_asked : (program : List ClassListing) (limits : Limits) (x w : World) → Represents x w → (t : ℕ) → asked program x t ≡ asked program w t
same_asked program limits x w r t =
    ap (λ y. asked program y t) r.is ∙ asked_on_cells r.naming r.cells program limits w r.reached t

-- ---- a turn that finds no room is one of those that are looked at

pub missing : (no_room : Bool) → (no_room ≡ false → NoRoom ≡ NewObject) → no_room ≡ true
missing true room = refl
missing false room = (let e = room refl in absurd (cc))

-- ---- what a turn of a world comes to, but for the count

module _ (program : List ClassListing) (limits : Limits) where
  by_limit : (w : World) (t : ℕ) (o : Option (Fault × ℕ)) → refusal_after program limits w (Thread t) o ≡ None
      → refusal_after program limits (uncounted w) (Thread t) o ≡ None
  by_limit w t (Some fault) e = absurd (cc)
  by_limit w t None e = go (nat_le limits.steps w.rows) refl e
    where
      no_limit : (s r : ℕ) → nat_le s r ≡ false → nat_le s 0 ≡ false
      no_limit s r k = grind (arith, k)

      go : (x : Bool) → nat_le limits.steps w.rows ≡ x
          → (if x then Some StepLimit else thread_refusal program limits w t) ≡ None
          → (if nat_le limits.steps 0 then Some StepLimit else thread_refusal program limits (uncounted w) t) ≡ None
      go true k e = absurd (cc)
      go false k e = rw (no_limit limits.steps w.rows k) (refused_at program w t limits ∙ e)

  pub unrefused : (w : World) (t : ℕ) → refusal program limits w (Thread t) ≡ None
      → refusal program limits (uncounted w) (Thread t) ≡ None
  unfolding refusal
  unrefused w t e = by_limit w t w.fault e

  pub after_same : (w : World) (t : ℕ) (choice : Choice)
      → (next program (uncounted w) t choice).after ≡ uncounted (next program w t choice).after
  after_same w t choice = after_at program w t choice

  -- ---- a run that passes through a start comes to what its turns lead to

  module _ (no_room : Bool) (start : World) where
    abbrev Comes : World → Type 0
    Comes w = ComesTo program limits no_room start (uncounted w)

    by_refusal : (w : World) → Comes w → (actor : Actor) (choice : Choice) → (no_room ≡ false → choice ≡ NewObject)
        → (o : Option Turn) → refusal program limits w actor ≡ o → Comes (unless_refused program w actor choice o)
    by_refusal w c actor choice room (Some refused) e = c
    by_refusal w c (Thread t) choice room None e = subst (ComesTo program limits no_room start) (after_same w t choice)
        (turns (uncounted w) t choice c room (unrefused w t e))
    by_refusal w c Collector choice room None e = c

    pair_comes : (w : World) → Comes w → (actor : Actor) (choice : Choice) → (no_room ≡ false → choice ≡ NewObject)
        → Comes (ideal_step program limits w actor choice)
    pair_comes w c actor choice room = by_refusal w c actor choice room (refusal program limits w actor) refl

    pub pairs_come : (w : World) → Comes w → (pairs : List Pair) → (no_room ≡ false → PairsFindRoom pairs)
        → Comes (moved_through program limits w pairs)
    pairs_come w c [] room = c
    pairs_come w c (p ∷ ps) room = pairs_come (ideal_step program limits w p.actor p.choice)
        (pair_comes w c p.actor p.choice (λ k. (room k).0)) ps (λ k. (room k).1)

    -- the machine's turns are pairs of the ideal run; of its account nothing is asked

    row_comes : (shape : HeapShape) (m : Machine) → Comes m.world → (row : Row)
        → (no_room ≡ false → RowFindsRoom program m row) → Comes (advance program shape limits m row).world
    row_comes shape m c row room = pair_comes m.world c row.actor (choice_by program m.world row.actor row.outcome) room

    rows_come : (shape : HeapShape) (m : Machine) → Comes m.world → (rows : List Row)
        → (no_room ≡ false → RowsFindRoom program shape limits m rows)
        → Comes (advance_all program shape limits m rows).world
    rows_come shape m c [] room = c
    rows_come shape m c (row ∷ rows) room = rows_come shape (advance program shape limits m row)
        (row_comes shape m c row (λ k. (room k).0)) rows (λ k. (room k).1)

    if_comes : (shape : HeapShape) (m : Machine) → Comes m.world → (o : Option Row)
        → (no_room ≡ false → TurnFindsRoom program m o) → Comes (advance_if program shape limits m o).world
    if_comes shape m c None room = c
    if_comes shape m c (Some row) room = row_comes shape m c row room

    moved_comes : (shape : HeapShape) (m : Machine) → Comes m.world → (actor : Actor)
        → (no_room ≡ false → TurnFindsRoom program m (row_by program limits m actor 0))
        → Comes (moved_by program shape limits m actor).world
    unfolding moved_by
    moved_comes shape m c actor room = if_comes shape m c (row_by program limits m actor 0) room

    actors_come : (shape : HeapShape) (m : Machine) → Comes m.world → (actors : List Actor)
        → (no_room ≡ false → ActorsFindRoom program shape limits m actors)
        → Comes (moved_by_all program shape limits m actors).world
    actors_come shape m c [] room = c
    actors_come shape m c (actor ∷ actors) room = actors_come shape (moved_by program shape limits m actor)
        (moved_comes shape m c actor (λ k. (room k).0)) actors (λ k. (room k).1)

  -- one part of a run after another

  pub pairs_after : (w : World) (ps qs : List Pair)
      → moved_through program limits w (ps ++ qs) ≡ moved_through program limits (moved_through program limits w ps) qs
  pairs_after w [] qs = refl
  pairs_after w (p ∷ ps) qs = pairs_after (ideal_step program limits w p.actor p.choice) ps qs

  actors_after : (shape : HeapShape) (m : Machine) (actors more : List Actor)
      → moved_by_all program shape limits m (actors ++ more)
      ≡ moved_by_all program shape limits (moved_by_all program shape limits m actors) more
  actors_after shape m [] more = refl
  actors_after shape m (actor ∷ actors) more = actors_after shape (moved_by program shape limits m actor) actors more

  machine_goes_on : (shape : HeapShape) (before after : List Actor) → machine_after program shape limits (before ++ after)
      ≡ moved_by_all program shape limits (machine_after program shape limits before) after
  machine_goes_on shape before after =
      machine_after-is program shape limits (before ++ after)
      ∙ actors_after shape (opening_machine program shape) before after
      ∙ ap (λ (m : Machine). moved_by_all program shape limits m after) (sym (machine_after-is program shape limits before))

pub runs_come : RunsCome
runs_come program limits no_room start = (
  λ before after e room. subst (λ (w : World). ComesTo program limits no_room start (uncounted w))
      (sym (pairs_after program limits (opening_world program) before after))
      (pairs_come program limits no_room start (ideal_after program limits before)
      (subst (ComesTo program limits no_room start) (sym e) begins) after room),
  λ shape before after e room. subst (λ (m : Machine). ComesTo program limits no_room start (uncounted m.world))
      (sym (machine_goes_on program limits shape before after))
      (actors_come program limits no_room start shape (machine_after program shape limits before)
      (subst (ComesTo program limits no_room start) (sym e) begins) after room),
)

-- ---- a turn of a world that is among the states leads to one that is

module _ (program : List ClassListing) (limits : Limits) (no_room : Bool) (states : List World)
    (closed : Closed program limits no_room states) where
  by_asked : (w : World) (s : IsAmong states w) (t : ℕ) → refusal program limits s.state (Thread t) ≡ None
      → (choice : Choice) → (no_room ≡ false → choice ≡ NewObject) → (words : Option ℕ)
      → asked program s.state t ≡ words → IsAmong states (next program s.state t choice).after
  by_asked w s t e NewObject room words a = closed.turned s.place s.state t s.there e
  by_asked w s t e NoRoom room (Some words) a =
      closed.without_room (missing no_room room) s.place s.state t words s.there e a
  by_asked w s t e NoRoom room None a = subst (λ (f : Effect). IsAmong states f.after)
      (next-choice program s.state t NewObject NoRoom a) (closed.turned s.place s.state t s.there e)

  turn_among : (w : World) → IsAmong states w → (t : ℕ) (choice : Choice)
      → (no_room ≡ false → choice ≡ NewObject) → refusal program limits w (Thread t) ≡ None
      → IsAmong states (next program w t choice).after
  turn_among w s t choice room e =
      let free = same_refusal program limits s.state w s.represents (Thread t) ∙ e in
      let a = by_asked w s t free choice room (asked program s.state t) refl in
      let i : Images (next program s.state t choice).after (next program w t choice).after =
      turn_images program s.state w s.represents t choice (unfaulted program limits w t e) in
      record {
        place = a.place;
        state = a.state;
        there = a.there;
        represents = represents_image a.state (next program s.state t choice).after (next program w t choice).after
            a.represents i;
      }

  among : (w : World) → ComesTo program limits no_room (opening_world program) w → IsAmong states w
  among w begins = closed.opening
  among w (turns v t choice c room e) = turn_among v (among v c) t choice room e

  pub every_run : HasEveryRun program limits no_room states
  every_run pairs room = among (uncounted (ideal_after program limits pairs))
      (pairs_come program limits no_room (opening_world program) (opening_world program) begins pairs room)

  pub every_machine : HasEveryMachine program limits no_room states
  every_machine shape actors room = subst (λ (m : Machine). IsAmong states (uncounted m.world))
      (sym (machine_after-is program shape limits actors))
      (among _ (actors_come program limits no_room (opening_world program) shape (opening_machine program shape) begins
      actors room))

  journal_among : (v : Recorded) → v.program ≡ program → v.journal.limits ≡ limits
      → (no_room ≡ false → RowsFindRoom program v.journal.shape limits (opening_machine program v.journal.shape)
      v.journal.rows)
      → IsAmong states (uncounted (machine_of v).world)
  unfolding machine_of
  journal_among v p l room = rw (p, l) (among _ (rows_come program limits no_room (opening_world program) v.journal.shape
      (opening_machine program v.journal.shape) begins v.journal.rows room))

  pub every_journal : HasEveryJournal program limits no_room states
  every_journal v p l room = journal_among v p l room

pub closed_has_all : ClosedHasAll
closed_has_all program limits no_room states closed = (
  every_run program limits no_room states closed,
  every_machine program limits no_room states closed,
  every_journal program limits no_room states closed,
)
