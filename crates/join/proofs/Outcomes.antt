use Rattle.std.proofs.Common.{◌≡◌, ℕ, List, Bool, true, false, if◌then◌else◌, Option, Some, None, is_some, refl, ◌∙◌}
use Rattle.std.proofs.Common.{ap}
use Rattle.std.specs.Option.{option_map}
use Rattle.model.specs.declared.journals.HeapShape.{HeapShape}
use Rattle.model.specs.declared.journals.Limits.{Limits}
use Rattle.model.specs.declared.journals.Outcome.TheVariants.{Object as GotObject, NoRoom as FoundNoRoom}
use Rattle.model.specs.declared.journals.Row.{Row}
use Rattle.model.specs.declared.turns.Actor.{Actor}
use Rattle.model.specs.declared.turns.Actor.TheVariants.{Thread, Collector}
use Rattle.model.specs.declared.turns.Fault.{Fault}
use Rattle.model.specs.declared.turns.Turn.{Turn}
use Rattle.model.specs.ClassListings.{ClassListing}
use Rattle.model.specs.Accounts.{Account, take_cell, has_room}
use Rattle.model.specs.Worlds.{next_birth}
use Rattle.model.specs.Results.{Effect}
use Rattle.model.specs.Turns.{refusal, is_fault}
use Rattle.model.specs.Table.Next.{next, asked}
use Rattle.model.specs.Machines.{Machine, outcome_by, outcome_asked, outcome_if, outcome_of, row_unless_refused, row_by}
use Rattle.model.specs.Collector.Moves.{object_of}
use Rattle.model.specs.Collector.Runs.{Holds}
use Rattle.join.specs.Joined.{named_account, Joint, Bounded}
use Rattle.join.specs.Naming.{Naming}
use Rattle.join.specs.TurnsOnCells.{CellMachine, faults_on, outcome_if_on, outcome_on, row_if_on, row_on}
use Rattle.join.proofs.Refusals.{asked_on_cells, refusal_on_cells}
use Rattle.join.proofs.Joining.{turned, reached_joined}
use Rattle.join.proofs.Choices.{by_room, chosen, ideal_unless, ideal_turned}
use Rattle.join.proofs.Taking.{named_taken, take_on_cells}

-- the row of a turn, read off the cells: it faults where the ideal turn does, and free cells are the same on both sides

ideal_world : (a : Account) (birth : ℕ) (object : Option ℕ) (e : Effect) (o : Option (Fault × ℕ))
    → (ideal_unless a birth object e o).world ≡ e.after
ideal_world a birth object e None = refl
ideal_world a birth object e (Some fault) = refl

room_named : (h : Naming) (a : Account) (words : ℕ) → has_room (named_account h a) words ≡ has_room a words
room_named h a words = ap is_some (take_on_cells h a words) ∙ go (take_cell a words)
  where
    go : (o : Option (ℕ × Account)) → is_some (option_map (named_taken h) o) ≡ is_some o
    go None = refl
    go (Some cell) = refl

module _ (program : List ClassListing) (shape : HeapShape) (limits : Limits) (on : CellMachine) (m : Machine)
    (i : Holds shape m) (bound : Bounded m.world) (joint : Joint on m) where
  -- it faults where the ideal turn faults
  faults_same : (t : ℕ) → refusal program limits m.world (Thread t) ≡ None → faults_on program on t
      ≡ is_fault (next program m.world t (chosen m.account (asked program m.world t))).after
  unfolding ideal_turned next
  faults_same t e =
      let r = turned program shape limits on m i bound joint t e in
      let words = asked program m.world t in
      let choice = chosen m.account words in
      let e = next program m.world t choice in
      ap is_fault r.joined.world ∙ ap is_fault (ideal_world m.account (next_birth m.world) (object_of choice words) e
      e.after.fault)

  room_same : (words : ℕ) → has_room on.account words ≡ has_room m.account words
  room_same words = ap (λ x. has_room x words) joint.joined.account ∙ room_named joint.naming m.account words

  if_same : (words : Option ℕ) → outcome_if_on on.account words ≡ outcome_if_on m.account words
  if_same None = refl
  if_same (Some words) = ap (λ (room : Bool). if room then GotObject else FoundNoRoom) (room_same words)

  ideal_if : (t : ℕ) (words : Option ℕ) → outcome_by (is_fault (next program m.world t (chosen m.account words)).after)
      (outcome_if_on m.account words) ≡ outcome_if program m t words
  ideal_if t None = refl
  ideal_if t (Some words) = go (has_room m.account words)
    where
      go : (room : Bool) → outcome_by (is_fault (next program m.world t (by_room room)).after) (if room then GotObject
          else FoundNoRoom) ≡ outcome_asked program m.world t room
      go true = refl
      go false = refl

  thread_outcome : (t : ℕ) → refusal program limits m.world (Thread t) ≡ None → outcome_on program on (Thread t)
      ≡ outcome_of program m (Thread t)
  thread_outcome t e =
      let same : asked program on.world t ≡ asked program m.world t = ap (λ w. asked program w t) joint.joined.world
      ∙ asked_on_cells joint.naming m.account.cells program limits m.world
      (reached_joined program shape limits on m i bound joint) t in
      ap (λ (fault : Bool). outcome_by fault (outcome_if_on on.account (asked program on.world t))) (faults_same t e)
      ∙ ap (λ words. outcome_by (is_fault (next program m.world t (chosen m.account (asked program m.world t))).after)
      (outcome_if_on on.account words)) same
      ∙ ap (outcome_by (is_fault (next program m.world t (chosen m.account (asked program m.world t))).after))
      (if_same (asked program m.world t))
      ∙ ideal_if t (asked program m.world t)

  outcome_same : (actor : Actor) → refusal program limits m.world actor ≡ None → outcome_on program on actor
      ≡ outcome_of program m actor
  outcome_same (Thread t) e = thread_outcome t e
  outcome_same Collector e = refl

  row_same : (actor : Actor) (worker : ℕ) (o : Option Turn) → refusal program limits m.world actor ≡ o
      → row_if_on program on actor worker o ≡ row_unless_refused program m actor worker o
  row_same actor worker (Some refused) e = refl
  row_same actor worker None e = ap (λ outcome. let row : Row = record {
    actor = actor;
    outcome = outcome;
    worker = worker;
  } in Some row) (outcome_same actor e)

  pub rows_on_cells : (actor : Actor) (worker : ℕ) → row_on program limits on actor worker
      ≡ row_by program limits m actor worker
  rows_on_cells actor worker =
      let same : refusal program limits on.world actor
      ≡ refusal program limits m.world actor = ap (λ w. refusal program limits w actor) joint.joined.world
      ∙ refusal_on_cells joint.naming m.account.cells program limits m.world
      (reached_joined program shape limits on m i bound joint) actor in
      ap (row_if_on program on actor worker) same ∙ row_same actor worker (refusal program limits m.world actor) refl
