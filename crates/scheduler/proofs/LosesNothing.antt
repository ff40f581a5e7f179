-- The invariant of a world gives what no turn breaks, now and at every moment of its run.
use Rattle.std.proofs.Common.{◌≡◌, ◌≢◌, ◌+◌, ℕ, zero, suc, List, [], ◌∷◌, ◌++◌, take, drop}
use Rattle.std.proofs.Common.{Bool, true, false, Option, Some, None, is_some, true≢false, refl, ap, sym, subst, ◌∙◌}
use Rattle.std.proofs.Common.{arith}
use Rattle.std.specs.Prelude.{slice_get}
use Rattle.model.specs.declared.journals.HeapShape.{HeapShape}
use Rattle.model.specs.declared.journals.Limits.{Limits}
use Rattle.model.specs.declared.journals.Outcome.{Outcome}
use Rattle.model.specs.declared.journals.Outcome.TheVariants.{Done, Object, NoRoom, Fault}
use Rattle.model.specs.declared.journals.Row.{Row}
use Rattle.model.specs.declared.turns.Actor.{Actor}
use Rattle.model.specs.declared.turns.Actor.TheVariants.{Thread, Collector}
use Rattle.model.specs.declared.turns.Turn.{Turn}
use Rattle.model.specs.Accounts.{has_room}
use Rattle.model.specs.ClassListings.{ClassListing}
use Rattle.model.specs.Collector.Invariant.{Tidy}
use Rattle.model.specs.Collector.Runs.{Holds, advance_if, moved_by, moved_by_all}
use Rattle.model.specs.Collector.Table.{cell_at}
use Rattle.model.specs.Effects.Choice.{NewObject, NoRoom as NoneHasRoom}
use Rattle.model.specs.Journals.{JournalValue}
use Rattle.model.specs.Machines.{Machine, Recorded, advance, advance_all, after_turn_by, machine_of}
use Rattle.model.specs.Machines.{noted, opening_machine, outcome_asked, outcome_by, outcome_if, row_by}
use Rattle.model.specs.Machines.{row_for, row_unless_refused}
use Rattle.model.specs.Limits.{ShapeFits}
use Rattle.model.specs.Room.{Room}
use Rattle.model.specs.Table.Next.{asked, next}
use Rattle.model.specs.Turns.{is_fault, refusal}
use Rattle.model.specs.Worlds.{next_birth}
use Rattle.model.proofs.CollectorLemmas.FindingRoom.{chooses_by_room}
use Rattle.model.proofs.CollectorLemmas.Holding.{keeps_reachable}
use Rattle.model.proofs.CollectorLemmas.Reclaiming.{reclaims_in_two}
use Rattle.model.proofs.CollectorLemmas.Rooms.{room_is_listed}
use Rattle.model.proofs.CollectorLemmas.Running.{machine_of-turns, opening_holds, recorded_keeps}
use Rattle.model.proofs.CollectorLemmas.Tracing.{three_colours}
use Rattle.instructions.specs.Loaded.{Loaded}
use Rattle.join.specs.Joined.{Bounded, Joint}
use Rattle.join.specs.TurnsOnCells.{CellMachine, moved_on}
use Rattle.join.proofs.Opening.{opening_bounded, opening_joins}
use Rattle.join.proofs.Runs.{turn_is_shown}
use Rattle.scheduler.specs.LosesNothing.{HeldThroughout, LosesNothing, Reclaims, TellsRoom, ToldBy}
use Rattle.scheduler.specs.OnCells.{actors_of, cells_of}
use Rattle.scheduler.specs.Replaying.{AreMade, IsMade, front, with_all}
use Rattle.scheduler.specs.Worlds.{IsOf, recorded}
use Rattle.scheduler.proofs.CellsMoved.{cells_next}
use Rattle.scheduler.proofs.CellsShown.{cells_shown, cells_told}
use Rattle.scheduler.proofs.Making.{made_at, turn_notes}

-- ---- one moment

-- the machine on cells is joined to a machine that meets the invariant
pub record Stands (v : Recorded) : Type 0 where
  pub holds : Holds v.journal.shape (machine_of v)
  pub joint : Joint (cells_of v) (machine_of v)
  pub bounded : Bounded (machine_of v).world

-- a state's machine is that of its journal
pub state_stands : (s : Loaded) (j : JournalValue) (k : ℕ) → IsOf s j k → Stands (recorded s j)
state_stands s j k is = record {
  holds = is.holds;
  joint = subst (λ (x : CellMachine). Joint x (machine_of (recorded s j))) is.cells_are is.joint;
  bounded = is.bounded;
}

reclaims : (v : Recorded) → Holds v.journal.shape (machine_of v) → Reclaims v
reclaims v holds later b c x phase lost two held =
    reclaims_in_two v.program v.journal.shape v.journal.limits (machine_of v) later holds b c x phase lost two
    (ap (λ (m : Machine). cell_at m.account.cells c) (sym (machine_of-turns v later)) ∙ held)

pub nothing_lost : (v : Recorded) → Stands v → LosesNothing v
unfolding Holds
nothing_lost v stands =
    let m = machine_of v in
    let n = next_birth m.world in
    let holds = stands.holds in
    record {
      kept = keeps_reachable v.journal.shape m.world n m.account holds;
      coloured = three_colours v.journal.shape m.world n m.account holds;
      tidy = holds.tidy;
      room = λ words. room_is_listed v.journal.shape n m.account words holds.tidy;
      chosen = λ t e. chooses_by_room v.program v.journal.shape v.journal.limits n m t holds.tidy e;
      reclaimed = reclaims v holds;
      shown = cells_shown (cells_of v) m v.journal.shape stands.joint holds;
      told = cells_told (cells_of v) m v.journal.shape stands.joint holds;
    }

-- ---- what a row tells of room

other : (a b : Outcome) → a ≢ b → (P : Type 0) → a ≡ b → P
other a b differ P e = absurd (differ e)

module _ (v : Recorded) (t : ℕ) (tidy : Tidy v.journal.shape (next_birth (machine_of v).world) (machine_of v).account)
  where
    abbrev m : Machine
    m = machine_of v

    -- a fault tells nothing of room
    at_fault : TellsRoom v t Fault
    at_fault = record {
      none = (λ e. absurd (cc), λ p. absurd (p.0 refl));
      some = (λ e. absurd (cc), λ p. absurd (p.0 refl));
      unasked = (λ e. absurd (cc), λ p. absurd (p.0 refl));
    }

    told_unasked : asked v.program m.world t ≡ None → (fault : Bool) → TellsRoom v t (outcome_by fault Done)
    told_unasked is true = at_fault
    told_unasked is false = record {
      none = (λ e. absurd (cc), λ p. (let asks = p.1.asks in absurd (cc)));
      some = (λ e. absurd (cc), λ p. (let asks = p.1.asks in absurd (cc)));
      unasked = (λ e. (λ f. cc, is), λ p. refl);
    }

    told_asked : (words : ℕ) → asked v.program m.world t ≡ Some words → (has : Bool) → has_room m.account words ≡ has
        → TellsRoom v t (outcome_asked v.program m.world t has)
    told_asked words is true has = by (is_fault (next v.program m.world t NewObject).after)
      where
        by : (fault : Bool) → TellsRoom v t (outcome_by fault Object)
        by true = at_fault
        by false = record {
          none = (
            λ e. absurd (cc),
            λ p. (let asks = p.1.asks in let same : p.1.words ≡ words = cc in
                absurd (p.1.none (rw same ((room_is_listed v.journal.shape (next_birth m.world) m.account words tidy).1
                has)))),
          );
          some = (
            λ e. (
              λ f. cc,
              record {
                words = words;
                asks = is;
                some = (room_is_listed v.journal.shape (next_birth m.world) m.account words tidy).1 has;
              },
            ),
            λ p. refl,
          );
          unasked = (λ e. absurd (cc), λ p. (let asks = p.1 in absurd (cc)));
        }
    told_asked words is false has = by (is_fault (next v.program m.world t NoneHasRoom).after)
      where
        lacks : Room v.journal.shape m.account words → ⊥
        lacks r = let y = (room_is_listed v.journal.shape (next_birth m.world) m.account words tidy).0 r in absurd (cc)

        by : (fault : Bool) → TellsRoom v t (outcome_by fault NoRoom)
        by true = at_fault
        by false = record {
          none = (λ e. (λ f. cc, record { words = words; asks = is; none = lacks }), λ p. refl);
          some = (
            λ e. absurd (cc),
            λ p. (let asks = p.1.asks in let same : p.1.words ≡ words = cc in
                absurd (lacks (subst (λ n. Room v.journal.shape m.account n) same p.1.some))),
          );
          unasked = (λ e. absurd (cc), λ p. (let asks = p.1 in absurd (cc)));
        }

    told_if : (words : Option ℕ) → asked v.program m.world t ≡ words → TellsRoom v t (outcome_if v.program m t words)
    told_if None is = told_unasked is (is_fault (next v.program m.world t NewObject).after)
    told_if (Some words) is = told_asked words is (has_room m.account words) refl

abbrev outcome_or : Outcome → Option Row → Outcome
outcome_or outcome None = outcome
outcome_or outcome (Some row) = row.outcome

-- of a row that its turn made
told_by : (v : Recorded) (row : Row) (actor : Actor) (refused : Option Turn) → Holds v.journal.shape (machine_of v)
    → row_unless_refused v.program (machine_of v) actor row.worker refused ≡ Some row → ToldBy v actor row.outcome
unfolding Holds
told_by v row actor (Some answer) holds e = absurd (true≢false (sym (ap is_some e)))
told_by v row Collector None holds e = sym (ap (outcome_or Done) e)
told_by v row (Thread t) None holds e = subst (TellsRoom v t) (ap (outcome_or Done) e)
    (told_if v t holds.tidy (asked v.program (machine_of v).world t) refl)

-- ---- from row to row

module _ (program : List ClassListing) (shape : HeapShape) (limits : Limits) where
  any_worker : (m : Machine) (actor : Actor) (worker : ℕ) (refused : Option Turn)
      → advance_if program shape limits m (row_unless_refused program m actor 0 refused)
      ≡ advance_if program shape limits m (row_unless_refused program m actor worker refused)
  any_worker m actor worker None = refl
  any_worker m actor worker (Some answer) = refl

  -- the actor's turn leads where its row does
  moved_made : (m : Machine) (row : Row) → row_by program limits m row.actor row.worker ≡ Some row
      → moved_by program shape limits m row.actor ≡ advance program shape limits m row
  unfolding moved_by
  moved_made m row e =
      any_worker m row.actor row.worker (refusal program limits m.world row.actor)
      ∙ ap (advance_if program shape limits m) e

  moved_all : (m : Machine) (rows : List Row) → AreMade program shape limits m rows
      → moved_by_all program shape limits m (actors_of rows) ≡ advance_all program shape limits m rows
  moved_all m [] are = refl
  moved_all m (row ∷ rows) are =
      ap (λ (next : Machine). moved_by_all program shape limits next (actors_of rows)) (moved_made m row are.0)
      ∙ moved_all (advance program shape limits m row) rows are.1

  made_from : (m : Machine) (rows : List Row) (n : ℕ) → AreMade program shape limits m rows
      → AreMade program shape limits (advance_all program shape limits m (take n rows)) (drop n rows)
  made_from m [] zero are = are
  made_from m [] (suc n) are = are
  made_from m (row ∷ rows) zero are = are
  made_from m (row ∷ rows) (suc n) are = made_from (advance program shape limits m row) rows n are.1

  leads_on : (m : Machine) (rows : List Row) (n : ℕ)
      → advance_all program shape limits (advance_all program shape limits m (take n rows)) (drop n rows)
      ≡ advance_all program shape limits m rows
  leads_on m [] zero = refl
  leads_on m [] (suc n) = refl
  leads_on m (row ∷ rows) zero = refl
  leads_on m (row ∷ rows) (suc n) = leads_on (advance program shape limits m row) rows n

next_taken : (rows : List Row) (n : ℕ) (row : Row) → slice_get rows n ≡ Some row
    → take n rows ++ row ∷ [] ≡ take (suc n) rows
next_taken [] n row e = absurd (true≢false (sym (ap is_some e)))
next_taken (r ∷ rows) zero row e = let same : r ≡ row = cc in rw same refl
next_taken (r ∷ rows) (suc n) row e = ap (λ (rest : List Row). r ∷ rest) (next_taken rows n row e)

all_taken : (rows : List Row) (n : ℕ) → slice_get rows n ≡ None → take n rows ≡ take (suc n) rows
all_taken [] zero e = refl
all_taken [] (suc n) e = refl
all_taken (r ∷ rows) zero e = absurd (true≢false (ap is_some e))
all_taken (r ∷ rows) (suc n) e = ap (λ (rest : List Row). r ∷ rest) (all_taken rows n e)

-- ---- the joined machines

pub stands_opened : (v : Recorded) → ShapeFits v.journal.shape.small v.journal.shape.medium v.journal.shape.large
    → Stands (with_all v [])
unfolding machine_of cells_of
stands_opened v fits = record {
  holds = opening_holds v.program v.journal.shape fits.0;
  joint = opening_joins v.program v.journal.shape fits;
  bounded = opening_bounded v.program;
}

pub stands_next : (v : Recorded) (row : Row) → Stands v → row_for v row.actor row.worker ≡ Some row
    → Stands (noted v row)
stands_next v row stands made =
    let shown = turn_is_shown v (cells_of v) row.actor row.worker stands.holds stands.bounded stands.joint in
    let after : after_turn_by v row.actor row.worker ≡ noted v row = turn_notes v row made in
    record {
      holds =
          subst (λ (u : Recorded). Holds v.journal.shape (machine_of u)) after
          (recorded_keeps v row.actor row.worker stands.holds);
      joint =
          subst (λ (x : CellMachine). Joint x (machine_of (noted v row))) (sym (cells_next v row))
          (subst
          (λ (u : Recorded).
          Joint (moved_on v.program v.journal.shape v.journal.limits (cells_of v) row.actor) (machine_of u))
          after shown.joint);
      bounded = subst (λ (u : Recorded). Bounded (machine_of u).world) after shown.bounded;
    }

-- ---- every moment

module _ (v : Recorded) (fits : ShapeFits v.journal.shape.small v.journal.shape.medium v.journal.shape.large)
    (is : IsMade v) where
  abbrev opening : Machine
  opening = opening_machine v.program v.journal.shape

  row_then : (n : ℕ) (row : Row) → slice_get v.journal.rows n ≡ Some row
      → row_for (front v n) row.actor row.worker ≡ Some row
  unfolding machine_of
  row_then n row e = made_at v.program v.journal.shape v.journal.limits opening v.journal.rows n row is.rows e

  noted_then : (n : ℕ) (row : Row) → slice_get v.journal.rows n ≡ Some row → noted (front v n) row ≡ front v (suc n)
  noted_then n row e = ap (with_all v) (next_taken v.journal.rows n row e)

  stands_after : (n : ℕ) (next : Option Row) → slice_get v.journal.rows n ≡ next → Stands (front v n)
      → Stands (front v (suc n))
  stands_after n None e stands =
      subst (λ (rows : List Row). Stands (with_all v rows)) (all_taken v.journal.rows n e) stands
  stands_after n (Some row) e stands =
      subst Stands (noted_then n row e) (stands_next (front v n) row stands (row_then n row e))

  stands_then : (n : ℕ) → Stands (front v n)
  stands_then zero = stands_opened v fits
  stands_then (suc n) = stands_after n (slice_get v.journal.rows n) refl (stands_then n)

  leads_then : (n : ℕ)
      → advance_all v.program v.journal.shape v.journal.limits (machine_of (front v n)) (drop n v.journal.rows)
      ≡ machine_of v
  unfolding machine_of
  leads_then n = leads_on v.program v.journal.shape v.journal.limits opening v.journal.rows n

  made_then : (n : ℕ)
      → AreMade v.program v.journal.shape v.journal.limits (machine_of (front v n)) (drop n v.journal.rows)
  unfolding machine_of
  made_then n = made_from v.program v.journal.shape v.journal.limits opening v.journal.rows n is.rows

  pub held_throughout : HeldThroughout v
  held_throughout = record {
    moment = λ n. nothing_lost (front v n) (stands_then n);
    turn = λ n row e. (let one : suc n ≡ n + 1 = omega arith in
        turn_notes (front v n) row (row_then n row e) ∙ noted_then n row e ∙ ap (λ (k : ℕ). front v k) one);
    leads = leads_then;
    told = λ n row e.
        told_by (front v n) row row.actor (refusal v.program v.journal.limits (machine_of (front v n)).world row.actor)
        (stands_then n).holds (row_then n row e);
    reclaimed = λ n b c x phase lost two held.
        reclaims_in_two v.program v.journal.shape v.journal.limits (machine_of (front v n))
        (actors_of (drop n v.journal.rows)) (stands_then n).holds b c x phase lost two
        (ap (λ (m : Machine). cell_at m.account.cells c)
        (moved_all v.program v.journal.shape v.journal.limits (machine_of (front v n)) (drop n v.journal.rows)
        (made_then n) ∙ leads_then n) ∙ held);
  }
