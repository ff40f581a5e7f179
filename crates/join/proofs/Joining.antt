use Rattle.std.proofs.Common.{◌≡◌, ℕ, List, Option, Some, None, refl, sym, ◌∙◌, ap, subst}
use Rattle.model.specs.declared.journals.HeapShape.{HeapShape}
use Rattle.model.specs.declared.journals.Limits.{Limits}
use Rattle.model.specs.declared.turns.Actor.{Actor}
use Rattle.model.specs.declared.turns.Actor.TheVariants.{Thread as ThreadActor, Collector}
use Rattle.model.specs.declared.turns.Turn.{Turn}
use Rattle.model.specs.ClassListings.{ClassListing}
use Rattle.model.specs.Worlds.{World, counted, next_birth}
use Rattle.model.specs.Table.Next.{completion, next, asked}
use Rattle.model.specs.Turns.{refusal, choice_of}
use Rattle.model.specs.Machines.{Machine, outcome_if, row_unless_refused}
use Rattle.model.specs.Collector.Runs.{Holds, advance_if, moved_by}
use Rattle.model.proofs.CollectorLemmas.Running.{unfaulted}
use Rattle.model.proofs.CollectorLemmas.Outcomes.{turns_by, turn_change, counted_word}
use Rattle.model.proofs.CollectorLemmas.Table.Next.{completion_moves}
use Rattle.join.specs.Naming.{Naming}
use Rattle.join.specs.OnCells.{completion_on, on_cells, ReachedInCells}
use Rattle.join.specs.TurnsOnCells.{CellMachine, turned_on, counted_on, unless_refused_on, moved_on}
use Rattle.join.specs.Joined.{Joined, Joint, named_account, Bounded}
use Rattle.join.proofs.Reached.{reached_in_cells}
use Rattle.join.proofs.NewBirths.{bounded_after}
use Rattle.join.proofs.Collecting.{collected_on_cells}
use Rattle.join.proofs.Turns.{turned_joint}
use Rattle.join.proofs.Choices.{counted_in, ideal_turned, turn_is}
use Rattle.join.proofs.Table.Next.{completion_on_cells}
use Rattle.join.proofs.Refusals.{refusal_on_cells}

-- each turn of an actor keeps the join

joined_counted : (h : Naming) (x : CellMachine) (m : Machine) → Joined h x m → Joined h (counted_on x) (counted_in m)
joined_counted h x m j = record {
  world = ap counted j.world;
  account = j.account;
  births = j.births;
  named = j.named;
  memory_error = j.memory_error;
  stack_error = j.stack_error;
}

module _ (program : List ClassListing) (shape : HeapShape) (limits : Limits) (on : CellMachine) (m : Machine)
    (i : Holds shape m) (bound : Bounded m.world) (joint : Joint on m) where
  pub reached_joined : ReachedInCells joint.naming m.account.cells m.world
  unfolding Holds
  reached_joined = reached_in_cells joint.naming shape m.world m.account joint.joined.named i joint.joined.memory_error
      joint.joined.stack_error

  pub turned : (t : ℕ) → refusal program limits m.world (ThreadActor t) ≡ None
      → Joint (turned_on program on t (completion program on.world t))
      (ideal_turned program m t (completion program m.world t))
  unfolding Holds
  turned t e =
      let j = joint.joined in
      let c = completion program m.world t in
      let same : turned_on program on t (completion program on.world t)
      ≡ turned_on program (record {
        world = on_cells joint.naming m.account.cells m.world;
        account = named_account joint.naming m.account;
        births = next_birth m.world;
      }) t
      (completion_on joint.naming m.account.cells c) =
      rw (
        j.world,
        j.account,
        j.births,
        completion_on_cells joint.naming m.account.cells program m.world reached_joined
            t,
      ) refl in
      subst (λ x. Joint x (ideal_turned program m t c)) (sym same)
      (turned_joint joint.naming shape m i j.named j.memory_error j.stack_error bound
      (unfaulted program limits m.world t e) program t c (completion_moves program m.world t))

  moved : (actor : Actor) (o : Option Turn) → refusal program limits m.world actor ≡ o
      → Joint (unless_refused_on program shape on actor o) (moved_by program shape limits m actor)
  unfolding Holds moved_by
  moved actor (Some refused) e = rw e joint
  moved (ThreadActor t) None e =
      let r = turned t e in
      subst (Joint _) (sym (turn_is program shape limits m t i.tidy e)) (record {
        naming = r.naming;
        joined = joined_counted r.naming _ _ r.joined;
      })
  moved Collector None e = rw (
    e,
    e,
  ) (record {
    naming = joint.naming;
    joined = joined_counted joint.naming _ _ (collected_on_cells joint.naming shape on m i joint.joined);
  })

  pub joined_moves : (actor : Actor)
      → Joint (moved_on program shape limits on actor) (moved_by program shape limits m actor)
  unfolding moved_on
  joined_moves actor =
      let same : refusal program limits on.world actor
      ≡ refusal program limits m.world actor = ap (λ w. refusal program limits w actor) joint.joined.world
      ∙ refusal_on_cells joint.naming m.account.cells program limits m.world reached_joined actor in
      subst (λ o. Joint (unless_refused_on program shape on actor o) (moved_by program shape limits m actor)) (sym same)
      (moved actor (refusal program limits m.world actor) refl)

  -- ---- every word goes on to lead to a birth that was made

  counted_bounded : (w : World) → Bounded w → Bounded (counted w)
  counted_bounded w b x k y e = b x k y (counted_word w x k y e)

  bounded_moves : (actor : Actor) (o : Option Turn) → refusal program limits m.world actor ≡ o
      → Bounded (advance_if program shape limits m (row_unless_refused program m actor 0 o)).world
  unfolding Holds
  bounded_moves actor (Some refused) e = bound
  bounded_moves (ThreadActor t) None e =
      let words = asked program m.world t in
      let outcome = outcome_if program m t words in
      let al = (turns_by program m t words (unfaulted program limits m.world t e) refl).allowed in
      let b : Bounded (next program m.world t (choice_of program m.world t outcome)).after = bounded_after joint.naming
      shape m.world m.account joint.joined.named i (turn_change program m.world t words outcome) bound al in
      rw e (counted_bounded (next program m.world t (choice_of program m.world t outcome)).after b)
  bounded_moves Collector None e = rw e (counted_bounded m.world bound)

  pub bounded_moved : (actor : Actor) → Bounded (moved_by program shape limits m actor).world
  unfolding moved_by
  bounded_moved actor = bounded_moves actor (refusal program limits m.world actor) refl

pub turn_joins : (program : List ClassListing) (shape : HeapShape) (limits : Limits) (on : CellMachine) (m : Machine)
    (actor : Actor) → Holds shape m → Bounded m.world → Joint on m
    → Joint (moved_on program shape limits on actor) (moved_by program shape limits m actor)
turn_joins program shape limits on m actor i b j = joined_moves program shape limits on m i b j actor

pub turn_bounds : (program : List ClassListing) (shape : HeapShape) (limits : Limits) (on : CellMachine) (m : Machine)
    (actor : Actor) → Holds shape m → Bounded m.world → Joint on m
    → Bounded (moved_by program shape limits m actor).world
turn_bounds program shape limits on m actor i b j = bounded_moved program shape limits on m i b j actor
