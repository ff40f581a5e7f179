use Rattle.std.proofs.Common.{is_some, Bool, ◌≡◌, ℕ, ◌+◌, List, [], ◌∷◌, map, slice_get, nat_le, not, is_none, ◌&&◌}
use Rattle.std.proofs.Common.{if◌then◌else◌, Option, Some, None, refl, ◌∙◌, ap}
use Rattle.std.specs.Option.{option_map}
use Rattle.std.proofs.lemmas.Option.{slice_get-map}
use Rattle.model.specs.declared.journals.Limits.{Limits}
use Rattle.model.specs.declared.turns.Actor.{Actor}
use Rattle.model.specs.declared.turns.Actor.TheVariants.{Thread as ThreadActor, Collector}
use Rattle.model.specs.declared.turns.Fault.{Fault}
use Rattle.model.specs.declared.turns.Turn.TheVariants.{NotReady, OutputFull, StepLimit}
use Rattle.model.specs.ClassListings.{ClassListing}
use Rattle.model.specs.declared.colours.Cell.{Cell}
use Rattle.model.specs.Worlds.{World, Thread, lives, is_live}
use Rattle.model.specs.Worlds.Thread.{Live, Ended}
use Rattle.model.specs.Completions.{Completion, asks, waits, prints}
use Rattle.model.specs.Completions.Completion.{Goes, Prints, Creates, Throws, Raises, Denies, Faults, Waits}
use Rattle.model.specs.Table.Next.{completion, next, asked}
use Rattle.model.specs.Observers.{status_by, status_in}
use Rattle.std.specs.List.{list_any}
use Rattle.model.specs.Ready.{is_ready, numbers_from, thread_numbers, some_lives}
use Rattle.model.specs.Turns.{passes, overflows, thread_refusal, actor_refusal, refusal_after, refusal}
use Rattle.join.specs.Naming.{Naming, named_thread}
use Rattle.join.specs.OnCells.{completion_on, on_cells, ReachedInCells}
use Rattle.join.proofs.Table.Next.{completion_on_cells}

-- a turn on cells asks for what the ideal turn asks for, and is refused where that is

module _ (h : Naming) (cells : List Cell) where
  waits_named : (c : Completion) → waits (completion_on h cells c) ≡ waits c
  waits_named (Goes after writes) = refl
  waits_named (Prints after bytes) = refl
  waits_named (Creates next taken contents) = refl
  waits_named (Throws b) = refl
  waits_named (Raises exception) = refl
  waits_named (Denies states) = refl
  waits_named (Faults fault) = refl
  waits_named Waits = refl

  prints_named : (c : Completion) → prints (completion_on h cells c) ≡ prints c
  prints_named (Goes after writes) = refl
  prints_named (Prints after bytes) = refl
  prints_named (Creates next taken contents) = refl
  prints_named (Throws b) = refl
  prints_named (Raises exception) = refl
  prints_named (Denies states) = refl
  prints_named (Faults fault) = refl
  prints_named Waits = refl

  pub asks_named : (c : Completion) → asks (completion_on h cells c) ≡ asks c
  asks_named (Goes after writes) = refl
  asks_named (Prints after bytes) = refl
  asks_named (Creates next taken contents) = refl
  asks_named (Throws b) = refl
  asks_named (Raises exception) = refl
  asks_named (Denies states) = refl
  asks_named (Faults fault) = refl
  asks_named Waits = refl

  lives_named : (o : Option Thread) → lives (option_map (named_thread h) o) ≡ lives o
  lives_named None = refl
  lives_named (Some (Live frames)) = refl
  lives_named (Some (Ended by)) = refl

  module _ (program : List ClassListing) (limits : Limits) (w : World) (u : ReachedInCells h cells w) where
    abbrev on : World
    on = on_cells h cells w

    pub ready_on_cells : (t : ℕ) → is_ready program on t ≡ is_ready program w t
    ready_on_cells t =
        ap (λ live. is_none w.fault && live && not (waits (completion program on t)))
        (ap lives (slice_get-map (named_thread h) w.threads t) ∙ lives_named (slice_get w.threads t))
        ∙ ap (λ b. is_none w.fault && is_live w t && not b) (ap waits (completion_on_cells h cells program w u t)
        ∙ waits_named (completion program w t))

    pub overflows_on_cells : (t : ℕ) → overflows program limits on t ≡ overflows program limits w t
    overflows_on_cells t = ap (passes limits.output w.output) (ap prints (completion_on_cells h cells program w u t)
        ∙ prints_named (completion program w t))

    pub asked_on_cells : (t : ℕ) → asked program on t ≡ asked program w t
    asked_on_cells t = ap asks (completion_on_cells h cells program w u t) ∙ asks_named (completion program w t)

    live_on_cells : (t : ℕ) → is_live on t ≡ is_live w t
    live_on_cells t = ap lives (slice_get-map (named_thread h) w.threads t) ∙ lives_named (slice_get w.threads t)

    -- ---- the numbers of threads, and the status

    numbers_named : (n : ℕ) (ts : List Thread) → numbers_from n (map (named_thread h) ts) ≡ numbers_from n ts
    numbers_named n [] = refl
    numbers_named n (t ∷ ts) = ap (λ ns. n ∷ ns) (numbers_named (n + 1) ts)

    pub numbers_on_cells : thread_numbers on ≡ thread_numbers w
    numbers_on_cells = numbers_named 0 w.threads

    any_same : (f g : ℕ → Bool) → ((t : ℕ) → f t ≡ g t) → (ts : List ℕ) → list_any f ts ≡ list_any g ts
    any_same f g k [] = refl
    any_same f g k (t ∷ ts) = rw (k t, any_same f g k ts) refl

    pub status_on_cells : status_in program on ≡ status_in program w
    status_on_cells =
        ap (λ ns. status_by (is_some w.fault) (list_any (is_live on) ns) (list_any (is_ready program on) ns))
        numbers_on_cells
        ∙ ap (λ some. status_by (is_some w.fault) some (list_any (is_ready program on) (thread_numbers w)))
        (any_same (is_live on) (is_live w) live_on_cells (thread_numbers w))
        ∙ ap (status_by (is_some w.fault) (some_lives w)) (any_same (is_ready program on) (is_ready program w)
        ready_on_cells (thread_numbers w))

    -- ---- refusals

    thread_on_cells : (t : ℕ) → thread_refusal program limits on t ≡ thread_refusal program limits w t
    thread_on_cells t =
        ap (λ ready. if ready then (if overflows program limits on t then Some OutputFull else None) else Some NotReady)
        (ready_on_cells t)
        ∙ ap (λ full. if is_ready program w t then (if full then Some OutputFull else None) else Some NotReady)
        (overflows_on_cells t)

    actor_on_cells : (actor : Actor) → actor_refusal program limits on actor ≡ actor_refusal program limits w actor
    actor_on_cells (ThreadActor t) = thread_on_cells t
    actor_on_cells Collector = refl

    after_on_cells : (actor : Actor) (o : Option (Fault × ℕ)) → refusal_after program limits on actor o
        ≡ refusal_after program limits w actor o
    after_on_cells actor (Some fault) = refl
    after_on_cells actor None = ap (λ r. if nat_le limits.steps w.rows then Some StepLimit
        else r) (actor_on_cells actor)

    pub refusal_on_cells : (actor : Actor) → refusal program limits on actor ≡ refusal program limits w actor
    unfolding refusal
    refusal_on_cells actor = after_on_cells actor w.fault
