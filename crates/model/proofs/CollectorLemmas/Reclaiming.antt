use Rattle.std.proofs.Common.{◌≡◌, ℕ, suc, ◌-◌, ◌<◌, List, [], ◌∷◌, Option, Some, None, refl, arith}
use Rattle.model.specs.declared.colours.Colour.{Colour}
use Rattle.model.specs.declared.colours.Phase.{Phase}
use Rattle.model.specs.declared.colours.Phase.TheVariants.{Idle, Statics, Frames, Mark, Append}
use Rattle.model.specs.declared.journals.HeapShape.{HeapShape}
use Rattle.model.specs.declared.journals.Limits.{Limits}
use Rattle.model.specs.declared.turns.Actor.{Actor}
use Rattle.model.specs.declared.turns.Actor.TheVariants.{Thread, Collector}
use Rattle.model.specs.declared.turns.Turn.{Turn}
use Rattle.model.specs.ClassListings.{ClassListing}
use Rattle.model.specs.declared.colours.Cell.TheVariants.{Taken}
use Rattle.model.specs.Worlds.{World, next_birth, counted}
use Rattle.model.specs.Turns.{refusal, choice_of}
use Rattle.model.specs.Table.Next.{next, asked}
use Rattle.model.specs.Machines.{Machine, outcome_of, row_unless_refused}
use Rattle.model.specs.Collector.Places.Reach.{at_root, by_word}
use Rattle.model.specs.Collector.Table.{cell_at}
use Rattle.model.specs.Collector.Invariant.{Invariant}
use Rattle.model.specs.Collector.Changes.{changed}
use Rattle.model.specs.Collector.Runs.{advance_if, moved_by, moved_by_all, machine_after, Holds}
use Rattle.model.specs.Collector.Reclaim.{ended_if, ended, IsAppend, Lost, ReclaimsInTwo, AlwaysReclaims}
use Rattle.model.proofs.CollectorLemmas.Bounds.{words_made}
use Rattle.model.proofs.CollectorLemmas.Outcomes.{after_is, counted_root, counted_word, turn_change, Turns, turns_by}
use Rattle.model.proofs.CollectorLemmas.Running.{unfaulted, moved_keeps, machine_holds}
use Rattle.model.proofs.CollectorLemmas.Fading.{May, Fades, Apart, collected_fades}
use Rattle.model.proofs.CollectorLemmas.FadingTurns.{changed_fades, apart_after, more_births}

-- what no path reaches has no cell once two cycles have ended

record Fading (L : ℕ → Type 0) (s : ℕ) (m : Machine) : Type 0 where
  apart : Apart L m.world
  fades : Fades L s m.account.phase m.account.cells
  old : (x : ℕ) → L x → x < next_birth m.world

counted_apart : (L : ℕ → Type 0) (w : World) → Apart L w → Apart L (counted w)
counted_apart L w h = record {
  roots = λ p b e l. h.roots p b (counted_root w p b e) l;
  words = λ x k b e l. h.words x k b (counted_word w x k b e) l;
}

-- a thread's turn
changed_on : (L : ℕ → Type 0) (s : ℕ) (program : List ClassListing) (shape : HeapShape) (m : Machine) (t : ℕ)
    → m.world.fault ≡ None → Invariant shape m.world (next_birth m.world) m.account → Fading L s m
    → Fading L s (record {
      world = counted (turn_change program m.world t (asked program m.world t)
          (outcome_of program m (Thread t))).after;
      account = changed m.world m.account (turn_change program m.world t (asked program m.world t)
          (outcome_of program m (Thread t)));
    })
changed_on L s program shape m t n i f =
    let c = turn_change program m.world t (asked program m.world t) (outcome_of program m (Thread t)) in
    let h : Turns program m t (asked program m.world t) (outcome_of program m (Thread t)) = turns_by program m t
    (asked program m.world t) n refl in
    record {
      apart = counted_apart L c.after (apart_after L m.world c h.allowed f.apart f.old);
      fades = changed_fades L shape s m.world m.account c h.room i.tidy h.allowed f.apart f.old f.fades;
      old = λ x l. rw h.allowed.counted (more_births L c.object (next_birth m.world) x (f.old x l));
    }

row_on : (L : ℕ → Type 0) (s : ℕ) (program : List ClassListing) (shape : HeapShape) (limits : Limits) (m : Machine)
    (actor : Actor) (o : Option Turn) → refusal program limits m.world actor ≡ o → Holds shape m → Fading L s m
    → Fading L (ended_if s m actor o) (advance_if program shape limits m (row_unless_refused program m actor 0 o))
unfolding Holds
row_on L s program shape limits m actor (Some refused) e i f = f
row_on L s program shape limits m (Thread t) None e i f =
    rw (
      e,
      after_is m.world m.account (outcome_of program m (Thread t)) (asked program m.world t)
          (next program m.world t (choice_of program m.world t (outcome_of program m (Thread t)))).after
          (next program m.world t (choice_of program m.world t (outcome_of program m (Thread t)))).writes,
    )
    (changed_on L s program shape m t (unfaulted program limits m.world t e) i f)
row_on L s program shape limits m Collector None e i f = rw e (record {
  apart = counted_apart L m.world f.apart;
  fades = collected_fades L shape s (next_birth m.world) m.world m.account i.tidy f.apart f.fades;
  old = f.old;
})

fading_on : (L : ℕ → Type 0) (s : ℕ) (program : List ClassListing) (shape : HeapShape) (limits : Limits) (m : Machine)
    (actor : Actor) → Holds shape m → Fading L s m
    → Fading L (ended_if s m actor (refusal program limits m.world actor)) (moved_by program shape limits m actor)
unfolding moved_by
fading_on L s program shape limits m actor i f = row_on L s program shape limits m actor
    (refusal program limits m.world actor) refl i f

fading_all : (L : ℕ → Type 0) (program : List ClassListing) (shape : HeapShape) (limits : Limits) (actors : List Actor)
    (s : ℕ) (m : Machine) → Holds shape m → Fading L s m
    → Fading L (ended program shape limits s m actors) (moved_by_all program shape limits m actors)
fading_all L program shape limits [] s m i f = f
fading_all L program shape limits (actor ∷ actors) s m i f =
    fading_all L program shape limits actors (ended_if s m actor (refusal program limits m.world actor))
    (moved_by program shape limits m actor) (moved_keeps program shape limits m actor i)
    (fading_on L s program shape limits m actor i f)

-- ---- from the moment at which it is lost

first_may : (phase : Phase) (c : ℕ) (x : Colour) → (IsAppend phase → ⊥) → May 0 phase c x
first_may Idle c x h = tt
first_may (Statics s) c x h = tt
first_may (Frames t d j) c x h = tt
first_may (Mark q) c x h = tt
first_may (Append p) c x h = absurd (h tt)

fading_start : (m : Machine) → (IsAppend m.account.phase → ⊥) → Fading (Lost m.world) 0 m
fading_start m h = record {
  apart = record {
    roots = λ p b e l. l.unreached (at_root p e);
    words = λ x k b e l. record { made = words_made m.world x k b e; unreached = λ r. l.unreached (by_word x k r e) };
  };
  fades = record { at = λ c b x k l. first_may m.account.phase c x h };
  old = λ x l. l.made;
}

none_left : (s : ℕ) (phase : Phase) (c : ℕ) (x : Colour) → May (suc (suc s)) phase c x → ⊥
none_left s Idle c x h = h
none_left s (Statics i) c x h = h
none_left s (Frames t d j) c x h = h
none_left s (Mark q) c x h = h
none_left s (Append p) c x h = h

gone_by : (k s : ℕ) (m : Machine) (L : ℕ → Type 0) (c b : ℕ) (x : Colour) → k ≡ suc (suc s) → Fading L k m → L b
    → cell_at m.account.cells c ≡ Taken b x → ⊥
gone_by k s m L c b x e f l h = none_left s m.account.phase c x (rw e at (f.fades.at c b x h l))

pub reclaims_in_two : (program : List ClassListing) (shape : HeapShape) (limits : Limits) (m : Machine)
    (later : List Actor) → Holds shape m → ReclaimsInTwo program shape limits m later
reclaims_in_two program shape limits m later i = λ b c x phase l e k. (
    let s = ended program shape limits 0 m later in
    let two : s ≡ suc (suc (s - 2)) = omega arith in
    gone_by s (s - 2) (moved_by_all program shape limits m later) (Lost m.world) c b x two
    (fading_all (Lost m.world) program shape limits later 0 m i (fading_start m phase)) l k)

pub always_reclaims : AlwaysReclaims
always_reclaims program shape limits first later fits = reclaims_in_two program shape limits
    (machine_after program shape limits first) later (machine_holds program shape limits first fits.0)
