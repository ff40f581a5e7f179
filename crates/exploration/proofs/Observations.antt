use Rattle.std.proofs.Common.{◌≡◌, ℕ, List, [], ◌∷◌, map, is_some, Bool, refl, ◌∙◌, ap}
use Rattle.std.specs.List.{list_any}
use Rattle.model.specs.declared.journals.Limits.{Limits}
use Rattle.model.specs.ClassListings.{ClassListing}
use Rattle.model.specs.Worlds.{World, Thread}
use Rattle.model.specs.Worlds.Thread.{Live, Ended}
use Rattle.exploration.specs.declared.ends.End.TheVariants.{Lives, Ended as HasEnded}
use Rattle.model.specs.Observers.{status_in, status_by}
use Rattle.model.specs.Ready.{is_ready, thread_numbers, some_lives}
use Rattle.model.specs.Collector.Runs.{machine_after}
use Rattle.join.specs.Naming.{Naming, named_thread}
use Rattle.join.proofs.Refusals.{status_on_cells}
use Rattle.exploration.specs.Representation.{Represents, uncounted}
use Rattle.exploration.specs.ClosedLists.{IsAmong, ideal_after}
use Rattle.exploration.specs.Observations.{end_of, observed, Observed, ShowsSame, ClosedShowsAll}
use Rattle.exploration.proofs.ClosedLists.{every_run, every_machine}
use Rattle.exploration.proofs.RowCounts.{ready_at}

-- what is observed of a world is observed of what represents it

ends_named : (h : Naming) (ts : List Thread) → map end_of (map (named_thread h) ts) ≡ map end_of ts
ends_named h [] = refl
ends_named h (Live frames ∷ ts) = ap (λ es. Lives ∷ es) (ends_named h ts)
ends_named h (Ended by ∷ ts) = ap (λ es. HasEnded by ∷ es) (ends_named h ts)

any_same : (f g : ℕ → Bool) → ((t : ℕ) → f t ≡ g t) → (ts : List ℕ) → list_any f ts ≡ list_any g ts
any_same f g k [] = refl
any_same f g k (t ∷ ts) = rw (k t, any_same f g k ts) refl

pub status_at : (program : List ClassListing) (w : World) → status_in program (uncounted w) ≡ status_in program w
status_at program w = ap (status_by (is_some w.fault) (some_lives w))
    (any_same (is_ready program (uncounted w)) (is_ready program w) (λ t. ready_at program w t) (thread_numbers w))

pub observed_same : (program : List ClassListing) (limits : Limits) (x w : World) → Represents x w → observed program x ≡ observed program w
observed_same program limits x w r =
    ap (observed program) r.is
    ∙ rw (ends_named r.naming w.threads, status_on_cells r.naming r.cells program limits w r.reached) refl

shows : (program : List ClassListing) (limits : Limits) (states : List World) (w : World) → IsAmong states (uncounted w)
    → ShowsSame program states w
shows program limits states w a = record {
  place = a.place;
  state = a.state;
  there = a.there;
  same = observed_same program limits a.state (uncounted w) a.represents
      ∙ ap (λ s. let y : Observed = record (observed program w) { status = s } in y) (status_at program w);
}

pub closed_shows_all : ClosedShowsAll
closed_shows_all program limits no_room states closed = (
  λ pairs room. shows program limits states (ideal_after program limits pairs)
      (every_run program limits no_room states closed pairs room),
  λ shape actors room. shows program limits states (machine_after program shape limits actors).world
      (every_machine program limits no_room states closed shape actors room),
)
