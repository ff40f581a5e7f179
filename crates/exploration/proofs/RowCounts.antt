use Rattle.std.proofs.Common.{◌≡◌, ℕ, List, [], ◌∷◌, ◌++◌, length, set, slice_get, refl, ◌∙◌, ap}
use Rattle.model.specs.declared.journals.Limits.{Limits}
use Rattle.model.specs.ClassListings.{ClassListing}
use Rattle.model.specs.Worlds.{World, Thread, lives}
use Rattle.model.specs.Effects.{Choice}
use Rattle.model.specs.Ready.{is_ready}
use Rattle.model.specs.Table.Next.{next}
use Rattle.model.specs.Turns.{thread_refusal}
use Rattle.exploration.specs.Representation.{uncounted}
use Rattle.exploration.proofs.Independence.{with_threads, next_near, refused_near, ready_near}

-- a turn of a world with no count of rows is refused where that of the world is, and leaves the same but the count: the
-- case of Near in which the threads are the same

abbrev Same : List Thread → List Thread → Type 0
Same ts us = us ≡ ts

same_length : (ts us : List Thread) → Same ts us → length us ≡ length ts
same_length ts us e = ap length e

same_lives : (ts us : List Thread) → Same ts us → (v : ℕ) → lives (slice_get us v) ≡ lives (slice_get ts v)
same_lives ts us e v = ap (λ (xs : List Thread). lives (slice_get xs v)) e

put : (ts us : List Thread) → Same ts us → (k : ℕ) (x : Thread) → Same (set ts k x) (set us k x)
put ts us e k x = ap (λ (xs : List Thread). set xs k x) e

extend : (ts us : List Thread) → Same ts us → (x : Thread) → Same (ts ++ x ∷ []) (us ++ x ∷ [])
extend ts us e x = ap (λ (xs : List Thread). xs ++ x ∷ []) e

module _ (program : List ClassListing) (w : World) (t : ℕ) where
  pub after_at : (choice : Choice) → (next program (uncounted w) t choice).after
      ≡ uncounted (next program w t choice).after
  after_at choice =
      let k = next_near Same same_length same_lives put extend 0 program w w.threads refl t refl choice in
      k.is ∙ ap (λ us. with_threads us 0 (next program w t choice).after) k.related

  pub refused_at : (limits : Limits) → thread_refusal program limits (uncounted w) t ≡ thread_refusal program limits w t
  refused_at limits = refused_near Same same_length same_lives put extend 0 program w w.threads refl t refl limits

  pub ready_at : is_ready program (uncounted w) t ≡ is_ready program w t
  ready_at = ready_near Same same_length same_lives put extend 0 program w w.threads refl t refl
