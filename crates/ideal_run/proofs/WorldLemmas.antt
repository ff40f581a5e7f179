-- how a world changes: what is written at a place that is there, and that nothing is where it isn't
use Rattle.std.proofs.Common.{◌≡◌, ℕ, zero, suc, ◌<◌, ◌≤◌, List, [], ◌∷◌, length, get_or, slice_get, slice_set, set}
use Rattle.std.proofs.Common.{Option, Some, refl, ap, sym, ◌∙◌, arith}
use Rattle.std.proofs.lemmas.Option.{slice_get_read, slice_get_past}
use Rattle.model.specs.declared.values.Value.{Value}
use Rattle.model.specs.Monitors.{with_monitor_if, with_monitor_of}
use Rattle.model.specs.Words.{with_value_at, with_word_in, with_word_of, with_word}
use Rattle.model.specs.Worlds.{World, Thread, FieldValue, Object, Monitor, frames_of}
use Rattle.ideal_run.specs.declared.worlds.Step.{Step}
use Rattle.ideal_run.specs.Steps.{stepped, started_if, started_on}

-- ---- fields

pub value-set : (fields : List FieldValue) (place : ℕ) (v : Value) (f : FieldValue) → f ≡ get_or fields place f
    → place < length fields → set fields place (record f { value = v }) ≡ with_value_at fields place v
value-set [] place v f is h = absurd (omega arith)
value-set (g ∷ gs) zero v f is h = ap (λ (x : FieldValue). record x { value = v } ∷ gs) is
value-set (g ∷ gs) (suc place) v f is h = ap (λ (fs : List FieldValue). g ∷ fs)
    (value-set gs place v f is (omega arith))

pub value-written : (fields : List FieldValue) (place : ℕ) (v : Value) (f after : FieldValue)
    → f ≡ get_or fields place f → place < length fields → after ≡ record f { value = v } → set fields place after
    ≡ with_value_at fields place v
value-written fields place v f after is h after-is = ap (set fields place) after-is ∙ value-set fields place v f is h

pub value-past : (fields : List FieldValue) (place : ℕ) (v : Value) → length fields ≤ place
    → fields ≡ with_value_at fields place v
value-past [] place v h = refl
value-past (g ∷ gs) zero v h = absurd (omega arith)
value-past (g ∷ gs) (suc place) v h = ap (λ (fs : List FieldValue). g ∷ fs) (value-past gs place v (omega arith))

-- ---- objects

there : (objects : List Object) (b : ℕ) (o : Object) → o ≡ get_or objects b o → b < length objects → slice_get objects b
    ≡ Some o
there objects b o is h = slice_get_read objects (length objects) b o refl h is

pub monitor-set : (w : World) (b : ℕ) (m : Monitor) (o : Object) → o ≡ get_or w.objects b o → b < length w.objects
    → record w { objects = set w.objects b (record o { monitor = m }) } ≡ with_monitor_of w b m
monitor-set w b m o is h = sym (ap (with_monitor_if w b m) (there w.objects b o is h))

pub monitor-past : (w : World) (b : ℕ) (m : Monitor) → length w.objects ≤ b → w ≡ with_monitor_of w b m
monitor-past w b m h = sym (ap (with_monitor_if w b m) (slice_get_past w.objects b h))

pub word-set : (w : World) (b place : ℕ) (v : Value) (o : Object) → o ≡ get_or w.objects b o → b < length w.objects
    → record w { objects = set w.objects b (record o { contents = with_word_in o.contents place v }) }
    ≡ with_word w b place v
word-set w b place v o is h = sym (ap (with_word_of w b place v) (there w.objects b o is h))

pub word-past : (w : World) (b place : ℕ) (v : Value) → length w.objects ≤ b → w ≡ with_word w b place v
word-past w b place v h = sym (ap (with_word_of w b place v) (slice_get_past w.objects b h))

pub started-set : (w : World) (b : ℕ) (o : Object) → o ≡ get_or w.objects b o → b < length w.objects
    → record w { objects = set w.objects b (record o { thread = Some (length w.threads) }) } ≡ started_on w b
started-set w b o is h = sym (ap (started_if w b) (there w.objects b o is h))

pub started-past : (w : World) (b : ℕ) → length w.objects ≤ b → w ≡ started_on w b
started-past w b h = sym (ap (started_if w b) (slice_get_past w.objects b h))

-- ---- threads

set-again : {A : Type 0} (xs : List A) (k : ℕ) (x y : A) → set (set xs k x) k y ≡ set xs k y
set-again [] k x y = refl
set-again (z ∷ zs) zero x y = refl
set-again {A = A} (z ∷ zs) (suc k) x y = ap (λ (l : List A). z ∷ l) (set-again zs k x y)

pub thread-set : (threads : List Thread) (k : ℕ) (old nobody after : Thread) (step : Step) → old ≡ get_or threads k old
    → k < length threads → after ≡ stepped (frames_of (Some old)) step
    → set (set threads k nobody) k after ≡ slice_set threads k (stepped (frames_of (slice_get threads k)) step)
thread-set threads k old nobody after step is h stepped-is =
    set-again threads k nobody after
    ∙ ap (set threads k) (stepped-is ∙ ap (λ (o : Option Thread). stepped (frames_of o) step)
    (sym (slice_get_read threads (length threads) k old refl h is)))

pub thread-past : (threads : List Thread) (k : ℕ) (t : Thread) → length threads ≤ k → threads ≡ slice_set threads k t
thread-past [] k t h = refl
thread-past (z ∷ zs) zero t h = absurd (omega arith)
thread-past (z ∷ zs) (suc k) t h = ap (λ (l : List Thread). z ∷ l) (thread-past zs k t (omega arith))

pub ruleset worlds = (
  value-set,
  value-written,
  value-past,
  monitor-set,
  monitor-past,
  word-set,
  word-past,
  started-set,
  started-past,
  thread-set,
  thread-past,
)
