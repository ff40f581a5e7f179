-- what completions do, by what the code has of them
use Rattle.std.proofs.Common.{◌≡◌, ℕ, List, [], ◌∷◌, ◌++◌, Bool, true, false, not, cond, length, nat_le, reverse}
use Rattle.std.proofs.Common.{slice_get, Vec, Option, Some, None, refl, ap, sym, ◌∙◌}
use Rattle.std.specs.Global.{Global}
use Rattle.model.specs.declared.turns.Fault.TheVariants.{StackFull}
use Rattle.model.specs.ClassListings.{ClassListing}
use Rattle.model.specs.Frames.{Frame}
use Rattle.model.specs.Objects.{class_if, class_at, class_of, object_at}
use Rattle.model.specs.Table.Threads.{with_more}
use Rattle.model.specs.Unwinding.{Landing, Way, landed, way_of, without, unwound, thrown}
use Rattle.model.specs.Unwinding.Landing.{Handled, Stopped, Unhandled}
use Rattle.model.specs.Words.{with_word_of}
use Rattle.model.specs.Worlds.{World, Object, Thread, frames_of, frames_at, next_birth, with_thread, with_fault}
use Rattle.model.specs.declared.turns.ClassState.{ClassState}
use Rattle.model.specs.declared.values.Value.{Value}
use Rattle.model.specs.Results.{faulted}
use Rattle.ideal_run.specs.declared.completions.Change.{Change}
use Rattle.ideal_run.specs.declared.completions.Change.TheVariants as change
use Rattle.ideal_run.specs.declared.worlds.Step.{Step}
use Rattle.ideal_run.specs.declared.worlds.Step.TheVariants.{Runs}
use Rattle.ideal_run.specs.Completed.{changed, moved_to, runs_on}
use Rattle.ideal_run.specs.Effected.{is_full, with_states_in, with_new_if}
use Rattle.ideal_run.specs.Steps.{stepped, monitor_in, started_if, started_on}
use Rattle.ideal_run.specs.Ways.{way_in, thread_landed}
use Rattle.ideal_run.specs.declared.unwinding.Way.{Way as CodeWay}
use Rattle.ideal_run.proofs.WayLemmas.{kept-if, released-keeps}

-- ---- the threads stay

word-keeps : (w : World) (b place : ℕ) (v : Value) (o : Option Object) → (with_word_of w b place v o).threads
    ≡ w.threads
word-keeps w b place v None = refl
word-keeps w b place v (Some o) = refl

pub changed-keeps : (w : World) (t : ℕ) (c : Change) → (changed w t c).threads ≡ w.threads
changed-keeps w t change.Nothing = refl
changed-keeps w t (change.Slot slot v) = refl
changed-keeps w t (change.Word b place v) = word-keeps w b place v (object_at w b)
changed-keeps w t (change.Monitor b m) = kept-if w b (monitor_in m) (object_at w b)
changed-keeps w t (change.Left m None) = released-keeps w t m
changed-keeps w t (change.Left m (Some class)) = released-keeps w t m
changed-keeps w t (change.States states) = refl

started-keeps-if : (w : World) (b : ℕ) (o : Option Object) → (started_if w b o).threads ≡ w.threads
started-keeps-if w b None = refl
started-keeps-if w b (Some o) = refl

frames-of : (w v : World) (t : ℕ) → v.threads ≡ w.threads → frames_at v t ≡ frames_at w t
frames-of w v t keeps = ap (λ (ts : List Thread). frames_of (slice_get ts t)) keeps

pub goes-is : (w between after : World) (t : ℕ) (c : Change) (step : Step) → between ≡ changed w t c
    → after ≡ with_thread between t (stepped (frames_at between t) step) → after ≡ moved_to w (changed w t c) t step
goes-is w between after t c step is after-is =
    after-is ∙ (ap (λ (v : World). with_thread v t (stepped (frames_at v t) step)) is
    ∙ ap (λ (fs : List Frame). with_thread (changed w t c) t (stepped fs step))
    (frames-of w (changed w t c) t (changed-keeps w t c)))

pub starts-is : (w between then after : World) (t b : ℕ) (f : Frame) (thread : Thread) → between ≡ started_on w b
    → then ≡ with_thread between t (stepped (frames_at between t) (Runs f)) → after ≡ with_more then thread
    → after ≡ with_more (runs_on w (started_on w b) t f) thread
starts-is w between then after t b f thread is then-is after-is =
    after-is ∙ ap (λ (v : World). with_more v thread)
    (then-is ∙ (ap (λ (v : World). with_thread v t (stepped (frames_at v t) (Runs f))) is
    ∙ ap (λ (fs : List Frame). with_thread (started_on w b) t (stepped fs (Runs f)))
    (frames-of w (started_on w b) t (started-keeps-if w b (object_at w b)))))

-- ---- throwables

prepared-frames : (w : World) (states : Option (Vec ClassState Global)) (o : Option Object) (t : ℕ)
    → frames_at (with_new_if (with_states_in w states) o) t ≡ frames_at w t
prepared-frames w None None t = refl
prepared-frames w None (Some o) t = refl
prepared-frames w (Some states) None t = refl
prepared-frames w (Some states) (Some o) t = refl

full : (before w : World) (t birth : ℕ) (class : List ℕ) (landing : Landing) → is_full landing ≡ true
    → with_fault before t StackFull ≡ (landed before w t birth class landing).after
full before w t birth class (Handled handler f callers) h = by (nat_le 1 f.room) h where
  by : (b : Bool) → not b ≡ true → with_fault before t StackFull
      ≡ (cond b (record {
        after = with_thread w t (thread_landed birth class (Handled handler f callers));
        writes = birth ∷ [];
      }) (faulted before t StackFull)).after
  by true k = absurd (cc)
  by false k = refl
full before w t birth class (Stopped f callers) h = absurd (cc)
full before w t birth class Unhandled h = absurd (cc)

roomy : (before w : World) (t birth : ℕ) (class : List ℕ) (landing : Landing) → is_full landing ≡ false
    → with_thread w t (thread_landed birth class landing) ≡ (landed before w t birth class landing).after
roomy before w t birth class (Handled handler f callers) h = by (nat_le 1 f.room) h where
  by : (b : Bool) → not b ≡ false → with_thread w t (thread_landed birth class (Handled handler f callers))
      ≡ (cond b (record {
        after = with_thread w t (thread_landed birth class (Handled handler f callers));
        writes = birth ∷ [];
      }) (faulted before t StackFull)).after
  by true k = refl
  by false k = absurd (cc)
roomy before w t birth class (Stopped f callers) h = refl
roomy before w t birth class Unhandled h = refl

module _ (program : List ClassListing) (w : World) (states : Option (Vec ClassState Global)) (object : Option Object)
    (t birth : ℕ) (class : List ℕ) (way : CodeWay) where
  abbrev prepared : World
  prepared = with_new_if (with_states_in w states) object

  abbrev thrown_as : Way → World
  thrown_as found = (landed w (without program prepared t found.left) t birth class found.landing).after

  thrown-is : class ≡ class_at prepared birth → way_in (frames_at w t) way
      ≡ way_of program class (reverse (frames_at w t)) → thrown_as (way_in (frames_at w t) way)
      ≡ (thrown program w prepared t birth).after
  thrown-is class-is way-is =
      ap thrown_as (way-is ∙ ap (λ (fs : List Frame). way_of program class (reverse fs))
      (sym (prepared-frames w states object t)))
      ∙ ap (λ (c : List ℕ).
      (unwound program w prepared t birth c (way_of program c (reverse (frames_at prepared t)))).after) class-is

  pub throw-full : class ≡ class_at prepared birth → way_in (frames_at w t) way
      ≡ way_of program class (reverse (frames_at w t)) → true ≡ is_full (way_in (frames_at w t) way).landing
      → with_fault w t StackFull ≡ (thrown program w prepared t birth).after
  throw-full class-is way-is is-full = full w (without program prepared t (way_in (frames_at w t) way).left) t birth
      class (way_in (frames_at w t) way).landing (sym is-full) ∙ thrown-is class-is way-is

  pub throw-lands : (between after : World) → class ≡ class_at prepared birth → way_in (frames_at w t) way
      ≡ way_of program class (reverse (frames_at w t)) → false ≡ is_full (way_in (frames_at w t) way).landing
      → between ≡ prepared
      → after ≡ with_thread (without program between t (way_in (frames_at between t) way).left) t
      (thread_landed birth class (way_in (frames_at between t) way).landing)
      → after ≡ (thrown program w prepared t birth).after
  throw-lands between after class-is way-is has-room is after-is =
      after-is ∙ (ap (λ (v : World). with_thread (without program v t (way_in (frames_at v t) way).left) t
      (thread_landed birth class (way_in (frames_at v t) way).landing)) is
      ∙ (ap (λ (fs : List Frame). with_thread (without program prepared t (way_in fs way).left) t
      (thread_landed birth class (way_in fs way).landing)) (prepared-frames w states object t)
      ∙ (roomy w (without program prepared t (way_in (frames_at w t) way).left) t birth class
      (way_in (frames_at w t) way).landing (sym has-room) ∙ thrown-is class-is way-is)))

-- the class of an object that was just made
last-got : (objects : List Object) (o : Object) → slice_get (objects ++ o ∷ []) (length objects) ≡ Some o
last-got [] o = refl
last-got (x ∷ xs) o = last-got xs o

pub class-new : (w : World) (states : Option (Vec ClassState Global)) (o : Object) → class_of o.contents
    ≡ class_at (with_new_if (with_states_in w states) (Some o)) (next_birth w)
class-new w None o = sym (ap class_if (last-got w.objects o))
class-new w (Some states) o = sym (ap class_if (last-got w.objects o))

pub ruleset effects = (goes-is, starts-is, throw-full, throw-lands, class-new)
