-- Frames that are left, one after another, and what a world shows of it.
use Rattle.std.proofs.Common.{◌≡◌, ◌<◌, ◌≤◌, ◌+◌, ◌-◌, ℕ, suc, List, [], ◌∷◌, ◌++◌, map, reverse, take, length, Bool}
use Rattle.std.proofs.Common.{true, false, refl, sym, ap, ◌∙◌, subst, arith}
use Rattle.std.specs.Prelude.{filter, cond}
use Rattle.std.proofs.lemmas.List.{reverse-append, take-take, length-take-le, take_more, take_all}
use Rattle.model.specs.declared.turns.ClassState.{ClassState}
use Rattle.model.specs.declared.turns.ClassState.TheVariants.{Done, Failed}
use Rattle.model.specs.ClassListings.{ClassListing}
use Rattle.model.specs.Frames.{Frame, callers, no_frame, running_frame}
use Rattle.model.specs.Initialisation.{runs_initializer, with_states}
use Rattle.model.specs.Monitors.{released}
use Rattle.model.specs.Table.Returns.{initialised_if}
use Rattle.model.specs.Unwinding.{initialised_by, without}
use Rattle.model.specs.Worlds.{World, with_class_states}
use Rattle.instructions.specs.declared.machines.Machine.{Machine}
use Rattle.instructions.specs.HeapMonitors.{all_released_in, released_in}
use Rattle.instructions.specs.Heaps.{HeapValue}
use Rattle.instructions.specs.Leaving.{HasLeft, class_if, innermost, monitors_of, world_left}
use Rattle.instructions.specs.Shown.{objects_shown}
use Rattle.instructions.proofs.MonitoringLemmas.{all_released-shown, released-shown}

-- ---- the running frame comes first

pub running_last : (frames : List Frame) → 0 < length frames → frames ≡ callers frames ++ running_frame frames ∷ []
running_last frames some =
    let whole : take (length frames - 1 + 1) frames ≡ callers frames ++ running_frame frames
    ∷ [] = take_more frames (length frames - 1) no_frame (omega arith) in
    let all : take (length frames - 1 + 1) frames ≡ frames = take_all (length frames - 1 + 1) frames (omega arith) in
    cc

pub running_first : (frames : List Frame) → 0 < length frames → reverse frames ≡ running_frame frames
    ∷ reverse (callers frames)
running_first frames some = ap reverse (running_last frames some)
    ∙ reverse-append (callers frames) (running_frame frames ∷ [])

pub innermost-next : (n : ℕ) (frames : List Frame) → 0 < length frames
    → innermost (suc n) frames ≡ running_frame frames ∷ innermost n (callers frames)
innermost-next n frames some = ap (take (suc n)) (running_first frames some)

-- ---- frames are left

module _ (program : List ClassListing) (state : ClassState) where
  pub left_none : (m : Machine) → HasLeft program state [] m m
  left_none m = record { thread = refl; slots = refl; states = refl; heap = refl; output = refl }

  abbrev classes : List Frame → List ℕ
  classes frames = map (λ (f : Frame). f.method.class) frames

  -- the classes of a frame, and then those of the others
  states_next : (f : Frame) (fs : List Frame) (states : List ClassState)
      → with_states state (initialised_by program (f ∷ fs)) states
      ≡ with_states state (initialised_by program fs) (with_states state (initialised_by program (f ∷ [])) states)
  states_next f fs states = by (runs_initializer program f)
    where
      by : (b : Bool)
          → with_states state (classes (cond b (f ∷ filter (runs_initializer program) fs)
          (filter (runs_initializer program) fs))) states
          ≡ with_states state (initialised_by program fs) (with_states state (classes (cond b (f ∷ []) [])) states)
      by true = refl
      by false = refl

  pub left_next : (f : Frame) (fs : List Frame) (a b c : Machine) → HasLeft program state (f ∷ []) a b
      → HasLeft program state fs b c
      → HasLeft program state (f ∷ fs) a c
  left_next f fs a b c one rest = record {
    thread = rest.thread ∙ one.thread;
    slots = rest.slots ∙ one.slots;
    states = rest.states ∙ ap (with_states state (initialised_by program fs)) one.states
        ∙ sym (states_next f fs a.states.items);
    heap = rest.heap ∙ ap (λ (h : HeapValue). all_released_in h b.thread (monitors_of fs)) one.heap
        ∙ ap (λ (t : ℕ). all_released_in (released_in a.heap a.thread f.monitor) t (monitors_of fs)) one.thread;
    output = rest.output ∙ one.output;
  }

-- the class that one frame initialises
pub initialised-one : (program : List ClassListing) (f : Frame)
    → initialised_by program (f ∷ []) ≡ class_if (runs_initializer program f) f.method.class
initialised-one program f = by (runs_initializer program f)
  where
    by : (b : Bool) → map (λ (f : Frame). f.method.class) (cond b (f ∷ []) []) ≡ class_if b f.method.class
    by true = refl
    by false = refl

-- ---- what a world shows

-- frames are left for a throwable
pub without-shown : (program : List ClassListing) (h : HeapValue) (w : World) (t : ℕ) (left : List Frame)
    → w.objects ≡ objects_shown program h.objects → without program w t left ≡ world_left program h w t Failed left
without-shown program h w t left shown =
    ap (λ (v : World). with_class_states v (with_states Failed (initialised_by program left) w.statics.states))
    (all_released-shown program h w t (monitors_of left) shown)

-- a frame is left by a return
module _ (program : List ClassListing) (h : HeapValue) (w : World) (t : ℕ) (f : Frame)
    (shown : w.objects ≡ objects_shown program h.objects) where
  abbrev stated : List ℕ → World
  stated classes = record w {
    statics = record { fields = w.statics.fields; states = with_states Done classes w.statics.states };
    objects = objects_shown program (released_in h t f.monitor).objects;
  }

  abbrev given_back : World
  given_back = record w { objects = objects_shown program (released_in h t f.monitor).objects }

  by_runs : (b : Bool) → initialised_if given_back f.method.class b ≡ stated (class_if b f.method.class)
  by_runs true = refl
  by_runs false = refl

  pub returned-shown : initialised_if (released w t f.monitor) f.method.class (runs_initializer program f)
      ≡ world_left program h w t Done (f ∷ [])
  returned-shown =
      ap (λ (v : World). initialised_if v f.method.class (runs_initializer program f))
      (released-shown program h w shown t f.monitor)
      ∙ by_runs (runs_initializer program f)
      ∙ ap (λ (classes : List ℕ). stated classes) (sym (initialised-one program f))

-- ---- so many frames are left in turn

-- where so many of the frames are still to be left, what is left of them is what was to be left at first
pub record RestLeaves (program : List ClassListing) (old now : Machine) (count rest : ℕ) : Type 0 where
  pub some : rest ≤ length now.frames
  pub frames : take (length now.frames - rest) now.frames ≡ take (length old.frames - count) old.frames
  pub left : (after : Machine) → HasLeft program Failed (innermost rest now.frames) now after
      → HasLeft program Failed (innermost count old.frames) old after

module _ (program : List ClassListing) (old : Machine) (count : ℕ) where
  first : count ≤ length old.frames → RestLeaves program old old count count
  first some = record { some = some; frames = refl; left = λ after k. k }

  pub rest-first : count ≤ length old.frames → RestLeaves program old old count (count - 0)
  rest-first some = let all : count ≡ count - 0 = omega arith
      in subst (RestLeaves program old old count) all (first some)

  callers_left : (frames : List Frame) (rest : ℕ) → suc rest ≤ length frames
      → take (length (callers frames) - rest) (callers frames) ≡ take (length frames - suc rest) frames
  callers_left frames rest some =
      let fewer : length (callers frames) ≡ length frames - 1 = length-take-le (length frames - 1) frames (omega arith)
      in
      let same : length (callers frames) - rest ≡ length frames - suc rest = omega arith in
      ap (λ (n : ℕ). take n (callers frames)) same ∙ take-take (length frames - suc rest) (length frames - 1) frames
      (omega arith)

  after_one : (now next : Machine) (rest : ℕ) → RestLeaves program old now count (suc rest)
      → HasLeft program Failed (running_frame now.frames ∷ []) now next → next.frames ≡ callers now.frames
      → RestLeaves program old next count rest
  after_one now next rest k one is =
      let many = k.some in
      let fewer : length (callers now.frames) ≡ length now.frames - 1 = length-take-le (length now.frames - 1)
      now.frames (omega arith) in
      record {
        some = omega (arith, fewer, ap length is);
        frames = ap (λ (frames : List Frame). take (length frames - rest) frames) is ∙ callers_left now.frames rest many
            ∙ k.frames;
        left = λ after left. k.left after
            (rw (innermost-next rest now.frames (omega arith))
            (left_next program Failed (running_frame now.frames) (innermost rest (callers now.frames)) now next after
            one
            (subst (λ (frames : List Frame). HasLeft program Failed (innermost rest frames) next after) is left)));
      }

  pub rest-next : (now next : Machine) (i : ℕ) → i < count → RestLeaves program old now count (count - i)
      → HasLeft program Failed (running_frame now.frames ∷ []) now next → next.frames ≡ callers now.frames
      → RestLeaves program old next count (count - (i + 1))
  rest-next now next i within k one is =
      let more : count - i ≡ suc (count - (i + 1)) = omega arith in
      after_one now next (count - (i + 1)) (subst (RestLeaves program old now count) more k) one is

  -- a frame is there as long as one is to be left
  pub rest-some : (now : Machine) (i : ℕ) → i < count → RestLeaves program old now count (count - i)
      → 0 < length now.frames
  rest-some now i within k = let many = k.some in omega arith

  over : (now : Machine) → RestLeaves program old now count 0
      → HasLeft program Failed (innermost count old.frames) old now
      × (now.frames ≡ take (length old.frames - count) old.frames)
  over now k = (
    k.left now (left_none program Failed now),
    sym (take_all (length now.frames - 0) now.frames (omega arith))
        ∙ k.frames,
  )

  pub rest-over : (now : Machine) (i : ℕ) → count ≤ i → RestLeaves program old now count (count - i)
      → HasLeft program Failed (innermost count old.frames) old now
      × (now.frames ≡ take (length old.frames - count) old.frames)
  rest-over now i past k = let none : count - i ≡ 0 = omega arith
      in over now (subst (RestLeaves program old now count) none k)
