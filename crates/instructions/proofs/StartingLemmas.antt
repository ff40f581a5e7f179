-- A thread that starts on an object, and one that is joined: what is kept of the heap, and what the turn tells.
use Rattle.std.proofs.Common.{◌≡◌, ℕ, zero, suc, ◌<◌, ◌≤◌, List, [], ◌∷◌, ◌++◌, length, map, set, slice_get, Bool, true}
use Rattle.std.proofs.Common.{false, Option, Some, None, Ok, refl, sym, ap, arith, ◌∙◌, le-leb, leb-true}
use Rattle.std.specs.Prelude.{is_some, nat_le, if◌then◌else◌}
use Rattle.std.specs.Option.{option_map}
use Rattle.std.proofs.lemmas.List.{map-set}
use Rattle.model.specs.declared.journals.HeapShape.{HeapShape}
use Rattle.model.specs.declared.journals.Outcome.TheVariants.{Done}
use Rattle.model.specs.Accounts.{Account}
use Rattle.model.specs.ClassListings.{ClassListing}
use Rattle.model.specs.declared.turns.Exception.TheVariants.{IllegalThreadState}
use Rattle.model.specs.declared.turns.Fault.TheVariants.{ThreadLimit}
use Rattle.model.specs.Completions.{Completion, Site, raises}
use Rattle.model.specs.Completions.Completion.{Faults, Goes, Waits}
use Rattle.model.specs.Frames.{Frame, replaced, running_frame, with_running}
use Rattle.model.specs.Objects.{object_at}
use Rattle.model.specs.Table.Builtins.{does_nothing}
use Rattle.model.specs.Table.Threads.{has_live_thread, joined, numbered, start_if, thread_if, with_more}
use Rattle.model.specs.Worlds.{Object, Thread, World, lives, with_thread}
use Rattle.model.specs.Worlds.Thread.{Live as LiveThread, Ended}
use Rattle.cells.specs.Objects.{StoredObject, object_if, thread_set, thread_if as thread_of}
use Rattle.join.specs.OnCells.{nobody}
use Rattle.join.specs.TurnsOnCells.{CellMachine, shade_cells, turned_on}
use Rattle.instructions.specs.declared.acting.Begun.{Begun}
use Rattle.instructions.specs.declared.kinds.Course.{Course}
use Rattle.instructions.specs.declared.kinds.Course.TheVariants.{Live}
use Rattle.instructions.specs.declared.kinds.Kind.{Kind}
use Rattle.instructions.specs.declared.machines.Machine.{Machine}
use Rattle.instructions.specs.Acting.{AreIn, Scene, is_alive, shown, site_at, thread_begun, threads_shown, turned}
use Rattle.instructions.specs.Acting.{with_begun}
use Rattle.instructions.specs.ByNumbers.{AreStored, HoldsStored}
use Rattle.instructions.specs.Heaps.{HeapValue, all_shaded, held, kind_held}
use Rattle.instructions.specs.HeapThreads.{thread_held, with_thread_on}
use Rattle.instructions.specs.HeapsAgree.{Agree}
use Rattle.instructions.specs.OwnCalls.{begins, begun_of, begun_writes, starts}
use Rattle.instructions.specs.Shown.{object_shown, objects_shown}
use Rattle.instructions.specs.Starting.{lives_on}
use Rattle.instructions.specs.Threads.{goes_on, lives_in}
use Rattle.instructions.proofs.Scenes.{frames_shown, thread_set as thread_replaced}
use Rattle.instructions.proofs.StoredLemmas.{held-stored, set-stored}

-- ---- the heap

stays_taken : {K : Type 0} (objects : List (Option (StoredObject K))) (c : ℕ) (t : Option ℕ)
    → map is_some (set objects c (option_map (thread_set t) (object_if (slice_get objects c)))) ≡ map is_some objects
stays_taken [] c t = refl
stays_taken (None ∷ objects) zero t = refl
stays_taken (Some o ∷ objects) zero t = refl
stays_taken (o ∷ objects) (suc c) t = ap (λ bs. is_some o ∷ bs) (stays_taken objects c t)

pub numbered_agree : {K : Type 0} (shape : HeapShape) (a : Account) (objects : List (Option
    (StoredObject K))) (c : ℕ) (t : Option ℕ) → Agree shape a objects
    → Agree shape a (set objects c (option_map (thread_set t) (object_if (slice_get objects c))))
numbered_agree shape a objects c t k = record {
  fits = k.fits;
  count = k.count;
  taken = k.taken ∙ sym (stays_taken objects c t);
  medium = k.medium;
  large = k.large;
}

-- the threads of objects alone differ
pub record ThreadsAlone (program : List ClassListing) (h after : HeapValue) : Type 0 where
  pub shape : after.shape ≡ h.shape
  pub account : after.account ≡ h.account
  pub births : after.births ≡ h.births
  pub classes : after.classes ≡ h.classes
  pub stored : AreStored program h.objects → AreStored program after.objects

module _ (program : List ClassListing) where
  as_stored : (t : Option ℕ) (o : Option (StoredObject Kind)) → HoldsStored program o
      → HoldsStored program (option_map (thread_set t) o)
  as_stored t None fits = tt
  as_stored t (Some object) fits = fits

  pub numbered-alone : (h : HeapValue) (reference t : ℕ) → ThreadsAlone program h (with_thread_on h reference t)
  numbered-alone h zero t = record {
    shape = refl;
    account = refl;
    births = refl;
    classes = refl;
    stored = λ stored. stored;
  }
  numbered-alone h (suc cell) t = record {
    shape = refl;
    account = refl;
    births = refl;
    classes = refl;
    stored = λ stored.
        set-stored program h.objects cell _ stored
        (as_stored (Some t) (object_if (slice_get h.objects cell)) (held-stored program h.objects cell stored));
  }

-- ---- what a world shows of it

module _ (program : List ClassListing) (h : HeapValue) where
  place-shown : (objects : List (Option (StoredObject Kind))) (cell : ℕ) (o : StoredObject Kind)
      → object_if (slice_get objects cell) ≡ Some o
      → slice_get (map (object_shown program) objects) cell ≡ Some (object_shown program (Some o))
  place-shown [] cell o e = cc
  place-shown (None ∷ objects) zero o e = cc
  place-shown (Some x ∷ objects) zero o e = ap (λ (o : Option (StoredObject Kind)). Some (object_shown program o)) e
  place-shown (x ∷ objects) (suc cell) o e = place-shown objects cell o e

  pub object-there : (birth : ℕ) (o : StoredObject Kind) → held h birth ≡ Some o
      → slice_get (objects_shown program h.objects) birth ≡ Some (object_shown program (Some o))
  object-there zero o e = cc
  object-there (suc cell) o e = place-shown h.objects cell o e

  -- the thread of an object; there is none where there is no object
  pub thread-shown : (birth : ℕ) → thread_if (slice_get (objects_shown program h.objects) birth) ≡ thread_held h birth
  thread-shown zero = refl
  thread-shown (suc cell) = by h.objects cell
    where
      by : (objects : List (Option (StoredObject Kind))) (cell : ℕ)
          → thread_if (slice_get (map (object_shown program) objects) cell)
          ≡ thread_of (object_if (slice_get objects cell))
      by [] cell = refl
      by (None ∷ objects) zero = refl
      by (Some x ∷ objects) zero = refl
      by (x ∷ objects) (suc cell) = by objects cell

  -- the object knows its thread
  pub numbered-shown : (birth t : ℕ) (o : StoredObject Kind) → held h birth ≡ Some o
      → set (objects_shown program h.objects) birth (object_shown program (Some (thread_set (Some t) o)))
      ≡ objects_shown program (with_thread_on h birth t).objects
  numbered-shown zero t o e = cc
  numbered-shown (suc cell) t o e =
      ap (λ (objects : List Object). nobody ∷ objects)
      (sym (map-set (object_shown program) h.objects cell (Some (thread_set (Some t) o))))
      ∙ ap (λ (x : Option (StoredObject Kind)). objects_shown program
      (set h.objects cell (option_map (thread_set (Some t)) x))) (sym e)

-- ---- the threads

length-map : {A B : Type 0} (f : A → B) (xs : List A) → length (map f xs) ≡ length xs
length-map f [] = refl
length-map f (x ∷ xs) = ap suc (length-map f xs)

alive-shown : (before after : List Thread) (frames : List Frame)
    → map is_alive (before ++ LiveThread [] ∷ after) ≡ map is_alive (before ++ LiveThread frames ∷ after)
alive-shown [] after frames = refl
alive-shown (t ∷ ts) after frames = ap (λ bs. is_alive t ∷ bs) (alive-shown ts after frames)

abbrev pub alike : List Course → List Thread → Type 0
alike courses threads = map goes_on courses ≡ map is_alive threads

pub alike-length : (courses : List Course) (threads : List Thread) → AreIn courses threads → length courses
    ≡ length threads
alike-length courses threads e = sym (length-map goes_on courses) ∙ ap length e ∙ length-map is_alive threads

alike-lives : (courses : List Course) (threads : List Thread) → AreIn courses threads → (n : ℕ)
    → lives_in courses n ≡ lives (slice_get threads n)
alike-lives [] [] e n = refl
alike-lives [] (t ∷ ts) e n = cc
alike-lives (c ∷ cs) [] e n = cc
alike-lives (c ∷ cs) (t ∷ ts) e zero = by t (ap (λ (bs : List Bool). head bs) e)
  where
    head : List Bool → Bool
    head [] = false
    head (b ∷ bs) = b

    by : (t : Thread) → goes_on c ≡ is_alive t → goes_on c ≡ lives (Some t)
    by (LiveThread frames) k = k
    by (Ended class) k = k
alike-lives (c ∷ cs) (t ∷ ts) e (suc n) = alike-lives cs ts (ap (λ (bs : List Bool). tail bs) e) n
  where
    tail : List Bool → List Bool
    tail [] = []
    tail (b ∷ bs) = bs

-- in a scene they are those of the machine's world
pub lives-shown : (courses : List Course) (scene : Scene) (frames : List Frame)
    → AreIn courses (threads_shown scene (LiveThread []))
    → AreIn courses (threads_shown scene (LiveThread frames))
lives-shown courses scene frames e = e ∙ alive-shown scene.before scene.after frames

pub live-in : (courses : List Course) (w : World) (thread : Option ℕ) → AreIn courses w.threads
    → has_live_thread w thread ≡ lives_on courses thread
live-in courses w None e = refl
live-in courses w (Some n) e = sym (alike-lives courses w.threads e n)

-- ---- what a turn tells that starts a thread

module _ (program : List ClassListing) (scene : Scene) (m after : Machine) (here : length scene.before ≡ m.thread) where
  abbrev x : CellMachine
  x = shown program scene m Live

  -- the running thread has other frames in this world, and one thread more is the last
  more_in : (begun : Begun) (w : World) (written : List ℕ) → w.threads ≡ x.world.threads
      → w.statics ≡ (shown program scene after Live).world.statics → w.output ≡ after.output.items
      → w.objects ≡ (shown program scene after Live).world.objects → w.fault ≡ None → w.rows ≡ scene.rows
      → shade_cells x.account written ≡ after.heap.account → after.heap.births ≡ m.heap.births
      → (with_begun (Some begun) (shown program scene after Live), Done)
      ≡ turned program x m.thread
      (Goes (with_more (with_thread w m.thread (LiveThread after.frames)) (thread_begun begun)) written)
  unfolding turned_on
  more_in begun w written threads statics output objects fault rows account births =
      rw (
        threads,
        statics,
        output,
        objects,
        fault,
        rows,
        account,
        births,
        thread_replaced scene m.thread here (LiveThread m.frames) (LiveThread after.frames),
      ) refl

  begins_in : (courses : List Course) → AreIn courses (threads_shown scene (LiveThread []))
      → (next birth : ℕ) (o : StoredObject Kind) (begun : Begun)
      → held m.heap birth ≡ Some o → after.frames
      ≡ with_running m.frames (replaced next (running_frame m.frames) 1 []).frame
      → after.slots ≡ m.slots → after.states.items ≡ m.states.items → after.output.items ≡ m.output.items
      → after.heap.objects ≡ (with_thread_on m.heap birth (length courses)).objects
      → shade_cells m.heap.account (begun_writes birth begun) ≡ after.heap.account → after.heap.births ≡ m.heap.births
      → (with_begun (Some begun) (shown program scene after Live), Done)
      ≡ turned program x m.thread (begins (site_at program m x.world next) birth (object_shown program (Some o))
      (Some begun))
  begins_in courses lives next birth o begun is frames slots states output objects account births =
      let few : length courses ≡ length x.world.threads =
      alike-length courses x.world.threads (lives-shown courses scene m.frames lives) in
      let known : (numbered x.world birth (object_shown program (Some o))).objects
      ≡ objects_shown program after.heap.objects =
      ap (λ (n : ℕ). set x.world.objects birth (object_shown program (Some (thread_set (Some n) o)))) (sym few)
      ∙ numbered-shown program m.heap birth (length courses) o is ∙ ap (objects_shown program) (sym objects) in
      more_in begun (numbered x.world birth (object_shown program (Some o))) (begun_writes birth begun) refl
      (rw (slots, states) refl) (sym output) known refl refl account births
      ∙ ap (λ (fs : List Frame). turned program x m.thread
      (Goes (with_more (with_thread (numbered x.world birth (object_shown program (Some o))) m.thread (LiveThread fs))
      (thread_begun begun)) (begun_writes birth begun)))
      (frames ∙ ap (λ (fs : List Frame). with_running fs (replaced next (running_frame m.frames) 1 []).frame)
      (sym (frames_shown program scene m here)))

  -- the object at the top goes, and knows its thread by its number
  pub begins_reported : (courses : List Course) → AreIn courses (threads_shown scene (LiveThread []))
      → (next birth : ℕ) (begun : Begun)
      → is_some (held m.heap birth) ≡ true → after.frames
      ≡ with_running m.frames (replaced next (running_frame m.frames) 1 []).frame
      → after.slots ≡ m.slots → after.states.items ≡ m.states.items → after.output.items ≡ m.output.items
      → after.heap ≡ all_shaded (with_thread_on m.heap birth (length courses)) (begun_writes birth begun)
      → (with_begun (Some begun) (shown program scene after Live), Done)
      ≡ turned program x m.thread (begins (site_at program m x.world next) birth
      (object_shown program (held m.heap birth)) (Some begun))
  begins_reported courses lives next birth begun there frames slots states output heap = by (held m.heap birth) refl
      there
    where
      alone : ThreadsAlone program m.heap (with_thread_on m.heap birth (length courses))
      alone = numbered-alone program m.heap birth (length courses)

      by : (o : Option (StoredObject Kind)) → held m.heap birth ≡ o → is_some o ≡ true
          → (with_begun (Some begun) (shown program scene after Live), Done)
          ≡ turned program x m.thread (begins (site_at program m x.world next) birth (object_shown program o)
          (Some begun))
      by None is some = cc
      by (Some o) is some =
          begins_in courses lives next birth o begun is frames slots states output
          (ap (λ (h : HeapValue). h.objects) heap)
          (ap (λ (a : Account). shade_cells a (begun_writes birth begun)) (sym alone.account)
          ∙ sym (ap (λ (h : HeapValue). h.account) heap))
          (ap (λ (h : HeapValue). h.births) heap ∙ alone.births)

-- ---- start and join, by what the code finds

module _ (program : List ClassListing) (h : HeapValue) (birth : ℕ) where
  abbrev found : Option (StoredObject Kind) → Object
  found o = object_shown program o

  pub start-some : {A : Type 0} (f : Option Object → A) → is_some (held h birth) ≡ true
      → f (slice_get (objects_shown program h.objects) birth) ≡ f (Some (object_shown program (held h birth)))
  start-some f there = by (held h birth) refl there
    where
      by : (o : Option (StoredObject Kind)) → held h birth ≡ o → is_some o ≡ true
          → f (slice_get (objects_shown program h.objects) birth) ≡ f (Some (object_shown program o))
      by None is some = cc
      by (Some o) is some = ap f (object-there program h birth o is)

  pub started-before : (object_shown program (held h birth)).thread ≡ thread_held h birth
  started-before = by (held h birth) where
    by : (o : Option (StoredObject Kind)) → (object_shown program o).thread ≡ thread_of o
    by None = refl
    by (Some o) = refl

module _ (program : List ClassListing) (scene : Scene) (m : Machine) (courses : List Course)
    (alike : AreIn courses (threads_shown scene (LiveThread []))) (next birth : ℕ) where
  abbrev w : World
  w = (shown program scene m Live).world

  abbrev s : Site
  s = site_at program m w next

  pub join-is : (b : Bool) → b ≡ lives_on courses (thread_held m.heap birth)
      → joined s (Ok (Some birth)) ≡ (if b then Waits else does_nothing s)
  join-is b e =
      ap (λ b. if b then Waits else does_nothing s)
      (live-in courses w (thread_if (object_at w birth)) (lives-shown courses scene m.frames alike)
      ∙ ap (lives_on courses) (thread-shown program m.heap birth) ∙ sym e)

  pub count-is : length w.threads ≡ length courses
  count-is = sym (alike-length courses w.threads (lives-shown courses scene m.frames alike))

  module _ (there : is_some (held m.heap birth) ≡ true) where
    abbrev object : Object
    object = object_shown program (held m.heap birth)

    abbrev own : Option Begun → Completion
    own begun = begins s birth object begun

    abbrev chosen : Bool → Bool → Completion
    chosen started full = start_if (own (begun_of program birth (kind_held m.heap birth))) started full

    starts-is : starts s m.heap birth (object_at w birth)
        ≡ chosen (is_some (thread_held m.heap birth)) (nat_le 64 (length courses))
    starts-is =
        start-some program m.heap birth (λ o. starts s m.heap birth o) there
        ∙ ap (λ (t : Option ℕ). chosen (is_some t) (nat_le 64 (length w.threads))) (started-before program m.heap birth)
        ∙ ap (λ n. chosen (is_some (thread_held m.heap birth)) (nat_le 64 n)) count-is

    pub start-again : is_some (thread_held m.heap birth) ≡ true
        → starts s m.heap birth (object_at w birth) ≡ raises IllegalThreadState
    start-again e = starts-is ∙ ap (λ b. chosen b (nat_le 64 (length courses))) e

    pub start-full : is_some (thread_held m.heap birth) ≡ false → 64 ≤ length courses
        → starts s m.heap birth (object_at w birth) ≡ Faults ThreadLimit
    start-full e full =
        starts-is ∙ ap (λ b. chosen b (nat_le 64 (length courses))) e
        ∙ ap (chosen false) (le-leb 64 (length courses) full)

    pub start-new : is_some (thread_held m.heap birth) ≡ false → length courses < 64 → (begun : Option Begun)
        → begun ≡ begun_of program birth (kind_held m.heap birth)
        → starts s m.heap birth (object_at w birth) ≡ own begun
    start-new e few begun is =
        starts-is ∙ ap (λ b. chosen b (nat_le 64 (length courses))) e
        ∙ ap (chosen false) (by (nat_le 64 (length courses)) refl) ∙ sym (ap own is)
      where
        by : (b : Bool) → nat_le 64 (length courses) ≡ b → b ≡ false
        by true k = let full = leb-true 64 (length courses) k in absurd (omega (arith, full, few))
        by false k = refl
