-- A turn on the parts of the state is the turn of the machine on cells.
use Rattle.std.proofs.Common.{◌≡◌, ◌<◌, ◌≤◌, ◌+◌, ℕ, suc, List, [], ◌∷◌, ◌++◌, drop, length, map, take, Option, Some}
use Rattle.std.proofs.Common.{None, IfSome, Result, Ok, Err, true, refl, ap, sym, ◌∙◌, arith, subst}
use Rattle.std.specs.Global.{Global}
use Rattle.std.specs.Prelude.{Vec, vec_capacity, slice_get, slice_set}
use Rattle.std.proofs.lemmas.List.{length-append, length-set}
use Rattle.model.specs.declared.journals.HeapShape.{HeapShape}
use Rattle.model.specs.declared.journals.Outcome.{Outcome}
use Rattle.model.specs.declared.journals.Outcome.TheVariants.{Fault as FaultOutcome}
use Rattle.model.specs.declared.turns.Actor.TheVariants.{Thread as ByThread}
use Rattle.model.specs.declared.turns.ClassState.{ClassState}
use Rattle.model.specs.declared.turns.Fault.{Fault}
use Rattle.model.specs.ClassListings.{ClassListing}
use Rattle.model.specs.Completions.{Completion}
use Rattle.model.specs.Frames.{Frame, running}
use Rattle.model.specs.Table.Next.{completion}
use Rattle.model.specs.Turns.{refusal}
use Rattle.model.specs.Worlds.{Thread, frames_at, frames_of, is_live}
use Rattle.model.specs.Worlds.Thread.{Live as LiveThread, Ended}
use Rattle.join.specs.TurnsOnCells.{CellMachine, counted_on, faulted_on, outcome_on, turned_on}
use Rattle.instructions.specs.declared.acting.Begun.{Begun}
use Rattle.instructions.specs.declared.acting.Begun.TheVariants.{Ended as BegunEnded, Runs}
use Rattle.instructions.specs.declared.acting.Stepped.{Stepped}
use Rattle.instructions.specs.declared.kinds.Course.{Course}
use Rattle.instructions.specs.declared.kinds.Course.TheVariants.{Live, Returned}
use Rattle.instructions.specs.declared.machines.Machine.{Machine}
use Rattle.instructions.specs.declared.state.State.TheInside.{Inside}
use Rattle.instructions.specs.Acting.{AreIn, CanBegin, HasRoomFor, Keeps, Scene, Stays, TurnsAmong, is_alive, shown}
use Rattle.instructions.specs.Acting.{thread_begun, threads_shown, reported_of, turned, with_begun}
use Rattle.instructions.specs.ByNumbers.{AreStored}
use Rattle.instructions.specs.Operated.{completed, completed_at, printed_at}
use Rattle.instructions.specs.Loaded.{IsSound, Loaded, after_collection, after_step, machine_shown, state_shown}
use Rattle.instructions.specs.Heaps.{HeapValue, collected}
use Rattle.instructions.specs.Shown.{thread_shown}
use Rattle.instructions.specs.Switching.{IsSwitched}
use Rattle.instructions.specs.Threads.{ThreadsValue, all_frames, all_shown, begun_as, begun_if, first_frame, goes_on}
use Rattle.instructions.specs.Threads.{noted_as, threads_in}
use Rattle.instructions.proofs.Refusing.{allowed}
use Rattle.instructions.proofs.Scenes.{frames_shown}
use Rattle.instructions.proofs.ShownLemmas.{collected_shown as collected_on_shown}
use Rattle.instructions.proofs.Stepping.{IsKept, completion_completed}
use Rattle.instructions.proofs.ThreadLemmas.{alive-between, are_in, few-begun, length-before, length-threads}
use Rattle.instructions.proofs.ThreadLemmas.{live_started, set-apart, set-between, set-same, set-twice, thread_got}
use Rattle.instructions.proofs.ThreadLemmas.{threads-ended, threads-more, threads-set}
use Rattle.instructions.proofs.TurnBirths.{turned_births}
use Rattle.instructions.proofs.Waiting.{all_now, kept, lives_now, now, started, threads_now, reported_now}

abbrev pub Sound : Inside → Type 0
Sound a = IsSound a.program a.limits a.machine a.threads a.rows

-- what contracts see of the state
abbrev pub loaded : Inside → Loaded
loaded a = record {
  program = a.program;
  limits = a.limits;
  shape = a.machine.heap.shape;
  machine = state_shown a.program a.machine a.threads a.fault a.rows;
}

-- what a thread's turn prints
abbrev pub printed_here : Inside → ℕ → Option (List ℕ)
printed_here a t = printed_at a.program (running (frames_at (now a) t))

-- a state whose thread has a turn
pub record IsGoing (a : Inside) (t : ℕ) : Type 0 where
  pub live : is_live (now a) t ≡ true
  pub faultless : a.fault ≡ None
  pub counted : a.rows < a.limits.steps
  pub fits : HasRoomFor a.machine (printed_here a t)

room_for : (limit capacity before : ℕ) (o : Option (List ℕ)) → limit ≤ capacity
    → IfSome o (λ line. before + length line ≤ limit) → IfSome o (λ line. before + length line ≤ capacity)
room_for limit capacity before None room h = tt
room_for limit capacity before (Some line) room h = omega arith

pub going : (a : Inside) (t : ℕ) → Sound a → refusal a.program a.limits (now a) (ByThread t) ≡ None → IsGoing a t
going a t sound e =
    let may = allowed (loaded a) t e in
    let fits = subst (λ o. IfSome o (λ line. length a.machine.output.items + length line ≤ a.limits.output))
    (reported_now a sound t) may.fits in
    record {
      live = may.live;
      faultless = may.faultless;
      counted = may.counted;
      fits = room_for a.limits.output (vec_capacity a.machine.output) (length a.machine.output.items) (printed_here a t)
          sound.room fits;
    }

-- the thread was started
pub going_started : (a : Inside) (t : ℕ) → IsGoing a t → t < length a.threads.courses
going_started a t g = live_started a.threads.courses t (lives_now a t ∙ g.live)

-- ---- lengths

pub length-parked : (a : Inside) (t : ℕ) (v : ThreadsValue) (m : Machine) → IsSwitched a.threads a.machine t v m
    → length a.threads.parked ≡ 64 → length v.parked ≡ 64
length-parked a t v m s parked =
    sym (length-set v.parked t m.frames) ∙ ap length s.all ∙ length-set a.threads.parked a.machine.thread
    a.machine.frames ∙ parked

-- ---- what a turn leaves of the threads

module _ (program : List ClassListing) (cs : List Course) (parked : List (List Frame)) (few : length cs ≤ length parked)
    (t : ℕ) (here : t < length cs) (old frames : List Frame) (course : Course) where
  abbrev before_it : List Thread
  before_it = take t (threads_in program cs (slice_set parked t old))

  abbrev after_it : List Thread
  after_it = drop (suc t) (threads_in program cs (slice_set parked t old))

  abbrev noted : List Course
  noted = slice_set cs t course

  pub alone-noted : threads_in program noted (slice_set parked t frames) ≡ before_it
      ++ thread_shown program course frames ∷ after_it
  alone-noted =
      let long : length cs ≤ length (slice_set parked t old) = omega (arith, few, length-set parked t old) in
      let many : t < length (threads_in program cs (slice_set parked t old)) = omega (
        arith,
        here,
        length-threads program cs (slice_set parked t old),
      ) in
      ap (threads_in program noted) (sym (set-twice parked t old frames))
      ∙ threads-set program cs (slice_set parked t old) t course frames long
      ∙ set-between (threads_in program cs (slice_set parked t old)) t (thread_shown program course frames) many

  pub begun-noted : (begun : Begun) → length cs < length parked
      → (let v : ThreadsValue = record { courses = noted; parked = parked } in
      threads_in program (begun_as v begun).courses (slice_set (begun_as v begun).parked t frames))
      ≡ (before_it ++ thread_shown program course frames ∷ after_it) ++ thread_begun begun ∷ []
  begun-noted BegunEnded less = threads-ended program noted (slice_set parked t frames)
      ∙ ap (λ ts. ts ++ Ended None ∷ []) alone-noted
  begun-noted (Runs place max_locals max_stack reference) less =
      let first = first_frame place max_locals max_stack reference ∷ [] in
      let same : length noted ≡ length cs = length-set cs t course in
      let apart : length noted ≡ t → ⊥ = λ e. absurd (omega (arith, e, same, here)) in
      let more : length noted < length (slice_set parked t frames) = omega (
        arith,
        same,
        less,
        length-set parked t frames,
      ) in
      ap (threads_in program (noted ++ Live ∷ [])) (set-apart parked (length noted) t first frames apart)
      ∙ threads-more program noted (slice_set parked t frames) Live first more
      ∙ ap (λ ts. ts ++ LiveThread first ∷ []) alone-noted

-- ---- the turn

module _ (a : Inside) (t : ℕ) (sound : Sound a) (g : IsGoing a t) (v : ThreadsValue) (m : Machine)
    (s : IsSwitched a.threads a.machine t v m) where
  here : t < length a.threads.courses
  here = going_started a t g

  within : t < length (threads_now a)
  within = omega (arith, here, length-threads a.program a.threads.courses (all_now a))

  -- the other threads
  abbrev pub scene : Scene
  scene = record { before = take t (threads_now a); after = drop (suc t) (threads_now a); rows = a.rows }

  pub placed : length scene.before ≡ m.thread
  placed = length-before (threads_now a) t within ∙ sym s.thread

  there : slice_get (threads_now a) t ≡ Some (LiveThread m.frames)
  there = thread_got a.program a.threads.courses (all_now a) t Live m.frames (started a t g.live) s.frames

  among : threads_now a ≡ threads_shown scene (LiveThread m.frames)
  among = sym (set-same (threads_now a) t (LiveThread m.frames) there)
      ∙ set-between (threads_now a) t (LiveThread m.frames) within

  pub living : AreIn v.courses (threads_shown scene (LiveThread []))
  living =
      ap (map goes_on) s.courses ∙ are_in a.program a.threads.courses (all_now a) ∙ ap (map is_alive) among
      ∙ alive-between scene.before scene.after m.frames []

  -- the machine on cells before the turn
  abbrev before : CellMachine
  before = shown a.program scene m Live

  before_is : (loaded a).machine ≡ before
  before_is =
      rw (g.faultless, s.slots, s.states, s.heap, s.output)
      (ap (λ threads. machine_shown a.program threads a.machine.slots a.machine.states.items a.machine.heap
      a.machine.output.items None a.rows) among)

  abbrev comes_to : Completion
  comes_to = completion a.program (loaded a).machine.world t

  shown_kept : IsKept a.program before.world m.heap
  shown_kept = rw (s.slots, s.states, s.heap, s.output) (kept a sound (threads_shown scene (LiveThread m.frames)) None)

  pub steps : comes_to ≡ completed a.program m before.world
  steps =
      ap (λ (x : CellMachine). completion a.program x.world t) before_is
      ∙ ap (completion a.program before.world) (sym s.thread)
      ∙ completion_completed a.program before.world m.thread m.heap shown_kept
      ∙ ap (λ fs. completed_at a.program before.world m.thread m.heap (running fs))
      (frames_shown a.program scene m placed)

  -- it has room for what it prints
  pub room_here : HasRoomFor m (printed_at a.program (running m.frames))
  room_here =
      rw s.output (subst (λ fs. HasRoomFor a.machine (printed_at a.program (running fs))) (ap frames_of there) g.fits)

  abbrev seen_of : CellMachine → HeapShape → Loaded
  seen_of machine shape = record { program = a.program; limits = a.limits; shape = shape; machine = machine }

  abbrev seen : CellMachine → Loaded
  seen machine = seen_of machine a.machine.heap.shape

  after_is : after_step (loaded a) t ≡ seen (counted_on (turned_on a.program before m.thread comes_to))
  after_is =
      ap (λ (x : CellMachine). seen (counted_on (turned_on a.program x t comes_to))) before_is
      ∙ ap (λ n. seen (counted_on (turned_on a.program before n comes_to))) (sym s.thread)

  module _ (after : Machine) (result : Result Stepped Fault) (has : TurnsAmong a.program v.courses m after result
      (λ w. completed a.program m w)) where
    pub reported_is : reported_of before m.thread (shown a.program scene after) result
        ≡ turned a.program before m.thread comes_to
    reported_is = has scene placed living ∙ ap (turned a.program before m.thread) (sym steps)

  -- the outcome of the turn
  outcome_is : outcome_on a.program (loaded a).machine (ByThread t) ≡ (turned a.program before m.thread comes_to).1
  outcome_is =
      ap (λ (x : CellMachine). (turned a.program x t comes_to).1) before_is
      ∙ ap (λ n. (turned a.program before n comes_to).1) (sym s.thread)

  -- ---- what is kept

  pub sound_after : (after : Machine) (w : ThreadsValue) → Keeps a.program m after
      → after.heap.births ≤ a.machine.heap.births + 1
      → length w.courses ≤ 64 → length w.parked ≡ 64 → t < length w.courses
      → IsSound a.program a.limits after w (a.rows + 1)
  sound_after after w keeps births few parked begun =
      let slots : length m.slots ≡ length a.machine.slots = ap length s.slots in
      let kept_slots = keeps.slots in
      let capacity : vec_capacity m.output ≡ vec_capacity a.machine.output = ap (λ (v : Vec ℕ Global). vec_capacity v)
      s.output in
      record {
        named = sound.named;
        accepted = sound.accepted;
        room = omega (arith, sound.room, capacity, keeps.capacity);
        steps = sound.steps;
        started = omega (arith, begun, keeps.thread, s.thread);
        few_threads = few;
        parked = parked;
        sized = keeps.states ∙ ap (λ (v : Vec ClassState Global). length v.items) s.states ∙ sound.sized;
        few_slots = omega (arith, sound.few_slots, slots, kept_slots);
        slots_are = kept_slots ∙ slots ∙ sound.slots_are;
        classes = keeps.classes ∙ ap (λ (h : HeapValue). h.classes) s.heap ∙ sound.classes;
        stored = keeps.stored (subst (AreStored a.program) (sym (ap (λ (h : HeapValue). h.objects) s.heap))
            sound.stored);
        births = omega (arith, births, sound.births);
      }

  -- of the threads that a turn leaves
  module _ (parked : length v.parked ≡ 64) where
    sound_begun : (after : Machine) (w : ThreadsValue) (o : Option Begun) → Keeps a.program m after
        → after.heap.births ≤ a.machine.heap.births + 1
        → length w.courses ≡ length a.threads.courses → length w.parked ≡ 64 → IfSome o (CanBegin v.courses)
        → IsSound a.program a.limits after (begun_if w o) (a.rows + 1)
    sound_begun after w None keeps births same all begins =
        sound_after after w keeps births (omega (arith, same, sound.few_threads)) all (omega (arith, same, here))
    sound_begun after w (Some BegunEnded) keeps births same all begins =
        let more = length-append w.courses (Returned ∷ []) in
        let few = ap length s.courses in
        sound_after after (begun_as w BegunEnded) keeps births (omega (arith, same, more, few, begins)) all
        (omega (arith, same, more, here))
    sound_begun after w (Some (Runs place max_locals max_stack reference)) keeps births same all begins =
        let more = length-append w.courses (Live ∷ []) in
        let few = ap length s.courses in
        let frames = first_frame place max_locals max_stack reference ∷ [] in
        sound_after after (begun_as w (Runs place max_locals max_stack reference)) keeps births
        (omega (arith, same, more, few, begins.0))
        (length-set w.parked (length w.courses) frames ∙ all) (omega (arith, same, more, here))

    pub sound_noted : (after : Machine) (stepped : Stepped) → Keeps a.program m after
        → after.heap.births ≤ a.machine.heap.births + 1
        → IfSome stepped.begun (CanBegin v.courses) → IsSound a.program a.limits after (noted_as v t stepped)
        (a.rows + 1)
    sound_noted after stepped keeps births begins =
        sound_begun after (record { courses = slice_set v.courses t stepped.turned.course; parked = v.parked })
        stepped.begun keeps births
        (length-set v.courses t stepped.turned.course ∙ ap length s.courses) parked begins

    pub less_if : (o : Option Begun) → IfSome o (CanBegin v.courses)
        → IfSome o (λ begun. length a.threads.courses < length v.parked)
    less_if None begins = tt
    less_if (Some begun) begins =
        let few = few-begun v.courses begun begins in
        omega (arith, few, ap length s.courses, parked)

    pub enough : length a.threads.courses ≤ length v.parked
    enough = omega (arith, parked, sound.few_threads)

  -- ---- a turn that is done

  module _ (after : Machine) (stepped : Stepped) (has : TurnsAmong a.program v.courses m after (Ok stepped)
      (λ w. completed a.program m w))
      (thread : after.thread ≡ m.thread) (shape : after.heap.shape ≡ m.heap.shape) where
    abbrev left : CellMachine
    left = shown a.program scene after stepped.turned.course

    -- the threads once the turn's course is noted
    abbrev pub noted_in : ThreadsValue
    noted_in = record { courses = slice_set v.courses t stepped.turned.course; parked = v.parked }

    counted : (o : Option Begun) (threads : List Thread) → threads ≡ (with_begun o left).world.threads
        → machine_shown a.program threads after.slots after.states.items after.heap after.output.items None (a.rows + 1)
        ≡ counted_on (with_begun o left)
    counted None threads is = rw is refl
    counted (Some begun) threads is = rw is refl

    abbrev With : ThreadsValue → Option Begun → Type 0
    With w o = all_shown a.program w after.thread after.frames ≡ (with_begun o left).world.threads

    shown_with : (w : ThreadsValue) → With w stepped.begun
        → record {
          program = a.program;
          limits = a.limits;
          shape = after.heap.shape;
          machine = state_shown a.program after w a.fault (a.rows + 1);
        } ≡ after_step (loaded a) t
    shown_with w is =
        let same : after.heap.shape ≡ a.machine.heap.shape = shape ∙ ap (λ (h : HeapValue). h.shape) s.heap in
        ap (seen_of (state_shown a.program after w a.fault (a.rows + 1))) same
        ∙ ap (λ o. seen (state_shown a.program after w o (a.rows + 1))) g.faultless
        ∙ ap seen (counted stepped.begun (all_shown a.program w after.thread after.frames) is)
        ∙ ap (λ (x : CellMachine × Outcome). seen (counted_on x.0)) (reported_is after (Ok stepped) has)
        ∙ sym after_is

    module _ (few : length a.threads.courses ≤ length v.parked) where
      same_frames : slice_set v.parked t m.frames ≡ all_now a
      same_frames = s.all

      alone_with : With noted_in None
      alone_with =
          ap (λ n. threads_in a.program noted_in.courses (slice_set v.parked n after.frames)) (thread ∙ s.thread)
          ∙ ap (λ cs. threads_in a.program (slice_set cs t stepped.turned.course) (slice_set v.parked t after.frames))
          s.courses
          ∙ alone-noted a.program a.threads.courses v.parked few t here m.frames after.frames stepped.turned.course
          ∙ ap (λ all. take t (threads_in a.program a.threads.courses all)
          ++ thread_shown a.program stepped.turned.course after.frames
          ∷ drop (suc t) (threads_in a.program a.threads.courses all)) same_frames

      begun_with : (begun : Begun) → length a.threads.courses < length v.parked
          → With (begun_as noted_in begun) (Some begun)
      begun_with begun less =
          ap (λ n. threads_in a.program (begun_as noted_in begun).courses (slice_set (begun_as noted_in begun).parked n
          after.frames)) (thread ∙ s.thread)
          ∙ ap (λ cs. let w : ThreadsValue = record {
            courses = slice_set cs t stepped.turned.course;
            parked = v.parked;
          } in threads_in a.program (begun_as w begun).courses
          (slice_set (begun_as w begun).parked t after.frames)) s.courses
          ∙ begun-noted a.program a.threads.courses v.parked few t here m.frames after.frames stepped.turned.course
          begun less
          ∙ ap (λ all. (take t (threads_in a.program a.threads.courses all)
          ++ thread_shown a.program stepped.turned.course after.frames
          ∷ drop (suc t) (threads_in a.program a.threads.courses all)) ++ thread_begun begun ∷ []) same_frames

      noted_with : (o : Option Begun) → IfSome o (λ begun. length a.threads.courses < length v.parked)
          → With (begun_if noted_in o) o
      noted_with None less = alone_with
      noted_with (Some begun) less = begun_with begun less

      pub done_shown : IfSome stepped.begun (λ begun. length a.threads.courses < length v.parked)
          → record {
            program = a.program;
            limits = a.limits;
            shape = after.heap.shape;
            machine = state_shown a.program after (noted_as v t stepped) a.fault (a.rows + 1);
          }
          ≡ after_step (loaded a) t
      done_shown less = shown_with (noted_as v t stepped) (noted_with stepped.begun less)

    pub done_outcome : stepped.turned.outcome ≡ outcome_on a.program (loaded a).machine (ByThread t)
    done_outcome = ap (λ (x : CellMachine × Outcome). x.1) (reported_is after (Ok stepped) has) ∙ sym outcome_is

    births_with : (o : Option Begun) → (with_begun o left).births ≡ after.heap.births
    births_with None = refl
    births_with (Some begun) = refl

    pub done_births : after.heap.births ≤ a.machine.heap.births + 1
    done_births =
        let reported = ap (λ (x : CellMachine × Outcome). x.0.births) (reported_is after (Ok stepped) has) in
        let most = turned_births a.program before m.thread comes_to in
        let same : m.heap.births ≡ a.machine.heap.births = ap (λ (h : HeapValue). h.births) s.heap in
        omega (arith, reported, most, same, births_with stepped.begun)

  -- ---- a turn at fault

  module _ (after : Machine) (fault : Fault) (has : TurnsAmong a.program v.courses m after (Err fault)
      (λ w. completed a.program m w))
      (stays : Stays m after) (thread : after.thread ≡ m.thread) where
    still : all_shown a.program v t m.frames ≡ threads_shown scene (LiveThread m.frames)
    still =
        ap (λ cs. threads_in a.program cs (all_frames v t m.frames)) s.courses
        ∙ ap (threads_in a.program a.threads.courses) s.all ∙ among

    still_after : all_shown a.program v after.thread after.frames ≡ threads_shown scene (LiveThread m.frames)
    still_after =
        ap (λ n. all_shown a.program v n after.frames) (thread ∙ s.thread) ∙ ap (all_shown a.program v t) stays.frames
        ∙ still

    still_faulted : state_shown a.program after v (Some (fault, m.thread)) (a.rows + 1)
        ≡ counted_on (faulted_on before m.thread fault)
    still_faulted = rw (stays.slots, stays.states, stays.heap, stays.output, still_after) refl

    pub fault_shown : record {
      program = a.program;
      limits = a.limits;
      shape = after.heap.shape;
      machine = state_shown a.program after v (Some (fault, t)) (a.rows + 1);
    } ≡ after_step (loaded a) t
    fault_shown =
        let same : after.heap.shape ≡ a.machine.heap.shape = ap (λ (h : HeapValue). h.shape) (stays.heap ∙ s.heap) in
        ap (seen_of (state_shown a.program after v (Some (fault, t)) (a.rows + 1))) same
        ∙ ap (λ n. seen (state_shown a.program after v (Some (fault, n)) (a.rows + 1))) (sym s.thread)
        ∙ ap seen still_faulted
        ∙ ap (λ (x : CellMachine × Outcome). seen (counted_on x.0)) (reported_is after (Err fault) has)
        ∙ sym after_is

    pub fault_outcome : FaultOutcome ≡ outcome_on a.program (loaded a).machine (ByThread t)
    fault_outcome = ap (λ (x : CellMachine × Outcome). x.1) (reported_is after (Err fault) has) ∙ sym outcome_is

-- ---- a turn of the collector

pub collected_shown : (a : Inside) → record {
  program = a.program;
  limits = a.limits;
  shape = a.machine.heap.shape;
  machine = machine_shown a.program (threads_now a) a.machine.slots a.machine.states.items
      (collected a.program (threads_now a) a.machine.slots a.machine.heap) a.machine.output.items a.fault (a.rows + 1);
}
    ≡ after_collection (loaded a)
collected_shown a =
    ap (λ (x : CellMachine). let s : Loaded = record {
      program = a.program;
      limits = a.limits;
      shape = a.machine.heap.shape;
      machine = counted_on x;
    } in s)
    (sym (collected_on_shown a.program (threads_now a) a.machine.slots a.machine.states.items a.machine.output.items
    a.fault a.rows a.machine.heap))
