-- Whether a thread of a state is ready, and what its turn prints.
use Rattle.std.proofs.Common.{◌≡◌, ◌⊎◌, inl, inr, ◌<◌, ◌≤◌, ℕ, List, Option, Some, None, Bool, true, false, is_none}
use Rattle.std.proofs.Common.{refl, ap, sym, ◌∙◌, ◌+◌, ◌-◌, arith}
use Rattle.std.specs.Prelude.{◌&&◌, is_some, length, nat_lt, not, slice_get}
use Rattle.std.specs.List.{find, list_any}
use Rattle.std.specs.Option.{option_map}
use Rattle.model.specs.declared.turns.Fault.{Fault}
use Rattle.model.specs.ClassListings.{ClassListing}
use Rattle.model.specs.Completions.{waits}
use Rattle.model.specs.Frames.{Frame, running}
use Rattle.model.specs.Observers.{cyclic_from, status_by, status_in}
use Rattle.model.specs.Ready.{is_ready, some_is_ready, some_lives, thread_numbers}
use Rattle.model.specs.Table.Next.{completion}
use Rattle.model.specs.Turns.{overflows, passes, print_of}
use Rattle.model.specs.Worlds.{Thread, World, frames_at, frames_of, is_live}
use Rattle.instructions.specs.declared.kinds.Course.TheVariants.{Live}
use Rattle.instructions.specs.declared.state.State.TheInside.{Inside}
use Rattle.instructions.specs.Loaded.{IsSound, machine_shown, state_shown}
use Rattle.instructions.specs.Operated.{printed_at, waits_at}
use Rattle.instructions.specs.Threads.{all_frames, goes_on, lives_in, numbers_between, numbers_up, threads_in}
use Rattle.instructions.proofs.CyclicLemmas.{cyclic-first, cyclic-second, numbers-of, some-found, some-lives}
use Rattle.instructions.proofs.Stepping.{IsKept, print_completed, waits_completed}
use Rattle.instructions.proofs.ThreadLemmas.{are_in, length-threads, live_started, lives_as, lives_live, some_alive}
use Rattle.instructions.proofs.ThreadLemmas.{thread_got}

-- a thread that is ready lives
pub ready_lives : (program : List ClassListing) (w : World) (t : ℕ) → is_ready program w t ≡ true → is_live w t ≡ true
ready_lives program w t e = second (is_none w.fault) (is_live w t)
    (first (is_none w.fault && is_live w t) (not (waits (completion program w t))) e) where
      first : (a b : Bool) → (a && b) ≡ true → a ≡ true
      first true b e = refl
      first false b e = cc

      second : (a b : Bool) → (a && b) ≡ true → b ≡ true
      second true b e = e
      second false b e = cc

-- whether so many bytes more pass a limit
abbrev pub passes_with : ℕ → List ℕ → Option ℕ → Bool
passes_with limit output None = false
passes_with limit output (Some n) = nat_lt limit (length output + n)

passes-length : (limit : ℕ) (output : List ℕ) (line : Option (List ℕ)) → passes limit output line
    ≡ passes_with limit output (option_map length line)
passes-length limit output None = refl
passes-length limit output (Some line) = refl

module _ (a : Inside) where
  -- the frames of all threads
  abbrev pub all_now : List (List Frame)
  all_now = all_frames a.threads a.machine.thread a.machine.frames

  abbrev pub threads_now : List Thread
  threads_now = threads_in a.program a.threads.courses all_now

  -- the world that the state shows
  abbrev pub now : World
  now = (state_shown a.program a.machine a.threads a.fault a.rows).world

  -- a thread that lives was started, and its frames are among those of all
  pub started : (t : ℕ) → is_live now t ≡ true → slice_get a.threads.courses t ≡ Some Live
  started t e = lives_live a.threads.courses t (lives_as a.program a.threads.courses all_now t ∙ e)

  pub lives_now : (t : ℕ) → lives_in a.threads.courses t ≡ is_live now t
  lives_now t = lives_as a.program a.threads.courses all_now t

  pub frames_now : (t : ℕ) (frames : List Frame) → is_live now t ≡ true → slice_get all_now t ≡ Some frames
      → frames_at now t ≡ frames
  frames_now t frames live own = ap frames_of (thread_got a.program a.threads.courses all_now t Live frames
      (started t live) own)

  pub counted_now : length threads_now ≡ length a.threads.courses
  counted_now = length-threads a.program a.threads.courses all_now

  -- how the world stands
  pub stands : (faulted lives ready : Bool) → is_some a.fault ≡ faulted → list_any goes_on a.threads.courses ≡ lives
      → some_is_ready a.program now ≡ ready
      → status_by faulted lives ready ≡ status_in a.program now
  stands faulted lives ready f l r =
      let same : some_lives now ≡ lives = sym (some_alive a.program a.threads.courses all_now ∙ some-lives threads_now)
      ∙ l in
      sym (ap (λ b. status_by b (some_lives now) (some_is_ready a.program now)) f
      ∙ ap (λ b. status_by faulted b (some_is_ready a.program now)) same
      ∙ ap (status_by faulted lives) r)

  pub some_ready : (n : ℕ) → n ≡ length a.threads.courses
      → is_some (find (is_ready a.program now) (numbers_between 0 n)) ≡ some_is_ready a.program now
  some_ready n is =
      some-found (is_ready a.program now) (numbers_between 0 n)
      ∙ ap (λ n. list_any (is_ready a.program now) (numbers_up 0 n))
      (let all : n - 0 ≡ length threads_now = omega (arith, is, counted_now) in all)
      ∙ ap (list_any (is_ready a.program now)) (sym (numbers-of 0 threads_now))

  pub some_held : (p : ℕ → Bool) (n : ℕ) → n ≡ length a.threads.courses → list_any p (numbers_between 0 n)
      ≡ list_any p (thread_numbers now)
  some_held p n is =
      ap (λ n. list_any p (numbers_up 0 n)) (let all : n - 0 ≡ length threads_now = omega (arith, is, counted_now)
      in all) ∙ ap (list_any p) (sym (numbers-of 0 threads_now))

  -- the numbers of threads in cyclic order, from where the last one is at most
  abbrev pub StartsAt : ℕ → ℕ → Type 0
  StartsAt start within = (start ≡ within) ⊎ ((length threads_now ≤ start) × (within ≡ length threads_now))

  module _ (start within count : ℕ) (counts : count ≡ length a.threads.courses) (least : (within ≤ start)
      × (within ≤ count))
      (either : (within ≡ start) ⊎ (within ≡ count)) where
    abbrev ready : ℕ → Bool
    ready = is_ready a.program now

    many : count ≡ length threads_now
    many = counts ∙ sym counted_now

    starts : StartsAt start within
    starts = by either
      where
        by : (within ≡ start) ⊎ (within ≡ count) → StartsAt start within
        by (inl here) = inl (sym here)
        by (inr past) = inr (omega (arith, least.0, past, many), past ∙ many)

    pub first_ready : (n : ℕ) → Some n ≡ find ready (numbers_between within count)
        → Some n ≡ find ready (cyclic_from start (thread_numbers now))
    first_ready n found =
        cyclic-first ready start within threads_now (omega (arith, least.1, many)) starts n (found
        ∙ ap (λ to. find ready (numbers_between within to)) many)

    pub second_ready : None ≡ find ready (numbers_between within count)
        → find ready (numbers_between 0 within) ≡ find ready (cyclic_from start (thread_numbers now))
    second_ready none =
        cyclic-second ready start within threads_now (omega (arith, least.1, many)) starts (none
        ∙ ap (λ to. find ready (numbers_between within to)) many)

  module _ (sound : IsSound a.program a.limits a.machine a.threads a.rows) where
    -- a world with other threads is one that the code keeps by numbers
    pub kept : (threads : List Thread) (fault : Option (Fault × ℕ))
        → IsKept a.program (machine_shown a.program threads a.machine.slots a.machine.states.items a.machine.heap
        a.machine.output.items fault a.rows).world a.machine.heap
    kept threads fault = record {
      accepted = sound.accepted;
      names = sound.named;
      slots = a.machine.slots;
      objects_are = refl;
      stored = sound.stored;
      fields_are = refl;
      slots_fit = sound.slots_are;
      sized = sound.sized;
    }

    pub few_live : (t : ℕ) → is_live now t ≡ true → t < 64
    few_live t e =
        let there : t < length a.threads.courses = live_started a.threads.courses t (lives_now t ∙ e) in
        omega (arith, there, sound.few_threads)

    -- a thread waits where the machine's parts tell so
    pub waits_now : (t : ℕ) → waits_at a.program a.threads.courses a.machine t (running (frames_at now t))
        ≡ waits (completion a.program now t)
    waits_now t =
        sym (waits_completed a.program a.threads.courses now a.machine t (kept threads_now a.fault) refl
        (are_in a.program a.threads.courses all_now))

    -- it prints what its step does
    pub reported_now : (t : ℕ) → print_of a.program now t ≡ printed_at a.program (running (frames_at now t))
    reported_now t = print_completed a.program now t a.machine.heap (kept threads_now a.fault)

    pub overflows_shown : (t : ℕ) (frames : List Frame) → frames_at now t ≡ frames → (n : Option ℕ)
        → n ≡ option_map length (printed_at a.program (running frames))
        → passes_with a.limits.output a.machine.output.items n ≡ overflows a.program a.limits now t
    overflows_shown t frames own n is =
        ap (passes_with a.limits.output a.machine.output.items) is
        ∙ sym (passes-length a.limits.output a.machine.output.items (printed_at a.program (running frames)))
        ∙ ap (λ fs. passes a.limits.output a.machine.output.items (printed_at a.program (running fs))) (sym own)
        ∙ ap (passes a.limits.output a.machine.output.items) (sym (reported_now t))
