use Rattle.std.specs.Prelude.{◌≡◌, ◌≤◌, ◌+◌, ◌-◌, ℕ, zero, suc, Bool, true, false, slice_get, List, [], ◌∷◌, ◌++◌, drop}
use Rattle.std.specs.Prelude.{length, replicate, slice_set, Option, Some, None}
use Rattle.std.specs.Option.{option_map_or}
use Rattle.model.specs.ClassListings.{ClassListing}
use Rattle.model.specs.Frames.{Frame}
use Rattle.model.specs.declared.places.MethodPlace.{MethodPlace}
use Rattle.model.specs.declared.values.Value.TheVariants.{Ref}
use Rattle.model.specs.Locals.{called_frame}
use Rattle.model.specs.Worlds.{Thread}
use Rattle.instructions.specs.declared.acting.Begun.{Begun}
use Rattle.instructions.specs.declared.acting.Begun.TheVariants.{Ended as BegunEnded, Runs}
use Rattle.instructions.specs.declared.acting.Stepped.{Stepped}
use Rattle.instructions.specs.declared.kinds.Course.{Course}
use Rattle.instructions.specs.declared.kinds.Course.TheVariants.{Live, Returned, Threw}
use Rattle.instructions.specs.Shown.{thread_shown}

-- The threads that were started, and the frames of each.

-- the courses of the threads that were started, by their numbers, and the frames of all that can be started. In the
-- place of the thread that the machine runs stand frames that are nobody's
pub record ThreadsValue : Type 0 where
  pub courses : List Course
  pub parked : List (List Frame)

-- the frames of all, the running thread's being those of the machine
abbrev pub all_frames : ThreadsValue → ℕ → List Frame → List (List Frame)
all_frames threads running frames = slice_set threads.parked running frames

-- threads as a world has them
abbrev pub threads_in : List ClassListing → List Course → List (List Frame) → List Thread
threads_in program [] all = []
threads_in program (course ∷ courses) [] = thread_shown program course [] ∷ threads_in program courses []
threads_in program (course ∷ courses) (frames ∷ all) = thread_shown program course frames ∷ threads_in program courses
    all

abbrev pub all_shown : List ClassListing → ThreadsValue → ℕ → List Frame → List Thread
all_shown program threads running frames = threads_in program threads.courses (all_frames threads running frames)

-- whether a thread was started and goes on
abbrev pub goes_on : Course → Bool
goes_on Live = true
goes_on Returned = false
goes_on (Threw kind) = false

abbrev pub lives_in : List Course → ℕ → Bool
lives_in courses thread = option_map_or goes_on (slice_get courses thread) false

-- it does, and has these frames
pub record LivesWith (threads : ThreadsValue) (running : ℕ) (frames : List Frame) (thread : ℕ)
    (lent : List Frame) : Type 0 where
  pub live : slice_get threads.courses thread ≡ Some Live
  pub own : slice_get (all_frames threads running frames) thread ≡ Some lent

-- 64 threads may be started, and one that wasn't has no frames
pub record AreThreads (courses : List Course) (parked : List (List Frame)) (capacity : ℕ) : Type 0 where
  pub room : 64 ≤ capacity
  pub few : length courses ≤ 64
  pub all : length parked ≡ 64
  pub fresh : drop (length courses) parked ≡ replicate (64 - length courses) []

-- at the start of a method, with an object in the first local
abbrev pub first_frame : MethodPlace → ℕ → ℕ → ℕ → Frame
first_frame place max_locals max_stack reference = called_frame place max_locals max_stack (Ref (Some reference) ∷ [])

-- one thread more, the last
abbrev pub begun_as : ThreadsValue → Begun → ThreadsValue
begun_as threads BegunEnded = record { courses = threads.courses ++ Returned ∷ []; parked = threads.parked }
begun_as threads (Runs place max_locals max_stack reference) = record {
  courses = threads.courses ++ Live ∷ [];
  parked = slice_set threads.parked (length threads.courses) (first_frame place max_locals max_stack reference ∷ []);
}

abbrev pub begun_if : ThreadsValue → Option Begun → ThreadsValue
begun_if threads None = threads
begun_if threads (Some begun) = begun_as threads begun

-- a thread has made a turn
abbrev pub noted_as : ThreadsValue → ℕ → Stepped → ThreadsValue
noted_as threads thread stepped =
    begun_if (record { courses = slice_set threads.courses thread stepped.turned.course; parked = threads.parked })
    stepped.begun

-- the first thread has made a turn that came to this, or none
abbrev pub noted_last : ThreadsValue → Option Stepped → ThreadsValue
noted_last threads None = threads
noted_last threads (Some stepped) = noted_as threads 0 stepped

-- the numbers from one up to another
abbrev pub numbers_up : ℕ → ℕ → List ℕ
numbers_up n zero = []
numbers_up n (suc count) = n ∷ numbers_up (n + 1) count

abbrev pub numbers_between : ℕ → ℕ → List ℕ
numbers_between from to = numbers_up from (to - from)
