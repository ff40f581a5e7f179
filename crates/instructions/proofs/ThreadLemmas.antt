-- Threads of a state as a world has them.
use Rattle.std.proofs.Common.{◌≡◌, ◌<◌, ◌≤◌, ◌-◌, arith, ℕ, zero, suc, List, [], ◌∷◌, ◌++◌, length, map, take, drop}
use Rattle.std.proofs.Common.{Bool, true, false, ◌||◌, Option, Some, None, refl, ap, sym, ◌∙◌}
use Rattle.std.specs.List.{list_any}
use Rattle.std.specs.Prelude.{replicate, slice_get, slice_index_or, slice_set}
use Rattle.std.proofs.lemmas.List.{length-append}
use Rattle.model.specs.ClassListings.{ClassListing}
use Rattle.model.specs.Frames.{Frame}
use Rattle.model.specs.Worlds.{Thread, frames_of, lives}
use Rattle.model.specs.Worlds.Thread.{Live as LiveThread, Ended}
use Rattle.instructions.specs.declared.acting.Begun.{Begun}
use Rattle.instructions.specs.declared.acting.Begun.TheVariants.{Ended as BegunEnded, Runs}
use Rattle.instructions.specs.declared.kinds.Course.{Course}
use Rattle.instructions.specs.declared.kinds.Course.TheVariants.{Live, Returned, Threw}
use Rattle.instructions.specs.Acting.{AreIn, CanBegin, is_alive}
use Rattle.instructions.specs.Shown.{thread_shown}
use Rattle.instructions.specs.Threads.{AreThreads, goes_on, lives_in, threads_in}

-- ---- lists

pub set-twice : {A : Type 0} (xs : List A) (n : ℕ) (x y : A) → slice_set (slice_set xs n x) n y ≡ slice_set xs n y
set-twice [] n x y = refl
set-twice (z ∷ zs) zero x y = refl
set-twice (z ∷ zs) (suc n) x y = ap (λ r. z ∷ r) (set-twice zs n x y)

pub set-same : {A : Type 0} (xs : List A) (n : ℕ) (x : A) → slice_get xs n ≡ Some x → slice_set xs n x ≡ xs
set-same [] n x e = cc
set-same (z ∷ zs) zero x e = let same : z ≡ x = cc in ap (λ r. r ∷ zs) (sym same)
set-same (z ∷ zs) (suc n) x e = ap (λ r. z ∷ r) (set-same zs n x e)

pub set-apart : {A : Type 0} (xs : List A) (n m : ℕ) (x y : A) → (n ≡ m → ⊥) → slice_set (slice_set xs n x) m y
    ≡ slice_set (slice_set xs m y) n x
set-apart [] n m x y other = refl
set-apart (z ∷ zs) zero zero x y other = absurd (other refl)
set-apart (z ∷ zs) zero (suc m) x y other = refl
set-apart (z ∷ zs) (suc n) zero x y other = refl
set-apart (z ∷ zs) (suc n) (suc m) x y other = ap (λ r. z ∷ r) (set-apart zs n m x y (λ e. other (ap suc e)))

pub set-between : {A : Type 0} (xs : List A) (n : ℕ) (x : A) → n < length xs → slice_set xs n x ≡ take n xs
    ++ x ∷ drop (suc n) xs
set-between [] n x e = absurd (omega (arith, e))
set-between (z ∷ zs) zero x e = refl
set-between (z ∷ zs) (suc n) x e = ap (λ r. z ∷ r) (set-between zs n x (omega (arith, e)))

pub length-before : {A : Type 0} (xs : List A) (n : ℕ) → n < length xs → length (take n xs) ≡ n
length-before [] n e = absurd (omega (arith, e))
length-before (z ∷ zs) zero e = refl
length-before (z ∷ zs) (suc n) e = ap suc (length-before zs n (omega (arith, e)))

pub drop-set : {A : Type 0} (xs : List A) (n m : ℕ) (x : A) → m < n → drop n (slice_set xs m x) ≡ drop n xs
drop-set [] n m x e = refl
drop-set (z ∷ zs) zero m x e = absurd (omega (arith, e))
drop-set (z ∷ zs) (suc n) zero x e = refl
drop-set (z ∷ zs) (suc n) (suc m) x e = drop-set zs n m x (omega (arith, e))

pub drop-more : {A : Type 0} (xs : List A) (n m : ℕ) (x : A) → drop n xs ≡ replicate (suc m) x → drop (suc n) xs
    ≡ replicate m x
drop-more [] zero m x e = cc
drop-more [] (suc n) m x e = cc
drop-more (z ∷ zs) zero m x e = cc
drop-more (z ∷ zs) (suc n) m x e = drop-more zs n m x e

pub get-dropped : {A : Type 0} (xs : List A) (n m : ℕ) (x : A) → drop n xs ≡ replicate (suc m) x → slice_get xs n
    ≡ Some x
get-dropped [] zero m x e = cc
get-dropped [] (suc n) m x e = cc
get-dropped (z ∷ zs) zero m x e = cc
get-dropped (z ∷ zs) (suc n) m x e = get-dropped zs n m x e

pub index-is : {A : Type 0} (xs : List A) (n : ℕ) (x d : A) → slice_get xs n ≡ Some x → slice_index_or xs n d ≡ x
index-is [] n x d e = cc
index-is (z ∷ zs) zero x d e = cc
index-is (z ∷ zs) (suc n) x d e = index-is zs n x d e

-- ---- one thread more

pub threads-grown : (cs more : List Course) (all new : List (List Frame)) (c : Course) (capacity grown : ℕ)
    → AreThreads cs all capacity
    → length cs < 64 → capacity ≤ grown → more ≡ cs ++ c ∷ [] → length new ≡ length all → drop (suc (length cs)) new
    ≡ drop (suc (length cs)) all
    → AreThreads more new grown
threads-grown cs more all new c capacity grown threads few room is long same =
    let count : length more ≡ suc (length cs) = ap length is ∙ length-append cs (c ∷ []) ∙ omega arith in
    let left : 64 - length cs ≡ suc (64 - suc (length cs)) = omega (arith, few) in
    let fresh : drop (suc (length cs)) all ≡ replicate (64 - suc (length cs)) [] =
    drop-more all (length cs) (64 - suc (length cs)) [] (threads.fresh ∙ ap (λ n. replicate n []) left) in
    record {
      room = omega (arith, threads.room, room);
      few = omega (arith, few, count);
      all = long ∙ threads.all;
      fresh = rw count (same ∙ fresh);
    }

pub first-fresh : (cs : List Course) (all : List (List Frame)) (capacity : ℕ) → AreThreads cs all capacity
    → length cs < 64
    → slice_get all (length cs) ≡ Some []
first-fresh cs all capacity threads few =
    let left : 64 - length cs ≡ suc (64 - suc (length cs)) = omega (arith, few) in
    get-dropped all (length cs) (64 - suc (length cs)) [] (threads.fresh ∙ ap (λ n. replicate n []) left)

-- ---- a thread by its course and its frames

module _ (program : List ClassListing) where
  pub thread_got : (cs : List Course) (all : List (List Frame)) (t : ℕ) (course : Course) (frames : List Frame)
      → slice_get cs t ≡ Some course → slice_get all t ≡ Some frames → slice_get (threads_in program cs all) t
      ≡ Some (thread_shown program course frames)
  thread_got [] all t course frames started own = cc
  thread_got (c ∷ cs) [] t course frames started own = cc
  thread_got (c ∷ cs) (f ∷ fs) zero course frames started own =
      let same : c ≡ course = cc in
      let frames_same : f ≡ frames = cc in
      rw (same, frames_same) refl
  thread_got (c ∷ cs) (f ∷ fs) (suc t) course frames started own = thread_got cs fs t course frames started own

  -- of a thread that has ended no frames are told
  pub ended_got : (cs : List Course) (all : List (List Frame)) (t : ℕ) (course : Course) → slice_get cs t ≡ Some course
      → goes_on course ≡ false
      → slice_get (threads_in program cs all) t ≡ Some (thread_shown program course [])
  ended_got [] all t course started ended = cc
  ended_got (c ∷ cs) [] zero course started ended = let same : c ≡ course = cc in rw same refl
  ended_got (c ∷ cs) [] (suc t) course started ended = ended_got cs [] t course started ended
  ended_got (c ∷ cs) (f ∷ fs) zero Live started ended = cc
  ended_got (c ∷ cs) (f ∷ fs) zero Returned started ended = let same : c ≡ Returned = cc in rw same refl
  ended_got (c ∷ cs) (f ∷ fs) zero (Threw kind) started ended = let same : c ≡ Threw kind = cc in rw same refl
  ended_got (c ∷ cs) (f ∷ fs) (suc t) course started ended = ended_got cs fs t course started ended

  pub none_got : (cs : List Course) (all : List (List Frame)) (t : ℕ) → slice_get cs t ≡ None
      → slice_get (threads_in program cs all) t ≡ None
  none_got [] all t e = refl
  none_got (c ∷ cs) all zero e = cc
  none_got (c ∷ cs) [] (suc t) e = none_got cs [] t e
  none_got (c ∷ cs) (f ∷ fs) (suc t) e = none_got cs fs t e

  lives_shown : (c : Course) (frames : List Frame) → goes_on c ≡ lives (Some (thread_shown program c frames))
  lives_shown Live frames = refl
  lives_shown Returned frames = refl
  lives_shown (Threw kind) frames = refl

  pub lives_as : (cs : List Course) (all : List (List Frame)) (t : ℕ) → lives_in cs t
      ≡ lives (slice_get (threads_in program cs all) t)
  lives_as [] all t = refl
  lives_as (c ∷ cs) [] zero = lives_shown c []
  lives_as (c ∷ cs) [] (suc t) = lives_as cs [] t
  lives_as (c ∷ cs) (f ∷ fs) zero = lives_shown c f
  lives_as (c ∷ cs) (f ∷ fs) (suc t) = lives_as cs fs t

  pub some_alive : (cs : List Course) (all : List (List Frame)) → list_any goes_on cs
      ≡ list_any (λ t. lives (Some t)) (threads_in program cs all)
  some_alive [] all = refl
  some_alive (c ∷ cs) [] = rw (some_alive cs [])
      (ap (λ b. b || list_any (λ t. lives (Some t)) (threads_in program cs [])) (lives_shown c []))
  some_alive (c ∷ cs) (f ∷ fs) = rw (some_alive cs fs)
      (ap (λ b. b || list_any (λ t. lives (Some t)) (threads_in program cs fs)) (lives_shown c f))

  no_frames : (c : Course) (frames : List Frame) → goes_on c ≡ false → frames_of (Some (thread_shown program c frames))
      ≡ []
  no_frames Live frames e = cc
  no_frames Returned frames e = refl
  no_frames (Threw kind) frames e = refl

  -- a thread that doesn't live has no frames
  pub dead_frames : (cs : List Course) (all : List (List Frame)) (t : ℕ) → lives_in cs t ≡ false
      → frames_of (slice_get (threads_in program cs all) t) ≡ []
  dead_frames [] all t e = refl
  dead_frames (c ∷ cs) [] zero e = no_frames c [] e
  dead_frames (c ∷ cs) [] (suc t) e = dead_frames cs [] t e
  dead_frames (c ∷ cs) (f ∷ fs) zero e = no_frames c f e
  dead_frames (c ∷ cs) (f ∷ fs) (suc t) e = dead_frames cs fs t e

  pub length-threads : (cs : List Course) (all : List (List Frame)) → length (threads_in program cs all) ≡ length cs
  length-threads [] all = refl
  length-threads (c ∷ cs) [] = ap suc (length-threads cs [])
  length-threads (c ∷ cs) (f ∷ fs) = ap suc (length-threads cs fs)

  -- one thread comes into a course, with other frames
  pub threads-set : (cs : List Course) (all : List (List Frame)) (t : ℕ) (course : Course) (frames : List Frame)
      → length cs ≤ length all
      → threads_in program (slice_set cs t course) (slice_set all t frames)
      ≡ slice_set (threads_in program cs all) t (thread_shown program course frames)
  threads-set [] all t course frames few = refl
  threads-set (c ∷ cs) [] t course frames few = absurd (omega (arith, few))
  threads-set (c ∷ cs) (f ∷ fs) zero course frames few = refl
  threads-set (c ∷ cs) (f ∷ fs) (suc t) course frames few =
      ap (λ (ts : List Thread). thread_shown program c f ∷ ts) (threads-set cs fs t course frames (omega (arith, few)))

  -- one thread more
  pub threads-more : (cs : List Course) (all : List (List Frame)) (course : Course) (frames : List Frame)
      → length cs < length all
      → threads_in program (cs ++ course ∷ []) (slice_set all (length cs) frames) ≡ threads_in program cs all
      ++ thread_shown program course frames ∷ []
  threads-more [] [] course frames few = absurd (omega (arith, few))
  threads-more [] (f ∷ fs) course frames few = refl
  threads-more (c ∷ cs) [] course frames few = absurd (omega (arith, few))
  threads-more (c ∷ cs) (f ∷ fs) course frames few =
      ap (λ (ts : List Thread). thread_shown program c f ∷ ts) (threads-more cs fs course frames (omega (arith, few)))

  -- which has ended at once
  pub threads-ended : (cs : List Course) (all : List (List Frame))
      → threads_in program (cs ++ Returned ∷ []) all ≡ threads_in program cs all ++ Ended None ∷ []
  threads-ended [] [] = refl
  threads-ended [] (f ∷ fs) = refl
  threads-ended (c ∷ cs) [] = ap (λ (ts : List Thread). thread_shown program c [] ∷ ts) (threads-ended cs [])
  threads-ended (c ∷ cs) (f ∷ fs) = ap (λ (ts : List Thread). thread_shown program c f ∷ ts) (threads-ended cs fs)

  alive_shown : (c : Course) (frames : List Frame) → goes_on c ≡ is_alive (thread_shown program c frames)
  alive_shown Live frames = refl
  alive_shown Returned frames = refl
  alive_shown (Threw kind) frames = refl

  pub are_in : (cs : List Course) (all : List (List Frame)) → AreIn cs (threads_in program cs all)
  are_in [] all = refl
  are_in (c ∷ cs) [] = rw (are_in cs []) (ap (λ b. b ∷ map is_alive (threads_in program cs [])) (alive_shown c []))
  are_in (c ∷ cs) (f ∷ fs) = rw (are_in cs fs) (ap (λ b. b ∷ map is_alive (threads_in program cs fs)) (alive_shown c f))

-- which threads live doesn't go by the frames of one
pub alive-between : (before after : List Thread) (f g : List Frame) → map is_alive (before ++ LiveThread f ∷ after)
    ≡ map is_alive (before ++ LiveThread g ∷ after)
alive-between [] after f g = refl
alive-between (b ∷ bs) after f g = ap (λ (r : List Bool). is_alive b ∷ r) (alive-between bs after f g)

-- ---- courses

pub lives_live : (cs : List Course) (t : ℕ) → lives_in cs t ≡ true → slice_get cs t ≡ Some Live
lives_live [] t e = cc
lives_live (Live ∷ cs) zero e = refl
lives_live (Returned ∷ cs) zero e = cc
lives_live (Threw kind ∷ cs) zero e = cc
lives_live (c ∷ cs) (suc t) e = lives_live cs t e

pub live_started : (cs : List Course) (t : ℕ) → lives_in cs t ≡ true → t < length cs
live_started [] t e = cc
live_started (c ∷ cs) zero e = omega arith
live_started (c ∷ cs) (suc t) e = let more = live_started cs t e in omega (arith, more)

-- whether a thread may begin goes by how many were started
pub begins-as : (cs more : List Course) (begun : Begun) → length more ≡ length cs → CanBegin cs begun
    → CanBegin more begun
begins-as cs more BegunEnded same may = rw same may
begins-as cs more (Runs place max_locals max_stack reference) same may = rw same may

pub few-begun : (cs : List Course) (begun : Begun) → CanBegin cs begun → length cs < 64
few-begun cs BegunEnded may = may
few-begun cs (Runs place max_locals max_stack reference) may = may.0

-- a thread that lives, by its frames
pub live_thread : (o : Option Thread) → lives o ≡ true → o ≡ Some (LiveThread (frames_of o))
live_thread None e = cc
live_thread (Some (LiveThread frames)) e = refl
live_thread (Some (Ended class)) e = cc
