use Rattle.std.proofs.Common.{◌≡◌, ℕ, zero, suc, ◌+◌, ◌<◌, ◌≤◌, ◌-◌, List, [], ◌∷◌, ◌++◌, length, drop, slice_get}
use Rattle.std.proofs.Common.{Option, Some, None, refl, sym, ◌∙◌, ap, arith}
use Rattle.std.proofs.lemmas.List.{drop_all}
use Rattle.std.specs.List.{flat_map}
use Rattle.model.specs.Frames.{Frame}
use Rattle.model.specs.Worlds.{World, Thread, frames_of}
use Rattle.model.specs.Collector.Places.{ref_at, words_of}
use Rattle.model.specs.Collector.Reached.{roots_of_frame, roots_of_thread}
use Rattle.collector.specs.Reaching.{Marking, all_noted, noted, roots_at, spread, with_listed}

-- References are noted one after another: from a place of their list on, one is noted, and then those after it.

pub noted-append : (m : Marking) (xs ys : List (Option ℕ)) → all_noted m (xs ++ ys) ≡ all_noted (all_noted m xs) ys
noted-append m [] ys = refl
noted-append m (x ∷ xs) ys = noted-append (noted m x) xs ys

-- ---- references

next_from : (m : Marking) (rs : List (Option ℕ)) (n : ℕ) → n < length rs
    → all_noted (noted m (ref_at rs n)) (drop (suc n) rs) ≡ all_noted m (drop n rs)
next_from m [] n within = absurd (omega (arith, within))
next_from m (r ∷ rs) zero within = refl
next_from m (r ∷ rs) (suc n) within = next_from m rs n (omega (arith, within))

pub next_noted : (m : Marking) (rs : List (Option ℕ)) (n : ℕ) → n < length rs
    → all_noted (noted m (ref_at rs n)) (drop (n + 1) rs) ≡ all_noted m (drop n rs)
next_noted m rs n within = let next : n + 1 ≡ suc n = omega arith in rw next (next_from m rs n within)

pub none_left : (m : Marking) (rs : List (Option ℕ)) (n : ℕ) → length rs ≤ n → all_noted m (drop n rs) ≡ m
none_left m rs n past = ap (all_noted m) (drop_all n rs past)

-- the reference at a place is noted, where there are so many
pub step : (rs : List (Option ℕ)) (n end : ℕ) (m new : Marking) (o : Option ℕ) → new ≡ noted m o → o ≡ ref_at rs n
    → n < end → end ≡ length rs → all_noted new (drop (n + 1) rs) ≡ all_noted m (drop n rs)
step rs n end m new o is found below count = rw (is, found) (next_noted m rs n (omega (arith, below, count)))

-- ---- frames

next_frame_from : (m : Marking) (frames : List Frame) (d : ℕ) → d < length frames
    → all_noted (all_noted m (roots_at frames d)) (flat_map roots_of_frame (drop (suc d) frames))
    ≡ all_noted m (flat_map roots_of_frame (drop d frames))
next_frame_from m [] d within = absurd (omega (arith, within))
next_frame_from m (f ∷ frames) zero within = sym (noted-append m (roots_of_frame f) (flat_map roots_of_frame frames))
next_frame_from m (f ∷ frames) (suc d) within = next_frame_from m frames d (omega (arith, within))

pub next_frame : (m : Marking) (frames : List Frame) (d : ℕ) → d < length frames
    → all_noted (all_noted m (roots_at frames d)) (flat_map roots_of_frame (drop (d + 1) frames))
    ≡ all_noted m (flat_map roots_of_frame (drop d frames))
next_frame m frames d within = let next : d + 1 ≡ suc d = omega arith in rw next (next_frame_from m frames d within)

pub frame_step : (frames : List Frame) (d end : ℕ) (m new : Marking) → new ≡ all_noted m (roots_at frames d) → d < end
    → end ≡ length frames → all_noted new (flat_map roots_of_frame (drop (d + 1) frames))
    ≡ all_noted m (flat_map roots_of_frame (drop d frames))
frame_step frames d end m new is below count = rw is (next_frame m frames d (omega (arith, below, count)))

pub no_frame_left : (m : Marking) (frames : List Frame) (d : ℕ) → length frames ≤ d
    → all_noted m (flat_map roots_of_frame (drop d frames)) ≡ m
no_frame_left m frames d past = ap (λ fs. all_noted m (flat_map roots_of_frame fs)) (drop_all d frames past)

-- ---- threads

next_thread_from : (m : Marking) (threads : List Thread) (t : ℕ) → t < length threads
    → all_noted (all_noted m (flat_map roots_of_frame (frames_of (slice_get threads t))))
    (flat_map roots_of_thread (drop (suc t) threads)) ≡ all_noted m (flat_map roots_of_thread (drop t threads))
next_thread_from m [] t within = absurd (omega (arith, within))
next_thread_from m (x ∷ threads) zero within = sym
    (noted-append m (roots_of_thread x) (flat_map roots_of_thread threads))
next_thread_from m (x ∷ threads) (suc t) within = next_thread_from m threads t (omega (arith, within))

pub next_thread : (m : Marking) (threads : List Thread) (t : ℕ) → t < length threads
    → all_noted (all_noted m (flat_map roots_of_frame (frames_of (slice_get threads t))))
    (flat_map roots_of_thread (drop (t + 1) threads)) ≡ all_noted m (flat_map roots_of_thread (drop t threads))
next_thread m threads t within = let next : t + 1 ≡ suc t = omega arith in rw next (next_thread_from m threads t within)

pub thread_step : (threads : List Thread) (t end : ℕ) (m new : Marking)
    → new ≡ all_noted m (flat_map roots_of_frame (frames_of (slice_get threads t))) → t < end → end ≡ length threads
    → all_noted new (flat_map roots_of_thread (drop (t + 1) threads))
    ≡ all_noted m (flat_map roots_of_thread (drop t threads))
thread_step threads t end m new is below count = rw is (next_thread m threads t (omega (arith, below, count)))

pub no_thread_left : (m : Marking) (threads : List Thread) (t : ℕ) → length threads ≤ t
    → all_noted m (flat_map roots_of_thread (drop t threads)) ≡ m
no_thread_left m threads t past = ap (λ ts. all_noted m (flat_map roots_of_thread ts)) (drop_all t threads past)

-- ---- what was noted

module _ (w : World) where
  spread_by : (steps n : ℕ) (m : Marking) (k : ℕ) → k ≡ suc steps → spread w k n m
      ≡ with_listed m (slice_get m.list n) (λ r. spread w steps (suc n) (all_noted m (words_of w.objects r)))
  spread_by steps n m k is = rw is refl

  -- one more of them is looked at
  pub spread_next : (count n : ℕ) (m : Marking) (r : ℕ) → n < count → Some r ≡ slice_get m.list n
      → spread w (count - (n + 1)) (n + 1) (all_noted m (words_of w.objects r)) ≡ spread w (count - n) n m
  spread_next count n m r within is =
      let next : n + 1 ≡ suc n = omega arith in
      let more : count - n ≡ suc (count - (n + 1)) = omega (arith, within) in
      ap (λ k. spread w (count - (n + 1)) k (all_noted m (words_of w.objects r))) next
      ∙ ap (λ o. with_listed m o (λ b. spread w (count - (n + 1)) (suc n) (all_noted m (words_of w.objects b)))) is
      ∙ sym (spread_by (count - (n + 1)) n m (count - n) more)

  pub spread_step : (count n : ℕ) (m new : Marking) (r : ℕ) → new ≡ all_noted m (words_of w.objects r) → n < count
      → Some r ≡ slice_get m.list n → spread w (count - (n + 1)) (n + 1) new ≡ spread w (count - n) n m
  spread_step count n m new r is within found = rw is (spread_next count n m r within found)

  -- none is left
  pub spread_none : (count n : ℕ) (m : Marking) → n < count → None ≡ slice_get m.list n → spread w (count - n) n m ≡ m
  spread_none count n m within is =
      let more : count - n ≡ suc (count - (n + 1)) = omega (arith, within) in
      spread_by (count - (n + 1)) n m (count - n) more
      ∙ ap (λ o. with_listed m o (λ b. spread w (count - (n + 1)) (suc n) (all_noted m (words_of w.objects b))))
      (sym is)

  pub spread_over : (count n : ℕ) (m : Marking) → count ≤ n → spread w (count - n) n m ≡ m
  spread_over count n m past = let none : count - n ≡ 0 = omega (arith, past) in rw none refl
