-- Runs without breakpoints: many rounds in one call lead where turns one by one do.
use Rattle.std.proofs.Common.{◌≡◌, ◌==◌, ◌<◌, ◌≤◌, ◌+◌, ◌-◌, ◌∙◌, ℕ, zero, suc, Bool, true, false, Option, Some, None, refl, ap, sym}
use Rattle.std.proofs.Common.{arith, [], ◌∷◌, cond, count_by, is_some}
use Rattle.std.specs.Prelude.{if◌then◌else◌}
use Rattle.std.specs.Option.{option_and_then, option_map}
use Rattle.std.proofs.Math.Dec.{eqb-suc-zero}
use Rattle.std.proofs.lemmas.List.Sums.{sum_by-cons}
use Rattle.slab.specs.Slab.{entries_from}
use Rattle.debug_texts.specs.declared.answers.Reason.{Reason}
use Rattle.debug_texts.specs.declared.answers.Reason.TheVariants.{Turn as ByTurn}
use Rattle.model.specs.declared.places.CodePlace.{CodePlace}
use Rattle.model.specs.declared.turns.Actor.TheVariants.{Collector}
use Rattle.model.specs.declared.turns.Turn.{Turn}
use Rattle.model.specs.declared.turns.Turn.TheVariants.{Done, Fault, NotReady, OutputFull, StepLimit, Stopped}
use Rattle.model.specs.Machines.{Recorded, answer_to}
use Rattle.model.specs.Observers.{is_running, pick_of, place_of, status_of}
use Rattle.scheduler.specs.Rounds.{after_round, after_rounds, is_done, picked, picked_answer, rounds_answer, rounds_left}
use Rattle.scheduler.specs.Rounds.{swept}
use Rattle.scheduler.proofs.RoundsLeft.{answer-first, left-first, rounds-first}
use Rattle.scheduler.proofs.Picking.{NoRowLeft, no_row_left, ready_answer, rests-answer, rests-picked}
use Rattle.debugger.specs.Breakpoints.{Breakpoints, first_at, least_at}
use Rattle.debugger.specs.Runs.{HoldsNone, Ran, ended, held_unless, one_more, reason_after, reason_of, run_on}
use Rattle.debugger.specs.Runs.{sweep_answer, swept_once, unless_held}
use Rattle.debugger.proofs.RunSteps.{fails, more, next_round, rests, round_swept, runs_where_done, stops}

-- ---- where no number has a place

no_entries : (bs : Breakpoints) (n : ℕ) → count_by is_some bs ≡ 0 → entries_from n bs ≡ []
no_entries [] n e = refl
no_entries (None ∷ bs) n e = no_entries bs (n + 1) e
no_entries (Some place ∷ bs) n e =
    let more : count_by is_some (Some place ∷ bs) ≡ 1 + count_by is_some bs =
    sum_by-cons (λ (slot : Option CodePlace). cond (is_some slot) 1 0) (Some place) bs in
    absurd (omega (arith, more, e))

none_held : (bs : Breakpoints) → ((place : CodePlace) → least_at bs place ≡ None) → (v : Recorded) (pick : Option ℕ)
    → option_and_then {U = ℕ × ℕ} (λ t. option_map (λ n. (n, t)) (option_and_then (least_at bs) (place_of v t))) pick
    ≡ None
none_held bs h v None = refl
none_held bs h v (Some t) = by (place_of v t)
  where
    at : ℕ → ℕ × ℕ
    at n = (n, t)

    by : (o : Option CodePlace) → option_map at (option_and_then (least_at bs) o) ≡ None
    by None = refl
    by (Some place) = ap (option_map at) (h place)

pub holds_none : (bs : Breakpoints) → count_by is_some bs ≡ 0 → HoldsNone bs
holds_none bs e = λ v. none_held bs (λ place. ap (first_at place) (no_entries bs 0 e)) v (pick_of v)

-- ---- why a run ends

other_reason : (w : Recorded) (t : Turn) → (t ≡ NotReady → ⊥) → reason_after w t ≡ ByTurn t
other_reason w NotReady h = absurd (h refl)
other_reason w Done h = refl
other_reason w Stopped h = refl
other_reason w (Fault fault) h = refl
other_reason w OutputFull h = refl
other_reason w StepLimit h = refl

pub left_within : (n : ℕ) (v : Recorded) → rounds_left v 0 1 n ≤ n
left_within zero v = omega arith
left_within (suc n) v = by (left_within n (after_round v 0 1)) (is_done (picked_answer v 0))
  where
    by : rounds_left (after_round v 0 1) 0 1 n ≤ n → (done : Bool)
        → (if done then rounds_left (after_round v 0 1) 0 1 n else suc n) ≤ suc n
    by less true = omega (arith, less)
    by less false = omega arith

module _ (bs : Breakpoints) (none : HoldsNone bs) where
  free : (first : Bool) (v : Recorded) → held_unless first bs v ≡ None
  free true v = refl
  free false v = none v

  -- the first turn is one like the others
  any_first : (f g : Bool) (n : ℕ) (v : Recorded) → run_on bs f n v ≡ run_on bs g n v
  any_first f g zero v = refl
  any_first f g (suc n) v =
      ap (λ o. if is_running (status_of v) then unless_held (run_on bs false n) v o else ended v 0 (reason_of v))
      (free f v ∙ sym (free g v))

  -- ---- one round, of which there are two at least

  module _ (f : Bool) (k : ℕ) (v : Recorded) (done : is_done (picked_answer v 0) ≡ true) where
    runs : is_running (status_of v) ≡ true
    runs = runs_where_done v done

    round_is : after_round v 0 1 ≡ swept_once (picked v 0)
    round_is = round_swept v done

    -- where the collector's turn isn't done, the next round's thread's isn't
    ends_there : is_done (sweep_answer (picked v 0)) ≡ false
        → run_on bs f (suc (suc k)) v ≡ one_more (run_on bs false (suc k) (swept_once (picked v 0)))
    ends_there s = by (is_running (status_of (picked v 0))) refl
      where
        w : Recorded
        w = picked v 0

        by : (b : Bool) → is_running (status_of w) ≡ b
            → run_on bs f (suc (suc k)) v ≡ one_more (run_on bs false (suc k) (swept_once w))
        by true e =
            let answer : is_done (answer_to w Collector 0) ≡ false = rw e at s in
            let full : NoRowLeft w 0 = no_row_left w 0 e answer in
            let swept_is : swept_once w ≡ w = rw e full.same in
            let not_done : is_done (picked_answer w 0) ≡ false = ap is_done full.answer_same ∙ answer in
            let answers : sweep_answer w ≡ picked_answer w 0 = rw e (sym full.answer_same) in
            stops bs f (suc k) v runs (free f v) done s
            ∙ ap (λ (x : Recorded). ended x 1 (ByTurn (sweep_answer w))) (swept_is ∙ sym full.picked_same)
            ∙ ap (λ (t : Turn). ended (picked w 0) 1 (ByTurn t)) answers
            ∙ sym (ap one_more (fails bs false k w e (none w) not_done))
            ∙ ap (λ (x : Recorded). one_more (run_on bs false (suc k) x)) (sym swept_is)
        by false e = cc (rw e at s)

    round_more : run_on bs f (suc (suc k)) v ≡ one_more (run_on bs false (suc k) (after_round v 0 1))
    round_more = by (is_done (sweep_answer (picked v 0))) refl
        ∙ ap (λ (x : Recorded). one_more (run_on bs false (suc k) x)) (sym round_is)
      where
        by : (b : Bool) → is_done (sweep_answer (picked v 0)) ≡ b
            → run_on bs f (suc (suc k)) v ≡ one_more (run_on bs false (suc k) (swept_once (picked v 0)))
        by true s = next_round bs f (suc k) v runs (free f v) done s
        by false s = ends_there s

  -- ---- a round whose thread's turn isn't done

  not_done : (f : Bool) (n : ℕ) (v : Recorded) → is_done (picked_answer v 0) ≡ false
      → run_on bs f (suc n) v ≡ ended (picked v 0) 0 (reason_after (picked v 0) (picked_answer v 0))
  not_done f n v refused = by (is_running (status_of v)) refl
    where
      by : (b : Bool) → is_running (status_of v) ≡ b
          → run_on bs f (suc n) v ≡ ended (picked v 0) 0 (reason_after (picked v 0) (picked_answer v 0))
      by true e =
          fails bs f n v e (free f v) refused
          ∙ ap (ended (picked v 0) 0) (sym (other_reason (picked v 0) (picked_answer v 0) (ready_answer v 0 e)))
      by false e =
          rests bs f (suc n) v e
          ∙ ap (λ (x : Recorded). ended x 0 (reason_of x)) (sym (rests-picked v 0 e))
          ∙ ap (λ (t : Turn). ended (picked v 0) 0 (reason_after (picked v 0) t)) (sym (rests-answer v 0 e))

  -- ---- many rounds

  counted : (n : ℕ) (ran : Ran) → one_more (more n ran) ≡ more (suc n) ran
  counted n ran = let same : (n + ran.turns) + 1 ≡ suc n + ran.turns = omega arith in
      ap (λ m. ended ran.world m ran.reason) same

  none_made : (ran : Ran) → ran ≡ more 0 ran
  none_made ran = let same : ran.turns ≡ 0 + ran.turns = omega arith in ap (λ m. ended ran.world m ran.reason) same

  -- all are made, and one is left
  abbrev AllMade : ℕ → Bool → Recorded → Type 0
  AllMade n f v = rounds_left v 0 1 n ≡ 0 → run_on bs f (suc n) v ≡ more n (run_on bs true 1 (after_rounds v 0 1 n))

  one_made : (n : ℕ) (f : Bool) (v : Recorded) → AllMade n false (after_round v 0 1) → (done : Bool)
      → is_done (picked_answer v 0) ≡ done → AllMade (suc n) f v
  one_made n f v rest true d e =
      let u = after_round v 0 1 in
      let left : rounds_left u 0 1 n ≡ 0 = sym (left-first v 0 1 (suc n) n refl true d) ∙ e in
      round_more f n v d
      ∙ ap one_more (rest left)
      ∙ counted n (run_on bs true 1 (after_rounds u 0 1 n))
      ∙ ap (λ (x : Recorded). more (suc n) (run_on bs true 1 x)) (sym (rounds-first v 0 1 (suc n) n refl true d))
  one_made n f v rest false d e =
      let left : suc n ≡ 0 = sym (left-first v 0 1 (suc n) n refl false d) ∙ e in absurd (omega (arith, left))

  pub all_made : (n : ℕ) (f : Bool) (v : Recorded) → AllMade n f v
  all_made zero f v e = any_first f true 1 v ∙ none_made (run_on bs true 1 v)
  all_made (suc n) f v e = one_made n f v (all_made n false (after_round v 0 1)) (is_done (picked_answer v 0)) refl e

  -- they end early
  -- an end that is known by equations
  as_one : (n : ℕ) (v w : Recorded) (left : ℕ) (t : Turn) → w ≡ after_rounds v 0 1 n → left ≡ rounds_left v 0 1 n
      → t ≡ rounds_answer v 0 1 n → ended w (n - left) (reason_after w t)
      ≡ ended (after_rounds v 0 1 n) (n - rounds_left v 0 1 n)
      (reason_after (after_rounds v 0 1 n) (rounds_answer v 0 1 n))
  as_one n v w left t world some answer =
      ap (λ (x : Recorded). ended x (n - left) (reason_after x t)) world
      ∙ ap (λ k. ended (after_rounds v 0 1 n) (n - k) (reason_after (after_rounds v 0 1 n) t)) some
      ∙ ap (λ (a : Turn). ended (after_rounds v 0 1 n) (n - rounds_left v 0 1 n) (reason_after (after_rounds v 0 1 n) a))
      answer

  abbrev SomeLeft : ℕ → Bool → Recorded → Type 0
  SomeLeft n f v =
      (rounds_left v 0 1 n ≡ 0 → ⊥) → run_on bs f (suc n) v
      ≡ ended (after_rounds v 0 1 n) (n - rounds_left v 0 1 n)
      (reason_after (after_rounds v 0 1 n) (rounds_answer v 0 1 n))

  one_of_some : (n : ℕ) (f : Bool) (v : Recorded) → SomeLeft n false (after_round v 0 1) → (done : Bool)
      → is_done (picked_answer v 0) ≡ done → SomeLeft (suc n) f v
  one_of_some n f v rest true d e =
      let u = after_round v 0 1 in
      let l = rounds_left u 0 1 n in
      let same = left-first v 0 1 (suc n) n refl true d in
      let left : l ≡ 0 → ⊥ = λ none. e (same ∙ none) in
      let within = left_within n u in
      let count : (n - l) + 1 ≡ suc n - l = omega (arith, within) in
      round_more f n v d
      ∙ ap one_more (rest left)
      ∙ ap (λ m. ended (after_rounds u 0 1 n) m (reason_after (after_rounds u 0 1 n) (rounds_answer u 0 1 n))) count
      ∙ as_one (suc n) v (after_rounds u 0 1 n) l (rounds_answer u 0 1 n)
      (sym (rounds-first v 0 1 (suc n) n refl true d)) (sym same) (sym (answer-first v 0 1 (suc n) n refl true d))
  one_of_some n f v rest false d e =
      let count : 0 ≡ suc n - suc n = omega arith in
      let here : picked v 0 ≡ after_round v 0 1 = ap (λ b. if b then swept (picked v 0) 0 1 else picked v 0) (sym d) in
      not_done f (suc n) v d
      ∙ ap (λ m. ended (picked v 0) m (reason_after (picked v 0) (picked_answer v 0))) count
      ∙ as_one (suc n) v (picked v 0) (suc n) (picked_answer v 0)
      (here ∙ sym (rounds-first v 0 1 (suc n) n refl false d)) (sym (left-first v 0 1 (suc n) n refl false d))
      (sym (answer-first v 0 1 (suc n) n refl false d))

  pub some_left : (n : ℕ) (f : Bool) (v : Recorded) → SomeLeft n f v
  some_left zero f v e = absurd (e refl)
  some_left (suc n) f v e = one_of_some n f v (some_left n false (after_round v 0 1)) (is_done (picked_answer v 0)) refl e

  -- ---- the same by what is known of the calls

  module _ (turns n left : ℕ) (v w : Recorded) (whole : turns ≡ suc n) (world : w ≡ after_rounds v 0 1 n)
      (some : left ≡ rounds_left v 0 1 n) where
    pub ends_early : (t : Turn) (r : Reason) → t ≡ rounds_answer v 0 1 n → r ≡ reason_after w t → 0 < left
        → ended w (n - left) r ≡ run_on bs true turns v
    ends_early t r answer reason more =
        ap (ended w (n - left)) reason
        ∙ as_one n v w left t world some answer
        ∙ sym (some_left n true v (λ none. omega (arith, more, some, none)))
        ∙ sym (ap (λ k. run_on bs true k v) whole)

    pub ends_late : (x : Recorded) (k : ℕ) (r : Reason) → left ≡ 0 → ended x k r ≡ run_on bs true 1 w
        → ended x ((n - left) + k) r ≡ run_on bs true turns v
    ends_late x k r none last =
        let count : (n - left) + k ≡ n + k = omega (arith, none) in
        ap (λ m. ended x m r) count
        ∙ ap (more n) (last ∙ ap (run_on bs true 1) world)
        ∙ sym (all_made n true v (sym some ∙ none))
        ∙ sym (ap (λ m. run_on bs true m v) whole)

-- no number is left where there are none
pub zero_is : (n : ℕ) → (n == 0) ≡ true → n ≡ 0
zero_is zero e = refl
zero_is (suc n) e = let more : (suc n == 0) ≡ false = eqb-suc-zero n in absurd (cc)
