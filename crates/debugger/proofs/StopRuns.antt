-- Runs with breakpoints: many rounds in one call, none of which begins at a marked place, lead where rounds one by one
-- do.
use Rattle.std.proofs.Common.{◌≡◌, ◌==◌, ◌<◌, ◌≤◌, ◌+◌, ◌-◌, ◌*◌, ◌%◌, ◌∙◌, ℕ, zero, suc, Bool, true, false}
use Rattle.std.proofs.Common.{Option, Some, None, List, ◌∷◌}
use Rattle.std.proofs.Common.{refl, ap, sym, subst, arith, nat_eq, add-one}
use Rattle.std.proofs.Math.Dec.{eqb-suc-zero}
use Rattle.std.proofs.lemmas.Bool.{eqb-true, false≢true, leb-true}
use Rattle.std.specs.Prelude.{◌&&◌, IfSome, if◌then◌else◌, nat_le, slice_index_or}
use Rattle.std.specs.Option.{option_and_then, option_map}
use Rattle.debug_texts.specs.declared.answers.Reason.TheVariants.{Turn as ByTurn}
use Rattle.model.specs.declared.places.CodePlace.{CodePlace}
use Rattle.model.specs.declared.turns.Actor.TheVariants.{Collector}
use Rattle.model.specs.declared.turns.Status.{Status}
use Rattle.model.specs.declared.turns.Turn.{Turn}
use Rattle.model.specs.declared.turns.Turn.TheVariants.{Done}
use Rattle.model.specs.Machines.{Recorded, answer_to}
use Rattle.model.specs.Observers.{ideal, is_running, place_of, status_of}
use Rattle.instructions.specs.Stops.{is_stop, number_of}
use Rattle.instructions.specs.declared.stops.Stops.{Stops}
use Rattle.scheduler.specs.Rounds.{IsRoundPast, PickedPast, PicksPast, RoundsPast, is_done, picked}
use Rattle.scheduler.specs.Rounds.{picked_answer}
use Rattle.scheduler.proofs.Picking.{collector_done}
use Rattle.debugger.specs.Breakpoints.{Breakpoints, first_at, is_same_place, least_at}
use Rattle.debugger.specs.Runs.{Covers, Ran, answer_unless, are_whole, ended, held_unless, one_more, picked_unless}
use Rattle.debugger.specs.Runs.{run_on, sweep_answer, swept_once}
use Rattle.debugger.proofs.RunSteps.{closes, closes_here, fails, goes_on, more, next_round, round_swept}
use Rattle.debugger.proofs.RunSteps.{runs_where_done, stops as stops_run}

-- ---- marks

-- the same instruction has the same number
same_number : (p q : CodePlace) → is_same_place p q ≡ true → number_of p ≡ number_of q
same_number p q e =
    let all = each (p.method.class == q.method.class) (p.method.method == q.method.method) (p.pc == q.pc) e in
    let class = eqb-true p.method.class q.method.class all.0 in
    let method = eqb-true p.method.method q.method.method all.1 in
    let pc = eqb-true p.pc q.pc all.2 in
    ap (λ n. (n + p.method.method % 1024 * 61 + p.method.class % 1024 * 17) % 1024) pc
    ∙ ap (λ n. (q.pc + n % 1024 * 61 + p.method.class % 1024 * 17) % 1024) method
    ∙ ap (λ n. (q.pc + q.method.method % 1024 * 61 + n % 1024 * 17) % 1024) class
  where
    each : (a b c : Bool) → (a && b && c) ≡ true → (a ≡ true) × (b ≡ true) × (c ≡ true)
    each true true true e = (refl, refl, refl)
    each true true false e = absurd (cc)
    each true false c e = absurd (cc)
    each false b c e = absurd (cc)

-- a place that isn't marked is another one than those that are
marked_other : (p q : CodePlace) (marks : List Bool) → slice_index_or marks (number_of p) false ≡ true
    → slice_index_or marks (number_of q) false ≡ false → is_same_place p q ≡ false
marked_other p q marks is not_q = by (is_same_place p q) refl
  where
    by : (b : Bool) → is_same_place p q ≡ b → is_same_place p q ≡ false
    by true e = absurd (false≢true (sym not_q ∙ ap (λ n. slice_index_or marks n false) (sym (same_number p q e)) ∙ is))
    by false e = e

-- where one is marked besides, those that stand at a place that isn't are among the rest
pub first_other : (entry : ℕ × CodePlace) (rest : List (ℕ × CodePlace)) (marks : List Bool) (place : CodePlace)
    → slice_index_or marks (number_of entry.1) false ≡ true → slice_index_or marks (number_of place) false ≡ false
    → first_at place (entry ∷ rest) ≡ first_at place rest
first_other entry rest marks place is free =
    ap (λ b. if b then Some entry.0 else first_at place rest) (marked_other entry.1 place marks is free)

-- what wasn't marked after one more wasn't before
pub unmarked_before : (old new : List Bool) (n : ℕ)
    → (slice_index_or old n false ≡ true → slice_index_or new n false ≡ true) → slice_index_or new n false ≡ false
    → slice_index_or old n false ≡ false
unmarked_before old new n others free = by (slice_index_or old n false) refl
  where
    by : (b : Bool) → slice_index_or old n false ≡ b → slice_index_or old n false ≡ false
    by true e = absurd (false≢true (sym free ∙ others e))
    by false e = e

-- ---- many rounds

more_none : (ran : Ran) → ran ≡ more 0 ran
more_none ran = let same : ran.turns ≡ 0 + ran.turns = omega arith in ap (λ m. ended ran.world m ran.reason) same

more_one : (n : ℕ) (ran : Ran) → more n (one_more ran) ≡ more (suc n) ran
more_one n ran = let same : n + (ran.turns + 1) ≡ suc n + ran.turns = omega arith in
    ap (λ m. ended ran.world m ran.reason) same

more_more : (m n : ℕ) (ran : Ran) → more m (more n ran) ≡ more (m + n) ran
more_more m n ran = let same : m + (n + ran.turns) ≡ m + n + ran.turns = omega arith in
    ap (λ k. ended ran.world k ran.reason) same

module _ (bs : Breakpoints) (stops : Stops) (covers : Covers stops.marks.now bs) where
  -- no breakpoint holds a thread that stands at no stop
  free_past : (f : Bool) (v : Recorded) → PicksPast stops v → held_unless f bs v ≡ None
  free_past true v past = refl
  free_past false v past =
      ap (option_and_then {U = ℕ × ℕ}
      (λ t. option_map {U = ℕ × ℕ} (λ n. (n, t)) (option_and_then (least_at bs) (place_of v t))))
      past.1
      ∙ by (place_of v past.0) past.2
    where
      by : (o : Option CodePlace) → IfSome o (λ place. is_stop stops place ≡ false)
          → option_map {U = ℕ × ℕ} (λ n. (n, past.0)) (option_and_then (least_at bs) o) ≡ None
      by None free = refl
      by (Some place) free = ap (option_map {U = ℕ × ℕ} (λ n. (n, past.0))) (covers place free)

  -- one round
  module _ (f : Bool) (k : ℕ) (v w : Recorded) (round : IsRoundPast stops v 0 1 w) where
    room : nat_le (picked v 0).journal.limits.steps (ideal (picked v 0)).rows ≡ false
    room = by (nat_le (picked v 0).journal.limits.steps (ideal (picked v 0)).rows) refl
      where
        by : (b : Bool) → nat_le (picked v 0).journal.limits.steps (ideal (picked v 0)).rows ≡ b
            → nat_le (picked v 0).journal.limits.steps (ideal (picked v 0)).rows ≡ false
        by true e =
            let full = leb-true (picked v 0).journal.limits.steps (ideal (picked v 0)).rows e in
            let left = round.room in
            absurd (omega (arith, full, left))
        by false e = e

    sweeps : is_done (sweep_answer (picked v 0)) ≡ true
    sweeps =
        ap (λ b. is_done (if b then answer_to (picked v 0) Collector 0 else Done)) round.runs
        ∙ ap is_done (collector_done (picked v 0) 0 round.runs room)

    one_past : run_on bs f (suc k) v ≡ one_more (run_on bs false k w)
    one_past =
        next_round bs f k v (runs_where_done v round.done) (free_past f v round.past) round.done sweeps
        ∙ ap (λ (x : Recorded). one_more (run_on bs false k x)) (sym (round_swept v round.done) ∙ sym round.after)

  rounds_past : (made n k : ℕ) (v w : Recorded) → RoundsPast stops v 0 1 n w → run_on bs (nat_eq made 0) (n + k) v
      ≡ more n (run_on bs (nat_eq (made + n) 0) k w)
  rounds_past made zero k v w same =
      let none : made ≡ made + 0 = omega arith in
      let all : 0 + k ≡ k = omega arith in
      ap (λ m. run_on bs (nat_eq made 0) m v) all
      ∙ more_none (run_on bs (nat_eq made 0) k v)
      ∙ ap (λ m. more 0 (run_on bs (nat_eq m 0) k v)) none
      ∙ ap (λ (x : Recorded). more 0 (run_on bs (nat_eq (made + 0) 0) k x)) (sym same)
  rounds_past made (suc n) k v w rounds =
      let next : suc n + k ≡ n + suc k = omega arith in
      let one : made + suc n ≡ suc (made + n) = omega arith in
      let later : nat_eq (made + suc n) 0 ≡ false = ap (λ m. nat_eq m 0) one ∙ eqb-suc-zero (made + n) in
      ap (λ m. run_on bs (nat_eq made 0) m v) next
      ∙ rounds_past made n (suc k) v rounds.0 rounds.1
      ∙ ap (more n) (one_past (nat_eq (made + n) 0) k rounds.0 w rounds.2)
      ∙ more_one n (run_on bs false k w)
      ∙ ap (λ b. more (suc n) (run_on bs b k w)) (sym later)

  -- what is left leads where the whole led
  pub led_past : (made n turns : ℕ) (v x : Recorded) (total : Ran) → made + n ≤ turns → RoundsPast stops v 0 1 n x
      → more made (run_on bs (nat_eq made 0) (turns - made) v) ≡ total
      → more (made + n) (run_on bs (nat_eq (made + n) 0) (turns - (made + n)) x) ≡ total
  led_past made n turns v x total fits rounds whole =
      let left : turns - made ≡ n + (turns - (made + n)) = omega (arith, fits) in
      sym (more_more made n (run_on bs (nat_eq (made + n) 0) (turns - (made + n)) x))
      ∙ ap (more made) (sym (rounds_past made n (turns - (made + n)) v x rounds)
      ∙ ap (λ m. run_on bs (nat_eq made 0) m v) (sym left))
      ∙ whole

  -- ---- the round that isn't whole

  -- it isn't held, and the world runs: it was begun, or there were no rounds, and so it was before
  free_there : (made n : ℕ) (begun : Bool) (v x w : Recorded) → are_whole n begun ≡ false
      → RoundsPast stops v 0 1 n x → PickedPast stops x 0 begun w → held_unless (nat_eq made 0) bs v ≡ None
      → held_unless (nat_eq (made + n) 0) bs x ≡ None
  free_there made n true v x w few rounds picks free = free_past (nat_eq (made + n) 0) x picks.0
  free_there made (suc n) false v x w few rounds picks free = absurd (false≢true (sym few))
  free_there made zero false v x w few rounds picks free =
      let none : made + 0 ≡ made = omega arith in
      ap (λ m. held_unless (nat_eq m 0) bs x) none ∙ ap (held_unless (nat_eq made 0) bs) rounds ∙ free

  runs_there : (n : ℕ) (begun : Bool) (v x w : Recorded) → are_whole n begun ≡ false
      → RoundsPast stops v 0 1 n x → PickedPast stops x 0 begun w → is_running (status_of v) ≡ true
      → is_running (status_of x) ≡ true
  runs_there n true v x w few rounds picks runs = runs_where_done x picks.2
  runs_there (suc n) false v x w few rounds picks runs = absurd (false≢true (sym few))
  runs_there zero false v x w few rounds picks runs = ap (λ (y : Recorded). is_running (status_of y)) rounds ∙ runs

  -- its thread's turn, made now or before
  picked_there : (begun : Bool) (x w : Recorded) → PickedPast stops x 0 begun w
      → picked_unless begun w ≡ picked x 0
  picked_there true x w picks = picks.1
  picked_there false x w picks = ap (λ (y : Recorded). picked y 0) picks

  done_there : (begun : Bool) (x w : Recorded) → PickedPast stops x 0 begun w
      → is_done (answer_unless begun w) ≡ is_done (picked_answer x 0)
  done_there true x w picks = sym picks.2
  done_there false x w picks = ap (λ (y : Recorded). is_done (picked_answer y 0)) picks

  -- whole rounds end where the last one does
  pub whole_there : (n : ℕ) (begun : Bool) (x w : Recorded) → are_whole n begun ≡ true → PickedPast stops x 0 begun w
      → w ≡ x
  whole_there zero begun x w whole picks = absurd (false≢true whole)
  whole_there (suc n) true x w whole picks = absurd (false≢true whole)
  whole_there (suc n) false x w whole picks = picks

  refused_there : (begun : Bool) (x w : Recorded) → PickedPast stops x 0 begun w
      → is_done (answer_unless begun w) ≡ false → answer_unless begun w ≡ picked_answer x 0
  refused_there true x w picks refused = absurd (cc)
  refused_there false x w picks refused = ap (λ (y : Recorded). picked_answer y 0) picks

-- where it isn't whole there is a round left to make
pub some_left : (made n turns : ℕ) (begun : Bool) → are_whole n begun ≡ false → made < turns
    → n ≤ turns - made → (begun ≡ true → n < turns - made) → made + n < turns
some_left made n turns true few some within less = let more = less refl in omega (arith, more)
some_left made (suc n) turns false few some within less = absurd (false≢true (sym few))
some_left made zero turns false few some within less = omega (arith, some)

-- ---- the end of a pass, in which the round that isn't whole is made

module _ (bs : Breakpoints) (stops : Stops) (made n turns : ℕ) (begun : Bool) (v x w : Recorded) (total : Ran)
    {marks : List Bool} (marked : stops.marks.now ≡ marks) (covering : Covers marks bs)
    {whole : Bool} (whole_is : whole ≡ are_whole n begun) (isnt_whole : whole ≡ false)
    {status : Status} {goes : Bool} (status_is : status ≡ status_of v) (goes_is : goes ≡ is_running status)
    (going : goes ≡ true)
    {held : Option (ℕ × ℕ)} (held_is : held ≡ held_unless (nat_eq made 0) bs v) (isnt_held : held ≡ None)
    (some : made < turns) (within : n ≤ turns - made) (less : begun ≡ true → n < turns - made)
    (rounds : RoundsPast stops v 0 1 n x) (picks : PickedPast stops x 0 begun w)
    (leads : more made (run_on bs (nat_eq made 0) (turns - made) v) ≡ total) where
  abbrev first : Bool
  first = nat_eq (made + n) 0

  abbrev k : ℕ
  k = turns - (made + n + 1)

  covers_bs : Covers stops.marks.now bs
  covers_bs = subst (λ ms. Covers ms bs) (sym marked) covering

  few : are_whole n begun ≡ false
  few = sym whole_is ∙ isnt_whole

  fewer : made + n < turns
  fewer = some_left made n turns begun few some within less

  running : is_running (status_of x) ≡ true
  running = runs_there bs stops covers_bs n begun v x w few rounds picks
      (ap is_running (sym status_is) ∙ sym goes_is ∙ going)

  unheld : held_unless first bs x ≡ None
  unheld = free_there bs stops covers_bs made n begun v x w few rounds picks (sym held_is ∙ isnt_held)

  leads_there : more (made + n) (run_on bs first (suc k) x) ≡ total
  leads_there =
      let left : turns - (made + n) ≡ suc k = omega (arith, fewer) in
      let fits : made + n ≤ turns = omega (arith, fewer) in
      rw left at (led_past bs stops covers_bs made n turns v x total fits rounds leads)

  module _ (after : Recorded) (answer : Turn) {done : Bool} (is : after ≡ picked_unless begun w)
      (answers : answer ≡ answer_unless begun w) (done_is : done ≡ is_done answer) where
    after_is : after ≡ picked x 0
    after_is = is ∙ picked_there bs stops covers_bs begun x w picks

    -- its thread's turn isn't done
    pub turn_ends : done ≡ false → ended after (made + n) (ByTurn answer) ≡ total
    turn_ends undone =
        let refused : is_done answer ≡ false = sym done_is ∙ undone in
        let told : answer ≡ picked_answer x 0 =
        answers ∙ refused_there bs stops covers_bs begun x w picks (ap is_done (sym answers) ∙ refused) in
        ap (λ (y : Recorded). ended y (made + n) (ByTurn answer)) after_is
        ∙ ap (λ (t : Turn). ended (picked x 0) (made + n) (ByTurn t)) told
        ∙ closes_here (made + n) (picked x 0) (ByTurn (picked_answer x 0)) (run_on bs first (suc k) x) total
        (fails bs first k x running unheld (ap is_done (sym told) ∙ refused)) leads_there

    -- it is, and the collector's turn follows
    module _ (was_done : done ≡ true) (end : Recorded) (told : Turn) {swept : Bool} (sweeps : end ≡ swept_once after)
        (tells : told ≡ sweep_answer after) (swept_is : swept ≡ is_done told) where
      was_done_there : is_done (picked_answer x 0) ≡ true
      was_done_there =
          sym (done_there bs stops covers_bs begun x w picks) ∙ ap is_done (sym answers) ∙ sym done_is ∙ was_done

      end_is : end ≡ swept_once (picked x 0)
      end_is = sweeps ∙ ap swept_once after_is

      told_is : told ≡ sweep_answer (picked x 0)
      told_is = tells ∙ ap sweep_answer after_is

      pub sweep_ends : swept ≡ false → ended end (made + n + 1) (ByTurn told) ≡ total
      sweep_ends unswept =
          ap (λ (y : Recorded). ended y (made + n + 1) (ByTurn told)) end_is
          ∙ ap (λ (t : Turn). ended (swept_once (picked x 0)) (made + n + 1) (ByTurn t)) told_is
          ∙ closes (made + n) 1 (swept_once (picked x 0)) (ByTurn (sweep_answer (picked x 0)))
          (run_on bs first (suc k) x) total
          (stops_run bs first k x running unheld was_done_there (ap is_done (sym told_is) ∙ sym swept_is ∙ unswept))
          leads_there

      pub round_ends : swept ≡ true
          → more (made + n + 1) (run_on bs (nat_eq (made + n + 1) 0) (turns - (made + n + 1)) end) ≡ total
      round_ends was_swept =
          let later : nat_eq (made + n + 1) 0 ≡ false =
          ap (λ m. nat_eq m 0) (add-one (made + n)) ∙ eqb-suc-zero (made + n) in
          ap (λ (y : Recorded). more (made + n + 1) (run_on bs (nat_eq (made + n + 1) 0) k y)) end_is
          ∙ ap (λ b. more (made + n + 1) (run_on bs b k (swept_once (picked x 0)))) later
          ∙ goes_on (made + n) (run_on bs false k (swept_once (picked x 0))) (run_on bs first (suc k) x) total
          (next_round bs first k x running unheld was_done_there (ap is_done (sym told_is) ∙ sym swept_is ∙ was_swept))
          leads_there
