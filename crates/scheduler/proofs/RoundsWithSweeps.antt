-- Many rounds with turns of the collector in one call: the worlds that they lead to, and what they answer.
use Rattle.std.proofs.Common.{◌≡◌, ◌<◌, ◌≤◌, ◌+◌, ◌-◌, ◌∷◌, ℕ, zero, suc, List, [], length, length-append, Bool, true}
use Rattle.std.proofs.Common.{false, Option, Some, None, refl, ap, sym, subst, ◌∙◌, arith}
use Rattle.std.specs.Prelude.{if◌then◌else◌, is_some, nat_le}
use Rattle.std.proofs.lemmas.Bool.{leb-true}
use Rattle.model.specs.declared.journals.Limits.{Limits}
use Rattle.model.specs.declared.journals.Outcome.{Outcome}
use Rattle.model.specs.declared.turns.Actor.TheVariants.{Collector}
use Rattle.model.specs.declared.turns.Fault.{Fault}
use Rattle.model.specs.declared.turns.Status.TheVariants.{Running}
use Rattle.model.specs.declared.turns.Turn.TheVariants.{StepLimit}
use Rattle.model.specs.Journals.{JournalValue, with_row}
use Rattle.model.specs.Machines.{Recorded, after_turn_by}
use Rattle.model.specs.Observers.{ideal, is_running, status_by, status_of}
use Rattle.model.specs.Ready.{some_is_ready, some_lives}
use Rattle.model.specs.Turns.{refusal, refusal_after}
use Rattle.instructions.specs.Loaded.{Loaded}
use Rattle.instructions.specs.LoneRounds.{FirstRounds, FirstTurnIf, IsFirstRound, LeadsThrough, Sweeps}
use Rattle.instructions.specs.LoneRounds.{collected_by, noted_if, noted_rounds, noted_times, thread_row}
use Rattle.instructions.specs.declared.lone_rounds.Rounds.{Rounds}
use Rattle.instructions.specs.declared.stops.Stops.{Stops}
use Rattle.instructions.specs.PlainRuns.{start_after}
use Rattle.instructions.proofs.NotedRoundLemmas.{rounds-workers, times-length, times-limits}
use Rattle.scheduler.specs.Rounds.{IsRoundPast, LeadsInto, LeadsOn, LeadsPast, PickedIf, PickedPast}
use Rattle.scheduler.specs.Rounds.{RoundsPast, after_round, after_rounds, collections, is_done, picked}
use Rattle.scheduler.specs.Rounds.{picked_answer, rounds_answer, rounds_left, swept}
use Rattle.scheduler.specs.Worlds.{IsOf, recorded}
use Rattle.scheduler.proofs.Bursts.{answer-left, leads-none, left-left, world-left}
use Rattle.scheduler.proofs.FirstTurns.{first_done, first_noted, first_past, first_picked}
use Rattle.scheduler.proofs.Noting.{after_is, back, noted_is, refusal_is}
use Rattle.scheduler.proofs.PastStops.{round-more}
use Rattle.scheduler.proofs.RoundsLeft.{answer-first, left-first, round-swept, rounds-first}

-- ---- turns of the collector

-- the last of so many
collections-last : (v : Recorded) (worker n : ℕ) → collections v worker (suc n)
    ≡ after_turn_by (collections v worker n) Collector worker
collections-last v worker zero = refl
collections-last v worker (suc n) = collections-last (after_turn_by v Collector worker) worker n

-- nothing refuses one where there was no fault and there are rows
unrefused : (s : Loaded) → s.machine.world.fault ≡ None → s.machine.world.rows < s.limits.steps
    → refusal s.program s.limits s.machine.world Collector ≡ None
unfolding refusal
unrefused s faultless less =
    ap (refusal_after s.program s.limits s.machine.world Collector) faultless
    ∙ ap (λ b. if b then Some StepLimit else None) (counted (nat_le s.limits.steps s.machine.world.rows) refl)
  where
    counted : (b : Bool) → nat_le s.limits.steps s.machine.world.rows ≡ b → nat_le s.limits.steps s.machine.world.rows
        ≡ false
    counted true e = absurd (omega (arith, leb-true s.limits.steps s.machine.world.rows e, less))
    counted false e = e

-- so many turns of the collector, with their rows
record AreSwept (s : Loaded) (j : JournalValue) (k worker n : ℕ) (after : Loaded) : Type 0 where
  is : IsOf after (noted_times j (collected_by worker) n) k
  swept : recorded after (noted_times j (collected_by worker) n) ≡ collections (recorded s j) worker n

are_swept : (s : Loaded) (j : JournalValue) (k worker : ℕ) → IsOf s j k → (n : ℕ) (after : Loaded)
    → length j.rows + n ≤ j.limits.steps → Sweeps s n after → AreSwept s j k worker n after
are_swept s j k worker is zero after fits sweeps = record {
  is = subst (λ (x : Loaded). IsOf x j k) (sym sweeps) is;
  swept = ap (λ (x : Loaded). recorded x j) sweeps;
}
are_swept s j k worker is (suc n) after fits sweeps =
    let x = sweeps.0 in
    let before = are_swept s j k worker is n x (omega (arith, fits)) sweeps.1 in
    let jn = noted_times j (collected_by worker) n in
    let long = times-length j (collected_by worker) n in
    let rows = before.is.rows_are in
    let steps : x.limits.steps ≡ j.limits.steps = ap (λ (l : Limits). l.steps) (before.is.limits_are
    ∙ times-limits j (collected_by worker) n) in
    let allowed : refusal x.program jn.limits (ideal (recorded x jn)) Collector ≡ None =
    sym (refusal_is x jn k before.is Collector) ∙ unrefused x sweeps.2 (omega (arith, fits, long, rows, steps)) in
    record {
      is = subst (λ (y : Loaded). IsOf y (with_row jn (collected_by worker)) k) (sym sweeps.3)
          (noted_is x jn k before.is Collector worker allowed);
      swept =
          ap (λ (y : Loaded). recorded y (with_row jn (collected_by worker))) sweeps.3
          ∙ sym (after_is x jn k before.is Collector worker allowed)
          ∙ ap (λ (v : Recorded). after_turn_by v Collector worker) before.swept
          ∙ sym (collections-last (recorded s j) worker n);
    }

-- ---- rounds

-- where the world runs there was no fault
faultless_running : (o : Option (Fault × ℕ)) (lives ready : Bool) → status_by (is_some o) lives ready ≡ Running
    → o ≡ None
faultless_running None lives ready e = refl
faultless_running (Some fault) lives ready e = cc

-- the state after rounds with these outcomes, and the journal with their rows
pub record Leads (s : Loaded) (j : JournalValue) (k : ℕ) (stops : Stops) (worker gc : ℕ) (outcomes : List Outcome)
    (after : Loaded) : Type 0 where
  pub is : IsOf after (noted_rounds j worker gc outcomes) (start_after k 0 (length outcomes))
  pub on : LeadsOn (recorded s j) worker gc (length outcomes) (recorded after (noted_rounds j worker gc outcomes))
  pub past : RoundsPast stops (recorded s j) worker gc (length outcomes)
      (recorded after (noted_rounds j worker gc outcomes))

-- one round
module _ (x : Loaded) (jn : JournalValue) (kn : ℕ) (is : IsOf x jn kn) (stops : Stops) (worker gc : ℕ)
    (outcome : Outcome) (after : Loaded) (round : IsFirstRound x stops kn 0 gc outcome after) where
  abbrev u : Recorded
  u = recorded x jn

  abbrev j_made : JournalValue
  j_made = with_row jn (thread_row outcome worker)

  made_is : IsOf round.made j_made 1
  made_is = first_noted x jn kn is worker 0 outcome round.made round.turn

  made_picked : recorded round.made j_made ≡ picked u worker
  made_picked = first_picked x jn kn is worker 0 outcome round.made round.turn

  made_faultless : round.made.machine.world.fault ≡ None
  made_faultless =
      let w = round.made.machine.world in faultless_running w.fault (some_lives w) (some_is_ready round.made.program w)
      round.runs

  round_done : is_done (picked_answer u worker) ≡ true
  round_done = ap is_done (first_done x jn kn is worker 0 outcome round.made round.turn made_faultless)

  round_running : status_of (picked u worker) ≡ Running
  round_running = ap status_of (sym made_picked) ∙ sym (back round.made j_made 1 made_is).status ∙ round.runs

  round_room : length jn.rows + 1 + gc ≤ jn.limits.steps
  round_room =
      let room = round.room in
      let rows = made_is.rows_are in
      let steps : round.made.limits.steps ≡ jn.limits.steps = ap (λ (l : Limits). l.steps) made_is.limits_are in
      let one = length-append jn.rows (thread_row outcome worker ∷ []) in
      omega (arith, room, rows, steps, one)

  round_swept : AreSwept round.made j_made 1 worker gc after
  round_swept =
      let one = length-append jn.rows (thread_row outcome worker ∷ []) in
      are_swept round.made j_made 1 worker made_is gc after (omega (arith, round_room, one)) round.collects

  round_after : recorded after (noted_times j_made (collected_by worker) gc) ≡ after_round u worker gc
  round_after =
      round_swept.swept
      ∙ ap (λ (v : Recorded). collections v worker gc) made_picked
      ∙ sym (ap (λ s. if is_running s then collections (picked u worker) worker gc else picked u worker) round_running)
      ∙ sym (ap (λ b. if b then swept (picked u worker) worker gc else picked u worker) round_done)

  round_past : IsRoundPast stops u worker gc (recorded after (noted_times j_made (collected_by worker) gc))
  round_past =
      let read = (back round.made j_made 1 made_is).rows in
      let rows = ap (λ (v : Recorded). (ideal v).rows) (sym made_picked) in
      let room = round.room in
      let steps : round.made.limits.steps ≡ jn.limits.steps = ap (λ (l : Limits). l.steps) made_is.limits_are in
      let same = ap (λ (v : Recorded). v.journal.limits.steps) made_picked in
      record {
        past = first_past x jn kn is worker 0 outcome round.made round.turn stops round.past;
        done = round_done;
        runs = ap is_running round_running;
        room = omega (arith, read, rows, room, steps, same);
        after = round_after;
      }

module _ (s : Loaded) (j : JournalValue) (k : ℕ) (is : IsOf s j k) (stops : Stops) (worker gc : ℕ) where
  abbrev v : Recorded
  v = recorded s j

  one_more : (outcome : Outcome) (outcomes : List Outcome) (x after : Loaded)
      → Leads s j k stops worker gc outcomes x
      → IsFirstRound x stops (start_after k 0 (length outcomes)) 0 gc outcome after
      → Leads s j k stops worker gc (outcome ∷ outcomes) after
  one_more outcome outcomes x after leads round =
      let n = length outcomes in
      let jn = noted_rounds j worker gc outcomes in
      let kn = start_after k 0 n in
      let u = recorded x jn in
      let w = recorded after (noted_rounds j worker gc (outcome ∷ outcomes)) in
      let same : w ≡ after_round u worker gc = round_after x jn kn leads.is stops worker gc outcome after round in
      let done = round_done x jn kn leads.is stops worker gc outcome after round in
      record {
        is = (round_swept x jn kn leads.is stops worker gc outcome after round).is;
        on = round-more v u w worker gc n leads.on done same;
        past = (u, leads.past, round_past x jn kn leads.is stops worker gc outcome after round);
      }

  pub leads : (outcomes : List Outcome) (after : Loaded) → FirstRounds s stops k 0 gc outcomes after
      → Leads s j k stops worker gc outcomes after
  leads [] after rounds = record {
    is = subst (λ (x : Loaded). IsOf x j k) (sym rounds) is;
    on = subst (λ (x : Loaded). LeadsOn v worker gc 0 (recorded x j)) (sym rounds) (leads-none v worker gc);
    past = ap (λ (x : Loaded). recorded x j) rounds;
  }
  leads (outcome ∷ outcomes) after rounds = one_more outcome outcomes rounds.0 after
      (leads outcomes rounds.0 rounds.1) rounds.2

  -- whole rounds, and the thread's turn of one more, or not
  record IsBegun (outcomes : List Outcome) (x : Loaded) (last : Option Outcome) (after : Loaded) : Type 0 where
    joined : IsOf after (noted_if (noted_rounds j worker gc outcomes) worker last)
        (start_after k 0 (length outcomes + (if is_some last then 1 else 0)))
    into : PickedIf (recorded x (noted_rounds j worker gc outcomes)) worker (is_some last)
        (recorded after (noted_if (noted_rounds j worker gc outcomes) worker last))
    past : PickedPast stops (recorded x (noted_rounds j worker gc outcomes)) worker (is_some last)
        (recorded after (noted_if (noted_rounds j worker gc outcomes) worker last))

  begun_as : (outcomes : List Outcome) (x : Loaded) → Leads s j k stops worker gc outcomes x → (last : Option Outcome)
      (after : Loaded) → FirstTurnIf x stops (start_after k 0 (length outcomes)) 0 last after
      → IsBegun outcomes x last after
  begun_as outcomes x leads (Some outcome) after turn =
      let n = length outcomes in
      let jn = noted_rounds j worker gc outcomes in
      let kn = start_after k 0 n in
      let still : IsOf after (with_row jn (thread_row outcome worker)) 1 = first_noted x jn kn leads.is worker 0 outcome
      after turn.0 in
      let next : suc n ≡ n + 1 = omega arith in
      let picked_is = first_picked x jn kn leads.is worker 0 outcome after turn.0 in
      let done = ap is_done (first_done x jn kn leads.is worker 0 outcome after turn.0 turn.1) in
      record {
        joined = subst (λ (m : ℕ). IsOf after (with_row jn (thread_row outcome worker)) (start_after k 0 m)) next still;
        into = (picked_is, done);
        past = (first_past x jn kn leads.is worker 0 outcome after turn.0 stops turn.2, picked_is, done);
      }
  begun_as outcomes x leads None after turn =
      let n = length outcomes in
      let jn = noted_rounds j worker gc outcomes in
      let none : n ≡ n + 0 = omega arith in
      record {
        joined = subst (λ (m : ℕ). IsOf after jn (start_after k 0 m)) none
            (subst (λ (y : Loaded). IsOf y jn (start_after k 0 n)) (sym turn) leads.is);
        into = ap (λ (y : Loaded). recorded y jn) turn;
        past = ap (λ (y : Loaded). recorded y jn) turn;
      }

  -- the world and the journal after them
  pub record Enters (rounds : Rounds) (after : Loaded) (noted : JournalValue) : Type 0 where
    pub joined : IsOf after noted (start_after k 0 (rounds.made + (if rounds.begun then 1 else 0)))
    pub into : LeadsInto v worker gc rounds (recorded after noted)
    pub past : LeadsPast stops v worker gc rounds (recorded after noted)
    pub workers : noted.workers ≡ j.workers

  if-workers : (x : JournalValue) (last : Option Outcome) → (noted_if x worker last).workers ≡ x.workers
  if-workers x (Some outcome) = refl
  if-workers x None = refl

  pub enters : (rounds : Rounds) (after : Loaded) (noted : JournalValue)
      → LeadsThrough s k stops worker gc j rounds after noted → Enters rounds after noted
  enters rounds after noted through =
      let outcomes = through.outcomes in
      let x = through.led.0 in
      let on = leads outcomes x through.led.1 in
      let last = begun_as outcomes x on through.last after through.led.2 in
      let jn = noted_rounds j worker gc outcomes in
      let next = start_after k 0 (rounds.made + (if rounds.begun then 1 else 0)) in
      record {
        joined =
            subst (λ (y : JournalValue). IsOf after y next) (sym through.noted)
            (subst (λ b. IsOf after (noted_if jn worker through.last)
            (start_after k 0 (rounds.made + (if b then 1 else 0)))) through.begun
            (subst (λ (n : ℕ). IsOf after (noted_if jn worker through.last)
            (start_after k 0 (n + (if is_some through.last then 1 else 0)))) through.count last.joined));
        into = (
          recorded x jn,
          subst (λ (n : ℕ). LeadsOn v worker gc n (recorded x jn)) through.count on.on,
          subst (λ b. PickedIf (recorded x jn) worker b (recorded after noted)) through.begun
              (subst (λ (y : JournalValue). PickedIf (recorded x jn) worker (is_some through.last) (recorded after y))
              (sym through.noted) last.into),
        );
        past = (
          recorded x jn,
          subst (λ (n : ℕ). RoundsPast stops v worker gc n (recorded x jn)) through.count on.past,
          subst (λ b. PickedPast stops (recorded x jn) worker b (recorded after noted)) through.begun
              (subst (λ (y : JournalValue). PickedPast stops (recorded x jn) worker (is_some through.last)
              (recorded after y)) (sym through.noted) last.past),
        );
        workers = ap (λ (y : JournalValue). y.workers) through.noted ∙ if-workers jn through.last
            ∙ rounds-workers j worker gc outcomes;
      }

-- ---- what is left of rounds

-- where all are made the last one is whole
pub all-whole : (begun : Bool) (made most : ℕ) → (begun ≡ true → made < most) → most - made ≡ 0 → begun ≡ false
all-whole true made most begun none = let more = begun refl in absurd (omega (arith, more, none))
all-whole false made most begun none = refl

module _ (v w : Recorded) (worker gc : ℕ) (rounds : Rounds) (left : ℕ) (into : LeadsInto v worker gc rounds w)
    (fits : rounds.made ≤ left) where
  -- after whole ones
  module _ (whole : rounds.begun ≡ false) where
    same : w ≡ into.0
    same = subst (λ b. PickedIf into.0 worker b w) whole into.2

    pub world-whole : after_rounds v worker gc left ≡ after_rounds w worker gc (left - rounds.made)
    world-whole = world-left v into.0 worker gc rounds.made left into.1 fits
        ∙ ap (λ (x : Recorded). after_rounds x worker gc (left - rounds.made)) (sym same)

    pub answer-whole : rounds_answer v worker gc left ≡ rounds_answer w worker gc (left - rounds.made)
    answer-whole = answer-left v into.0 worker gc rounds.made left into.1 fits
        ∙ ap (λ (x : Recorded). rounds_answer x worker gc (left - rounds.made)) (sym same)

    pub left-whole : rounds_left v worker gc left ≡ rounds_left w worker gc (left - rounds.made)
    left-whole = left-left v into.0 worker gc rounds.made left into.1 fits
        ∙ ap (λ (x : Recorded). rounds_left x worker gc (left - rounds.made)) (sym same)

  -- after one of which the thread's turn was made
  module _ (begun : rounds.begun ≡ true) (m : ℕ) (next : left - rounds.made ≡ suc m) where
    turn : PickedIf into.0 worker true w
    turn = subst (λ b. PickedIf into.0 worker b w) begun into.2

    round : after_round into.0 worker gc ≡ swept w worker gc
    round = round-swept into.0 worker gc (suc m) m refl true turn.1 refl ∙ ap (λ (x : Recorded). swept x worker gc)
        (sym turn.0)

    pub world-begun : after_rounds v worker gc left ≡ after_rounds (swept w worker gc) worker gc m
    world-begun =
        world-left v into.0 worker gc rounds.made left into.1 fits
        ∙ rounds-first into.0 worker gc (left - rounds.made) m next true turn.1
        ∙ ap (λ (x : Recorded). after_rounds x worker gc m) round

    pub answer-begun : rounds_answer v worker gc left ≡ rounds_answer (swept w worker gc) worker gc m
    answer-begun =
        answer-left v into.0 worker gc rounds.made left into.1 fits
        ∙ answer-first into.0 worker gc (left - rounds.made) m next true turn.1
        ∙ ap (λ (x : Recorded). rounds_answer x worker gc m) round

    pub left-begun : rounds_left v worker gc left ≡ rounds_left (swept w worker gc) worker gc m
    left-begun =
        left-left v into.0 worker gc rounds.made left into.1 fits
        ∙ left-first into.0 worker gc (left - rounds.made) m next true turn.1
        ∙ ap (λ (x : Recorded). rounds_left x worker gc m) round
