-- a turn, rule by rule
use Rattle.std.proofs.Common.{◌≡◌, ℕ, ◌<◌, ◌≤◌, Bool, true, false, ◌&&◌, ◌||◌, not, is_none, if◌then◌else◌, List}
use Rattle.std.proofs.Common.{Option, Some, None, refl, ap, sym, ◌∙◌}
use Rattle.std.proofs.lemmas.Bool.{le-leb, lt-leb}
use Rattle.model.specs.declared.journals.Limits.{Limits}
use Rattle.model.specs.declared.turns.Actor.{Actor}
use Rattle.model.specs.declared.turns.Actor.TheVariants.{Thread, Collector}
use Rattle.model.specs.declared.turns.Fault.{Fault}
use Rattle.model.specs.declared.turns.Turn.{Turn}
use Rattle.model.specs.declared.turns.Turn.TheVariants.{NotReady, Stopped, OutputFull, StepLimit}
use Rattle.model.specs.ClassListings.{ClassListing}
use Rattle.model.specs.Completions.{Completion, waits, prints}
use Rattle.model.specs.Completions.Completion.{Goes, Prints, Creates, Throws, Raises, Denies, Faults, Waits}
use Rattle.model.specs.Effects.{Choice, effect_of}
use Rattle.model.specs.Ready.{is_ready}
use Rattle.model.specs.Table.Next.{completion, next}
use Rattle.model.specs.Turns.{passes, overflows, actor_refusal, refusal, refusal_after, acted, unless_refused}
use Rattle.model.specs.Turns.{ideal_step}
use Rattle.model.specs.Worlds.{World, is_live, counted}
use Rattle.ideal_run.specs.Completed.{plainly}
use Rattle.ideal_run.specs.Effected.{refuses}

-- ---- what the births that were written don't change

pub plain-waits : (c : Completion) → waits (plainly c) ≡ waits c
plain-waits (Goes after writes) = refl
plain-waits (Prints after bytes) = refl
plain-waits (Creates next taken contents) = refl
plain-waits (Throws birth) = refl
plain-waits (Raises exception) = refl
plain-waits (Denies states) = refl
plain-waits (Faults fault) = refl
plain-waits Waits = refl

plain-prints : (c : Completion) → prints (plainly c) ≡ prints c
plain-prints (Goes after writes) = refl
plain-prints (Prints after bytes) = refl
plain-prints (Creates next taken contents) = refl
plain-prints (Throws birth) = refl
plain-prints (Raises exception) = refl
plain-prints (Denies states) = refl
plain-prints (Faults fault) = refl
plain-prints Waits = refl

module _ (program : List ClassListing) (limits : Limits) (w : World) where
  pub plain-effect : (t : ℕ) (choice : Choice) (c : Completion) → (effect_of program w t choice (plainly c)).after
      ≡ (effect_of program w t choice c).after
  plain-effect t choice (Goes after writes) = refl
  plain-effect t choice (Prints after bytes) = refl
  plain-effect t choice (Creates next taken contents) = refl
  plain-effect t choice (Throws birth) = refl
  plain-effect t choice (Raises exception) = refl
  plain-effect t choice (Denies states) = refl
  plain-effect t choice (Faults fault) = refl
  plain-effect t choice Waits = refl

  -- ---- the rules before a thread's

  pub refusal-is : (actor : Actor) (fault : Option (Fault × ℕ)) → w.fault ≡ fault → refusal program limits w actor
      ≡ refusal_after program limits w actor fault
  unfolding refusal
  refusal-is actor fault is = ap (refusal_after program limits w actor) is

  step-by : (actor : Actor) (choice : Choice) (r : Option Turn) → refusal program limits w actor ≡ r
      → ideal_step program limits w actor choice ≡ unless_refused program w actor choice r
  step-by actor choice r is = ap (unless_refused program w actor choice) is

  pub turn-stopped : (actor : Actor) (choice : Choice) (fault : Fault × ℕ) → w.fault ≡ Some fault
      → w ≡ ideal_step program limits w actor choice
  turn-stopped actor choice fault is = sym (step-by actor choice (Some Stopped) (refusal-is actor (Some fault) is))

  pub turn-limited : (actor : Actor) (choice : Choice) → w.fault ≡ None → limits.steps ≤ w.rows
      → w ≡ ideal_step program limits w actor choice
  turn-limited actor choice clean most =
      sym (step-by actor choice (Some StepLimit) (refusal-is actor None clean
      ∙ ap (λ (b : Bool). if b then Some StepLimit else actor_refusal program limits w actor)
      (le-leb limits.steps w.rows most)))

  actor-is : (actor : Actor) → w.fault ≡ None → w.rows < limits.steps → refusal program limits w actor
      ≡ actor_refusal program limits w actor
  actor-is actor clean more =
      refusal-is actor None clean ∙ ap (λ (b : Bool). if b then Some StepLimit
      else actor_refusal program limits w actor) (lt-leb limits.steps w.rows more)

  pub turn-collector : (choice : Choice) (after : World) → w.fault ≡ None → w.rows < limits.steps → after ≡ counted w
      → after ≡ ideal_step program limits w Collector choice
  turn-collector choice after clean more is = is ∙ sym (step-by Collector choice None (actor-is Collector clean more))

  -- ---- a thread's

  abbrev pub answer : Bool → Bool → Option Turn
  answer ready over = if ready then (if over then Some OutputFull else None) else Some NotReady

  ready-is : (t : ℕ) (live wait : Bool) → w.fault ≡ None → is_live w t ≡ live → waits (completion program w t) ≡ wait
      → is_ready program w t ≡ (live && not wait)
  ready-is t live wait clean is waiting =
      ap (λ (f : Option (Fault × ℕ)). is_none f && is_live w t && not (waits (completion program w t))) clean
      ∙ (ap (λ (b : Bool). true && b && not (waits (completion program w t))) is
      ∙ ap (λ (b : Bool). live && not b) waiting)

  pub thread-refusal : (t : ℕ) (live wait over : Bool) → w.fault ≡ None → w.rows < limits.steps → is_live w t ≡ live
      → waits (completion program w t) ≡ wait → passes limits.output w.output (prints (completion program w t)) ≡ over
      → refusal program limits w (Thread t) ≡ answer (live && not wait) over
  thread-refusal t live wait over clean more is waiting passing =
      actor-is (Thread t) clean more
      ∙ (ap (λ (b : Bool). answer b (overflows program limits w t)) (ready-is t live wait clean is waiting)
      ∙ ap (answer (live && not wait)) passing)

  thread-is : (t : ℕ) (choice : Choice) (live wait over : Bool) → w.fault ≡ None → w.rows < limits.steps → is_live w t
      ≡ live → waits (completion program w t) ≡ wait → passes limits.output w.output (prints (completion program w t))
      ≡ over
      → ideal_step program limits w (Thread t) choice
      ≡ unless_refused program w (Thread t) choice (answer (live && not wait) over)
  thread-is t choice live wait over clean more is waiting passing =
      step-by (Thread t) choice (answer (live && not wait) over)
      (thread-refusal t live wait over clean more is waiting passing)

  pub turn-dead : (t : ℕ) (choice : Choice) → w.fault ≡ None → w.rows < limits.steps → false ≡ is_live w t
      → w ≡ ideal_step program limits w (Thread t) choice
  turn-dead t choice clean more dead =
      sym (thread-is t choice false (waits (completion program w t))
      (passes limits.output w.output (prints (completion program w t))) clean more (sym dead) refl refl)

  module _ (t : ℕ) (choice : Choice) (c : Completion) (clean : w.fault ≡ None) (more : w.rows < limits.steps)
      (live : true ≡ is_live w t) (is : c ≡ plainly (completion program w t)) where
    pub waits-is : waits c ≡ waits (completion program w t)
    waits-is = ap waits is ∙ plain-waits (completion program w t)

    pub passes-is : passes limits.output w.output (prints c)
        ≡ passes limits.output w.output (prints (completion program w t))
    passes-is = ap (passes limits.output w.output) (ap prints is ∙ plain-prints (completion program w t))

    turn-of : (wait over : Bool) → waits c ≡ wait → passes limits.output w.output (prints c) ≡ over
        → ideal_step program limits w (Thread t) choice
        ≡ unless_refused program w (Thread t) choice (answer (not wait) over)
    turn-of wait over waiting passing = thread-is t choice true wait over clean more (sym live) (sym waits-is ∙ waiting)
        (sym passes-is ∙ passing)

    made_by : (between after : World) → between ≡ (effect_of program w t choice c).after → after ≡ counted between
        → after ≡ counted (acted program w (Thread t) choice)
    unfolding next
    made_by between after between-is after-is =
        after-is ∙ ap counted (between-is ∙ (ap (λ (x : Completion). (effect_of program w t choice x).after) is
        ∙ plain-effect t choice (completion program w t)))

    pub turn-refused : true ≡ refuses limits w c → w ≡ ideal_step program limits w (Thread t) choice
    turn-refused h = by (waits c) (passes limits.output w.output (prints c)) refl refl h where
      by : (wait over : Bool) → waits c ≡ wait → passes limits.output w.output (prints c) ≡ over → true ≡ (wait || over)
          → w ≡ ideal_step program limits w (Thread t) choice
      by true over a b k = sym (turn-of true over a b)
      by false true a b k = sym (turn-of false true a b)
      by false false a b k = absurd (cc)

    pub turn-made : (between after : World) → false ≡ refuses limits w c
        → between ≡ (effect_of program w t choice c).after → after ≡ counted between
        → after ≡ ideal_step program limits w (Thread t) choice
    turn-made between after h between-is after-is = by (waits c) (passes limits.output w.output (prints c)) refl refl h
      where
        made : after ≡ counted (acted program w (Thread t) choice)
        made = made_by between after between-is after-is

        by : (wait over : Bool) → waits c ≡ wait → passes limits.output w.output (prints c) ≡ over
            → false ≡ (wait || over) → after ≡ ideal_step program limits w (Thread t) choice
        by true over a b k = absurd (cc)
        by false true a b k = absurd (cc)
        by false false a b k = made ∙ sym (turn-of false false a b)

pub ruleset turns = (turn-stopped, turn-limited, turn-collector, turn-dead, turn-refused, turn-made)
