-- what a turn leads to, rule by rule
use Rattle.std.proofs.Common.{◌≡◌, ℕ, ◌<◌, ◌≤◌, Bool, true, false, ◌&&◌, ◌||◌, not, is_some, if◌then◌else◌, Option, Some, None}
use Rattle.std.proofs.Common.{refl, ap, sym, ◌∙◌}
use Rattle.std.proofs.lemmas.Bool.{le-leb}
use Rattle.model.specs.declared.turns.Actor.TheVariants.{Thread}
use Rattle.model.specs.declared.turns.Fault.{Fault}
use Rattle.model.specs.declared.turns.Turn.{Turn}
use Rattle.model.specs.declared.turns.Turn.TheVariants.{Stopped, StepLimit}
use Rattle.model.specs.Completions.{Completion, asks, waits, prints}
use Rattle.model.specs.Completions.Completion.{Goes, Prints, Creates, Throws, Raises, Denies, Faults, Waits}
use Rattle.model.specs.Effects.{Choice, effect_of}
use Rattle.model.specs.Table.Next.{asked, completion, next}
use Rattle.model.specs.Turns.{passes, actor_refusal, refusal}
use Rattle.model.specs.Worlds.{World, is_live}
use Rattle.ideal_run.specs.Completed.{plainly}
use Rattle.ideal_run.specs.Effected.{refuses}
use Rattle.ideal_run.specs.Successors.{Successor, Transitions, successor, unless_refused}
use Rattle.ideal_run.proofs.TurnLemmas.{answer, passes-is, plain-effect, refusal-is, thread-refusal, waits-is}

plain-asks : (c : Completion) → asks (plainly c) ≡ asks c
plain-asks (Goes after writes) = refl
plain-asks (Prints after bytes) = refl
plain-asks (Creates next taken contents) = refl
plain-asks (Throws birth) = refl
plain-asks (Raises exception) = refl
plain-asks (Denies states) = refl
plain-asks (Faults fault) = refl
plain-asks Waits = refl

module _ (s : Transitions) (w : World) (t : ℕ) (choice : Choice) where
  by_refusal : (r : Option Turn) → refusal s.program s.limits w (Thread t) ≡ r → successor s w t choice
      ≡ unless_refused s w t choice r
  by_refusal r is = ap (unless_refused s w t choice) is

  pub successor-stopped : (fault : Fault × ℕ) → w.fault ≡ Some fault → None ≡ successor s w t choice
  successor-stopped fault is =
      sym (by_refusal (Some Stopped) (refusal-is s.program s.limits w (Thread t) (Some fault) is))

  pub successor-limited : w.fault ≡ None → s.limits.steps ≤ w.rows → None ≡ successor s w t choice
  successor-limited clean most =
      sym (by_refusal (Some StepLimit) (refusal-is s.program s.limits w (Thread t) None clean
      ∙ ap (λ (b : Bool). if b then Some StepLimit else actor_refusal s.program s.limits w (Thread t))
      (le-leb s.limits.steps w.rows most)))

  pub successor-dead : w.fault ≡ None → w.rows < s.limits.steps → false ≡ is_live w t → None ≡ successor s w t choice
  successor-dead clean more dead =
      sym (by_refusal _ (thread-refusal s.program s.limits w t false (waits (completion s.program w t))
      (passes s.limits.output w.output (prints (completion s.program w t))) clean more (sym dead) refl refl))

  module _ (c : Completion) (clean : w.fault ≡ None) (more : w.rows < s.limits.steps) (live : true ≡ is_live w t)
      (is : c ≡ plainly (completion s.program w t)) where
    follows : (wait over : Bool) → waits c ≡ wait → passes s.limits.output w.output (prints c) ≡ over
        → successor s w t choice ≡ unless_refused s w t choice (answer s.program s.limits w (not wait) over)
    follows wait over waiting passing =
        by_refusal _ (thread-refusal s.program s.limits w t true wait over clean more (sym live)
        (sym (waits-is s.program s.limits w t choice c clean more live is) ∙ waiting)
        (sym (passes-is s.program s.limits w t choice c clean more live is) ∙ passing))

    pub successor-refused : true ≡ refuses s.limits w c → None ≡ successor s w t choice
    successor-refused h = by (waits c) (passes s.limits.output w.output (prints c)) refl refl h where
      by : (wait over : Bool) → waits c ≡ wait → passes s.limits.output w.output (prints c) ≡ over
          → true ≡ (wait || over) → None ≡ successor s w t choice
      by true over a b k = sym (follows true over a b)
      by false true a b k = sym (follows false true a b)
      by false false a b k = absurd (cc)

    left_by : (after : World) → after ≡ (effect_of s.program w t choice c).after
        → after ≡ (next s.program w t choice).after
    unfolding next
    left_by after k = k ∙ (ap (λ (x : Completion). (effect_of s.program w t choice x).after) is
        ∙ plain-effect s.program s.limits w t choice (completion s.program w t))

    pub successor-made : (after : World) (room : Bool) → false ≡ refuses s.limits w c → room ≡ is_some (asks c)
        → after ≡ (effect_of s.program w t choice c).after
        → Some (record { world = after; asks = room }) ≡ successor s w t choice
    successor-made after room h asking k = by (waits c) (passes s.limits.output w.output (prints c)) refl refl h
      where
        asked-is : room ≡ is_some (asked s.program w t)
        asked-is = asking ∙ ap is_some (ap asks is ∙ plain-asks (completion s.program w t))

        made : Some (record { world = after; asks = room }) ≡ unless_refused s w t choice None
        made = ap (λ (v : World). Some (let x : Successor = record { world = v; asks = room } in x)) (left_by after k)
            ∙ ap (λ (b : Bool). Some (let x : Successor = record { world = (next s.program w t choice).after; asks = b } in x))
            asked-is

        by : (wait over : Bool) → waits c ≡ wait → passes s.limits.output w.output (prints c) ≡ over
            → false ≡ (wait || over) → Some (record { world = after; asks = room }) ≡ successor s w t choice
        by true over a b k = absurd (cc)
        by false true a b k = absurd (cc)
        by false false a b k = made ∙ sym (follows false false a b)

pub ruleset successors = (successor-stopped, successor-limited, successor-dead, successor-refused, successor-made)
