use Rattle.std.proofs.Common.{◌≡◌, ◌<◌, ◌≤◌, ◌+◌, ℕ, List, ◌∷◌, ◌++◌, length, slice_get, true, false, nat_le}
use Rattle.std.proofs.Common.{if◌then◌else◌, is_none, not, ◌&&◌, Option, Some, None, refl, sym, ◌∙◌, ap, subst, arith}
use Rattle.model.specs.declared.journals.Limits.{Limits}
use Rattle.model.specs.declared.turns.Actor.TheVariants.{Thread as ThreadActor}
use Rattle.model.specs.declared.turns.Fault.{Fault}
use Rattle.model.specs.declared.turns.Turn.TheVariants.{NotReady, OutputFull, StepLimit}
use Rattle.model.specs.ClassListings.{ClassListing}
use Rattle.model.specs.Frames.{Frame}
use Rattle.model.specs.Worlds.{World, Thread, opening_world, counted, with_thread, lives, is_live}
use Rattle.model.specs.Worlds.Thread.{Live}
use Rattle.model.specs.Completions.{Completion, waits, prints}
use Rattle.model.specs.Completions.Completion.{Goes}
use Rattle.model.specs.Effects.Choice.{NewObject}
use Rattle.model.specs.Ready.{is_ready}
use Rattle.model.specs.Table.Next.{completion, next}
use Rattle.model.specs.Turns.{refusal, refusal_after, thread_refusal, passes, overflows, ideal_step}
use Rattle.model.proofs.CollectorLemmas.Running.{unfaulted}
use Rattle.model.proofs.NextKeeps.{next-rows}
use Rattle.exploration.specs.Representation.{Represents, Images, uncounted}
use Rattle.exploration.specs.ClosedLists.{Pair, pair_of, moved_through, ideal_after}
use Rattle.exploration.specs.Reduction.{PlainStep, GoesAhead}
use Rattle.exploration.specs.Reduction.GoesAhead.{stays, steps}
use Rattle.exploration.specs.ReducedRuns.{pairs_in, AheadIsWitnessed}
use Rattle.exploration.proofs.Turns.{turn_images}
use Rattle.exploration.proofs.Composition.{represents_image}
use Rattle.exploration.proofs.ClosedLists.{after_same, pairs_after, same_refusal}
use Rattle.exploration.proofs.Witnesses.{size_more, unrefused_back, turn_is}
use Rattle.exploration.proofs.PlainSteps.{plain_comes, plain_next, image_ahead}
use Rattle.exploration.proofs.ReducedRuns.{step_later}
use Rattle.exploration.proofs.Staying.{Stays}

-- steps that look at the running frame alone are turns of the ideal run, which nothing refuses below the limit of steps

module _ (program : List ClassListing) (limits : Limits) where
  -- ---- one step

  module _ (w : World) (t : ℕ) (fs gs : List Frame) (clean : w.fault ≡ None) (below : w.rows < limits.steps)
      (live : slice_get w.threads t ≡ Some (Live fs)) (step : PlainStep program w fs gs) where
    comes : (ws : List ℕ) × (completion program w t ≡ Goes (with_thread w t (Live gs)) ws)
    comes = plain_comes program w t fs gs live step

    ready : is_ready program w t ≡ true
    ready =
        ap (λ (o : Option (Fault × ℕ)). is_none o && is_live w t && not (waits (completion program w t))) clean
        ∙ ap (λ (o : Option Thread). lives o && not (waits (completion program w t))) live
        ∙ ap (λ (k : Completion). not (waits k)) comes.1

    quiet : overflows program limits w t ≡ false
    quiet = ap (λ (k : Completion). passes limits.output w.output (prints k)) comes.1

    allowed : thread_refusal program limits w t ≡ None
    allowed = ap (λ x. if x then (if overflows program limits w t then Some OutputFull else None) else Some NotReady) ready
        ∙ ap (λ x. if x then Some OutputFull else None) quiet

    not_yet : (s r : ℕ) → r < s → nat_le s r ≡ false
    not_yet s r l = grind (arith, l)

    free : refusal program limits w (ThreadActor t) ≡ None
    unfolding refusal
    free = ap (refusal_after program limits w (ThreadActor t)) clean
        ∙ ap (λ x. if x then Some StepLimit else thread_refusal program limits w t) (not_yet limits.steps w.rows below)
        ∙ allowed

    one_step : ideal_step program limits w (ThreadActor t) NewObject ≡ counted (with_thread w t (Live gs))
    one_step = turn_is program limits w t NewObject free
        ∙ ap counted (plain_next program w t fs gs live step NewObject)

  -- ---- several

  -- a count of rows is looked at by none
  uncounted_stays : (w : World) → Stays program (uncounted w) w
  uncounted_stays w = record {
    classes = λ b class e. e;
    settled = λ c k. record { done = k.done; undeclared = k.undeclared; not_running = k.not_running };
  }

  record Made (w z : World) (pairs : List Pair) : Type 0 where
    is : z ≡ uncounted (moved_through program limits w pairs)
    counts : (moved_through program limits w pairs).rows ≡ w.rows + length pairs

  made : (x z : World) (a : GoesAhead program x z) (w : World) → x ≡ uncounted w → w.fault ≡ None
      → w.rows + length (pairs_in a) ≤ limits.steps → Made w z (pairs_in a)
  made x z (stays y) w e clean l = record { is = e; counts = omega arith }
  made x z (steps y v t fs gs live step rest) w e clean l =
      let there : slice_get w.threads t ≡ Some (Live fs) = ap (λ (k : World). slice_get k.threads t) (sym e) ∙ live in
      let below : w.rows < limits.steps = omega (arith, l) in
      let next_w = counted (with_thread w t (Live gs)) in
      let here : PlainStep program w fs gs = step_later program (uncounted w) w (uncounted_stays w) fs gs
      (subst (λ (k : World). PlainStep program k fs gs) e step) in
      let is = one_step w t fs gs clean below there here in
      let further = made (with_thread y t (Live gs)) v rest next_w (ap (λ (k : World). with_thread k t (Live gs)) e) clean
      (omega (arith, l)) in
      let count = Made.counts further in
      record {
        is = Made.is further ∙ ap (λ (k : World). uncounted (moved_through program limits k (pairs_in rest))) (sym is);
        counts = ap (λ (k : World). (moved_through program limits k (pairs_in rest)).rows) is
            ∙ (omega (arith, count));
      }

pub ahead_is_witnessed : AheadIsWitnessed
ahead_is_witnessed program limits earlier x y z t choice met free clean ahead below r =
    let w = ideal_after program limits earlier in
    let p = pair_of t choice in
    let counts : w.rows ≡ length earlier = met.counted in
    let l : w.rows < limits.steps = omega (arith, counts, below) in
    let free_at : refusal program limits w (ThreadActor t) ≡ None =
    unrefused_back program limits w t l
    (sym (same_refusal program limits x (uncounted w) met.represents (ThreadActor t)) ∙ free) in
    let v = counted (next program w t choice).after in
    let is : ideal_step program limits w (ThreadActor t) choice ≡ v = turn_is program limits w t choice free_at in
    let i : Images (next program x t choice).after (uncounted v) =
    subst (Images (next program x t choice).after) (after_same program limits w t choice)
    (turn_images program x (uncounted w) met.represents t choice (unfaulted program limits w t free_at)) in
    let k = image_ahead program (next program x t choice).after z (uncounted v) i ahead in
    let same_fault : v.fault ≡ None = sym (ap (λ (y : World). y.fault) i.is) ∙ clean in
    let same_rows : (next program w t choice).after.rows ≡ w.rows = next-rows program w t choice in
    let size : length (pairs_in k.ahead) ≡ length (pairs_in ahead) = ap length k.same in
    let m = subst (Made program limits v k.world) k.same (made program limits (uncounted v) k.world k.ahead v refl same_fault
    (omega (arith, same_rows, size, counts, below))) in
    let later = pairs_in ahead in
    let pairs = earlier ++ p ∷ later in
    let after : ideal_after program limits pairs ≡ moved_through program limits v later =
    pairs_after program limits (opening_world program) earlier (p ∷ later)
    ∙ ap (λ (y : World). moved_through program limits y later) is in
    let count = Made.counts m in
    let sum = size_more earlier p later in
    let total : (ideal_after program limits pairs).rows ≡ (moved_through program limits v later).rows =
    ap (λ (y : World). y.rows) after in
    record {
      represents = subst (Represents y) (Made.is m ∙ ap uncounted (sym after))
          (represents_image y z k.world r k.images);
      counted = omega (arith, total, count, same_rows, counts, sum);
    }
