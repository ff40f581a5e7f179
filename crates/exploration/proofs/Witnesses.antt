use Rattle.std.proofs.Common.{◌≡◌, ◌<◌, ◌+◌, ℕ, List, [], ◌∷◌, ◌++◌, length, Bool, true, false, if◌then◌else◌, nat_le}
use Rattle.std.proofs.Common.{Option, Some, None, refl, sym, ◌∙◌, ap, subst, arith}
use Rattle.model.specs.declared.journals.Limits.{Limits}
use Rattle.model.specs.declared.turns.Actor.TheVariants.{Thread}
use Rattle.model.specs.declared.turns.Fault.{Fault}
use Rattle.model.specs.declared.turns.Turn.TheVariants.{StepLimit}
use Rattle.model.specs.ClassListings.{ClassListing}
use Rattle.model.specs.Worlds.{World, opening_world, counted}
use Rattle.model.specs.Effects.{Choice}
use Rattle.model.specs.Table.Next.{next}
use Rattle.model.specs.Turns.{refusal, refusal_after, thread_refusal, ideal_step}
use Rattle.model.proofs.CollectorLemmas.Running.{unfaulted}
use Rattle.model.proofs.NextKeeps.{next-rows}
use Rattle.exploration.specs.Representation.{Represents, Images, uncounted}
use Rattle.exploration.specs.ClosedLists.{Pair, pair_of, moved_through, ideal_after, OpeningIsWitnessed, TurnsAreWitnessed}
use Rattle.exploration.proofs.Turns.{turn_images}
use Rattle.exploration.proofs.Composition.{represents_image}
use Rattle.exploration.proofs.RowCounts.{refused_at}
use Rattle.exploration.proofs.ClosedLists.{same_refusal, after_same}
use Rattle.exploration.proofs.Opening.{opening_represents}

-- what is found by turns from the opening is what some ideal run comes to

pub opening_is_witnessed : OpeningIsWitnessed
opening_is_witnessed program limits = record { represents = opening_represents program; counted = refl }

pub one_more : (program : List ClassListing) (limits : Limits) (w : World) (ps : List Pair) (p : Pair)
    → moved_through program limits w (ps ++ p ∷ [])
    ≡ ideal_step program limits (moved_through program limits w ps) p.actor p.choice
one_more program limits w [] p = refl
one_more program limits w (q ∷ ps) p = one_more program limits (ideal_step program limits w q.actor q.choice) ps p

module _ (program : List ClassListing) (limits : Limits) (w : World) (t : ℕ) (below : w.rows < limits.steps) where
  by_limit : (o : Option (Fault × ℕ)) → refusal_after program limits (uncounted w) (Thread t) o ≡ None
      → refusal_after program limits w (Thread t) o ≡ None
  by_limit (Some fault) e = absurd (cc)
  by_limit None e = go (nat_le limits.steps 0) e
    where
      not_yet : (s r : ℕ) → r < s → nat_le s r ≡ false
      not_yet s r l = grind (arith, l)

      go : (x : Bool) → (if x then Some StepLimit else thread_refusal program limits (uncounted w) t) ≡ None
          → (if nat_le limits.steps w.rows then Some StepLimit else thread_refusal program limits w t) ≡ None
      go true k = absurd (cc)
      go false k = rw (not_yet limits.steps w.rows below) (sym (refused_at program w t limits) ∙ k)

  pub unrefused_back : refusal program limits (uncounted w) (Thread t) ≡ None → refusal program limits w (Thread t) ≡ None
  unfolding refusal
  unrefused_back e = by_limit w.fault e

pub turn_is : (program : List ClassListing) (limits : Limits) (w : World) (t : ℕ) (choice : Choice)
    → refusal program limits w (Thread t) ≡ None
    → ideal_step program limits w (Thread t) choice ≡ counted (next program w t choice).after
turn_is program limits w t choice e = rw e refl

pub size_more : (ps : List Pair) (p : Pair) (qs : List Pair) → length (ps ++ p ∷ qs) ≡ length ps + 1 + length qs
size_more [] p qs = omega arith
size_more (q ∷ ps) p qs = (let k = size_more ps p qs in omega (arith, k))

pub turns_are_witnessed : TurnsAreWitnessed
turns_are_witnessed program limits earlier x y t choice met below free r =
    let w = ideal_after program limits earlier in
    let p = pair_of t choice in
    let pairs = earlier ++ p ∷ [] in
    let counts : w.rows ≡ length earlier = met.counted in
    let l : w.rows < limits.steps = omega (arith, counts, below) in
    let free_at : refusal program limits w (Thread t) ≡ None =
    unrefused_back program limits w t l (sym (same_refusal program limits x (uncounted w) met.represents (Thread t))
    ∙ free) in
    let is : ideal_after program limits pairs ≡ counted (next program w t choice).after =
    one_more program limits (opening_world program) earlier p ∙ turn_is program limits w t choice free_at in
    let i : Images (next program x t choice).after (uncounted (next program w t choice).after) =
    subst (Images (next program x t choice).after) (after_same program limits w t choice)
    (turn_images program x (uncounted w) met.represents t choice (unfaulted program limits w t free_at)) in
    let same : (next program w t choice).after.rows ≡ w.rows = next-rows program w t choice in
    let now : (ideal_after program limits pairs).rows ≡ (next program w t choice).after.rows + 1 =
    ap (λ (v : World). v.rows) is in
    let size = size_more earlier p [] in
    record {
      represents = subst (λ (v : World). Represents y (uncounted v)) (sym is)
          (represents_image y (next program x t choice).after (uncounted (next program w t choice).after) r i);
      counted = omega (arith, now, same, counts, size);
    }
