use Rattle.std.proofs.Common.{◌≡◌, ℕ, zero, suc, ◌+◌, ◌<◌, ◌≤◌, nat_le, arith, List, [], ◌∷◌, ◌++◌, length, drop, slice_get}
use Rattle.std.proofs.Common.{Bool, true, false, if◌then◌else◌, Option, Some, None, refl, sym, ◌∙◌, ap, subst}
use Rattle.std.proofs.lemmas.List.{append-nil, append_assoc, length-append, length-map, map-append}
use Rattle.model.specs.declared.journals.Limits.{Limits}
use Rattle.model.specs.declared.turns.Actor.{Actor}
use Rattle.model.specs.declared.turns.Actor.TheVariants.{Thread, Collector}
use Rattle.model.specs.declared.turns.Fault.{Fault}
use Rattle.model.specs.declared.turns.Turn.{Turn}
use Rattle.model.specs.declared.turns.Turn.TheVariants.{StepLimit}
use Rattle.model.specs.ClassListings.{ClassListing}
use Rattle.model.specs.Effects.{Choice}
use Rattle.model.specs.Table.Next.{next}
use Rattle.model.specs.Turns.{actor_refusal, ideal_step, refusal, refusal_after, unless_refused}
use Rattle.model.specs.Worlds.{World, opening_world}
use Rattle.model.proofs.NextKeeps.{next-rows}
use Rattle.ideal_run.specs.Effected.{choice_in}
use Rattle.ideal_run.specs.Successors.{Successor, Transitions, successor}
use Rattle.exploration.specs.ClosedLists.{IsWitnessed, Pair, ideal_after, moved_through}
use Rattle.exploration.specs.Representation.{Represents, uncounted}
use Rattle.exploration.proofs.ClosedLists.{pairs_after, same_refusal, unrefused}
use Rattle.exploration.proofs.Witnesses.{opening_is_witnessed, turns_are_witnessed}
use Rattle.exploring.specs.Canonical.{canonical}
use Rattle.exploring.specs.declared.explored.Move.{Move}
use Rattle.exploring.specs.Origins.{AreTurns, IsAfter, LeadsOn, pair_in, pairs_in}
use Rattle.exploring.proofs.CanonicalLemmas.{is_represented}
use Rattle.exploring.proofs.ExpansionLemmas.{free, left, makes_all, never}

-- what the moves of a run lead to, one after another

module _ (program : List ClassListing) (limits : Limits) where
  -- no more rows than turns
  few_by : (w : World) (actor : Actor) (choice : Choice) (o : Option Turn)
      → (unless_refused program w actor choice o).rows ≤ w.rows + 1
  few_by w actor choice (Some refused) = omega arith
  few_by w (Thread t) choice None = (let same = next-rows program w t choice in omega (arith, same))
  few_by w Collector choice None = omega arith

  within_limit : (w : World) (actor : Actor) → refusal program limits w actor ≡ None → w.rows < limits.steps
  unfolding refusal
  within_limit w actor e = by w.fault e
    where
      below : (r s : ℕ) → nat_le s r ≡ false → r < s
      below r s l = grind (arith, l)

      limited : (b : Bool) → nat_le limits.steps w.rows ≡ b
          → (if b then Some StepLimit else actor_refusal program limits w actor) ≡ None → w.rows < limits.steps
      limited true k q = absurd (cc)
      limited false k q = below w.rows limits.steps k

      by : (o : Option (Fault × ℕ)) → refusal_after program limits w actor o ≡ None → w.rows < limits.steps
      by (Some fault) q = absurd (cc)
      by None q = limited (nat_le limits.steps w.rows) refl q

  few_rows : (w : World) (pairs : List Pair) → (moved_through program limits w pairs).rows ≤ w.rows + length pairs
  few_rows w [] = omega arith
  few_rows w (p ∷ ps) =
      let one = few_by w p.actor p.choice (refusal program limits w p.actor) in
      let rest = few_rows (ideal_step program limits w p.actor p.choice) ps in
      omega (arith, one, rest)

  -- nor more than the limit of steps
  one_within : (w : World) (actor : Actor) (choice : Choice) → w.rows ≤ limits.steps → (o : Option Turn)
      → refusal program limits w actor ≡ o → (unless_refused program w actor choice o).rows ≤ limits.steps
  one_within w actor choice l (Some refused) e = l
  one_within w actor choice l None e =
      let free = within_limit w actor e in let one = few_by w actor choice None in omega (arith, free, one)

  pub within : (pairs : List Pair) (w : World) → w.rows ≤ limits.steps
      → (moved_through program limits w pairs).rows ≤ limits.steps
  within [] w l = l
  within (p ∷ ps) w l = within ps (ideal_step program limits w p.actor p.choice)
      (one_within w p.actor p.choice l (refusal program limits w p.actor) refl)

  module _ (earlier : List Move) (x : World) (met : IsWitnessed program limits (pairs_in earlier) x) (m : Move) where
    pub leads_on : length earlier < limits.steps → refusal program limits x (Thread m.thread) ≡ None → (v y : World)
        → v ≡ (next program x m.thread (choice_in m.choice)).after → y ≡ canonical v
        → IsWitnessed program limits (pairs_in (earlier ++ m ∷ [])) y
    leads_on under free v y is form =
        let after = (next program x m.thread (choice_in m.choice)).after in
        let made = makes_all program limits (pairs_in earlier) x met m.thread free (choice_in m.choice) in
        let r : Represents y after = subst (λ (z : World). Represents z after) (sym (form ∙ ap canonical is))
        (is_represented after made) in
        let size = length-map earlier pair_in in
        subst (λ (ps : List Pair). IsWitnessed program limits ps y) (sym (map-append pair_in earlier (m ∷ [])))
        (turns_are_witnessed program limits (pairs_in earlier) x y m.thread (choice_in m.choice) met
        (omega (arith, size, under)) free r)

    abbrev w : World
    w = ideal_after program limits (pairs_in earlier)

    by_refusal : (refusal program limits x (Thread m.thread) ≡ None → ⊥) → (more : List Move)
        → AreTurns program limits (earlier ++ m ∷ more) → (o : Option Turn)
        → refusal program limits w (Thread m.thread) ≡ o → ⊥
    by_refusal refused more all None e = refused (same_refusal program limits x (uncounted w) met.represents (Thread m.thread)
        ∙ unrefused program limits w m.thread e)
    by_refusal refused more all (Some turn) e =
        let counts = met.counted in
        let stays : ideal_step program limits w (Thread m.thread) (choice_in m.choice) ≡ w =
        ap (unless_refused program w (Thread m.thread) (choice_in m.choice)) e in
        let after : ideal_after program limits (pairs_in (earlier ++ m ∷ more))
        ≡ moved_through program limits w (pairs_in more) =
        ap (ideal_after program limits) (map-append pair_in earlier (m ∷ more))
        ∙ pairs_after program limits (opening_world program) (pairs_in earlier) (pair_in m ∷ pairs_in more)
        ∙ ap (λ (v : World). moved_through program limits v (pairs_in more)) stays in
        let rows = ap (λ (v : World). v.rows) after in
        let few = few_rows w (pairs_in more) in
        let sum = length-append earlier (m ∷ more) in
        let size = length-map earlier pair_in in
        let rest = length-map more pair_in in
        omega (arith, all, rows, few, counts, sum, size, rest)

    pub leads_nowhere : (refusal program limits x (Thread m.thread) ≡ None → ⊥) → (more : List Move)
        → AreTurns program limits (earlier ++ m ∷ more) → ⊥
    leads_nowhere refused more all = by_refusal refused more all (refusal program limits w (Thread m.thread)) refl

-- ---- by the turn that the code makes

module _ (s : Transitions) (earlier : List Move) (x : World) (met : IsWitnessed s.program s.limits (pairs_in earlier) x)
    (m : Move) where
  pub moved_to : length earlier < s.limits.steps → (a : Successor)
      → Some a ≡ successor s x m.thread (choice_in m.choice) → (y : World) → y ≡ canonical a.world
      → LeadsOn s.program s.limits earlier m (Some y)
  moved_to under a k y form = leads_on s.program s.limits earlier x met m under
      (free s x m.thread (choice_in m.choice) a k) a.world y
      (ap (λ (z : Successor). z.world) (left s x m.thread (choice_in m.choice) a k)) form

  pub moved_not : None ≡ successor s x m.thread (choice_in m.choice) → LeadsOn s.program s.limits earlier m None
  moved_not k = leads_nowhere s.program s.limits earlier x met m (never s x m.thread (choice_in m.choice) k)

-- ---- one move after another

one_left : {A : Type 0} (xs : List A) (n : ℕ) (x : A) → slice_get xs n ≡ Some x → drop n xs ≡ x ∷ drop (n + 1) xs
one_left [] n x e = absurd (cc)
one_left (y ∷ ys) zero x e = (let same : y ≡ x = cc in ap (λ z. z ∷ ys) same)
one_left (y ∷ ys) (suc n) x e =
    let more : suc (n + 1) ≡ suc n + 1 = omega arith in
    one_left ys n x e ∙ ap (λ k. x ∷ drop k (y ∷ ys)) more

none_left : {A : Type 0} (xs : List A) (n : ℕ) → length xs ≤ n → drop n xs ≡ []
none_left [] zero l = refl
none_left [] (suc n) l = refl
none_left (x ∷ xs) zero l = absurd (omega (arith, l))
none_left (x ∷ xs) (suc n) l = none_left xs n (omega (arith, l))

module _ (program : List ClassListing) (limits : Limits) (moves : List Move) where
  pub none_made : (x : World) → x ≡ opening_world program → IsAfter program limits moves 0 x
  none_made x e = record {
    done = [];
    all = refl;
    met = subst (IsWitnessed program limits []) (sym e) (opening_is_witnessed program limits);
  }

  pub all_made : (n : ℕ) (x : World) → IsAfter program limits moves n x → length moves ≤ n
      → IsWitnessed program limits (pairs_in moves) x
  all_made n x a l = subst (λ (ms : List Move). IsWitnessed program limits (pairs_in ms) x)
      (sym (append-nil a.done) ∙ ap (λ ms. a.done ++ ms) (sym (none_left moves n l)) ∙ a.all) a.met

  module _ (n : ℕ) (x : World) (a : IsAfter program limits moves n x) (m : Move) (here : slice_get moves n ≡ Some m) where
    split_here : a.done ++ m ∷ drop (n + 1) moves ≡ moves
    split_here = ap (λ ms. a.done ++ ms) (sym (one_left moves n m here)) ∙ a.all

    pub few_made : length moves ≤ limits.steps → length a.done < limits.steps
    few_made l =
        let size = length-append a.done (m ∷ drop (n + 1) moves) in
        let all = ap (λ (ms : List Move). length ms) split_here in
        omega (arith, l, size, all)

    pub one_made : (y : World) → LeadsOn program limits a.done m (Some y) → IsAfter program limits moves (n + 1) y
    one_made y met = record {
      done = a.done ++ m ∷ [];
      all = append_assoc a.done (m ∷ []) (drop (n + 1) moves) ∙ split_here;
      met = met;
    }

    pub not_made : LeadsOn program limits a.done m None → AreTurns program limits moves → ⊥
    not_made none all = none (drop (n + 1) moves) (subst (AreTurns program limits) (sym split_here) all)

-- more moves than the limit of steps allows aren't all turns
pub too_many : (program : List ClassListing) (limits : Limits) (moves : List Move) → limits.steps < length moves
    → AreTurns program limits moves → ⊥
too_many program limits moves l all =
    let w = opening_world program in
    let few = within program limits (pairs_in moves) w (omega arith) in
    omega (arith, few, all, l)
