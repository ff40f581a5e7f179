use Rattle.std.proofs.Common.{◌≡◌, ℕ, nat_eq, List, [], ◌∷◌, map, drop, Bool, true, false, not, Option, Some, None}
use Rattle.std.proofs.Common.{Result, Ok, Err, refl, ◌∙◌, ap, arith, eqb-true, eq-eqb}
use Rattle.std.proofs.lemmas.List.{drop-map}
use Rattle.model.specs.declared.values.Value.{Value}
use Rattle.model.specs.declared.turns.Fault.{Fault}
use Rattle.model.specs.declared.instructions.Identity.{Identity}
use Rattle.model.specs.declared.instructions.Identity.TheVariants.{Same, Different}
use Rattle.model.specs.declared.instructions.Test.{Test}
use Rattle.model.specs.declared.instructions.Test.TheVariants.{Always, Zero, Ints, Refs, Null}
use Rattle.model.specs.declared.colours.Cell.{Cell}
use Rattle.model.specs.Worlds.{World}
use Rattle.model.specs.Collector.Places.{ref_of, Reach}
use Rattle.model.specs.Collector.Table.{cell_at}
use Rattle.model.specs.Frames.{Frame, ref_on, two_refs_on, two_ints_on}
use Rattle.model.specs.Table.Branches.{same_reference, identity_holds, refs_test, null_test, branched_on, branch_pc}
use Rattle.model.specs.Table.Branches.{branched}
use Rattle.model.proofs.CollectorLemmas.Moving.{AllMay}
use Rattle.model.proofs.CollectorLemmas.Words.{ref_on-known, both-first, both-second}
use Rattle.join.specs.Naming.{Naming, named_ref, named_value, named_frame, named_result}
use Rattle.join.specs.OnCells.{InCell, ReachedInCells}
use Rattle.join.proofs.Naming.{renamed, ref_on_named, ref_below_named, int_on_named, pair_named, replaced_named}

-- branches come to the same on cells: two births that paths reach stand in two cells, so two references are one exactly
-- where the births are one

module _ (h : Naming) where
  branched_named : (next target : ℕ) (f : Frame) (n : ℕ) (r : Result Bool Fault)
      → branched_on next target (named_frame h f) n r ≡ named_result h (branched_on next target f n r)
  branched_named next target f n (Err e) = refl
  branched_named next target f n (Ok taken) = ap Ok (replaced_named h (branch_pc next target taken) f n [])

  null_same : (identity : Identity) (r : Option ℕ) → identity_holds identity (named_ref h r) None
      ≡ identity_holds identity r None
  null_same Same None = refl
  null_same Same (Some b) = refl
  null_same Different None = refl
  null_same Different (Some b) = refl

  null_named : (identity : Identity) (r : Result (Option ℕ) Fault) → null_test identity (renamed h (named_ref h) r)
      ≡ null_test identity r
  null_named identity (Err e) = refl
  null_named identity (Ok r) = ap Ok (null_same identity r)

  module _ (cells : List Cell) (w : World) (u : ReachedInCells h cells w) where
    pub one_name : (a b : ℕ) → InCell h cells w a → InCell h cells w b → h a ≡ h b → a ≡ b
    one_name a b s r e =
        let same : s.cell ≡ r.cell = (let p = s.named in let q = r.named in omega (arith, p, q, e)) in
        let k = ap (cell_at cells) same in
        let p = s.held in
        let q = r.held in
        cc

    eq_on_cells : (a b : ℕ) (t : Bool) → nat_eq a b ≡ t → InCell h cells w a → InCell h cells w b → nat_eq (h a) (h b)
        ≡ t
    eq_on_cells a b true e s r = rw (eqb-true a b e) (eq-eqb (h b) (h b) refl)
    eq_on_cells a b false e s r = go (nat_eq (h a) (h b)) refl
      where
        go : (t : Bool) → nat_eq (h a) (h b) ≡ t → nat_eq (h a) (h b) ≡ false
        go true k = (let p = one_name a b s r (eqb-true (h a) (h b) k) in let q = eq-eqb a b p in absurd (cc))
        go false k = k

    same_on_cells : (r s : Option ℕ) → ((b : ℕ) → r ≡ Some b → Reach w b) → ((b : ℕ) → s ≡ Some b → Reach w b)
        → same_reference (named_ref h r) (named_ref h s) ≡ same_reference r s
    same_on_cells None None k l = refl
    same_on_cells None (Some b) k l = refl
    same_on_cells (Some a) None k l = refl
    same_on_cells (Some a) (Some b) k l = eq_on_cells a b _ refl (u.reached a (k a refl)) (u.reached b (l b refl))

    identity_on_cells : (identity : Identity) (r s : Option ℕ) → ((b : ℕ) → r ≡ Some b → Reach w b)
        → ((b : ℕ) → s ≡ Some b → Reach w b) → identity_holds identity (named_ref h r) (named_ref h s)
        ≡ identity_holds identity r s
    identity_on_cells Same r s k l = same_on_cells r s k l
    identity_on_cells Different r s k l = ap not (same_on_cells r s k l)

    abbrev pair : Option ℕ × Option ℕ → Option ℕ × Option ℕ
    pair p = (named_ref h p.0, named_ref h p.1)

    refs_on_cells : (identity : Identity) (stack : List Value) → AllMay (Reach w) (map ref_of stack)
        → (r : Result (Option ℕ × Option ℕ) Fault) → two_refs_on stack ≡ r → refs_test identity (renamed h pair r)
        ≡ refs_test identity r
    refs_on_cells identity stack m (Err e) k = refl
    refs_on_cells identity stack m (Ok p) k = ap Ok (identity_on_cells identity p.1 p.0
        (λ b e. ref_on-known (Reach w) (drop 1 stack) b (may_drop stack m)
        (both-second (ref_on stack) (ref_on (drop 1 stack)) p k ∙ ap Ok e))
        (λ b e. ref_on-known (Reach w) stack b m (both-first (ref_on stack) (ref_on (drop 1 stack)) p k ∙ ap Ok e)))
      where
        may_drop : (vs : List Value) → AllMay (Reach w) (map ref_of vs) → AllMay (Reach w) (map ref_of (drop 1 vs))
        may_drop [] m = tt
        may_drop (v ∷ vs) m = m.1

    two_refs_named : (stack : List Value) → two_refs_on (map (named_value h) stack) ≡ renamed h pair (two_refs_on stack)
    two_refs_named stack = rw (ref_on_named h stack, ref_below_named h 1 stack)
        (pair_named h (named_ref h) (named_ref h) (ref_on stack) (ref_on (drop 1 stack)))

    two_ints_named : (stack : List Value) → two_ints_on (map (named_value h) stack) ≡ two_ints_on stack
    two_ints_named stack = rw (int_on_named h stack, drop-map (named_value h) 1 stack, int_on_named h (drop 1 stack))
        refl

    pub branched_on_cells : (next : ℕ) (test : Test) (target : ℕ) (f : Frame) → AllMay (Reach w) (map ref_of f.stack)
        → branched next test target (named_frame h f) ≡ named_result h (branched next test target f)
    branched_on_cells next (Always width) target f m = ap Ok (replaced_named h target f 0 [])
    branched_on_cells next (Zero comparison) target f m = rw (int_on_named h f.stack) (branched_named next target f 1 _)
    branched_on_cells next (Ints comparison) target f m = rw (two_ints_named f.stack) (branched_named next target f 2 _)
    branched_on_cells next (Refs identity) target f m = rw (
      two_refs_named f.stack,
      refs_on_cells identity f.stack m _ refl,
    ) (branched_named next target f 2 _)
    branched_on_cells next (Null identity) target f m = rw (
      ref_on_named h f.stack,
      null_named identity (ref_on f.stack),
    ) (branched_named next target f 1 _)
