-- Each step of a seat is allowed: the rule is kept, and the seat is told what is so.
use Rattle.std.proofs.Common.{◌≡◌, ◌≢◌, ◌<◌, ◌≤◌, ◌+◌, ◌%◌, ◌^◌, ℕ, Bool, true, false, ◌||◌, not, List, length, set}
use Rattle.std.proofs.Common.{refl, ap, sym, ◌∙◌, subst, arith, bit_or, length-set, eq-eqb}
use Rattle.std.specs.Prelude.{slice_index, nat_eq, Option, None, Some}
use Rattle.std.specs.Option.{is_some}
use Rattle.std.proofs.lemmas.List.{set-get_or, get_or-set_same, get_or-set_other}
use Rattle.std.proofs.lemmas.Nat.{le_or_r}
use Rattle.std.proofs.Math.Nat.{mod-eq_of_lt}
use mathlib.Core.Option.{some, none}
use mathlib.Core.Logic.{dite}
use native.Mathlib.Decide.{ℕ_discrete}
use lib.ListN.{get_elem?}
use Rattle.atomic_table.specs.Table.{State, Me, keeps, step, Allows}
use Rattle.board.specs.declared.views.Mark.{Mark}
use Rattle.board.specs.declared.views.View.{View}
use Rattle.board.specs.Marks.{mark_of, found, Stands}
use Rattle.board.specs.Rule.{GuestIsOther, Fits, IsKept, count_found, stop_found, FindsCount, AddsOne, FindsStop}
use Rattle.board.specs.Rule.{SetsStop}
use Rattle.board.proofs.MarkLaws.{each_changed, stands_found, stands_risen, owned_is, some_found, own_count}
use Rattle.board.proofs.Keeping.{steps, Owns}

-- ---- counts

fits_found : (old new : List ℕ) (v : View) (w n : ℕ) → Fits old v → slice_index new (w + 1) ≡ n
    → ((i : ℕ) → i ≢ w + 1 → slice_index new i ≡ slice_index old i) → Fits new (count_found v w n)
fits_found old new v w n fits here there = record {
  counts = each_changed (λ k m. Stands (slice_index new (k + 1)) m) (found n) v.marks w
      (subst (λ (x : ℕ). Stands x (found n (mark_of v.marks w))) (sym here) (stands_found n (mark_of v.marks w)))
      (λ k ne. subst (λ (x : ℕ). Stands x (mark_of v.marks k)) (sym (there (k + 1) (λ e. ne (omega arith))))
      (fits.counts k));
  stop = λ e. λ z. fits.stop e (sym (there 0 (λ h. omega arith)) ∙ z);
  guest = fits.guest;
}

owns_found : (v : View) (w n k : ℕ) → Owns (count_found v w n) k → Owns v k
owns_found v w n k = each_changed (λ j m. is_some m.own ≡ true → Owns v j) (found n) v.marks w
    (λ o. sym (some_found n (mark_of v.marks w).own) ∙ o) (λ j ne o. o) k

foreign : (o : Option ℕ) → (is_some o ≡ true → ⊥) → o ≡ None
foreign None never = refl
foreign (Some c) never = absurd (never refl)

module _ (workers slots id : ℕ) (v : View) (cs : List (ℕ × ℕ)) where
  abbrev Rule : State ℕ View → Type 0
  Rule = IsKept ℕ workers

  reported : (w n m : ℕ) → Stands n (mark_of v.marks w) → (k : ℕ) → w + 1 ≡ k + 1 → Stands n (mark_of v.marks k)
      × (◌≡◌ {A = Me ℕ View} (count_found v w m, cs) (count_found v k m, cs))
  reported w n m stands k e = let same : w ≡ k = omega arith in
      (subst (λ (j : ℕ). Stands n (mark_of v.marks j)) same stands, ap (λ (j : ℕ). (count_found v j m, cs)) same)

  pub look_allowed : (w : ℕ)
      → Allows Rule slots id (v, cs) (w + 1) (λ n. n) (FindsCount (step slots (w + 1) 0 0 none) (v, cs))
  look_allowed w s kept len here small =
      let n : ℕ = slice_index s.words (w + 1) in
      let fits = kept.fits id v here in
      let same : set s.words (w + 1) n ≡ s.words = set-get_or s.words (w + 1) 0 in (
        count_found v w n,
        keeps,
        tt,
        subst (λ (words : List ℕ). Rule (record {
          words = words;
          homes = s.homes;
          views = set s.views id (count_found v w n);
        })) (sym same)
            (steps ℕ workers id v (count_found v w n) s.words s kept here kept.long
            (fits_found s.words s.words v w n fits refl (λ i ne. refl)) (λ j t ne at. kept.fits j t at)
            (owns_found v w n)),
        reported w n n (fits.counts w),
      )

  fits_risen : (s : State ℕ View) → Rule s → get_elem? s.views id ≡ some v → (w count : ℕ) (new : List ℕ)
      → (mark_of v.marks w).own ≡ Some count
      → slice_index s.words (w + 1) ≤ slice_index new (w + 1)
      → ((i : ℕ) → i ≢ w + 1 → slice_index new i ≡ slice_index s.words i)
      → (j : ℕ) (t : View) → j ≢ id → get_elem? s.views j ≡ some t → Fits new t
  fits_risen s kept here w count new own up there j t ne at = let fits = kept.fits j t at in record {
    counts = λ k. dite (ℕ_discrete k w)
        (λ e. subst (λ (i : ℕ). Stands (slice_index new (i + 1)) (mark_of t.marks i)) (sym e)
        (stands_risen (slice_index s.words (w + 1)) (slice_index new (w + 1)) (mark_of t.marks w) up
        (foreign (mark_of t.marks w).own
        (λ o. ne (kept.apart j id t v at here w o (own_count (mark_of v.marks w).own count own)))) (fits.counts w)))
        (λ differs. subst (λ (x : ℕ). Stands x (mark_of t.marks k)) (sym (there (k + 1) (λ e. differs (omega arith))))
        (fits.counts k));
    stop = λ e. λ z. fits.stop e (sym (there 0 (λ h. omega arith)) ∙ z);
    guest = fits.guest;
  }

  pub pulse_allowed : (w count : ℕ) → w < workers → (mark_of v.marks w).own ≡ Some count → count < 18446744073709551615
      → Allows Rule slots id (v, cs) (w + 1) (λ n. (n + 1) % 2 ^ 64) (AddsOne (step slots (w + 1) 1 0 none) (v, cs))
  pulse_allowed w count inside own room s kept len here small =
      let n : ℕ = slice_index s.words (w + 1) in
      let fits = kept.fits id v here in
      let is : n ≡ count = owned_is n (mark_of v.marks w) count own (fits.counts w) in
      let more : (n + 1) % 2 ^ 64 ≡ n + 1 = mod-eq_of_lt (omega arith) in
      let long : w + 1 < length s.words = (let l = kept.long in omega arith) in
      let new : List ℕ = set s.words (w + 1) (n + 1) in
      let at_w : slice_index new (w + 1) ≡ n + 1 = get_or-set_same s.words (w + 1) (n + 1) 0 long in
      let there : (i : ℕ) → i ≢ w + 1 → slice_index new i ≡ slice_index s.words i = λ i ne. get_or-set_other s.words
      (w + 1) i (n + 1) 0 ne in
      let after : View = count_found v w (n + 1) in (
        after,
        keeps,
        tt,
        subst (λ (x : ℕ). Rule (record {
          words = set s.words (w + 1) x;
          homes = s.homes;
          views = set s.views id after;
        })) (sym more)
            (steps ℕ workers id v after new s kept here (length-set s.words (w + 1) (n + 1) ∙ kept.long)
            (fits_found s.words new v w (n + 1) fits at_w there)
            (fits_risen s kept here w count new own (subst (λ (x : ℕ). n ≤ x) (sym at_w) (omega arith)) there)
            (owns_found v w (n + 1))),
        reported w n (n + 1) (fits.counts w),
      )

-- ---- the stop

not_zero : (n : ℕ) → nat_eq n 0 ≡ false → n ≢ 0
not_zero n e z = let t : nat_eq n 0 ≡ true = eq-eqb n 0 z in absurd (cc)

set_or_seen : (n : ℕ) (b found : Bool) → nat_eq n 0 ≡ found → (b ≡ true → n ≢ 0) → (not found || b) ≡ true → n ≢ 0
set_or_seen n b true e old h = old h
set_or_seen n b false e old h = not_zero n e

fits_stop : (words : List ℕ) (v : View) → Fits words v → Fits words (stop_found v (slice_index words 0))
fits_stop words v fits = record {
  counts = fits.counts;
  stop = set_or_seen (slice_index words 0) v.stop (nat_eq (slice_index words 0) 0) refl fits.stop;
  guest = fits.guest;
}

-- the stop's word isn't 0 any more
fits_stopped : (words : List ℕ) (n : ℕ) (v u : View) → 0 < length words → n ≢ 0 → Fits words v → u.marks ≡ v.marks
    → GuestIsOther u → Fits (set words 0 n) u
fits_stopped words n v u room ne fits same guest = record {
  counts = λ w. subst (λ (x : ℕ). Stands x (mark_of u.marks w))
      (sym (get_or-set_other words 0 (w + 1) n 0 (λ e. omega arith)))
      (subst (λ (ms : List Mark). Stands (slice_index words (w + 1)) (mark_of ms w)) (sym same) (fits.counts w));
  stop = λ _. λ z. ne (sym (get_or-set_same words 0 n 0 room) ∙ z);
  guest = guest;
}

module _ (workers slots id : ℕ) (v : View) (cs : List (ℕ × ℕ)) where
  pub stop_look_allowed : Allows (IsKept ℕ workers) slots id (v, cs) 0 (λ n. n) (FindsStop (step slots 0 0 0 none) (
    v,
    cs,
  ))
  stop_look_allowed s kept len here small =
      let n : ℕ = slice_index s.words 0 in
      let fits = kept.fits id v here in
      let same : set s.words 0 n ≡ s.words = set-get_or s.words 0 0 in (
        stop_found v n,
        keeps,
        tt,
        subst (λ (words : List ℕ). IsKept ℕ workers (record {
          words = words;
          homes = s.homes;
          views = set s.views id (stop_found v n);
        })) (sym same)
            (steps ℕ workers id v (stop_found v n) s.words s kept here kept.long (fits_stop s.words v fits)
            (λ j t ne at. kept.fits j t at) (λ w o. o)),
        (fits.stop, fits.guest, refl),
      )

  pub ask_allowed : Allows (IsKept ℕ workers) slots id (v, cs) 0 (λ n. bit_or n 1) (SetsStop (step slots 0 1 0 none) (
    v,
    cs,
  ))
  ask_allowed s kept len here small =
      let n : ℕ = bit_or (slice_index s.words 0) 1 in
      let set_now : n ≢ 0 = λ e. (let le = le_or_r (slice_index s.words 0) 1 in omega arith) in
      let room : 0 < length s.words = (let l = kept.long in omega arith) in (
        stop_found v 1,
        keeps,
        tt,
        steps ℕ workers id v (stop_found v 1) (set s.words 0 n) s kept here (length-set s.words 0 n ∙ kept.long)
            (fits_stopped s.words n v (stop_found v 1) room set_now (kept.fits id v here) refl
            (kept.fits id v here).guest)
            (λ j t ne at. fits_stopped s.words n t t room set_now (kept.fits j t at) refl (kept.fits j t at).guest)
            (λ w o. o),
        refl,
      )
