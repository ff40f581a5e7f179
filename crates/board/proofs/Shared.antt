-- The rule holds at the opening, and is kept where a worker gets its seat, where a seat hands over its view, takes in
-- another's, and where a guest goes.
use Rattle.std.proofs.Common.{IfSome, Option, None, ◌≡◌, ◌≢◌, ◌+◌, ℕ, zero, suc, Bool, true, false, ◌||◌, List, [], ◌∷◌}
use Rattle.std.proofs.Common.{replicate, refl, sym, ◌∙◌, subst, ◌⊎◌, inl, inr, ⊎_elim, arith}
use Rattle.std.specs.Prelude.{slice_index, Some}
use Rattle.std.specs.Option.{is_some}
use Rattle.std.proofs.lemmas.List.{length-replicate}
use mathlib.Core.Option.{some, some-injective, some-ne-none}
use lib.ListN.{get_elem?}
use Rattle.atomic_table.specs.Table.{opening, Splits, Joins}
use Rattle.board.specs.declared.views.Mark.{Mark}
use Rattle.board.specs.declared.views.View.{View}
use Rattle.board.specs.Marks.{mark_of, released, without, only, together, Stands}
use Rattle.board.specs.Rule.{GuestIsOther, Fits, IsKept, unseated, spent, seated, seats_left, hosting, gathered}
use Rattle.board.specs.Rule.{guest_of, host_after, guest_after}
use Rattle.board.proofs.MarkLaws.{each_changed, each_only, each_together, stands_released, stands_joined, some_either}
use Rattle.board.proofs.Keeping.{splits, joins, Owns}

-- ---- a worker's own part of a view, and the rest

fits_without : (words : List ℕ) (ms : List Mark) (w : ℕ) → ((k : ℕ) → Stands (slice_index words (k + 1)) (mark_of ms k))
    → (k : ℕ) → Stands (slice_index words (k + 1)) (mark_of (without ms w) k)
fits_without words ms w all = each_changed (λ k m. Stands (slice_index words (k + 1)) m) released ms w
    (stands_released (slice_index words (w + 1)) (mark_of ms w) (all w)) (λ k ne. all k)

fits_only : (words : List ℕ) (ms : List Mark) (w : ℕ) → ((k : ℕ) → Stands (slice_index words (k + 1)) (mark_of ms k))
    → (k : ℕ) → Stands (slice_index words (k + 1)) (mark_of (only ms w) k)
fits_only words ms w all = each_only (λ k m. Stands (slice_index words (k + 1)) m) ms w (all w)
    (λ k ne. stands_released (slice_index words (k + 1)) (mark_of ms k) (all k))

owns_without : (ms : List Mark) (w k : ℕ) → is_some (mark_of (without ms w) k).own ≡ true → (k ≢ w)
    × (is_some (mark_of ms k).own ≡ true)
owns_without ms w = each_changed (λ k m. is_some m.own ≡ true → (k ≢ w) × (is_some (mark_of ms k).own ≡ true)) released
    ms w (λ o. absurd (cc)) (λ k ne o. (ne, o))

owns_only : (ms : List Mark) (w k : ℕ) → is_some (mark_of (only ms w) k).own ≡ true → (k ≡ w)
    × (is_some (mark_of ms k).own ≡ true)
owns_only ms w = each_only (λ k m. is_some m.own ≡ true → (k ≡ w) × (is_some (mark_of ms k).own ≡ true)) ms w
    (λ o. (refl, o)) (λ k ne o. absurd (cc))

no_guest : (v : View) → v.guest ≡ None → GuestIsOther v
no_guest v e = subst (λ (o : Option ℕ). IfSome o (λ guest. v.worker ≢ guest)) (sym e) tt

module _ (workers id : ℕ) (v : View) where
  -- the view is cut in w's part and the rest, whatever the two parts are called
  cut_allowed : (w : ℕ) (left right : View) → left.marks ≡ without v.marks w → left.stop ≡ v.stop → left.guest ≡ None
      → right.marks ≡ only v.marks w → right.stop ≡ v.stop → right.guest ≡ None
      → Splits (IsKept ℕ workers) id v left right
  cut_allowed w left right rest stop_l none_l part stop_r none_r = splits ℕ workers id v left right
      (λ words fits. (
        record {
          counts = subst (λ (ms : List Mark). (k : ℕ) → Stands (slice_index words (k + 1)) (mark_of ms k)) (sym rest)
              (fits_without words v.marks w fits.counts);
          stop = λ e. fits.stop (sym stop_l ∙ e);
          guest = no_guest left none_l;
        },
        record {
          counts = subst (λ (ms : List Mark). (k : ℕ) → Stands (slice_index words (k + 1)) (mark_of ms k)) (sym part)
              (fits_only words v.marks w fits.counts);
          stop = λ e. fits.stop (sym stop_r ∙ e);
          guest = no_guest right none_r;
        },
      ))
      (λ k o. (left_owns k o).1) (λ k o. (right_owns k o).1) (λ k l r. (left_owns k l).0 (right_owns k r).0)
    where
      left_owns : (k : ℕ) → Owns left k → (k ≢ w) × Owns v k
      left_owns k o = owns_without v.marks w k (subst (λ (ms : List Mark). is_some (mark_of ms k).own ≡ true) rest o)

      right_owns : (k : ℕ) → Owns right k → (k ≡ w) × Owns v k
      right_owns k o = owns_only v.marks w k (subst (λ (ms : List Mark). is_some (mark_of ms k).own ≡ true) part o)

  pub seat_allowed : Splits (IsKept ℕ workers) id v (seats_left v) (seated v)
  seat_allowed = cut_allowed v.worker (seats_left v) (seated v) refl refl refl refl refl refl

  pub part_allowed : Splits (IsKept ℕ workers) id v (host_after v) (guest_after v)
  part_allowed = cut_allowed (guest_of v) (host_after v) (guest_after v) refl refl refl refl refl refl

  pub hand_over_allowed : Splits (IsKept ℕ workers) id v spent v
  hand_over_allowed = splits ℕ workers id v spent v
      (λ words fits. (record { counts = λ w. (omega arith, tt); stop = λ e. absurd (cc); guest = tt }, fits))
      (λ w o. absurd (cc)) (λ w o. o) (λ w l r. cc)

either : (a b : Bool) → a || b ≡ true → (a ≡ true) ⊎ (b ≡ true)
either true b e = inl refl
either false b e = inr e

module _ (workers id : ℕ) (v : View) (other : ℕ) (w : View) where
  -- the two views are made one, whatever it is called
  both_allowed : (both : View) → both.marks ≡ together v.marks w.marks → both.stop ≡ v.stop || w.stop
      → (((x : ℕ) → Owns v x → Owns w x → ⊥) → GuestIsOther both) → Joins (IsKept ℕ workers) id v other w both spent
  both_allowed both marks stop guest = joins ℕ workers id v other w both
      (λ words apart fits_v fits_w. record {
        counts = subst (λ (ms : List Mark). (k : ℕ) → Stands (slice_index words (k + 1)) (mark_of ms k)) (sym marks)
            (each_together (λ k m. Stands (slice_index words (k + 1)) m) v.marks w.marks
            (λ k. stands_joined (slice_index words (k + 1)) (mark_of v.marks k) (mark_of w.marks k)
            (fits_v.counts k) (fits_w.counts k)));
        stop = λ e. ⊎_elim fits_v.stop fits_w.stop (either v.stop w.stop (sym stop ∙ e));
        guest = guest apart;
      })
      (λ x o. each_together (λ k m. is_some m.own ≡ true → Owns v k ⊎ Owns w k) v.marks w.marks
      (λ k. some_either (mark_of v.marks k).own (mark_of w.marks k).own) x
      (subst (λ (ms : List Mark). is_some (mark_of ms x).own ≡ true) marks o))

  -- both views own their own workers' counts, so these are two workers
  pub take_in_allowed : Owns v v.worker → Owns w w.worker → Joins (IsKept ℕ workers) id v other w (hosting v w) spent
  take_in_allowed own_v own_w = both_allowed (hosting v w) refl refl
      (λ apart e. apart v.worker own_v (subst (Owns w) (sym e) own_w))

  pub gather_allowed : Joins (IsKept ℕ workers) id v other w (gathered v w) spent
  gather_allowed = both_allowed (gathered v w) refl refl (λ apart. tt)

-- ---- the opening

zeros : (n k : ℕ) → slice_index (replicate n 0) k ≡ 0
zeros zero k = refl
zeros (suc n) zero = refl
zeros (suc n) (suc k) = zeros n k

abbrev pub owned_zero : Mark
owned_zero = record { seen = 0; own = Some 0 }

all_stand : (n k : ℕ) → Stands 0 (mark_of (replicate n owned_zero) k)
all_stand zero k = (omega arith, tt)
all_stand (suc n) zero = (omega arith, refl)
all_stand (suc n) (suc k) = all_stand n k

only_one : {A : Type 0} (a b : A) (i : ℕ) → get_elem? (a ∷ []) i ≡ some b → (i ≡ 0) × (a ≡ b)
only_one a b zero e = (refl, some-injective a b e)
only_one a b (suc i) e = absurd (some-ne-none b (sym e))

pub opens : (workers n : ℕ) → n ≡ workers + 1 → IsKept ℕ workers (opening (replicate n 0) [] (unseated workers))
opens workers n is = record {
  long = length-replicate n 0 ∙ is;
  fits = λ j u e. subst (Fits (replicate n 0)) (only_one (unseated workers) u j e).1 (record {
    counts = λ w. subst (λ (m : ℕ). Stands m (mark_of (replicate workers owned_zero) w)) (sym (zeros n (w + 1)))
        (all_stand workers w);
    stop = λ h. absurd (cc);
    guest = tt;
  });
  apart = λ i j u v a b w x y. (only_one (unseated workers) u i a).0 ∙ sym (only_one (unseated workers) v j b).0;
}
