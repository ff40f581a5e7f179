-- What a seat knows after a step.
use Rattle.std.proofs.Common.{true, ◌≡◌, ◌≢◌, ◌≤◌, ◌+◌, ℕ, [], refl, ap, sym, ◌∙◌, subst, arith, le_refl}
use Rattle.std.specs.Prelude.{Option, None, Some, IfSome, option_map}
use mathlib.Core.Option.{none}
use Rattle.atomic_table.specs.Table.{Me, step}
use Rattle.board.specs.declared.views.Mark.{Mark}
use Rattle.board.specs.declared.views.View.{View}
use Rattle.board.specs.declared.seats.BoardSeat.{BoardSeat}
use Rattle.board.specs.Marks.{is_own, mark_of, found, Stands}
use Rattle.board.specs.Rule.{count_found, FindsCount, AddsOne}
use Rattle.board.proofs.MarkLaws.{own_count, each_changed, mark_of-found, owned_is}

-- what a seat's fields say of what it knows
pub record Holds (me : Me ℕ View) (worker count : ℕ) : Type 0 where
  pub no_slot : me.1 ≡ []
  pub worker_is : me.0.worker ≡ worker
  pub own : (mark_of me.0.marks worker).own ≡ Some count
  pub no_other : (w : ℕ) → w ≢ worker → (mark_of me.0.marks w).own ≡ None

pub holds : (seat : BoardSeat) → Holds seat.seat.me seat.worker seat.count
holds seat = record { no_slot = seat.no_slot; worker_is = seat.worker_is; own = seat.own; no_other = seat.no_other }

pub owns_its : (me : Me ℕ View) (worker count : ℕ) → Holds me worker count → is_own me.0.marks me.0.worker ≡ true
owns_its me worker count held = own_count (mark_of me.0.marks me.0.worker).own count
    (ap (λ (w : ℕ). (mark_of me.0.marks w).own) held.worker_is ∙ held.own)

-- one count was looked at, and n was found
pub record Looked (w n : ℕ) (before after : View) : Type 0 where
  pub worker : after.worker ≡ before.worker
  pub guest : after.guest ≡ before.guest
  pub stands : Stands n (mark_of before.marks w)
  pub own : (k : ℕ) → (mark_of after.marks k).own ≡ (mark_of before.marks k).own
  pub later : (k : ℕ) → (mark_of before.marks k).seen ≤ (mark_of after.marks k).seen
  pub now : (mark_of after.marks w).seen ≡ n
  pub others : (k : ℕ) → k ≢ w → (mark_of after.marks k).seen ≡ (mark_of before.marks k).seen
  pub stop : after.stop ≡ before.stop

same_own : (n : ℕ) (o : Option ℕ) → IfSome o (λ c. n ≡ c) → option_map (λ _. n) o ≡ o
same_own n None is = refl
same_own n (Some c) is = ap Some is

seen_later : (v : View) (w n k : ℕ) → (mark_of v.marks w).seen ≤ n
    → (mark_of v.marks k).seen ≤ (mark_of (count_found v w n).marks k).seen
seen_later v w n k le = each_changed (λ j m. (mark_of v.marks j).seen ≤ m.seen) (found n) v.marks w le
    (λ j ne. le_refl (mark_of v.marks j).seen) k

look_tells : (v : View) (w n : ℕ) → Stands n (mark_of v.marks w) → Looked w n v (count_found v w n)
look_tells v w n stands = record {
  worker = refl;
  guest = refl;
  stands = stands;
  own = each_changed (λ k m. m.own ≡ (mark_of v.marks k).own) (found n) v.marks w
      (same_own n (mark_of v.marks w).own stands.1) (λ k ne. refl);
  later = λ k. seen_later v w n k stands.0;
  now = ap (λ (m : Mark). m.seen) (mark_of-found v.marks w n);
  others = each_changed (λ k m. k ≢ w → m.seen ≡ (mark_of v.marks k).seen) (found n) v.marks w
      (λ never. absurd (never refl)) (λ k ne again. refl);
  stop = refl;
}

module _ (slots w n : ℕ) (me new : Me ℕ View) where
  pub looked : FindsCount (step slots (w + 1) 0 0 none) me n new → Looked w n me.0 new.0
  looked is = let f = is w refl in subst (Looked w n me.0) (sym (ap (λ (m : Me ℕ View). m.0) f.1))
      (look_tells me.0 w n f.0)

  pub look_keeps_slots : FindsCount (step slots (w + 1) 0 0 none) me n new → new.1 ≡ me.1
  look_keeps_slots is = ap (λ (m : Me ℕ View). m.1) (is w refl).1

pub own_count_found : (w n : ℕ) (before after : View) (count : ℕ) → Looked w n before after
    → (mark_of before.marks w).own ≡ Some count → n ≡ count
own_count_found w n before after count look own = owned_is n (mark_of before.marks w) count own look.stands

-- of a seat's own worker its count is found
pub own_found : (me : Me ℕ View) (worker count w n : ℕ) (after : View) → Holds me worker count → Looked w n me.0 after
    → w ≡ worker → n ≡ count
own_found me worker count w n after held look same = own_count_found w n me.0 after count look
    (ap (λ (k : ℕ). (mark_of me.0.marks k).own) same ∙ held.own)

pub still_holds : (me new : Me ℕ View) (worker count w n : ℕ) → Holds me worker count → Looked w n me.0 new.0
    → new.1 ≡ me.1 → Holds new worker count
still_holds me new worker count w n held look slots = record {
  no_slot = slots ∙ held.no_slot;
  worker_is = look.worker ∙ held.worker_is;
  own = look.own worker ∙ held.own;
  no_other = λ k ne. look.own k ∙ held.no_other k ne;
}

module _ (slots worker count n : ℕ) (me new : Me ℕ View) (held : Holds me worker count)
    (reported : AddsOne (step slots (worker + 1) 1 0 none) me n new) where
  is : new ≡ (count_found me.0 worker (n + 1), me.1)
  is = (reported worker refl).1

  was : n ≡ count
  was = owned_is n (mark_of me.0.marks worker) count held.own (reported worker refl).0

  own_now : (mark_of (count_found me.0 worker (n + 1)).marks worker).own ≡ Some (count + 1)
  own_now = ap (λ (m : Mark). m.own) (mark_of-found me.0.marks worker (n + 1)) ∙ (ap (option_map (λ _. n + 1)) held.own
      ∙ ap (λ (k : ℕ). Some (k + 1)) was)

  pub pulsed : Holds new worker (count + 1)
  pulsed = record {
    no_slot = ap (λ (m : Me ℕ View). m.1) is ∙ held.no_slot;
    worker_is = ap (λ (m : Me ℕ View). m.0.worker) is ∙ held.worker_is;
    own = ap (λ (m : Me ℕ View). (mark_of m.0.marks worker).own) is ∙ own_now;
    no_other = λ w ne. ap (λ (m : Me ℕ View). (mark_of m.0.marks w).own) is
        ∙ each_changed (λ k m. k ≢ worker → m.own ≡ None) (found (n + 1)) me.0.marks worker
        (λ never. absurd (never refl)) (λ k other again. held.no_other k again) w ne;
  }

  pub pulse_later : (w : ℕ) → (mark_of me.0.marks w).seen ≤ (mark_of new.0.marks w).seen
  pulse_later w = subst (λ (x : ℕ). (mark_of me.0.marks w).seen ≤ x)
      (sym (ap (λ (m : Me ℕ View). (mark_of m.0.marks w).seen) is))
      (seen_later me.0 worker (n + 1) w (let le = (reported worker refl).0.0 in omega arith))

  pub pulse_stop : new.0.stop ≡ me.0.stop
  pulse_stop = ap (λ (m : Me ℕ View). m.0.stop) is
