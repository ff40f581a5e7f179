-- The seats are cut off one by one from the view that owns all counts.
use Rattle.std.proofs.Common.{◌≡◌, ◌≢◌, ◌<◌, ◌+◌, ℕ, zero, suc, replicate, refl, ap, ◌∙◌, arith}
use Rattle.std.specs.Prelude.{None, Some}
use Rattle.board.specs.declared.views.Mark.{Mark}
use Rattle.board.specs.declared.views.View.{View}
use Rattle.board.specs.Marks.{mark_of, only}
use Rattle.board.specs.Rule.{unseated, seated, seats_left}
use Rattle.board.specs.Seats.{IsNextSeat}
use Rattle.board.proofs.MarkLaws.{mark_of-only, seen-without, seen-only, own-without, own-only}
use Rattle.board.proofs.Shared.{owned_zero}

all_owned : (n k : ℕ) → k < n → (mark_of (replicate n owned_zero) k).own ≡ Some 0
all_owned zero k lt = absurd (omega arith)
all_owned (suc n) zero lt = refl
all_owned (suc n) (suc k) lt = all_owned n k (omega arith)

none_seen : (n k : ℕ) → (mark_of (replicate n owned_zero) k).seen ≡ 0
none_seen zero k = refl
none_seen (suc n) zero = refl
none_seen (suc n) (suc k) = none_seen n k

pub opening_is : (workers : ℕ) → IsNextSeat workers 0 (unseated workers)
opening_is workers = record {
  next_is = refl;
  own = λ w from to. all_owned workers w to;
  unseen = λ w. none_seen workers w;
  stop = refl;
}

module _ (workers next : ℕ) (v : View) (is : IsNextSeat workers next v) where
  pub rest_is : IsNextSeat workers (next + 1) (seats_left v)
  rest_is = record {
    next_is = (let e = is.next_is in omega arith);
    own = λ w from to. own-without v.marks v.worker w
        (λ e. let n = is.next_is in omega arith) ∙ is.own w (omega arith) to;
    unseen = λ w. seen-without v.marks v.worker w ∙ is.unseen w;
    stop = is.stop;
  }

  pub own_seated : next < workers → (mark_of (seated v).marks next).own ≡ Some 0
  own_seated lt = ap (λ (w : ℕ). (mark_of (only v.marks w) next).own) is.next_is
      ∙ (ap (λ (m : Mark). m.own) (mark_of-only v.marks next) ∙ is.own next (omega arith) lt)

  pub no_other_seated : (w : ℕ) → w ≢ next → (mark_of (seated v).marks w).own ≡ None
  no_other_seated w ne = own-only v.marks v.worker w (λ e. ne (e ∙ is.next_is))

  pub unseen_seated : (w : ℕ) → (mark_of (seated v).marks w).seen ≡ 0
  unseen_seated w = seen-only v.marks v.worker w ∙ is.unseen w
