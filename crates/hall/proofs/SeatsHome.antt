-- The seats that a board gives its workers can be taken along, and those that come home can be given back to it.
use Rattle.std.proofs.Common.{◌≡◌, ◌<◌, ◌∙◌, ℕ, zero, suc, List, [], ◌∷◌, ◌++◌, length, get_or, All, refl, ap, sym}
use Rattle.std.proofs.Common.{subst, arith, length-append}
use Rattle.std.proofs.lemmas.List.{get_or_push}
use Rattle.std.specs.Prelude.{slice_get, Some}
use Rattle.std.proofs.lemmas.Option.{slice_get-get_or, none-some}
use Rattle.board.specs.declared.boards.Board.{Board}
use Rattle.board.specs.declared.seats.BoardSeat.{BoardSeat}
use Rattle.board.specs.Seats.{IsSeatOf, IsSameSeat, AreNewSeats, AreAllSeats, workers_of, worker_of}
use Rattle.board.proofs.SeatLists.{inside}
use Rattle.hall.specs.Homes.{Pairwise}
use Rattle.hall.proofs.Pairs.{as_long}

pub new_seats : (board : Board) (seats : List BoardSeat) → AreNewSeats board seats → All (IsSeatOf board) seats
new_seats board seats new k d within = (new k _ (slice_get-get_or seats k d within)).mine

-- the seat that left a place, of the one that came home to it
record Left (xs : List BoardSeat) (i : ℕ) (home : BoardSeat) : Type 0 where
  seat : BoardSeat
  at : slice_get xs i ≡ Some seat
  same : IsSameSeat seat home

left : (xs ys : List BoardSeat) (i : ℕ) (y : BoardSeat) → Pairwise IsSameSeat xs ys → slice_get ys i ≡ Some y
    → Left xs i y
left [] [] i y all at = absurd (none-some y at)
left [] (b ∷ ys) i y all at = absurd all
left (a ∷ xs) [] i y all at = absurd all
left (a ∷ xs) (b ∷ ys) zero y all at = record { seat = a; at = refl; same = subst (IsSameSeat a) (inside b y at) all.0 }
left (a ∷ xs) (b ∷ ys) (suc i) y all at = let l = left xs ys i y all.1 at in record {
  seat = l.seat;
  at = l.at;
  same = l.same;
}

module _ (board : Board) (seats home : List BoardSeat) (all : AreAllSeats board seats)
    (same : Pairwise IsSameSeat seats home) where
  mine : (i : ℕ) (seat : BoardSeat) → slice_get home i ≡ Some seat → IsSeatOf board seat
  mine i y at =
      let l = left seats home i y same at in
      let m = all.mine i l.seat l.at in
      (l.same.0 ∙ m.0, subst (λ (w : ℕ). w < workers_of board) (sym l.same.1) m.1)

  once : (i j : ℕ) (x y : BoardSeat) → slice_get home i ≡ Some x → slice_get home j ≡ Some y → worker_of x ≡ worker_of y
      → i ≡ j
  once i j x y at there e =
      let a = left seats home i x same at in
      let b = left seats home j y same there in
      all.once i j a.seat b.seat a.at b.at (sym a.same.1 ∙ e ∙ b.same.1)

  pub all_home : AreAllSeats board home
  all_home = record { all = as_long IsSameSeat seats home same ∙ all.all; mine = mine; once = once }

-- ---- a fact on each seat, without the last one

module _ {A : Type 0} where
  within : (xs : List A) (x d : A) (k : ℕ) → k < length xs → get_or (xs ++ x ∷ []) k d ≡ get_or xs k d
  within [] x d k lt = absurd (omega arith)
  within (y ∷ xs) x d zero lt = refl
  within (y ∷ xs) x d (suc k) lt = within xs x d k (omega arith)

  pub all_but_last : (P : A → Type 0) (all xs : List A) (x : A) → all ≡ xs ++ x ∷ [] → All P all → All P xs
  all_but_last P all xs x is h k d lt =
      let l = length-append xs (x ∷ []) in
      subst P (ap (λ (zs : List A). get_or zs k d) is ∙ within xs x d k lt) (h k d (rw is (omega arith)))

  pub of_last : (P : A → Type 0) (all xs : List A) (x : A) → all ≡ xs ++ x ∷ [] → All P all → P x
  of_last P all xs x is h =
      let l = length-append xs (x ∷ []) in
      subst P (ap (λ (zs : List A). get_or zs (length xs) x) is ∙ get_or_push xs x x (length xs) refl)
      (h (length xs) x (rw is (omega arith)))
