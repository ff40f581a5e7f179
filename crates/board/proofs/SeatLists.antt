-- Lists of seats by their places.
use Rattle.std.proofs.Common.{◌≡◌, ◌+◌, ℕ, zero, suc, List, [], ◌∷◌, ◌++◌, length, refl, ap, sym, ◌∙◌, subst, arith}
use Rattle.std.proofs.Common.{◌⊎◌, inl, inr, ⊎_elim}
use Rattle.std.specs.Prelude.{Option, Some, slice_get, unwrap_or}
use Rattle.std.proofs.lemmas.Option.{none-some}
use Rattle.board.specs.declared.boards.Board.{Board}
use Rattle.board.specs.declared.seats.BoardSeat.{BoardSeat}
use Rattle.board.specs.Seats.{IsSeatOf, IsNewSeat, AreNewSeats, AreAllSeats, worker_of, workers_of}

pub inside : {A : Type 0} (a b : A) → Some a ≡ Some b → a ≡ b
inside a b e = ap (λ (o : Option _). unwrap_or o a) e

pub at_end : {A : Type 0} (xs : List A) (last x : A) (i : ℕ) → slice_get (xs ++ last ∷ []) i ≡ Some x
    → (slice_get xs i ≡ Some x) ⊎ ((i ≡ length xs) × (last ≡ x))
at_end [] last x zero e = inr (refl, inside last x e)
at_end [] last x (suc i) e = absurd (none-some x e)
at_end (y ∷ ys) last x zero e = inl e
at_end (y ∷ ys) last x (suc i) e = ⊎_elim inl (λ t. inr (ap suc t.0, t.1)) (at_end ys last x i e)

pub at_last : {A : Type 0} (xs : List A) (last : A) → slice_get (xs ++ last ∷ []) (length xs) ≡ Some last
at_last [] last = refl
at_last (y ∷ ys) last = at_last ys last

pub before_last : {A : Type 0} (xs : List A) (last x : A) (i : ℕ) → slice_get xs i ≡ Some x
    → slice_get (xs ++ last ∷ []) i ≡ Some x
before_last [] last x i e = absurd (none-some x e)
before_last (y ∷ ys) last x zero e = e
before_last (y ∷ ys) last x (suc i) e = before_last ys last x i e

pub one_more : (board : Board) (seats more : List BoardSeat) (seat : BoardSeat) (n : ℕ) → more ≡ seats ++ seat ∷ []
    → length seats ≡ n → AreNewSeats board seats → IsNewSeat board n seat → AreNewSeats board more
one_more board seats more seat n is long all new w x at = ⊎_elim
    (all w x)
    (λ h. subst (λ (k : ℕ). IsNewSeat board k x) (sym (h.0 ∙ long)) (subst (IsNewSeat board n) h.1 new))
    (at_end seats seat x w (subst (λ (xs : List BoardSeat). slice_get xs w ≡ Some x) is at))

pub longer : {A : Type 0} (xs : List A) (last : A) → length (xs ++ last ∷ []) ≡ length xs + 1
longer [] last = refl
longer (y ∷ ys) last = let e = longer ys last in omega arith

-- seats in the workers' order are all seats
pub all_in_order : (board : Board) (seats : List BoardSeat) → length seats ≡ workers_of board
    → ((w : ℕ) (seat : BoardSeat) → slice_get seats w ≡ Some seat → IsSeatOf board seat × (worker_of seat ≡ w))
    → AreAllSeats board seats
all_in_order board seats long at = record {
  all = long;
  mine = λ i seat e. (at i seat e).0;
  once = λ i j a b x y same. sym (at i a x).1 ∙ (same ∙ (at j b y).1);
}
