-- What a view knows that has taken in the seats from k on.
use Rattle.std.specs.Prelude.{◌≡◌, ◌≤◌, ◌<◌, ℕ, List, slice_get, None, Some}
use Rattle.board.specs.declared.seats.BoardSeat.{BoardSeat}
use Rattle.board.specs.declared.views.View.{View}
use Rattle.board.specs.Marks.{mark_of}
use Rattle.board.specs.Seats.{worker_of, count_of, seen_of}

pub record IsGathered (k : ℕ) (seats : List BoardSeat) (v : View) : Type 0 where
  pub own : (i : ℕ) (seat : BoardSeat) → k ≤ i → slice_get seats i ≡ Some seat
      → (mark_of v.marks (worker_of seat)).own ≡ Some (count_of seat)
  pub not_yet : (i : ℕ) (seat : BoardSeat) → i < k → slice_get seats i ≡ Some seat
      → (mark_of v.marks (worker_of seat)).own ≡ None
  pub seen : (i w : ℕ) (seat : BoardSeat) → k ≤ i → slice_get seats i ≡ Some seat
      → seen_of seat w ≤ (mark_of v.marks w).seen
