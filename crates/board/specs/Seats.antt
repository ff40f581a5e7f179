-- What a contract says of boards and seats.
use Rattle.std.specs.Prelude.{◌≡◌, ◌≤◌, ◌<◌, ℕ, Bool, true, false, List, length, slice_index, slice_get, Some}
use Rattle.board.specs.declared.boards.Board.{Board}
use Rattle.board.specs.declared.seats.BoardSeat.{BoardSeat}
use Rattle.board.specs.declared.views.View.{View}
use Rattle.board.specs.Marks.{mark_of}

abbrev pub workers_of : Board → ℕ
workers_of board = board.workers

abbrev pub worker_of : BoardSeat → ℕ
worker_of seat = seat.worker

-- the seat's own count
abbrev pub count_of : BoardSeat → ℕ
count_of seat = seat.count

-- what the seat has seen of a worker's count, and of the stop
abbrev pub seen_of : BoardSeat → ℕ → ℕ
seen_of seat w = (mark_of seat.seat.me.0.marks w).seen

abbrev pub saw_stop : BoardSeat → Bool
saw_stop seat = seat.seat.me.0.stop

-- the seat is of this board, and of one of its workers
abbrev pub IsSeatOf : Board → BoardSeat → Type 0
IsSeatOf board seat = (seat.seat.table_id ≡ board.table.shared.table_id) × (seat.worker < board.workers)

-- it is the same worker's, at the same board
abbrev pub IsSameSeat : BoardSeat → BoardSeat → Type 0
IsSameSeat old new = (new.seat.table_id ≡ old.seat.table_id) × (new.worker ≡ old.worker)

-- nothing that was seen is forgotten
abbrev pub Remembers : BoardSeat → BoardSeat → Type 0
Remembers old new = ((w : ℕ) → seen_of old w ≤ seen_of new w) × (saw_stop old ≡ true → saw_stop new ≡ true)

-- the seat of a worker that has counted nothing and seen nothing
pub record IsNewSeat (board : Board) (worker : ℕ) (seat : BoardSeat) : Type 0 where
  pub mine : IsSeatOf board seat
  pub worker_is : worker_of seat ≡ worker
  pub count : count_of seat ≡ 0
  pub unseen : (w : ℕ) → seen_of seat w ≡ 0
  pub stop : saw_stop seat ≡ false

abbrev pub AreNewSeats : Board → List BoardSeat → Type 0
AreNewSeats board seats = (w : ℕ) (seat : BoardSeat) → slice_get seats w ≡ Some seat → IsNewSeat board w seat

-- after a meeting of a and b, a has seen b's count, and of every worker and of the stop what either had seen
pub record HasMet (a b after : BoardSeat) : Type 0 where
  pub same : IsSameSeat a after
  pub count : count_of after ≡ count_of a
  pub mine : Remembers a after
  pub yours : Remembers b after
  pub exact : seen_of after (worker_of b) ≡ count_of b

-- a seat of this board for each worker, in any order
pub record AreAllSeats (board : Board) (seats : List BoardSeat) : Type 0 where
  pub all : length seats ≡ workers_of board
  pub mine : (i : ℕ) (seat : BoardSeat) → slice_get seats i ≡ Some seat → IsSeatOf board seat
  pub once : (i j : ℕ) (a b : BoardSeat) → slice_get seats i ≡ Some a → slice_get seats j ≡ Some b
      → worker_of a ≡ worker_of b → i ≡ j

-- each worker's count is that of its seat
abbrev pub AreCounts : List BoardSeat → List ℕ → Type 0
AreCounts seats counts = (i : ℕ) (seat : BoardSeat) → slice_get seats i ≡ Some seat
    → slice_index counts (worker_of seat) ≡ count_of seat

-- no worker's count is below what any seat has seen of it
abbrev pub ReachAllSeen : ℕ → List BoardSeat → List ℕ → Type 0
ReachAllSeen workers seats counts = (i w : ℕ) (seat : BoardSeat) → slice_get seats i ≡ Some seat → w < workers
    → seen_of seat w ≤ slice_index counts w

-- the view from which the seats of the workers from next on are cut off
pub record IsNextSeat (workers next : ℕ) (v : View) : Type 0 where
  pub next_is : v.worker ≡ next
  pub own : (w : ℕ) → next ≤ w → w < workers → (mark_of v.marks w).own ≡ Some 0
  pub unseen : (w : ℕ) → (mark_of v.marks w).seen ≡ 0
  pub stop : v.stop ≡ false
