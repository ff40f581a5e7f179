-- The seats come back one by one, the last first, and then each count is looked at.
use Rattle.std.proofs.Common.{None, ◌≡◌, ◌≢◌, ◌<◌, ◌≤◌, ◌+◌, ℕ, List, [], ◌∷◌, ◌++◌, length, set, ap, sym, ◌∙◌, subst}
use Rattle.std.proofs.Common.{arith}
use Rattle.std.specs.Prelude.{Option, Some, slice_get, slice_index}
use Rattle.std.specs.Option.{option_or}
use Rattle.std.proofs.lemmas.List.{get_or-set_same, get_or-set_other}
use mathlib.Core.Logic.{dite}
use native.Mathlib.Decide.{ℕ_discrete}
use Rattle.board.specs.declared.boards.Board.{Board}
use Rattle.board.specs.declared.seats.BoardSeat.{BoardSeat}
use Rattle.board.specs.declared.views.View.{View}
use Rattle.board.specs.Marks.{mark_of}
use Rattle.board.specs.Rule.{gathered}
use Rattle.board.specs.Seats.{AreAllSeats, IsSeatOf, worker_of, count_of, seen_of}
use Rattle.board.specs.Gathering.{IsGathered}
use Rattle.board.proofs.MarkLaws.{own-together, seen-together}
use Rattle.board.proofs.SeatLists.{at_last, before_last, longer, inside}
use Rattle.board.proofs.Looking.{Looked, own_count_found}

-- the seats that are left are the first ones
abbrev pub AreFirst : List BoardSeat → List BoardSeat → Type 0
AreFirst left seats = (w : ℕ) (seat : BoardSeat) → slice_get left w ≡ Some seat → slice_get seats w ≡ Some seat

module _ (board : Board) (seats left rest : List BoardSeat) (last : BoardSeat) (v : View)
    (all : AreAllSeats board seats) (first : AreFirst left seats) (is : left ≡ rest ++ last ∷ [])
    (before : IsGathered (length left) seats v) where
  one_less : length left ≡ length rest + 1
  one_less = ap length is ∙ longer rest last

  last_at : slice_get seats (length rest) ≡ Some last
  last_at = first (length rest) last (ap (λ (xs : List BoardSeat). slice_get xs (length rest)) is ∙ at_last rest last)

  pub last_is_mine : IsSeatOf board last
  last_is_mine = all.mine (length rest) last last_at

  is_last : (i : ℕ) (seat : BoardSeat) → i ≡ length rest → slice_get seats i ≡ Some seat → last ≡ seat
  is_last i seat e at = inside last seat (sym last_at ∙ (ap (slice_get seats) (sym e) ∙ at))

  abbrev both : View
  both = gathered v last.seat.me.0

  own_from : (w : ℕ) (o : Option ℕ) → (mark_of v.marks w).own ≡ o → (mark_of both.marks w).own
      ≡ option_or o (mark_of last.seat.me.0.marks w).own
  own_from w o e = own-together v.marks last.seat.me.0.marks w
      ∙ ap (λ (p : Option ℕ). option_or p (mark_of last.seat.me.0.marks w).own) e

  own_last : (mark_of both.marks last.worker).own ≡ Some last.count
  own_last = own_from last.worker None
      (before.not_yet (length rest) last (let l = one_less in omega arith) last_at) ∙ last.own

  pub one_gathered : IsGathered (length rest) seats both
  one_gathered = record {
    own = λ i seat le at. dite (ℕ_discrete i (length rest))
        (λ e. subst (λ (s : BoardSeat). (mark_of both.marks s.worker).own ≡ Some s.count) (is_last i seat e at)
        own_last)
        (λ ne. own_from seat.worker (Some seat.count) (before.own i seat (let l = one_less in omega arith) at));
    not_yet = λ i seat lt at. own_from seat.worker None (before.not_yet i seat (let l = one_less in omega arith) at)
        ∙ last.no_other seat.worker (λ e. let same = all.once i (length rest) seat last at last_at e in omega arith);
    seen = λ i w seat le at. dite (ℕ_discrete i (length rest))
        (λ e. subst (λ (s : BoardSeat). seen_of s w ≤ (mark_of both.marks w).seen) (is_last i seat e at)
        (seen-together v.marks last.seat.me.0.marks w).1)
        (λ ne. let a = before.seen i w seat (let l = one_less in omega arith) at
        in let b = (seen-together v.marks last.seat.me.0.marks w).0
        in omega arith);
  }

  pub still_first : AreFirst rest seats
  still_first w seat at = first w seat (ap (λ (xs : List BoardSeat). slice_get xs w) is
      ∙ before_last rest last seat w at)

-- ---- the counts of the first n workers, as they are found

pub record AreCounted (n : ℕ) (seats : List BoardSeat) (counts : List ℕ) : Type 0 where
  pub is : (i : ℕ) (seat : BoardSeat) → worker_of seat < n → slice_get seats i ≡ Some seat
      → slice_index counts (worker_of seat) ≡ count_of seat
  pub seen : (i w : ℕ) (seat : BoardSeat) → slice_get seats i ≡ Some seat → w < n
      → seen_of seat w ≤ slice_index counts w
  pub past : (w : ℕ) → n ≤ w → slice_index counts w ≡ 0

pub look_gathers : (k : ℕ) (seats : List BoardSeat) (w n : ℕ) (before after : View) → IsGathered k seats before
    → Looked w n before after → IsGathered k seats after
look_gathers k seats w n before after all look = record {
  own = λ i seat le at. look.own seat.worker ∙ all.own i seat le at;
  not_yet = λ i seat lt at. look.own seat.worker ∙ all.not_yet i seat lt at;
  seen = λ i j seat le at. (let a = all.seen i j seat le at in let b = look.later j in omega arith);
}

pub one_counted : (seats : List BoardSeat) (counts : List ℕ) (w n : ℕ) (before after : View) → w < length counts
    → IsGathered 0 seats before → Looked w n before after → AreCounted w seats counts
    → AreCounted (w + 1) seats (set counts w n)
one_counted seats counts w n before after room all look counted = record {
  is = λ i seat lt at. dite (ℕ_discrete seat.worker w)
      (λ e. ap (slice_index (set counts w n)) e
      ∙ (here ∙ own_count_found w n before after seat.count look (ap (λ (k : ℕ). (mark_of before.marks k).own) (sym e)
      ∙ all.own i seat (omega arith) at)))
      (λ ne. there seat.worker ne ∙ counted.is i seat (omega arith) at);
  seen = λ i j seat at lt. dite (ℕ_discrete j w)
      (λ e. subst (λ (x : ℕ). seen_of seat x ≤ slice_index (set counts w n) x) (sym e)
      (let a = all.seen i w seat (omega arith) at in let b = look.stands.0 in let c = here in omega arith))
      (λ ne. let a = counted.seen i j seat at (omega arith) in let b = there j ne in omega arith);
  past = λ j le. there j (λ e. omega arith) ∙ counted.past j (omega arith);
}
  where
    here : slice_index (set counts w n) w ≡ n
    here = get_or-set_same counts w n 0 room

    there : (j : ℕ) → j ≢ w → slice_index (set counts w n) j ≡ slice_index counts j
    there j ne = get_or-set_other counts w j n 0 ne
