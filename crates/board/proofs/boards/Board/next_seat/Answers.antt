use Rattle.std.proofs.Common.{sym, ◌∙◌, ap, subst, ℕ, ◌+◌, ◌<◌, arith}
use Rattle.atomic_table.specs.Table.{Me}
use Rattle.board.specs.declared.views.View.{View}
use Rattle.board.specs.Marks.{mark_of}
use Rattle.board.specs.Seats.{IsNextSeat}
use Rattle.board.proofs.Shared.{seat_allowed}
use Rattle.board.proofs.NewSeats.{rest_is, own_seated, no_other_seated, unseen_seated}
use Rattle.board.proofs.boards.Board.next_seat.Goals as goal

pub split_seat-requires : goal.split_seat-requires
split_seat-requires c = let words = c.args.self.now.words_are in (c.requires.table.0, omega arith, seat_allowed _ _ _)

pub seat_with-requires-clause-own : goal.seat_with-requires-clause-own
seat_with-requires-clause-own c =
    ap (λ (m : Me ℕ View). (mark_of m.0.marks c.args.worker).own) c.split_seat.ensures.4
    ∙ own_seated c.args.self.now.workers c.args.worker c.args.rights.now.me.0 c.requires.rights c.requires.worker

pub seat_with-requires-clause-no_other : goal.seat_with-requires-clause-no_other
seat_with-requires-clause-no_other c = λ w ne.
    ap (λ (m : Me ℕ View). (mark_of m.0.marks w).own) c.split_seat.ensures.4
    ∙ no_other_seated c.args.self.now.workers c.args.worker c.args.rights.now.me.0 c.requires.rights w ne

pub returns-clause-rights : goal.returns-clause-rights
returns-clause-rights c =
    subst (IsNextSeat c.args.self.now.workers (c.args.worker + 1))
    (sym (ap (λ (m : Me ℕ View). m.0) c.split_seat.ensures.2)) (rest_is c.args.self.now.workers c.args.worker
    c.args.rights.now.me.0 c.requires.rights)

pub returns-clause-seat : goal.returns-clause-seat
returns-clause-seat c =
    let is = c.seat_with.ensures in
    let me = ap (λ (s : _). s.me) is.0 ∙ c.split_seat.ensures.4 in
    record {
      mine = (
        ap (λ (s : _). s.table_id) is.0 ∙ (c.split_seat.ensures.3 ∙ c.requires.table.0),
        subst (λ (w : ℕ). w < c.args.self.now.workers) (sym is.1) c.requires.worker,
      );
      worker_is = is.1;
      count = is.2;
      unseen = λ w. ap (λ (m : Me ℕ View). (mark_of m.0.marks w).seen) me
          ∙ unseen_seated c.args.self.now.workers c.args.worker c.args.rights.now.me.0 c.requires.rights w;
      stop = ap (λ (m : Me ℕ View). m.0.stop) me ∙ c.requires.rights.stop;
    }
