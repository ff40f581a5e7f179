use Rattle.std.proofs.Common.{arith, ◌∙◌}
use Rattle.board.proofs.Allowed.{pulse_allowed}
use Rattle.board.proofs.Looking.{holds, pulsed, pulse_later, pulse_stop}
use Rattle.board.proofs.boards.Board.pulse.Goals as goal

pub fetch_add-requires : goal.fetch_add-requires
fetch_add-requires c =
    let seat = c.args.seat.now in
    let inside = c.requires.mine.1 in
    let words = c.args.self.now.words_are in (
      c.requires.mine.0,
      omega arith,
      pulse_allowed _ _ seat.seat.id seat.seat.me.0 seat.seat.me.1 seat.worker seat.count
          (rw c.args.self.now.key_is inside) seat.own (let room = c.requires.room in omega arith),
    )

pub invariant_of-seat : goal.invariant_of-seat
invariant_of-seat c =
    let h = pulsed 0 _ _ _ _ _ (holds c.args.seat.now) c.fetch_add.ensures.2 in
    record { no_slot = h.no_slot; worker_is = h.worker_is; own = h.own; no_other = h.no_other }

pub returns-clause-kept : goal.returns-clause-kept
returns-clause-kept c =
    let later = pulse_later 0 _ _ _ _ _ (holds c.args.seat.now) c.fetch_add.ensures.2 in
    (later, λ e. pulse_stop 0 _ _ _ _ _ (holds c.args.seat.now) c.fetch_add.ensures.2 ∙ e)
