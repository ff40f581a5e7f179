use Rattle.std.proofs.Common.{arith, ◌∙◌}
use Rattle.board.proofs.Allowed.{look_allowed}
use Rattle.board.proofs.Looking.{holds, looked, look_keeps_slots, own_found, still_holds}
use Rattle.board.proofs.boards.Board.read.Goals as goal

pub load-requires : goal.load-requires
load-requires c =
    let inside = c.requires.worker in
    let words = c.args.self.now.words_are in (
      c.requires.mine.0,
      omega arith,
      look_allowed _ _ c.args.seat.now.seat.id c.args.seat.now.seat.me.0
          c.args.seat.now.seat.me.1 c.args.worker,
    )

pub invariant_of-seat : goal.invariant_of-seat
invariant_of-seat c =
    let look = looked 0 c.args.worker _ _ _ c.load.ensures.2 in
    let h = still_holds _ _ _ _ _ _ (holds c.args.seat.now) look
    (look_keeps_slots 0 c.args.worker _ _ _ c.load.ensures.2) in
    record { no_slot = h.no_slot; worker_is = h.worker_is; own = h.own; no_other = h.no_other }

pub returns-clause-kept : goal.returns-clause-kept
returns-clause-kept c =
    let look = looked 0 c.args.worker _ _ _ c.load.ensures.2 in
    (look.later, λ e. look.stop ∙ e)

pub returns-clause-later : goal.returns-clause-later
returns-clause-later c = (looked 0 c.args.worker _ _ _ c.load.ensures.2).stands.0

pub returns-clause-seen : goal.returns-clause-seen
returns-clause-seen c = (looked 0 c.args.worker _ _ _ c.load.ensures.2).now

pub returns-clause-own : goal.returns-clause-own
returns-clause-own c = own_found _ _ _ c.args.worker _ _ (holds c.args.seat.now)
    (looked 0 c.args.worker _ _ _ c.load.ensures.2)
