use Rattle.std.proofs.Common.{arith}
use Rattle.board.proofs.Allowed.{stop_look_allowed}
use Rattle.board.proofs.boards.Board.stop_asked.Goals as goal

pub load-requires : goal.load-requires
load-requires c =
    let words = c.args.self.now.words_are in (
      c.requires.0,
      omega arith,
      stop_look_allowed _ _ c.args.seat.now.seat.id c.args.seat.now.seat.me.0
          c.args.seat.now.seat.me.1,
    )
