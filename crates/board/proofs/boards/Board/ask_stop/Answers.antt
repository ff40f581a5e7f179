use Rattle.std.proofs.Common.{arith}
use Rattle.board.proofs.Allowed.{ask_allowed}
use Rattle.board.proofs.boards.Board.ask_stop.Goals as goal

pub fetch_or-requires : goal.fetch_or-requires
fetch_or-requires c =
    let words = c.args.self.now.words_are in (
      c.requires.0,
      omega arith,
      ask_allowed _ _ c.args.seat.now.seat.id c.args.seat.now.seat.me.0
          c.args.seat.now.seat.me.1,
    )
