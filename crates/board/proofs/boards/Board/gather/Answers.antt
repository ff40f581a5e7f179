use Rattle.std.proofs.Common.{arith, ◌∙◌, ap, sym, subst, length}
use Rattle.atomic_table.specs.Table.{Me}
use Rattle.board.specs.declared.views.View.{View}
use Rattle.board.specs.Gathering.{IsGathered}
use Rattle.board.proofs.Shared.{gather_allowed}
use Rattle.board.proofs.Returned.{one_gathered, still_first, last_is_mine}
use Rattle.board.proofs.boards.Board.gather.Goals as goal

pub join_seat-requires : goal.join_seat-requires
join_seat-requires c =
    let words = c.args.self.now.words_are in
    let before = c.loop-seat.invariant in
    let last = c.in-Some-pop.field-0 in
    let mine = last_is_mine c.args.self.now c.args.seats.items c.loop-seat.seats.items c.pop-in-loop-seat.new.self.items
    last _ c.requires before.first c.in-Some-pop.ensures.items before.gathered in
    (before.table, mine.0, last.no_slot, omega arith, gather_allowed _ _ _ _ _)

pub loop-seat-preserved : goal.loop-seat-preserved
loop-seat-preserved c =
    let before = c.loop-seat.invariant in
    let last = c.in-Some-pop.field-0 in
    let rest = c.pop-in-loop-seat.new.self.items in
    let joined = c.join_seat.ensures in
    record {
      table = joined.0 ∙ before.table;
      first = still_first c.args.self.now c.args.seats.items c.loop-seat.seats.items rest last _ c.requires before.first
          c.in-Some-pop.ensures.items before.gathered;
      gathered = subst (IsGathered (length rest) c.args.seats.items) (sym (ap (λ (m : Me _ View). m.0) joined.2))
          (one_gathered c.args.self.now c.args.seats.items c.loop-seat.seats.items rest last c.loop-seat.all.me.0
          c.requires before.first c.in-Some-pop.ensures.items before.gathered);
    }
