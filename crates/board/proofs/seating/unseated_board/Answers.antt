use Rattle.std.proofs.Common.{refl, sym, ◌∙◌, ap, subst, ℕ, List, [], rules}
use Rattle.atomic_table.specs.Table.{Me, opening}
use Rattle.board.specs.declared.views.View.{View}
use Rattle.board.specs.Seats.{IsNextSeat}
use Rattle.board.specs.Rule.{IsKept, unseated}
use Rattle.board.proofs.Shared.{opens}
use Rattle.board.proofs.NewSeats.{opening_is}
use Rattle.board.proofs.seating.unseated_board.Goals as goal

pub of_words-requires : goal.of_words-requires
of_words-requires c =
    let is = c.as_slice.ensures.value ∙ c.in_ok-words.ensures.items_if_clones_equal (search rules) in
    subst (λ (words : List ℕ). IsKept ℕ c.args.workers (opening {S = ℕ} words [] (unseated c.args.workers))) (sym is)
    (opens c.args.workers _ refl)

pub returns-clause-rights : goal.returns-clause-rights
returns-clause-rights c =
    subst (IsNextSeat c.args.workers 0) (sym (ap (λ (m : Me ℕ View). m.0) c.in_ok-table.ensures.4))
    (opening_is c.args.workers)
