use Rattle.std.proofs.Common.{◌≡◌, ◌∙◌, ◌∷◌, ◌++◌, [], List, ℕ, ap, subst, length, arith}
use Rattle.std.specs.Prelude.{slice_get, Some}
use Rattle.board.specs.declared.seats.BoardSeat.{BoardSeat}
use Rattle.board.proofs.SeatLists.{at_last}
use Rattle.board.proofs.tests.board_of_two.Goals as goal

pub returns-clause-second : goal.returns-clause-second
returns-clause-second c =
    let second = c.in-Some-Some.second in
    let rest : List BoardSeat = c.pop.new.self.items in
    let two = c.in_ok-board.ensures.workers.1 in
    let one_less = c.in-Some-Some.ensures.cases in
    let len = c.pop.new.self.ok.0 in
    let long : length rest ≡ 1 = omega arith in
    c.in_ok-board.ensures.seats 1 second (ap (λ (xs : List BoardSeat). slice_get xs 1) c.in-Some-Some.ensures.items
    ∙ subst (λ (n : ℕ). slice_get (rest ++ second ∷ []) n ≡ Some second) long (at_last rest second))
