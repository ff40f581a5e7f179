use Rattle.std.specs.Prelude.{◌≡◌, ℕ, zero, suc, List, [], ◌∷◌, ◌++◌, drop, length, map, replicate, reverse, slice_get}
use Rattle.std.specs.Prelude.{Option, Some, None}
use Rattle.model.specs.declared.journals.Limits.{Limits}
use Rattle.model.specs.ClassListings.{ClassListing}
use Rattle.model.specs.Worlds.{World}
use Rattle.exploration.specs.ClosedLists.{IsWitnessed, Pair, ideal_after, pair_of}
use Rattle.exploration.specs.Representation.{uncounted}
use Rattle.ideal_run.specs.Effected.{choice_in}
use Rattle.ideal_run.specs.declared.effects.Choice.TheVariants.{NewObject}
use Rattle.exploring.specs.declared.explored.Move.{Move}
use Rattle.exploring.specs.declared.origins.Origin.{Origin}

-- How a state was found: by a move of an earlier one, after which its thread went on by so many plain steps; and so by
-- the moves that led there.

-- a plain step of the thread that moved
abbrev pub plain_after : Move → Move
plain_after m = record { thread = m.thread; choice = NewObject }

-- the moves from the parent, the last one first
abbrev pub back_from : Origin → List Move
back_from o = replicate o.ahead (plain_after o.by) ++ o.by ∷ []

abbrev pub back_by : (ℕ → List Move) → Option Origin → List Move
back_by before None = []
back_by before (Some o) = back_from o ++ before o.parent

-- the moves by way of the last so many parents, the last one first
abbrev pub moves_back : List Origin → ℕ → ℕ → List Move
moves_back origins zero place = []
moves_back origins (suc n) place = back_by (moves_back origins n) (slice_get origins place)

-- and in order
abbrev pub trail : List Origin → ℕ → ℕ → List Move
trail origins level place = reverse (moves_back origins level place)

-- each of these parents is there
abbrev pub led_by : (ℕ → Type 0) → Option Origin → Type 0
led_by before None = ⊥
led_by before (Some o) = before o.parent

abbrev pub IsLed : List Origin → ℕ → ℕ → Type 0
IsLed origins zero place = Unit {0}
IsLed origins (suc n) place = led_by (IsLed origins n) (slice_get origins place)

-- ---- as pairs of the ideal run

abbrev pub pair_in : Move → Pair
pair_in m = pair_of m.thread (choice_in m.choice)

abbrev pub pairs_in : List Move → List Pair
pairs_in moves = map pair_in moves

-- ---- what moves lead to

-- the ideal run's world after some moves, without its count of rows
abbrev pub start_of : List ClassListing → Limits → List Move → World
start_of program limits moves = uncounted (ideal_after program limits (pairs_in moves))

-- each of the moves is a turn: none is refused
abbrev pub AreTurns : List ClassListing → Limits → List Move → Type 0
AreTurns program limits moves = (ideal_after program limits (pairs_in moves)).rows ≡ length moves

-- what there is after some moves: a state that stands for what they lead to, or none where one of them is refused
abbrev pub LeadsTo : List ClassListing → Limits → List Move → Option World → Type 0
LeadsTo program limits moves None = AreTurns program limits moves → ⊥
LeadsTo program limits moves (Some x) = IsWitnessed program limits (pairs_in moves) x

-- and after one more, whichever follow
abbrev pub LeadsOn : List ClassListing → Limits → List Move → Move → Option World → Type 0
LeadsOn program limits earlier m None = (more : List Move) → AreTurns program limits (earlier ++ m ∷ more) → ⊥
LeadsOn program limits earlier m (Some x) = IsWitnessed program limits (pairs_in (earlier ++ m ∷ [])) x

-- so many of some moves were made
pub record IsAfter (program : List ClassListing) (limits : Limits) (moves : List Move) (n : ℕ) (x : World) : Type 0 where
  pub done : List Move
  pub all : done ++ drop n moves ≡ moves
  pub met : IsWitnessed program limits (pairs_in done) x
