-- What no case of the instruction table changes, and what it doesn't look at.
use Rattle.std.proofs.Common.{◌≡◌, ℕ, List, Option, None, ap}
use Rattle.model.specs.ClassListings.{ClassListing}
use Rattle.model.specs.Results.{Effect}
use Rattle.model.specs.Worlds.{World}
use Rattle.model.specs.Effects.{Choice}
use Rattle.model.specs.Table.Next.{completion, asked, next}
use Rattle.model.specs.Collector.Moves.{Lawful}
use Rattle.model.specs.Collector.Moves.Lawful.{faults, moves}
use Rattle.model.proofs.CollectorLemmas.Choosing.{effect-choice}
use Rattle.model.proofs.CollectorLemmas.Table.Next.{next_lawful}

-- ---- the number of rows: a turn leaves it, and whoever makes the turn counts it

lawful-rows : (w : World) (object : Option ℕ) (e : Effect) → Lawful w object e → e.after.rows ≡ w.rows
lawful-rows w object e (faults t fault s) = ap (λ (x : Effect). x.after.rows) s
lawful-rows w object e (moves fault rows m) = rows

pub next-rows : (program : List ClassListing) (w : World) (t : ℕ) (choice : Choice)
    → (next program w t choice).after.rows ≡ w.rows
next-rows program w t choice = lawful-rows w _ (next program w t choice) (next_lawful program w t choice)

-- ---- the choice: a turn that asks for no cell doesn't look at it

pub next-choice : (program : List ClassListing) (w : World) (t : ℕ) (a b : Choice) → asked program w t ≡ None
    → next program w t a ≡ next program w t b
unfolding next
next-choice program w t a b e = effect-choice program w t a b (completion program w t) e
