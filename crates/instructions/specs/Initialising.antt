use Rattle.std.specs.Prelude.{◌≡◌, ◌++◌, ℕ, List, IfSome, Option, Result}
use Rattle.model.specs.declared.turns.ClassState.TheVariants.{Failed}
use Rattle.model.specs.declared.turns.Fault.{Fault}
use Rattle.model.specs.ClassListings.{ClassListing}
use Rattle.model.specs.Completions.{Completion, Site, frames_in}
use Rattle.model.specs.Completions.Completion.{Denies}
use Rattle.model.specs.Initialisation.{with_states}
use Rattle.model.specs.Table.Initialisation.{claims_with, states_in}
use Rattle.model.specs.Worlds.{World}
use Rattle.instructions.specs.declared.acting.Turned.{Turned}
use Rattle.instructions.specs.declared.machines.Machine.{Machine}
use Rattle.instructions.specs.Acting.{Turns, site_at}
use Rattle.instructions.specs.InitialisingByNumbers.{claim_frames, claimed, initialises_class}

-- What the initialisation of classes does to the parts of a turn.

-- so many classes from one upwards are claimed, or can't be used
abbrev pub claims_so_many : Site → ℕ → ℕ → Completion
claims_so_many s class count =
    claims_with s (claimed s.program class count) (frames_in s ++ claim_frames s.program class count)

abbrev pub denies_so_many : Site → ℕ → ℕ → Completion
denies_so_many s class count = Denies (with_states Failed (claimed s.program class count) (states_in s))

-- what is done before an operation that uses a class: all of its turn, or nothing, where the class may be used
abbrev pub Initialises : List ClassListing → Machine → Machine → ℕ → Option ℕ → Option (Result Turned Fault) → Type 0
Initialises program old new next class result =
    IfSome result (λ r. (own : World → Completion) →
    Turns program old new r (λ w. initialises_class (site_at program old w next) (own w) class))

-- nothing comes before it
abbrev pub MayUse : List ClassListing → Machine → ℕ → Option ℕ → Type 0
MayUse program m next class =
    (w : World) (own : Completion) → w.statics.states ≡ m.states.items
    → initialises_class (site_at program m w next) own class ≡ own
