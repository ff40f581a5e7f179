use Rattle.std.specs.Prelude.{ℕ, ◌==◌, List, [], ◌∷◌, ◌++◌, Option, Some, None, if◌then◌else◌}
use Rattle.std.specs.Option.{option_map}
use Rattle.model.specs.declared.turns.ClassState.{ClassState}
use Rattle.model.specs.declared.turns.ClassState.TheVariants.{Unused, Running, Done, Failed}
use Rattle.model.specs.declared.turns.Exception.TheVariants.{StackOverflow}
use Rattle.model.specs.Classes.Search.{Declared}
use Rattle.model.specs.Frames.{Frame, within_limits}
use Rattle.model.specs.Worlds.{with_thread, with_class_states}
use Rattle.model.specs.Worlds.Thread.{Live}
use Rattle.model.specs.Initialisation.{Chain, chain_of, with_states, callers_waiting, initializer_frames}
use Rattle.model.specs.Completions.{Completion, Site, frames_in, raises}
use Rattle.model.specs.Completions.Completion.{Goes, Denies, Waits}

-- What comes before an instruction that uses a class (JVMS 5.5): the class and those above it are initialised first.

abbrev pub states_in : Site → List ClassState
states_in s = s.world.statics.states

-- the thread runs these classes' initializers, the last one first; without room for their frames nothing is claimed
abbrev pub claims_with : Site → List ℕ → List Frame → Completion
claims_with s classes frames =
    if within_limits frames
    then Goes (with_class_states (with_thread s.world s.thread (Live frames))
    (with_states (Running s.thread) classes (states_in s))) []
    else raises StackOverflow

-- a class that is initialised, or that this thread initialises, may be used
abbrev pub claims : Site → List ℕ → Completion → Completion
claims s [] own = own
claims s (class ∷ classes) own =
    claims_with s (class ∷ classes) (frames_in s ++ callers_waiting (initializer_frames s.program (class ∷ classes)))

-- by the state of the first class upwards that was used before, whatever the instruction's operands are: another
-- thread's initialisation is waited for, and below a class that failed all fail
abbrev pub initialises : Site → List ℕ → ClassState → Completion → Completion
initialises s unused Unused own = claims s unused own
initialises s unused (Running t) own = if t == s.thread then claims s unused own else Waits
initialises s unused Done own = claims s unused own
initialises s unused Failed own = Denies (with_states Failed unused (states_in s))

abbrev pub initialises_chain : Site → Completion → Chain → Completion
initialises_chain s own chain = initialises s chain.unused chain.above own

-- an instruction that uses a class, or none
abbrev pub after_initialising : Site → Option (List ℕ) → Completion → Completion
after_initialising s None own = own
after_initialising s (Some class) own = initialises_chain s own (chain_of s.program (states_in s) class)

-- the class that declares a member
abbrev pub declarer : {Member : Type 0} → Option (Declared Member) → Option (List ℕ)
declarer found = option_map (λ d. d.class) found
