use Rattle.std.specs.Prelude.{ℕ, List, [], ◌∷◌, ◌++◌, map, slice_get, slice_set, slice_index_or, position, Option, Some}
use Rattle.std.specs.Prelude.{None, Bool, true, false, ◌&&◌, not}
use Rattle.std.specs.List.{flat_map, list_any, position_or_len}
use Rattle.std.specs.Str.{bytes_eq}
use Rattle.model.specs.declared.listings.Method.{Method}
use Rattle.model.specs.declared.places.MethodPlace.{MethodPlace}
use Rattle.model.specs.declared.turns.ClassState.{ClassState}
use Rattle.model.specs.declared.turns.ClassState.TheVariants.{Unused, Running, Done, Failed}
use Rattle.model.specs.declared.turns.Mark.TheVariants.{Waiting}
use Rattle.model.specs.CodeListings.{CodeListing}
use Rattle.model.specs.ClassListings.{ClassListing}
use Rattle.model.specs.Classes.Flags.{is_interface}
use Rattle.model.specs.Classes.Named.{is_named, class_named, superclass_in}
use Rattle.model.specs.Classes.Search.{superclasses}
use Rattle.model.specs.Frames.{Frame, opening_frame}
use Rattle.model.specs.Programs.{is_class_initializer, method_at, code_at, main_in}

-- Class initialisation (JVMS 5.5) where it needs no world: which classes want it, what states they are in, and the
-- frames of a thread that claims classes. The classes of a program go by their places; the machine's own are
-- initialised.

-- ---- initializers

abbrev pub is_initializer_if : Option Method → Bool
is_initializer_if None = false
is_initializer_if (Some m) = is_class_initializer m

-- whether a frame runs a class initializer
abbrev pub runs_initializer : List ClassListing → Frame → Bool
runs_initializer program f = is_initializer_if (method_at program f.method)

abbrev pub initializer_in : Option ClassListing → ℕ
initializer_in None = 0
initializer_in (Some c) = position_or_len is_class_initializer c.methods

-- the place of a class's initializer: past its last method where it declares none
abbrev pub initializer_place : List ClassListing → ℕ → MethodPlace
initializer_place program class = record { class = class; method = initializer_in (slice_get program class) }

-- ---- class states, in the order of the program

-- the machine's own classes are initialised
abbrev pub state_at : List ClassState → Option ℕ → ClassState
state_at states None = Done
state_at states (Some class) = slice_index_or states class Done

-- these classes come into a state
abbrev pub with_states : ClassState → List ℕ → List ClassState → List ClassState
with_states state [] states = states
with_states state (class ∷ classes) states = with_states state classes (slice_set states class state)

abbrev pub declares_initializer : ClassListing → Bool
declares_initializer c = list_any is_class_initializer c.methods

-- whether a class, no interface, or one of its superclasses declares an initializer
abbrev pub wants_initialising : List ClassListing → ClassListing → Bool
wants_initialising program c =
    list_any (λ (above : ClassListing). declares_initializer above
    && list_any (bytes_eq above.name) (superclasses program c.name)) program
    && not (is_interface c)

abbrev pub state_if : Bool → ClassState
state_if true = Unused
state_if false = Done

-- at first a class is unused where it wants initialising, and else initialised
abbrev pub opening_states : List ClassListing → List ClassState
opening_states program = map (λ c. state_if (wants_initialising program c)) program

-- ---- a class and its superclasses, upwards

-- those that were never used, from the class on, and the state of the first that was
pub record Chain : Type 0 where
  pub unused : List ℕ
  pub above : ClassState

abbrev pub chain_end : ClassState → Chain
chain_end state = record { unused = []; above = state }

abbrev pub chain_with : ℕ → ClassState → Chain → Chain
chain_with class Unused further = record { unused = class ∷ further.unused; above = further.above }
chain_with class (Running t) further = chain_end (Running t)
chain_with class Done further = chain_end Done
chain_with class Failed further = chain_end Failed

abbrev pub chain_if : List ClassState → Option ℕ → Chain → Chain
chain_if states None further = chain_end Done
chain_if states (Some class) further = chain_with class (slice_index_or states class Done) further

abbrev pub chain_from : List ClassListing → List ClassState → List (List ℕ) → Chain
chain_from program states [] = chain_end Done
chain_from program states (name ∷ names) = chain_if states (position (is_named name) program)
    (chain_from program states names)

abbrev pub chain_of : List ClassListing → List ClassState → List ℕ → Chain
chain_of program states name = chain_from program states
    (name ∷ superclasses program (superclass_in (class_named program name)))

-- ---- the frames of a claim

abbrev pub framed : MethodPlace → Option CodeListing → List Frame
framed place None = []
framed place (Some code) = opening_frame place code.max_locals code.max_stack ∷ []

-- the frame of a method at its start; none where it has no code
abbrev pub started_at : List ClassListing → MethodPlace → List Frame
started_at program place = framed place (code_at program place)

abbrev pub waiting : Frame → Frame
waiting f = record f { mark = Waiting }

-- of these frames only the last one runs, and the others wait until the classes above theirs are initialised
abbrev pub callers_waiting : List Frame → List Frame
callers_waiting [] = []
callers_waiting (f ∷ []) = f ∷ []
callers_waiting (f ∷ g ∷ fs) = waiting f ∷ callers_waiting (g ∷ fs)

-- the initializers of these classes at their starts
abbrev pub initializer_frames : List ClassListing → List ℕ → List Frame
initializer_frames program classes = flat_map (λ class. started_at program (initializer_place program class)) classes

-- ---- the opening: thread 0 stands at the start of main, and claims main's class first where that is unused

abbrev pub main_frames : List ClassListing → Option MethodPlace → List Frame
main_frames program None = []
main_frames program (Some place) = started_at program place

abbrev pub first_claim : List ClassListing → List ℕ
first_claim [] = []
first_claim (c ∷ cs) = (chain_of (c ∷ cs) (opening_states (c ∷ cs)) c.name).unused

abbrev pub opening_frames : List ClassListing → List Frame
opening_frames program = callers_waiting (main_frames program (main_in program) ++
    initializer_frames program (first_claim program))

abbrev pub claimed_states : List ClassListing → List ClassState
claimed_states program = with_states (Running 0) (first_claim program) (opening_states program)
