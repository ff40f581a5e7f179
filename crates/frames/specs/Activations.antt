use Rattle.std.specs.Prelude.{ℕ, zero, suc, ◌+◌, ◌-◌, ◌≤◌, List, [], ◌∷◌, ◌++◌, length, slice_index_or, slice_set, take}
use Rattle.std.specs.Prelude.{None}
use Rattle.model.specs.declared.places.MethodPlace.{MethodPlace}
use Rattle.model.specs.declared.turns.Mark.TheVariants.{Unmarked}
use Rattle.frames.specs.declared.activations.Activation.{Activation}

-- so many activations: of these below the running one so many but one, and then the running one, where there is any
abbrev pub all_of : List Activation → Activation → ℕ → List Activation
all_of below running zero = []
all_of below running (suc n) = take n below ++ running ∷ []

-- where there is none, an activation that no program has
abbrev pub no_activation : Activation
no_activation = record {
  method = record { class = 0; method = 0 };
  pc = 0;
  base = 0;
  locals = 0;
  values = 0;
  room = 0;
  taken = 0;
  monitor = None;
  mark = Unmarked;
}

-- at the start of a method: its stack is empty, and nothing is to be done when it is left
abbrev pub opening : MethodPlace → ℕ → ℕ → ℕ → Activation
opening method base locals room = record {
  method = method;
  pc = 0;
  base = base;
  locals = locals;
  values = 0;
  room = room;
  taken = 0;
  monitor = None;
  mark = Unmarked;
}

-- the last activation
abbrev pub last_of : List Activation → Activation
last_of activations = slice_index_or activations (length activations - 1) no_activation

abbrev pub with_last : List Activation → Activation → List Activation
with_last activations a = slice_set activations (length activations - 1) a

-- all but the running one stand below it, maybe with others after them, and there is room for 256
pub record AreFew (below : List Activation) (count capacity : ℕ) : Type 0 where
  pub below_are : count - 1 ≤ length below
  pub count_is : count ≤ 256
  pub capacity_is : 256 ≤ capacity

-- an activation's locals and stack stand within the units, and its stack takes no more than its room
pub record Fits (a : Activation) : Type 0 where
  pub inside : a.base + a.locals + a.values ≤ 4096
  pub within : a.taken ≤ a.room
  pub few : a.room ≤ 4096
