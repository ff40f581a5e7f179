use Rattle.std.specs.Prelude.{◌≡◌, ◌≢◌, ℕ, ◌==◌, ◌&&◌, Bool, List, [], ◌∷◌, position, slice_get, slice_index_or, Option, Some, None}
use Rattle.std.specs.Prelude.{if◌then◌else◌}
use Rattle.std.specs.Option.{option_map}
use Rattle.std.specs.Str.{bytes_eq}
use Rattle.model.specs.declared.listings.Method.{Method}
use Rattle.model.specs.declared.listings.Placed.{Placed}
use Rattle.model.specs.declared.places.CodePlace.{CodePlace}
use Rattle.model.specs.ClassListings.{ClassListing}
use Rattle.model.specs.Classes.Named.{is_named}
use Rattle.model.specs.CodeListings.{CodeListing}
use Rattle.slab.specs.Slab.{entries_from}

-- Breakpoints: places in code, each under a number of its own.

-- the place at each number from 0 on, or none
abbrev pub Breakpoints : Type 0
Breakpoints = List (Option CodePlace)

abbrev pub at_number : Breakpoints → ℕ → Option CodePlace
at_number bs n = slice_index_or bs n None

-- a number gets a place, or loses it, and every other number keeps what it had
pub record Changes (old new : Breakpoints) (number : ℕ) (place : Option CodePlace) : Type 0 where
  pub changed : at_number new number ≡ place
  pub others : (other : ℕ) → other ≢ number → at_number new other ≡ at_number old other

-- ---- which one stands at a place

abbrev pub is_same_place : CodePlace → CodePlace → Bool
is_same_place p q = p.method.class == q.method.class && p.method.method == q.method.method && p.pc == q.pc

abbrev pub first_at : CodePlace → List (ℕ × CodePlace) → Option ℕ
first_at place [] = None
first_at place (entry ∷ rest) = if is_same_place entry.1 place then Some entry.0 else first_at place rest

-- the least number of a breakpoint at a place
abbrev pub least_at : Breakpoints → CodePlace → Option ℕ
least_at bs place = first_at place (entries_from 0 bs)

-- ---- places by their names

abbrev pub is_method : List ℕ → List ℕ → Method → Bool
is_method name descriptor m = bytes_eq m.name name && bytes_eq m.descriptor descriptor

abbrev pub find_pc : ℕ → List Placed → Option ℕ
find_pc pc [] = None
find_pc pc (i ∷ rest) = if i.pc == pc then Some i.pc else find_pc pc rest

abbrev pub place_in_code : ℕ → ℕ → ℕ → Option CodeListing → Option CodePlace
place_in_code class method pc None = None
place_in_code class method pc (Some code) =
    option_map (λ n. record { method = record { class = class; method = method }; pc = n })
    (find_pc pc code.instructions)

-- an instruction of a method with code; the machine's own methods and the initializer of a class that declares none have
-- no place
abbrev pub place_in_method : ℕ → ℕ → ℕ → Option Method → Option CodePlace
place_in_method class method pc None = None
place_in_method class method pc (Some m) = place_in_code class method pc m.code

abbrev pub place_at : List Method → ℕ → ℕ → Option ℕ → Option CodePlace
place_at methods class pc None = None
place_at methods class pc (Some method) = place_in_method class method pc (slice_get methods method)

abbrev pub place_in_class : List ℕ → List ℕ → ℕ → ℕ → Option ClassListing → Option CodePlace
place_in_class name descriptor pc class None = None
place_in_class name descriptor pc class (Some c) = place_at c.methods class pc
    (position (is_method name descriptor) c.methods)

abbrev pub place_if : List ClassListing → List ℕ → List ℕ → ℕ → Option ℕ → Option CodePlace
place_if program name descriptor pc None = None
place_if program name descriptor pc (Some class) = place_in_class name descriptor pc class (slice_get program class)

-- the instruction at a pc of the method that a class declares by a name and a descriptor
abbrev pub place_named : List ClassListing → List ℕ → List ℕ → List ℕ → ℕ → Option CodePlace
place_named program class name descriptor pc =
    place_if program name descriptor pc (position (is_named class) program)
