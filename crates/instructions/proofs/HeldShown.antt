-- What a cell holds, as plain data.
use Rattle.std.proofs.Common.{◌≡◌, ℕ, zero, suc, ◌+◌, ◌<◌, ◌≤◌, List, [], ◌∷◌, ◌++◌, drop, get_or, length, map}
use Rattle.std.proofs.Common.{slice_get, Bool, true, false, Option, Some, None, refl, sym, ◌∙◌, ap, arith}
use Rattle.std.proofs.Common.{if◌then◌else◌}
use Rattle.std.specs.Prelude.{is_some}
use Rattle.std.specs.Option.{option_map}
use Rattle.std.proofs.lemmas.List.{append_assoc, length-map}
use Rattle.std.proofs.lemmas.Option.{get_or_from_slice_get, slice_get-map}
use Rattle.model.specs.declared.colours.Cell.{Cell}
use Rattle.model.specs.declared.colours.Cell.TheVariants.{Free, Taken}
use Rattle.model.specs.declared.values.Value.{Value}
use Rattle.model.specs.ClassListings.{ClassListing}
use Rattle.model.specs.Collector.Reached.{is_reached}
use Rattle.model.specs.Collector.Table.{cell_at}
use Rattle.model.specs.Naming.{named_value}
use Rattle.model.specs.Shows.{Held, ObjectKind, kind_of_contents, values_in}
use Rattle.model.specs.Worlds.{FieldValue, Monitor, World}
use Rattle.cells.specs.Objects.{StoredObject, monitor_if, object_if, thread_if, words_if}
use Rattle.join.specs.Naming.{Naming, named_contents, named_field, named_object}
use Rattle.join.specs.ReadBack.{object_in}
use Rattle.join.specs.TurnsOnCells.{CellMachine}
use Rattle.instructions.specs.declared.kinds.Kind.{Kind}
use Rattle.instructions.specs.declared.kinds.Kind.TheVariants.{Instance, Array}
use Rattle.instructions.specs.HeldOnCells.{AreMarks, birth_if, held_kind, held_of, held_on, helds_from}
use Rattle.instructions.proofs.ReachedLemmas.{within_objects}
use Rattle.instructions.specs.Shown.{contents_shown, field_keys, keyed, object_shown, objects_shown}

-- ---- an object in its cell

words_keyed : (births : Naming) (keys : List FieldValue) (words : List Value)
    → map (λ (f : FieldValue). f.value) (map (named_field births) (keyed keys words)) ≡ map (named_value births) words
words_keyed births keys [] = refl
words_keyed births [] (w ∷ words) = ap (λ vs. named_value births w ∷ vs) (words_keyed births [] words)
words_keyed births (k ∷ keys) (w ∷ words) = ap (λ vs. named_value births w ∷ vs) (words_keyed births keys words)

module _ (program : List ClassListing) (births : Naming) where
  shown_kind : (kind : Kind) (words : List Value)
      → kind_of_contents (named_contents births (contents_shown program kind words)) ≡ held_kind program kind
  shown_kind (Instance class) words = refl
  shown_kind (Array type) words = refl

  abbrev field_keys_of : ℕ → List Value → List FieldValue
  field_keys_of class words = keyed (field_keys program class) words

  shown_words : (kind : Kind) (words : List Value)
      → values_in (named_contents births (contents_shown program kind words)) ≡ map (named_value births) words
  shown_words (Instance class) words = words_keyed births (field_keys program class) words
  shown_words (Array type) words = refl

  abbrev with_all : ℕ → ObjectKind → List Value → Monitor → Option ℕ → Held
  with_all b kind words monitor thread = record {
    birth = b;
    kind = kind;
    words = words;
    monitor = monitor;
    thread = thread;
  }

  of_stored : (b : ℕ) (o : StoredObject Kind) → with_all b (held_kind program o.kind) (map (named_value births) o.words)
      o.monitor o.thread ≡ held_of b (named_object births (object_shown program (Some o)))
  of_stored b o = rw (shown_kind o.kind o.words, shown_words o.kind o.words) refl

  in_cell : (b : ℕ) (o : Option (Option (StoredObject Kind))) (stored : Kind) (kind : ObjectKind) (words : List Value)
      (monitor : Monitor) (thread : Option ℕ)
      → Some stored ≡ option_map (λ object. object.kind) (object_if o) → kind ≡ held_kind program stored
      → words ≡ map (named_value births) (words_if (object_if o)) → monitor ≡ monitor_if (object_if o)
      → thread ≡ thread_if (object_if o)
      → Some (with_all b kind words monitor thread)
      ≡ option_map (held_of b) (option_map (named_object births) (option_map (object_shown program) o))
  in_cell b None stored kind words monitor thread is of has owned started = absurd (cc)
  in_cell b (Some None) stored kind words monitor thread is of has owned started = absurd (cc)
  in_cell b (Some (Some object)) stored kind words monitor thread is of has owned started =
      let same : stored ≡ object.kind = cc in
      rw (of, has, owned, started, same) (ap (λ (h : Held). Some h) (of_stored b object))

  pub held_is : (b : ℕ) (objects : List (Option (StoredObject Kind))) (cell : ℕ) (stored : Kind) (kind : ObjectKind)
      (words : List Value) (monitor : Monitor) (thread : Option ℕ)
      → Some stored ≡ option_map (λ object. object.kind) (object_if (slice_get objects cell))
      → kind ≡ held_kind program stored
      → words ≡ map (named_value births) (words_if (object_if (slice_get objects cell)))
      → monitor ≡ monitor_if (object_if (slice_get objects cell))
      → thread ≡ thread_if (object_if (slice_get objects cell))
      → Some (with_all b kind words monitor thread)
      ≡ option_map (held_of b)
      (option_map (named_object births) (slice_get (objects_shown program objects) (suc cell)))
  held_is b objects cell stored kind words monitor thread is of has owned started =
      in_cell b (slice_get objects cell) stored kind words monitor thread is of has owned started
      ∙ ap (λ o. option_map (held_of b) (option_map (named_object births) o))
      (sym (slice_get-map (object_shown program) objects cell))

-- ---- where paths lead

pub marked_as : (w : World) (marks : List Bool) (c : ℕ) → AreMarks w marks → suc c < length w.objects
    → get_or marks (suc c) false ≡ is_reached w (suc c)
marked_as w marks c are below = get_or_from_slice_get marks (suc c) (is_reached w (suc c)) false (are (suc c) below)

-- a cell with an object has a reference
pub has_reference : (program : List ClassListing) (objects : List (Option (StoredObject Kind))) (c : ℕ)
    → is_some (object_if (slice_get objects c)) ≡ true → suc c < length (objects_shown program objects)
has_reference program objects c there =
    let within : c + 1 ≤ length objects = within_objects objects c there in
    let count : length (map (object_shown program) objects) ≡ length objects = length-map objects (object_shown program)
    in
    omega (arith, within, count)

module _ (x : CellMachine) (c : ℕ) where
  pub free_held : (cell : Cell) → birth_if cell ≡ None → None ≡ held_on x c cell
  free_held Free e = refl
  free_held (Taken b y) e = absurd (cc)

  pub taken_held : (cell : Cell) (b : ℕ) (mark : Bool) → birth_if cell ≡ Some b → mark ≡ is_reached x.world (suc c)
      → (if mark then option_map (held_of b) (object_in x c) else None) ≡ held_on x c cell
  taken_held Free b mark e is = absurd (cc)
  taken_held (Taken a y) b mark e is =
      let same : a ≡ b = cc in
      rw (is, same) refl

-- ---- one cell after another

helds_at : (x : CellMachine) (cells : List Cell) (first n : ℕ) → n < length cells
    → helds_from x (first + n) (drop n cells) ≡ held_on x (first + n) (cell_at cells n) ∷ helds_from x (first + suc n)
    (drop (suc n) cells)
helds_at x [] first n below = absurd (omega (arith, below))
helds_at x (cell ∷ cells) first zero below =
    let here : first + 0 ≡ first = omega arith in
    let next : first + suc 0 ≡ suc first = omega arith in
    rw (here, next) refl
helds_at x (cell ∷ cells) first (suc n) below =
    let here : first + suc n ≡ suc first + n = omega arith in
    let next : first + suc (suc n) ≡ suc first + suc n = omega arith in
    rw (here, next) (helds_at x cells (suc first) n (omega (arith, below)))

pub next_held : (x : CellMachine) (cells : List Cell) (n : ℕ) (held : Option Held) (views after : List (Option Held))
    → n < length cells → held ≡ held_on x n (cell_at cells n) → after ≡ views ++ held ∷ []
    → after ++ helds_from x (n + 1) (drop (n + 1) cells) ≡ views ++ helds_from x n (drop n cells)
next_held x cells n held views after below is more =
    let next : n + 1 ≡ suc n = omega arith in
    let zero_here : 0 + n ≡ n = omega arith in
    let zero_next : 0 + suc n ≡ suc n = omega arith in
    let following = helds_from x (suc n) (drop (suc n) cells) in
    let from = helds_at x cells 0 n below in
    let step : helds_from x n (drop n cells) ≡ held_on x n (cell_at cells n) ∷ following = rw (
      zero_here,
      zero_next,
    ) at from in
    rw (more, next)
    (append_assoc views (held ∷ []) following
    ∙ ap (λ (h : Option Held). views ++ h ∷ following) is
    ∙ ap (λ hs. views ++ hs) (sym step))
