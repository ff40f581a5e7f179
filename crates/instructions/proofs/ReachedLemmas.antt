-- What paths lead to depends on threads, static fields and objects alone; what is shown of the object of a birth, by
-- its cell.
use Rattle.std.proofs.Common.{◌≡◌, ℕ, zero, suc, ◌+◌, ◌<◌, ◌≤◌, List, [], ◌∷◌, get_or, length, map, slice_get, Bool}
use Rattle.std.proofs.Common.{true, false, if◌then◌else◌, Option, Some, None, Result, Ok, Err, IfOk, refl, sym, ◌∙◌, ap}
use Rattle.std.proofs.Common.{arith}
use Rattle.std.specs.Prelude.{is_some}
use Rattle.std.proofs.lemmas.List.{length-map}
use Rattle.model.specs.declared.colours.Cell.{Cell}
use Rattle.model.specs.declared.turns.ClassState.{ClassState}
use Rattle.model.specs.declared.turns.Fault.{Fault}
use Rattle.model.specs.declared.values.Value.{Value}
use Rattle.model.specs.ClassListings.{ClassListing}
use Rattle.model.specs.Worlds.{Object, Thread, World, opening_slots}
use Rattle.model.specs.Collector.Places.{Place, Reach, root_at, word_at}
use Rattle.model.specs.Collector.Places.Place.{MemoryError, StackError, Slot, FrameEntry, MethodMonitor}
use Rattle.model.specs.Collector.Places.Reach.{at_root, by_word}
use Rattle.model.specs.Collector.Reached.{is_reached}
use Rattle.model.proofs.CollectorLemmas.Reaching.{is_reached-Reach, Reach-is_reached}
use Rattle.cells.specs.Objects.{StoredObject, object_if}
use Rattle.join.specs.ReadBack.{cell_from, object_in, object_on, reached_object_in}
use Rattle.join.specs.TurnsOnCells.{CellMachine}
use Rattle.join.proofs.Paths.{alike}
use Rattle.instructions.specs.declared.kinds.Kind.{Kind}
use Rattle.instructions.specs.Heaps.{world_looked_at}
use Rattle.instructions.specs.HeapsAgree.{is_taken}
use Rattle.instructions.specs.Shown.{keyed, objects_shown}

-- ---- two worlds of the same places

module _ (w v : World) (roots : (p : Place) → root_at w p ≡ root_at v p) (words : (b k : ℕ) → word_at w b k
    ≡ word_at v b k) where
  same_path : (b : ℕ) → Reach w b → Reach v b
  same_path b (at_root p e) = at_root p (sym (roots p) ∙ e)
  same_path b (by_word a k r e) = by_word a k (same_path a r) (sym (words a k) ∙ e)

same_reached : (w v : World) → ((p : Place) → root_at w p ≡ root_at v p) → ((b k : ℕ) → word_at w b k ≡ word_at v b k)
    → (b : ℕ) → is_reached w b ≡ is_reached v b
same_reached w v roots words b =
    alike (is_reached w b) (is_reached v b)
    (λ e. Reach-is_reached v b (same_path w v roots words b (is_reached-Reach w b e)))
    (λ e. Reach-is_reached w b (same_path v w (λ p. sym (roots p)) (λ a k. sym (words a k)) b (is_reached-Reach v b e)))

module _
    (program : List ClassListing) (threads : List Thread) (slots : List Value) (states : List ClassState)
    (objects : List (Option (StoredObject Kind))) (output : List ℕ) (fault : Option (Fault × ℕ)) (rows : ℕ)
  where
    abbrev shown : World
    shown = record {
      threads = threads;
      statics = record { fields = keyed (opening_slots program) slots; states = states };
      output = output;
      objects = objects_shown program objects;
      fault = fault;
      rows = rows;
    }

    abbrev looked : World
    looked = world_looked_at program threads slots objects

    same_roots : (p : Place) → root_at looked p ≡ root_at shown p
    unfolding root_at
    same_roots MemoryError = refl
    same_roots StackError = refl
    same_roots (Slot s) = refl
    same_roots (FrameEntry t d j) = refl
    same_roots (MethodMonitor t d) = refl

    same_words : (b k : ℕ) → word_at looked b k ≡ word_at shown b k
    unfolding word_at
    same_words b k = refl

    -- what is looked at leads where the world does
    pub looked_reached : (b : ℕ) → is_reached looked b ≡ is_reached shown b
    looked_reached = same_reached looked shown same_roots same_words

-- ---- the marks

-- there is a reference for each object
pub enough_references : {K : Type 0} (f : Option (StoredObject K) → Object) (o : Object) (cells : List Cell)
    (objects : List (Option (StoredObject K))) (count : ℕ)
    → map is_taken cells ≡ map is_some objects → count ≡ length cells → length (o ∷ map f objects) ≤ count + 1
enough_references f o cells objects count taken is =
    let left : length (map is_taken cells) ≡ length cells = length-map cells is_taken in
    let right : length (map is_some objects) ≡ length objects = length-map objects is_some in
    let both : length (map is_taken cells) ≡ length (map is_some objects) = ap length taken in
    let all : length (map f objects) ≡ length objects = length-map objects f in
    omega (arith, is, left, right, both, all)

pub below_count : {K : Type 0} (cells : List Cell) (objects : List (Option (StoredObject K))) (count r : ℕ)
    → map is_taken cells ≡ map is_some objects → count ≡ length cells → r ≤ length objects → r < count + 1
below_count cells objects count r taken is below =
    let left : length (map is_taken cells) ≡ length cells = length-map cells is_taken in
    let right : length (map is_some objects) ≡ length objects = length-map objects is_some in
    let both : length (map is_taken cells) ≡ length (map is_some objects) = ap length taken in
    omega (arith, is, left, right, both, below)

pub within_objects : {K : Type 0} (objects : List (Option (StoredObject K))) (c : ℕ)
    → is_some (object_if (slice_get objects c)) ≡ true → c + 1 ≤ length objects
within_objects [] c there = absurd (cc)
within_objects (o ∷ objects) zero there = omega arith
within_objects (o ∷ objects) (suc c) there = let h = within_objects objects c there in omega (arith, h)

-- a mark that is there, by its place
pub mark_within : (marks : List Bool) (n : ℕ) (t : Bool) → slice_get marks n ≡ Some t → n < length marks
mark_within [] n t e = absurd (cc)
mark_within (m ∷ marks) zero t e = omega arith
mark_within (m ∷ marks) (suc n) t e = let h = mark_within marks n t e in omega (arith, h)

pub mark_read : (marks : List Bool) (n : ℕ) (t d : Bool) → slice_get marks n ≡ Some t → get_or marks n d ≡ t
mark_read [] n t d e = absurd (cc)
mark_read (m ∷ marks) zero t d e = cc
mark_read (m ∷ marks) (suc n) t d e = mark_read marks n t d e

-- ---- what is shown of the object of a birth

module _ (x : CellMachine) (b : ℕ) where
  pub in_no_cell : cell_from 0 b x.account.cells ≡ None → None ≡ object_on x b
  in_no_cell e = ap (reached_object_in x) (sym e)

  by_mark : (c : ℕ) (t : Bool) → cell_from 0 b x.account.cells ≡ Some c → is_reached x.world (suc c) ≡ t
      → (if t then object_in x c else None) ≡ object_on x b
  by_mark c t e mark = ap (λ (s : Bool). if s then object_in x c else None) (sym mark)
      ∙ ap (reached_object_in x) (sym e)

  pub in_reached_cell : (c : ℕ) → cell_from 0 b x.account.cells ≡ Some c → is_reached x.world (suc c) ≡ true
      → object_in x c ≡ object_on x b
  in_reached_cell c e mark = by_mark c true e mark

  pub in_unreached_cell : (c : ℕ) → cell_from 0 b x.account.cells ≡ Some c → is_reached x.world (suc c) ≡ false
      → None ≡ object_on x b
  in_unreached_cell c e mark = by_mark c false e mark

-- ---- what holds of what was got

pub if_ok : {A E : Type 0} (P Q : A → Type 0) (o : Result A E) → ((a : A) → P a → Q a) → IfOk o P → IfOk o Q
if_ok P Q (Ok a) f h = f a h
if_ok P Q (Err e) f h = tt
