-- The two errors that are made before a run stay of their classes as long as their births stand in their cells.
use Rattle.std.proofs.Common.{◌≡◌, ◌≤◌, ◌<◌, ◌+◌, ◌-◌, ℕ, zero, suc, List, [], ◌∷◌, length, set, slice_get, nat_lt}
use Rattle.std.proofs.Common.{Bool, true, false, Option, Some, None, refl, sym, ◌∙◌, ap, arith, ltb-false}
use Rattle.std.specs.Prelude.{replicate}
use Rattle.std.specs.Option.{option_map}
use Rattle.model.specs.declared.colours.Cell.{Cell}
use Rattle.model.specs.declared.colours.Cell.TheVariants.{Free, Taken}
use Rattle.model.specs.declared.colours.Colour.{Colour}
use Rattle.model.specs.declared.colours.Colour.TheVariants.{White, Grey, Black}
use Rattle.model.specs.declared.colours.Phase.{Phase}
use Rattle.model.specs.declared.colours.Phase.TheVariants.{Idle, Statics, Frames, Mark, Append}
use Rattle.model.specs.declared.journals.HeapShape.{HeapShape}
use Rattle.model.specs.Accounts.{Account, take_cell}
use Rattle.model.specs.Collector.Places.{slots_of, entries_at, words_of, root_at, word_at}
use Rattle.model.specs.Collector.Places.Place.{Slot, FrameEntry, MethodMonitor}
use Rattle.model.specs.Collector.Table.{cell_at, with_cell, listed_in, swept, append_step}
use Rattle.model.specs.Limits.{ShapeFits}
use Rattle.model.specs.Worlds.{World, frames_at}
use Rattle.cells.specs.Objects.{StoredObject, object_if}
use Rattle.collector.specs.Freed.{freed_in, freed_cell}
use Rattle.colours.specs.Births.{born_in, taken_cell}
use Rattle.colours.proofs.Steps.{one_taken}
use Rattle.join.specs.ReadBack.{birth_of}
use Rattle.join.specs.TurnsOnCells.{shade_at, shade_cell, shade_cell_if, black_at, blacken_cell, statics_on, frames_on}
use Rattle.join.specs.TurnsOnCells.{word_on, mark_on, step_on}
use Rattle.instructions.specs.Heaps.{cleared}
use Rattle.instructions.specs.HeapsAgree.{ErrorIs, ErrorsAre, kind_in}
use Rattle.instructions.proofs.AgreeLemmas.{cells_left, past_the_last}

-- a birth that stands in a cell stood there, with an object of the same kind
abbrev KeepsBirths : {K : Type 0} → List Cell → List (Option (StoredObject K)) → List Cell
    → List (Option (StoredObject K)) → ℕ → Type 0
KeepsBirths cells objects after left births =
    (n b : ℕ) → 1 ≤ b → b < births → birth_of (cell_at after n) ≡ b
    → (birth_of (cell_at cells n) ≡ b) × (kind_in left n ≡ kind_in objects n)

kept_error : {K : Type 0} (cells : List Cell) (objects : List (Option (StoredObject K))) (after : List Cell)
    (left : List (Option (StoredObject K))) (births n b : ℕ) (kind : K) → KeepsBirths cells objects after left births
    → 1 ≤ b → b < births → ErrorIs n b kind cells objects → ErrorIs n b kind after left
kept_error cells objects after left births n b kind keeps least less error stands =
    let k = keeps n b least less stands in k.1 ∙ error k.0

kept : {K : Type 0} (cells : List Cell) (objects : List (Option (StoredObject K))) (after : List Cell)
    (left : List (Option (StoredObject K))) (births grown : ℕ) (memory stack : K)
    → KeepsBirths cells objects after left births → births ≤ grown
    → ErrorsAre memory stack cells objects births → ErrorsAre memory stack after left grown
kept cells objects after left births grown memory stack keeps grows errors =
    let three = errors.least in
    record {
      memory_is = kept_error cells objects after left births 0 1 memory keeps (omega arith) (omega (arith, three))
          errors.memory_is;
      stack_is = kept_error cells objects after left births 1 2 stack keeps (omega arith) (omega (arith, three))
          errors.stack_is;
      least = omega (arith, grows, three);
    }

-- ---- one cell

births-set : (cells : List Cell) (c n : ℕ) (v : Cell) → birth_of v ≡ birth_of (cell_at cells c)
    → birth_of (cell_at (set cells c v) n) ≡ birth_of (cell_at cells n)
births-set [] c n v e = refl
births-set (x ∷ xs) zero zero v e = e
births-set (x ∷ xs) zero (suc n) v e = refl
births-set (x ∷ xs) (suc c) zero v e = refl
births-set (x ∷ xs) (suc c) (suc n) v e = births-set xs c n v e

recoloured : {K : Type 0} (cells : List Cell) (objects : List (Option (StoredObject K))) (c b births : ℕ)
    (x x' : Colour)
    → cell_at cells c ≡ Taken b x → KeepsBirths cells objects (set cells c (Taken b x')) objects births
recoloured cells objects c b births x x' held n birth least less stands =
    (sym (births-set cells c n (Taken b x') (sym (ap birth_of held))) ∙ stands, refl)

same : {K : Type 0} (cells : List Cell) (objects : List (Option (StoredObject K))) (births : ℕ)
    → KeepsBirths cells objects cells objects births
same cells objects births n b least less stands = (stands, refl)

-- another cell comes, whose birth is none of those before
changed : {K : Type 0} (cells : List Cell) (objects : List (Option (StoredObject K))) (c n b : ℕ) (v : Cell)
    (o : Option (StoredObject K)) → (birth_of v ≡ b → ⊥) → 1 ≤ b → birth_of (cell_at (set cells c v) n) ≡ b
    → (birth_of (cell_at cells n) ≡ b) × (kind_in (set objects c o) n ≡ kind_in objects n)
changed [] objects c n b v o other least stands = absurd (let none : 0 ≡ b = stands in omega (arith, none, least))
changed (x ∷ xs) objects zero zero b v o other least stands = absurd (other stands)
changed (x ∷ xs) [] zero (suc n) b v o other least stands = (stands, refl)
changed (x ∷ xs) (p ∷ ps) zero (suc n) b v o other least stands = (stands, refl)
changed (x ∷ xs) [] (suc c) zero b v o other least stands = (stands, refl)
changed (x ∷ xs) (p ∷ ps) (suc c) zero b v o other least stands = (stands, refl)
changed (x ∷ xs) [] (suc c) (suc n) b v o other least stands = ((changed xs [] c n b v o other least stands).0, refl)
changed (x ∷ xs) (p ∷ ps) (suc c) (suc n) b v o other least stands = changed xs ps c n b v o other least stands

-- ---- shading

shaded-at : {K : Type 0} (a : Account) (objects : List (Option (StoredObject K))) (births c : ℕ) (cell : Cell)
    → cell_at a.cells c ≡ cell → KeepsBirths a.cells objects (shade_at a c cell).cells objects births
shaded-at a objects births c Free held = same a.cells objects births
shaded-at a objects births c (Taken b White) held = recoloured a.cells objects c b births White Grey held
shaded-at a objects births c (Taken b Grey) held = same a.cells objects births
shaded-at a objects births c (Taken b Black) held = same a.cells objects births

shaded-births : {K : Type 0} (a : Account) (objects : List (Option (StoredObject K))) (births r : ℕ)
    → KeepsBirths a.cells objects (shade_cell a r).cells objects births
shaded-births a objects births zero = same a.cells objects births
shaded-births a objects births (suc c) = shaded-at a objects births c (cell_at a.cells c) refl

shaded_if-births : {K : Type 0} (a : Account) (objects : List (Option (StoredObject K))) (births : ℕ) (r : Option ℕ)
    → KeepsBirths a.cells objects (shade_cell_if a r).cells objects births
shaded_if-births a objects births None = same a.cells objects births
shaded_if-births a objects births (Some r) = shaded-births a objects births r

module _ {K : Type 0} (memory stack : K) where
  pub shaded_errors : (a : Account) (objects : List (Option (StoredObject K))) (births r : ℕ)
      → ErrorsAre memory stack a.cells objects births → ErrorsAre memory stack (shade_cell a r).cells objects births
  shaded_errors a objects births r =
      kept a.cells objects (shade_cell a r).cells objects births births memory stack (shaded-births a objects births r)
      (omega arith)

  -- ---- a new object

  created-births : (a : Account) (objects : List (Option (StoredObject K))) (births c words : ℕ)
      (object : StoredObject K)
      → Some c ≡ taken_cell (take_cell a words)
      → KeepsBirths a.cells objects (born_in a births (take_cell a words)).cells (set objects c (Some object)) births
  created-births a objects births c words object is =
      let t = one_taken a births c (take_cell a words) is in
      rw (t.2, cells_left a words (c, t.0) t.1)
      (λ n b least less stands. changed a.cells objects c n b (Taken births Grey) (Some object)
      (λ e. omega (arith, e, less)) least stands)

  pub came_errors : (a : Account) (objects : List (Option (StoredObject K))) (births c words : ℕ)
      (object : StoredObject K)
      → Some c ≡ taken_cell (take_cell a words) → ErrorsAre memory stack a.cells objects births
      → ErrorsAre memory stack (born_in a births (take_cell a words)).cells (set objects c (Some object)) (births + 1)
  came_errors a objects births c words object is =
      kept a.cells objects (born_in a births (take_cell a words)).cells (set objects c (Some object)) births
      (births + 1) memory
      stack (created-births a objects births c words object is) (omega arith)

  -- ---- an object changes but for its kind

  kind-changed : (objects : List (Option (StoredObject K))) (c n : ℕ) (change : StoredObject K → StoredObject K)
      → ((o : StoredObject K) → (change o).kind ≡ o.kind)
      → kind_in (set objects c (option_map change (object_if (slice_get objects c)))) n ≡ kind_in objects n
  kind-changed [] c n change stays = refl
  kind-changed (None ∷ os) zero zero change stays = refl
  kind-changed (Some o ∷ os) zero zero change stays = ap Some (stays o)
  kind-changed (o ∷ os) zero (suc n) change stays = refl
  kind-changed (o ∷ os) (suc c) zero change stays = refl
  kind-changed (o ∷ os) (suc c) (suc n) change stays = kind-changed os c n change stays

  pub changed_errors : (cells : List Cell) (objects : List (Option (StoredObject K))) (births c : ℕ)
      (change : StoredObject K → StoredObject K) → ((o : StoredObject K) → (change o).kind ≡ o.kind)
      → ErrorsAre memory stack cells objects births
      → ErrorsAre memory stack cells (set objects c (option_map change (object_if (slice_get objects c)))) births
  changed_errors cells objects births c change stays =
      kept cells objects cells (set objects c (option_map change (object_if (slice_get objects c)))) births births
      memory stack
      (λ n b least less stands. (stands, kind-changed objects c n change stays)) (omega arith)

  -- ---- a step of the collector

  module _ (shape : HeapShape) (w : World) (a : Account) (objects : List (Option (StoredObject K))) (births : ℕ) where
    abbrev Keeping : List Cell → Option ℕ → Type 0
    Keeping cells freed = KeepsBirths a.cells objects cells (cleared objects freed) births

    two_shaded : Keeping (shade_cell (shade_cell a 1) 2).cells None
    two_shaded n b least less stands =
        let second = shaded-births (shade_cell a 1) objects births 2 n b least less stands in
        shaded-births a objects births 1 n b least less second.0

    slot_looked : (s : ℕ) (there : Bool) → Keeping (statics_on w a s there).cells None
    slot_looked s true = shaded_if-births a objects births (root_at w (Slot s))
    slot_looked s false = same a.cells objects births

    frame_looked : (t d j : ℕ) (thread frame entry : Bool) → Keeping (frames_on w a t d j thread frame entry).cells None
    frame_looked t d j true true true = shaded_if-births a objects births (root_at w (FrameEntry t d j))
    frame_looked t d j true true false = shaded_if-births a objects births (root_at w (MethodMonitor t d))
    frame_looked t d j true false entry = same a.cells objects births
    frame_looked t d j false frame entry = same a.cells objects births

    blackened : (r : ℕ) → Keeping (blacken_cell a r) None
    blackened zero = same a.cells objects births
    blackened (suc c) = go (cell_at a.cells c) refl
      where
        go : (cell : Cell) → cell_at a.cells c ≡ cell → Keeping (black_at a c cell) None
        go Free held = same a.cells objects births
        go (Taken b x) held = recoloured a.cells objects c b births x Black held

    word_looked : (q r : ℕ) (rest : List ℕ) (there : Bool) → Keeping (word_on w a q r rest there).cells None
    word_looked q r rest true = shaded_if-births a objects births (word_at w r q)
    word_looked q r rest false = blackened r

    marked : (q : ℕ) (grey : List ℕ) → Keeping (mark_on w a q grey).cells None
    marked q [] = same a.cells objects births
    marked q (r ∷ rest) = word_looked q r rest (nat_lt q (length (words_of w.objects r)))

    listed-cells : (b : Account) (c : ℕ) (small medium : Bool) → (listed_in b c small medium).cells ≡ b.cells
    listed-cells b c true medium = refl
    listed-cells b c false true = refl
    listed-cells b c false false = refl

    swept-births : (p : ℕ) (cell : Cell) → cell_at a.cells p ≡ cell
        → Keeping (swept shape a p cell).cells (freed_in p cell)
    swept-births p Free held = same a.cells objects births
    swept-births p (Taken b White) held =
        rw (listed-cells (with_cell a p Free) p (nat_lt p shape.small) (nat_lt p (shape.small + shape.medium)))
        (λ n birth least less stands. changed a.cells objects p n birth Free None (λ e. omega (arith, e, least)) least
        stands)
    swept-births p (Taken b Grey) held = same a.cells objects births
    swept-births p (Taken b Black) held = recoloured a.cells objects p b births Black White held

    appended : (p : ℕ) (there : Bool) → nat_lt p (length a.cells) ≡ there
        → Keeping (append_step shape a p there).cells (freed_in p (cell_at a.cells p))
    appended p true e = swept-births p (cell_at a.cells p) refl
    appended p false e = rw (past_the_last a.cells p (ltb-false p (length a.cells) e)) (same a.cells objects births)

    stepped-births : (phase : Phase) → Keeping (step_on shape w a phase).cells (freed_cell a phase)
    stepped-births Idle = two_shaded
    stepped-births (Statics s) = slot_looked s (nat_lt s (length (slots_of w)))
    stepped-births (Frames t d j) =
        frame_looked t d j (nat_lt t (length w.threads)) (nat_lt d (length (frames_at w t)))
        (nat_lt j (length (entries_at (frames_at w t) d)))
    stepped-births (Mark q) = marked q a.grey
    stepped-births (Append p) = appended p (nat_lt p (length a.cells)) refl

    -- where shape and freed cell are reported by other names
    pub collected_errors : (reported : HeapShape) (phase : Phase) (freed : Option ℕ) → reported ≡ shape
        → freed ≡ freed_cell a phase
        → ErrorsAre memory stack a.cells objects births
        → ErrorsAre memory stack (step_on reported w a phase).cells (cleared objects freed) births
    collected_errors reported phase freed shape_is is =
        rw (shape_is, is) (kept a.cells objects (step_on shape w a phase).cells (cleared objects (freed_cell a phase))
        births births memory stack
        (stepped-births phase) (omega arith))

-- ---- the opening

two_kinds : {K : Type 0} (cells : List Cell) (n total : ℕ) (o o' : StoredObject K) → total ≡ suc (suc n)
    → ErrorsAre o.kind o'.kind cells (set (set (replicate total None) 0 (Some o)) 1 (Some o')) 3
two_kinds cells n total o o' count = rw count (record {
  memory_is = λ stands. refl;
  stack_is = λ stands. refl;
  least = omega arith;
})

pub opening_errors : {K : Type 0} (cells : List Cell) (shape : HeapShape) (o o' : StoredObject K)
    → ShapeFits shape.small shape.medium shape.large
    → ErrorsAre o.kind o'.kind cells (set (set (replicate (shape.small + shape.medium + shape.large) None) 0 (Some o)) 1
    (Some o')) 3
opening_errors cells shape o o' fits =
    let least = fits.0 in
    let total = shape.small + shape.medium + shape.large in
    two_kinds cells (total - 2) total o o' (omega (arith, least))

-- the kinds under other names
pub renamed : {K : Type 0} {memory stack memory' stack' : K} (cells : List Cell)
    (objects : List (Option (StoredObject K))) (births : ℕ)
    → memory ≡ memory' → stack ≡ stack' → ErrorsAre memory stack cells objects births
    → ErrorsAre memory' stack' cells objects births
renamed cells objects births first second errors = record {
  memory_is = λ stands. errors.memory_is stands ∙ ap Some first;
  stack_is = λ stands. errors.stack_is stands ∙ ap Some second;
  least = errors.least;
}
