use Rattle.std.proofs.Common.{◌≡◌, inl, inr, ℕ, zero, suc, ◌+◌, ◌<◌, ◌≤◌, Bool, true, false, List, [], ◌∷◌, ◌++◌}
use Rattle.std.proofs.Common.{length, map, set, slice_get, nat_lt, nat_le, Option, Some, None, is_some, refl, sym, ◌∙◌}
use Rattle.std.proofs.Common.{ap, subst, arith, length-set, leb-true, le-ltb, ltb-false}
use Rattle.std.specs.Prelude.{replicate, if◌then◌else◌}
use Rattle.std.specs.Option.{IfSome, option_map}
use Rattle.std.proofs.Math.Seq.{map-set_same}
use Rattle.std.proofs.lemmas.List.{map-set, length-map, length-replicate}
use Rattle.std.proofs.lemmas.List.Elements.{All-cons, All-head, All-nil, All-push, All-tail}
use Rattle.std.proofs.lemmas.Option.{slice_get-map}
use Rattle.model.specs.declared.colours.Cell.{Cell}
use Rattle.model.specs.declared.colours.Cell.TheVariants.{Free, Taken}
use Rattle.model.specs.declared.colours.Colour.{Colour}
use Rattle.model.specs.declared.colours.Colour.TheVariants.{White, Grey, Black}
use Rattle.model.specs.declared.colours.Phase.{Phase}
use Rattle.model.specs.declared.colours.Phase.TheVariants.{Idle, Statics, Frames, Mark, Append}
use Rattle.model.specs.declared.journals.HeapShape.{HeapShape}
use Rattle.model.specs.Accounts.{Account, take_cell, in_cell, placed, numbers_up, empty_account, opening_account}
use Rattle.model.specs.Limits.{ShapeFits}
use Rattle.model.specs.Room.{words_of_cell}
use Rattle.model.specs.Worlds.{World, frames_at}
use Rattle.model.specs.Collector.Places.{slots_of, entries_at, words_of, root_at, word_at}
use Rattle.model.specs.Collector.Places.Place.{Slot, FrameEntry, MethodMonitor}
use Rattle.model.specs.Collector.Table.{cell_at, at_phase, with_cell, with_free, listed_in, swept, append_step}
use Rattle.model.specs.declared.values.Value.{Value}
use Rattle.cells.specs.Objects.{StoredObject, object_if, word_set}
use Rattle.colours.specs.Births.{born_in, taken_cell}
use Rattle.colours.proofs.Steps.{one_taken}
use Rattle.colours.proofs.Keeping.{front_taken}
use Rattle.collector.specs.Freed.{freed_in, freed_cell}
use Rattle.join.specs.TurnsOnCells.{shade_at, shade_cell, shade_cell_if, black_at, blacken_cell, birth_in, statics_on}
use Rattle.join.specs.TurnsOnCells.{frames_on, word_on, mark_on, step_on}
use Rattle.join.proofs.Opening.{two_cells}
use Rattle.instructions.specs.Heaps.{cleared}
use Rattle.instructions.specs.HeapsAgree.{is_taken, Agree, AllFrom}

-- Each step on a heap keeps its account and its objects in agreement.

-- ---- what is in a cell

-- nobody is in a free cell
pub nobody_in_free : {K : Type 0} (cells : List Cell) (objects : List (Option (StoredObject K))) (c : ℕ)
    → map is_taken cells ≡ map is_some objects → slice_get cells c ≡ Some Free → slice_get objects c ≡ Some None
nobody_in_free {K = K} cells objects c taken free =
    go (slice_get objects c)
    (sym (slice_get-map is_some objects c) ∙ ap (λ bs. slice_get bs c) (sym taken)
    ∙ slice_get-map is_taken cells c ∙ ap (option_map is_taken) free)
  where
    go : (o : Option (Option (StoredObject K))) → option_map is_some o ≡ Some false → o ≡ Some None
    go None e = absurd (cc)
    go (Some None) e = refl
    go (Some (Some object)) e = absurd (cc)

-- no cell past the last one holds a birth
pub past_the_last : (cells : List Cell) (c : ℕ) → length cells ≤ c → cell_at cells c ≡ Free
past_the_last [] c l = refl
past_the_last (x ∷ cells) zero l = absurd (omega arith)
past_the_last (x ∷ cells) (suc c) l = past_the_last cells c (omega arith)

-- ---- a birth gets another colour

recoloured : {K : Type 0} (shape : HeapShape) (a : Account) (objects : List (Option
    (StoredObject K))) (c b b' : ℕ) (x x' : Colour) (grey : List ℕ) (phase : Phase) → Agree shape a objects
    → cell_at a.cells c ≡ Taken b x
    → Agree shape (record a { cells = set a.cells c (Taken b' x'); grey = grey; phase = phase }) objects
recoloured shape a objects c b b' x x' grey phase k held = record {
  fits = k.fits;
  count = length-set a.cells c (Taken b' x') ∙ k.count;
  taken = map-set_same is_taken a.cells c (Taken b' x') Free (sym (ap is_taken held)) ∙ k.taken;
  medium = k.medium;
  large = k.large;
}

-- the grey list and the phase may be any
pub regarded : {K : Type 0} (shape : HeapShape) (a : Account) (objects : List (Option
    (StoredObject K))) (grey : List ℕ) (phase : Phase) → Agree shape a objects
    → Agree shape (record a { grey = grey; phase = phase }) objects
regarded shape a objects grey phase k =
    record { fits = k.fits; count = k.count; taken = k.taken; medium = k.medium; large = k.large }

pub shaded_agree : {K : Type 0} (shape : HeapShape) (a : Account) (objects : List (Option (StoredObject K))) (r : ℕ)
    → Agree shape a objects → Agree shape (shade_cell a r) objects
shaded_agree shape a objects zero k = k
shaded_agree shape a objects (suc c) k = go (cell_at a.cells c) refl
  where
    go : (cell : Cell) → cell_at a.cells c ≡ cell → Agree shape (shade_at a c cell) objects
    go Free held = k
    go (Taken b White) held = recoloured shape a objects c b b White Grey (a.grey ++ suc c ∷ []) a.phase k held
    go (Taken b Grey) held = k
    go (Taken b Black) held = k

pub shaded_if_agree : {K : Type 0} (shape : HeapShape) (a : Account) (objects : List (Option
    (StoredObject K))) (r : Option ℕ) → Agree shape a objects → Agree shape (shade_cell_if a r) objects
shaded_if_agree shape a objects None k = k
shaded_if_agree shape a objects (Some r) k = shaded_agree shape a objects r k

-- ---- a cell is taken

-- what is left on the lists, and that there is room
record Taking (shape : HeapShape) (a : Account) (words : ℕ) (r : ℕ × Account) : Type 0 where
  pub medium : AllFrom shape.small r.1.medium
  pub large : AllFrom (shape.small + shape.medium) r.1.large
  pub room : words ≤ words_of_cell shape r.0

-- a cell of each size has room for as much as its list is asked for
some_room : (shape : HeapShape) (c words : ℕ) → words ≤ 4 → words ≤ words_of_cell shape c
some_room shape c words fits = go (nat_lt c shape.small) (nat_lt c (shape.small + shape.medium))
  where
    go : (small medium : Bool) → words ≤ (if small then 4 else if medium then 32 else 256)
    go true medium = fits
    go false true = omega (arith, fits)
    go false false = omega (arith, fits)

medium_room : (shape : HeapShape) (c words : ℕ) → shape.small ≤ c → words ≤ 32 → words ≤ words_of_cell shape c
medium_room shape c words from fits = rw (le-ltb c shape.small from) (go (nat_lt c (shape.small + shape.medium)))
  where
    go : (medium : Bool) → words ≤ (if medium then 32 else 256)
    go true = fits
    go false = omega (arith, fits)

large_room : (shape : HeapShape) (c words : ℕ) → shape.small + shape.medium ≤ c → words ≤ 256
    → words ≤ words_of_cell shape c
large_room shape c words from fits =
    rw (le-ltb c shape.small (omega (arith, from)), le-ltb c (shape.small + shape.medium) from) fits

taking : (shape : HeapShape) (a : Account) (words : ℕ) (r : ℕ × Account) → AllFrom shape.small a.medium
    → AllFrom (shape.small + shape.medium) a.large → take_cell a words ≡ Some r → Taking shape a words r
taking shape a words r from_medium from_large e =
    elim (front_taken (nat_le words 4) (λ cs. record a { small = cs }) a.small _ r e) [
      | inl small ↦ rw small.2 (record {
        medium = from_medium;
        large = from_large;
        room = some_room shape r.0 words (leb-true words 4 small.3);
      })
      | inr f ↦ elim (front_taken (nat_le words 32) (λ cs. record a { medium = cs }) a.medium _ r f) [
        | inl medium ↦ (let from = subst (AllFrom shape.small) medium.1 from_medium in
            let first = All-head (λ c. shape.small ≤ c) r.0 medium.0 from in
            rw medium.2 (record {
              medium = All-tail (λ c. shape.small ≤ c) r.0 medium.0 from;
              large = from_large;
              room = medium_room shape r.0 words first (leb-true words 32 medium.3);
            }))
        | inr g ↦ elim (front_taken (nat_le words 256) (λ cs. record a { large = cs }) a.large _ r g) [
          | inl large ↦ (let from = subst (AllFrom (shape.small + shape.medium)) large.1 from_large in
              let first = All-head (λ c. shape.small + shape.medium ≤ c) r.0 large.0 from in
              rw large.2 (record {
                medium = from_medium;
                large = All-tail (λ c. shape.small + shape.medium ≤ c) r.0 large.0 from;
                room = large_room shape r.0 words first (leb-true words 256 large.3);
              }))
          | inr n ↦ absurd (cc)
        ]
      ]
    ]

pub cells_left : (a : Account) (words : ℕ) (r : ℕ × Account) → take_cell a words ≡ Some r → r.1.cells ≡ a.cells
cells_left a words r e =
    elim (front_taken (nat_le words 4) (λ cs. record a { small = cs }) a.small _ r e) [
      | inl small ↦ ap (λ (b : Account). b.cells) small.2
      | inr f ↦ elim (front_taken (nat_le words 32) (λ cs. record a { medium = cs }) a.medium _ r f) [
        | inl medium ↦ ap (λ (b : Account). b.cells) medium.2
        | inr g ↦ elim (front_taken (nat_le words 256) (λ cs. record a { large = cs }) a.large _ r g) [
          | inl large ↦ ap (λ (b : Account). b.cells) large.2
          | inr n ↦ absurd (cc)
        ]
      ]
    ]

-- a cell that is taken has room for the words
pub taken_fits : {K : Type 0} (shape : HeapShape) (a : Account) (objects : List (Option
    (StoredObject K))) (words : ℕ) (r : ℕ × Account) → Agree shape a objects → take_cell a words ≡ Some r
    → words ≤ words_of_cell shape r.0
taken_fits shape a objects words r k e = (taking shape a words r k.medium k.large e).room

-- and a new object in it
pub created_agree : {K : Type 0} (shape : HeapShape) (a : Account) (objects : List (Option
    (StoredObject K))) (words birth : ℕ) (r : ℕ × Account) (object : StoredObject K) → Agree shape a objects
    → take_cell a words ≡ Some r → Agree shape (birth_in r.1 r.0 birth) (set objects r.0 (Some object))
created_agree shape a objects words birth r object k e =
    let t = taking shape a words r k.medium k.large e in
    record {
      fits = k.fits;
      count = length-set r.1.cells r.0 (Taken birth Grey) ∙ ap length (cells_left a words r e) ∙ k.count;
      taken =
          map-set is_taken r.1.cells r.0 (Taken birth Grey)
          ∙ ap (λ bs. set bs r.0 true) (ap (map is_taken) (cells_left a words r e) ∙ k.taken)
          ∙ sym (map-set is_some objects r.0 (Some object));
      medium = t.medium;
      large = t.large;
    }

-- as the account tells the cell
pub came_agree : {K : Type 0} (shape : HeapShape) (a : Account) (objects : List (Option
    (StoredObject K))) (words birth c : ℕ) (object : StoredObject K) → Agree shape a objects
    → Some c ≡ taken_cell (take_cell a words)
    → Agree shape (born_in a birth (take_cell a words)) (set objects c (Some object))
came_agree shape a objects words birth c object k e =
    let t = one_taken a birth c (take_cell a words) e in
    rw t.2 (created_agree shape a objects words birth (c, t.0) object k t.1)

-- ---- a word is written

stays_taken : {K : Type 0} (objects : List (Option (StoredObject K))) (c i : ℕ) (v : Value)
    → map is_some (set objects c (option_map (word_set i v) (object_if (slice_get objects c)))) ≡ map is_some objects
stays_taken [] c i v = refl
stays_taken (None ∷ objects) zero i v = refl
stays_taken (Some o ∷ objects) zero i v = refl
stays_taken (o ∷ objects) (suc c) i v = ap (λ bs. is_some o ∷ bs) (stays_taken objects c i v)

pub written_agree : {K : Type 0} (shape : HeapShape) (a : Account) (objects : List (Option
    (StoredObject K))) (c i : ℕ) (v : Value) → Agree shape a objects
    → Agree shape a (set objects c (option_map (word_set i v) (object_if (slice_get objects c))))
written_agree shape a objects c i v k = record {
  fits = k.fits;
  count = k.count;
  taken = k.taken ∙ sym (stays_taken objects c i v);
  medium = k.medium;
  large = k.large;
}

-- ---- a cell is given back

given_back : {K : Type 0} (shape : HeapShape) (a : Account) (objects : List (Option
    (StoredObject K))) (c : ℕ) (small medium : Bool) → nat_lt c shape.small ≡ small
    → nat_lt c (shape.small + shape.medium) ≡ medium → Agree shape a objects
    → Agree shape (listed_in (with_cell a c Free) c small medium) (set objects c None)
given_back shape a objects c small medium is_small is_medium k =
    go small medium is_small is_medium (length-set a.cells c Free ∙ k.count)
    (map-set is_taken a.cells c Free ∙ ap (λ bs. set bs c false) k.taken ∙ sym (map-set is_some objects c None))
  where
    go : (small medium : Bool) → nat_lt c shape.small ≡ small → nat_lt c (shape.small + shape.medium) ≡ medium
        → length (set a.cells c Free) ≡ shape.small + shape.medium + shape.large
        → map is_taken (set a.cells c Free) ≡ map is_some (set objects c None)
        → Agree shape (listed_in (with_cell a c Free) c small medium) (set objects c None)
    go true medium e f count taken =
        record { fits = k.fits; count = count; taken = taken; medium = k.medium; large = k.large }
    go false true e f count taken = record {
      fits = k.fits;
      count = count;
      taken = taken;
      medium = All-push (λ d. shape.small ≤ d) a.medium c k.medium (ltb-false c shape.small e);
      large = k.large;
    }
    go false false e f count taken = record {
      fits = k.fits;
      count = count;
      taken = taken;
      medium = k.medium;
      large =
          All-push (λ d. shape.small + shape.medium ≤ d) a.large c k.large (ltb-false c (shape.small + shape.medium) f);
    }

-- ---- a step of the collector

module _
    {K : Type 0} (shape : HeapShape) (w : World) (a : Account) (objects : List (Option (StoredObject K)))
    (k : Agree shape a objects)
  where
    -- a look at a reference, and another phase
    looked : (r : Option ℕ) (phase : Phase) → Agree shape (at_phase (shade_cell_if a r) phase) objects
    looked r phase = regarded shape (shade_cell_if a r) objects _ phase (shaded_if_agree shape a objects r k)

    begun : Agree shape (at_phase (shade_cell (shade_cell a 1) 2) (Statics 0)) objects
    begun =
        regarded shape (shade_cell (shade_cell a 1) 2) objects _ (Statics 0)
        (shaded_agree shape (shade_cell a 1) objects 2 (shaded_agree shape a objects 1 k))

    slot_looked : (s : ℕ) (there : Bool) → Agree shape (statics_on w a s there) objects
    slot_looked s true = looked (root_at w (Slot s)) (Statics (s + 1))
    slot_looked s false = regarded shape a objects a.grey (Frames 0 0 0) k

    frame_looked : (t d j : ℕ) (thread frame entry : Bool)
        → Agree shape (frames_on w a t d j thread frame entry) objects
    frame_looked t d j true true true = looked (root_at w (FrameEntry t d j)) (Frames t d (j + 1))
    frame_looked t d j true true false = looked (root_at w (MethodMonitor t d)) (Frames t (d + 1) 0)
    frame_looked t d j true false entry = regarded shape a objects a.grey (Frames (t + 1) 0 0) k
    frame_looked t d j false frame entry = regarded shape a objects a.grey (Mark 0) k

    blackened : (r : ℕ) (grey : List ℕ) (phase : Phase)
        → Agree shape (record a { cells = blacken_cell a r; grey = grey; phase = phase }) objects
    blackened zero grey phase = regarded shape a objects grey phase k
    blackened (suc c) grey phase = go (cell_at a.cells c) refl
      where
        go : (cell : Cell) → cell_at a.cells c ≡ cell
            → Agree shape (record a { cells = black_at a c cell; grey = grey; phase = phase }) objects
        go Free held = regarded shape a objects grey phase k
        go (Taken b x) held = recoloured shape a objects c b b x Black grey phase k held

    word_looked : (q r : ℕ) (rest : List ℕ) (there : Bool) → Agree shape (word_on w a q r rest there) objects
    word_looked q r rest true = looked (word_at w r q) (Mark (q + 1))
    word_looked q r rest false = blackened r rest (Mark 0)

    marked : (q : ℕ) (grey : List ℕ) → Agree shape (mark_on w a q grey) objects
    marked q [] = regarded shape a objects a.grey (Append 0) k
    marked q (r ∷ rest) = word_looked q r rest (nat_lt q (length (words_of w.objects r)))

    appended : (p : ℕ) (there : Bool) → nat_lt p (length a.cells) ≡ there
        → Agree shape (append_step shape a p there) (cleared objects (freed_in p (cell_at a.cells p)))
    appended p true e = go (cell_at a.cells p) refl
      where
        go : (cell : Cell) → cell_at a.cells p ≡ cell
            → Agree shape (at_phase (swept shape a p cell) (Append (p + 1))) (cleared objects (freed_in p cell))
        go Free held = regarded shape a objects a.grey (Append (p + 1)) k
        go (Taken b White) held =
            regarded shape (with_free shape (with_cell a p Free) p) (set objects p None) _ (Append (p + 1))
            (given_back shape a objects p (nat_lt p shape.small) (nat_lt p (shape.small + shape.medium)) refl refl k)
        go (Taken b Grey) held = regarded shape a objects a.grey (Append (p + 1)) k
        go (Taken b Black) held = recoloured shape a objects p b b Black White a.grey (Append (p + 1)) k held
    appended p false e =
        rw (past_the_last a.cells p (ltb-false p (length a.cells) e)) (regarded shape a objects a.grey Idle k)

    stepped_agree : (phase : Phase) → Agree shape (step_on shape w a phase) (cleared objects (freed_cell a phase))
    stepped_agree Idle = begun
    stepped_agree (Statics s) = slot_looked s (nat_lt s (length (slots_of w)))
    stepped_agree (Frames t d j) =
        frame_looked t d j (nat_lt t (length w.threads)) (nat_lt d (length (frames_at w t)))
        (nat_lt j (length (entries_at (frames_at w t) d)))
    stepped_agree (Mark q) = marked q a.grey
    stepped_agree (Append p) = appended p (nat_lt p (length a.cells)) refl

    -- where shape and freed cell are reported by other names
    pub collected_agree : (reported : HeapShape) (phase : Phase) (freed : Option ℕ) → reported ≡ shape
        → freed ≡ freed_cell a phase → Agree shape (step_on reported w a phase) (cleared objects freed)
    collected_agree reported phase freed same is = rw (same, is) (stepped_agree phase)

-- ---- the opening

from_numbers : (first n least : ℕ) → least ≤ first → AllFrom least (numbers_up first n)
from_numbers first zero least l = All-nil (λ c. least ≤ c)
from_numbers first (suc n) least l =
    All-cons (λ c. least ≤ c) first (numbers_up (first + 1) n) l (from_numbers (first + 1) n least (omega (arith, l)))

-- a birth without words comes
placed_lists : (shape : HeapShape) (a : Account) (birth : ℕ) (x : Colour) → AllFrom shape.small a.medium
    → AllFrom (shape.small + shape.medium) a.large
    → AllFrom shape.small (placed a birth 0 x).medium × AllFrom (shape.small + shape.medium) (placed a birth 0 x).large
placed_lists shape a birth x from_medium from_large = go (take_cell a 0) refl
  where
    go : (o : Option (ℕ × Account)) → take_cell a 0 ≡ o
        → AllFrom shape.small (in_cell a birth x o).medium
        × AllFrom (shape.small + shape.medium) (in_cell a birth x o).large
    go None e = (from_medium, from_large)
    go (Some r) e = let t = taking shape a 0 r from_medium from_large e in (t.medium, t.large)

nobody_anywhere : (K : Type 0) (n : ℕ)
    → map is_taken (replicate n Free) ≡ map is_some (let os : List (Option (StoredObject K)) = replicate n None in os)
nobody_anywhere K zero = refl
nobody_anywhere K (suc n) = ap (λ bs. false ∷ bs) (nobody_anywhere K n)

two_objects : {K : Type 0} (cells : List Cell) (n total : ℕ) (o o' : StoredObject K)
    → cells ≡ Taken 1 White ∷ Taken 2 White ∷ replicate n Free → total ≡ suc (suc n)
    → (length cells ≡ total)
    × (map is_taken cells ≡ map is_some (set (set (replicate total None) 0 (Some o)) 1 (Some o')))
two_objects {K = K} cells n total o o' is count =
    rw (is, count) (ap (λ m. suc (suc m)) (length-replicate n Free), ap (λ bs. true ∷ true ∷ bs) (nobody_anywhere K n))

pub cells_number : (shape : HeapShape) → length (opening_account shape).cells ≡ shape.small + shape.medium + shape.large
cells_number shape =
    placed_number (placed (empty_account shape) 1 0 White) 2 ∙ placed_number (empty_account shape) 1
    ∙ length-replicate (shape.small + shape.medium + shape.large) Free
  where
    placed_number : (a : Account) (birth : ℕ) → length (placed a birth 0 White).cells ≡ length a.cells
    placed_number a birth = go (take_cell a 0) refl
      where
        go : (o : Option (ℕ × Account)) → take_cell a 0 ≡ o → length (in_cell a birth White o).cells ≡ length a.cells
        go None e = refl
        go (Some r) e = length-set r.1.cells r.0 (Taken birth White) ∙ ap length (cells_left a 0 r e)

pub opening_agrees : {K : Type 0} (shape : HeapShape) (o o' : StoredObject K)
    → ShapeFits shape.small shape.medium shape.large
    → Agree shape (opening_account shape)
    (set (set (replicate (shape.small + shape.medium + shape.large) None) 0 (Some o)) 1 (Some o'))
opening_agrees shape o o' fits =
    let two = two_cells shape.small shape.medium shape.large fits.0 in
    let total = cells_number shape in
    let long = ap length two.1 in
    let rest = length-replicate two.0 Free in
    let all = shape.small + shape.medium + shape.large in
    let k = two_objects (opening_account shape).cells two.0 all o o' two.1 (omega (arith, total, long, rest)) in
    let medium = from_numbers shape.small shape.medium shape.small (omega arith) in
    let large = from_numbers (shape.small + shape.medium) shape.large (shape.small + shape.medium) (omega arith) in
    let first = placed_lists shape (empty_account shape) 1 White medium large in
    let second = placed_lists shape (placed (empty_account shape) 1 0 White) 2 White first.0 first.1 in
    record { fits = fits; count = k.0; taken = k.1; medium = second.0; large = second.1 }

-- ---- a cell of the account is one of an object

pub taken_among : {K : Type 0} (cells : List Cell) (objects : List (Option (StoredObject K))) (o : Option (ℕ × Account))
    → map is_taken cells ≡ map is_some objects → IfSome o (λ taken. taken.0 < length cells)
    → IfSome o (λ taken. taken.0 < length objects)
taken_among cells objects o same among =
    let count : length cells ≡ length objects = sym (length-map cells is_taken) ∙ ap length same
    ∙ length-map objects is_some in
    subst (λ n. IfSome o (λ taken. taken.0 < n)) count among
