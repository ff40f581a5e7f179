use Rattle.std.proofs.Common.{◌≡◌, ℕ, zero, suc, ◌+◌, ◌≤◌, ◌<◌, List, [], ◌∷◌, length, map, take, drop, set, slice_get}
use Rattle.std.proofs.Common.{Option, Some, None, refl, sym, ◌∙◌, ap, arith}
use Rattle.std.specs.Option.{option_map}
use Rattle.std.proofs.lemmas.List.{map-set, set_past}
use Rattle.std.proofs.lemmas.Option.{slice_get-map}
use Rattle.model.specs.declared.values.Value.{Value}
use Rattle.model.specs.declared.journals.HeapShape.{HeapShape}
use Rattle.model.specs.Room.{words_of_cell}
use Rattle.model.specs.Worlds.{Monitor, free_monitor}
use Rattle.cells.specs.declared.headers.Header.{Header}
use Rattle.cells.specs.Objects.{StoredObject, CellsValue, made_object, object_if, words_if, word_set, monitor_set}
use Rattle.cells.specs.Objects.{thread_set, with_object, with_word, with_monitor, with_thread, words_at}
use Rattle.cells.specs.Layout.{AreLaidOut, used_words, stored_as, stored_in, cells_in}
use Rattle.cells.proofs.WordLemmas.{SameOutside, set_same, set_used, overwritten, overwrite_same, overwrite_used}
use Rattle.cells.proofs.LayoutLemmas.{stands_at, changed, object_found}

-- What contracts see of a heap after each change.

pub with_objects : {K : Type 0} (shape : HeapShape) (os os' : List (Option (StoredObject K))) → os ≡ os'
    → (let y : CellsValue K = record { shape = shape; objects = os } in y)
    ≡ (let y : CellsValue K = record { shape = shape; objects = os' } in y)
with_objects shape os os' e = ap (λ xs. let y : CellsValue _ = record { shape = shape; objects = xs } in y) e

set_found : {A : Type 0} (xs : List A) (n : ℕ) (x : A) → slice_get xs n ≡ Some x → set xs n x ≡ xs
set_found [] n x found = refl
set_found (y ∷ ys) zero x found = let same : x ≡ y = cc in ap (λ z. z ∷ ys) same
set_found (y ∷ ys) (suc n) x found = ap (λ zs. y ∷ zs) (set_found ys n x found)

set_missing : {A : Type 0} (xs : List A) (n : ℕ) (x : A) → slice_get xs n ≡ None → set xs n x ≡ xs
set_missing [] n x missing = refl
set_missing (y ∷ ys) zero x missing = absurd (cc)
set_missing (y ∷ ys) (suc n) x missing = ap (λ zs. y ∷ zs) (set_missing ys n x missing)

set_back : {K : Type 0} (os : List (Option (StoredObject K))) (n : ℕ) → set os n (object_if (slice_get os n)) ≡ os
set_back [] n = refl
set_back (o ∷ os) zero = refl
set_back (o ∷ os) (suc n) = ap (λ zs. o ∷ zs) (set_back os n)

-- where there is no such cell, nothing changes
pub nowhere : {K : Type 0} (shape : HeapShape) (words : List Value) (hs : List (Header K)) (cell : ℕ)
    (o : Option (StoredObject K)) → slice_get hs cell ≡ None → cells_in shape words hs
    ≡ with_object (cells_in shape words hs) cell o
nowhere shape words hs cell o missing =
    with_objects shape _ _ (sym (set_missing (map (stored_in words) hs) cell o (slice_get-map (stored_in words) hs cell
    ∙ ap (option_map (stored_in words)) missing)))

-- ---- another header for the same words

headed : {K : Type 0} (shape : HeapShape) (words : List Value) (hs : List (Header K)) (cell : ℕ) (h' : Header K)
    (o : Option (StoredObject K)) → stored_in words h' ≡ o → cells_in shape words (set hs cell h')
    ≡ with_object (cells_in shape words hs) cell o
headed shape words hs cell h' o is = with_objects shape _ _ (map-set (stored_in words) hs cell h'
    ∙ ap (λ x. set (map (stored_in words) hs) cell x) is)

pub cleared : {K : Type 0} (shape : HeapShape) (words : List Value) (hs : List (Header K)) (cell : ℕ) (h' : Header K)
    → h'.kind ≡ None → cells_in shape words (set hs cell h') ≡ with_object (cells_in shape words hs) cell None
cleared shape words hs cell h' nobody = headed shape words hs cell h' None (ap (stored_as (used_words words h') h')
    nobody)

stored_monitor : {K : Type 0} (used : List Value) (h : Header K) (m : Monitor) (kind : Option K)
    → stored_as used (record h { monitor = m }) kind ≡ option_map (monitor_set m) (stored_as used h kind)
stored_monitor used h m None = refl
stored_monitor used h m (Some kind) = refl

pub monitored : {K : Type 0} (shape : HeapShape) (words : List Value) (hs : List (Header K)) (cell : ℕ) (h : Header K)
    (m : Monitor) → slice_get hs cell ≡ Some h → cells_in shape words (set hs cell (record h { monitor = m }))
    ≡ with_monitor (cells_in shape words hs) cell m
monitored shape words hs cell h m found =
    headed shape words hs cell (record h { monitor = m }) _
    (stored_monitor (used_words words h) h m h.kind
    ∙ ap (option_map (monitor_set m)) (sym (object_found words hs cell h found)))

stored_thread : {K : Type 0} (used : List Value) (h : Header K) (t : Option ℕ) (kind : Option K)
    → stored_as used (record h { thread = t }) kind ≡ option_map (thread_set t) (stored_as used h kind)
stored_thread used h t None = refl
stored_thread used h t (Some kind) = refl

pub threaded : {K : Type 0} (shape : HeapShape) (words : List Value) (hs : List (Header K)) (cell : ℕ) (h : Header K)
    (t : Option ℕ) → slice_get hs cell ≡ Some h → cells_in shape words (set hs cell (record h { thread = t }))
    ≡ with_thread (cells_in shape words hs) cell t
threaded shape words hs cell h t found =
    headed shape words hs cell (record h { thread = t }) _
    (stored_thread (used_words words h) h t h.kind
    ∙ ap (option_map (thread_set t)) (sym (object_found words hs cell h found)))

-- ---- a word is written

stored_word : {K : Type 0} (used : List Value) (h : Header K) (index : ℕ) (v : Value) (kind : Option K)
    → stored_as (set used index v) h kind ≡ option_map (word_set index v) (stored_as used h kind)
stored_word used h index v None = refl
stored_word used h index v (Some kind) = refl

pub written : {K : Type 0} (shape : HeapShape) (room : ℕ → ℕ) (words : List Value) (hs : List (Header K)) (cell
    index : ℕ) (h : Header K) (v : Value) → AreLaidOut room 0 0 hs (length words) → slice_get hs cell ≡ Some h
    → index < h.length → cells_in shape (set words (h.base + index) v) hs ≡ with_word (cells_in shape words hs) cell
    index v
written shape room words hs cell index h v laid found within =
    let at = stands_at room 0 0 hs (length words) cell (0 + cell) h laid found refl in
    let fits = at.0.fits in
    let room_is = at.0.room_is in
    let new = set words (h.base + index) v in
    let stored : stored_in new h
    ≡ option_map (word_set index v) (object_if (slice_get (map (stored_in words) hs) cell)) =
    ap (λ used. stored_as used h h.kind) (set_used words h.base h.length index v within)
    ∙ stored_word (used_words words h) h index v h.kind
    ∙ ap (option_map (word_set index v)) (sym (object_found words hs cell h found)) in
    with_objects shape _ _
    (ap (map (stored_in new)) (sym (set_found hs cell h found))
    ∙ changed room 0 0 hs (length words) cell (h.base + index) (suc (h.base + index)) h h words new laid found
    (set_same words (h.base + index) v) (omega arith) (omega (arith, within, fits, room_is))
    ∙ ap (λ o. set (map (stored_in words) hs) cell o) stored)

word_past : {K : Type 0} (index : ℕ) (v : Value) (o : Option (StoredObject K)) → length (words_if o) ≤ index
    → option_map (word_set index v) o ≡ o
word_past index v None past = refl
word_past index v (Some object) past = ap (λ ws. Some (record object { words = ws })) (set_past object.words
    index v past)

-- where the object has no such word, nothing changes
pub unwritten : {K : Type 0} (cells : CellsValue K) (cell index : ℕ) (v : Value) → length (words_at cells cell) ≤ index
    → cells ≡ with_word cells cell index v
unwritten cells cell index v past =
    with_objects cells.shape _ _
    (sym (ap (λ o. set cells.objects cell o) (word_past index v (object_if (slice_get cells.objects cell)) past)
    ∙ set_back cells.objects cell))

-- ---- a new object

pub placed : {K : Type 0} (shape : HeapShape) (room : ℕ → ℕ) (words new vs : List Value) (hs : List
    (Header K)) (cell count : ℕ) (h h' : Header K) (kind : K) → AreLaidOut room 0 0 hs (length words)
    → slice_get hs cell ≡ Some h → length vs ≡ count → count ≤ h.room → new ≡ overwritten words h.base count vs
    → h' ≡ record {
      base = h.base;
      room = h.room;
      length = count;
      kind = Some kind;
      monitor = free_monitor;
      thread = None;
    }
    → cells_in shape new (set hs cell h') ≡ with_object (cells_in shape words hs) cell (Some (made_object kind vs))
placed shape room words new vs hs cell count h h' kind laid found long fits is header_is =
    let at = stands_at room 0 0 hs (length words) cell (0 + cell) h laid found refl in
    let within = at.1 in
    let inside : h.base + count ≤ length words = omega (arith, within, fits) in
    let same : SameOutside h.base (h.base + count) words new = rw is (overwrite_same words h.base count vs long inside)
    in
    let used : take count (drop h.base new) ≡ vs = rw is (overwrite_used words h.base count vs long inside) in
    with_objects shape _ _
    (changed room 0 0 hs (length words) cell h.base (h.base + count) h h' words new laid found same (omega arith)
    (omega (arith, fits))
    ∙ ap (λ o. set (map (stored_in words) hs) cell o) (ap (stored_in new) header_is
    ∙ ap (λ ws. Some (made_object kind ws)) used))

-- ---- what a caller promised, told of the fields

pub enough : {K : Type 0} (shape : HeapShape) (words : List Value) (hs : List (Header K)) (cells : CellsValue K)
    (room cell count : ℕ) → cells_in shape words hs ≡ cells → room ≡ words_of_cell shape cell
    → count ≤ words_of_cell cells.shape cell → count ≤ room
enough shape words hs cells room cell count seen room_is fits =
    let same : words_of_cell cells.shape cell ≡ room = ap (λ (y : CellsValue _). words_of_cell y.shape cell) (sym seen)
    ∙ sym room_is in
    omega (arith, same, fits)
