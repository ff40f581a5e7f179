use Rattle.std.proofs.Common.{◌≡◌, ℕ, zero, suc, ◌+◌, ◌≤◌, ◌<◌, List, [], ◌∷◌, ◌++◌, length, map, take, drop, set}
use Rattle.std.proofs.Common.{slice_get, Option, Some, None, refl, sym, ◌∙◌, ap, subst, arith, length-drop}
use Rattle.std.specs.Prelude.{Bool, true, false, nat_lt, replicate, if◌then◌else◌}
use Rattle.std.proofs.lemmas.List.{length-take-le, length_push, map_push, replicate_more}
use Rattle.std.proofs.lemmas.Option.{slice_get-map, slice_get_past}
use Rattle.std.specs.Option.{option_map}
use Rattle.model.specs.declared.values.Value.{Value}
use Rattle.model.specs.declared.journals.HeapShape.{HeapShape}
use Rattle.model.specs.Room.{words_of_cell}
use Rattle.model.specs.Worlds.{free_monitor}
use Rattle.cells.specs.declared.headers.Header.{Header}
use Rattle.cells.specs.Objects.{object_if, words_if}
use Rattle.cells.specs.Layout.{Stands, AreLaidOut, used_words, stored_as, stored_in}
use Rattle.cells.proofs.WordLemmas.{SameOutside, stays_below, stays_above}

-- Cells that lie one after another: what is found in one, and that a write in one changes no other.

-- ---- where cells lie

ends : {K : Type 0} (room : ℕ → ℕ) (c from : ℕ) (hs : List (Header K)) (end : ℕ) → AreLaidOut room c from hs end
    → from ≤ end
ends room c from [] end laid = omega arith
ends room c from (x ∷ hs) end laid = let k = ends room (suc c) (from + room c) hs end laid.1 in omega (arith, k)

-- a cell after others begins where they end, or later
begins_after : {K : Type 0} (room : ℕ → ℕ) (c from : ℕ) (hs : List (Header K)) (end cell : ℕ) (h : Header K)
    → AreLaidOut room c from hs end → slice_get hs cell ≡ Some h → from ≤ h.base
begins_after room c from [] end cell h laid found = absurd (cc)
begins_after room c from (x ∷ hs) end zero h laid found =
    let same : x ≡ h = cc in
    let stands = laid.0 in
    let begins = ap (λ (y : Header _). y.base) same in
    omega (arith, begins, stands.begins)
begins_after room c from (x ∷ hs) end (suc cell) h laid found =
    let k = begins_after room (suc c) (from + room c) hs end cell h laid.1 found in
    omega (arith, k)

-- a cell's header has the room of its number, and its words are within the array
pub stands_at : {K : Type 0} (room : ℕ → ℕ) (c from : ℕ) (hs : List (Header K)) (end cell n : ℕ) (h : Header K)
    → AreLaidOut room c from hs end → slice_get hs cell ≡ Some h → n ≡ c + cell → Stands (room n) h.base h
    × (h.base + h.room ≤ end)
stands_at room c from [] end cell n h laid found at = absurd (cc)
stands_at room c from (x ∷ hs) end zero n h laid found at =
    let same : x ≡ h = cc in
    let number : n ≡ c = omega (arith, at) in
    let x_stands : Stands (room n) x.base x = record {
      begins = refl;
      room_is = laid.0.room_is ∙ sym (ap room number);
      fits = rw number laid.0.fits;
      nobody = laid.0.nobody;
    } in
    let k = ends room (suc c) (from + room c) hs end laid.1 in
    let begins = laid.0.begins in
    let wide = laid.0.room_is in
    let inside : x.base + x.room ≤ end = omega (arith, k, begins, wide) in
    subst (λ (y : Header _). Stands (room n) y.base y × (y.base + y.room ≤ end)) same (x_stands, inside)
stands_at room c from (x ∷ hs) end (suc cell) n h laid found at =
    stands_at room (suc c) (from + room c) hs end cell n h laid.1 found (omega (arith, at))

-- another header in a cell's place, for the same words
pub laid_out-set : {K : Type 0} (room : ℕ → ℕ) (c from : ℕ) (hs : List (Header K)) (end cell : ℕ) (h h' : Header K)
    → AreLaidOut room c from hs end → slice_get hs cell ≡ Some h → h'.base ≡ h.base → h'.room ≡ h.room
    → h'.length ≤ h.room → (h'.kind ≡ None → h'.length ≡ 0) → AreLaidOut room c from (set hs cell h') end
laid_out-set room c from [] end cell h h' laid found base_is room_is fits nobody = absurd (cc)
laid_out-set room c from (x ∷ hs) end zero h h' laid found base_is room_is fits nobody =
    let same : x ≡ h = cc in
    let begins = ap (λ (y : Header _). y.base) same in
    let wide = ap (λ (y : Header _). y.room) same in
    let stands = laid.0 in (
      record {
        begins = base_is ∙ sym begins ∙ stands.begins;
        room_is = room_is ∙ sym wide ∙ stands.room_is;
        fits = rw (sym (sym wide ∙ stands.room_is)) fits;
        nobody = nobody;
      },
      laid.1,
    )
laid_out-set room c from (x ∷ hs) end (suc cell) h h' laid found base_is room_is fits nobody =
    (laid.0, laid_out-set room (suc c) (from + room c) hs end cell h h' laid.1 found base_is room_is fits nobody)

-- one cell more, with nobody
pub laid_out-push : {K : Type 0} (room : ℕ → ℕ) (c from : ℕ) (hs : List (Header K)) (end n : ℕ) (h : Header K)
    → AreLaidOut room c from hs end → n ≡ c + length hs → Stands (room n) end h
    → AreLaidOut room c from (hs ++ h ∷ []) (end + room n)
laid_out-push room c from [] end n h laid at stands =
    let number : n ≡ c = omega (arith, at) in
    let laid_is : from ≡ end = laid in
    rw (← number, laid_is) (stands, refl)
laid_out-push room c from (x ∷ hs) end n h laid at stands =
    (laid.0, laid_out-push room (suc c) (from + room c) hs end n h laid.1 (omega (arith, at)) stands)

-- ---- what is stored where some words were written

stored_same : {K : Type 0} (old new : List Value) (h : Header K) → used_words new h ≡ used_words old h → stored_in new h
    ≡ stored_in old h
stored_same old new h same = ap (λ used. stored_as used h h.kind) same

-- cells after the words
following : {K : Type 0} (room : ℕ → ℕ) (c from : ℕ) (hs : List (Header K)) (end lo hi : ℕ) (old new : List Value)
    → AreLaidOut room c from hs end → hi ≤ from → SameOutside lo hi old new → map (stored_in new) hs
    ≡ map (stored_in old) hs
following room c from [] end lo hi old new laid after same = refl
following room c from (x ∷ hs) end lo hi old new laid after same =
    let begins = laid.0.begins in
    let here = stored_same old new x (stays_above x.base x.length lo hi old new same (omega (arith, begins, after))) in
    ap (λ o. o ∷ map (stored_in new) hs) here
    ∙ ap (λ os. stored_in old x ∷ os) (following room (suc c) (from + room c) hs end lo hi old new laid.1
    (omega (arith, after)) same)

-- a cell's words and header are written: in all others is what was there
pub changed : {K : Type 0} (room : ℕ → ℕ) (c from : ℕ) (hs : List (Header K)) (end cell lo hi : ℕ) (h h' : Header K)
    (old new : List Value) → AreLaidOut room c from hs end → slice_get hs cell ≡ Some h → SameOutside lo hi old new
    → h.base ≤ lo → hi ≤ h.base + h.room → map (stored_in new) (set hs cell h')
    ≡ set (map (stored_in old) hs) cell (stored_in new h')
changed room c from [] end cell lo hi h h' old new laid found same low high = absurd (cc)
changed room c from (x ∷ hs) end zero lo hi h h' old new laid found same low high =
    let is : x ≡ h = cc in
    let base_is = ap (λ (y : Header _). y.base) is in
    let wide = ap (λ (y : Header _). y.room) is in
    let begins = laid.0.begins in
    let room_is = laid.0.room_is in
    ap (λ os. stored_in new h' ∷ os) (following room (suc c) (from + room c) hs end lo hi old new laid.1
    (omega (arith, high, base_is, wide, begins, room_is)) same)
changed room c from (x ∷ hs) end (suc cell) lo hi h h' old new laid found same low high =
    let after = begins_after room (suc c) (from + room c) hs end cell h laid.1 found in
    let begins = laid.0.begins in
    let fits = laid.0.fits in
    let here = stored_same old new x (stays_below x.base x.length lo hi old new same (omega (
      arith,
      after,
      begins,
      fits,
      low,
    ))) in
    ap (λ o. o ∷ map (stored_in new) (set hs cell h')) here
    ∙ ap (λ os. stored_in old x ∷ os) (changed room (suc c) (from + room c) hs end cell lo hi h h' old new laid.1 found
    same low high)

-- ---- what is found in a cell

pub object_found : {K : Type 0} (words : List Value) (hs : List (Header K)) (cell : ℕ) (h : Header K)
    → slice_get hs cell ≡ Some h → object_if (slice_get (map (stored_in words) hs) cell) ≡ stored_in words h
object_found words hs cell h found = ap object_if (slice_get-map (stored_in words) hs cell
    ∙ ap (option_map (stored_in words)) found)

pub object_missing : {K : Type 0} (words : List Value) (hs : List (Header K)) (cell : ℕ) → slice_get hs cell ≡ None
    → object_if (slice_get (map (stored_in words) hs) cell) ≡ None
object_missing words hs cell found = ap object_if (slice_get-map (stored_in words) hs cell
    ∙ ap (option_map (stored_in words)) found)

words_stored : {K : Type 0} (words : List Value) (h : Header K) (kind : Option K) → (kind ≡ None → h.length ≡ 0)
    → words_if (stored_as (take h.length words) h kind) ≡ take h.length words
words_stored words h None nobody = sym (ap (λ n. take n words) (nobody refl))
words_stored words h (Some kind) nobody = refl

pub words_found : {K : Type 0} (room : ℕ → ℕ) (words : List Value) (hs : List (Header K)) (cell : ℕ) (h : Header K)
    → AreLaidOut room 0 0 hs (length words) → slice_get hs cell ≡ Some h
    → words_if (object_if (slice_get (map (stored_in words) hs) cell)) ≡ used_words words h
words_found room words hs cell h laid found =
    let stands = stands_at room 0 0 hs (length words) cell (0 + cell) h laid found refl in
    ap words_if (object_found words hs cell h found) ∙ words_stored (drop h.base words) h h.kind stands.0.nobody

-- a cell uses as many words as its header says
pub length_found : {K : Type 0} (room : ℕ → ℕ) (words : List Value) (hs : List (Header K)) (cell : ℕ) (h : Header K)
    → AreLaidOut room 0 0 hs (length words) → slice_get hs cell ≡ Some h
    → length (words_if (object_if (slice_get (map (stored_in words) hs) cell))) ≡ h.length
length_found room words hs cell h laid found =
    let at = stands_at room 0 0 hs (length words) cell (0 + cell) h laid found refl in
    let fits = at.0.fits in
    let room_is = at.0.room_is in
    let within = at.1 in
    ap length (words_found room words hs cell h laid found)
    ∙ length-take-le h.length (drop h.base words) (omega (arith, fits, room_is, within, length-drop h.base words))

-- ---- one word of a cell

get-take : {A : Type 0} (xs : List A) (count n : ℕ) → n < count → slice_get (take count xs) n ≡ slice_get xs n
get-take xs zero n within = absurd (omega (arith, within))
get-take [] (suc count) n within = refl
get-take (x ∷ xs) (suc count) zero within = refl
get-take (x ∷ xs) (suc count) (suc n) within = get-take xs count n (omega (arith, within))

get-drop : {A : Type 0} (xs : List A) (base n : ℕ) → slice_get (drop base xs) n ≡ slice_get xs (base + n)
get-drop xs zero n = ap (slice_get xs) (omega arith)
get-drop [] (suc base) n = refl
get-drop (x ∷ xs) (suc base) n = let e : suc (base + n) ≡ suc base + n = omega arith in get-drop xs base n
    ∙ ap (slice_get (x ∷ xs)) e

-- a word that the object of a cell uses is one of the array's
pub word_found : {K : Type 0} (room : ℕ → ℕ) (words : List Value) (hs : List (Header K)) (cell index : ℕ) (h : Header K)
    → AreLaidOut room 0 0 hs (length words) → slice_get hs cell ≡ Some h → index < h.length
    → slice_get (words_if (object_if (slice_get (map (stored_in words) hs) cell))) index
    ≡ slice_get words (h.base + index)
word_found room words hs cell index h laid found within =
    ap (λ ws. slice_get ws index) (words_found room words hs cell h laid found)
    ∙ get-take (drop h.base words) h.length index within ∙ get-drop words h.base index

-- there is none past those
pub no_word : {K : Type 0} (room : ℕ → ℕ) (words : List Value) (hs : List (Header K)) (cell index : ℕ) (h : Header K)
    → AreLaidOut room 0 0 hs (length words) → slice_get hs cell ≡ Some h → h.length ≤ index
    → slice_get (words_if (object_if (slice_get (map (stored_in words) hs) cell))) index ≡ None
no_word room words hs cell index h laid found past =
    let long = length_found room words hs cell h laid found in
    slice_get_past _ index (omega (arith, long, past))

-- nor where there is no such cell
pub no_words : {K : Type 0} (words : List Value) (hs : List (Header K)) (cell index : ℕ) → slice_get hs cell ≡ None
    → slice_get (words_if (object_if (slice_get (map (stored_in words) hs) cell))) index ≡ None
no_words words hs cell index missing = ap (λ o. slice_get (words_if o) index) (object_missing words hs cell missing)

-- ---- what the code looked up

pub looked_up : {A : Type 0} (xs ys : List A) (n : ℕ) (r o : Option A) → ys ≡ xs → r ≡ slice_get ys n → r ≡ o
    → slice_get xs n ≡ o
looked_up xs ys n r o same looked is = ap (λ zs. slice_get zs n) (sym same) ∙ sym looked ∙ is

-- the same for another array of the same size
pub laid_out-set_for : {K : Type 0} (room : ℕ → ℕ) (hs : List (Header K)) (words new : List Value) (cell : ℕ)
    (h h' : Header K) → AreLaidOut room 0 0 hs (length words) → length new ≡ length words → slice_get hs cell ≡ Some h
    → h'.base ≡ h.base → h'.room ≡ h.room → h'.length ≤ h.room → (h'.kind ≡ None → h'.length ≡ 0)
    → AreLaidOut room 0 0 (set hs cell h') (length new)
laid_out-set_for room hs words new cell h h' laid same found base_is room_is fits nobody =
    rw same (laid_out-set room 0 0 hs (length words) cell h h' laid found base_is room_is fits nobody)

-- with a new object in it
pub laid_out-occupied : {K : Type 0} (room : ℕ → ℕ) (hs : List
    (Header K)) (words new : List Value) (cell count : ℕ) (h h' : Header K) (kind : K)
    → AreLaidOut room 0 0 hs (length words) → length new ≡ length words → slice_get hs cell ≡ Some h → count ≤ h.room
    → h' ≡ record {
      base = h.base;
      room = h.room;
      length = count;
      kind = Some kind;
      monitor = free_monitor;
      thread = None;
    }
    → AreLaidOut room 0 0 (set hs cell h') (length new)
laid_out-occupied room hs words new cell count h h' kind laid same found fits is =
    rw is (laid_out-set_for room hs words new cell h _ laid same found refl refl fits (λ none. cc none))

-- ---- cells as they are laid out

room_up_to : (is_small is_medium : Bool) → (if is_small then 4 else if is_medium then 32 else 256) ≤ 256
room_up_to true is_medium = omega arith
room_up_to false true = omega arith
room_up_to false false = omega arith

-- no cell has more words than a large one
pub words_of_cell_up_to : (shape : HeapShape) (cell : ℕ) → words_of_cell shape cell ≤ 256
words_of_cell_up_to shape cell = room_up_to (nat_lt cell shape.small) (nat_lt cell (shape.small + shape.medium))

-- nobody in one cell more
pub nobody-push : {K : Type 0} (words : List Value) (hs : List (Header K)) (n : ℕ) (h : Header K)
    → map (stored_in words) hs ≡ replicate n None → h.kind ≡ None → map (stored_in words) (hs ++ h ∷ [])
    ≡ replicate (n + 1) None
nobody-push words hs n h nobody kind_is =
    map_push (stored_in words) hs h ∙ ap (λ os. os ++ stored_in words h ∷ []) nobody
    ∙ ap (λ o. replicate n None ++ o ∷ []) (ap (stored_as (used_words words h) h) kind_is) ∙ replicate_more n None

pub laid_out-more : {K : Type 0} (room : ℕ → ℕ) (hs : List (Header K)) (end n wide : ℕ) (h : Header K)
    → AreLaidOut room 0 0 hs end → length hs ≡ n → wide ≡ room n → h.base ≡ end → h.room ≡ wide → h.length ≡ 0
    → AreLaidOut room 0 0 (hs ++ h ∷ []) (end + wide)
laid_out-more room hs end n wide h laid count wide_is base_is room_is unused =
    rw wide_is
    (laid_out-push room 0 0 hs end n h laid (omega (arith, count))
    (record { begins = base_is; room_is = room_is ∙ wide_is; fits = omega (arith, unused); nobody = λ _. unused }))

pub one_longer : {A : Type 0} (xs longer : List A) (x : A) (n : ℕ) → longer ≡ xs ++ x ∷ [] → length xs ≡ n
    → length longer ≡ n + 1
one_longer xs longer x n is count = ap length is ∙ length_push xs x ∙ ap (λ m. m + 1) count
