-- the values of words
use Rattle.std.proofs.Common.{◌≡◌, ℕ, zero, suc, ◌+◌, ◌-◌, ◌<◌, ◌≤◌, List, [], ◌∷◌, ◌++◌, length, map, take, drop}
use Rattle.std.proofs.Common.{replicate, slice_get, set, get_or, refl, ap, sym, ◌∙◌, arith, add-one}
use Rattle.std.specs.Option.{option_map}
use Rattle.std.proofs.lemmas.List.{map-set, map-append, take-map, drop-map, length-map, set_split, append_assoc}
use Rattle.std.proofs.lemmas.List.{take_more, take_at, drop_at, drop-drop, length-append, length-take-le, length-set}
use Rattle.std.proofs.lemmas.List.{append-nil, take-append-drop}
use Rattle.std.proofs.Math.Seq.{take-length}
use Rattle.std.proofs.lemmas.Option.{slice_get-map}
use Rattle.model.specs.declared.values.Value.{Value}
use Rattle.values.specs.declared.slots.Slot.{Slot}
use Rattle.values.specs.Slots.{value_of}

pub ruleset words = (map-set, length-map)

-- words that are all the same
pub same-words : (n : ℕ) (slot : Slot) → map value_of (replicate n slot) ≡ replicate n (value_of slot)
same-words zero slot = refl
same-words (suc n) slot = ap (λ (vs : List Value). value_of slot ∷ vs) (same-words n slot)

-- a word that was looked for
pub word_got : (slots seen : List Slot) (words : List Value) (place : ℕ) → seen ≡ slots → map value_of slots ≡ words
    → option_map value_of (slice_get seen place) ≡ slice_get words place
word_got slots seen words place same view = rw (same, ← view) (sym (slice_get-map value_of slots place))

-- some words in the middle are made the same
pub words-filled : (slots after : List Slot) (base count : ℕ) (slot : Slot) → after ≡ take base slots
    ++ replicate count slot ++ drop (base + count) slots → map value_of after ≡ take base (map value_of slots)
    ++ replicate count (value_of slot) ++ drop (base + count) (map value_of slots)
words-filled slots after base count slot is =
    let whole : map value_of after ≡ map value_of (take base slots ++ replicate count slot)
    ++ map value_of (drop (base + count) slots) = ap (map value_of) is
    ∙ map-append value_of (take base slots ++ replicate count slot) (drop (base + count) slots) in
    let front : map value_of (take base slots ++ replicate count slot) ≡ map value_of (take base slots)
    ++ map value_of (replicate count slot) = map-append value_of (take base slots) (replicate count slot) in
    whole ∙ rw (front, same-words count slot, take-map, drop-map)

-- the values of some words in the middle
pub words-between : (slots seen : List Slot) (words : List Value) (base count : ℕ) → seen ≡ slots → map value_of slots
    ≡ words → map value_of (take (base + count - base) (drop base seen)) ≡ take count (drop base words)
words-between slots seen words base count same view =
    let many : base + count - base ≡ count = omega arith in
    rw (same, ← view, many, drop-map, take-map)

-- so many of the values have been written from a word on
pub record IsWritten (old vs : List Value) (base n : ℕ) (now : List Value) : Type 0 where
  pub items : now ≡ take base old ++ take n vs ++ drop (base + n) old
  pub long : length now ≡ length old

pub none_written : (old vs : List Value) (base : ℕ) → IsWritten old vs base 0 old
none_written old vs base = record {
  items = sym (ap (λ (ws : List Value). ws ++ drop (base + 0) old) (append-nil (take base old))
      ∙ ap (λ n. take base old ++ drop n old) (omega arith) ∙ take-append-drop base old);
  long = refl;
}

pub next_written : (old vs now : List Value) (base n : ℕ) (v d : Value) → IsWritten old vs base n now
    → base + length vs ≤ length old → n < length vs → v ≡ get_or vs n d
    → IsWritten old vs base (n + 1) (set now (base + n) v)
next_written old vs now base n v d written fits within is =
    let first : length (take base old) ≡ base = length-take-le base old (omega arith) in
    let some : length (take n vs) ≡ n = length-take-le n vs (omega arith) in
    let front : length (take base old ++ take n vs)
    ≡ base + n = omega (arith, length-append (take base old) (take n vs), first, some) in
    let long = written.long in
    let one : set now (base + n) v ≡ take (base + n) now ++ v ∷ [] ++ drop (base + n + 1) now = rw add-one
    (set_split now (base + n) v (omega arith)
    ∙ sym (append_assoc (take (base + n) now) (v ∷ []) (drop (suc (base + n)) now))) in
    let head : take (base + n) now ≡ take base old ++ take n vs = ap (take (base + n)) written.items
    ∙ take_at (take base old ++ take n vs) (drop (base + n) old) (base + n) front in
    let tail : drop (base + n + 1) now ≡ drop (base + (n + 1)) old =
    ap (drop (base + n + 1)) written.items
    ∙ (sym (drop-drop 1 (base + n) (take base old ++ take n vs ++ drop (base + n) old))
    ∙ (ap (drop 1) (drop_at (take base old ++ take n vs) (drop (base + n) old) (base + n) front)
    ∙ drop-drop 1 (base + n) old))
    ∙ ap (λ m. drop m old) (omega arith) in
    let more : take (n + 1) vs ≡ take n vs ++ v ∷ [] = take_more vs n d within
    ∙ ap (λ (w : Value). take n vs ++ w ∷ []) (sym is) in
    record {
      items = one ∙ rw (head, tail, more, append_assoc (take base old) (take n vs) (v ∷ [])) refl;
      long = length-set now (base + n) v ∙ long;
    }

pub all_written : (old vs now : List Value) (base n : ℕ) → IsWritten old vs base n now → n ≡ length vs
    → now ≡ take base old ++ vs ++ drop (base + length vs) old
all_written old vs now base n written all = written.items ∙ ap (λ m. take base old ++ take m vs ++ drop (base + m) old)
    all ∙ ap (λ (ws : List Value). take base old ++ ws ++ drop (base + length vs) old) (take-length vs)
