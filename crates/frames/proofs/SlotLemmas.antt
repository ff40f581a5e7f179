-- the entries of slots
use Rattle.std.proofs.Common.{◌≡◌, ℕ, zero, suc, ◌+◌, ◌-◌, ◌<◌, List, [], ◌∷◌, ◌++◌, length, map, get_or, take, drop}
use Rattle.std.proofs.Common.{replicate, refl, ap, sym, ◌∙◌, arith}
use Rattle.std.proofs.lemmas.List.{length-map, get_or-map, map-set, map-append, take-map, drop-map}
use Rattle.model.specs.declared.values.Entry.{Entry}
use Rattle.model.specs.declared.values.Entry.TheVariants.{Unset as UnsetEntry}
use Rattle.model.specs.declared.values.Value.{Value}
use Rattle.values.specs.declared.slots.Slot.{Slot}
use Rattle.values.specs.declared.slots.Slot.TheVariants.{Unset}
use Rattle.values.specs.Slots.{entry_of, value_of, value_in}

pub entry_of-get_or : (slots : List Slot) (place : ℕ) (d : Slot) → place < length slots
    → entry_of (get_or slots place d) ≡ get_or (map entry_of slots) place UnsetEntry
entry_of-get_or slots place d h = sym (get_or-map entry_of slots place d UnsetEntry h)

pub ruleset slots = (entry_of-get_or, map-set)

-- slots that are all unset
pub unset-slots : (n : ℕ) → map entry_of (replicate n Unset) ≡ replicate n UnsetEntry
unset-slots zero = refl
unset-slots (suc n) = ap (λ (es : List Entry). UnsetEntry ∷ es) (unset-slots n)

-- unset slots after others, up to so many
pub reached : (slots after : List Slot) (count : ℕ) → after ≡ slots ++ replicate (count - length slots) Unset
    → map entry_of after ≡ map entry_of slots ++ replicate (count - length (map entry_of slots)) UnsetEntry
reached slots after count is =
    ap (map entry_of) is ∙ map-append entry_of slots (replicate (count - length slots) Unset)
    ∙ ap (λ (es : List Entry). map entry_of slots ++ es) (unset-slots (count - length slots)
    ∙ ap (λ (n : ℕ). replicate (count - n) UnsetEntry) (sym (length-map slots entry_of)))

-- some slots in the middle become others
pub between : (slots middle after : List Slot) (base count : ℕ) → after ≡ take base slots ++ middle
    ++ drop (base + count) slots → map entry_of after ≡ take base (map entry_of slots) ++ map entry_of middle
    ++ drop (base + count) (map entry_of slots)
between slots middle after base count is =
    let whole : map entry_of after ≡ map entry_of (take base slots ++ middle)
    ++ map entry_of (drop (base + count) slots) = ap (map entry_of) is
    ∙ map-append entry_of (take base slots ++ middle) (drop (base + count) slots) in
    let front : map entry_of (take base slots ++ middle) ≡ map entry_of (take base slots)
    ++ map entry_of middle = map-append entry_of (take base slots) middle in
    whole ∙ rw (front, take-map, drop-map)

-- the entries of some slots in the middle
pub entries-between : (slots seen : List Slot) (units : List Entry) (base count : ℕ) → seen ≡ slots → map entry_of slots
    ≡ units → map entry_of (take (base + count - base) (drop base seen)) ≡ take count (drop base units)
entries-between slots seen units base count same view =
    let many : base + count - base ≡ count = omega arith in
    rw (same, ← view, many, drop-map, take-map)

-- the values in them
pub values-of : (slots : List Slot) → map value_of slots ≡ map value_in (map entry_of slots)
values-of [] = refl
values-of (s ∷ slots) = ap (λ (vs : List Value). value_of s ∷ vs) (values-of slots)

pub values-between : (slots seen : List Slot) (units : List Entry) (base count : ℕ) → seen ≡ slots → map entry_of slots
    ≡ units → map value_of (take (base + count - base) (drop base seen)) ≡ map value_in (take count (drop base units))
values-between slots seen units base count same view = values-of (take (base + count - base) (drop base seen))
    ∙ ap (map value_in) (entries-between slots seen units base count same view)
