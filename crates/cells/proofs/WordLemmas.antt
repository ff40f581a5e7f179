use Rattle.std.proofs.Common.{◌≡◌, ℕ, suc, ◌+◌, ◌-◌, ◌≤◌, ◌<◌, List, ◌++◌, length, take, drop, set, sym, ◌∙◌, ap, arith}
use Rattle.std.proofs.Common.{length-append, length-drop, append_assoc}
use Rattle.std.proofs.lemmas.List.{take-take, take-set, take_at, drop-drop, drop-take, drop-set-lt, drop-set-add}
use Rattle.std.proofs.lemmas.List.{drop_at, length-set, length-take-le}
use Rattle.std.proofs.Math.Seq.{take-set-lt}
use Rattle.model.specs.declared.values.Value.{Value}

-- Lists of words of which some were written.

-- the words from one to another may differ, and no others
pub record SameOutside (from to : ℕ) (old new : List Value) : Type 0 where
  pub long : length new ≡ length old
  pub below : take from new ≡ take from old
  pub above : drop to new ≡ drop to old

-- some words that lie below
pub stays_below : (base count from to : ℕ) (old new : List Value) → SameOutside from to old new → base + count ≤ from
    → take count (drop base new) ≡ take count (drop base old)
stays_below base count from to old new same within =
    let cut = sym (take-take (base + count) from new within) ∙ ap (take (base + count)) same.below
    ∙ take-take (base + count) from old within in
    sym (drop-take base count new) ∙ ap (drop base) cut ∙ drop-take base count old

-- some words that lie above
pub stays_above : (base count from to : ℕ) (old new : List Value) → SameOutside from to old new → to ≤ base
    → take count (drop base new) ≡ take count (drop base old)
stays_above base count from to old new same within =
    let sum : to + (base - to) ≡ base = omega arith in
    ap (take count)
    (ap (λ n. drop n new) (sym sum) ∙ sym (drop-drop (base - to) to new) ∙ ap (drop (base - to)) same.above
    ∙ drop-drop (base - to) to old ∙ ap (λ n. drop n old) sum)

-- ---- one word is written

pub set_same : (words : List Value) (place : ℕ) (v : Value) → SameOutside place (suc place) words (set words place v)
set_same words place v = record {
  long = length-set words place v;
  below = take-set words place v;
  above = drop-set-lt (suc place) words place v (omega arith);
}

pub set_used : (words : List Value) (base count index : ℕ) (v : Value) → index < count
    → take count (drop base (set words (base + index) v)) ≡ set (take count (drop base words)) index v
set_used words base count index v within =
    ap (take count) (drop-set-add base words index v) ∙ take-set-lt count (drop base words) index v within

-- ---- some words are written

abbrev pub overwritten : List Value → ℕ → ℕ → List Value → List Value
overwritten words base count vs = take base words ++ vs ++ drop (base + count) words

length-overwritten : (words : List Value) (base count : ℕ) (vs : List Value) → length vs ≡ count
    → base + count ≤ length words → length (take base words ++ vs) ≡ base + count
length-overwritten words base count vs long within =
    omega (arith, long, length-append (take base words) vs, length-take-le base words (omega arith))

pub overwrite_same : (words : List Value) (base count : ℕ) (vs : List Value) → length vs ≡ count
    → base + count ≤ length words → SameOutside base (base + count) words (overwritten words base count vs)
overwrite_same words base count vs long within = record {
  long =
      omega (
        arith,
        length-append (take base words ++ vs) (drop (base + count) words),
        length-overwritten words base count vs long within,
        length-drop (base + count) words,
      );
  below =
      ap (take base) (append_assoc (take base words) vs (drop (base + count) words))
      ∙ take_at (take base words) (vs ++ drop (base + count) words) base (length-take-le base words (omega arith));
  above = drop_at (take base words ++ vs) (drop (base + count) words) (base + count)
      (length-overwritten words base count vs long within);
}

pub overwrite_used : (words : List Value) (base count : ℕ) (vs : List Value) → length vs ≡ count
    → base + count ≤ length words → take count (drop base (overwritten words base count vs)) ≡ vs
overwrite_used words base count vs long within =
    ap (λ ws. take count (drop base ws)) (append_assoc (take base words) vs (drop (base + count) words))
    ∙ ap (take count) (drop_at (take base words) (vs ++ drop (base + count) words) base
    (length-take-le base words (omega arith)))
    ∙ take_at vs (drop (base + count) words) count long

-- the same of words that are reported twice
pub overwrite_reported : (new words reported : List Value) (base count : ℕ) (vs : List Value)
    → new ≡ overwritten reported base count vs → reported ≡ words → new ≡ overwritten words base count vs
overwrite_reported new words reported base count vs is same = is ∙ ap (λ ws. overwritten ws base count vs) same
