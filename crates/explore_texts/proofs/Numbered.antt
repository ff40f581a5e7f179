-- Texts that are written one after another.
use Rattle.std.proofs.Common.{◌≡◌, ℕ, suc, List, ◌++◌, ◌∙◌, ◌<◌, ◌+◌, Option, Result, Ok, Err, add-one, drop, get_or, length, refl, slice_index_or, sym, ap}
use Rattle.std.proofs.lemmas.List.{append_assoc}
use Rattle.std.proofs.Math.Seq.{drop-cons}
use Rattle.std.specs.Io.KnownBytes.{Appends}
use Rattle.debug_texts.specs.Streams.{AppendsPart, Puts}
use Rattle.debug_texts.proofs.Pieces.{appends_more, part_after, part_within}
use Rattle.explore_texts.specs.Reports.{numbered_texts}

-- a text after one that was written
pub puts_after : {A E : Type 0} (r : Result A E) (a b c : Option (List ℕ)) (x y : List ℕ) → Appends a b x → Puts r b c y
    → Puts r a c (x ++ y)
puts_after (Ok v) a b c x y h k = appends_more a b c x y h k
puts_after (Err e) a b c x y h k = part_after a b c x y h k

-- ---- texts of items, by number

module _ {A : Type 0} (text : ℕ → A → List ℕ) where
  pub first_left : (n : ℕ) (xs : List A) (i : ℕ) (d : A) → i < length xs
      → numbered_texts text n (drop i xs) ≡ text n (slice_index_or xs i d) ++ numbered_texts text (n + 1) (drop (i + 1) xs)
  first_left n xs i d h =
      let next : suc i ≡ i + 1 = rw add-one refl in
      ap (λ (ys : List A). numbered_texts text n ys) (drop-cons xs i d h)
      ∙ ap (λ (k : ℕ). text n (slice_index_or xs i d) ++ numbered_texts text (n + 1) (drop k xs)) next

  pub item_left : (n : ℕ) (xs : List A) (i : ℕ) (x : A) → i < length xs → x ≡ get_or xs i x
      → numbered_texts text n (drop i xs) ≡ text n x ++ numbered_texts text (n + 1) (drop (i + 1) xs)
  item_left n xs i x h is =
      first_left n xs i x h ∙ ap (λ (y : A). text n y ++ numbered_texts text (n + 1) (drop (i + 1) xs)) (sym is)

  -- what was written of them, and those that are left, of which the first has number n
  abbrev pub Written : Option (List ℕ) → Option (List ℕ) → ℕ → List A → ℕ → ℕ → Type 0
  Written a b first xs n i = (done : List ℕ) × Appends a b done × (done ++ numbered_texts text n (drop i xs)
      ≡ numbered_texts text first xs)

  pub one_more : (a b c : Option (List ℕ)) (first : ℕ) (xs : List A) (n i : ℕ) (x : A) → i < length xs → x ≡ get_or xs i x
      → Written a b first xs n i → Appends b c (text n x) → Written a c first xs (n + 1) (i + 1)
  one_more a b c first xs n i x h is (done, written, all) k = (
    done ++ text n x,
    appends_more a b c done (text n x) written k,
    append_assoc done (text n x) (numbered_texts text (n + 1) (drop (i + 1) xs))
        ∙ ap (λ (bs : List ℕ). done ++ bs) (sym (item_left n xs i x h is)) ∙ all,
  )

  pub one_part : (a b c : Option (List ℕ)) (first : ℕ) (xs : List A) (n i : ℕ) (x : A) → i < length xs → x ≡ get_or xs i x
      → Written a b first xs n i → AppendsPart b c (text n x) → AppendsPart a c (numbered_texts text first xs)
  one_part a b c first xs n i x h is (done, written, all) k =
      part_within a b c done (text n x) (numbered_texts text (n + 1) (drop (i + 1) xs))
      (numbered_texts text first xs) written k (ap (λ (bs : List ℕ). done ++ bs) (sym (item_left n xs i x h is)) ∙ all)
