-- The tables of a program's classes, in a list.
use Rattle.std.proofs.Common.{◌≡◌, ℕ, zero, suc, ◌+◌, ◌<◌, ◌≤◌, List, [], ◌∷◌, ◌++◌, length, drop, get_or, map}
use Rattle.std.proofs.Common.{position, slice_get, take, true, false, ltb, Option, Some, None, unwrap_or, refl, sym, ap}
use Rattle.std.proofs.Common.{subst, ◌∙◌, arith}
use Rattle.std.proofs.Math.Seq.{drop-cons}
use Rattle.std.proofs.lemmas.List.{append_assoc}
use Rattle.std.proofs.lemmas.Bool.{ltb-false, ltb-true}
use Rattle.std.proofs.lemmas.Option.{slice_get-map, slice_get_past, slice_get_read}
use Rattle.std.proofs.lemmas.Slice.Eq.{bytes_eq-Decides}
use Rattle.std.specs.List.{find}
use Rattle.std.specs.Option.{option_map, option_and_then}
use Rattle.std.specs.Str.{bytes_eq}
use Rattle.model.specs.declared.listings.Method.{Method}
use Rattle.model.specs.ClassListings.{ClassListing}
use Rattle.model.specs.Classes.Search.{Declared}
use Rattle.model.specs.Classes.Selection.{selected}
use Rattle.resolve.specs.Numbers.{all_classes}
use Rattle.resolve.proofs.ClassAtNumber.{place-found, place-inside}
use Rattle.linking.specs.declared.selection.ClassTable.{ClassTable}
use Rattle.linking.specs.declared.selection.Selection.{Selection}
use Rattle.linking.specs.declared.selection_rows.SelectionRow.{SelectionRow as RowOfNumbers}
use Rattle.linking.specs.Selections.{declared_at}
use Rattle.linking.specs.Selectors.{is_signature, selector_of, selectors, Signature}
use Rattle.linking.specs.SelectionTables.{AreBySelector, AreTables, IsSelectedRow, IsSelection, IsTableOf, table_count}
use Rattle.linking.proofs.SelectedRowLemmas.{lent-row}
use Rattle.linking.proofs.SelectionLemmas.{both, find-passes, Known, Tells}
use Rattle.linking.proofs.SelectorLemmas.{Key, signature}

-- ---- one table after the others

pub tables-more : (program : List ClassListing) (ts : List ClassTable) (cs : List ClassListing) (t : ClassTable)
    (c : ClassListing)
    → AreTables program ts cs → IsTableOf program c.name t → AreTables program (ts ++ t ∷ []) (cs ++ c ∷ [])
tables-more program [] [] t c are is = (is, tt)
tables-more program [] (x ∷ xs) t c are is = absurd are
tables-more program (y ∷ ys) [] t c are is = absurd are
tables-more program (y ∷ ys) (x ∷ xs) t c are is = (are.0, tables-more program ys xs t c are.1 is)

take-at : (cs : List ClassListing) (n : ℕ) (c : ClassListing) → slice_get cs n ≡ Some c → take (n + 1) cs ≡ take n cs
    ++ c ∷ []
take-at cs n c at = let next : n + 1 ≡ suc n = omega arith in rw next (by cs n at)
  where
    by : (cs : List ClassListing) (n : ℕ) → slice_get cs n ≡ Some c → take (suc n) cs ≡ take n cs ++ c ∷ []
    by [] n at = cc
    by (x ∷ xs) zero at = ap (λ (o : Option ClassListing). unwrap_or o c ∷ []) at
    by (x ∷ xs) (suc n) at = ap (λ (rest : List ClassListing). x ∷ rest) (by xs n at)

pub tables-next : (program : List ClassListing) (ts : List ClassTable) (cs : List ClassListing) (n : ℕ) (t : ClassTable)
    (c : ClassListing)
    → slice_get cs n ≡ Some c → AreTables program ts (take n cs) → IsTableOf program c.name t
    → AreTables program (ts ++ t ∷ []) (take (n + 1) cs)
tables-next program ts cs n t c at are is =
    subst (AreTables program (ts ++ t ∷ [])) (sym (take-at cs n c at)) (tables-more program ts (take n cs) t c are is)

take-all : (cs : List ClassListing) (n : ℕ) → length cs ≤ n → take n cs ≡ cs
take-all [] zero h = refl
take-all [] (suc n) h = refl
take-all (c ∷ cs) zero h = absurd (omega arith)
take-all (c ∷ cs) (suc n) h = ap (λ (rest : List ClassListing). c ∷ rest) (take-all cs n (omega arith))

pub tables-all : (program : List ClassListing) (ts : List ClassTable) (cs : List ClassListing) (n : ℕ) → length cs ≤ n
    → AreTables program ts (take n cs) → AreTables program ts cs
tables-all program ts cs n done are = subst (AreTables program ts) (take-all cs n done) are

-- ---- how many tables there are

count-is : (program : List ClassListing) (ts : List ClassTable) (cs : List ClassListing) → AreTables program ts cs
    → length ts ≡ length cs
count-is program [] [] are = refl
count-is program [] (c ∷ cs) are = absurd are
count-is program (t ∷ ts) [] are = absurd are
count-is program (t ∷ ts) (c ∷ cs) are = ap suc (count-is program ts cs are.1)

-- each class has a table
pub counted : (program : List ClassListing) (selection : Selection) → IsSelection program selection
    → table_count selection ≡ length (all_classes program)
counted program selection are = count-is program selection.tables.items (all_classes program) are

-- ---- the table of a class

pub table-at : (program : List ClassListing) (ts : List ClassTable) (cs : List ClassListing) (k : ℕ) (t : ClassTable)
    (c : ClassListing)
    → AreTables program ts cs → slice_get cs k ≡ Some c → t ≡ get_or ts k t → k < length ts → IsTableOf program c.name t
table-at program [] cs k t c are at is inside = absurd (omega arith)
table-at program (y ∷ ys) [] k t c are at is inside = absurd are
table-at program (y ∷ ys) (x ∷ xs) zero t c are at is inside =
    subst (IsTableOf program c.name) (sym is)
    (subst (λ (z : ClassListing). IsTableOf program z.name y) (ap (λ (o : Option ClassListing). unwrap_or o x) at)
    are.0)
table-at program (y ∷ ys) (x ∷ xs) (suc k) t c are at is inside = table-at program ys xs k t c are.1 at is (omega arith)

-- ---- what a slice of a list gives

pub got : {A : Type 0} (slice xs : List A) (k : ℕ) (x : A) → slice ≡ xs → true ≡ ltb k (length slice)
    → x ≡ get_or slice k x → Some x ≡ slice_get xs k
got slice xs k x same inside is =
    sym (slice_get_read slice (length slice) k x refl (ltb-true k (length slice) (sym inside)) is)
    ∙ ap (λ ys. slice_get ys k) same

pub got-none : {A : Type 0} (slice xs : List A) (k : ℕ) → slice ≡ xs → false ≡ ltb k (length slice)
    → None ≡ slice_get xs k
got-none slice xs k same past =
    sym (slice_get_past slice k (ltb-false k (length slice) (sym past))) ∙ ap (λ ys. slice_get ys k) same

-- ---- one row after the others

pub rows-next : {A B : Type 0} (f : A → B) (xs : List A) (i : ℕ) (x : A) (y : B) (cur more whole : List B)
    → x ≡ get_or xs i x → i < length xs
    → cur ++ map f (drop i xs) ≡ whole → y ≡ f x → more ≡ cur ++ y ∷ [] → more ++ map f (drop (i + 1) xs) ≡ whole
rows-next {A = A} {B = B} f xs i x y cur more whole at inside before is longer =
    let next : i + 1 ≡ suc i = omega arith in
    let split : drop i xs ≡ x ∷ drop (suc i) xs = drop-cons xs i x inside ∙ ap (λ (z : A). z ∷ drop (suc i) xs) (sym at)
    in
    ap (λ (k : ℕ). more ++ map f (drop k xs)) next
    ∙ ap (λ (l : List B). l ++ map f (drop (suc i) xs)) longer
    ∙ append_assoc cur (y ∷ []) (map f (drop (suc i) xs))
    ∙ ap (λ (z : B). cur ++ z ∷ map f (drop (suc i) xs)) is
    ∙ sym (ap (λ (l : List A). cur ++ map f l) split)
    ∙ before

-- ---- rows by selector

module _ (program : List ClassListing) (class : List ℕ) where
  abbrev reported : Signature → Option (Option (Declared Method))
  reported s = option_map Some (selected program class s.0 s.1)

  by-keys : (known : Known) → Tells program class known → (keys : List Key)
      → map (option_map (declared_at program)) (map (λ (k : Key). known k.0.bytes.now k.1.bytes.now) keys)
      ≡ map reported (map signature keys)
  by-keys known tells [] = refl
  by-keys known tells (k ∷ ks) =
      ap (λ (o : Option (Option (Declared Method))). o ∷ map (option_map (declared_at program))
      (map (λ (k : Key). known k.0.bytes.now k.1.bytes.now) ks)) (tells k.0.bytes.now k.1.bytes.now)
      ∙ ap (λ (rest : List (Option (Option (Declared Method)))). reported (signature k) ∷ rest) (by-keys known tells ks)

  pub by-selector : (known : Known) (keys : List Key) (rows : List (Option RowOfNumbers)) (signatures : List Signature)
      → Tells program class known
      → rows ≡ map (λ (k : Key). known k.0.bytes.now k.1.bytes.now) keys → map signature keys ≡ signatures
      → AreBySelector program class rows signatures
  by-selector known keys rows signatures tells are is =
      ap (map (option_map (declared_at program))) are ∙ by-keys known tells keys ∙ ap (map reported) is

within : (xs : List Signature) (k : ℕ) → slice_get xs k ≡ None → k < length xs → ⊥
within [] k h inside = absurd (omega arith)
within (x ∷ xs) zero h inside = cc
within (x ∷ xs) (suc k) h inside = within xs k h (omega arith)

-- at the place of a name and descriptor stand these
at-place : (n d : List ℕ) (ss : List Signature) (k : ℕ) → position (is_signature (n, d)) ss ≡ Some k → slice_get ss k
    ≡ Some (n, d)
at-place n d ss k e = by (slice_get ss k) refl
  where
    found : slice_get ss k ≡ find (is_signature (n, d)) ss
    found = ap (option_and_then (slice_get ss)) (sym e) ∙ place-found (is_signature (n, d)) ss

    by : (o : Option Signature) → slice_get ss k ≡ o → o ≡ Some (n, d)
    by None h = absurd (within ss k h (place-inside (is_signature (n, d)) ss k (sym e)))
    by (Some s) h =
        let passes = both (bytes_eq n s.0) (bytes_eq d s.1) (find-passes (is_signature (n, d)) ss s (sym found ∙ h)) in
        ap (λ (x : List ℕ). Some (x, s.1)) (sym ((bytes_eq-Decides n s.0).0 passes.0))
        ∙ ap (λ (x : List ℕ). Some (n, x)) (sym ((bytes_eq-Decides d s.1).0 passes.1))

module _ (program : List ClassListing) (class n d : List ℕ) (rows : List (Option RowOfNumbers)) (k : ℕ)
    (are : AreBySelector program class rows (selectors program)) (at : selector_of program n d ≡ Some k) where
  entry : option_map (option_map (declared_at program)) (slice_get rows k)
      ≡ Some (option_map Some (selected program class n d))
  entry =
      sym (slice_get-map (option_map (declared_at program)) rows k)
      ∙ ap (λ (xs : List (Option (Option (Declared Method)))). slice_get xs k) are
      ∙ slice_get-map (reported program class) (selectors program) k
      ∙ ap (option_map (reported program class)) (at-place n d (selectors program) k at)

  pub row-found : (row : Option RowOfNumbers) → Some row ≡ slice_get rows k → IsSelectedRow program class n d row
  row-found row found =
      let tells : option_map (declared_at program) row ≡ option_map Some (selected program class n d) =
      ap (λ (o : Option (Option (Option (Declared Method)))). unwrap_or o None)
      (ap (option_map (option_map (declared_at program))) found ∙ entry) in
      record { reported = tells; lent = lent-row program class n d row tells }

  pub row-missing : None ≡ slice_get rows k → ⊥
  row-missing missing = differ (ap (option_map (option_map (declared_at program))) missing ∙ entry)
    where
      differ : None ≡ Some (option_map Some (selected program class n d)) → ⊥
      differ h = cc
