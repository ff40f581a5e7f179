-- Worked rows of selection tables: A has an f, B over A a private one, and C over B none. Each of the three has the
-- table with A's f and the initializer of Object.
use Rattle.std.proofs.Common.{◌≡◌, ℕ, zero, suc, List, [], ◌∷◌, Bool, true, false, ◌&&◌, Option, Some, None, codes}
use Rattle.std.proofs.Common.{cond, Less, Greater, refl, sym, ap, ◌∙◌, arith}
use Rattle.std.proofs.lemmas.List.Elements.{All-cons, All-head, All-nil}
use Rattle.std.proofs.lemmas.Slice.Eq.{bytes_eq-Decides}
use Rattle.std.specs.List.{Contains}
use Rattle.std.specs.Option.{option_map}
use Rattle.std.specs.List.Sorted.{IsStrictlySortedBy}
use Rattle.std.specs.Str.{bytes_eq}
use Rattle.model.specs.declared.listings.Method.{Method}
use Rattle.model.specs.Classes.Builtin.{builtin_classes, initializer}
use Rattle.model.specs.Classes.Named.{or_else}
use Rattle.model.specs.Classes.Search.{Declared, upwards}
use Rattle.model.specs.Classes.Selection.{selected}
use Rattle.model.specs.Classes.SelectionTable.{SelectionRow, IsSelected, IsSelectionTable}
use Rattle.model.proofs.ResolutionRows.{object, f, private_between}

abbrev row : List ℕ → List ℕ → Declared Method → SelectionRow
row name descriptor method = record { name = name; descriptor = descriptor; method = method }

abbrev of_object : Declared Method
of_object = record { class = object; member = initializer }

abbrev of_a : Declared Method
of_a = record { class = codes "A"; member = f 1 }

-- < is before f
abbrev rows : List SelectionRow
rows = row (codes "<init>") (codes "()V") of_object ∷ row (codes "f") (codes "()I") of_a ∷ []

-- what is selected, by whether the name is f, the descriptor ()I, the name <init>, the descriptor ()V
abbrev by_tests : Bool → Bool → Bool → Bool → Option (Declared Method)
by_tests true true i v = Some of_a
by_tests true false true true = Some of_object
by_tests true false true false = None
by_tests true false false v = None
by_tests false d true true = Some of_object
by_tests false d true false = None
by_tests false d false v = None

row-is : (name descriptor : List ℕ) (m : Declared Method) (r : SelectionRow) → name ≡ r.name → descriptor ≡ r.descriptor
    → Some m ≡ Some r.method
    → row name descriptor m ≡ r
row-is name descriptor m r n d e =
    let same : m ≡ r.method = cc in
    ap (λ (x : List ℕ). row x descriptor m) n ∙ ap (λ (x : List ℕ). row r.name x m) d
    ∙ ap (λ (x : Declared Method). row r.name r.descriptor x) same

found_by : (n d i v : Bool) (r : SelectionRow) → by_tests n d i v ≡ Some r.method → (n ≡ true → codes "f" ≡ r.name)
    → (d ≡ true → codes "()I" ≡ r.descriptor)
    → (i ≡ true → codes "<init>" ≡ r.name) → (v ≡ true → codes "()V" ≡ r.descriptor) → Contains rows r
found_by true true i v r e is_f is_int is_init is_void = (
  1,
  omega arith,
  row-is (codes "f") (codes "()I") of_a r (is_f refl) (is_int refl) e,
)
found_by true false true true r e is_f is_int is_init is_void =
    (0, omega arith, row-is (codes "<init>") (codes "()V") of_object r (is_init refl) (is_void refl) e)
found_by true false true false r e is_f is_int is_init is_void = absurd (cc)
found_by true false false v r e is_f is_int is_init is_void = absurd (cc)
found_by false d true true r e is_f is_int is_init is_void =
    (0, omega arith, row-is (codes "<init>") (codes "()V") of_object r (is_init refl) (is_void refl) e)
found_by false d true false r e is_f is_int is_init is_void = absurd (cc)
found_by false d false v r e is_f is_int is_init is_void = absurd (cc)

-- ---- the definition, by these tests

abbrev in_class : List ℕ → Bool → Method → Option (Declared Method)
in_class class test m = option_map (λ m. record { class = class; member = m }) (cond test (Some m) None)

abbrev from_a : Bool → Bool → Bool → Bool → Option (Declared Method)
from_a n d i v = or_else (in_class (codes "A") (n && d && true) (f 1)) (or_else (in_class object (i && v && true)
    initializer) None)

abbrev from_b : Bool → Bool → Bool → Bool → Option (Declared Method)
from_b n d i v = or_else (in_class (codes "B") (n && d && false) (f 2)) (from_a n d i v)

from_a-is : (n d i v : Bool) → from_a n d i v ≡ by_tests n d i v
from_a-is true true i v = refl
from_a-is true false true true = refl
from_a-is true false true false = refl
from_a-is true false false v = refl
from_a-is false d true true = refl
from_a-is false d true false = refl
from_a-is false d false v = refl

from_b-is : (n d i v : Bool) → from_b n d i v ≡ from_a n d i v
from_b-is true true i v = refl
from_b-is true false i v = refl
from_b-is false d i v = refl

abbrev Tests : List ℕ → Type 0
Tests class = (name descriptor : List ℕ) → selected private_between class name descriptor
    ≡ by_tests (bytes_eq (codes "f") name) (bytes_eq (codes "()I") descriptor) (bytes_eq (codes "<init>") name)
    (bytes_eq (codes "()V") descriptor)

tests_of_a : Tests (codes "A")
unfolding builtin_classes upwards
tests_of_a name descriptor = from_a-is (bytes_eq (codes "f") name) (bytes_eq (codes "()I") descriptor)
    (bytes_eq (codes "<init>") name) (bytes_eq (codes "()V") descriptor)

tests_of_b : Tests (codes "B")
unfolding builtin_classes upwards
tests_of_b name descriptor =
    from_b-is (bytes_eq (codes "f") name) (bytes_eq (codes "()I") descriptor) (bytes_eq (codes "<init>") name)
    (bytes_eq (codes "()V") descriptor) ∙
    from_a-is (bytes_eq (codes "f") name) (bytes_eq (codes "()I") descriptor) (bytes_eq (codes "<init>") name)
    (bytes_eq (codes "()V") descriptor)

tests_of_c : Tests (codes "C")
unfolding builtin_classes upwards
tests_of_c name descriptor =
    from_b-is (bytes_eq (codes "f") name) (bytes_eq (codes "()I") descriptor) (bytes_eq (codes "<init>") name)
    (bytes_eq (codes "()V") descriptor) ∙
    from_a-is (bytes_eq (codes "f") name) (bytes_eq (codes "()I") descriptor) (bytes_eq (codes "<init>") name)
    (bytes_eq (codes "()V") descriptor)

-- ---- the tables

table_by : (class : List ℕ) → Tests class → IsSelectionTable private_between class rows
unfolding IsStrictlySortedBy
table_by class tests = record {
  rising = ((refl, tt), (tt, tt));
  given =
      All-cons (IsSelected private_between class) (row (codes "<init>") (codes "()V") of_object)
      (row (codes "f") (codes "()I") of_a ∷ []) (tests (codes "<init>") (codes "()V"))
      (All-cons (IsSelected private_between class) (row (codes "f") (codes "()I") of_a) []
      (tests (codes "f") (codes "()I")) (All-nil (IsSelected private_between class)));
  whole = λ r e.
      found_by (bytes_eq (codes "f") r.name) (bytes_eq (codes "()I") r.descriptor) (bytes_eq (codes "<init>") r.name)
      (bytes_eq (codes "()V") r.descriptor) r
      (sym (tests r.name r.descriptor) ∙ e)
      (bytes_eq-Decides (codes "f") r.name).0 (bytes_eq-Decides (codes "()I") r.descriptor).0
      (bytes_eq-Decides (codes "<init>") r.name).0 (bytes_eq-Decides (codes "()V") r.descriptor).0;
}

pub table_of_a : IsSelectionTable private_between (codes "A") rows
table_of_a = table_by (codes "A") tests_of_a

-- its own f is private
pub table_of_b : IsSelectionTable private_between (codes "B") rows
table_of_b = table_by (codes "B") tests_of_b

pub table_of_c : IsSelectionTable private_between (codes "C") rows
table_of_c = table_by (codes "C") tests_of_c

-- ---- what is no table: the rows in the other order, one row of two, and one with the private method

pub not_rising : (rest : List SelectionRow)
    → IsSelectionTable private_between (codes "C") (row (codes "f") (codes "()I") of_a
    ∷ row (codes "<init>") (codes "()V") of_object ∷ rest) → ⊥
unfolding IsStrictlySortedBy
not_rising rest t = let e : Greater ≡ Less = t.rising.0.0 in cc

pub one_row : IsSelectionTable private_between (codes "C") (row (codes "f") (codes "()I") of_a ∷ []) → ⊥
one_row t = other (t.whole (row (codes "<init>") (codes "()V") of_object) (tests_of_c (codes "<init>") (codes "()V")))
  where
    other : Contains (row (codes "f") (codes "()I") of_a ∷ []) (row (codes "<init>") (codes "()V") of_object) → ⊥
    other (zero, below, e) = let names : codes "f" ≡ codes "<init>" = ap (λ (r : SelectionRow). r.name) e in cc
    other (suc k, below, e) = absurd (omega arith)

pub not_private : (rest : List SelectionRow)
    → IsSelectionTable private_between (codes "C")
    (row (codes "f") (codes "()I") (record { class = codes "B"; member = f 2 }) ∷ rest) → ⊥
not_private rest t =
    let private : Declared Method = record { class = codes "B"; member = f 2 } in
    let e : Some of_a ≡ Some private =
    sym (tests_of_c (codes "f") (codes "()I")) ∙ All-head (IsSelected private_between (codes "C"))
    (row (codes "f") (codes "()I") private) rest t.given in
    differ (ap is_of_a e)
  where
    is_of_a : Option (Declared Method) → Bool
    is_of_a None = false
    is_of_a (Some d) = bytes_eq d.class (codes "A")

    differ : true ≡ false → ⊥
    differ h = cc
