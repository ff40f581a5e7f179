-- Entries that are equal are one.
use Rattle.std.proofs.Common.{◌≡◌, ◌∙◌, ℕ, true, ◌&&◌, eqb, ap}
use Rattle.std.proofs.lemmas.Bool.{eqb-true, and_parts, false≢true}
use Rattle.std.proofs.lemmas.Bool.Decides.{Decides-int_eq}
use Rattle.std.proofs.lemmas.Slice.Eq.{bytes_eq-Decides}
use Rattle.model.specs.ClassFiles.Adding.{is_same}
use Rattle.model.specs.declared.class_files.Entry.{Entry}
use Rattle.model.specs.declared.class_files.Entry.TheVariants.{Utf8, Integer, Long, Class, Fieldref, Methodref}
use Rattle.model.specs.declared.class_files.Entry.TheVariants.{InterfaceMethodref, NameAndType}

pair_is : (make : ℕ → ℕ → Entry) (a b m n : ℕ) → (eqb a m && eqb b n) ≡ true → make a b ≡ make m n
pair_is make a b m n e =
    let same = and_parts (eqb a m) (eqb b n) e in
    ap (λ k. make k b) (eqb-true a m same.0) ∙ ap (make m) (eqb-true b n same.1)

pub same_is : (a b : Entry) → is_same a b ≡ true → a ≡ b
same_is (Utf8 a) (Utf8 b) e = ap Utf8 ((bytes_eq-Decides a b).0 e)
same_is (Integer a) (Integer b) e = ap Integer ((Decides-int_eq a b).0 e)
same_is (Long a) (Long b) e = ap Long ((Decides-int_eq a b).0 e)
same_is (Class a) (Class b) e = ap Class (eqb-true a b e)
same_is (Fieldref a b) (Fieldref m n) e = pair_is Fieldref a b m n e
same_is (Methodref a b) (Methodref m n) e = pair_is Methodref a b m n e
same_is (InterfaceMethodref a b) (InterfaceMethodref m n) e = pair_is InterfaceMethodref a b m n e
same_is (NameAndType a b) (NameAndType m n) e = pair_is NameAndType a b m n e
same_is a b e = absurd (false≢true e)
