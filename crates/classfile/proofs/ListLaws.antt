-- What is read one after another is spelled so, and what is spelled so is read.
use Rattle.std.proofs.Common.{◌≡◌, ℕ, zero, suc, List, [], ◌∷◌, ◌++◌, length, Ok, refl, sym, ap, subst, ◌∙◌}
use Rattle.std.proofs.Common.{append_assoc, arith, w16}
use Rattle.model.specs.ClassFiles.Numbers.{u2}
use Rattle.model.specs.ClassFiles.Lists.{SpellsAll}
use Rattle.model.specs.ClassFiles.Heads.{SpellsList}
use Rattle.pool.specs.Reading.Steps.{◌>>=◌, number_at}
use Rattle.pool.proofs.Steps.{bind_ok, ok_is}
use Rattle.pool.proofs.FieldLemmas.{IsBytes, Takes, Takes-then, Takes-nothing, wide16, number_takes, number_again}
use Rattle.classfile.specs.Reading.Attributes.{Reads}
use Rattle.classfile.specs.Reading.Lists.{repeated, list_from}

-- a value was read from the front of the bytes, where it is spelled
pub record Found {A : Type 0} (Spells : List ℕ → A → Type 0) (bytes : List ℕ) (x : A × List ℕ) : Type 0 where
  pub text : List ℕ
  pub takes : Takes bytes text x.1
  pub spells : Spells text x.0

module _ {A : Type 0} (read : List ℕ → Reads A) (Spells : List ℕ → A → Type 0) where
  abbrev pub ReadTakes : Type 0
  ReadTakes = (bytes : List ℕ) (x : A × List ℕ) → IsBytes bytes → read bytes ≡ Ok x → Found Spells bytes x

  abbrev pub ReadAgain : Type 0
  ReadAgain = (text : List ℕ) (x : A) (rest : List ℕ) → Spells text x → read (text ++ rest) ≡ Ok (x, rest)

  record AllFound (n : ℕ) (bytes : List ℕ) (x : List A × List ℕ) : Type 0 where
    pub text : List ℕ
    pub takes : Takes bytes text x.1
    pub number : length x.0 ≡ n
    pub spells : SpellsAll Spells text x.0

  repeated_takes : ReadTakes → (n : ℕ) (bytes : List ℕ) (x : List A × List ℕ) → IsBytes bytes → repeated read n bytes
      ≡ Ok x → AllFound n bytes x
  unfolding repeated
  repeated_takes takes zero bytes x fits e = subst (AllFound 0 bytes) (ok_is ([], bytes) x e)
      (record { text = []; takes = Takes-nothing bytes fits; number = refl; spells = refl })
  repeated_takes takes (suc n) bytes x fits e =
      let a = bind_ok (read bytes) (λ first. repeated read n first.1 >>= λ others. Ok (first.0 ∷ others.0, others.1)) x
      e in
      let b = bind_ok (repeated read n a.0.1) (λ others. Ok (a.0.0 ∷ others.0, others.1)) x a.2 in
      let one = takes bytes a.0 fits a.1 in
      let others = repeated_takes takes n a.0.1 b.0 one.takes.rest_fits b.1 in
      let made : List A × List ℕ = (a.0.0 ∷ b.0.0, b.0.1) in
      subst (AllFound (suc n) bytes) (ok_is made x b.2) (record {
        text = one.text ++ others.text;
        takes = Takes-then bytes one.text a.0.1 others.text b.0.1 one.takes others.takes;
        number = ap suc others.number;
        spells = (one.text, others.text, refl, one.spells, others.spells);
      })

  repeated_again : ReadAgain → (xs : List A) (text rest : List ℕ) → SpellsAll Spells text xs
      → repeated read (length xs) (text ++ rest) ≡ Ok (xs, rest)
  unfolding repeated
  repeated_again again [] text rest spells = ap (λ (t : List ℕ). Ok ([], t ++ rest)) spells
  repeated_again again (x ∷ xs) text rest spells =
      let first = spells.0 in
      let others = spells.1 in
      ap (λ (t : List ℕ). repeated read (suc (length xs)) (t ++ rest)) spells.2
      ∙ ap (repeated read (suc (length xs))) (append_assoc first others rest)
      ∙ rw (again first x (others ++ rest) spells.3, repeated_again again xs others rest spells.4) refl

  pub list_takes : ReadTakes → (bytes : List ℕ) (x : List A × List ℕ) → IsBytes bytes → list_from read bytes ≡ Ok x
      → Found (SpellsList Spells) bytes x
  unfolding list_from
  list_takes takes bytes x fits e =
      let b = bind_ok (number_at w16 bytes) (λ count. repeated read count.0 count.1) x e in
      let t = number_takes w16 wide16 bytes b.0.0 b.0.1 fits b.1 in
      let r = repeated_takes takes b.0.0 b.0.1 x t.0.rest_fits b.2 in
      record {
        text = u2 (length x.0) ++ r.text;
        takes = subst (λ k. Takes bytes (u2 k ++ r.text) x.1) (sym r.number) (Takes-then bytes (u2 b.0.0) b.0.1 r.text
            x.1 t.0 r.takes);
        spells = record { few = omega (arith, r.number, t.1); body = r.text; bytes_are = refl; all = r.spells };
      }

  pub list_again : ReadAgain → (text : List ℕ) (xs : List A) (rest : List ℕ) → SpellsList Spells text xs
      → list_from read (text ++ rest) ≡ Ok (xs, rest)
  unfolding list_from
  list_again again text xs rest s =
      let one : text ++ rest ≡ u2 (length xs) ++ (s.body ++ rest) = ap (λ (t : List ℕ). t ++ rest) s.bytes_are
      ∙ append_assoc (u2 (length xs)) s.body rest in
      ap (list_from read) one ∙ rw (number_again w16 wide16 (length xs) (s.body ++ rest) s.few)
      (repeated_again again xs s.body rest s.all)
