-- Reading one after another, as a loop does.
use Rattle.std.proofs.Common.{◌≡◌, ℕ, suc, ◌-◌, ◌+◌, ◌≤◌, ◌<◌, List, [], ◌∷◌, ◌++◌, Ok, Err, refl, sym, ap, ◌∙◌}
use Rattle.std.proofs.Common.{append_assoc, arith}
use Rattle.std.proofs.lemmas.List.{append-nil}
use Rattle.pool.specs.declared.error.ReadError.{ReadError}
use Rattle.pool.specs.Reading.Steps.{◌>>=◌, Fails}
use Rattle.pool.proofs.Steps.{fails-then, fails-is}
use Rattle.classfile.specs.Reading.Attributes.{Reads}
use Rattle.classfile.specs.Reading.Lists.{repeated}

-- what was read before, and what is still read
abbrev pub with_front : {A : Type 0} → List A → Reads (List A) → Reads (List A)
with_front front read = read >>= λ x. Ok (front ++ x.0, x.1)

regroup : {A : Type 0} (front : List A) (n : A) (read : Reads (List A))
    → with_front front (read >>= λ x. Ok (n ∷ x.0, x.1)) ≡ with_front (front ++ n ∷ []) read
regroup front n (Ok x) = ap (λ (ns : List _). Ok (ns, x.1)) (simp append_assoc)
regroup front n (Err f) = refl

module _ {A : Type 0} (read : List ℕ → Reads A) where
  pub goes_on : (front : List A) (count i : ℕ) (bytes : List ℕ) (x : A) (after : List ℕ) (total : Reads (List A))
      → i < count → read bytes ≡ Ok (x, after)
      → with_front front (repeated read (count - i) bytes) ≡ total
      → with_front (front ++ x ∷ []) (repeated read (count - (i + 1)) after) ≡ total
  unfolding repeated
  goes_on front count i bytes x after total lt h so_far =
      let k : suc (count - (i + 1)) ≡ count - i = omega arith in
      let one : with_front front (repeated read (suc (count - (i + 1))) bytes)
      ≡ with_front (front ++ x ∷ []) (repeated read (count - (i + 1)) after) = rw h
      (regroup front x (repeated read (count - (i + 1)) after)) in
      sym one ∙ ap (λ m. with_front front (repeated read m bytes)) k ∙ so_far

  pub ends : (e : ReadError) (front : List A) (count i : ℕ) (bytes : List ℕ) (total : Reads (List A)) → i < count
      → Fails e (read bytes)
      → with_front front (repeated read (count - i) bytes) ≡ total → Fails e total
  unfolding repeated
  ends e front count i bytes total lt h so_far =
      let n = count - (i + 1) in
      let k : suc n ≡ count - i = omega arith in
      let one = fails-then e (read bytes) (λ first. repeated read n first.1 >>= λ others. Ok (
        first.0 ∷ others.0,
        others.1,
      )) h in
      let two = fails-then e (repeated read (suc n) bytes) (λ x. Ok (front ++ x.0, x.1)) one in
      fails-is e (with_front front (repeated read (suc n) bytes)) total
      (ap (λ m. with_front front (repeated read m bytes)) k ∙ so_far) two

  pub is_done : (front : List A) (count i : ℕ) (bytes : List ℕ) (total : Reads (List A)) → count ≤ i
      → with_front front (repeated read (count - i) bytes) ≡ total → total ≡ Ok (front, bytes)
  unfolding repeated
  is_done front count i bytes total le so_far =
      let k : count - i ≡ 0 = omega arith in
      let one : with_front front (repeated read (count - i) bytes)
      ≡ Ok (front, bytes) = rw k (ap (λ (xs : List A). Ok (xs, bytes)) (append-nil front)) in
      sym so_far ∙ one
