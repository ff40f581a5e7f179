-- A field that is read is the field that was written, and what was written is read again.
use Rattle.std.proofs.Common.{◌≡◌, ℕ, suc, ◌+◌, ◌^◌, ◌<◌, ◌≤◌, false, ltb, List, [], ◌∷◌, ◌++◌, length, get_or, take}
use Rattle.std.proofs.Common.{drop, Ok, refl, sym, ap, subst, ◌∙◌, append_assoc, arith, inl, inr, ℤ, Fits, w16, w32}
use Rattle.std.proofs.Common.{w64}
use Rattle.std.specs.Prelude.{FitsSigned}
use Rattle.std.specs.Int.{Width, byte_len, from_be_bytes, to_be_bytes, cast_signed, cast_unsigned}
use Rattle.std.proofs.lemmas.Bool.{cases_lt, ltb-false, le-ltb}
use Rattle.std.proofs.lemmas.List.{take_at, drop_at, take-append-drop, length-append, length-take, get_or-drop}
use Rattle.std.proofs.lemmas.List.{get_or-take, get_or_past}
use Rattle.std.proofs.lemmas.Nat.{be_bytes_2, be_bytes_4, be_bytes_8, from_be_bytes-to_be_bytes_2}
use Rattle.std.proofs.lemmas.Nat.{from_be_bytes-to_be_bytes_4, from_be_bytes-to_be_bytes_8}
use Rattle.std.proofs.lemmas.Int.{to_z-of_z, of_z-to_z}
use mir.Val.{bits}
use mir.ValLaws.{to_z-Fits, of_z_fits}
use Rattle.model.specs.declared.class_files.FormatFault.TheVariants.{Short}
use Rattle.pool.specs.Reading.Steps.{byte_at, number_at, signed_at, taken}
use Rattle.pool.proofs.Steps.{bind_ok, guard_ok, ok_is}

abbrev pub IsBytes : List ℕ → Type 0
IsBytes bytes = (i : ℕ) → get_or bytes i 0 < 256

IsBytes-drop : (n : ℕ) (bytes : List ℕ) → IsBytes bytes → IsBytes (drop n bytes)
IsBytes-drop n bytes h i = rw get_or-drop (h (n + i))

IsBytes-take : (n : ℕ) (bytes : List ℕ) → IsBytes bytes → IsBytes (take n bytes)
IsBytes-take n bytes h i =
    elim (cases_lt i n) [
      | inl lt ↦ rw (get_or-take n bytes i 0 lt) (h i)
      | inr le ↦ rw (get_or_past (take n bytes) i 0 (omega (arith, length-take n bytes))) (omega arith)
    ]

pub IsBytes-rest : (b : ℕ) (bytes : List ℕ) → IsBytes (b ∷ bytes) → IsBytes bytes
IsBytes-rest b bytes h i = h (suc i)

-- what a reader took from the front
pub record Takes (bytes text rest : List ℕ) : Type 0 where
  pub parts : bytes ≡ text ++ rest
  pub rest_fits : IsBytes rest

pub Takes-then : (a x b y c : List ℕ) → Takes a x b → Takes b y c → Takes a (x ++ y) c
Takes-then a x b y c p q = record {
  parts = p.parts ∙ ap (λ (t : List ℕ). x ++ t) q.parts ∙ sym (append_assoc x y c);
  rest_fits = q.rest_fits;
}

pub Takes-nothing : (bytes : List ℕ) → IsBytes bytes → Takes bytes [] bytes
Takes-nothing bytes fits = record { parts = refl; rest_fits = fits }

-- ---- one byte

pub byte_takes : (bytes : List ℕ) (b : ℕ) (rest : List ℕ) → IsBytes bytes → byte_at bytes ≡ Ok (b, rest)
    → Takes bytes (b ∷ []) rest × (b < 256)
byte_takes [] b rest fits e = absurd cc
byte_takes (a ∷ bytes) b rest fits e =
    subst (λ (p : ℕ × List ℕ). Takes (a ∷ bytes) (p.0 ∷ []) p.1 × (p.0 < 256)) (ok_is (a, bytes) (b, rest) e)
    (record { parts = refl; rest_fits = IsBytes-rest a bytes fits }, fits 0)

-- ---- numbers

pub record IsWide (w : Width) : Type 0 where
  pub len : (n : ℕ) → length (to_be_bytes w n) ≡ byte_len w
  pub back : (bytes : List ℕ) → length bytes ≡ byte_len w → IsBytes bytes → to_be_bytes w (from_be_bytes w bytes)
      ≡ bytes
  pub again : (n : ℕ) → n < 2 ^ bits w → from_be_bytes w (to_be_bytes w n) ≡ n
  pub below : (bytes : List ℕ) → IsBytes bytes → from_be_bytes w bytes < 2 ^ bits w

pub wide16 : IsWide w16
wide16 = record {
  len = λ n. refl;
  back = λ bytes len fits. be_bytes_2 bytes _ len fits refl;
  again = λ n lt. from_be_bytes-to_be_bytes_2 n lt;
  below = λ bytes fits. omega (arith, fits 0, fits 1);
}

pub wide32 : IsWide w32
wide32 = record {
  len = λ n. refl;
  back = λ bytes len fits. be_bytes_4 bytes _ len fits refl;
  again = λ n lt. from_be_bytes-to_be_bytes_4 n lt;
  below = λ bytes fits. omega (arith, fits 0, fits 1, fits 2, fits 3);
}

pub wide64 : IsWide w64
wide64 = record {
  len = λ n. refl;
  back = λ bytes len fits. be_bytes_8 bytes _ len fits refl;
  again = λ n lt. from_be_bytes-to_be_bytes_8 n lt;
  below = λ bytes fits. omega (arith, fits 0, fits 1, fits 2, fits 3, fits 4, fits 5, fits 6, fits 7);
}

pub number_takes : (w : Width) (wide : IsWide w) (bytes : List ℕ) (n : ℕ) (rest : List ℕ) → IsBytes bytes
    → number_at w bytes ≡ Ok (n, rest) → Takes bytes (to_be_bytes w n) rest × (n < 2 ^ bits w)
number_takes w wide bytes n rest fits e =
    let g = guard_ok (ltb (length bytes) (byte_len w)) Short (Ok (
      from_be_bytes w (take (byte_len w) bytes),
      drop (byte_len w) bytes,
    )) (n, rest) e in
    let long : byte_len w ≤ length bytes = ltb-false _ _ g.0 in
    let same = ok_is (from_be_bytes w (take (byte_len w) bytes), drop (byte_len w) bytes) (n, rest) g.1 in
    let n-is : from_be_bytes w (take (byte_len w) bytes) ≡ n = ap (λ (p : ℕ × List ℕ). p.0) same in
    let rest-is : drop (byte_len w) bytes ≡ rest = ap (λ (p : ℕ × List ℕ). p.1) same in
    let front : to_be_bytes w n
    ≡ take (byte_len w) bytes = rw (← n-is)
    (wide.back (take (byte_len w) bytes) (omega (arith, length-take (byte_len w) bytes))
    (IsBytes-take (byte_len w) bytes fits)) in (
      record {
        parts = rw (front, ← rest-is) (sym (take-append-drop (byte_len w) bytes));
        rest_fits = rw (← rest-is) (IsBytes-drop (byte_len w) bytes fits);
      },
      rw (← n-is) (wide.below (take (byte_len w) bytes) (IsBytes-take (byte_len w) bytes fits)),
    )

pub number_again : (w : Width) (wide : IsWide w) (n : ℕ) (rest : List ℕ) → n < 2 ^ bits w
    → number_at w (to_be_bytes w n ++ rest) ≡ Ok (n, rest)
number_again w wide n rest lt =
    let len = wide.len n in
    let long : ltb (length (to_be_bytes w n ++ rest)) (byte_len w)
    ≡ false = le-ltb _ _ (omega (arith, length-append (to_be_bytes w n) rest)) in
    rw (
      long,
      take_at (to_be_bytes w n) rest (byte_len w) len,
      drop_at (to_be_bytes w n) rest (byte_len w) len,
      wide.again n lt,
    ) refl

pub signed_takes : (w : Width) (wide : IsWide w) (bytes : List ℕ) (z : ℤ) (rest : List ℕ) → IsBytes bytes
    → signed_at w bytes ≡ Ok (z, rest) → Takes bytes (to_be_bytes w (cast_unsigned w z)) rest × FitsSigned w z
signed_takes w wide bytes z rest fits e =
    let b = bind_ok (number_at w bytes) (λ n. Ok (cast_signed w n.0, n.1)) (z, rest) e in
    let t = number_takes w wide bytes b.0.0 b.0.1 fits b.1 in
    let back : cast_unsigned w (cast_signed w b.0.0) ≡ b.0.0 = of_z-to_z w b.0.0 t.1 in
    subst (λ (p : ℤ × List ℕ). Takes bytes (to_be_bytes w (cast_unsigned w p.0)) p.1 × FitsSigned w p.0)
    (ok_is (cast_signed w b.0.0, b.0.1) (z, rest) b.2)
    (subst (λ k. Takes bytes (to_be_bytes w k) b.0.1) (sym back) t.0, to_z-Fits w b.0.0 (record { fits = t.1 }))

pub signed_again : (w : Width) (wide : IsWide w) (z : ℤ) (rest : List ℕ) → FitsSigned w z
    → signed_at w (to_be_bytes w (cast_unsigned w z) ++ rest) ≡ Ok (z, rest)
signed_again w wide z rest fits =
    let f : Fits w (cast_unsigned w z) = of_z_fits w z fits in
    rw (number_again w wide (cast_unsigned w z) rest f.fits) (ap (λ (k : ℤ). Ok (k, rest)) (to_z-of_z w z fits))

-- ---- bytes of a length

pub taken_takes : (len : ℕ) (bytes text rest : List ℕ) → IsBytes bytes → taken len bytes ≡ Ok (text, rest)
    → Takes bytes text rest × (length text ≡ len)
taken_takes len bytes text rest fits e =
    let g = guard_ok (ltb (length bytes) len) Short (Ok (take len bytes, drop len bytes)) (text, rest) e in
    let long : len ≤ length bytes = ltb-false _ _ g.0 in
    subst (λ (p : List ℕ × List ℕ). Takes bytes p.0 p.1 × (length p.0 ≡ len))
    (ok_is (take len bytes, drop len bytes) (text, rest) g.1) (
      record { parts = sym (take-append-drop len bytes); rest_fits = IsBytes-drop len bytes fits },
      omega (arith, length-take len bytes),
    )

pub taken_again : (text rest : List ℕ) → taken (length text) (text ++ rest) ≡ Ok (text, rest)
taken_again text rest =
    let long : ltb (length (text ++ rest)) (length text) ≡ false = le-ltb _ _ (omega (arith, length-append text rest))
    in
    rw (long, take_at text rest (length text) refl, drop_at text rest (length text) refl) refl
