-- An entry that is read is the entry that was written, and what was written is read again.
use Rattle.std.proofs.Common.{◌≡◌, ℕ, ◌^◌, ◌<◌, ◌≤◌, true, cond, ltb, eqb, List, ◌∷◌, ◌++◌, length, Ok, Err, refl, sym}
use Rattle.std.proofs.Common.{ap, subst, ◌∙◌, append_assoc, arith, inl, inr, w16, w32, w64}
use Rattle.std.specs.List.{list_all}
use Rattle.std.proofs.lemmas.Bool.{eqb-true, ltb-false, le-ltb}
use Rattle.model.specs.ClassFiles.Numbers.{u2, s4, s8}
use Rattle.model.specs.ClassFiles.Entries.{entry_bytes, numbers_of, is_text_byte, EntryFits}
use Rattle.model.specs.declared.class_files.Entry.{Entry}
use Rattle.model.specs.declared.class_files.Entry.TheVariants.{Utf8, Integer, Long, Class, Fieldref, Methodref}
use Rattle.model.specs.declared.class_files.Entry.TheVariants.{InterfaceMethodref, NameAndType}
use Rattle.model.specs.declared.class_files.FormatFault.TheVariants.{Index, Name}
use Rattle.pool.specs.Reading.Steps.{◌>>=◌, byte_at, number_at, signed_at, taken}
use Rattle.pool.specs.Reading.Entries.{utf8_from, integer_from, class_from, long_from, pair_from, paired, tagged}
use Rattle.pool.specs.Reading.Entries.{entry_from}
use Rattle.pool.proofs.Steps.{bind_ok, guard_ok, passed_ok, chosen, ok_is}
use Rattle.pool.proofs.FieldLemmas.{IsBytes, Takes, Takes-then, byte_takes, wide16, wide32, wide64, number_takes}
use Rattle.pool.proofs.FieldLemmas.{number_again, signed_takes, signed_again, taken_takes, taken_again}

-- ---- what stands after a tag

-- an entry was read after its tag
pub record Spelled (tag left : ℕ) (bytes : List ℕ) (x : Entry × List ℕ) : Type 0 where
  pub takes : Takes (tag ∷ bytes) (entry_bytes x.0) x.1
  pub fits : EntryFits x.0
  pub numbers : numbers_of x.0 ≤ left

following : (tag : ℕ) (bytes text rest : List ℕ) → Takes bytes text rest → Takes (tag ∷ bytes) (tag ∷ text) rest
following tag bytes text rest t = record { parts = ap (λ (b : List ℕ). tag ∷ b) t.parts; rest_fits = t.rest_fits }

utf8_spelled : (left : ℕ) (bytes : List ℕ) (x : Entry × List ℕ) → 0 < left → IsBytes bytes → utf8_from bytes ≡ Ok x
    → Spelled 1 left bytes x
unfolding utf8_from
utf8_spelled left bytes x some fits e =
    let a = bind_ok (number_at w16 bytes) (λ n. taken n.0 n.1 >>= λ text. cond (list_all is_text_byte text.0)
    (Ok (Utf8 text.0, text.1)) (Err Name)) x e in
    let b = bind_ok (taken a.0.0 a.0.1) (λ text. cond (list_all is_text_byte text.0) (Ok (Utf8 text.0, text.1))
    (Err Name)) x a.2 in
    let g = passed_ok (list_all is_text_byte b.0.0) Name (Ok (Utf8 b.0.0, b.0.1)) x b.2 in
    let t0 = number_takes w16 wide16 bytes a.0.0 a.0.1 fits a.1 in
    let t1 = taken_takes a.0.0 a.0.1 b.0.0 b.0.1 t0.0.rest_fits b.1 in
    let both = Takes-then bytes (u2 a.0.0) a.0.1 b.0.0 b.0.1 t0.0 t1.0 in
    let whole : Takes bytes (u2 (length b.0.0) ++ b.0.0) b.0.1 = subst (λ (k : ℕ). Takes bytes (u2 k ++ b.0.0) b.0.1)
    (sym t1.1) both in
    subst (Spelled 1 left bytes) (ok_is (Utf8 b.0.0, b.0.1) x g.1)
    (record {
      takes = following 1 bytes (u2 (length b.0.0) ++ b.0.0) b.0.1 whole;
      fits = (omega (arith, t1.1, t0.1), g.0);
      numbers = omega arith;
    })

integer_spelled : (left : ℕ) (bytes : List ℕ) (x : Entry × List ℕ) → 0 < left → IsBytes bytes → integer_from bytes
    ≡ Ok x → Spelled 3 left bytes x
integer_spelled left bytes x some fits e =
    let b = bind_ok (signed_at w32 bytes) (λ z. Ok (Integer z.0, z.1)) x e in
    let t = signed_takes w32 wide32 bytes b.0.0 b.0.1 fits b.1 in
    subst (Spelled 3 left bytes) (ok_is (Integer b.0.0, b.0.1) x b.2)
    (record { takes = following 3 bytes (s4 b.0.0) b.0.1 t.0; fits = t.1; numbers = omega arith })

long_spelled : (left : ℕ) (bytes : List ℕ) (x : Entry × List ℕ) → IsBytes bytes → long_from left bytes ≡ Ok x
    → Spelled 5 left bytes x
unfolding long_from
long_spelled left bytes x fits e =
    let g = guard_ok (ltb left 2) Index (signed_at w64 bytes >>= λ z. Ok (Long z.0, z.1)) x e in
    let two : 2 ≤ left = ltb-false _ _ g.0 in
    let b = bind_ok (signed_at w64 bytes) (λ z. Ok (Long z.0, z.1)) x g.1 in
    let t = signed_takes w64 wide64 bytes b.0.0 b.0.1 fits b.1 in
    subst (Spelled 5 left bytes) (ok_is (Long b.0.0, b.0.1) x b.2)
    (record { takes = following 5 bytes (s8 b.0.0) b.0.1 t.0; fits = t.1; numbers = two })

class_spelled : (left : ℕ) (bytes : List ℕ) (x : Entry × List ℕ) → 0 < left → IsBytes bytes → class_from bytes ≡ Ok x
    → Spelled 7 left bytes x
class_spelled left bytes x some fits e =
    let b = bind_ok (number_at w16 bytes) (λ n. Ok (Class n.0, n.1)) x e in
    let t = number_takes w16 wide16 bytes b.0.0 b.0.1 fits b.1 in
    subst (Spelled 7 left bytes) (ok_is (Class b.0.0, b.0.1) x b.2)
    (record { takes = following 7 bytes (u2 b.0.0) b.0.1 t.0; fits = t.1; numbers = omega arith })

pub pair_takes : (bytes : List ℕ) (x : (ℕ × ℕ) × List ℕ) → IsBytes bytes → pair_from bytes ≡ Ok x
    → Takes bytes (u2 x.0.0 ++ u2 x.0.1) x.1 × (x.0.0 < 2 ^ 16) × (x.0.1 < 2 ^ 16)
unfolding pair_from
pair_takes bytes x fits e =
    let a = bind_ok (number_at w16 bytes) (λ first. number_at w16 first.1 >>= λ second. Ok (
      (first.0, second.0),
      second.1,
    )) x e in
    let b = bind_ok (number_at w16 a.0.1) (λ second. Ok ((a.0.0, second.0), second.1)) x a.2 in
    let t0 = number_takes w16 wide16 bytes a.0.0 a.0.1 fits a.1 in
    let t1 = number_takes w16 wide16 a.0.1 b.0.0 b.0.1 t0.0.rest_fits b.1 in
    let made : (ℕ × ℕ) × List ℕ = ((a.0.0, b.0.0), b.0.1) in
    subst (λ (y : (ℕ × ℕ) × List ℕ). Takes bytes (u2 y.0.0 ++ u2 y.0.1) y.1 × (y.0.0 < 2 ^ 16) × (y.0.1 < 2 ^ 16))
    (ok_is made x b.2)
    (Takes-then bytes (u2 a.0.0) a.0.1 (u2 b.0.0) b.0.1 t0.0 t1.0, t0.1, t1.1)

pub pair_again : (m n : ℕ) (rest : List ℕ) → m < 2 ^ 16 → n < 2 ^ 16 → pair_from ((u2 m ++ u2 n) ++ rest)
    ≡ Ok ((m, n), rest)
unfolding pair_from
pair_again m n rest h k = ap pair_from (append_assoc (u2 m) (u2 n) rest)
    ∙ rw (number_again w16 wide16 m (u2 n ++ rest) h, number_again w16 wide16 n rest k) refl

paired_spelled : (tag : ℕ) (make : ℕ → ℕ → Entry) (left : ℕ) (bytes : List ℕ) (x : Entry × List ℕ) → IsBytes bytes
    → ((m n : ℕ) (rest : List ℕ) → Takes bytes (u2 m ++ u2 n) rest → m < 2 ^ 16 → n < 2 ^ 16
    → Spelled tag left bytes (make m n, rest))
    → paired make bytes ≡ Ok x → Spelled tag left bytes x
paired_spelled tag make left bytes x fits good e =
    let b = bind_ok (pair_from bytes) (λ p. Ok (make p.0.0 p.0.1, p.1)) x e in
    let t = pair_takes bytes b.0 fits b.1 in
    subst (Spelled tag left bytes) (ok_is (make b.0.0.0 b.0.0.1, b.0.1) x b.2) (good b.0.0.0 b.0.0.1 b.0.1 t.0 t.1 t.2)

-- ---- by the tag

tag_is : (tag n left : ℕ) (bytes : List ℕ) (x : Entry × List ℕ) → eqb tag n ≡ true → Spelled n left bytes x
    → Spelled tag left bytes x
tag_is tag n left bytes x same s = rw (eqb-true tag n same) s

tagged_spelled : (tag left : ℕ) (bytes : List ℕ) (x : Entry × List ℕ) → 0 < left → IsBytes bytes → tagged tag left bytes
    ≡ Ok x → Spelled tag left bytes x
tagged_spelled tag left bytes x some fits e =
    elim (chosen (eqb tag 1) _ _ _ e) [
      | inl p ↦ tag_is tag 1 left bytes x p.0 (utf8_spelled left bytes x some fits p.1)
      | inr e3 ↦ elim (chosen (eqb tag 3) _ _ _ e3.1) [
        | inl p ↦ tag_is tag 3 left bytes x p.0 (integer_spelled left bytes x some fits p.1)
        | inr e5 ↦ elim (chosen (eqb tag 5) _ _ _ e5.1) [
          | inl p ↦ tag_is tag 5 left bytes x p.0 (long_spelled left bytes x fits p.1)
          | inr e7 ↦ elim (chosen (eqb tag 7) _ _ _ e7.1) [
            | inl p ↦ tag_is tag 7 left bytes x p.0 (class_spelled left bytes x some fits p.1)
            | inr e9 ↦ elim (chosen (eqb tag 9) _ _ _ e9.1) [
              | inl p ↦ tag_is tag 9 left bytes x p.0 (paired_spelled 9 Fieldref left bytes x fits
                  (λ m n rest t h k. record {
                    takes = following 9 bytes (u2 m ++ u2 n) rest t;
                    fits = (h, k);
                    numbers = omega arith;
                  }) p.1)
              | inr e10 ↦ elim (chosen (eqb tag 10) _ _ _ e10.1) [
                | inl p ↦ tag_is tag 10 left bytes x p.0 (paired_spelled 10 Methodref left bytes x fits
                    (λ m n rest t h k. record {
                      takes = following 10 bytes (u2 m ++ u2 n) rest t;
                      fits = (h, k);
                      numbers = omega arith;
                    }) p.1)
                | inr e11 ↦ elim (chosen (eqb tag 11) _ _ _ e11.1) [
                  | inl p ↦ tag_is tag 11 left bytes x p.0 (paired_spelled 11 InterfaceMethodref left bytes x fits
                      (λ m n rest t h k. record {
                        takes = following 11 bytes (u2 m ++ u2 n) rest t;
                        fits = (h, k);
                        numbers = omega arith;
                      }) p.1)
                  | inr e12 ↦ elim (chosen (eqb tag 12) _ _ _ e12.1) [
                    | inl p ↦ tag_is tag 12 left bytes x p.0 (paired_spelled 12 NameAndType left bytes x fits
                        (λ m n rest t h k. record {
                          takes = following 12 bytes (u2 m ++ u2 n) rest t;
                          fits = (h, k);
                          numbers = omega arith;
                        }) p.1)
                    | inr none ↦ let wrong = none.1 in absurd cc
                  ]
                ]
              ]
            ]
          ]
        ]
      ]
    ]

pub entry_takes : (left : ℕ) (bytes : List ℕ) (x : Entry × List ℕ) → 0 < left → IsBytes bytes → entry_from left bytes
    ≡ Ok x → Takes bytes (entry_bytes x.0) x.1 × EntryFits x.0 × (numbers_of x.0 ≤ left)
unfolding entry_from
entry_takes left bytes x some fits e =
    let b = bind_ok (byte_at bytes) (λ tag. tagged tag.0 left tag.1) x e in
    let t = byte_takes bytes b.0.0 b.0.1 fits b.1 in
    let s = tagged_spelled b.0.0 left b.0.1 x some t.0.rest_fits b.2 in
    (record { parts = t.0.parts ∙ s.takes.parts; rest_fits = s.takes.rest_fits }, s.fits, s.numbers)

-- ---- what was written is read again

pub entry_again : (left : ℕ) (e : Entry) (rest : List ℕ) → EntryFits e → numbers_of e ≤ left
    → entry_from left (entry_bytes e ++ rest) ≡ Ok (e, rest)
unfolding entry_from utf8_from long_from
entry_again left (Utf8 text) rest fits enough =
    let regrouped : (u2 (length text) ++ text) ++ rest ≡ u2 (length text)
    ++ (text ++ rest) = append_assoc (u2 (length text)) text rest in
    ap utf8_from regrouped ∙ rw (
      number_again w16 wide16 (length text) (text ++ rest) fits.0,
      taken_again text rest,
      fits.1,
    ) refl
entry_again left (Integer z) rest fits enough = rw (signed_again w32 wide32 z rest fits) refl
entry_again left (Long z) rest fits enough = rw (le-ltb left 2 enough, signed_again w64 wide64 z rest fits) refl
entry_again left (Class name) rest fits enough = rw (number_again w16 wide16 name rest fits) refl
entry_again left (Fieldref class member) rest fits enough = rw (pair_again class member rest fits.0 fits.1) refl
entry_again left (Methodref class member) rest fits enough = rw (pair_again class member rest fits.0 fits.1) refl
entry_again left (InterfaceMethodref class member) rest fits enough = rw (pair_again class member rest fits.0 fits.1)
    refl
entry_again left (NameAndType name descriptor) rest fits enough = rw (pair_again name descriptor rest fits.0 fits.1)
    refl
