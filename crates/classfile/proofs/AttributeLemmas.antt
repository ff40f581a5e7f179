-- Attributes that are read are those that were written, and what was written is read again.
use Rattle.std.proofs.Common.{◌≡◌, ℕ, zero, suc, ◌^◌, ◌<◌, Bool, true, false, cond, List, [], ◌∷◌, ◌++◌, length, Option}
use Rattle.std.proofs.Common.{Some, None, Ok, Err, refl, sym, ap, subst, ◌∙◌, append_assoc, arith, inl, inr, w16, w32}
use Rattle.std.specs.Prelude.{is_some}
use Rattle.std.specs.List.{flat_map, AllByRecursion}
use Rattle.model.specs.ClassFiles.Numbers.{u2, u4}
use Rattle.model.specs.ClassFiles.References.{text_at}
use Rattle.model.specs.ClassFiles.Attributes.{Attribute, sized_bytes, attribute_bytes, AttributeFits, passes}
use Rattle.model.specs.declared.class_files.FormatFault.TheVariants.{Name}
use Rattle.model.specs.declared.class_files.Entry.{Entry}
use Rattle.pool.specs.Reading.Steps.{◌>>=◌, number_at, taken}
use Rattle.pool.proofs.Steps.{bind_ok, passed_ok, chosen, ok_is}
use Rattle.pool.proofs.FieldLemmas.{IsBytes, Takes, Takes-then, Takes-nothing, wide16, wide32, number_takes}
use Rattle.pool.proofs.FieldLemmas.{number_again, taken_takes, taken_again}
use Rattle.classfile.specs.Reading.Attributes.{Reads, sized_from, the_text, text_from, tested_from, skipped}
use Rattle.classfile.specs.Reading.Attributes.{attribute_from, attributes_from}

pub IsBytes-front : (text rest : List ℕ) → IsBytes (text ++ rest) → IsBytes text
IsBytes-front [] rest h i = omega arith
IsBytes-front (b ∷ text) rest h zero = h 0
IsBytes-front (b ∷ text) rest h (suc i) = IsBytes-front text rest (λ j. h (suc j)) i

-- ---- bytes after their number

pub record Sized (bytes info rest : List ℕ) : Type 0 where
  pub takes : Takes bytes (sized_bytes info) rest
  pub small : length info < 2 ^ 32
  pub bytes_fit : IsBytes info

pub sized_takes : (bytes : List ℕ) (x : List ℕ × List ℕ) → IsBytes bytes → sized_from bytes ≡ Ok x → Sized bytes x.0 x.1
unfolding sized_from
sized_takes bytes x fits e =
    let a = bind_ok (number_at w32 bytes) (λ len. taken len.0 len.1) x e in
    let t0 = number_takes w32 wide32 bytes a.0.0 a.0.1 fits a.1 in
    let t1 = taken_takes a.0.0 a.0.1 x.0 x.1 t0.0.rest_fits a.2 in
    let both = Takes-then bytes (u4 a.0.0) a.0.1 x.0 x.1 t0.0 t1.0 in
    record {
      takes = subst (λ (k : ℕ). Takes bytes (u4 k ++ x.0) x.1) (sym t1.1) both;
      small = omega (arith, t1.1, t0.1);
      bytes_fit = IsBytes-front x.0 x.1 (subst IsBytes t1.0.parts t0.0.rest_fits);
    }

pub sized_again : (info rest : List ℕ) → length info < 2 ^ 32 → sized_from (sized_bytes info ++ rest) ≡ Ok (info, rest)
unfolding sized_from
sized_again info rest small =
    ap sized_from (append_assoc (u4 (length info)) info rest)
    ∙ rw (number_again w32 wide32 (length info) (info ++ rest) small) (taken_again info rest)

-- ---- texts

pub record IsText (pool : List Entry) (bytes : List ℕ) (x : (ℕ × List ℕ) × List ℕ) : Type 0 where
  pub takes : Takes bytes (u2 x.0.0) x.1
  pub small : x.0.0 < 2 ^ 16
  pub text : text_at pool x.0.0 ≡ Some x.0.1

some_text : (o : Option (List ℕ)) (rest : List ℕ) (y : List ℕ × List ℕ) → the_text o rest ≡ Ok y → (o ≡ Some y.0)
    × (rest ≡ y.1)
some_text None rest y e = absurd cc
some_text (Some text) rest y e = let same = ok_is (text, rest) y e in (
  ap (λ (p : List ℕ × List ℕ). Some p.0) same,
  ap (λ (p : List ℕ × List ℕ). p.1) same,
)

pub text_takes : (pool : List Entry) (bytes : List ℕ) (x : (ℕ × List ℕ) × List ℕ) → IsBytes bytes → text_from pool bytes
    ≡ Ok x → IsText pool bytes x
unfolding text_from
text_takes pool bytes x fits e =
    let a = bind_ok (number_at w16 bytes) (λ number. the_text (text_at pool number.0) number.1
    >>= λ text. Ok ((number.0, text.0), text.1)) x e in
    let b = bind_ok (the_text (text_at pool a.0.0) a.0.1) (λ text. Ok ((a.0.0, text.0), text.1)) x a.2 in
    let t = number_takes w16 wide16 bytes a.0.0 a.0.1 fits a.1 in
    let s = some_text (text_at pool a.0.0) a.0.1 b.0 b.1 in
    let made : (ℕ × List ℕ) × List ℕ = ((a.0.0, b.0.0), b.0.1) in
    subst (IsText pool bytes) (ok_is made x b.2)
    (record { takes = subst (λ (r : List ℕ). Takes bytes (u2 a.0.0) r) s.1 t.0; small = t.1; text = s.0 })

pub text_again : (pool : List Entry) (n : ℕ) (text rest : List ℕ) → n < 2 ^ 16 → text_at pool n ≡ Some text
    → text_from pool (u2 n ++ rest) ≡ Ok ((n, text), rest)
unfolding text_from
text_again pool n text rest small is = rw (number_again w16 wide16 n rest small, is) refl

pub tested_takes : (pool : List Entry) (test : List ℕ → Bool) (bytes : List ℕ) (x : (ℕ × List ℕ) × List ℕ)
    → IsBytes bytes → tested_from pool test bytes ≡ Ok x → IsText pool bytes x × (test x.0.1 ≡ true)
unfolding tested_from
tested_takes pool test bytes x fits e =
    let b = bind_ok (text_from pool bytes) (λ t. cond (test t.0.1) (Ok t) (Err Name)) x e in
    let p = passed_ok (test b.0.0.1) Name (Ok b.0) x b.2 in
    subst (λ (y : (ℕ × List ℕ) × List ℕ). IsText pool bytes y × (test y.0.1 ≡ true)) (ok_is b.0 x p.1)
    (text_takes pool bytes b.0 fits b.1, p.0)

pub tested_again : (pool : List Entry) (test : List ℕ → Bool) (n : ℕ) (text rest : List ℕ) → n < 2 ^ 16 → text_at pool n
    ≡ Some text → test text ≡ true → tested_from pool test (u2 n ++ rest) ≡ Ok ((n, text), rest)
unfolding tested_from
tested_again pool test n text rest small is good = rw (text_again pool n text rest small is, good) refl

-- ---- attributes

pub the_some : (o : Option (List ℕ)) → is_some o ≡ true → (text : List ℕ) × (o ≡ Some text)
the_some None e = absurd cc
the_some (Some text) e = (text, refl)

module _ {S : Type 0} (pool : List Entry) (wanted : List ℕ → Bool) (step : S → ℕ → List ℕ → Reads S) (Does : S
    → Attribute → S → Type 0) where
  -- what an attribute does, if it is wanted, and what the others do then
  abbrev pub RunsBy : Bool → S → Attribute → (S → Type 0) → Type 0
  RunsBy true s a others = (t : S) × Does s a t × others t
  RunsBy false s a others = others s

  abbrev pub Runs : S → List Attribute → S → Type 0
  Runs s [] t = s ≡ t
  Runs s (a ∷ attributes) t = RunsBy (passes wanted (text_at pool a.name)) s a (λ m. Runs m attributes t)

  abbrev pub StepTakes : Type 0
  StepTakes = (s : S) (name : ℕ) (bytes : List ℕ) (x : S × List ℕ) → IsBytes bytes → step s name bytes ≡ Ok x
      → (info : List ℕ) × Sized bytes info x.1 × Does s (record { name = name; info = info }) x.0

  abbrev pub StepAgain : Type 0
  StepAgain = (s : S) (a : Attribute) (t : S) (rest : List ℕ) → Does s a t → length a.info < 2 ^ 32
      → step s a.name (sized_bytes a.info ++ rest) ≡ Ok (t, rest)

  record IsAttribute (s : S) (bytes : List ℕ) (x : S × List ℕ) : Type 0 where
    pub a : Attribute
    pub takes : Takes bytes (attribute_bytes a) x.1
    pub fits : AttributeFits pool a
    pub runs : RunsBy (passes wanted (text_at pool a.name)) s a (λ m. m ≡ x.0)

  attribute_takes : StepTakes → (s : S) (bytes : List ℕ) (x : S × List ℕ) → IsBytes bytes
      → attribute_from pool wanted step s bytes ≡ Ok x → IsAttribute s bytes x
  unfolding attribute_from
  attribute_takes takes s bytes x fits e =
      let b = bind_ok (text_from pool bytes) (λ name. cond (wanted name.0.1) (step s name.0.0 name.1)
      (skipped s name.1)) x e in
      let t = text_takes pool bytes b.0 fits b.1 in
      let there : is_some (text_at pool b.0.0.0) ≡ true = ap is_some t.text in
      let same : passes wanted (text_at pool b.0.0.0) ≡ wanted b.0.0.1 = ap (passes wanted) t.text in
      elim (chosen (wanted b.0.0.1) (step s b.0.0.0 b.0.1) (skipped s b.0.1) (Ok x) b.2) [
        | inl good ↦
            let d = takes s b.0.0.0 b.0.1 x t.takes.rest_fits good.1 in
            record {
              a = record { name = b.0.0.0; info = d.0 };
              takes = Takes-then bytes (u2 b.0.0.0) b.0.1 (sized_bytes d.0) x.1 t.takes d.1.takes;
              fits = record { name = t.small; text = there; info = d.1.small };
              runs = rw (same ∙ good.0) (x.0, d.2, refl);
            }
        | inr other ↦
            let i = bind_ok (sized_from b.0.1) (λ info. Ok (s, info.1)) x other.1 in
            let z = sized_takes b.0.1 i.0 t.takes.rest_fits i.1 in
            let end : i.0.1 ≡ x.1 = ap (λ (p : S × List ℕ). p.1) (ok_is (s, i.0.1) x i.2) in
            record {
              a = record { name = b.0.0.0; info = i.0.0 };
              takes = subst (λ (r : List ℕ). Takes bytes (attribute_bytes (record { name = b.0.0.0; info = i.0.0 })) r)
                  end (Takes-then bytes (u2 b.0.0.0) b.0.1 (sized_bytes i.0.0) i.0.1 t.takes z.takes);
              fits = record { name = t.small; text = there; info = z.small };
              runs = rw (same ∙ other.0) (ap (λ (p : S × List ℕ). p.0) (ok_is (s, i.0.1) x i.2));
            }
      ]

  runs_then : (b : Bool) (s m t : S) (a : Attribute) (attributes : List Attribute) → RunsBy b s a (λ n. n ≡ m)
      → Runs m attributes t → RunsBy b s a (λ n. Runs n attributes t)
  runs_then true s m t a attributes h others = (h.0, h.1, subst (λ (n : S). Runs n attributes t) (sym h.2) others)
  runs_then false s m t a attributes h others = subst (λ (n : S). Runs n attributes t) (sym h) others

  pub record AreAttributes (n : ℕ) (s : S) (bytes : List ℕ) (x : S × List ℕ) : Type 0 where
    pub attributes : List Attribute
    pub takes : Takes bytes (flat_map attribute_bytes attributes) x.1
    pub number : length attributes ≡ n
    pub fit : AllByRecursion (AttributeFits pool) attributes
    pub runs : Runs s attributes x.0

  pub attributes_take : StepTakes → (n : ℕ) (s : S) (bytes : List ℕ) (x : S × List ℕ) → IsBytes bytes
      → attributes_from pool wanted step n s bytes ≡ Ok x → AreAttributes n s bytes x
  unfolding attributes_from
  attributes_take takes zero s bytes x fits e =
      subst (λ (y : S × List ℕ). AreAttributes 0 s bytes y) (ok_is (s, bytes) x e) (record {
        attributes = [];
        takes = Takes-nothing bytes fits;
        number = refl;
        fit = tt;
        runs = refl;
      })
  attributes_take takes (suc n) s bytes x fits e =
      let b = bind_ok (attribute_from pool wanted step s bytes) (λ first. attributes_from pool wanted step n first.0
      first.1) x e in
      let one = attribute_takes takes s bytes b.0 fits b.1 in
      let others = attributes_take takes n b.0.0 b.0.1 x one.takes.rest_fits b.2 in
      record {
        attributes = one.a ∷ others.attributes;
        takes = Takes-then bytes (attribute_bytes one.a) b.0.1 (flat_map attribute_bytes others.attributes) x.1
            one.takes others.takes;
        number = ap suc others.number;
        fit = (one.fits, others.fit);
        runs = runs_then (passes wanted (text_at pool one.a.name)) s b.0.0 x.0 one.a others.attributes one.runs
            others.runs;
      }

  attribute_by : StepAgain → (b : Bool) (s : S) (a : Attribute) (text rest : List ℕ) (others : S → Type 0) → wanted text
      ≡ b → AttributeFits pool a → text_at pool a.name ≡ Some text → RunsBy b s a others
      → (t : S) × (attribute_from pool wanted step s (attribute_bytes a ++ rest) ≡ Ok (t, rest)) × others t
  unfolding attribute_from
  attribute_by again true s a text rest others w fits is runs = (
    runs.0,
    ap (attribute_from pool wanted step s) (append_assoc (u2 a.name) (sized_bytes a.info) rest)
        ∙ rw (
          text_again pool a.name text (sized_bytes a.info ++ rest) fits.name is,
          w,
        ) (again s a runs.0 rest runs.1 fits.info),
    runs.2,
  )
  attribute_by again false s a text rest others w fits is runs = (
    s,
    ap (attribute_from pool wanted step s) (append_assoc (u2 a.name) (sized_bytes a.info) rest)
        ∙ rw (
          text_again pool a.name text (sized_bytes a.info ++ rest) fits.name is,
          w,
          sized_again a.info rest fits.info,
        ) refl,
    runs,
  )

  pub attributes_again : StepAgain → (attributes : List Attribute) (s t : S) (rest : List ℕ)
      → AllByRecursion (AttributeFits pool) attributes → Runs s attributes t
      → attributes_from pool wanted step (length attributes) s (flat_map attribute_bytes attributes ++ rest)
      ≡ Ok (t, rest)
  unfolding attributes_from
  attributes_again again [] s t rest fit runs = ap (λ (n : S). Ok (n, rest)) runs
  attributes_again again (a ∷ attributes) s t rest fit runs =
      let is = the_some (text_at pool a.name) fit.0.text in
      let w : wanted is.0 ≡ passes wanted (text_at pool a.name) = sym (ap (passes wanted) is.1) in
      let one = attribute_by again (passes wanted (text_at pool a.name)) s a is.0 (flat_map attribute_bytes attributes
      ++ rest) (λ m. Runs m attributes t) w fit.0 is.1 runs in
      ap (attributes_from pool wanted step (suc (length attributes)) s)
      (append_assoc (attribute_bytes a) (flat_map attribute_bytes attributes) rest)
      ∙ rw one.1 (attributes_again again attributes one.0 t rest fit.1 one.2)
