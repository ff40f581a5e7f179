-- A method that is read is spelled so, and what spells a method is read.
use Rattle.std.specs.Prelude.{filter, is_some}
use Rattle.std.proofs.Common.{◌≡◌, ℕ, ◌^◌, ◌<◌, Bool, true, false, cond, List, [], ◌∷◌, ◌++◌, length, Option, Some}
use Rattle.std.proofs.Common.{None, Ok, Err, refl, sym, ap, subst, ◌∙◌, append_assoc, arith, w16, inl, inr, ◌⊎◌}
use Rattle.std.specs.List.{flat_map, AllByRecursion}
use Rattle.model.specs.Texts.Names.{is_method_name}
use Rattle.model.specs.Texts.Flags.{has}
use Rattle.model.specs.ClassFiles.Numbers.{u2}
use Rattle.model.specs.ClassFiles.References.{text_at}
use Rattle.model.specs.ClassFiles.Attributes.{Attribute, sized_bytes, attribute_bytes, attributes_bytes, AttributeFits}
use Rattle.model.specs.ClassFiles.Attributes.{passes}
use Rattle.model.specs.ClassFiles.Codes.{CodePart, SpellsCode}
use Rattle.model.specs.ClassFiles.Methods.{MethodPart, are_method_flags, wants_code, is_code, SpellCode, SpellsMethod}
use Rattle.model.specs.declared.class_files.Entry.{Entry}
use Rattle.model.specs.declared.class_files.FormatFault.TheVariants as fault
use Rattle.pool.specs.Reading.Steps.{◌>>=◌, number_at}
use Rattle.pool.proofs.Steps.{bind_ok, passed_ok, ok_is}
use Rattle.pool.proofs.FieldLemmas.{IsBytes, Takes, Takes-then, wide16, number_takes, number_again}
use Rattle.classfile.specs.Reading.Attributes.{Reads, sized_from, tested_from, attributes_from}
use Rattle.classfile.specs.Reading.Codes.{code_from}
use Rattle.classfile.specs.Reading.Methods.{method_flags_from, method_type_test, is_code_name, found_code_from}
use Rattle.classfile.specs.Reading.Methods.{codes_from, method_from}
use Rattle.classfile.specs.Writing.{code_info, code_attribute, code_attributes, CodesFit, MethodFits, method_bytes}
use Rattle.classfile.proofs.AttributeLemmas.{Sized, sized_takes, sized_again, tested_takes, tested_again, RunsBy, Runs}
use Rattle.classfile.proofs.AttributeLemmas.{attributes_take, attributes_again}
use Rattle.classfile.proofs.CodeLaws.{code_is, code_again, info_has, code_written, code_short}
use Rattle.classfile.proofs.FieldLaws.{passed_text}
use Rattle.classfile.proofs.ListLaws.{Found}

-- ---- one Code attribute

-- a first Code attribute is taken where one is wanted, a second one is not
abbrev pub TakesCode : List Entry → Bool → Option CodePart → Attribute → Option CodePart → Type 0
TakesCode pool wanted (Some c) a t = ⊥
TakesCode pool wanted None a t = (wanted ≡ true) × (c : CodePart) × (t ≡ Some c) × (a.name ≡ c.name)
    × SpellsCode pool a.info c

found_takes : (pool : List Entry) (wanted : Bool) (s : Option CodePart) (name : ℕ) (bytes : List ℕ) (x : Option CodePart
    × List ℕ) → IsBytes bytes → found_code_from pool wanted s name bytes ≡ Ok x
    → (info : List ℕ) × Sized bytes info x.1 × TakesCode pool wanted s (record { name = name; info = info }) x.0
unfolding found_code_from
found_takes pool wanted (Some c) name bytes x fits e = absurd cc
found_takes pool false None name bytes x fits e = absurd cc
found_takes pool true None name bytes x fits e =
    let a = bind_ok (sized_from bytes) (λ info. code_from pool name info.0 >>= λ code. Ok (Some code, info.1)) x e in
    let b = bind_ok (code_from pool name a.0.0) (λ code. Ok (Some code, a.0.1)) x a.2 in
    let z = sized_takes bytes a.0 fits a.1 in
    let c = code_is pool name a.0.0 b.0 z.bytes_fit b.1 in
    let made : Option CodePart × List ℕ = (Some b.0, a.0.1) in
    subst (λ (y : Option CodePart × List ℕ). (info : List ℕ) × Sized bytes info y.1
    × TakesCode pool true None (record { name = name; info = info }) y.0) (ok_is made x b.2)
    (a.0.0, z, (refl, b.0, refl, c.name_is, c.spells))

found_again : (pool : List Entry) (wanted : Bool) (s : Option CodePart) (a : Attribute) (t : Option CodePart)
    (rest : List ℕ) → TakesCode pool wanted s a t → length a.info < 2 ^ 32
    → found_code_from pool wanted s a.name (sized_bytes a.info ++ rest) ≡ Ok (t, rest)
unfolding found_code_from
found_again pool wanted (Some c) a t rest does small = absurd does
found_again pool false None a t rest does small = let no_code = does.0 in absurd cc
found_again pool true None a t rest does small =
    let c = does.1 in
    let read : code_from pool a.name a.info ≡ Ok c = ap (λ (n : ℕ). code_from pool n a.info) does.3
    ∙ code_again pool a.info c does.4 in
    rw (sized_again a.info rest small, read) (ap (λ (o : Option CodePart). Ok (o, rest)) (sym does.2))

-- ---- those that are code

-- what is left of a method's attributes is its code, if it has some
abbrev Kept : List Entry → Bool → List Attribute → Option CodePart → Type 0
Kept pool wanted attributes None = attributes ≡ []
Kept pool wanted attributes (Some c) = (wanted ≡ true) × (info : List ℕ)
    × (attributes ≡ record { name = c.name; info = info } ∷ []) × SpellsCode pool info c

module _ (pool : List Entry) (wanted : Bool) where
  abbrev OneRuns : Bool → Option CodePart → Attribute → (Option CodePart → Type 0) → Type 0
  OneRuns = RunsBy pool is_code_name (found_code_from pool wanted) (TakesCode pool wanted)

  abbrev AllRun : Option CodePart → List Attribute → Option CodePart → Type 0
  AllRun = Runs pool is_code_name (found_code_from pool wanted) (TakesCode pool wanted)

  abbrev those : List Attribute → List Attribute
  those attributes = filter (is_code pool) attributes

  none_after : (b : Bool) (c : CodePart) (a : Attribute) (others : Option CodePart → Type 0)
      → OneRuns b (Some c) a others → (b ≡ false) × others (Some c)
  none_after true c a others h = absurd h.1
  none_after false c a others h = (refl, h)

  runs_after : (c : CodePart) (attributes : List Attribute) (t : Option CodePart) → AllRun (Some c) attributes t
      → (those attributes ≡ []) × (Some c ≡ t)
  runs_after c [] t h = (refl, h)
  runs_after c (a ∷ attributes) t h =
      let n = none_after (is_code pool a) c a (λ m. AllRun m attributes t) h in
      let r = runs_after c attributes t n.1 in
      (rw n.0 r.0, r.1)

  found_by : (b : Bool) (a : Attribute) (attributes : List Attribute) (t : Option CodePart)
      → OneRuns b None a (λ m. AllRun m attributes t)
      → (AllRun None attributes t → Kept pool wanted (those attributes) t)
      → Kept pool wanted (cond b (a ∷ those attributes) (those attributes)) t
  found_by true a attributes t h others =
      let does = h.1 in
      let c = does.1 in
      let later : AllRun (Some c) attributes t = subst (λ (m : Option CodePart). AllRun m attributes t) does.2 h.2 in
      let r = runs_after c attributes t later in
      let only : a ∷ those attributes ≡ record { name = c.name; info = a.info }
      ∷ [] = ap (λ (xs : List Attribute). a ∷ xs) r.0 ∙ ap (λ (n : ℕ). record { name = n; info = a.info } ∷ [])
      does.3 in
      subst (λ (o : Option CodePart). Kept pool wanted (a ∷ those attributes) o) r.1 (does.0, a.info, only, does.4)
  found_by false a attributes t h others = others h

  runs_found : (attributes : List Attribute) (t : Option CodePart) → AllRun None attributes t
      → Kept pool wanted (those attributes) t
  runs_found [] t h = subst (λ (o : Option CodePart). Kept pool wanted [] o) h refl
  runs_found (a ∷ attributes) t h = found_by (is_code pool a) a attributes t h (runs_found attributes t)

  skip_by : (b : Bool) (s : Option CodePart) (a : Attribute) (attributes : List Attribute)
      → cond b (a ∷ those attributes) (those attributes) ≡ [] → (those attributes ≡ [] → AllRun s attributes s)
      → OneRuns b s a (λ m. AllRun m attributes s)
  skip_by true s a attributes e others = absurd cc
  skip_by false s a attributes e others = others e

  runs_past : (s : Option CodePart) (attributes : List Attribute) → those attributes ≡ [] → AllRun s attributes s
  runs_past s [] e = refl
  runs_past s (a ∷ attributes) e = skip_by (is_code pool a) s a attributes e (runs_past s attributes)

  kept_by : (b : Bool) (a : Attribute) (attributes : List Attribute) (t : Option CodePart)
      → Kept pool wanted (cond b (a ∷ those attributes) (those attributes)) t
      → (Kept pool wanted (those attributes) t → AllRun None attributes t)
      → OneRuns b None a (λ m. AllRun m attributes t)
  kept_by true a attributes None e others = absurd cc
  kept_by true a attributes (Some c) e others =
      let info = e.1 in
      let are = e.2 in
      let first : a ≡ record { name = c.name; info = info } = cc in
      let none : those attributes ≡ [] = cc in
      let spells : SpellsCode pool a.info c = subst (λ (b : Attribute). SpellsCode pool b.info c) (sym first) e.3 in
      (Some c, (e.0, c, refl, ap (λ (b : Attribute). b.name) first, spells), runs_past (Some c) attributes none)
  kept_by false a attributes t e others = others e

  found_runs : (attributes : List Attribute) (t : Option CodePart) → Kept pool wanted (those attributes) t
      → AllRun None attributes t
  found_runs [] None e = refl
  found_runs [] (Some c) e = let are = e.2 in absurd cc
  found_runs (a ∷ attributes) t e = kept_by (is_code pool a) a attributes t e (found_runs attributes t)

-- ---- attributes of a method

record AreCodes (pool : List Entry) (wanted : Bool) (bytes : List ℕ) (x : Option CodePart × List ℕ) : Type 0 where
  pub attributes : List Attribute
  pub few : length attributes < 2 ^ 16
  pub fit : AllByRecursion (AttributeFits pool) attributes
  pub takes : Takes bytes (attributes_bytes attributes) x.1
  pub code : SpellCode pool wanted (filter (is_code pool) attributes) x.0

-- where code is wanted there is some
abbrev Enough : Bool → Option CodePart → Type 0
Enough wanted t = (wanted ≡ true → is_some t ≡ true)

abbrev last_test : Bool → Option CodePart × List ℕ → Reads (Option CodePart)
last_test wanted found = cond wanted (cond (is_some found.0) (Ok found) (Err fault.Attribute)) (Ok found)

tested_last : (wanted : Bool) (found x : Option CodePart × List ℕ) → last_test wanted found ≡ Ok x → (found ≡ x)
    × Enough wanted found.0
tested_last true found x e = let p = passed_ok (is_some found.0) fault.Attribute (Ok found) x e
    in (ok_is found x p.1, λ w. p.0)
tested_last false found x e = (ok_is found x e, λ w. absurd cc)

kept_spells : (pool : List Entry) (wanted : Bool) (attributes : List Attribute) (t : Option CodePart)
    → Kept pool wanted attributes t → Enough wanted t → SpellCode pool wanted attributes t
kept_spells pool true attributes None kept enough = let e = enough refl in absurd cc
kept_spells pool false attributes None kept enough = (refl, kept)
kept_spells pool wanted attributes (Some c) kept enough = kept

spells_kept : (pool : List Entry) (wanted : Bool) (attributes : List Attribute) (t : Option CodePart)
    → SpellCode pool wanted attributes t → Kept pool wanted attributes t
spells_kept pool wanted attributes None s = s.1
spells_kept pool wanted attributes (Some c) s = s

passes_last : (pool : List Entry) (wanted : Bool) (attributes : List Attribute) (t : Option CodePart) (rest : List ℕ)
    → SpellCode pool wanted attributes t → last_test wanted (t, rest) ≡ Ok (t, rest)
passes_last pool wanted attributes None rest s = rw s.0 refl
passes_last pool wanted attributes (Some c) rest s = rw s.0 refl

codes_take : (pool : List Entry) (wanted : Bool) (bytes : List ℕ) (x : Option CodePart × List ℕ) → IsBytes bytes
    → codes_from pool wanted bytes ≡ Ok x → AreCodes pool wanted bytes x
unfolding codes_from
codes_take pool wanted bytes x fits e =
    let step = found_code_from pool wanted in
    let b = bind_ok (number_at w16 bytes) (λ count. attributes_from pool is_code_name step count.0 None count.1
    >>= λ found. last_test wanted found) x e in
    let d = bind_ok (attributes_from pool is_code_name step b.0.0 None b.0.1) (λ found. last_test wanted found) x b.2 in
    let l = tested_last wanted d.0 x d.2 in
    let t = number_takes w16 wide16 bytes b.0.0 b.0.1 fits b.1 in
    let r = attributes_take pool is_code_name step (TakesCode pool wanted) (λ s name more y f h. found_takes pool wanted
    s name more y f h) b.0.0 None b.0.1 d.0 t.0.rest_fits d.1 in
    let kept = runs_found pool wanted r.attributes d.0.0 r.runs in
    subst (AreCodes pool wanted bytes) l.0 (record {
      attributes = r.attributes;
      few = omega (arith, r.number, t.1);
      fit = r.fit;
      takes = subst (λ k. Takes bytes (u2 k ++ flat_map attribute_bytes r.attributes) d.0.1) (sym r.number)
          (Takes-then bytes (u2 b.0.0) b.0.1 (flat_map attribute_bytes r.attributes) d.0.1 t.0 r.takes);
      code = kept_spells pool wanted (filter (is_code pool) r.attributes) d.0.0 kept l.1;
    })

codes_again : (pool : List Entry) (wanted : Bool) (attributes : List Attribute) (t : Option CodePart) (rest : List ℕ)
    → length attributes < 2 ^ 16 → AllByRecursion (AttributeFits pool) attributes
    → SpellCode pool wanted (filter (is_code pool) attributes) t
    → codes_from pool wanted (attributes_bytes attributes ++ rest) ≡ Ok (t, rest)
unfolding codes_from
codes_again pool wanted attributes t rest few fit code =
    let step = found_code_from pool wanted in
    let runs = found_runs pool wanted attributes t (spells_kept pool wanted (filter (is_code pool) attributes) t code)
    in
    let regrouped = append_assoc (u2 (length attributes)) (flat_map attribute_bytes attributes) rest in
    ap (codes_from pool wanted) regrouped ∙ rw (
      number_again w16 wide16 (length attributes) (flat_map attribute_bytes attributes ++ rest) few,
      attributes_again pool is_code_name step (TakesCode pool wanted) (λ s a u more does small. found_again pool wanted
          s a u more does small) attributes None t rest fit runs,
    ) (passes_last pool wanted (filter (is_code pool) attributes) t rest code)

-- ---- flags

flags_take : (class : ℕ) (bytes : List ℕ) (x : ℕ × List ℕ) → IsBytes bytes → method_flags_from class bytes ≡ Ok x
    → Takes bytes (u2 x.0) x.1 × (x.0 < 2 ^ 16) × (are_method_flags class x.0 ≡ true)
unfolding method_flags_from
flags_take class bytes x fits e =
    let b = bind_ok (number_at w16 bytes) (λ flags. cond (are_method_flags class flags.0) (Ok flags) (Err fault.Flags))
    x e in
    let p = passed_ok (are_method_flags class b.0.0) fault.Flags (Ok b.0) x b.2 in
    let t = number_takes w16 wide16 bytes b.0.0 b.0.1 fits b.1 in
    subst (λ (y : ℕ × List ℕ). Takes bytes (u2 y.0) y.1 × (y.0 < 2 ^ 16) × (are_method_flags class y.0 ≡ true))
    (ok_is b.0 x p.1) (t.0, t.1, p.0)

flags_again : (class flags : ℕ) (rest : List ℕ) → flags < 2 ^ 16 → are_method_flags class flags ≡ true
    → method_flags_from class (u2 flags ++ rest) ≡ Ok (flags, rest)
unfolding method_flags_from
flags_again class flags rest small agree = rw (number_again w16 wide16 flags rest small, agree) refl

-- ---- methods

pub method_takes : (pool : List Entry) (class : ℕ) (bytes : List ℕ) (x : MethodPart × List ℕ) → IsBytes bytes
    → method_from pool class bytes ≡ Ok x → Found (SpellsMethod pool class) bytes x
unfolding method_from
method_takes pool class bytes x fits e =
    let a = bind_ok (method_flags_from class bytes) (λ flags. tested_from pool is_method_name flags.1
    >>= λ name. tested_from pool (method_type_test (has flags.0 0x0008)) name.1
    >>= λ type. codes_from pool (wants_code flags.0) type.1
    >>= λ code. Ok (
      record {
        flags = record { 0 = flags.0 };
        name = name.0.0;
        descriptor = type.0.0;
        code = code.0;
      },
      code.1,
    )) x e in
    let b = bind_ok (tested_from pool is_method_name a.0.1)
    (λ name. tested_from pool (method_type_test (has a.0.0 0x0008)) name.1
    >>= λ type. codes_from pool (wants_code a.0.0) type.1
    >>= λ code. Ok (
      record {
        flags = record { 0 = a.0.0 };
        name = name.0.0;
        descriptor = type.0.0;
        code = code.0;
      },
      code.1,
    )) x a.2 in
    let c = bind_ok (tested_from pool (method_type_test (has a.0.0 0x0008)) b.0.1)
    (λ type. codes_from pool (wants_code a.0.0) type.1
    >>= λ code. Ok (
      record { flags = record { 0 = a.0.0 }; name = b.0.0.0; descriptor = type.0.0; code = code.0 },
      code.1,
    )) x b.2 in
    let d = bind_ok (codes_from pool (wants_code a.0.0) c.0.1)
    (λ code. Ok (
      record { flags = record { 0 = a.0.0 }; name = b.0.0.0; descriptor = c.0.0.0; code = code.0 },
      code.1,
    )) x c.2 in
    let f = flags_take class bytes a.0 fits a.1 in
    let n = tested_takes pool is_method_name a.0.1 b.0 f.0.rest_fits b.1 in
    let t = tested_takes pool (method_type_test (has a.0.0 0x0008)) b.0.1 c.0 n.0.takes.rest_fits c.1 in
    let k = codes_take pool (wants_code a.0.0) c.0.1 d.0 t.0.takes.rest_fits d.1 in
    let made : MethodPart = record { flags = record { 0 = a.0.0 }; name = b.0.0.0; descriptor = c.0.0.0; code = d.0.0 }
    in
    let read : MethodPart × List ℕ = (made, d.0.1) in
    let tail = attributes_bytes k.attributes in
    let whole = Takes-then bytes (u2 a.0.0) a.0.1 (u2 b.0.0.0 ++ (u2 c.0.0.0 ++ tail)) d.0.1 f.0
    (Takes-then a.0.1 (u2 b.0.0.0) b.0.1 (u2 c.0.0.0 ++ tail) d.0.1 n.0.takes
    (Takes-then b.0.1 (u2 c.0.0.0) c.0.1 tail d.0.1 t.0.takes k.takes)) in
    subst (Found (SpellsMethod pool class) bytes) (ok_is read x d.2) (record {
      text = u2 a.0.0 ++ (u2 b.0.0.0 ++ (u2 c.0.0.0 ++ tail));
      takes = whole;
      spells = record {
        flags_fit = f.1;
        flags_agree = f.2;
        name_fits = n.0.small;
        name_is = ap (passes is_method_name) n.0.text ∙ n.1;
        descriptor_fits = t.0.small;
        descriptor_is = ap (passes (method_type_test (has a.0.0 0x0008))) t.0.text ∙ t.1;
        attributes = k.attributes;
        few = k.few;
        fit = k.fit;
        code_is = k.code;
        bytes_are = refl;
      };
    })

pub method_again : (pool : List Entry) (class : ℕ) (text : List ℕ) (m : MethodPart) (rest : List ℕ)
    → SpellsMethod pool class text m → method_from pool class (text ++ rest) ≡ Ok (m, rest)
unfolding method_from
method_again pool class text m rest s =
    let n = passed_text is_method_name (text_at pool m.name) s.name_is in
    let t = passed_text (method_type_test (has m.flags.0 0x0008)) (text_at pool m.descriptor) s.descriptor_is in
    let tail = attributes_bytes s.attributes in
    let end = tail ++ rest in
    let one : text ++ rest ≡ u2 m.flags.0 ++ (u2 m.name ++ (u2 m.descriptor ++ end)) =
    ap (λ (b : List ℕ). b ++ rest) s.bytes_are ∙ append_assoc (u2 m.flags.0) (u2 m.name ++ (u2 m.descriptor ++ tail))
    rest
    ∙ ap (λ (b : List ℕ). u2 m.flags.0 ++ b) (append_assoc (u2 m.name) (u2 m.descriptor ++ tail) rest
    ∙ ap (λ (b : List ℕ). u2 m.name ++ b) (append_assoc (u2 m.descriptor) tail rest)) in
    ap (method_from pool class) one ∙ rw (
      flags_again class m.flags.0 (u2 m.name ++ (u2 m.descriptor ++ end)) s.flags_fit s.flags_agree,
      tested_again pool is_method_name m.name n.0 (u2 m.descriptor ++ end) s.name_fits n.1 n.2,
      tested_again pool (method_type_test (has m.flags.0 0x0008)) m.descriptor t.0 end s.descriptor_fits t.1 t.2,
      codes_again pool (wants_code m.flags.0) s.attributes m.code rest s.few s.fit s.code_is,
    ) refl

-- ---- what is written

one_kept : (p : Attribute → Bool) (b : Bool) (a c : Attribute) (others : List Attribute) → cond b (a ∷ others) others
    ≡ c ∷ [] → ((b ≡ true) × (a ≡ c)) ⊎ ((b ≡ false) × (others ≡ c ∷ []))
one_kept p true a c others e = let same : a ≡ c = cc in inl (refl, same)
one_kept p false a c others e = inr (refl, e)

pub was_there : (pool : List Entry) (attributes : List Attribute) (c : Attribute)
    → AllByRecursion (AttributeFits pool) attributes → filter (is_code pool) attributes ≡ c ∷ [] → AttributeFits pool c
    × (is_code pool c ≡ true)
was_there pool [] c fit e = absurd cc
was_there pool (a ∷ attributes) c fit e =
    elim (one_kept (is_code pool) (is_code pool a) a c (filter (is_code pool) attributes) e) [
      | inl here ↦ subst (λ (b : Attribute). AttributeFits pool b × (is_code pool b ≡ true)) here.1 (fit.0, here.0)
      | inr later ↦ was_there pool attributes c fit.1 later.1
    ]

pub record CanBeWritten (pool : List Entry) (wanted : Bool) (o : Option CodePart) : Type 0 where
  pub few : length (code_attributes o) < 2 ^ 16
  pub fit : AllByRecursion (AttributeFits pool) (code_attributes o)
  pub code : SpellCode pool wanted (filter (is_code pool) (code_attributes o)) o

pub can_be_written : (pool : List Entry) (wanted : Bool) (attributes : List Attribute) (o : Option CodePart)
    → AllByRecursion (AttributeFits pool) attributes → SpellCode pool wanted (filter (is_code pool) attributes) o
    → CanBeWritten pool wanted o
can_be_written pool wanted attributes None fit s = record { few = omega arith; fit = tt; code = (s.0, refl) }
can_be_written pool wanted attributes (Some c) fit s =
    let w = was_there pool attributes (record { name = c.name; info = s.1 }) fit s.2 in
    let size = info_has c in
    let short = code_short pool s.1 c s.3 in
    let rows = s.3.rows_few in
    let kept : filter (is_code pool) (code_attribute c ∷ []) ≡ code_attribute c
    ∷ [] = ap (λ b. cond b (code_attribute c ∷ []) []) w.1 in
    record {
      few = omega arith;
      fit = (record { name = w.0.name; text = w.0.text; info = omega (arith, size, short, rows) }, tt);
      code = (s.0, code_info c, kept, code_written pool s.1 c s.3);
    }

pub method_written : (pool : List Entry) (class : ℕ) (bytes : List ℕ) (m : MethodPart) → SpellsMethod pool class bytes m
    → SpellsMethod pool class (method_bytes m) m
method_written pool class bytes m s =
    let w = can_be_written pool (wants_code m.flags.0) s.attributes m.code s.fit s.code_is in
    record {
      flags_fit = s.flags_fit;
      flags_agree = s.flags_agree;
      name_fits = s.name_fits;
      name_is = s.name_is;
      descriptor_fits = s.descriptor_fits;
      descriptor_is = s.descriptor_is;
      attributes = code_attributes m.code;
      few = w.few;
      fit = w.fit;
      code_is = w.code;
      bytes_are = refl;
    }

codes_fit : (pool : List Entry) (wanted : Bool) (attributes : List Attribute) (o : Option CodePart)
    → SpellCode pool wanted attributes o → CodesFit o
codes_fit pool wanted attributes None s = tt
codes_fit pool wanted attributes (Some c) s = (code_short pool s.1 c s.3, s.3.rows_few)

pub method_fits : (pool : List Entry) (class : ℕ) (bytes : List ℕ) (m : MethodPart) → SpellsMethod pool class bytes m
    → MethodFits m
method_fits pool class bytes m s = codes_fit pool (wants_code m.flags.0) (filter (is_code pool) s.attributes) m.code
    s.code_is
