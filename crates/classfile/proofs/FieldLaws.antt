-- A field that is read is spelled so, and what spells a field is read.
use Rattle.std.proofs.Common.{◌≡◌, ℕ, ◌^◌, ◌<◌, Bool, true, false, cond, eqb, List, [], ◌∷◌, ◌++◌, length, Option, Some}
use Rattle.std.proofs.Common.{None, Ok, Err, refl, sym, ap, subst, ◌∙◌, append_assoc, arith, w16, inl, inr, ◌⊎◌}
use Rattle.std.specs.Prelude.{filter}
use Rattle.std.specs.Int.{from_be_bytes}
use Rattle.std.specs.List.{flat_map, AllByRecursion}
use Rattle.std.proofs.lemmas.Bool.{eqb-true}
use Rattle.std.proofs.lemmas.Nat.{be_bytes_2, from_be_bytes-to_be_bytes_2}
use Rattle.model.specs.Texts.Names.{is_field_name}
use Rattle.model.specs.Texts.Descriptors.{is_field_descriptor}
use Rattle.model.specs.Texts.Flags.{has}
use Rattle.model.specs.ClassFiles.Numbers.{u2}
use Rattle.model.specs.ClassFiles.Pools.{entry_at}
use Rattle.model.specs.ClassFiles.References.{text_at}
use Rattle.model.specs.ClassFiles.Attributes.{Attribute, sized_bytes, attribute_bytes, attributes_bytes, AttributeFits}
use Rattle.model.specs.ClassFiles.Attributes.{passes}
use Rattle.model.specs.ClassFiles.Fields.{are_field_flags, is_value_of, is_constant_value, counts, constant_attribute}
use Rattle.model.specs.ClassFiles.Fields.{constant_attributes, ConstantFits, ConstantsFit, SpellsField, field_bytes}
use Rattle.model.specs.declared.class_files.Entry.{Entry}
use Rattle.model.specs.declared.class_files.ConstantValue.{ConstantValue}
use Rattle.model.specs.declared.class_files.FieldEntry.{FieldEntry}
use Rattle.model.specs.declared.class_files.FormatFault.TheVariants as fault
use Rattle.pool.specs.Reading.Steps.{◌>>=◌, number_at}
use Rattle.pool.proofs.Steps.{bind_ok, passed_ok, ok_is}
use Rattle.pool.proofs.FieldLemmas.{IsBytes, Takes, Takes-then, wide16, number_takes, number_again}
use Rattle.classfile.specs.Reading.Attributes.{sized_from, tested_from, attributes_from}
use Rattle.classfile.specs.Reading.Fields.{value_of, constant_from, constants_from, field_flags_from, field_from}
use Rattle.classfile.proofs.AttributeLemmas.{Sized, sized_takes, sized_again, tested_takes, tested_again, RunsBy, Runs}
use Rattle.classfile.proofs.AttributeLemmas.{attributes_take, attributes_again}

-- ---- one ConstantValue

-- a first ConstantValue is taken, a second one is not
abbrev pub TakesConstant : List Entry → List ℕ → Option ConstantValue → Attribute → Option ConstantValue → Type 0
TakesConstant pool type (Some c) a t = ⊥
TakesConstant pool type None a t = (c : ConstantValue) × (t ≡ Some c) × (a ≡ constant_attribute c)
    × ConstantFits pool type c

value_takes : (pool : List Entry) (type info : List ℕ) (v : ℕ) → IsBytes info → value_of pool type info ≡ Ok v
    → (u2 v ≡ info) × (v < 2 ^ 16) × (is_value_of type (entry_at pool v) ≡ true)
unfolding value_of
value_takes pool type info v fits e =
    let n = from_be_bytes w16 info in
    let p = passed_ok (eqb (length info) 2) fault.Attribute (cond (is_value_of type (entry_at pool n)) (Ok n)
    (Err fault.Index)) v e in
    let q = passed_ok (is_value_of type (entry_at pool n)) fault.Index (Ok n) v p.1 in
    let two : length info ≡ 2 = eqb-true _ _ p.0 in
    subst (λ k. (u2 k ≡ info) × (k < 2 ^ 16) × (is_value_of type (entry_at pool k) ≡ true)) (ok_is n v q.1) (
      be_bytes_2
          info n two fits refl,
      wide16.below info fits,
      q.0,
    )

value_again : (pool : List Entry) (type : List ℕ) (v : ℕ) → v < 2 ^ 16 → is_value_of type (entry_at pool v) ≡ true
    → value_of pool type (u2 v) ≡ Ok v
unfolding value_of
value_again pool type v small kind = rw (from_be_bytes-to_be_bytes_2 v small, kind) refl

constant_takes : (pool : List Entry) (type : List ℕ) (s : Option ConstantValue) (name : ℕ) (bytes : List ℕ)
    (x : Option ConstantValue × List ℕ) → IsBytes bytes → constant_from pool type s name bytes ≡ Ok x
    → (info : List ℕ) × Sized bytes info x.1 × TakesConstant pool type s (record { name = name; info = info }) x.0
unfolding constant_from
constant_takes pool type (Some c) name bytes x fits e = absurd cc
constant_takes pool type None name bytes x fits e =
    let a = bind_ok (sized_from bytes) (λ info. value_of pool type
    info.0 >>= λ value. Ok (Some (record { name = name; value = value }), info.1)) x e in
    let b = bind_ok (value_of pool type a.0.0) (λ value. Ok (Some (record { name = name; value = value }), a.0.1)) x a.2
    in
    let z = sized_takes bytes a.0 fits a.1 in
    let v = value_takes pool type a.0.0 b.0 z.bytes_fit b.1 in
    let c : ConstantValue = record { name = name; value = b.0 } in
    let made : Option ConstantValue × List ℕ = (Some c, a.0.1) in
    subst (λ (y : Option ConstantValue × List ℕ). (info : List ℕ) × Sized bytes info y.1
    × TakesConstant pool type None (record { name = name; info = info }) y.0) (ok_is made x b.2) (
      a.0.0,
      z,
      (
        c,
        refl,
        ap (λ (i : List ℕ). record { name = name; info = i }) (sym v.0),
        record { value = v.1; kind = v.2 },
      ),
    )

constant_again : (pool : List Entry) (type : List ℕ) (s : Option ConstantValue) (a : Attribute)
    (t : Option ConstantValue) (rest : List ℕ) → TakesConstant pool type s a t → length a.info < 2 ^ 32
    → constant_from pool type s a.name (sized_bytes a.info ++ rest) ≡ Ok (t, rest)
unfolding constant_from
constant_again pool type (Some c) a t rest does small = absurd does
constant_again pool type None a t rest does small =
    let c = does.0 in
    let same = sym does.2 in
    let here : constant_from pool type None c.name (sized_bytes (u2 c.value) ++ rest)
    ≡ Ok (Some c, rest) = rw (
      sized_again (u2 c.value) rest (omega arith),
      value_again pool type c.value does.3.value does.3.kind,
    ) refl in
    subst (λ (b : Attribute). constant_from pool type None b.name (sized_bytes b.info ++ rest) ≡ Ok (t, rest)) same
    (here ∙ ap (λ (o : Option ConstantValue). Ok (o, rest)) (sym does.1))

-- ---- those that count

module _ (pool : List Entry) (static : Bool) (type : List ℕ) where
  abbrev OneRuns : Bool → Option ConstantValue → Attribute → (Option ConstantValue → Type 0) → Type 0
  OneRuns = RunsBy pool (is_constant_value static) (constant_from pool type) (TakesConstant pool type)

  abbrev AllRun : Option ConstantValue → List Attribute → Option ConstantValue → Type 0
  AllRun = Runs pool (is_constant_value static) (constant_from pool type) (TakesConstant pool type)

  abbrev those : List Attribute → List Attribute
  those attributes = filter (counts pool static) attributes

  none_after : (b : Bool) (c : ConstantValue) (a : Attribute) (others : Option ConstantValue → Type 0)
      → OneRuns b (Some c) a others → (b ≡ false) × others (Some c)
  none_after true c a others h = absurd h.1
  none_after false c a others h = (refl, h)

  runs_after : (c : ConstantValue) (attributes : List Attribute) (t : Option ConstantValue)
      → AllRun (Some c) attributes t → (those attributes ≡ []) × (Some c ≡ t)
  runs_after c [] t h = (refl, h)
  runs_after c (a ∷ attributes) t h =
      let n = none_after (counts pool static a) c a (λ m. AllRun m attributes t) h in
      let r = runs_after c attributes t n.1 in
      (rw n.0 r.0, r.1)

  found_by : (b : Bool) (a : Attribute) (attributes : List Attribute) (t : Option ConstantValue)
      → OneRuns b None a (λ m. AllRun m attributes t)
      → (AllRun None attributes t → (those attributes ≡ constant_attributes t) × ConstantsFit pool type t)
      → (cond b (a ∷ those attributes) (those attributes) ≡ constant_attributes t) × ConstantsFit pool type t
  found_by true a attributes t h others =
      let c = h.1.0 in
      let later : AllRun (Some c) attributes t = subst (λ (m : Option ConstantValue). AllRun m attributes t) h.1.1 h.2
      in
      let r = runs_after c attributes t later in
      subst (λ (o : Option ConstantValue). (a ∷ those attributes ≡ constant_attributes o) × ConstantsFit pool type o)
      r.1 (
        ap (λ (b : Attribute). b ∷ those attributes) h.1.2 ∙ ap (λ (list : List Attribute). constant_attribute c ∷ list)
            r.0,
        h.1.3,
      )
  found_by false a attributes t h others = others h

  pub runs_found : (attributes : List Attribute) (t : Option ConstantValue) → AllRun None attributes t
      → (those attributes ≡ constant_attributes t) × ConstantsFit pool type t
  runs_found [] t h = subst (λ (o : Option ConstantValue). ([] ≡ constant_attributes o) × ConstantsFit pool type o) h
      (refl, tt)
  runs_found (a ∷ attributes) t h = found_by (counts pool static a) a attributes t h (runs_found attributes t)

  skip_by : (b : Bool) (s : Option ConstantValue) (a : Attribute) (attributes : List Attribute)
      → cond b (a ∷ those attributes) (those attributes) ≡ [] → (those attributes ≡ [] → AllRun s attributes s)
      → OneRuns b s a (λ m. AllRun m attributes s)
  skip_by true s a attributes e others = absurd cc
  skip_by false s a attributes e others = others e

  runs_past : (s : Option ConstantValue) (attributes : List Attribute) → those attributes ≡ [] → AllRun s attributes s
  runs_past s [] e = refl
  runs_past s (a ∷ attributes) e = skip_by (counts pool static a) s a attributes e (runs_past s attributes)

  counted_by : (b : Bool) (a : Attribute) (attributes : List Attribute) (t : Option ConstantValue)
      → ConstantsFit pool type t → cond b (a ∷ those attributes) (those attributes) ≡ constant_attributes t
      → (those attributes ≡ constant_attributes t → AllRun None attributes t)
      → OneRuns b None a (λ m. AllRun m attributes t)
  counted_by true a attributes None fits e others = absurd cc
  counted_by true a attributes (Some c) fits e others =
      let first : a ≡ constant_attribute c = cc in
      let none : those attributes ≡ [] = cc in
      (Some c, (c, refl, first, fits), runs_past (Some c) attributes none)
  counted_by false a attributes t fits e others = others e

  pub found_runs : (attributes : List Attribute) (t : Option ConstantValue) → ConstantsFit pool type t
      → those attributes ≡ constant_attributes t → AllRun None attributes t
  found_runs [] None fits e = refl
  found_runs [] (Some c) fits e = absurd cc
  found_runs (a ∷ attributes) t fits e = counted_by (counts pool static a) a attributes t fits e
      (found_runs attributes t fits)

-- ---- attributes of a field

pub record AreConstants (pool : List Entry) (static : Bool) (type : List ℕ) (bytes : List ℕ) (x : Option ConstantValue
    × List ℕ) : Type 0 where
  pub attributes : List Attribute
  pub few : length attributes < 2 ^ 16
  pub fit : AllByRecursion (AttributeFits pool) attributes
  pub takes : Takes bytes (attributes_bytes attributes) x.1
  pub counted : filter (counts pool static) attributes ≡ constant_attributes x.0
  pub constant_fits : ConstantsFit pool type x.0

constants_take : (pool : List Entry) (static : Bool) (type bytes : List ℕ) (x : Option ConstantValue × List ℕ)
    → IsBytes bytes → constants_from pool static type bytes ≡ Ok x → AreConstants pool static type bytes x
unfolding constants_from
constants_take pool static type bytes x fits e =
    let wanted = is_constant_value static in
    let b = bind_ok (number_at w16 bytes) (λ count. attributes_from pool wanted (constant_from pool type) count.0 None
    count.1) x e in
    let t = number_takes w16 wide16 bytes b.0.0 b.0.1 fits b.1 in
    let r = attributes_take pool wanted (constant_from pool type) (TakesConstant pool type)
    (λ s name more y f h. constant_takes pool type s name more y f h) b.0.0 None b.0.1 x t.0.rest_fits b.2 in
    let f = runs_found pool static type r.attributes x.0 r.runs in
    record {
      attributes = r.attributes;
      few = omega (arith, r.number, t.1);
      fit = r.fit;
      takes = subst (λ k. Takes bytes (u2 k ++ flat_map attribute_bytes r.attributes) x.1) (sym r.number)
          (Takes-then bytes (u2 b.0.0) b.0.1 (flat_map attribute_bytes r.attributes) x.1 t.0 r.takes);
      counted = f.0;
      constant_fits = f.1;
    }

constants_again : (pool : List Entry) (static : Bool) (type : List ℕ) (attributes : List Attribute)
    (found : Option ConstantValue) (rest : List ℕ) → length attributes < 2 ^ 16
    → AllByRecursion (AttributeFits pool) attributes
    → filter (counts pool static) attributes ≡ constant_attributes found → ConstantsFit pool type found
    → constants_from pool static type (attributes_bytes attributes ++ rest) ≡ Ok (found, rest)
unfolding constants_from
constants_again pool static type attributes found rest few fit counted fits =
    let wanted = is_constant_value static in
    let runs = found_runs pool static type attributes found fits counted in
    let regrouped = append_assoc (u2 (length attributes)) (flat_map attribute_bytes attributes) rest in
    ap (constants_from pool static type) regrouped
    ∙ rw (number_again w16 wide16 (length attributes) (flat_map attribute_bytes attributes ++ rest) few)
    (attributes_again pool wanted (constant_from pool type) (TakesConstant pool type)
    (λ s a t more does small. constant_again pool type s a t more does small) attributes None found rest fit runs)

-- ---- flags

flags_take : (class : ℕ) (bytes : List ℕ) (x : ℕ × List ℕ) → IsBytes bytes → field_flags_from class bytes ≡ Ok x
    → Takes bytes (u2 x.0) x.1 × (x.0 < 2 ^ 16) × (are_field_flags class x.0 ≡ true)
unfolding field_flags_from
flags_take class bytes x fits e =
    let b = bind_ok (number_at w16 bytes) (λ flags. cond (are_field_flags class flags.0) (Ok flags) (Err fault.Flags)) x
    e in
    let p = passed_ok (are_field_flags class b.0.0) fault.Flags (Ok b.0) x b.2 in
    let t = number_takes w16 wide16 bytes b.0.0 b.0.1 fits b.1 in
    subst (λ (y : ℕ × List ℕ). Takes bytes (u2 y.0) y.1 × (y.0 < 2 ^ 16) × (are_field_flags class y.0 ≡ true))
    (ok_is b.0 x p.1) (t.0, t.1, p.0)

flags_again : (class flags : ℕ) (rest : List ℕ) → flags < 2 ^ 16 → are_field_flags class flags ≡ true
    → field_flags_from class (u2 flags ++ rest) ≡ Ok (flags, rest)
unfolding field_flags_from
flags_again class flags rest small agree = rw (number_again w16 wide16 flags rest small, agree) refl

-- ---- fields

pub record IsField (pool : List Entry) (class : ℕ) (bytes : List ℕ) (x : FieldEntry × List ℕ) : Type 0 where
  pub text : List ℕ
  pub takes : Takes bytes text x.1
  pub spells : SpellsField pool class text x.0

pub field_takes : (pool : List Entry) (class : ℕ) (bytes : List ℕ) (x : FieldEntry × List ℕ) → IsBytes bytes
    → field_from pool class bytes ≡ Ok x → IsField pool class bytes x
unfolding field_from
field_takes pool class bytes x fits e =
    let a = bind_ok (field_flags_from class bytes) (λ flags. tested_from pool is_field_name flags.1
    >>= λ name. tested_from pool is_field_descriptor name.1 >>= λ type. constants_from pool (has flags.0 0x0008)
    type.0.1 type.1 >>= λ constant. Ok (
      record {
        flags = record { 0 = flags.0 };
        name = name.0.0;
        descriptor = type.0.0;
        constant = constant.0;
      },
      constant.1,
    )) x e in
    let b = bind_ok (tested_from pool is_field_name a.0.1) (λ name. tested_from pool is_field_descriptor name.1
    >>= λ type. constants_from pool (has a.0.0 0x0008) type.0.1 type.1
    >>= λ constant. Ok (
      record {
        flags = record { 0 = a.0.0 };
        name = name.0.0;
        descriptor = type.0.0;
        constant = constant.0;
      },
      constant.1,
    )) x a.2 in
    let c = bind_ok (tested_from pool is_field_descriptor b.0.1) (λ type. constants_from pool (has a.0.0 0x0008)
    type.0.1 type.1 >>= λ constant. Ok (
      record {
        flags = record { 0 = a.0.0 };
        name = b.0.0.0;
        descriptor = type.0.0;
        constant = constant.0;
      },
      constant.1,
    )) x b.2 in
    let d = bind_ok (constants_from pool (has a.0.0 0x0008) c.0.0.1 c.0.1)
    (λ constant. Ok (
      record {
        flags = record { 0 = a.0.0 };
        name = b.0.0.0;
        descriptor = c.0.0.0;
        constant = constant.0;
      },
      constant.1,
    )) x c.2 in
    let f = flags_take class bytes a.0 fits a.1 in
    let n = tested_takes pool is_field_name a.0.1 b.0 f.0.rest_fits b.1 in
    let t = tested_takes pool is_field_descriptor b.0.1 c.0 n.0.takes.rest_fits c.1 in
    let k = constants_take pool (has a.0.0 0x0008) c.0.0.1 c.0.1 d.0 t.0.takes.rest_fits d.1 in
    let made : FieldEntry = record {
      flags = record { 0 = a.0.0 };
      name = b.0.0.0;
      descriptor = c.0.0.0;
      constant = d.0.0;
    } in
    let read : FieldEntry × List ℕ = (made, d.0.1) in
    let tail = attributes_bytes k.attributes in
    let whole = Takes-then bytes (u2 a.0.0) a.0.1 (u2 b.0.0.0 ++ (u2 c.0.0.0 ++ tail)) d.0.1 f.0
    (Takes-then a.0.1 (u2 b.0.0.0) b.0.1 (u2 c.0.0.0 ++ tail) d.0.1 n.0.takes
    (Takes-then b.0.1 (u2 c.0.0.0) c.0.1 tail d.0.1 t.0.takes k.takes)) in
    subst (IsField pool class bytes) (ok_is read x d.2) (record {
      text = u2 a.0.0 ++ (u2 b.0.0.0 ++ (u2 c.0.0.0 ++ tail));
      takes = whole;
      spells = record {
        attributes = k.attributes;
        few = k.few;
        fit = k.fit;
        bytes_are = refl;
        counted = k.counted;
        flags_fit = f.1;
        flags_agree = f.2;
        name_fits = n.0.small;
        name_is = ap (passes is_field_name) n.0.text ∙ n.1;
        descriptor_fits = t.0.small;
        type = c.0.0.1;
        descriptor_at = t.0.text;
        descriptor_is = t.1;
        constant_fits = k.constant_fits;
      };
    })

pub passed_text : (test : List ℕ → Bool) (o : Option (List ℕ)) → passes test o ≡ true → (text : List ℕ)
    × (o ≡ Some text) × (test text ≡ true)
passed_text test None e = absurd cc
passed_text test (Some text) e = (text, refl, e)

pub field_again : (pool : List Entry) (class : ℕ) (text : List ℕ) (f : FieldEntry) (rest : List ℕ)
    → SpellsField pool class text f → field_from pool class (text ++ rest) ≡ Ok (f, rest)
unfolding field_from
field_again pool class text f rest s =
    let n = passed_text is_field_name (text_at pool f.name) s.name_is in
    let tail = attributes_bytes s.attributes in
    let end = tail ++ rest in
    let one : text ++ rest ≡ u2 f.flags.0 ++ (u2 f.name ++ (u2 f.descriptor ++ end)) =
    ap (λ (b : List ℕ). b ++ rest) s.bytes_are ∙ append_assoc (u2 f.flags.0) (u2 f.name ++ (u2 f.descriptor ++ tail))
    rest
    ∙ ap (λ (b : List ℕ). u2 f.flags.0 ++ b) (append_assoc (u2 f.name) (u2 f.descriptor ++ tail) rest
    ∙ ap (λ (b : List ℕ). u2 f.name ++ b) (append_assoc (u2 f.descriptor) tail rest)) in
    ap (field_from pool class) one ∙ rw (
      flags_again class f.flags.0 (u2 f.name ++ (u2 f.descriptor ++ end)) s.flags_fit s.flags_agree,
      tested_again pool is_field_name f.name n.0 (u2 f.descriptor ++ end) s.name_fits n.1 n.2,
      tested_again pool is_field_descriptor f.descriptor s.type end s.descriptor_fits s.descriptor_at s.descriptor_is,
      constants_again pool (has f.flags.0 0x0008) s.type s.attributes f.constant rest s.few s.fit s.counted
          s.constant_fits,
    ) refl

-- ---- what is written

kept_by : (b : Bool) (a : Attribute) (others : List Attribute) (c : Attribute) → cond b (a ∷ others) others ≡ c ∷ []
    → ((b ≡ true) × (a ≡ c)) ⊎ ((b ≡ false) × (others ≡ c ∷ []))
kept_by true a others c e = let same : a ≡ c = cc in inl (refl, same)
kept_by false a others c e = inr (refl, e)

-- an attribute that counts was among those that stand there
pub was_there : (pool : List Entry) (static : Bool) (attributes : List Attribute) (c : Attribute)
    → AllByRecursion (AttributeFits pool) attributes → filter (counts pool static) attributes ≡ c ∷ []
    → AttributeFits pool c × (counts pool static c ≡ true)
was_there pool static [] c fit e = absurd cc
was_there pool static (a ∷ attributes) c fit e =
    elim (kept_by (counts pool static a) a (filter (counts pool static) attributes) c e) [
      | inl here ↦ subst (λ (b : Attribute). AttributeFits pool b × (counts pool static b ≡ true)) here.1 (
        fit.0,
        here.0,
      )
      | inr later ↦ was_there pool static attributes c fit.1 later.1
    ]

pub record CanBeWritten (pool : List Entry) (static : Bool) (o : Option ConstantValue) : Type 0 where
  pub few : length (constant_attributes o) < 2 ^ 16
  pub fit : AllByRecursion (AttributeFits pool) (constant_attributes o)
  pub counted : filter (counts pool static) (constant_attributes o) ≡ constant_attributes o

can_be_written : (pool : List Entry) (static : Bool) (attributes : List Attribute) (o : Option ConstantValue)
    → AllByRecursion (AttributeFits pool) attributes → filter (counts pool static) attributes ≡ constant_attributes o
    → CanBeWritten pool static o
can_be_written pool static attributes None fit e = record { few = omega arith; fit = tt; counted = refl }
can_be_written pool static attributes (Some c) fit e =
    let w = was_there pool static attributes (constant_attribute c) fit e in
    record { few = omega arith; fit = (w.0, tt); counted = rw w.1 refl }

pub field_written : (pool : List Entry) (class : ℕ) (bytes : List ℕ) (f : FieldEntry) → SpellsField pool class bytes f
    → SpellsField pool class (field_bytes f) f
field_written pool class bytes f s =
    let w = can_be_written pool (has f.flags.0 0x0008) s.attributes f.constant s.fit s.counted in
    record {
      attributes = constant_attributes f.constant;
      few = w.few;
      fit = w.fit;
      bytes_are = refl;
      counted = w.counted;
      flags_fit = s.flags_fit;
      flags_agree = s.flags_agree;
      name_fits = s.name_fits;
      name_is = s.name_is;
      descriptor_fits = s.descriptor_fits;
      type = s.type;
      descriptor_at = s.descriptor_at;
      descriptor_is = s.descriptor_is;
      constant_fits = s.constant_fits;
    }
