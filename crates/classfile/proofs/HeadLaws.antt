-- A class file's head that is read is spelled so, and what spells a head is read.
use Rattle.std.proofs.Common.{◌≡◌, ℕ, ◌^◌, ◌<◌, true, cond, eqb, List, [], ◌∷◌, ◌++◌, Result, Ok, Err, refl, sym, ap}
use Rattle.std.proofs.Common.{subst, ◌∙◌, append_assoc, arith, w16, w32, Bor}
use Rattle.std.proofs.lemmas.Bool.{eqb-true}
use Rattle.model.specs.ClassFiles.Numbers.{u2, u4}
use Rattle.model.specs.ClassFiles.Pools.{pool_bytes, PoolFits}
use Rattle.model.specs.ClassFiles.References.{AreSound}
use Rattle.model.specs.ClassFiles.Fields.{SpellsField, field_bytes}
use Rattle.model.specs.ClassFiles.Heads.{HeadPart, opening, are_class_flags, is_class, SpellsClass, SpellsAfterPool}
use Rattle.model.specs.ClassFiles.Heads.{SpellsHead, list_bytes, after_bytes, head_bytes}
use Rattle.model.specs.ClassFiles.Lists.{SpellsAll}
use Rattle.std.specs.List.{flat_map}
use Rattle.std.specs.Prelude.{IfOk}
use Rattle.pool.specs.declared.error.ReadError.{ReadError}
use Rattle.model.specs.declared.class_files.Entry.{Entry}
use Rattle.model.specs.declared.class_files.FieldEntry.{FieldEntry}
use Rattle.model.specs.declared.class_files.FormatFault.TheVariants as fault
use Rattle.pool.specs.Reading.Steps.{◌>>=◌, Gives, number_at}
use Rattle.pool.specs.Reading.Pools.{pool_from}
use Rattle.pool.proofs.Steps.{bind_ok, passed_ok, ok_is}
use Rattle.pool.proofs.FieldLemmas.{IsBytes, Takes, Takes-then, wide16, wide32, number_takes, number_again}
use Rattle.pool.proofs.PoolLemmas.{pool_takes, pool_again}
use Rattle.classfile.specs.Reading.Fields.{field_from}
use Rattle.classfile.specs.Reading.Lists.{list_from}
use Rattle.classfile.specs.Reading.Heads.{opening_from, class_flags_from, class_from, after_from, head_from}
use Rattle.classfile.proofs.FieldLaws.{field_takes, field_again, field_written}
use Rattle.classfile.proofs.ListLaws.{Found, list_takes, list_again}

-- ---- magic number and version

opening_takes : (bytes : List ℕ) (x : ℕ × List ℕ) → IsBytes bytes → opening_from bytes ≡ Ok x → Takes bytes opening x.1
unfolding opening_from
opening_takes bytes x fits e =
    let a = bind_ok (number_at w32 bytes) (λ magic. cond (eqb magic.0 0xcafebabe) (number_at w16 magic.1)
    (Err fault.Magic) >>= λ minor. cond (eqb minor.0 0) (number_at w16 minor.1) (Err fault.Version)
    >>= λ major. cond (eqb major.0 49) (Ok major) (Err fault.Version)) x e in
    let b = bind_ok (cond (eqb a.0.0 0xcafebabe) (number_at w16 a.0.1) (Err fault.Magic))
    (λ minor. cond (eqb minor.0 0) (number_at w16 minor.1) (Err fault.Version)
    >>= λ major. cond (eqb major.0 49) (Ok major) (Err fault.Version)) x a.2 in
    let c = bind_ok (cond (eqb b.0.0 0) (number_at w16 b.0.1) (Err fault.Version))
    (λ major. cond (eqb major.0 49) (Ok major) (Err fault.Version)) x b.2 in
    let p = passed_ok (eqb a.0.0 0xcafebabe) fault.Magic (number_at w16 a.0.1) b.0 b.1 in
    let q = passed_ok (eqb b.0.0 0) fault.Version (number_at w16 b.0.1) c.0 c.1 in
    let r = passed_ok (eqb c.0.0 49) fault.Version (Ok c.0) x c.2 in
    let t0 = number_takes w32 wide32 bytes a.0.0 a.0.1 fits a.1 in
    let t1 = number_takes w16 wide16 a.0.1 b.0.0 b.0.1 t0.0.rest_fits p.1 in
    let t2 = number_takes w16 wide16 b.0.1 c.0.0 c.0.1 t1.0.rest_fits q.1 in
    let magic : u4 a.0.0 ≡ u4 0xcafebabe = ap u4 (eqb-true _ _ p.0) in
    let minor : u2 b.0.0 ≡ u2 0 = ap u2 (eqb-true _ _ q.0) in
    let major : u2 c.0.0 ≡ u2 49 = ap u2 (eqb-true _ _ r.0) in
    let whole = Takes-then bytes (u4 a.0.0) a.0.1 (u2 b.0.0 ++ u2 c.0.0) c.0.1 t0.0
    (Takes-then a.0.1 (u2 b.0.0) b.0.1 (u2 c.0.0) c.0.1 t1.0 t2.0) in
    let end : c.0.1 ≡ x.1 = ap (λ (y : ℕ × List ℕ). y.1) (ok_is c.0 x r.1) in
    let spelled : u4 a.0.0 ++ (u2 b.0.0 ++ u2 c.0.0) ≡ opening = ap (λ (t : List ℕ). t ++ (u2 b.0.0 ++ u2 c.0.0)) magic
    ∙ ap (λ (t : List ℕ). u4 0xcafebabe ++ (t ++ u2 c.0.0)) minor
    ∙ ap (λ (t : List ℕ). u4 0xcafebabe ++ (u2 0 ++ t)) major in
    subst (λ (t : List ℕ). Takes bytes opening t) end (subst (λ (t : List ℕ). Takes bytes t c.0.1) spelled whole)

pub opening_again : (rest : List ℕ) → opening_from (opening ++ rest) ≡ Ok (49, rest)
unfolding opening_from
opening_again rest =
    let one = number_again w32 wide32 0xcafebabe (u2 0 ++ (u2 49 ++ rest)) (omega arith) in
    let two = number_again w16 wide16 0 (u2 49 ++ rest) (omega arith) in
    let three = number_again w16 wide16 49 rest (omega arith) in
    rw (one, two, three) refl

-- ---- flags and classes

flags_take : (bytes : List ℕ) (x : ℕ × List ℕ) → IsBytes bytes → class_flags_from bytes ≡ Ok x
    → Takes bytes (u2 x.0) x.1 × (x.0 < 2 ^ 16) × (are_class_flags x.0 ≡ true)
unfolding class_flags_from
flags_take bytes x fits e =
    let b = bind_ok (number_at w16 bytes) (λ flags. cond (are_class_flags flags.0) (Ok flags) (Err fault.Flags)) x e in
    let p = passed_ok (are_class_flags b.0.0) fault.Flags (Ok b.0) x b.2 in
    let t = number_takes w16 wide16 bytes b.0.0 b.0.1 fits b.1 in
    subst (λ (y : ℕ × List ℕ). Takes bytes (u2 y.0) y.1 × (y.0 < 2 ^ 16) × (are_class_flags y.0 ≡ true))
    (ok_is b.0 x p.1) (t.0, t.1, p.0)

flags_again : (flags : ℕ) (rest : List ℕ) → flags < 2 ^ 16 → are_class_flags flags ≡ true
    → class_flags_from (u2 flags ++ rest) ≡ Ok (flags, rest)
unfolding class_flags_from
flags_again flags rest small agree = rw (number_again w16 wide16 flags rest small, agree) refl

class_takes : (pool : List Entry) (bytes : List ℕ) (x : ℕ × List ℕ) → IsBytes bytes → class_from pool bytes ≡ Ok x
    → Found (SpellsClass pool) bytes x
unfolding class_from
class_takes pool bytes x fits e =
    let b = bind_ok (number_at w16 bytes) (λ n. cond (is_class pool n.0) (Ok n) (Err fault.Index)) x e in
    let p = passed_ok (is_class pool b.0.0) fault.Index (Ok b.0) x b.2 in
    let t = number_takes w16 wide16 bytes b.0.0 b.0.1 fits b.1 in
    subst (Found (SpellsClass pool) bytes) (ok_is b.0 x p.1) (record {
      text = u2 b.0.0;
      takes = t.0;
      spells = (refl, t.1, p.0);
    })

class_again : (pool : List Entry) (text : List ℕ) (n : ℕ) (rest : List ℕ) → SpellsClass pool text n
    → class_from pool (text ++ rest) ≡ Ok (n, rest)
unfolding class_from
class_again pool text n rest s = ap (λ (t : List ℕ). class_from pool (t ++ rest)) s.0
    ∙ rw (number_again w16 wide16 n rest s.1, s.2) refl

field_found : (pool : List Entry) (class : ℕ) (bytes : List ℕ) (x : FieldEntry × List ℕ) → IsBytes bytes
    → field_from pool class bytes ≡ Ok x → Found (SpellsField pool class) bytes x
field_found pool class bytes x fits e = let f = field_takes pool class bytes x fits e
    in record { text = f.text; takes = f.takes; spells = f.spells }

-- ---- what stands after the pool

record IsAfter (pool : List Entry) (bytes : List ℕ) (x : HeadPart × List ℕ) : Type 0 where
  pub text : List ℕ
  pub takes : Takes bytes text x.1
  pub spells : SpellsAfterPool text x.0
  pub pool_is : pool ≡ x.0.pool

after_takes : (pool : List Entry) (bytes : List ℕ) (x : HeadPart × List ℕ) → IsBytes bytes → after_from pool bytes
    ≡ Ok x → IsAfter pool bytes x
unfolding after_from
after_takes pool bytes x fits e =
    let a = bind_ok (class_flags_from bytes) (λ flags. class_from pool flags.1 >>= λ class. class_from pool class.1
    >>= λ superclass. list_from (class_from pool) superclass.1 >>= λ
    interfaces. list_from (field_from pool flags.0) interfaces.1
    >>= λ fields. Ok (
      record {
        pool = pool;
        flags = record { 0 = flags.0 };
        class = class.0;
        superclass = superclass.0;
        interfaces = interfaces.0;
        fields = fields.0;
      },
      fields.1,
    )) x e in
    let b = bind_ok (class_from pool a.0.1) (λ class. class_from pool class.1
    >>= λ superclass. list_from (class_from pool) superclass.1 >>= λ interfaces. list_from (field_from pool a.0.0)
    interfaces.1 >>= λ fields. Ok (
      record {
        pool = pool;
        flags = record { 0 = a.0.0 };
        class = class.0;
        superclass = superclass.0;
        interfaces = interfaces.0;
        fields = fields.0;
      },
      fields.1,
    )) x a.2 in
    let c = bind_ok (class_from pool b.0.1) (λ superclass. list_from (class_from pool) superclass.1 >>= λ
    interfaces. list_from (field_from pool a.0.0) interfaces.1
    >>= λ fields. Ok (
      record {
        pool = pool;
        flags = record { 0 = a.0.0 };
        class = b.0.0;
        superclass = superclass.0;
        interfaces = interfaces.0;
        fields = fields.0;
      },
      fields.1,
    )) x b.2 in
    let d = bind_ok (list_from (class_from pool) c.0.1) (λ interfaces. list_from (field_from pool a.0.0) interfaces.1
    >>= λ fields. Ok (
      record {
        pool = pool;
        flags = record { 0 = a.0.0 };
        class = b.0.0;
        superclass = c.0.0;
        interfaces = interfaces.0;
        fields = fields.0;
      },
      fields.1,
    )) x c.2 in
    let f = bind_ok (list_from (field_from pool a.0.0) d.0.1)
    (λ fields. Ok (
      record {
        pool = pool;
        flags = record { 0 = a.0.0 };
        class = b.0.0;
        superclass = c.0.0;
        interfaces = d.0.0;
        fields = fields.0;
      },
      fields.1,
    )) x d.2 in
    let ta = flags_take bytes a.0 fits a.1 in
    let tb = class_takes pool a.0.1 b.0 ta.0.rest_fits b.1 in
    let tc = class_takes pool b.0.1 c.0 tb.takes.rest_fits c.1 in
    let td = list_takes (class_from pool) (SpellsClass pool) (λ more y h k. class_takes pool more y h k) c.0.1 d.0
    tc.takes.rest_fits d.1 in
    let tf = list_takes (field_from pool a.0.0) (SpellsField pool a.0.0) (λ more y h k. field_found pool a.0.0 more y h
    k) d.0.1 f.0 td.takes.rest_fits f.1 in
    let made : HeadPart = record {
      pool = pool;
      flags = record { 0 = a.0.0 };
      class = b.0.0;
      superclass = c.0.0;
      interfaces = d.0.0;
      fields = f.0.0;
    } in
    let read : HeadPart × List ℕ = (made, f.0.1) in
    let whole = Takes-then bytes (u2 a.0.0) a.0.1 (tb.text ++ (tc.text ++ (td.text ++ tf.text))) f.0.1 ta.0
    (Takes-then a.0.1 tb.text b.0.1 (tc.text ++ (td.text ++ tf.text)) f.0.1 tb.takes
    (Takes-then b.0.1 tc.text c.0.1 (td.text ++ tf.text) f.0.1 tc.takes
    (Takes-then c.0.1 td.text d.0.1 tf.text f.0.1 td.takes tf.takes))) in
    subst (IsAfter pool bytes) (ok_is read x f.2) (record {
      text = u2 a.0.0 ++ (tb.text ++ (tc.text ++ (td.text ++ tf.text)));
      takes = whole;
      pool_is = refl;
      spells = record {
        flags_fit = ta.1;
        flags_agree = ta.2;
        class_bytes = tb.text;
        class_spells = tb.spells;
        super_bytes = tc.text;
        super_spells = tc.spells;
        interface_bytes = td.text;
        interfaces_spell = td.spells;
        field_bytes = tf.text;
        fields_spell = tf.spells;
        bytes_are = refl;
      };
    })

after_again : (text : List ℕ) (h : HeadPart) (rest : List ℕ) → SpellsAfterPool text h → after_from h.pool (text ++ rest)
    ≡ Ok (h, rest)
unfolding after_from
after_again text h rest s =
    let one : text ++ rest ≡ u2 h.flags.0
    ++ (s.class_bytes ++ (s.super_bytes ++ (s.interface_bytes ++ (s.field_bytes ++ rest)))) = ap
    (λ (t : List ℕ). t ++ rest) s.bytes_are
    ∙ append_assoc (u2 h.flags.0) (s.class_bytes ++ (s.super_bytes ++ (s.interface_bytes ++ s.field_bytes))) rest
    ∙ ap (λ (t : List ℕ). u2 h.flags.0 ++ t) (append_assoc s.class_bytes (s.super_bytes
    ++ (s.interface_bytes ++ s.field_bytes)) rest
    ∙ ap (λ (t : List ℕ). s.class_bytes ++ t) (append_assoc s.super_bytes (s.interface_bytes ++ s.field_bytes) rest
    ∙ ap (λ (t : List ℕ). s.super_bytes ++ t) (append_assoc s.interface_bytes s.field_bytes rest))) in
    ap (after_from h.pool) one ∙ rw (
      flags_again h.flags.0 (s.class_bytes ++ (s.super_bytes ++ (s.interface_bytes ++ (s.field_bytes ++ rest))))
          s.flags_fit s.flags_agree,
      class_again h.pool s.class_bytes h.class (s.super_bytes ++ (s.interface_bytes ++ (s.field_bytes ++ rest)))
          s.class_spells,
      class_again h.pool s.super_bytes h.superclass (s.interface_bytes ++ (s.field_bytes ++ rest)) s.super_spells,
      list_again (class_from h.pool) (SpellsClass h.pool) (λ t x r k. class_again h.pool t x r k) s.interface_bytes
          h.interfaces (s.field_bytes ++ rest) s.interfaces_spell,
      list_again (field_from h.pool h.flags.0) (SpellsField h.pool h.flags.0) (λ t x r k. field_again h.pool h.flags.0 t
          x r k) s.field_bytes h.fields rest s.fields_spell,
    ) refl

-- ---- the head

pub head_takes : (bytes : List ℕ) (x : HeadPart × List ℕ) → IsBytes bytes → head_from bytes ≡ Ok x
    → Found SpellsHead bytes x
unfolding head_from
head_takes bytes x fits e =
    let a = bind_ok (opening_from bytes) (λ opening. pool_from opening.1 >>= λ pool. after_from pool.0 pool.1) x e in
    let b = bind_ok (pool_from a.0.1) (λ pool. after_from pool.0 pool.1) x a.2 in
    let ta = opening_takes bytes a.0 fits a.1 in
    let tb = pool_takes a.0.1 b.0 ta.rest_fits b.1 in
    let tc = after_takes b.0.0 b.0.1 x tb.0.rest_fits b.2 in
    let whole = Takes-then bytes opening a.0.1 (pool_bytes b.0.0 ++ tc.text) x.1 ta
    (Takes-then a.0.1 (pool_bytes b.0.0) b.0.1 tc.text x.1 tb.0 tc.takes) in
    record {
      text = opening ++ (pool_bytes b.0.0 ++ tc.text);
      takes = whole;
      spells = record {
        pool_fits = subst PoolFits tc.pool_is tb.1;
        pool_is_sound = subst AreSound tc.pool_is tb.2;
        after_pool = tc.text;
        following = tc.spells;
        bytes_are = ap (λ (p : List Entry). opening ++ (pool_bytes p ++ tc.text)) tc.pool_is;
      };
    }

pub head_again : (text : List ℕ) (h : HeadPart) (rest : List ℕ) → SpellsHead text h → head_from (text ++ rest)
    ≡ Ok (h, rest)
unfolding head_from
head_again text h rest s =
    let one : text ++ rest ≡ opening ++ (pool_bytes h.pool ++ (s.after_pool ++ rest)) = ap (λ (t : List ℕ). t ++ rest)
    s.bytes_are ∙ append_assoc opening (pool_bytes h.pool ++ s.after_pool) rest
    ∙ ap (λ (t : List ℕ). opening ++ t) (append_assoc (pool_bytes h.pool) s.after_pool rest) in
    ap head_from one ∙ rw (
      opening_again (pool_bytes h.pool ++ (s.after_pool ++ rest)),
      pool_again h.pool (s.after_pool ++ rest) s.pool_fits s.pool_is_sound,
    )
    (after_again s.after_pool h rest s.following)

-- ---- what is written

classes_written : (pool : List Entry) (body : List ℕ) (classes : List ℕ) → SpellsAll (SpellsClass pool) body classes
    → SpellsAll (SpellsClass pool) (flat_map u2 classes) classes
classes_written pool body [] s = refl
classes_written pool body (n ∷ classes) s = (
  u2 n,
  flat_map u2 classes,
  refl,
  (refl, s.3.1, s.3.2),
  classes_written pool s.1 classes s.4,
)

fields_written : (pool : List Entry) (class : ℕ) (body : List ℕ) (fields : List FieldEntry)
    → SpellsAll (SpellsField pool class) body fields → SpellsAll (SpellsField pool class) (flat_map field_bytes fields)
    fields
fields_written pool class body [] s = refl
fields_written pool class body (f ∷ fields) s = (
  field_bytes f,
  flat_map field_bytes fields,
  refl,
  field_written pool class s.0 f s.3,
  fields_written pool class s.1 fields s.4,
)

pub head_written : (bytes : List ℕ) (h : HeadPart) → SpellsHead bytes h → SpellsHead (head_bytes h) h
head_written bytes h s =
    let b = s.following in
    record {
      pool_fits = s.pool_fits;
      pool_is_sound = s.pool_is_sound;
      after_pool = after_bytes h;
      bytes_are = refl;
      following = record {
        flags_fit = b.flags_fit;
        flags_agree = b.flags_agree;
        class_bytes = u2 h.class;
        class_spells = (refl, b.class_spells.1, b.class_spells.2);
        super_bytes = u2 h.superclass;
        super_spells = (refl, b.super_spells.1, b.super_spells.2);
        interface_bytes = list_bytes u2 h.interfaces;
        interfaces_spell = record {
          few = b.interfaces_spell.few;
          body = flat_map u2 h.interfaces;
          bytes_are = refl;
          all = classes_written h.pool b.interfaces_spell.body h.interfaces b.interfaces_spell.all;
        };
        field_bytes = list_bytes field_bytes h.fields;
        fields_spell = record {
          few = b.fields_spell.few;
          body = flat_map field_bytes h.fields;
          bytes_are = refl;
          all = fields_written h.pool h.flags.0 b.fields_spell.body h.fields b.fields_spell.all;
        };
        bytes_are = refl;
      };
    }

-- ---- what a reader found

pub is_found : (bytes : List ℕ) (r : Result (HeadPart × Bor (List ℕ)) ReadError) → IsBytes bytes
    → Gives (λ x. (x.0, x.1.now)) r (head_from bytes) → IfOk r (λ x. (text : List ℕ) × SpellsHead text x.0
    × (bytes ≡ text ++ x.1.now))
is_found bytes (Ok x) fits given = let f = head_takes bytes (x.0, x.1.now) fits given
    in (f.text, f.spells, f.takes.parts)
is_found bytes (Err e) fits given = tt

pub one_alone : (a b x y : List ℕ) (h k : HeadPart) → SpellsHead a h → SpellsHead b k → a ++ x ≡ b ++ y → (h ≡ k)
    × (x ≡ y)
one_alone a b x y h k s t e =
    let same : head_from (a ++ x) ≡ Ok (k, y) = ap head_from e ∙ head_again b k y t in
    let both = ok_is (h, x) (k, y) (sym (head_again a h x s) ∙ same) in
    (ap (λ (p : HeadPart × List ℕ). p.0) both, ap (λ (p : HeadPart × List ℕ). p.1) both)
