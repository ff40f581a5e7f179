-- A class file that is read is the one that the bytes are, and what is a class file is read.
use Rattle.std.proofs.Common.{◌≡◌, ℕ, ◌^◌, ◌<◌, List, [], ◌∷◌, ◌++◌, length, Ok, refl, sym, ap, subst, ◌∙◌, arith}
use Rattle.std.specs.List.{flat_map, AllByRecursion}
use Rattle.std.proofs.lemmas.List.{append-nil}
use Rattle.model.specs.ClassFiles.Attributes.{Attribute, attributes_bytes, AttributeFits}
use Rattle.model.specs.ClassFiles.Classes.{ClassPart, IsClassFile}
use Rattle.model.specs.ClassFiles.Heads.{HeadPart, SpellsHead, SpellsList, list_bytes}
use Rattle.model.specs.ClassFiles.Lists.{SpellsAll}
use Rattle.model.specs.ClassFiles.Methods.{MethodPart, SpellsMethod}
use Rattle.model.specs.declared.class_files.Entry.{Entry}
use Rattle.pool.specs.Reading.Steps.{◌>>=◌, Fails}
use Rattle.pool.proofs.Steps.{bind_ok, ok_is}
use Rattle.pool.proofs.FieldLemmas.{IsBytes}
use Rattle.classfile.specs.declared.error.ClassError.{ClassError}
use Rattle.classfile.specs.declared.error.ClassError.TheVariants as error
use Rattle.classfile.specs.Reading.Answers.{shown}
use Rattle.classfile.specs.Reading.Attributes.{skipped_from}
use Rattle.classfile.specs.Reading.Classes.{ended, after_head_from, file_from}
use Rattle.classfile.specs.Reading.Heads.{head_from}
use Rattle.classfile.specs.Reading.Lists.{list_from}
use Rattle.classfile.specs.Reading.Methods.{method_from}
use Rattle.classfile.specs.Writing.{MethodFits, method_bytes, after_head_bytes}
use Rattle.classfile.proofs.HeadLaws.{head_takes, head_again}
use Rattle.classfile.proofs.ListLaws.{list_takes, list_again}
use Rattle.classfile.proofs.MethodLaws.{method_takes, method_again, method_written, method_fits}
use Rattle.classfile.proofs.SkippedLaws.{skipped_takes, skipped_again}

ended_is : {A : Type 0} (x y : A) (rest : List ℕ) → ended x rest ≡ Ok y → (x ≡ y) × (rest ≡ [])
ended_is x y [] e = (ok_is x y e, refl)
ended_is x y (b ∷ rest) e = absurd cc

-- ---- methods and attributes

pub record IsAfterHead (head : HeadPart) (bytes : List ℕ) (methods : List MethodPart) : Type 0 where
  pub text : List ℕ
  pub spell : SpellsList (SpellsMethod head.pool head.flags.0) text methods
  pub attributes : List Attribute
  pub few : length attributes < 2 ^ 16
  pub fit : AllByRecursion (AttributeFits head.pool) attributes
  pub bytes_are : bytes ≡ text ++ attributes_bytes attributes

after_head_is : (head : HeadPart) (bytes : List ℕ) (methods : List MethodPart) → IsBytes bytes
    → after_head_from head bytes ≡ Ok methods → IsAfterHead head bytes methods
unfolding after_head_from
after_head_is head bytes methods fits e =
    let read = method_from head.pool head.flags.0 in
    let a = bind_ok (list_from read bytes) (λ ms. skipped_from head.pool ms.1 >>= λ attributes. ended ms.0 attributes.1)
    methods e in
    let b = bind_ok (skipped_from head.pool a.0.1) (λ attributes. ended a.0.0 attributes.1) methods a.2 in
    let end = ended_is a.0.0 methods b.0.1 b.2 in
    let ta = list_takes read (SpellsMethod head.pool head.flags.0) (λ more y h k. method_takes head.pool head.flags.0
    more y h k) bytes a.0 fits a.1 in
    let tb = skipped_takes head.pool a.0.1 b.0 ta.takes.rest_fits b.1 in
    let last : a.0.1 ≡ attributes_bytes tb.attributes = tb.takes.parts
    ∙ ap (λ (t : List ℕ). attributes_bytes tb.attributes ++ t) end.1 ∙ append-nil (attributes_bytes tb.attributes)
    in
    subst (IsAfterHead head bytes) end.0 (record {
      text = ta.text;
      spell = ta.spells;
      attributes = tb.attributes;
      few = tb.few;
      fit = tb.fit;
      bytes_are = ta.takes.parts ∙ ap (λ (t : List ℕ). ta.text ++ t) last;
    })

after_head_again : (head : HeadPart) (text : List ℕ) (methods : List MethodPart) (attributes : List Attribute)
    → SpellsList (SpellsMethod head.pool head.flags.0) text methods → length attributes < 2 ^ 16
    → AllByRecursion (AttributeFits head.pool) attributes → after_head_from head (text ++ attributes_bytes attributes)
    ≡ Ok methods
unfolding after_head_from
after_head_again head text methods attributes spell few fit =
    let read = method_from head.pool head.flags.0 in
    let skipped : skipped_from head.pool (attributes_bytes attributes)
    ≡ Ok (0, []) = ap (skipped_from head.pool) (sym (append-nil (attributes_bytes attributes)))
    ∙ skipped_again head.pool attributes [] few fit in
    rw (
      list_again read (SpellsMethod head.pool head.flags.0) (λ t x r k. method_again head.pool head.flags.0 t x r k)
          text methods (attributes_bytes attributes) spell,
      skipped,
    ) refl

-- ---- the file

pub file_is : (bytes : List ℕ) (c : ClassPart) → IsBytes bytes → file_from bytes ≡ Ok c → IsClassFile bytes c
unfolding file_from
file_is bytes c fits e =
    let a = bind_ok (head_from bytes) (λ head. after_head_from head.0 head.1
    >>= λ methods. Ok (record { head = head.0; methods = methods })) c e in
    let b = bind_ok (after_head_from a.0.0 a.0.1) (λ methods. Ok (record { head = a.0.0; methods = methods })) c a.2 in
    let ta = head_takes bytes a.0 fits a.1 in
    let tb = after_head_is a.0.0 a.0.1 b.0 ta.takes.rest_fits b.1 in
    let made : ClassPart = record { head = a.0.0; methods = b.0 } in
    subst (IsClassFile bytes) (ok_is made c b.2) (record {
      head_bytes = ta.text;
      head_spells = ta.spells;
      method_bytes = tb.text;
      methods_spell = tb.spell;
      attributes = tb.attributes;
      few = tb.few;
      fit = tb.fit;
      bytes_are = ta.takes.parts ∙ ap (λ (t : List ℕ). ta.text ++ t) tb.bytes_are;
    })

pub file_again : (bytes : List ℕ) (c : ClassPart) → IsClassFile bytes c → file_from bytes ≡ Ok c
unfolding file_from
file_again bytes c s =
    ap file_from s.bytes_are ∙ rw (
      head_again s.head_bytes c.head (s.method_bytes ++ attributes_bytes s.attributes) s.head_spells,
      after_head_again c.head s.method_bytes c.methods s.attributes s.methods_spell s.few s.fit,
    ) refl

-- ---- what is answered

pub one_file : (bytes : List ℕ) (a b : ClassPart) → IsClassFile bytes a → IsClassFile bytes b → a ≡ b
one_file bytes a b s t = ok_is a b (sym (file_again bytes a s) ∙ file_again bytes b t)

-- a class file is refused for want of memory alone
pub only_memory : (e : ClassError) (bytes : List ℕ) (c : ClassPart) → Fails (shown e) (file_from bytes)
    → IsClassFile bytes c → e ≡ error.Memory
only_memory (error.Format f) bytes c fails s = let same = sym fails ∙ file_again bytes c s in absurd cc
only_memory (error.Code name descriptor f) bytes c fails s = let same = sym fails ∙ file_again bytes c s in absurd cc
only_memory error.PoolFull bytes c fails s = let same = sym fails ∙ file_again bytes c s in absurd cc
only_memory error.Memory bytes c fails s = refl

-- ---- what is written

methods_written : (pool : List Entry) (class : ℕ) (body : List ℕ) (methods : List MethodPart)
    → SpellsAll (SpellsMethod pool class) body methods
    → SpellsAll (SpellsMethod pool class) (flat_map method_bytes methods) methods
methods_written pool class body [] s = refl
methods_written pool class body (m ∷ methods) s = (
  method_bytes m,
  flat_map method_bytes methods,
  refl,
  method_written pool class s.0 m s.3,
  methods_written pool class s.1 methods s.4,
)

methods_fit_in : (pool : List Entry) (class : ℕ) (body : List ℕ) (methods : List MethodPart)
    → SpellsAll (SpellsMethod pool class) body methods → AllByRecursion MethodFits methods
methods_fit_in pool class body [] s = tt
methods_fit_in pool class body (m ∷ methods) s = (
  method_fits pool class s.0 m s.3,
  methods_fit_in pool class s.1 methods s.4,
)

pub methods_fit : (bytes : List ℕ) (c : ClassPart) → IsClassFile bytes c → AllByRecursion MethodFits c.methods
methods_fit bytes c s = methods_fit_in c.head.pool c.head.flags.0 s.methods_spell.body c.methods s.methods_spell.all

pub class_written : (bytes text : List ℕ) (c : ClassPart) → IsClassFile bytes c → SpellsHead text c.head
    → IsClassFile (text ++ after_head_bytes c.methods) c
class_written bytes text c s head = record {
  head_bytes = text;
  head_spells = head;
  method_bytes = list_bytes method_bytes c.methods;
  methods_spell = record {
    few = s.methods_spell.few;
    body = flat_map method_bytes c.methods;
    bytes_are = refl;
    all = methods_written c.head.pool c.head.flags.0 s.methods_spell.body c.methods s.methods_spell.all;
  };
  attributes = [];
  few = omega arith;
  fit = tt;
  bytes_are = refl;
}
