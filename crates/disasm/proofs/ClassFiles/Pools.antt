-- What holds of the entries that numbers name in a class file's pool.
use Rattle.std.proofs.Common.{◌≡◌, ℕ, zero, suc, eqb, Bool, true, false, cond, List, [], ◌∷◌, map, slice_get, Option}
use Rattle.std.proofs.Common.{Some, None, refl, sym, ap, subst, ◌∙◌}
use Rattle.std.specs.List.{AllByRecursion}
use Rattle.std.specs.Option.{option_and_then, unwrap_or}
use Rattle.std.proofs.lemmas.Bool.{or_right}
use Rattle.model.specs.declared.class_files.Entry.{Entry}
use Rattle.model.specs.declared.class_files.Entry.TheVariants.{Utf8, Integer, Long, Class, Fieldref, Methodref}
use Rattle.model.specs.declared.class_files.Entry.TheVariants.{InterfaceMethodref, NameAndType}
use Rattle.model.specs.declared.class_files.FormatFault.TheVariants.{Name}
use Rattle.model.specs.declared.names.Member.{Member}
use Rattle.model.specs.ClassFiles.Attributes.{passes}
use Rattle.model.specs.ClassFiles.Codes.{tag_of, has_tag}
use Rattle.model.specs.ClassFiles.Heads.{is_class}
use Rattle.model.specs.ClassFiles.Items.{Item, is_same_item, is_item_of}
use Rattle.model.specs.ClassFiles.Items.Item.{text_item, class_item, name_item}
use Rattle.model.specs.ClassFiles.Listing.{name_at, class_at, referred}
use Rattle.model.specs.ClassFiles.Pools.{under, slots_of, held, entry_at}
use Rattle.model.specs.ClassFiles.References.{text_of, text_at, class_of, name_and_type_of, names_class, class_fault}
use Rattle.model.specs.ClassFiles.References.{pair_fault, texts_fault, member_fault, entry_fault, AreSound}
use Rattle.model.specs.Texts.Names.{is_class_name}
use Rattle.assembler.specs.Numbering.{item_of, items_of}
use Rattle.assembler.proofs.NumberingItems.{among_first}

-- ---- what holds of each entry holds of the one under a number

none_held : (e : Entry) (i : ℕ) → slice_get (slots_of []) i ≡ Some (Some e) → ⊥
none_held e zero h = cc
none_held e (suc i) h = cc

module _ (P : Entry → Type 0) where
  narrow_meets : (f : Entry) (others : List (Option Entry)) (i : ℕ) (e : Entry) → P f
      → ((j : ℕ) → slice_get others j ≡ Some (Some e) → P e) → slice_get (Some f ∷ others) i ≡ Some (Some e) → P e
  narrow_meets f others zero e one rest h = let same : f ≡ e = cc in subst P same one
  narrow_meets f others (suc i) e one rest h = rest i h

  wide_meets : (f : Entry) (others : List (Option Entry)) (i : ℕ) (e : Entry) → P f
      → ((j : ℕ) → slice_get others j ≡ Some (Some e) → P e) → slice_get (Some f ∷ None ∷ others) i ≡ Some (Some e)
      → P e
  wide_meets f others zero e one rest h = let same : f ≡ e = cc in subst P same one
  wide_meets f others (suc zero) e one rest h = absurd cc
  wide_meets f others (suc (suc i)) e one rest h = rest i h

  under_meets : (f : Entry) (others : List (Option Entry)) (i : ℕ) (e : Entry) → P f
      → ((j : ℕ) → slice_get others j ≡ Some (Some e) → P e) → slice_get (under f others) i ≡ Some (Some e) → P e
  under_meets (Utf8 text) others i e one rest h = narrow_meets (Utf8 text) others i e one rest h
  under_meets (Integer z) others i e one rest h = narrow_meets (Integer z) others i e one rest h
  under_meets (Long z) others i e one rest h = wide_meets (Long z) others i e one rest h
  under_meets (Class name) others i e one rest h = narrow_meets (Class name) others i e one rest h
  under_meets (Fieldref class member) others i e one rest h = narrow_meets (Fieldref class member) others i e one rest h
  under_meets (Methodref class member) others i e one rest h = narrow_meets (Methodref class member) others i e one rest
      h
  under_meets (InterfaceMethodref class member) others i e one rest h = narrow_meets (InterfaceMethodref class member)
      others i e one rest h
  under_meets (NameAndType name type) others i e one rest h = narrow_meets (NameAndType name type) others i e one rest h

  slot_meets : (pool : List Entry) (i : ℕ) (e : Entry) → AllByRecursion P pool → slice_get (slots_of pool) i
      ≡ Some (Some e) → P e
  slot_meets [] i e all h = absurd (none_held e i h)
  slot_meets (f ∷ pool) i e all h = under_meets f (slots_of pool) i e all.0 (λ j k. slot_meets pool j e all.1 k) h

  pub entry_meets : (pool : List Entry) (n : ℕ) (e : Entry) → AllByRecursion P pool → entry_at pool n ≡ Some e → P e
  entry_meets pool zero e all h = absurd cc
  entry_meets pool (suc n) e all h = slot_meets pool n e all (slot_held (slice_get (slots_of pool) n) h)
    where
      slot_held : (o : Option (Option Entry)) → held o ≡ Some e → o ≡ Some (Some e)
      slot_held None k = absurd cc
      slot_held (Some w) k = ap Some k

-- ---- what an entry says is among what the pool says

own_items : (f : Entry → Item) (items : List Item) (es : List Entry) → ((x : Item) → is_item_of (map f es) x ≡ true
    → is_item_of items x ≡ true) → AllByRecursion (λ e. is_item_of items (f e) ≡ true) es
own_items f items [] each = tt
own_items f items (e ∷ es) each = (
  each (f e) (among_first (f e) (map f es)),
  own_items f items es (λ x h. each x (or_right (is_same_item x (f e)) (is_item_of (map f es) x) h)),
)

pub is_said : (pool : List Entry) (n : ℕ) (e : Entry) → entry_at pool n ≡ Some e
    → is_item_of (items_of pool) (item_of pool e) ≡ true
is_said pool n e h = entry_meets (λ f. is_item_of (items_of pool) (item_of pool f) ≡ true) pool n e
    (own_items (item_of pool) (items_of pool) pool (λ x g. g)) h

-- ---- kinds of entries

text_kind : (o : Option Entry) (text : List ℕ) → text_of o ≡ Some text → o ≡ Some (Utf8 text)
text_kind (Some (Utf8 t)) text h = ap (λ (x : List ℕ). Some (Utf8 x)) (cc)
text_kind o text h = absurd cc

class_kind : (o : Option Entry) (name : ℕ) → class_of o ≡ Some name → o ≡ Some (Class name)
class_kind (Some (Class k)) name h = ap (λ (x : ℕ). Some (Class x)) (cc)
class_kind o name h = absurd cc

pair_kind : (o : Option Entry) (pair : ℕ × ℕ) → name_and_type_of o ≡ Some pair → o ≡ Some (NameAndType pair.0 pair.1)
pair_kind (Some (NameAndType a b)) pair h = ap (λ (x : ℕ × ℕ). Some (NameAndType x.0 x.1)) (some_same (a, b) pair h)
  where
    some_same : (x y : ℕ × ℕ) → Some x ≡ Some y → x ≡ y
    some_same x y e = cc
pair_kind o pair h = absurd cc

class_tag : (o : Option Entry) → eqb (tag_of o) 7 ≡ true → (name : ℕ) × (o ≡ Some (Class name))
class_tag (Some (Class name)) h = (name, refl)
class_tag o h = absurd cc

-- ---- texts

pub text_said : (pool : List Entry) (n : ℕ) (text : List ℕ) → text_at pool n ≡ Some text
    → is_item_of (items_of pool) (text_item text) ≡ true
text_said pool n text h = is_said pool n (Utf8 text) (text_kind (entry_at pool n) text h)

-- the text under a number, where it passes a test
pub record TextUnder (test : List ℕ → Bool) (pool : List Entry) (n : ℕ) : Type 0 where
  pub at : text_at pool n ≡ Some (name_at pool n)
  pub good : test (name_at pool n) ≡ true
  pub said : is_item_of (items_of pool) (text_item (name_at pool n)) ≡ true

passed : (test : List ℕ → Bool) (o : Option (List ℕ)) → passes test o ≡ true → (o ≡ Some (unwrap_or o []))
    × (test (unwrap_or o []) ≡ true)
passed test None h = absurd cc
passed test (Some text) h = (refl, h)

pub text_under : (test : List ℕ → Bool) (pool : List Entry) (n : ℕ) → passes test (text_at pool n) ≡ true
    → TextUnder test pool n
text_under test pool n h =
    let p = passed test (text_at pool n) h in
    record { at = p.0; good = p.1; said = text_said pool n (name_at pool n) p.0 }

-- ---- classes

pub record ClassUnder (pool : List Entry) (n : ℕ) : Type 0 where
  pub good : names_class (class_at pool n) ≡ true
  pub text : is_item_of (items_of pool) (text_item (class_at pool n)) ≡ true
  pub class : is_item_of (items_of pool) (class_item (class_at pool n)) ≡ true

class_text : (o : Option (List ℕ)) → class_fault o ≡ None → (o ≡ Some (unwrap_or o []))
    × (names_class (unwrap_or o []) ≡ true)
class_text None h = absurd cc
class_text (Some name) h = (refl, sound (names_class name) h)
  where
    sound : (b : Bool) → cond b None (Some Name) ≡ None → b ≡ true
    sound true e = refl
    sound false e = absurd cc

pub class_under : (pool : List Entry) (n : ℕ) → AreSound pool → has_tag pool 7 n ≡ true → ClassUnder pool n
class_under pool n sound h =
    let c = class_tag (entry_at pool n) h in
    let named : class_at pool n ≡ name_at pool c.0 = ap (λ (o : Option Entry). name_at pool (unwrap_or (class_of o) 0))
    c.1 in
    let t = class_text (text_at pool c.0) (entry_meets (λ e. entry_fault pool e ≡ None) pool n (Class c.0) sound c.1) in
    record {
      good = ap names_class named ∙ t.1;
      text = ap (λ (x : List ℕ). is_item_of (items_of pool) (text_item x)) named
          ∙ text_said pool c.0 (name_at pool c.0) t.0;
      class = ap (λ (x : List ℕ). is_item_of (items_of pool) (class_item x)) named ∙ is_said pool n (Class c.0) c.1;
    }

class_number : (pool : List Entry) (o : Option Entry)
    → passes is_class_name (option_and_then (text_at pool) (class_of o)) ≡ true → eqb (tag_of o) 7 ≡ true
class_number pool (Some (Class name)) h = refl
class_number pool o h = absurd cc

plain_number : (pool : List Entry) (o : Option ℕ) → passes is_class_name (option_and_then (text_at pool) o) ≡ true
    → is_class_name (name_at pool (unwrap_or o 0)) ≡ true
plain_number pool None h = absurd cc
plain_number pool (Some k) h = (passed is_class_name (text_at pool k) h).1

-- the number of a class that is no array
pub plain_under : (pool : List Entry) (n : ℕ) → AreSound pool → is_class pool n ≡ true
    → (is_class_name (class_at pool n) ≡ true) × ClassUnder pool n
plain_under pool n sound h = (
  plain_number pool (class_of (entry_at pool n)) h,
  class_under pool n sound (class_number pool (entry_at pool n) h),
)

-- ---- members

pub record MemberUnder (test : List ℕ → List ℕ → Bool) (pool : List Entry) (m : Member) : Type 0 where
  pub good : test m.name m.descriptor ≡ true
  pub owner_text : is_item_of (items_of pool) (text_item m.class) ≡ true
  pub owner : is_item_of (items_of pool) (class_item m.class) ≡ true
  pub name : is_item_of (items_of pool) (text_item m.name) ≡ true
  pub descriptor : is_item_of (items_of pool) (text_item m.descriptor) ≡ true
  pub pair : is_item_of (items_of pool) (name_item m.name m.descriptor) ≡ true

-- what a reference without a fault names
abbrev Named : List Entry → (List ℕ → List ℕ → Bool) → Option ℕ → Option (ℕ × ℕ) → Type 0
Named pool test class pair =
    (k : ℕ) × (p : ℕ × ℕ) × (class ≡ Some k) × (pair ≡ Some p) × (texts_fault test (text_at pool p.0) (text_at pool p.1)
    ≡ None)

faultless : (pool : List Entry) (test : List ℕ → List ℕ → Bool) (class : Option ℕ) (pair : Option (ℕ × ℕ))
    → member_fault pool test class pair ≡ None → Named pool test class pair
faultless pool test None pair h = absurd cc
faultless pool test (Some k) None h = absurd cc
faultless pool test (Some k) (Some p) h = (k, p, refl, refl, h)

pair_texts : (a b : Option (List ℕ)) → pair_fault a b ≡ None → (a ≡ Some (unwrap_or a [])) × (b ≡ Some (unwrap_or b []))
pair_texts None b h = absurd cc
pair_texts (Some x) None h = absurd cc
pair_texts (Some x) (Some y) h = (refl, refl)

member_texts : (test : List ℕ → List ℕ → Bool) (x y : List ℕ) (a b : Option (List ℕ)) → a ≡ Some x → b ≡ Some y
    → texts_fault test a b ≡ None → test x y ≡ true
member_texts test x y a b ea eb h = sound (test x y) (sym (ap (λ (t : Option (List ℕ)). texts_fault test t b) ea
    ∙ ap (texts_fault test (Some x)) eb) ∙ h)
  where
    sound : (c : Bool) → cond c None (Some Name) ≡ None → c ≡ true
    sound true e = refl
    sound false e = absurd cc

pub member_under : (test : List ℕ → List ℕ → Bool) (pool : List Entry) (class member : ℕ) → AreSound pool
    → member_fault pool test (class_of (entry_at pool class)) (name_and_type_of (entry_at pool member)) ≡ None
    → MemberUnder test pool (referred pool (class, member))
member_under test pool class member sound h =
    let f = faultless pool test (class_of (entry_at pool class)) (name_and_type_of (entry_at pool member)) h in
    let p : ℕ × ℕ = f.1 in
    let owner = class_kind (entry_at pool class) f.0 f.2 in
    let two = pair_kind (entry_at pool member) p f.3 in
    let c = class_under pool class sound (ap (λ (o : Option Entry). eqb (tag_of o) 7) owner) in
    let t = pair_texts (text_at pool p.0) (text_at pool p.1) (entry_meets (λ e. entry_fault pool e ≡ None) pool member
    (NameAndType p.0 p.1) sound two) in
    let same : unwrap_or (name_and_type_of (entry_at pool member)) (0, 0)
    ≡ p = ap (λ (o : Option (ℕ × ℕ)). unwrap_or o (0, 0)) f.3 in
    let name : name_at pool (unwrap_or (name_and_type_of (entry_at pool member)) (0, 0)).0
    ≡ name_at pool p.0 = ap (λ (x : ℕ × ℕ). name_at pool x.0) same in
    let type : name_at pool (unwrap_or (name_and_type_of (entry_at pool member)) (0, 0)).1
    ≡ name_at pool p.1 = ap (λ (x : ℕ × ℕ). name_at pool x.1) same in
    record {
      good = ap (λ (x : ℕ × ℕ). test (name_at pool x.0) (name_at pool x.1)) same
          ∙ member_texts test (name_at pool p.0) (name_at pool p.1) (text_at pool p.0) (text_at pool p.1) t.0 t.1 f.4;
      owner_text = c.text;
      owner = c.class;
      name = ap (λ (x : List ℕ). is_item_of (items_of pool) (text_item x)) name
          ∙ text_said pool p.0 (name_at pool p.0) t.0;
      descriptor = ap (λ (x : List ℕ). is_item_of (items_of pool) (text_item x)) type
          ∙ text_said pool p.1 (name_at pool p.1) t.1;
      pair = ap (λ (x : ℕ × ℕ). is_item_of (items_of pool) (name_item (name_at pool x.0) (name_at pool x.1))) same
          ∙ is_said pool member (NameAndType p.0 p.1) two;
    }
