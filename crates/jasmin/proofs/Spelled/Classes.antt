-- The listing of a text's tree is spelled.
use Rattle.std.proofs.Common.{◌≡◌, ℕ, Bool, true, false, not, ◌&&◌, ◌||◌, ◌==◌, List, [], ◌∷◌, length, map, refl, ap}
use Rattle.std.proofs.Common.{sym, ◌∙◌, ◌≤◌, arith, inl, inr, Some, None, Option, codes}
use Rattle.std.specs.Prelude.{IfSome, bit_and, bit_or, nat_le, if◌then◌else◌}
use Rattle.std.specs.List.{AllByRecursion, list_all}
use Rattle.std.specs.Option.{option_and_then}
use Rattle.std.specs.Str.{bytes_eq}
use Rattle.std.proofs.lemmas.Bool.Decides.{leb_tells}
use Rattle.std.proofs.lemmas.Nat.{and_assoc, and_or_apart, and_or_self, or_of_16}
use Rattle.model.specs.declared.flags.ClassFlags.{ClassFlags}
use Rattle.model.specs.declared.listings.Field.{Field}
use Rattle.model.specs.declared.trees.MethodTree.{MethodTree}
use Rattle.model.specs.ClassFiles.Heads.{are_class_flags}
use Rattle.model.specs.Texts.{tree_of}
use Rattle.model.specs.Texts.Classes.{led_by, after_led, interfaces_of, fields_of, methods_of, tree_with, members_under}
use Rattle.model.specs.Texts.Classes.{super_under, class_tree}
use Rattle.model.specs.Texts.Flags.{class_flags, interface_flags, flags_and_word, has, class_flags_agree}
use Rattle.model.specs.Texts.Heads.{following, ClassHead, class_head, interface_head, class_of, superclass_named}
use Rattle.model.specs.Texts.Heads.{super_of, interface_of}
use Rattle.model.specs.Texts.Lines.{lines_of}
use Rattle.model.specs.Texts.ListingOfTree.{method_listing, listing_of}
use Rattle.model.specs.Texts.Names.{is_class_name}
use Rattle.model.specs.Texts.Operands.{class_named, only}
use Rattle.model.specs.Texts.Spelled.{is_u2, head_is_spelled, field_is_spelled, method_is_spelled, ldc_numbers}
use Rattle.model.specs.Texts.Spelled.{is_spelled}
use Rattle.model.specs.Texts.Statements.{Statement, statements_of}
use Rattle.model.specs.Texts.Trees.{Tree}
use Rattle.model.specs.Texts.Widths.{different, narrow_numbers}
use Rattle.jasmin.proofs.Spelled.Fields.{FieldFits, fields_fit}
use Rattle.jasmin.proofs.Spelled.Flags.{lacks, flags_lack, none_has, part_of_none, same_from, small_from, small_is}
use Rattle.jasmin.proofs.Spelled.Methods.{MethodFits, methods_fit, methods_spelled}
use Rattle.jasmin.proofs.Spelled.Operands.{class_fits}
use Rattle.jasmin.proofs.Spelled.Partial.{both_true, and_true, or_left, or_right, given, of_any, of_if, of_test, of_all}
use Rattle.jasmin.proofs.Spelled.Partial.{all_true}
use Rattle.jasmin.proofs.Spelled.Widths.{few_numbers}

-- ---- a tree

pub record TreeFits (t : Tree) : Type 0 where
  pub head : head_is_spelled t.flags.0 t.superclass ≡ true
  pub name : is_class_name t.name ≡ true
  pub superclass : is_class_name t.superclass ≡ true
  pub interfaces : list_all is_class_name t.interfaces ≡ true
  pub fields : list_all (field_is_spelled t.flags.0) t.fields ≡ true
  pub methods : AllByRecursion (MethodFits t.flags.0) t.methods

at_most : (n : ℕ) → n ≤ 255 → nat_le n 255 ≡ true
at_most n h = elim (leb_tells n 255) [ inl t ↦ t.0 | inr f ↦ absurd (omega arith) ]

pub tree_is_spelled : (t : Tree) → TreeFits t → is_spelled (listing_of t) ≡ true
unfolding is_spelled listing_of
tree_is_spelled t h =
    let class = t.flags.0 in
    let methods = map (method_listing (narrow_numbers t.methods)) t.methods in
    let a = and_true (head_is_spelled class t.superclass) (is_class_name t.name) h.head h.name in
    let b = and_true (head_is_spelled class t.superclass && is_class_name t.name) (is_class_name t.superclass) a
    h.superclass in
    let c = and_true (head_is_spelled class t.superclass && is_class_name t.name && is_class_name t.superclass)
    (list_all is_class_name t.interfaces) b h.interfaces in
    let d = and_true (head_is_spelled class t.superclass && is_class_name t.name && is_class_name t.superclass
    && list_all is_class_name t.interfaces)
    (list_all (field_is_spelled class) t.fields) c h.fields in
    let e = and_true
    (head_is_spelled class t.superclass && is_class_name t.name && is_class_name t.superclass
    && list_all is_class_name t.interfaces && list_all (field_is_spelled class) t.fields)
    (list_all (method_is_spelled class) methods) d (methods_spelled class (narrow_numbers t.methods) t.methods
    h.methods) in
    and_true
    (head_is_spelled class t.superclass && is_class_name t.name && is_class_name t.superclass
    && list_all is_class_name t.interfaces && list_all (field_is_spelled class) t.fields
    && list_all (method_is_spelled class) methods)
    (nat_le (length (different (ldc_numbers methods))) 255) e (at_most (length (different (ldc_numbers methods)))
    (few_numbers t.methods))

-- ---- the head of a class or of an interface

pub record HeadFits (head : ClassHead) : Type 0 where
  pub small : is_u2 head.flags.0 ≡ true
  pub flags : are_class_flags head.flags.0 ≡ true
  pub no_super : has head.flags.0 0x0020 ≡ false
  pub name : is_class_name head.name ≡ true

-- bits that are none of a table's
other_bits : (flags mask bit : ℕ) → bit_and flags mask ≡ 0 → bit_and mask bit ≡ bit → bit_and 0 bit ≡ 0 → has flags bit
    ≡ false
other_bits flags mask bit h e z = none_has flags bit (part_of_none flags mask bit e h z)

class_head_fits : (found : Option (ℕ × List ℕ)) → IfSome found (λ p. lacks 0xfbee p.0 ≡ true)
    → IfSome (class_head found) HeadFits
class_head_fits None h = tt
class_head_fits (Some (flags, name)) h =
    let bits = both_true (is_u2 flags) (bit_and flags 0xfbee == 0) h in
    let none = same_from (bit_and flags 0xfbee) 0 bits.1 in
    of_if HeadFits (is_class_name name && class_flags_agree flags) (record {
      flags = record { 0 = flags };
      name = name;
    })
    (λ t.
    let parts = both_true (is_class_name name) (class_flags_agree flags) t in
    record {
      small = bits.0;
      flags = and_true (bit_and flags 0xf9ce == 0 && (not (has flags 0x0200) || has flags 0x0400))
          (class_flags_agree flags)
          (and_true (bit_and flags 0xf9ce == 0) (not (has flags 0x0200) || has flags 0x0400)
          (ap (λ n. n == 0) (part_of_none flags 0xfbee 0xf9ce refl none refl))
          (or_left (not (has flags 0x0200)) (has flags 0x0400)
          (ap not (other_bits flags 0xfbee 0x0200 none refl refl))))
          parts.1;
      no_super = other_bits flags 0xfbee 0x0020 none refl refl;
      name = parts.0;
    })

not_both : (a b : Bool) → a ≡ false → not (a && b) ≡ true
not_both a b h = rw h refl

-- the flags of an interface, of which INTERFACE and ABSTRACT were added to those of its table
interface_flags_fit : (flags : ℕ) → bit_and flags 0xfffe ≡ 0 → are_class_flags (bit_or flags 0x0600) ≡ true
interface_flags_fit flags none =
    let all = bit_or flags 0x0600 in
    let abstract_set : has all 0x0400 ≡ true = ap (λ n. not (n == 0)) (sym (and_assoc 0x0400 all 0x0600)
    ∙ ap (λ n. bit_and n 0x0400) (and_or_self 0x0600 flags)) in
    let final_not : has all 0x0010 ≡ false = none_has all 0x0010 (and_or_apart 0x0010 flags 0x0600 refl
    ∙ part_of_none flags 0xfffe 0x0010 refl none refl) in
    and_true (bit_and all 0xf9ce == 0 && (not (has all 0x0200) || has all 0x0400)) (class_flags_agree all)
    (and_true (bit_and all 0xf9ce == 0) (not (has all 0x0200) || has all 0x0400)
    (ap (λ n. n == 0) (and_or_apart 0xf9ce flags 0x0600 refl ∙ part_of_none flags 0xfffe 0xf9ce refl none refl))
    (or_right (not (has all 0x0200)) (has all 0x0400) abstract_set))
    (not_both (has all 0x0010) (has all 0x0400) final_not)

interface_head_fits : (found : Option (ℕ × List ℕ)) → IfSome found (λ p. lacks 0xfffe p.0 ≡ true)
    → IfSome (interface_head found) HeadFits
interface_head_fits None h = tt
interface_head_fits (Some (flags, name)) h =
    let bits = both_true (is_u2 flags) (bit_and flags 0xfffe == 0) h in
    let none = same_from (bit_and flags 0xfffe) 0 bits.1 in
    of_if HeadFits (is_class_name name) (record { flags = record { 0 = bit_or flags 0x0600 }; name = name })
    (λ t. record {
      small = small_is (bit_or flags 0x0600) (or_of_16 flags 0x0600 (small_from flags bits.0) (small_from 0x0600 refl));
      flags = interface_flags_fit flags none;
      no_super = none_has (bit_or flags 0x0600) 0x0020 (and_or_apart 0x0020 flags 0x0600 refl
          ∙ part_of_none flags 0xfffe 0x0020 refl none refl);
      name = t;
    })

head_fits : (s : Statement) → IfSome (class_of s) HeadFits
head_fits None = tt
head_fits (Some []) = tt
head_fits (Some (word ∷ words)) =
    of_test HeadFits (bytes_eq word (codes ".class")) (class_head (flags_and_word class_flags words))
    (if bytes_eq word (codes ".interface") then interface_head (flags_and_word interface_flags words) else None)
    (λ t. class_head_fits (flags_and_word class_flags words) (flags_lack 0xfbee class_flags refl words refl refl))
    (λ f. of_test HeadFits (bytes_eq word (codes ".interface")) (interface_head (flags_and_word interface_flags words))
    None
    (λ t. interface_head_fits (flags_and_word interface_flags words) (flags_lack 0xfffe
    interface_flags refl words refl refl))
    (λ g. tt))

-- ---- what it extends

-- a superclass of a class with these flags
abbrev pub SuperFits : ℕ → List ℕ → Type 0
SuperFits class name = (is_class_name name && (not (has class 0x0200) || bytes_eq name (codes "java/lang/Object")))
    ≡ true

super_fits : (class : ClassFlags) (s : Statement) → IfSome (super_of class s) (SuperFits class.0)
super_fits class s =
    of_any (SuperFits class.0) (λ words. option_and_then (superclass_named class.0) (only words))
    (following (codes ".super") s)
    (λ words. of_any (SuperFits class.0) (superclass_named class.0) (only words)
    (λ name. of_if (SuperFits class.0) (is_class_name name
    && (not (has class.0 0x0200) || bytes_eq name (codes "java/lang/Object"))) name (λ t. t)))

interface_fits : (s : Statement) → IfSome (interface_of s) (λ c. is_class_name c ≡ true)
interface_fits s =
    of_any (λ c. is_class_name c ≡ true) (λ words. option_and_then class_named (only words))
    (following (codes ".implements") s)
    (λ words. of_any (λ c. is_class_name c ≡ true) class_named (only words) class_fits)

interfaces_fit : (ss : List Statement) → IfSome (interfaces_of ss) (AllByRecursion (λ c. is_class_name c ≡ true))
interfaces_fit ss = of_all (λ c. is_class_name c ≡ true) interface_of (led_by (codes ".implements") ss) interface_fits

-- ---- a class

with_members : (head : ClassHead) (super : List ℕ) (is : Option (List (List ℕ))) (fs : Option (List Field))
    (ms : Option (List MethodTree)) → HeadFits head → SuperFits head.flags.0 super
    → IfSome is (AllByRecursion (λ c. is_class_name c ≡ true)) → IfSome fs (AllByRecursion (FieldFits head.flags.0))
    → IfSome ms (AllByRecursion (MethodFits head.flags.0))
    → IfSome (tree_with head super is fs ms) TreeFits
with_members head super None fs ms h s i f m = tt
with_members head super (Some is) None ms h s i f m = tt
with_members head super (Some is) (Some fs) None h s i f m = tt
with_members head super (Some is) (Some fs) (Some ms) h s i f m =
    let parts = both_true (is_class_name super) (not (has head.flags.0 0x0200)
    || bytes_eq super (codes "java/lang/Object")) s in
    record {
      head = and_true (is_u2 head.flags.0 && are_class_flags head.flags.0 && not (has head.flags.0 0x0020))
          (not (has head.flags.0 0x0200) || bytes_eq super (codes "java/lang/Object"))
          (and_true (is_u2 head.flags.0 && are_class_flags head.flags.0) (not (has head.flags.0 0x0020))
          (and_true (is_u2 head.flags.0) (are_class_flags head.flags.0) h.small h.flags) (ap not h.no_super))
          parts.1;
      name = h.name;
      superclass = parts.0;
      interfaces = all_true is_class_name is i;
      fields = all_true (field_is_spelled head.flags.0) fs f;
      methods = m;
    }

members_fit : (head : ClassHead) (super : Option (List ℕ)) (ss : List Statement) → HeadFits head
    → IfSome super (SuperFits head.flags.0) → IfSome (members_under head super ss) TreeFits
members_fit head None ss h s = tt
members_fit head (Some super) ss h s =
    let after_interfaces = after_led (codes ".implements") ss in
    let methods = after_led (codes ".field") after_interfaces in
    with_members head super (interfaces_of ss) (fields_of head.flags after_interfaces) (methods_of head.flags methods) h
    s
    (interfaces_fit ss) (fields_fit head.flags after_interfaces) (methods_fit head.flags methods)

under_fits : (head : Option ClassHead) (ss : List Statement) → IfSome head HeadFits
    → IfSome (super_under head ss) TreeFits
under_fits None ss h = tt
under_fits (Some head) [] h = tt
under_fits (Some head) (s ∷ ss) h = members_fit head (super_of head.flags s) ss h (super_fits head.flags s)

class_tree_fits : (ss : List Statement) → IfSome (class_tree ss) TreeFits
class_tree_fits [] = tt
class_tree_fits (s ∷ ss) = under_fits (class_of s) ss (head_fits s)

pub text_is_spelled : (text : List ℕ) (t : Tree) → tree_of text ≡ Some t → is_spelled (listing_of t) ≡ true
unfolding tree_of
text_is_spelled text t h = tree_is_spelled t (given TreeFits (class_tree (statements_of (lines_of text))) t h
    (class_tree_fits (statements_of (lines_of text))))
