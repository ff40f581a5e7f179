-- A class is read back from its statements.
use Rattle.std.proofs.Common.{◌≡◌, ℕ, Bool, true, false, not, ◌&&◌, ◌||◌, ◌==◌, List, [], ◌∷◌, ◌++◌, map, flat_map}
use Rattle.std.proofs.Common.{codes, bytes_eq, Some, refl, sym, ap, ap₂, ◌∙◌, eqb-true}
use Rattle.std.specs.Prelude.{bit_and, bit_or}
use Rattle.std.specs.List.{list_all}
use Rattle.std.proofs.lemmas.Bool.{and_parts}
use Rattle.std.proofs.lemmas.List.{map-append}
use Rattle.model.specs.declared.flags.ClassFlags.{ClassFlags}
use Rattle.model.specs.declared.listings.Field.{Field}
use Rattle.model.specs.declared.listings.Method.{Method}
use Rattle.model.specs.ClassFiles.Heads.{are_class_flags}
use Rattle.model.specs.ClassListings.{ClassListing}
use Rattle.model.specs.Texts.Classes.{said_before, each, methods_of, begins_otherwise, led_by, after_led, interfaces_of}
use Rattle.model.specs.Texts.Classes.{fields_of, tree_with, members_after, members_under, super_under, class_tree}
use Rattle.model.specs.Texts.Flags.{has, class_flags, interface_flags, class_flags_agree}
use Rattle.model.specs.Texts.Heads.{ClassHead, class_head, interface_head, class_of, super_of, interface_of, field_of}
use Rattle.model.specs.Texts.Names.{is_class_name}
use Rattle.model.specs.Texts.Spelled.{is_spelled, is_u2, head_is_spelled}
use Rattle.model.specs.Texts.Statements.{Statement}
use Rattle.disasm.specs.Back.{method_back, tree_back, pcs_fit}
use Rattle.disasm.specs.Statements.{class_words, super_words, interface_words, field_words, method_statements}
use Rattle.disasm.specs.Statements.{statements_back}
use Rattle.disasm.proofs.Back.Fields.{fields_read}
use Rattle.disasm.proofs.Back.Flags.{and_over_or, bit_clear, bit_kept, kept_whole, flags_read}
use Rattle.disasm.proofs.Back.Listings.{spelled_class}
use Rattle.disasm.proofs.Back.Methods.{methods_read}

-- ---- heads

-- what is said of a class's flags
record SpelledHead (flags : ℕ) (superclass : List ℕ) : Type 0 where
  pub small : is_u2 flags ≡ true
  pub bits : (bit_and flags 0xf9ce == 0) ≡ true
  pub abstract_is : (not (has flags 0x0200) || has flags 0x0400) ≡ true
  pub agree : class_flags_agree flags ≡ true
  pub plain : not (has flags 0x0020) ≡ true
  pub object : (not (has flags 0x0200) || bytes_eq superclass (codes "java/lang/Object")) ≡ true

spelled_head : (flags : ℕ) (superclass : List ℕ) → head_is_spelled flags superclass ≡ true
    → SpelledHead flags superclass
spelled_head flags superclass e =
    let agree = are_class_flags flags in
    let object = not (has flags 0x0200) || bytes_eq superclass (codes "java/lang/Object") in
    let one = and_parts (is_u2 flags && agree && not (has flags 0x0020)) object e in
    let two = and_parts (is_u2 flags && agree) (not (has flags 0x0020)) one.0 in
    let three = and_parts (is_u2 flags) agree two.0 in
    let four = and_parts (bit_and flags 0xf9ce == 0 && (not (has flags 0x0200) || has flags 0x0400))
    (class_flags_agree flags) three.1 in
    let five = and_parts (bit_and flags 0xf9ce == 0) (not (has flags 0x0200) || has flags 0x0400) four.0 in
    record { small = three.0; bits = five.0; abstract_is = five.1; agree = four.1; plain = two.1; object = one.1 }

false_from_not : (b : Bool) → not b ≡ true → b ≡ false
false_from_not true e = absurd cc
false_from_not false e = refl

-- flags that lack some bits and another lack both
lacks_more : (flags a b : ℕ) → (bit_and flags a == 0) ≡ true → has flags b ≡ false → (bit_and flags (bit_or a b) == 0)
    ≡ true
lacks_more flags a b e f = ap (λ n. n == 0) (and_over_or flags a b ∙ ap₂ bit_or (eqb-true (bit_and flags a) 0 e)
    (bit_clear flags b f))

abbrev head_with : ClassFlags → List ℕ → ClassHead
head_with flags name = record { flags = flags; name = name }

class_read : (flags : ClassFlags) (name superclass : List ℕ) → SpelledHead flags.0 superclass → is_class_name name
    ≡ true → has flags.0 0x0200 ≡ false → class_of (Some (class_words false flags.0 name)) ≡ Some (head_with flags name)
class_read flags name superclass s good unset =
    let one = lacks_more flags.0 0xf9ce 0x0020 s.bits (false_from_not (has flags.0 0x0020) s.plain) in
    let none = lacks_more flags.0 0xf9ee 0x0200 one unset in
    ap class_head (flags_read class_flags flags.0 name (
      0,
      refl,
      refl,
      refl,
      (4, refl, refl, refl, (10, refl, refl, refl, tt)),
    ) refl
    ∙ ap (λ n. Some (n, name)) (kept_whole flags.0 0x0411 0xfbee s.small refl none))
    ∙ rw (good, s.agree) refl

second_from : (a b : Bool) → (not a || b) ≡ true → a ≡ true → b ≡ true
second_from true b e f = e
second_from false b e f = absurd cc

first_false : (a b : Bool) → not (a && b) ≡ true → b ≡ true → a ≡ false
first_false true true e f = absurd cc
first_false true false e f = absurd cc
first_false false b e f = refl

interface_read : (flags : ClassFlags) (name superclass : List ℕ) → SpelledHead flags.0 superclass → is_class_name name
    ≡ true → has flags.0 0x0200 ≡ true → class_of (Some (class_words true flags.0 name)) ≡ Some (head_with flags name)
interface_read flags name superclass s good set =
    let abstract_too = second_from (has flags.0 0x0200) (has flags.0 0x0400) s.abstract_is set in
    let no_final = first_false (has flags.0 0x0010) (has flags.0 0x0400) s.agree abstract_too in
    let one = lacks_more flags.0 0xf9ce 0x0020 s.bits (false_from_not (has flags.0 0x0020) s.plain) in
    let none = lacks_more flags.0 0xf9ee 0x0010 one no_final in
    let both : bit_and flags.0 0x0600 ≡ 0x0600 = and_over_or flags.0 0x0200 0x0400
    ∙ ap₂ bit_or (bit_kept flags.0 9 set) (bit_kept flags.0 10 abstract_too) in
    let whole : bit_or (bit_and flags.0 0x0001) 0x0600 ≡ flags.0 =
    ap (bit_or (bit_and flags.0 0x0001)) (sym both) ∙ sym (and_over_or flags.0 0x0001 0x0600)
    ∙ kept_whole flags.0 0x0601 0xf9fe s.small refl none in
    ap interface_head (flags_read interface_flags flags.0 name (0, refl, refl, refl, tt) refl)
    ∙ rw good (ap (λ n. let f : ClassFlags = record { 0 = n } in Some (head_with f name)) whole)

head_read : (flags : ClassFlags) (name superclass : List ℕ) (b : Bool) → SpelledHead flags.0 superclass
    → is_class_name name ≡ true → has flags.0 0x0200 ≡ b → class_of (Some (class_words b flags.0 name))
    ≡ Some (head_with flags name)
head_read flags name superclass false s good e = class_read flags name superclass s good e
head_read flags name superclass true s good e = interface_read flags name superclass s good e

super_read : (flags : ClassFlags) (superclass : List ℕ) → SpelledHead flags.0 superclass → is_class_name superclass
    ≡ true → super_of flags (Some (super_words superclass)) ≡ Some superclass
super_read flags superclass s good = rw (good, s.object) refl

-- ---- what statements begin with

abbrev stops : List ℕ → List Statement → Bool
stops word [] = true
stops word (s ∷ ss) = begins_otherwise word s

led_all : (word : List ℕ) (ss rest : List Statement) → list_all (λ s. not (begins_otherwise word s)) ss ≡ true
    → stops word rest ≡ true → led_by word (ss ++ rest) ≡ ss
led_all word [] [] e f = refl
led_all word [] (s ∷ rest) e f = rw f refl
led_all word (s ∷ ss) rest e f =
    let parts = and_parts (not (begins_otherwise word s)) (list_all (λ t. not (begins_otherwise word t)) ss) e in
    rw (false_from_not (begins_otherwise word s) parts.0) (ap (λ xs. s ∷ xs) (led_all word ss rest parts.1 f))

following_all : (word : List ℕ) (ss rest : List Statement) → list_all (λ s. not (begins_otherwise word s)) ss ≡ true
    → stops word rest ≡ true → after_led word (ss ++ rest) ≡ rest
following_all word [] [] e f = refl
following_all word [] (s ∷ rest) e f = rw f refl
following_all word (s ∷ ss) rest e f =
    let parts = and_parts (not (begins_otherwise word s)) (list_all (λ t. not (begins_otherwise word t)) ss) e in
    rw (false_from_not (begins_otherwise word s) parts.0) (following_all word ss rest parts.1 f)

interfaces_lead : (is : List (List ℕ)) → list_all (λ s. not (begins_otherwise (codes ".implements") s))
    (map Some (map interface_words is)) ≡ true
interfaces_lead [] = refl
interfaces_lead (i ∷ is) = interfaces_lead is

fields_lead : (fs : List Field) → list_all (λ s. not (begins_otherwise (codes ".field") s))
    (map Some (map field_words fs)) ≡ true
fields_lead [] = refl
fields_lead (f ∷ fs) = fields_lead fs

fields_stop : (ms : List Method) → stops (codes ".field") (map Some (flat_map method_statements ms)) ≡ true
fields_stop [] = refl
fields_stop (m ∷ ms) = refl

interfaces_stop : (fs : List Field) (ms : List Method) → stops (codes ".implements") (map Some (map field_words fs)
    ++ map Some (flat_map method_statements ms)) ≡ true
interfaces_stop [] [] = refl
interfaces_stop [] (m ∷ ms) = refl
interfaces_stop (f ∷ fs) ms = refl

interfaces_read : (is : List (List ℕ)) → list_all is_class_name is ≡ true
    → each interface_of (map Some (map interface_words is)) ≡ Some is
interfaces_read [] e = refl
interfaces_read (i ∷ is) e =
    let parts = and_parts (is_class_name i) (list_all is_class_name is) e in
    ap₂ said_before (named i parts.0) (interfaces_read is parts.1)
  where
    named : (i : List ℕ) → is_class_name i ≡ true → interface_of (Some (interface_words i)) ≡ Some i
    named i e = rw e refl

-- ---- a class

pub class_back : (l : ClassListing) → is_spelled l ≡ true → pcs_fit l ≡ true → class_tree (statements_back l)
    ≡ Some (tree_back l)
unfolding statements_back tree_back pcs_fit
class_back l e small =
    let s = spelled_class l e in
    let h = spelled_head l.flags.0 l.superclass s.head in
    let head = head_with l.flags l.name in
    let is = map Some (map interface_words l.interfaces) in
    let fs = map Some (map field_words l.fields) in
    let ms = map Some (flat_map method_statements l.methods) in
    let statements : map Some (map interface_words l.interfaces
    ++ (map field_words l.fields ++ flat_map method_statements l.methods)) ≡ is ++ (fs ++ ms) =
    map-append Some (map interface_words l.interfaces) (map field_words l.fields
    ++ flat_map method_statements l.methods)
    ∙ ap (λ xs. is ++ xs) (map-append Some (map field_words l.fields) (flat_map method_statements l.methods)) in
    let stop = interfaces_stop l.fields l.methods in
    let lead = interfaces_lead l.interfaces in
    let interfaces : interfaces_of (is ++ (fs ++ ms))
    ≡ Some l.interfaces = ap (each interface_of) (led_all (codes ".implements") is (fs ++ ms) lead stop) ∙
    interfaces_read l.interfaces s.interfaces in
    let fields : fields_of l.flags (fs ++ ms) ≡ Some l.fields = ap (each (field_of l.flags))
    (led_all (codes ".field") fs ms (fields_lead l.fields) (fields_stop l.methods))
    ∙ fields_read l.flags l.fields s.fields in
    let methods : methods_of l.flags (after_led (codes ".field") (fs ++ ms)) ≡ Some (map method_back l.methods) =
    ap (methods_of l.flags) (following_all (codes ".field") fs ms (fields_lead l.fields) (fields_stop l.methods))
    ∙ methods_read l.flags l.methods s.methods small in
    ap (λ xs. class_tree (Some (class_words (has l.flags.0 0x0200) l.flags.0 l.name) ∷ Some (super_words l.superclass)
    ∷ xs)) statements
    ∙ ap (λ o. super_under o (Some (super_words l.superclass) ∷ is ++ (fs ++ ms)))
    (head_read l.flags l.name l.superclass (has l.flags.0 0x0200) h s.name refl)
    ∙ ap (λ o. members_under head o (is ++ (fs ++ ms))) (super_read l.flags l.superclass h s.superclass)
    ∙ ap₂ (λ o xs. members_after head l.superclass o xs)
    interfaces (following_all (codes ".implements") is (fs ++ ms) lead stop)
    ∙ ap₂ (tree_with head l.superclass (Some l.interfaces)) fields methods
