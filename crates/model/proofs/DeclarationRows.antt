-- Classes, interfaces and fields as texts declare them: trees that compute, and texts that have none.
use Rattle.std.specs.Prelude.{◌≡◌, ℕ, pos, negsuc, List, [], ◌∷◌, ◌++◌, refl, codes, Option, Some, None}
use Rattle.model.specs.declared.listings.Constant.{Constant}
use Rattle.model.specs.declared.listings.Constant.TheVariants.{Int, Long}
use Rattle.model.specs.declared.listings.Field.{Field}
use Rattle.model.specs.Texts.{tree_of}
use Rattle.model.specs.Texts.Mnemonics.{mnemonic_of}
use Rattle.model.specs.Texts.Trees.{Tree}
use Rattle.model.specs.Texts.Uses.{labels_agree}

-- a class E over Object with these statements
abbrev class_text : List ℕ → List ℕ
class_text members = codes ".class E\n.super java/lang/Object\n" ++ members

abbrev interface_text : List ℕ → List ℕ
interface_text members = codes ".interface E\n.super java/lang/Object\n" ++ members

abbrev tree : ℕ → List (List ℕ) → List Field → Tree
tree flags interfaces fields = record {
  flags = record { 0 = flags };
  name = codes "E";
  superclass = codes "java/lang/Object";
  interfaces = interfaces;
  fields = fields;
  methods = [];
}

abbrev field : ℕ → List ℕ → List ℕ → Option Constant → Field
field flags name descriptor constant = record {
  flags = record { 0 = flags };
  name = name;
  descriptor = descriptor;
  constant = constant;
}

-- ---- heads

-- an interface with a method
pub interface : tree_of
    (codes ".interface public a/I\n.super java/lang/Object\n.method public abstract m(J)I\n.end method\n")
    ≡ Some (record {
      flags = record { 0 = 0x0601 };
      name = codes "a/I";
      superclass = codes "java/lang/Object";
      interfaces = [];
      fields = [];
      methods = record { flags = record { 0 = 0x0401 }; name = codes "m"; descriptor = codes "(J)I"; body = None } ∷ [];
    })
unfolding tree_of mnemonic_of labels_agree
interface = refl

-- public is the one flag that an interface is given
pub final_interface : tree_of (codes ".interface final E\n.super java/lang/Object\n") ≡ None
unfolding tree_of
final_interface = refl

-- an interface has no other superclass
pub interface_over_class : tree_of (codes ".interface E\n.super A\n") ≡ None
unfolding tree_of
interface_over_class = refl

-- an interface's method is public and abstract
pub interface_with_body : tree_of
    (interface_text (codes ".method public m()V\n.limit stack 0\n.limit locals 0\nreturn\n.end method\n")) ≡ None
unfolding tree_of mnemonic_of labels_agree
interface_with_body = refl

-- ---- interfaces

pub two_interfaces : tree_of (class_text (codes ".implements a/I\n.implements K\n.field x I\n"))
    ≡ Some (tree 0 (codes "a/I" ∷ codes "K" ∷ []) (field 0 (codes "x") (codes "I") None ∷ []))
unfolding tree_of
two_interfaces = refl

pub interface_after_field : tree_of (class_text (codes ".field x I\n.implements a/I\n")) ≡ None
unfolding tree_of
interface_after_field = refl

pub interface_before_super : tree_of (codes ".class E\n.implements a/I\n.super java/lang/Object\n") ≡ None
unfolding tree_of
interface_before_super = refl

pub two_names : tree_of (class_text (codes ".implements a/I K\n")) ≡ None
unfolding tree_of
two_names = refl

-- ---- fields

-- a flag's word may be a field's name
pub fields : tree_of (class_text (codes ".field public static final least J = -9223372036854775808\n.field volatile transient public [La/I;\n.field static c B = 300\n.field private static s I\n")) ≡ Some (tree 0 [] (
    field 0x0019 (codes "least") (codes "J") (Some (Long (negsuc 9223372036854775807)))
    ∷ field 0x00c0 (codes "public") (codes "[La/I;") None
    ∷ field 0x0008 (codes "c") (codes "B") (Some (Int (pos 300)))
    ∷ field 0x000a (codes "s") (codes "I") None ∷ []))
unfolding tree_of
fields = refl

pub interface_field : tree_of (interface_text (codes ".field public static final x I = 1\n"))
    ≡ Some (tree 0x0600 [] (field 0x0019 (codes "x") (codes "I") (Some (Int (pos 1))) ∷ []))
unfolding tree_of
interface_field = refl

-- an interface's field is public, static and final
pub interface_variable : tree_of (interface_text (codes ".field public static x I\n")) ≡ None
unfolding tree_of
interface_variable = refl

pub flag_twice : tree_of (class_text (codes ".field static static x I\n")) ≡ None
unfolding tree_of
flag_twice = refl

pub no_flag : tree_of (class_text (codes ".field abstract x I\n")) ≡ None
unfolding tree_of
no_flag = refl

-- a value stands after a static field only, of a type of one letter, and in its range
pub value_of_object : tree_of (class_text (codes ".field x I = 1\n")) ≡ None
unfolding tree_of
value_of_object = refl

pub value_of_array : tree_of (class_text (codes ".field static x [I = 1\n")) ≡ None
unfolding tree_of
value_of_array = refl

pub value_over : tree_of (class_text (codes ".field static x I = 2147483648\n")) ≡ None
unfolding tree_of
value_over = refl

pub long_value_over : tree_of (class_text (codes ".field static x J = 9223372036854775808\n")) ≡ None
unfolding tree_of
long_value_over = refl

-- the sign is a word of its own, with one number after it
pub joined_sign : tree_of (class_text (codes ".field static x I =1\n")) ≡ None
unfolding tree_of
joined_sign = refl

pub no_value : tree_of (class_text (codes ".field static x I =\n")) ≡ None
unfolding tree_of
no_value = refl

pub two_values : tree_of (class_text (codes ".field static x I = 1 2\n")) ≡ None
unfolding tree_of
two_values = refl

-- a field has a type, which is no `V`
pub no_type : tree_of (class_text (codes ".field x\n")) ≡ None
unfolding tree_of
no_type = refl

pub void_field : tree_of (class_text (codes ".field x V\n")) ≡ None
unfolding tree_of
void_field = refl

-- fields stand before methods
pub field_after_method : tree_of (class_text (codes ".method abstract f()V\n.end method\n.field x I\n")) ≡ None
unfolding tree_of mnemonic_of labels_agree
field_after_method = refl
