-- Texts whose trees and listings compute: the first rows of the worked examples.
use Rattle.std.specs.Prelude.{◌≡◌, ℕ, pos, true, false, map, List, [], ◌∷◌, ◌++◌, refl, codes, Option, Some, None}
use Rattle.std.specs.Option.{option_map}
use Rattle.model.specs.declared.instructions.Constant.TheVariants as constant
use Rattle.model.specs.declared.instructions.Instruction.TheVariants as instruction
use Rattle.model.specs.declared.instructions.Invocation.TheVariants.{Static}
use Rattle.model.specs.declared.instructions.NumberKind.TheVariants as number
use Rattle.model.specs.declared.instructions.NumberOperation.TheVariants.{Binary}
use Rattle.model.specs.declared.instructions.Operator.TheVariants.{Add}
use Rattle.model.specs.declared.instructions.SmallInt.TheVariants.{Zero, One}
use Rattle.model.specs.declared.instructions.Test.TheVariants.{Always}
use Rattle.model.specs.declared.instructions.Width.TheVariants.{Narrow}
use Rattle.model.specs.ClassListings.{ClassListing}
use Rattle.model.specs.Sizes.{pad_at}
use Rattle.model.specs.Texts.{tree_of}
use Rattle.model.specs.Texts.Assembling.{assembles, listing_assembles, pool_size}
use Rattle.model.specs.ClassFiles.Items.{listing_items}
use Rattle.model.specs.Texts.ListingOfTree.{listing_of}
use Rattle.model.specs.Texts.Mnemonics.{mnemonic_of}
use Rattle.model.specs.Texts.Uses.{labels_agree}

-- the listing that a text spells
abbrev pub listing_spelled : List ℕ → Option ClassListing
listing_spelled text = option_map listing_of (tree_of text)

-- a class E with a main that has these statements
abbrev pub main_text : List ℕ → List ℕ
main_text body = codes ".class public E\n.super java/lang/Object\n.method public static main()V\n" ++ body

-- the smallest program
pub smallest : listing_spelled (main_text (codes ".limit stack 0\n.limit locals 0\nreturn\n.end method\n"))
    ≡ Some (record {
      name = codes "E";
      flags = record { 0 = 0x0001 };
      superclass = codes "java/lang/Object";
      interfaces = [];
      fields = [];
      methods = record {
        flags = record { 0 = 0x0009 };
        name = codes "main";
        descriptor = codes "()V";
        code = Some (record {
          max_stack = 0;
          max_locals = 0;
          rows = [];
          instructions = record { pc = 0; next = 1; instruction = instruction.Return None } ∷ [];
        });
      } ∷ [];
    })
unfolding tree_of listing_of mnemonic_of labels_agree
smallest = refl

-- an int that wraps: `ldc`, a sum and a print, with the print's class, name and descriptor
pub wraps : listing_spelled (codes "; a sum\n.class A\n .super\tjava/lang/Object ; its parent\n\n.method static main()V\r\n.limit locals 0\nldc 2147483647\niconst_1\niadd\ninvokestatic vm/Sys/print(I)V\nreturn\n.limit stack 2\n.end method") ≡ Some (record {
  name = codes "A";
  flags = record { 0 = 0 };
  superclass = codes "java/lang/Object";
  interfaces = [];
  fields = [];
  methods = record {
    flags = record { 0 = 0x0008 };
    name = codes "main";
    descriptor = codes "()V";
    code = Some (record {
      max_stack = 2;
      max_locals = 0;
      rows = [];
      instructions =
          record { pc = 0; next = 2; instruction = instruction.Constant (constant.Int Narrow (pos 2147483647)) }
          ∷ record { pc = 2; next = 3; instruction = instruction.Constant (constant.SmallInt One) }
          ∷ record { pc = 3; next = 4; instruction = instruction.Number (Binary number.Int Add) }
          ∷ record {
            pc = 4;
            next = 7;
            instruction =
                instruction.Invoke Static (record {
                  class = codes "vm/Sys";
                  name = codes "print";
                  descriptor = codes "(I)V";
                });
          }
          ∷ record { pc = 7; next = 8; instruction = instruction.Return None } ∷ [];
    });
  } ∷ [];
})
unfolding tree_of listing_of mnemonic_of labels_agree
wraps = refl

-- a label that is used is given
pub no_goto : tree_of (main_text (codes ".limit stack 0\n.limit locals 0\ngoto X\n.end method\n")) ≡ None
unfolding tree_of mnemonic_of labels_agree
no_goto = refl

-- a branch back, a row that ends after the last instruction, and a switch: pcs stand for the labels
pub labels : listing_spelled (main_text (codes ".limit stack 1\n.limit locals 0\n.catch all from A to E using A\nA:\niconst_0\ntableswitch 5\nA\nB\ndefault : A\nB:\ngoto A\nE:\n.end method\n")) ≡ Some (record {
  name = codes "E";
  flags = record { 0 = 0x0001 };
  superclass = codes "java/lang/Object";
  interfaces = [];
  fields = [];
  methods = record {
    flags = record { 0 = 0x0009 };
    name = codes "main";
    descriptor = codes "()V";
    code = Some (record {
      max_stack = 1;
      max_locals = 0;
      rows = record { start = 0; end = 27; handler = 0; class = None } ∷ [];
      instructions =
          record { pc = 0; next = 1; instruction = instruction.Constant (constant.SmallInt Zero) }
          ∷ record {
            pc = 1;
            next = 24;
            instruction =
                instruction.TableSwitch (record { low = pos 5; targets = 0 ∷ 24 ∷ []; default = 0 });
          }
          ∷ record { pc = 24; next = 27; instruction = instruction.Branch (Always Narrow) 0 } ∷ [];
    });
  } ∷ [];
})
unfolding tree_of listing_of mnemonic_of labels_agree
labels = refl

-- a label is given once
pub repeated_label : tree_of (main_text (codes ".limit stack 0\n.limit locals 0\nA:\nA:\nreturn\n.end method\n")) ≡ None
unfolding tree_of mnemonic_of labels_agree
repeated_label = refl

-- no branch goes after the last instruction
pub no_end : tree_of (main_text (codes ".limit stack 0\n.limit locals 0\ngoto E\nE:\n.end method\n")) ≡ None
unfolding tree_of mnemonic_of labels_agree
no_end = refl

pub nothing : tree_of [] ≡ None
unfolding tree_of mnemonic_of labels_agree
nothing = refl

-- a limit is given once
pub repeated_limit : tree_of
    (main_text (codes ".limit stack 0\n.limit stack 0\n.limit locals 0\nreturn\n.end method\n")) ≡ None
unfolding tree_of mnemonic_of labels_agree
repeated_limit = refl

-- a number has no 0 in front
pub leading_zero : tree_of (main_text (codes ".limit stack 1\n.limit locals 0\nbipush 05\nreturn\n.end method\n"))
    ≡ None
unfolding tree_of mnemonic_of labels_agree
leading_zero = refl

-- a flag is given once
pub repeated_flag : tree_of (codes ".class public public E\n.super java/lang/Object\n") ≡ None
unfolding tree_of mnemonic_of labels_agree
repeated_flag = refl

-- a line with a byte past 7F spells nothing, in a comment too
pub no_text : tree_of (main_text (codes ".limit stack 1\n.limit locals 0\nreturn ;" ++ 0xff ∷ codes "\n.end method\n"))
    ≡ None
unfolding tree_of mnemonic_of labels_agree
no_text = refl

-- a method without its end
pub endless : tree_of (main_text (codes ".limit stack 0\n.limit locals 0\nreturn\n")) ≡ None
unfolding tree_of mnemonic_of labels_agree
endless = refl

-- code is not empty
pub empty_code : option_map assembles (tree_of (main_text (codes ".limit stack 0\n.limit locals 0\n.end method\n")))
    ≡ Some false
unfolding tree_of assembles listing_assembles listing_of pool_size listing_items mnemonic_of labels_agree
empty_code = refl

pub one_return : option_map assembles
    (tree_of (main_text (codes ".limit stack 0\n.limit locals 0\nreturn\n.end method\n"))) ≡ Some true
unfolding tree_of assembles listing_assembles listing_of pool_size listing_items mnemonic_of labels_agree
one_return = refl

-- a switch after `ldc` and 0, 1, 2 or 3 nops
pub pads : map pad_at (2 ∷ 3 ∷ 4 ∷ 5 ∷ []) ≡ 1 ∷ 0 ∷ 3 ∷ 2 ∷ []
pads = refl
