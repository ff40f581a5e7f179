-- Class files whose listings compute: each is the listing of a text.
use Rattle.std.specs.Prelude.{◌≡◌, ℕ, pos, fold, List, [], ◌∷◌, refl, codes, Some, None}
use Rattle.model.specs.declared.class_files.Entry.{Entry}
use Rattle.model.specs.declared.class_files.Entry.TheVariants.{Utf8, Integer, Class, Methodref, NameAndType}
use Rattle.model.specs.declared.instructions.Constant.TheVariants as constant
use Rattle.model.specs.declared.instructions.Instruction.TheVariants as instruction
use Rattle.model.specs.declared.instructions.Invocation.TheVariants.{Static}
use Rattle.model.specs.declared.instructions.NumberKind.TheVariants as number
use Rattle.model.specs.declared.instructions.NumberOperation.TheVariants.{Binary}
use Rattle.model.specs.declared.instructions.Operator.TheVariants.{Add}
use Rattle.model.specs.declared.instructions.SmallInt.TheVariants.{One}
use Rattle.model.specs.declared.instructions.Width.TheVariants.{Narrow}
use Rattle.model.specs.ClassFiles.Adding.{added}
use Rattle.model.specs.ClassFiles.Classes.{ClassPart}
use Rattle.model.specs.ClassFiles.Codes.{CodePart}
use Rattle.model.specs.ClassFiles.Listing.{listing_of}
use Rattle.model.specs.Texts.{tree_of}
use Rattle.model.specs.Texts.ListingOfTree as texts
use Rattle.model.specs.Texts.Mnemonics.{mnemonic_of}
use Rattle.model.specs.Texts.Uses.{labels_agree}
use Rattle.model.proofs.TextsRows.{listing_spelled}

-- ---- the smallest program

abbrev empty_pool : List Entry
empty_pool = Utf8 (codes "E") ∷ Class 1 ∷ Utf8 (codes "java/lang/Object") ∷ Class 3 ∷ Utf8 (codes "main")
    ∷ Utf8 (codes "()V") ∷ Utf8 (codes "Code") ∷ []

-- a class over Object with one method, static main()V, under these numbers
abbrev class_with : List Entry → ℕ → ℕ → ℕ → ℕ → ℕ → CodePart → ClassPart
class_with pool flags class superclass name descriptor code = record {
  head = record {
    pool = pool;
    flags = record { 0 = flags };
    class = class;
    superclass = superclass;
    interfaces = [];
    fields = [];
  };
  methods = record { flags = record { 0 = 0x0009 }; name = name; descriptor = descriptor; code = Some code } ∷ [];
}

abbrev empty_class : ClassPart
empty_class = class_with empty_pool 0x0021 2 4 5 6 (record {
  name = 7;
  max_stack = 0;
  max_locals = 0;
  instructions = record { pc = 0; next = 1; instruction = instruction.Return None } ∷ [];
  rows = [];
})

pub empty_listing : Some (listing_of empty_class) ≡ listing_spelled (codes ".class public E\n.super java/lang/Object\n.method public static main()V\n.limit stack 0\n.limit locals 0\nreturn\n.end method\n")
unfolding listing_of tree_of texts.listing_of mnemonic_of labels_agree
empty_listing = refl

-- entries that are added twice are kept once
pub added_twice : fold added [] (Utf8 (codes "E") ∷ Class 1 ∷ Utf8 (codes "java/lang/Object") ∷ Class 3
    ∷ Utf8 (codes "E") ∷ Class 1 ∷ Utf8 (codes "main") ∷ Utf8 (codes "()V") ∷ Class 3 ∷ Utf8 (codes "Code") ∷ [])
    ≡ empty_pool
added_twice = refl

-- ---- a sum

abbrev sum_pool : List Entry
sum_pool =
    Integer (pos 2147483647) ∷ Utf8 (codes "A") ∷ Class 2 ∷ Utf8 (codes "java/lang/Object") ∷ Class 4
    ∷ Utf8 (codes "main") ∷ Utf8 (codes "()V") ∷ Utf8 (codes "Code") ∷
    Utf8 (codes "vm/Sys") ∷ Class 9 ∷ Utf8 (codes "print") ∷ Utf8 (codes "(I)V") ∷ NameAndType 11 12 ∷ Methodref 10 13
    ∷ []

abbrev sum_class : ClassPart
sum_class = class_with sum_pool 0x0020 3 5 6 7 (record {
  name = 8;
  max_stack = 2;
  max_locals = 0;
  instructions =
      record { pc = 0; next = 2; instruction = instruction.Constant (constant.Int Narrow 1) }
      ∷ record { pc = 2; next = 3; instruction = instruction.Constant (constant.SmallInt One) }
      ∷ record { pc = 3; next = 4; instruction = instruction.Number (Binary number.Int Add) }
      ∷ record { pc = 4; next = 7; instruction = instruction.Invoke Static 14 }
      ∷ record { pc = 7; next = 8; instruction = instruction.Return None } ∷ [];
  rows = [];
})

pub sum_listing : Some (listing_of sum_class) ≡ listing_spelled (codes ".class A\n.super java/lang/Object\n.method public static main()V\n.limit stack 2\n.limit locals 0\nldc 2147483647\niconst_1\niadd\ninvokestatic vm/Sys/print(I)V\nreturn\n.end method\n")
unfolding listing_of tree_of texts.listing_of mnemonic_of labels_agree
sum_listing = refl
