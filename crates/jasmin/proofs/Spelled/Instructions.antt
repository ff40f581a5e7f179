-- An instruction of a text has the operands that a listing asks for, whatever its labels become.
use Rattle.std.proofs.Common.{◌≡◌, ℕ, ℤ, Bool, true, ◌&&◌, ◌++◌, List, [], ◌∷◌, refl, inl, inr, Some, None, Option}
use Rattle.std.proofs.Common.{codes}
use Rattle.std.specs.Prelude.{IfSome, nat_le, int_le, pos, negsuc}
use Rattle.std.specs.Option.{option_and_then}
use Rattle.std.specs.Str.{bytes_eq}
use Rattle.std.proofs.lemmas.Option.{IfSome_then}
use Rattle.model.specs.declared.instructions.ArrayOperation.TheVariants as array
use Rattle.model.specs.declared.instructions.ClassOperation.{ClassOperation}
use Rattle.model.specs.declared.instructions.ClassOperation.TheVariants as class
use Rattle.model.specs.declared.instructions.Constant.TheVariants as constant
use Rattle.model.specs.declared.instructions.Instruction.TheVariants as instruction
use Rattle.model.specs.declared.instructions.LocalAccess.TheVariants as access
use Rattle.model.specs.declared.instructions.Width.{Width}
use Rattle.model.specs.declared.instructions.Width.TheVariants.{Narrow, Wide}
use Rattle.model.specs.declared.mnemonics.LocalMnemonic.{LocalMnemonic}
use Rattle.model.specs.declared.mnemonics.LocalMnemonic.TheVariants as «local»
use Rattle.model.specs.declared.mnemonics.Mnemonic.{Mnemonic}
use Rattle.model.specs.declared.mnemonics.Mnemonic.TheVariants.{Nop, Null, SmallInt, SmallLong, Byte, Short, Int, Long}
use Rattle.model.specs.declared.mnemonics.Mnemonic.TheVariants.{Local, FirstLocal, Stack, Number, Branch, Return}
use Rattle.model.specs.declared.mnemonics.Mnemonic.TheVariants.{Static, Field, NewArray, NewArrayOf, ArrayLength}
use Rattle.model.specs.declared.mnemonics.Mnemonic.TheVariants.{ArrayLoad, ArrayStore, Class, Invoke, InvokeInterface}
use Rattle.model.specs.declared.mnemonics.Mnemonic.TheVariants.{Throw, Monitor}
use Rattle.model.specs.declared.names.Member.{Member}
use Rattle.model.specs.Texts.Instructions.{Written, alone, field_of, operand_of, interface_call, instruction_by}
use Rattle.model.specs.Texts.Instructions.{wide_by, wide_instruction, instruction_of}
use Rattle.model.specs.Texts.Labels.{with_targets}
use Rattle.model.specs.Texts.Locals.{local_form, increment_form, increment_with, increment_of, local_by}
use Rattle.model.specs.Texts.Mnemonics.{mnemonic_of, constant_mnemonics, local_mnemonics, stack_mnemonics}
use Rattle.model.specs.Texts.Mnemonics.{number_mnemonics, branch_mnemonics, call_mnemonics, object_mnemonics}
use Rattle.model.specs.Texts.Mnemonics.{array_mnemonics}
use Rattle.model.specs.Texts.Numbers.{number_in, natural_to}
use Rattle.model.specs.Texts.Operands.{only, both, only_number, only_natural, label_named, type_named, field_named}
use Rattle.model.specs.Texts.Operands.{method_named, primitives}
use Rattle.model.specs.Texts.Spelled.{is_in, is_u2, is_short, operands_are_spelled, index_is_spelled}
use Rattle.model.specs.Texts.Spelled.{increment_is_spelled, access_is_spelled, class_is_spelled, count_is_spelled}
use Rattle.model.specs.Texts.Spelled.{field_is_named, method_is_named}
use Rattle.model.specs.Texts.Tables.{named}
use Rattle.jasmin_words.proofs.Places.{bool_tells}
use Rattle.jasmin.proofs.Spelled.Operands.{number_fits, natural_fits, only_number_fits, only_natural_fits, class_fits}
use Rattle.jasmin.proofs.Spelled.Operands.{type_fits, field_fits, method_fits}
use Rattle.jasmin.proofs.Spelled.Partial.{and_true, regrouped, in_table, of_each, of_map, of_then, of_any, of_test}

-- ---- locals

local_fits : (width : Width) (n : ℕ) → is_u2 n ≡ true → index_is_spelled (local_form width n) ≡ true
local_fits Narrow n h = elim (bool_tells (nat_le n 255)) [ inl t ↦ rw t t | inr f ↦ rw f h ]
local_fits Wide n h = h

increment_fits : (width : Width) (n : ℕ) (z : ℤ) → is_u2 n ≡ true → is_short z ≡ true
    → increment_is_spelled (increment_form width n z) ≡ true
increment_fits Narrow n z h k =
    elim (bool_tells (nat_le n 255 && int_le (negsuc 127) z && int_le z (pos 127))) [
      | inl t ↦ rw t (regrouped (nat_le n 255) (int_le (negsuc 127) z) (int_le z (pos 127)) t)
      | inr f ↦ rw f (and_true (is_u2 n) (is_short z) h k)
    ]
increment_fits Wide n z h k = and_true (is_u2 n) (is_short z) h k

both_fit : (width : Width) (n : Option ℕ) (z : Option ℤ) → IfSome n (λ n. is_u2 n ≡ true)
    → IfSome z (λ z. is_short z ≡ true)
    → IfSome (increment_with width n z) (λ i. increment_is_spelled i ≡ true)
both_fit width None z h k = tt
both_fit width (Some n) None h k = tt
both_fit width (Some n) (Some z) h k = increment_fits width n z h k

access_fits : (width : Width) (m : LocalMnemonic) (words : List (List ℕ))
    → IfSome (local_by width m words) (λ a. access_is_spelled a ≡ true)
access_fits width («local».Load kind) words =
    of_map (λ a. access_is_spelled a ≡ true) (λ n. access.Load kind (local_form width n)) (only_natural 65535 words)
    (IfSome_then (only_natural 65535 words) (only_natural_fits 65535 words) (local_fits width))
access_fits width («local».Store kind) words =
    of_map (λ a. access_is_spelled a ≡ true) (λ n. access.Store kind (local_form width n)) (only_natural 65535 words)
    (IfSome_then (only_natural 65535 words) (only_natural_fits 65535 words) (local_fits width))
access_fits width «local».Increment words =
    of_map (λ a. access_is_spelled a ≡ true) access.Increment (option_and_then (increment_of width) (both words))
    (of_any (λ i. increment_is_spelled i ≡ true) (increment_of width) (both words)
    (λ p. both_fit width (natural_to 65535 p.0) (number_in (negsuc 32767) (pos 32767) p.1) (natural_fits 65535 p.0)
    (number_fits (negsuc 32767) (pos 32767) p.1)))

-- ---- mnemonics

-- a local that a mnemonic names has its range, and a mnemonic names no count
stands : Mnemonic → Bool
stands Nop = true
stands Null = true
stands (SmallInt n) = true
stands (SmallLong n) = true
stands Byte = true
stands Short = true
stands (Int width) = true
stands Long = true
stands (Local m) = true
stands (FirstLocal a) = access_is_spelled a
stands (Stack op) = true
stands (Number op) = true
stands (Branch t) = true
stands (Return kind) = true
stands (Static a) = true
stands (Field a) = true
stands NewArray = true
stands NewArrayOf = true
stands ArrayLength = true
stands (ArrayLoad kind) = true
stands (ArrayStore kind) = true
stands (Class op) = true
stands (Invoke how) = count_is_spelled how
stands InvokeInterface = true
stands Throw = true
stands (Monitor op) = true

mnemonic_stands : (word : List ℕ) → IfSome (mnemonic_of word) (λ m. stands m ≡ true)
unfolding mnemonic_of stands
mnemonic_stands word =
    in_table stands
    (constant_mnemonics ++ local_mnemonics ++ stack_mnemonics ++ number_mnemonics ++ branch_mnemonics ++ call_mnemonics
    ++ object_mnemonics ++ array_mnemonics)
    word refl

-- ---- instructions

-- an instruction fits whatever its labels become
abbrev pub Fits : Written → Type 0
Fits i = (f : List ℕ → ℕ) → operands_are_spelled (with_targets f i) ≡ true

alone_fits : (i : Written) (words : List (List ℕ)) → Fits i → IfSome (alone i words) Fits
alone_fits i [] h = h
alone_fits i (word ∷ words) h = tt

operand_fits : (op : ClassOperation) (word : List ℕ) → IfSome (operand_of op word) (λ c. class_is_spelled op c ≡ true)
operand_fits class.New word = class_fits word
operand_fits class.CheckCast word = type_fits word
operand_fits class.InstanceOf word = type_fits word

interface_fits : (m : Option Member) (count : Option ℤ) → IfSome m (λ m. method_is_named m ≡ true)
    → IfSome count (λ z. is_in (pos 1) (pos 255) z ≡ true) → IfSome (interface_call m count) Fits
interface_fits None count h k = tt
interface_fits (Some m) None h k = tt
interface_fits (Some m) (Some (pos n)) h k = λ f. and_true (nat_le 1 n && nat_le n 255) (method_is_named m) k h
interface_fits (Some m) (Some (negsuc n)) h k = tt

fields_fit : (words : List (List ℕ)) → IfSome (field_of words) (λ m. field_is_named m ≡ true)
fields_fit words = of_any (λ m. field_is_named m ≡ true) (λ p. field_named p.0 p.1) (both words)
    (λ p. field_fits p.0 p.1)

instruction_fits : (m : Mnemonic) (words : List (List ℕ)) → stands m ≡ true → IfSome (instruction_by m words) Fits
unfolding stands
instruction_fits Nop words h = alone_fits instruction.Nop words (λ f. refl)
instruction_fits Null words h = alone_fits (instruction.Constant constant.Null) words (λ f. refl)
instruction_fits (SmallInt n) words h = alone_fits (instruction.Constant (constant.SmallInt n)) words (λ f. refl)
instruction_fits (SmallLong n) words h = alone_fits (instruction.Constant (constant.SmallLong n)) words (λ f. refl)
instruction_fits Byte words h =
    of_map Fits (λ z. instruction.Constant (constant.Byte z)) (only_number (negsuc 127) (pos 127) words)
    (IfSome_then (only_number (negsuc 127) (pos 127) words) (only_number_fits (negsuc 127) (pos 127) words)
    (λ z k. λ f. k))
instruction_fits Short words h =
    of_map Fits (λ z. instruction.Constant (constant.Short z)) (only_number (negsuc 32767) (pos 32767) words)
    (IfSome_then (only_number (negsuc 32767) (pos 32767) words) (only_number_fits (negsuc 32767) (pos 32767) words)
    (λ z k. λ f. k))
instruction_fits (Int width) words h =
    of_map Fits (λ z. instruction.Constant (constant.Int width z)) (only_number (negsuc 2147483647) (pos 2147483647)
    words)
    (IfSome_then (only_number (negsuc 2147483647) (pos 2147483647) words)
    (only_number_fits (negsuc 2147483647) (pos 2147483647) words) (λ z k. λ f. k))
instruction_fits Long words h =
    of_map Fits (λ z. instruction.Constant (constant.Long z)) (only_number (negsuc 9223372036854775807)
    (pos 9223372036854775807) words)
    (IfSome_then (only_number (negsuc 9223372036854775807) (pos 9223372036854775807) words)
    (only_number_fits (negsuc 9223372036854775807) (pos 9223372036854775807) words) (λ z k. λ f. k))
instruction_fits (Local m) words h =
    of_map Fits instruction.Local (local_by Narrow m words)
    (IfSome_then (local_by Narrow m words) (access_fits Narrow m words) (λ a k. λ f. k))
instruction_fits (FirstLocal a) words h = alone_fits (instruction.Local a) words (λ f. h)
instruction_fits (Stack op) words h = alone_fits (instruction.Stack op) words (λ f. refl)
instruction_fits (Number op) words h = alone_fits (instruction.Number op) words (λ f. refl)
instruction_fits (Branch t) words h =
    of_map Fits (λ l. instruction.Branch t l) (option_and_then label_named (only words))
    (of_each (λ l. Fits (instruction.Branch t l)) (option_and_then label_named (only words)) (λ l. λ f. refl))
instruction_fits (Return kind) words h = alone_fits (instruction.Return kind) words (λ f. refl)
instruction_fits (Static a) words h = of_map Fits (λ m. instruction.Static a m) (field_of words)
    (IfSome_then (field_of words) (fields_fit words) (λ m k. λ f. k))
instruction_fits (Field a) words h = of_map Fits (λ m. instruction.Field a m) (field_of words)
    (IfSome_then (field_of words) (fields_fit words) (λ m k. λ f. k))
instruction_fits NewArray words h =
    of_map Fits (λ p. instruction.Array (array.New p)) (option_and_then (named primitives) (only words))
    (of_each (λ p. Fits (instruction.Array (array.New p))) (option_and_then (named primitives) (only words))
    (λ p. λ f. refl))
instruction_fits NewArrayOf words h =
    of_map Fits (λ c. instruction.Array (array.NewOf c)) (option_and_then type_named (only words))
    (of_any (λ c. Fits (instruction.Array (array.NewOf c))) type_named (only words)
    (λ w. IfSome_then (type_named w) (type_fits w) (λ c k. λ f. k)))
instruction_fits ArrayLength words h = alone_fits (instruction.Array array.Length) words (λ f. refl)
instruction_fits (ArrayLoad kind) words h = alone_fits (instruction.Array (array.Load kind)) words (λ f. refl)
instruction_fits (ArrayStore kind) words h = alone_fits (instruction.Array (array.Store kind)) words (λ f. refl)
instruction_fits (Class op) words h =
    of_map Fits (λ c. instruction.Class op c) (option_and_then (operand_of op) (only words))
    (of_any (λ c. Fits (instruction.Class op c)) (operand_of op) (only words)
    (λ w. IfSome_then (operand_of op w) (operand_fits op w) (λ c k. λ f. k)))
instruction_fits (Invoke how) words h =
    of_map Fits (λ m. instruction.Invoke how m) (option_and_then method_named (only words))
    (of_any (λ m. Fits (instruction.Invoke how m)) method_named (only words)
    (λ w. IfSome_then (method_named w) (method_fits w) (λ m k. λ f. and_true (count_is_spelled how) (method_is_named m)
    h k)))
instruction_fits InvokeInterface words h =
    of_any Fits (λ p. interface_call (method_named p.0) (number_in (pos 1) (pos 255) p.1)) (both words)
    (λ p. interface_fits (method_named p.0) (number_in (pos 1) (pos 255) p.1) (method_fits p.0)
    (number_fits (pos 1) (pos 255) p.1))
instruction_fits Throw words h = alone_fits instruction.Throw words (λ f. refl)
instruction_fits (Monitor op) words h = alone_fits (instruction.Monitor op) words (λ f. refl)

wide_fits : (m : Mnemonic) (words : List (List ℕ)) → IfSome (wide_by m words) Fits
wide_fits (Local m) words = of_map Fits
    instruction.Local (local_by Wide m words) (IfSome_then (local_by Wide m words) (access_fits Wide m words)
    (λ a k. λ f. k))
wide_fits m words = tt

wide_word_fits : (words : List (List ℕ)) → IfSome (wide_instruction words) Fits
wide_word_fits [] = tt
wide_word_fits (word ∷ words) = of_any Fits (λ m. wide_by m words) (mnemonic_of word) (λ m. wide_fits m words)

pub words_fit : (words : List (List ℕ)) → IfSome (instruction_of words) Fits
words_fit [] = tt
words_fit (word ∷ words) =
    of_test Fits (bytes_eq word (codes "wide")) (wide_instruction words) (option_and_then (λ m. instruction_by m words)
    (mnemonic_of word))
    (λ t. wide_word_fits words)
    (λ f. of_then Fits (λ m. instruction_by m words) (mnemonic_of word)
    (IfSome_then (mnemonic_of word) (mnemonic_stands word) (λ m k. instruction_fits m words k)))
