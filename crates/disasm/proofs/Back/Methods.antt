-- Methods are read back from their statements.
use Rattle.std.proofs.Common.{◌≡◌, ℕ, zero, suc, ◌+◌, ◌≤◌, Bool, true, false, not, ◌&&◌, ◌||◌, ◌==◌, List, [], ◌∷◌}
use Rattle.std.proofs.Common.{◌++◌, map, flat_map, Option, Some, None, refl, ap, ap₂, ◌∙◌, arith, leb-true, le-leb}
use Rattle.std.proofs.Common.{ne_eqb, append_assoc}
use Rattle.std.specs.Prelude.{bit_and, bit_or, if◌then◌else◌}
use Rattle.std.specs.List.{list_all}
use Rattle.std.specs.Option.{option_map, option_and_then}
use Rattle.std.proofs.lemmas.Bool.{and_parts}
use Rattle.std.proofs.lemmas.List.{map-append}
use Rattle.std.proofs.lemmas.Nat.{le_or_l, le_or_r}
use Rattle.model.specs.declared.flags.ClassFlags.{ClassFlags}
use Rattle.model.specs.declared.listings.Method.{Method}
use Rattle.model.specs.declared.trees.MethodTree.{MethodTree}
use Rattle.model.specs.ClassFiles.Methods.{are_method_flags, wants_code, units_fit}
use Rattle.model.specs.ClassFiles.References.{fits_units}
use Rattle.model.specs.CodeListings.{CodeListing}
use Rattle.model.specs.Texts.Assembling.{end_from}
use Rattle.model.specs.Texts.Classes.{is_end, blocks_of, said_before, each, methods_of}
use Rattle.model.specs.Texts.Descriptors.{arguments_of}
use Rattle.model.specs.Texts.Flags.{has, method_flags, flags_and_word, method_flags_agree}
use Rattle.model.specs.Texts.Heads.{MethodHead, method_spelled, method_head, method_of}
use Rattle.model.specs.Texts.Methods.{body_of, method_without, method_with, method_under, method_tree}
use Rattle.model.specs.Texts.Names.{is_method_name}
use Rattle.model.specs.Texts.Spelled.{is_u2, code_is_spelled, body_is_spelled, method_is_spelled}
use Rattle.model.specs.Texts.Statements.{Statement}
use Rattle.disasm.specs.Back.{body_back, method_back, code_fits}
use Rattle.disasm.specs.Statements.{flags_words, code_statements, body_statements, method_words, end_words}
use Rattle.disasm.specs.Statements.{method_statements}
use Rattle.disasm.proofs.Back.Blocks.{none_ends, block_read}
use Rattle.disasm.proofs.Back.Bodies.{parts_back, parts_read, body_again}
use Rattle.disasm.proofs.Back.Flags.{and_over_or, bit_clear, bit_none, kept_whole, flags_read}
use Rattle.disasm.proofs.Back.Listings.{spelled_code, SpelledMethod, spelled_method}
use Rattle.disasm.proofs.Back.Words.{none_in_method, before_back, from_back}

-- ---- heads

method_flags_read : (class flags : ℕ) (word : List ℕ) → is_u2 flags ≡ true → are_method_flags class flags ≡ true
    → flags_and_word method_flags (flags_words method_flags flags ++ word ∷ []) ≡ Some (flags, word)
method_flags_read class flags word small agree =
    let parts = and_parts (bit_and flags 0xfac0 == 0) (method_flags_agree class flags) agree in
    flags_read method_flags flags word (
      0,
      refl,
      refl,
      refl,
      (
        1,
        refl,
        refl,
        refl,
        (
          2,
          refl,
          refl,
          refl,
          (
            3,
            refl,
            refl,
            refl,
            (4, refl, refl, refl, (5, refl, refl, refl, (8, refl, refl, refl, (10, refl, refl, refl, tt)))),
          ),
        ),
      ),
    ) refl
    ∙ ap (λ n. Some (n, word)) (kept_whole flags 0x053f 0xfac0 small refl parts.0)

units_few : (static : Bool) (o : Option ℕ) → units_fit static o ≡ true → fits_units o ≡ true
units_few static None e = absurd cc
units_few true (Some units) e = e
units_few false (Some units) e = let small = leb-true (units + 1) 255 e in le-leb units 255 (omega arith)

spelled_back : (class : ℕ) (m : Method) (o : Option ℕ) → is_method_name m.name ≡ true
    → units_fit (has m.flags.0 0x0008) o ≡ true → method_flags_agree class m.flags.0 ≡ true
    → method_spelled class m.flags.0 m.name m.descriptor o
    ≡ Some (record { flags = m.flags; name = m.name; descriptor = m.descriptor })
spelled_back class m None name units agree = absurd cc
spelled_back class m (Some units) name fit agree = rw (name, fit, agree) refl

head_back : (class : ClassFlags) (m : Method) → SpelledMethod class.0 m → method_of class (Some (method_words m))
    ≡ Some (record { flags = m.flags; name = m.name; descriptor = m.descriptor })
head_back class m s =
    let word = m.name ++ m.descriptor in
    let none = none_in_method 40 m.name refl refl refl refl s.name in
    let fit = units_few (has m.flags.0 0x0008) (arguments_of m.descriptor) s.units in
    let agree = and_parts (bit_and m.flags.0 0xfac0 == 0) (method_flags_agree class.0 m.flags.0) s.agree in
    ap (method_head class.0) (method_flags_read class.0 m.flags.0 word s.flags s.agree)
    ∙ ap₂ (λ n d. method_spelled class.0 m.flags.0 n d (arguments_of d)) (before_back m.name m.descriptor none fit)
    (from_back m.name m.descriptor none fit)
    ∙ spelled_back class.0 m (arguments_of m.descriptor) s.name s.units agree.1

-- ---- methods with code and without

-- either flag is among flags where one of both is
has_both : (flags a b : ℕ) → has flags (bit_or a b) ≡ (has flags a || has flags b)
has_both flags a b = by (has flags a) (has flags b) refl refl
  where
    is_positive : (n : ℕ) → not (n == 0) ≡ true → 1 ≤ n
    is_positive zero e = absurd cc
    is_positive (suc n) e = omega arith

    positive_is : (n : ℕ) → 1 ≤ n → not (n == 0) ≡ true
    positive_is n some = ap not (ne_eqb n 0 (λ e. absurd (omega (arith, e, some))))

    by : (x y : Bool) → has flags a ≡ x → has flags b ≡ y → has flags (bit_or a b) ≡ (x || y)
    by true y e f =
        let some = is_positive (bit_and flags a) e in
        let more = le_or_l (bit_and flags a) (bit_and flags b) in
        ap (λ n. not (n == 0)) (and_over_or flags a b) ∙ positive_is (bit_or (bit_and flags a) (bit_and flags b))
        (omega (arith, some, more))
    by false true e f =
        let some = is_positive (bit_and flags b) f in
        let more = le_or_r (bit_and flags a) (bit_and flags b) in
        ap (λ n. not (n == 0)) (and_over_or flags a b) ∙ positive_is (bit_or (bit_and flags a) (bit_and flags b))
        (omega (arith, some, more))
    by false false e f = bit_none flags (bit_or a b) (and_over_or flags a b
        ∙ ap₂ bit_or (bit_clear flags a e) (bit_clear flags b f))

neither : (a b : Bool) → (a || b) ≡ not (not a && not b)
neither true true = refl
neither true false = refl
neither false true = refl
neither false false = refl

wants_none : (flags : ℕ) → has flags 0x0500 ≡ not (wants_code flags)
wants_none flags = has_both flags 0x0400 0x0100 ∙ neither (has flags 0x0400) (has flags 0x0100)

abbrev tree_with : Method → Option CodeListing → MethodTree
tree_with m o = record { flags = m.flags; name = m.name; descriptor = m.descriptor; body = option_map body_back o }

abbrev head_of : Method → MethodHead
head_of m = record { flags = m.flags; name = m.name; descriptor = m.descriptor }

under_head : (m : Method) (wanted : Bool) (o : Option CodeListing) → wants_code m.flags.0 ≡ wanted
    → body_is_spelled wanted o ≡ true → code_fits o ≡ true
    → method_under (Some (head_of m)) (map Some (body_statements o)) ≡ Some (tree_with m o)
under_head m true None w e small = absurd cc
under_head m false None w e small = ap (λ (b : Bool). if b then method_without (head_of m) []
    else option_map (method_with (head_of m)) (body_of [])) (wants_none m.flags.0 ∙ ap not w)
under_head m false (Some c) w e small = absurd cc
under_head m true (Some c) w e small =
    ap (λ (b : Bool). if b then method_without (head_of m) (map Some (code_statements c))
    else option_map (method_with (head_of m)) (body_of (map Some (code_statements c)))) (wants_none m.flags.0
    ∙ ap not w)
    ∙ ap (option_map (method_with (head_of m)))
    (body_again c (spelled_code c e) (leb-true (end_from 0 c.instructions) 65535 small))

abbrev block : Method → List Statement
block m = Some (method_words m) ∷ map Some (body_statements m.code)

method_read : (class : ClassFlags) (m : Method) → SpelledMethod class.0 m → code_fits m.code ≡ true
    → method_tree class (block m) ≡ Some (method_back m)
method_read class m s small = ap (λ o. method_under o (map Some (body_statements m.code))) (head_back class m s)
    ∙ under_head m (wants_code m.flags.0) m.code refl s.body small

-- ---- blocks

body_ends_not : (wanted : Bool) (o : Option CodeListing) → body_is_spelled wanted o ≡ true → code_fits o ≡ true
    → list_all (λ s. not (is_end s)) (map Some (body_statements o)) ≡ true
body_ends_not wanted None e small = refl
body_ends_not wanted (Some c) e small =
    let parts = and_parts wanted (code_is_spelled c) e in
    none_ends (map Some (code_statements c)) None (parts_back c)
    (parts_read c (spelled_code c parts.1) (leb-true (end_from 0 c.instructions) 65535 small))

methods_split : (m : Method) (ms : List Method) → map Some (flat_map method_statements (m ∷ ms)) ≡ block m
    ++ (Some end_words ∷ map Some (flat_map method_statements ms))
methods_split m ms =
    ap (λ xs. Some (method_words m) ∷ xs)
    (map-append Some (body_statements m.code ++ end_words ∷ []) (flat_map method_statements ms)
    ∙ ap (λ xs. xs ++ map Some (flat_map method_statements ms)) (map-append Some (body_statements m.code)
    (end_words ∷ []))
    ∙ append_assoc (map Some (body_statements m.code)) (Some end_words ∷ []) (map Some (flat_map method_statements ms)))

blocks_read : (class : ℕ) (ms : List Method) → list_all (method_is_spelled class) ms ≡ true
    → list_all (λ m. code_fits m.code) ms ≡ true → blocks_of (map Some (flat_map method_statements ms))
    ≡ Some (map block ms)
blocks_read class [] e small = refl
blocks_read class (m ∷ ms) e small =
    let parts = and_parts (method_is_spelled class m) (list_all (method_is_spelled class) ms) e in
    let fit = and_parts (code_fits m.code) (list_all (λ n. code_fits n.code) ms) small in
    let s = spelled_method class m parts.0 in
    ap blocks_of (methods_split m ms)
    ∙ block_read (block m) (map Some (flat_map method_statements ms)) (map block ms)
    (body_ends_not (wants_code m.flags.0) m.code s.body fit.0) (blocks_read class ms parts.1 fit.1)

each_read : (class : ClassFlags) (ms : List Method) → list_all (method_is_spelled class.0) ms ≡ true
    → list_all (λ m. code_fits m.code) ms ≡ true → each (method_tree class) (map block ms) ≡ Some (map method_back ms)
each_read class [] e small = refl
each_read class (m ∷ ms) e small =
    let parts = and_parts (method_is_spelled class.0 m) (list_all (method_is_spelled class.0) ms) e in
    let fit = and_parts (code_fits m.code) (list_all (λ n. code_fits n.code) ms) small in
    ap₂ said_before (method_read class m (spelled_method class.0 m parts.0) fit.0) (each_read class ms parts.1 fit.1)

pub methods_read : (class : ClassFlags) (ms : List Method) → list_all (method_is_spelled class.0) ms ≡ true
    → list_all (λ m. code_fits m.code) ms ≡ true → methods_of class (map Some (flat_map method_statements ms))
    ≡ Some (map method_back ms)
methods_read class ms e small = ap (option_and_then (each (method_tree class))) (blocks_read class.0 ms e small)
    ∙ each_read class ms e small
