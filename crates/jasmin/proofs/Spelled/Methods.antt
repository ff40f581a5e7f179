-- The methods of a text are spelled, whatever numbers stay with `ldc`.
use Rattle.std.proofs.Common.{◌≡◌, ℕ, ℤ, true, false, not, ◌&&◌, ◌==◌, List, [], ◌∷◌, refl, ap, subst, sym, ◌∙◌, Some}
use Rattle.std.proofs.Common.{None, Option, codes, map}
use Rattle.std.specs.Prelude.{IfSome, bit_and, nat_le}
use Rattle.std.specs.List.{AllByRecursion, list_all}
use Rattle.std.specs.Option.{option_map}
use Rattle.std.proofs.lemmas.Option.{IfSome_then}
use Rattle.model.specs.declared.flags.ClassFlags.{ClassFlags}
use Rattle.model.specs.declared.trees.MethodTree.{MethodTree}
use Rattle.model.specs.CodeListings.{CodeListing}
use Rattle.model.specs.ClassFiles.Methods.{are_method_flags, wants_code, units_fit}
use Rattle.model.specs.Texts.Bodies.{Body}
use Rattle.model.specs.Texts.Classes.{each, blocks_of, methods_of}
use Rattle.model.specs.Texts.Descriptors.{arguments_of}
use Rattle.model.specs.Texts.Flags.{method_flags, flags_and_word, has, method_flags_agree}
use Rattle.model.specs.Texts.Heads.{following, MethodHead, units_with_object, method_spelled, method_head, method_of}
use Rattle.model.specs.Texts.ListingOfTree.{code_listing, method_listing}
use Rattle.model.specs.Texts.Methods.{body_of, method_without, method_with, method_under, method_tree}
use Rattle.model.specs.Texts.Names.{is_method_name}
use Rattle.model.specs.Texts.Operands.{before_parenthesis, from_parenthesis}
use Rattle.model.specs.Texts.Spelled.{is_u2, code_is_spelled, body_is_spelled, method_is_spelled}
use Rattle.model.specs.Texts.Statements.{Statement}
use Rattle.jasmin.proofs.Spelled.Bodies.{BodyFits, body_fits}
use Rattle.jasmin.proofs.Spelled.Codes.{body_is_code}
use Rattle.jasmin.proofs.Spelled.Flags.{lacks, flags_lack, wants}
use Rattle.jasmin.proofs.Spelled.Partial.{both_true, and_true, of_map, of_any, of_if, of_test, of_all}

-- ---- heads

pub record HeadFits (class : ℕ) (head : MethodHead) : Type 0 where
  pub small : is_u2 head.flags.0 ≡ true
  pub flags : are_method_flags class head.flags.0 ≡ true
  pub name : is_method_name head.name ≡ true
  pub units : units_fit (has head.flags.0 0x0008) (arguments_of head.descriptor) ≡ true

spelled_fits : (class flags : ℕ) (name descriptor : List ℕ) (units : Option ℕ) → arguments_of descriptor ≡ units
    → lacks 0xfac0 flags ≡ true
    → IfSome (method_spelled class flags name descriptor units) (HeadFits class)
spelled_fits class flags name descriptor None e h = tt
spelled_fits class flags name descriptor (Some units) e h =
    let bits = both_true (is_u2 flags) (bit_and flags 0xfac0 == 0) h in
    of_if (HeadFits class) (is_method_name name && nat_le (units_with_object flags units) 255
    && method_flags_agree class flags)
    (record { flags = record { 0 = flags }; name = name; descriptor = descriptor })
    (λ t.
    let outer = both_true (is_method_name name && nat_le (units_with_object flags units) 255)
    (method_flags_agree class flags) t in
    let inner = both_true (is_method_name name) (nat_le (units_with_object flags units) 255) outer.0 in
    record {
      small = bits.0;
      flags = and_true (bit_and flags 0xfac0 == 0) (method_flags_agree class flags) bits.1 outer.1;
      name = inner.0;
      units = subst (λ a. units_fit (has flags 0x0008) a ≡ true) (sym e) inner.1;
    })

found_fits : (class : ℕ) (found : Option (ℕ × List ℕ)) → IfSome found (λ p. lacks 0xfac0 p.0 ≡ true)
    → IfSome (method_head class found) (HeadFits class)
found_fits class None h = tt
found_fits class (Some (flags, word)) h =
    spelled_fits class flags (before_parenthesis word) (from_parenthesis word) (arguments_of (from_parenthesis word))
    refl h

head_fits : (class : ClassFlags) (s : Statement) → IfSome (method_of class s) (HeadFits class.0)
head_fits class s =
    of_any (HeadFits class.0) (λ words. method_head class.0 (flags_and_word method_flags words))
    (following (codes ".method") s)
    (λ words. found_fits class.0 (flags_and_word method_flags words) (flags_lack 0xfac0 method_flags refl words refl
    refl))

-- ---- methods

-- a method is spelled in a class of these flags
abbrev pub MethodFits : ℕ → MethodTree → Type 0
MethodFits class m = (narrow : List ℤ) → method_is_spelled class (method_listing narrow m) ≡ true

with_code : (class : ℕ) (head : MethodHead) (code : Option CodeListing) → HeadFits class head
    → body_is_spelled (wants_code head.flags.0) code ≡ true
    → method_is_spelled class (record {
      flags = head.flags;
      name = head.name;
      descriptor = head.descriptor;
      code = code;
    }) ≡ true
with_code class head code h k =
    and_true
    (is_u2 head.flags.0 && are_method_flags class head.flags.0 && is_method_name head.name
    && units_fit (has head.flags.0 0x0008) (arguments_of head.descriptor))
    (body_is_spelled (wants_code head.flags.0) code)
    (and_true (is_u2 head.flags.0 && are_method_flags class head.flags.0 && is_method_name head.name)
    (units_fit (has head.flags.0 0x0008) (arguments_of head.descriptor))
    (and_true (is_u2 head.flags.0 && are_method_flags class head.flags.0) (is_method_name head.name)
    (and_true (is_u2 head.flags.0) (are_method_flags class head.flags.0) h.small h.flags) h.name) h.units)
    k

without_fits : (class : ℕ) (head : MethodHead) (ss : List Statement) → HeadFits class head → has head.flags.0 0x0500
    ≡ true → IfSome (method_without head ss) (MethodFits class)
without_fits class head [] h e = λ narrow. with_code class head None h (ap not (wants head.flags.0 ∙ ap not e))
without_fits class head (s ∷ ss) h e = tt

with_body : (class : ℕ) (head : MethodHead) → HeadFits class head → has head.flags.0 0x0500 ≡ false → (body : Body)
    → BodyFits body → MethodFits class (method_with head body)
with_body class head h e body b narrow =
    with_code class head (Some (code_listing narrow body)) h
    (and_true (wants_code head.flags.0) (code_is_spelled (code_listing narrow body)) (wants head.flags.0 ∙ ap not e)
    (body_is_code narrow body b))

under_fits : (class : ℕ) (head : Option MethodHead) (ss : List Statement) → IfSome head (HeadFits class)
    → IfSome (method_under head ss) (MethodFits class)
under_fits class None ss h = tt
under_fits class (Some head) ss h =
    of_test (MethodFits class) (has head.flags.0 0x0500) (method_without head ss)
    (option_map (method_with head) (body_of ss))
    (without_fits class head ss h)
    (λ e. of_map (MethodFits class) (method_with head) (body_of ss) (IfSome_then (body_of ss) (body_fits ss)
    (with_body class head h e)))

method_fits : (class : ClassFlags) (ss : List Statement) → IfSome (method_tree class ss) (MethodFits class.0)
method_fits class [] = tt
method_fits class (s ∷ ss) = under_fits class.0 (method_of class s) ss (head_fits class s)

pub methods_fit : (class : ClassFlags) (ss : List Statement)
    → IfSome (methods_of class ss) (AllByRecursion (MethodFits class.0))
methods_fit class ss =
    of_any (AllByRecursion (MethodFits class.0)) (each (method_tree class)) (blocks_of ss)
    (λ blocks. of_all (MethodFits class.0) (method_tree class) blocks (method_fits class))

pub methods_spelled : (class : ℕ) (narrow : List ℤ) (ms : List MethodTree) → AllByRecursion (MethodFits class) ms
    → list_all (method_is_spelled class) (map (method_listing narrow) ms) ≡ true
methods_spelled class narrow [] all = refl
methods_spelled class narrow (m ∷ ms) all =
    and_true (method_is_spelled class (method_listing narrow m))
    (list_all (method_is_spelled class) (map (method_listing narrow) ms)) (all.0 narrow)
    (methods_spelled class narrow ms all.1)
