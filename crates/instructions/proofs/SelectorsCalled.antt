-- Selectors stand once each, and what the code of a program calls on objects has one.
use Rattle.std.proofs.Common.{◌≡◌, ℕ, zero, suc, ◌+◌, List, [], ◌∷◌, ◌++◌, length, fold, Bool, true, false, cond, ◌||◌}
use Rattle.std.proofs.Common.{◌&&◌, Option, Some, None, refl, sym, ap, subst, arith, ◌∙◌}
use Rattle.std.specs.Prelude.{slice_get, ◌==◌, if◌then◌else◌}
use Rattle.std.specs.List.{find, list_any, position}
use Rattle.std.specs.Option.{option_and_then}
use Rattle.std.specs.Str.{bytes_eq}
use Rattle.std.proofs.lemmas.Slice.Eq.{bytes_eq-Decides}
use Rattle.model.specs.declared.instructions.Instruction.TheVariants.{Nop, Constant, Local, Stack, Number, Branch}
use Rattle.model.specs.declared.instructions.Instruction.TheVariants.{TableSwitch, LookupSwitch, Return}
use Rattle.model.specs.declared.instructions.Instruction.TheVariants.{Static as StaticField, Field, Array, Class}
use Rattle.model.specs.declared.instructions.Instruction.TheVariants.{Invoke, Throw, Monitor}
use Rattle.model.specs.declared.instructions.Invocation.{Invocation}
use Rattle.model.specs.declared.instructions.Invocation.TheVariants.{Virtual, Special, Static, Interface}
use Rattle.model.specs.declared.listings.Method.{Method}
use Rattle.model.specs.declared.listings.Placed.{Placed}
use Rattle.model.specs.declared.names.Member.{Member}
use Rattle.model.specs.declared.places.MethodPlace.{MethodPlace}
use Rattle.model.specs.ClassListings.{ClassListing}
use Rattle.model.specs.Classes.Named.{or_else}
use Rattle.model.specs.CodeListings.{CodeListing}
use Rattle.model.specs.Programs.{code_at, empty_initializer, method_at, method_in, placed_at}
use Rattle.model.specs.Table.Next.{Listed}
use Rattle.resolve.proofs.NumberLemmas.{place_after, position-append}
use Rattle.linking.specs.Selectors.{Signature, is_signature, selector_of, selectors, with_called, with_classes}
use Rattle.linking.specs.Selectors.{with_code, with_instructions, with_member, with_methods, with_signature}
use Rattle.instructions.proofs.CodeResolves.{and_then-some}
use Rattle.instructions.proofs.ListPlaces.{first_at, first_of}

-- ---- a fold keeps what each step keeps, and has what one step brings

fold-keeps : {A B : Type 0} (P : A → Type 0) (f : A → B → A) → ((a : A) (b : B) → P a → P (f a b))
    → (xs : List B) (a : A) → P a → P (fold f a xs)
fold-keeps P f keeps [] a p = p
fold-keeps P f keeps (x ∷ xs) a p = fold-keeps P f keeps xs (f a x) (keeps a x p)

fold-has : {A B : Type 0} (P : A → Type 0) (f : A → B → A) → ((a : A) (b : B) → P a → P (f a b)) → (x : B)
    → ((a : A) → P (f a x))
    → (xs : List B) (k : ℕ) (a : A) → slice_get xs k ≡ Some x → P (fold f a xs)
fold-has P f keeps x brings [] k a e = cc
fold-has P f keeps x brings (y ∷ ys) zero a e =
    let same : y ≡ x = cc in fold-keeps P f keeps ys (f a y) (subst (λ z. P (f a z)) (sym same) (brings a))
fold-has P f keeps x brings (y ∷ ys) (suc k) a e = fold-has P f keeps x brings ys k (f a y) e

-- ---- what signatures keep, whatever is called

module _ (P : List Signature → Type 0) (keeps : (ss : List Signature) (s : Signature) → P ss → P (with_signature ss s))
  where
    member-keeps : (ss : List Signature) (invocation : Invocation) (m : Member) → P ss → P (with_member ss invocation m)
    member-keeps ss Virtual m p = keeps ss (m.name, m.descriptor) p
    member-keeps ss (Interface count) m p = keeps ss (m.name, m.descriptor) p
    member-keeps ss Special m p = p
    member-keeps ss Static m p = p

    called-keeps : (ss : List Signature) (i : Listed) → P ss → P (with_called ss i)
    called-keeps ss (Invoke invocation m) p = member-keeps ss invocation m p
    called-keeps ss Nop p = p
    called-keeps ss (Constant constant) p = p
    called-keeps ss (Number operation) p = p
    called-keeps ss (Return kind) p = p
    called-keeps ss (Local access) p = p
    called-keeps ss (Stack operation) p = p
    called-keeps ss (Branch test target) p = p
    called-keeps ss (TableSwitch table) p = p
    called-keeps ss (LookupSwitch lookup) p = p
    called-keeps ss (StaticField access m) p = p
    called-keeps ss (Field access m) p = p
    called-keeps ss (Array operation) p = p
    called-keeps ss (Class operation name) p = p
    called-keeps ss Throw p = p
    called-keeps ss (Monitor operation) p = p

    instructions-keep : (is : List Placed) (ss : List Signature) → P ss → P (with_instructions ss is)
    instructions-keep is ss p =
        fold-keeps P (λ (called : List Signature) (i : Placed). with_called called i.instruction)
        (λ ss i p. called-keeps ss i.instruction p) is ss p

    code-keeps : (code : Option CodeListing) (ss : List Signature) → P ss → P (with_code ss code)
    code-keeps None ss p = p
    code-keeps (Some code) ss p = instructions-keep code.instructions ss p

    methods-keep : (methods : List Method) (ss : List Signature) → P ss → P (with_methods ss methods)
    methods-keep methods ss p =
        fold-keeps P (λ (called : List Signature) (m : Method). with_code called m.code)
        (λ ss m p. code-keeps m.code ss p) methods ss p

    classes-keep : (classes : List ClassListing) (ss : List Signature) → P ss → P (with_classes ss classes)
    classes-keep classes ss p =
        fold-keeps P (λ (called : List Signature) (c : ClassListing). with_methods called c.methods)
        (λ ss c p. methods-keep c.methods ss p) classes ss p

    -- ---- an instruction of the code of a program

    module _ (i : Placed) (brings : (ss : List Signature) → P (with_called ss i.instruction)) where
      instructions-have : (is : List Placed) (k : ℕ) (ss : List Signature) → slice_get is k ≡ Some i
          → P (with_instructions ss is)
      instructions-have is k ss e =
          fold-has P (λ (called : List Signature) (j : Placed). with_called called j.instruction)
          (λ ss j p. called-keeps ss j.instruction p)
          i brings is k ss e

      methods-have : (m : Method) (code : CodeListing) → m.code ≡ Some code → (n : ℕ) → slice_get code.instructions n
          ≡ Some i
          → (methods : List Method) (k : ℕ) (ss : List Signature) → slice_get methods k ≡ Some m
          → P (with_methods ss methods)
      methods-have m code is n at methods k ss e =
          fold-has P (λ (called : List Signature) (m : Method). with_code called m.code)
          (λ ss m p. code-keeps m.code ss p)
          m (λ ss. subst (λ code. P (with_code ss code)) (sym is) (instructions-have code.instructions n ss at))
          methods k
          ss e

      program-has : (c : ClassListing) (m : Method) (code : CodeListing) → m.code ≡ Some code
          → (n : ℕ) → slice_get code.instructions n ≡ Some i → (k : ℕ) → slice_get c.methods k ≡ Some m
          → (program : List ClassListing) (j : ℕ) → slice_get program j ≡ Some c → P (selectors program)
      program-has c m code is n at k there program j e =
          fold-has P (λ (called : List Signature) (c : ClassListing). with_methods called c.methods)
          (λ ss c p. methods-keep c.methods ss p)
          c (λ ss. methods-have m code is n at c.methods k ss there) program j [] e

-- ---- each signature once

signature-same : (s t : Signature) → is_signature s t ≡ true → s ≡ t
signature-same s t e =
    let parts = both (bytes_eq s.0 t.0) (bytes_eq s.1 t.1) e in
    pair s.0 t.0 s.1 t.1 ((bytes_eq-Decides s.0 t.0).0 parts.0) ((bytes_eq-Decides s.1 t.1).0 parts.1)
  where
    both : (a b : Bool) → (a && b) ≡ true → (a ≡ true) × (b ≡ true)
    both true b e = (refl, e)
    both false b e = cc

    pair : (a b c d : List ℕ) → a ≡ b → c ≡ d → (let x : Signature = (a, c) in let y : Signature = (b, d) in x ≡ y)
    pair a b c d p q = rw (p, q) refl

signature-itself : (s : Signature) → is_signature s s ≡ true
signature-itself s =
    let first : bytes_eq s.0 s.0 ≡ true = (bytes_eq-Decides s.0 s.0).1 refl in
    let second : bytes_eq s.1 s.1 ≡ true = (bytes_eq-Decides s.1 s.1).1 refl in
    rw (first, second) refl

-- each stands at its first place
abbrev pub IsOnce : List Signature → Type 0
IsOnce ss = (k : ℕ) (s : Signature) → slice_get ss k ≡ Some s → position (is_signature s) ss ≡ Some k

none-once : IsOnce []
none-once k s e = cc

nowhere : (s : Signature) (ss : List Signature) → list_any (is_signature s) ss ≡ false → position (is_signature s) ss
    ≡ None
nowhere s ss none = by (position (is_signature s) ss) refl
  where
    any-at : (ss : List Signature) (k : ℕ) (x : Signature) → slice_get ss k ≡ Some x → is_signature s x ≡ true
        → list_any (is_signature s) ss ≡ true
    any-at [] k x e h = cc
    any-at (y ∷ ys) zero x e h = let same : y ≡ x = cc
        in ap (λ b. b || list_any (is_signature s) ys) (ap (is_signature s) same ∙ h)
    any-at (y ∷ ys) (suc k) x e h = ap (λ b. is_signature s y || b) (any-at ys k x e h) ∙ or-true (is_signature s y)
      where
        or-true : (a : Bool) → (a || true) ≡ true
        or-true true = refl
        or-true false = refl

    by : (o : Option ℕ) → position (is_signature s) ss ≡ o → o ≡ None
    by None e = refl
    by (Some k) e =
        let first = first_at (is_signature s) ss k e in
        let some : list_any (is_signature s) ss ≡ true = any-at ss k first.item first.there first.passes in absurd (cc)

at-end : (xs : List Signature) (y : Signature) (k : ℕ) (x : Signature) → slice_get (xs ++ y ∷ []) k ≡ Some x
    → (slice_get xs k ≡ Some x → (P : Type 0) → P) → (x ≡ y) × (k ≡ length xs + 0)
at-end [] y zero x e other = (sym (one e), omega arith)
  where
    one : Some y ≡ Some x → y ≡ x
    one e = cc
at-end [] y (suc k) x e other = cc
at-end (z ∷ zs) y zero x e other = other e _
at-end (z ∷ zs) y (suc k) x e other =
    let rest = at-end zs y k x e other in (rest.0, (let n = rest.1 in omega (arith, n)))

one-more : (ss : List Signature) (t : Signature) → IsOnce ss → list_any (is_signature t) ss ≡ false
    → IsOnce (ss ++ t ∷ [])
one-more ss t once new k s e = by (slice_get ss k) refl
  where
    by : (o : Option Signature) → slice_get ss k ≡ o → position (is_signature s) (ss ++ t ∷ []) ≡ Some k
    by (Some x) h =
        let same : x ≡ s = one-of (sym (first-part ss (t ∷ []) k x h) ∙ e) in
        position-append (is_signature s) ss (t ∷ [])
        ∙ ap (λ o. or_else o (place_after (length ss) (position (is_signature s) (t ∷ []))))
        (once k s (h ∙ ap Some same))
      where
        one-of : Some x ≡ Some s → x ≡ s
        one-of e = cc

        first-part : (xs ys : List Signature) (k : ℕ) (x : Signature) → slice_get xs k ≡ Some x → slice_get (xs ++ ys) k
            ≡ Some x
        first-part [] ys k x e = cc
        first-part (z ∷ zs) ys zero x e = e
        first-part (z ∷ zs) ys (suc k) x e = first-part zs ys k x e
    by None h =
        let last = at-end ss t k s e (λ there P. absurd (differ (sym h ∙ there))) in
        let place : k ≡ length ss + 0 = last.1 in
        ap (λ s. position (is_signature s) (ss ++ t ∷ [])) last.0
        ∙ position-append (is_signature t) ss (t ∷ [])
        ∙ ap (λ o. or_else o (place_after (length ss) (position (is_signature t) (t ∷ [])))) (nowhere t ss new)
        ∙ here (signature-itself t) ∙ ap Some (sym place)
      where
        differ : None ≡ Some s → ⊥
        differ e = cc

        here : is_signature t t ≡ true → place_after (length ss) (position (is_signature t) (t ∷ []))
            ≡ Some (length ss + 0)
        here e = rw e refl

once-kept : (ss : List Signature) (s : Signature) → IsOnce ss → IsOnce (with_signature ss s)
once-kept ss s once = by (list_any (is_signature s) ss) refl
  where
    by : (b : Bool) → list_any (is_signature s) ss ≡ b → IsOnce (if b then ss else ss ++ s ∷ [])
    by true e = once
    by false e = one-more ss s once e

pub selectors-once : (program : List ClassListing) → IsOnce (selectors program)
selectors-once program = classes-keep IsOnce once-kept program [] none-once

-- ---- what is called is there

abbrev Has : Signature → List Signature → Type 0
Has s ss = list_any (is_signature s) ss ≡ true

any-more : (s t : Signature) (ss : List Signature) → Has s ss → Has s (ss ++ t ∷ [])
any-more s t [] h = cc
any-more s t (x ∷ xs) h = by (is_signature s x) h (λ k. any-more s t xs k)
  where
    by : (b : Bool) → (b || list_any (is_signature s) xs) ≡ true → (Has s xs → Has s (xs ++ t ∷ []))
        → (b || list_any (is_signature s) (xs ++ t ∷ [])) ≡ true
    by true k more = refl
    by false k more = more k

has-kept : (s : Signature) (ss : List Signature) (t : Signature) → Has s ss → Has s (with_signature ss t)
has-kept s ss t h = by (list_any (is_signature t) ss)
  where
    by : (b : Bool) → Has s (if b then ss else ss ++ t ∷ [])
    by true = h
    by false = any-more s t ss h

any-last : (s : Signature) (ss : List Signature) → Has s (ss ++ s ∷ [])
any-last s [] = rw (signature-itself s) refl
any-last s (x ∷ xs) = ap (λ b. is_signature s x || b) (any-last s xs) ∙ or-true (is_signature s x)
  where
    or-true : (a : Bool) → (a || true) ≡ true
    or-true true = refl
    or-true false = refl

has-brought : (s : Signature) (ss : List Signature) → Has s (with_signature ss s)
has-brought s ss = by (list_any (is_signature s) ss) refl
  where
    by : (b : Bool) → list_any (is_signature s) ss ≡ b → Has s (if b then ss else ss ++ s ∷ [])
    by true e = e
    by false e = any-last s ss

-- an invocation that selects
abbrev pub selects : Invocation → Bool
selects Virtual = true
selects Special = false
selects Static = false
selects (Interface count) = true

member-brings : (invocation : Invocation) (m : Member) → selects invocation ≡ true → (ss : List Signature)
    → Has (m.name, m.descriptor) (with_called ss (Invoke invocation m))
member-brings Virtual m e ss = has-brought (m.name, m.descriptor) ss
member-brings (Interface count) m e ss = has-brought (m.name, m.descriptor) ss
member-brings Special m e ss = cc
member-brings Static m e ss = cc

found-place : {A : Type 0} (p : A → Bool) (xs : List A) (x : A) → find p xs ≡ Some x → (k : ℕ)
    × (slice_get xs k ≡ Some x)
found-place p [] x e = cc
found-place p (y ∷ ys) x e = by (p y) e (λ k. found-place p ys x k) where
  by : (b : Bool) → cond b (Some y) (find p ys) ≡ Some x → (find p ys ≡ Some x → (k : ℕ) × (slice_get ys k ≡ Some x))
      → (k : ℕ) × (slice_get (y ∷ ys) k ≡ Some x)
  by true k rest = (0, k)
  by false k rest = let later = rest k in (suc later.0, later.1)

pub record HasSelector (program : List ClassListing) (m : Member) : Type 0 where
  pub selector : ℕ
  pub is : selector_of program m.name m.descriptor ≡ Some selector
  pub there : slice_get (selectors program) selector ≡ Some (m.name, m.descriptor)

module _ (program : List ClassListing) (m : Member) where
  selector-at : Has (m.name, m.descriptor) (selectors program) → HasSelector program m
  selector-at has =
      let first = first_of (is_signature (m.name, m.descriptor)) (selectors program) has in
      let at = first_at (is_signature (m.name, m.descriptor)) (selectors program) first.place first.is in
      record {
        selector = first.place;
        is = first.is;
        there = at.there ∙ ap Some (sym (signature-same (m.name, m.descriptor) at.item at.passes));
      }

  in_empty : (b : Bool) (x : Method) (code : CodeListing) (i : Placed) (pc : ℕ) (invocation : Invocation)
      → cond b (Some empty_initializer) None ≡ Some x → x.code ≡ Some code → placed_at code pc ≡ Some i
      → i.instruction ≡ Invoke invocation m → ⊥
  in_empty true x code i pc invocation e is at calls =
      let same : empty_initializer ≡ x = cc in
      by (0 == pc)
      (ap (λ (x : Method). option_and_then (λ (code : CodeListing). placed_at code pc) x.code) same
      ∙ ap (option_and_then (λ (code : CodeListing). placed_at code pc)) is ∙ at)
    where
      returns : Placed
      returns = record { pc = 0; next = 1; instruction = Return None }

      differ : returns.instruction ≡ Invoke invocation m → ⊥
      differ e = cc

      by : (b : Bool) → cond b (Some returns) None ≡ Some i → ⊥
      by true k = let same : returns ≡ i = cc in differ (ap (λ (i : Placed). i.instruction) same ∙ calls)
      by false k = cc
  in_empty false x code i pc invocation e is at calls = cc

  -- what an instruction at a pc of a method calls on an object has a selector
  pub placed-selector : (place : MethodPlace) (code : CodeListing) (pc : ℕ) (i : Placed) (invocation : Invocation)
      → code_at program place ≡ Some code → placed_at code pc ≡ Some i → i.instruction ≡ Invoke invocation m
      → selects invocation ≡ true → HasSelector program m
  placed-selector place code pc i invocation there at calls selects =
      let method = and_then-some (λ (m : Method). m.code) (method_at program place) code there in
      let class = and_then-some (λ (c : ClassListing). method_in c place.method)
      (slice_get program place.class) method.0 method.1 in
      by class.0 method.0 class.1 method.2 (slice_get class.0.methods place.method) refl class.2
    where
      brings : (ss : List Signature) → Has (m.name, m.descriptor) (with_called ss i.instruction)
      brings ss =
          subst (λ j. Has (m.name, m.descriptor) (with_called ss j)) (sym calls) (member-brings invocation m selects ss)

      by : (c : ClassListing) (x : Method) → slice_get program place.class ≡ Some c → x.code ≡ Some code
          → (o : Option Method) → slice_get c.methods place.method ≡ o
          → or_else o (cond (place.method == length c.methods) (Some empty_initializer) None) ≡ Some x
          → HasSelector program m
      by c x class is (Some y) e k =
          let same : y ≡ x = cc in
          let found = found-place (λ (i : Placed). i.pc == pc) code.instructions i at in
          selector-at (program-has (Has (m.name, m.descriptor)) (has-kept (m.name, m.descriptor)) i brings c y code
          (ap (λ (x : Method). x.code) same ∙ is) found.0 found.1 place.method e program place.class class)
      by c x class is None e k =
          absurd (in_empty (place.method == length c.methods) x code i pc invocation k is at calls)
