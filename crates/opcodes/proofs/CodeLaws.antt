-- When instructions that stand one after another are code.
use Rattle.std.specs.Prelude.{◌↔◌, ◌&&◌}
use Rattle.std.proofs.Common.{◌≡◌, ℕ, suc, ◌+◌, ◌<◌, ◌≤◌, Bool, true, false, List, [], ◌∷◌, ◌++◌, length, map, refl}
use Rattle.std.proofs.Common.{sym, ap, ◌∙◌, arith, inl, inr}
use Rattle.std.specs.List.{AllByRecursion, list_all}
use Rattle.std.proofs.lemmas.Bool.{cases_lt, false≢true}
use Rattle.std.proofs.lemmas.List.{length-append, get_or_past}
use Rattle.model.specs.Bytecode.Opcodes.{Instr}
use Rattle.model.specs.Bytecode.Operands.{operands}
use Rattle.model.specs.Bytecode.{spelling, targets, StandFrom, IsPc, IsCode, instructions_of}
use Rattle.model.specs.declared.bytecode.Located.{Located}
use Rattle.opcodes.specs.Starts.{is_start, lands, all_land, Real, AreReal}

all-map : {A : Type 0} (P Q : A → Type 0) (xs : List A) → ((x : A) → P x → Q x) → AllByRecursion P xs
    → AllByRecursion Q xs
all-map P Q [] f all = tt
all-map P Q (x ∷ xs) f all = (f x all.0, all-map P Q xs f all.1)

and-true : (a b : Bool) → (a && b) ≡ true → (a ≡ true) × (b ≡ true)
and-true true b e = (refl, e)
and-true false b e = absurd cc

pub each-true : {A : Type 0} (p : A → Bool) (xs : List A) → list_all p xs ≡ true → AllByRecursion (λ x. p x ≡ true) xs
each-true p [] e = tt
each-true p (x ∷ xs) e = let h = and-true (p x) (list_all p xs) e in (h.0, each-true p xs h.1)

pub true-each : {A : Type 0} (p : A → Bool) (xs : List A) → AllByRecursion (λ x. p x ≡ true) xs → list_all p xs ≡ true
true-each p [] all = refl
true-each p (x ∷ xs) all = rw (all.0, true-each p xs all.1) refl

all-of-map : {A B : Type 0} (P : B → Type 0) (f : A → B) (xs : List A) → AllByRecursion P (map f xs)
    → AllByRecursion (λ x. P (f x)) xs
all-of-map P f [] all = tt
all-of-map P f (x ∷ xs) all = (all.0, all-of-map P f xs all.1)

map-of-all : {A B : Type 0} (P : B → Type 0) (f : A → B) (xs : List A) → AllByRecursion (λ x. P (f x)) xs
    → AllByRecursion P (map f xs)
map-of-all P f [] all = tt
map-of-all P f (x ∷ xs) all = (all.0, map-of-all P f xs all.1)

start-below : (starts : List Bool) (k : ℕ) → is_start starts k ≡ true → k < length starts
start-below starts k e =
    elim (cases_lt k (length starts)) [
      | inl lt ↦ lt
      | inr le ↦ absurd (false≢true (sym (get_or_past starts k false le) ∙ e))
    ]

pub stands-below : (pc : ℕ) (items : List Located) (bytes : List ℕ) (t : ℕ) → StandFrom pc items bytes → IsPc items t
    → t < pc + length bytes
stands-below pc [] bytes t stand p = absurd p
stands-below pc (x ∷ xs) bytes t stand (inl e) =
    let begins = stand.1 in
    let size : length bytes ≡ suc (length (operands pc x.instruction ++ stand.0)) = ap length begins.bytes_are in
    let at = begins.at in omega arith
stands-below pc (x ∷ xs) bytes t stand (inr p) =
    let begins = stand.1 in
    let size : length bytes ≡ length (spelling pc x.instruction) + length stand.0 = ap length begins.bytes_are
    ∙ length-append (spelling pc x.instruction) stand.0 in
    let next = begins.next in
    let below = stands-below x.next xs stand.0 t stand.2 p in omega arith

pub code-real : (bytes : List ℕ) (items : List Located) → IsCode bytes items → AreReal items
code-real bytes items code =
    let few = code.few in
    all-map (λ x. AllByRecursion (IsPc items) (targets x.instruction)) (λ x. Real x.instruction) items
    (λ x land. all-map (IsPc items) (λ t. t < 65535) (targets x.instruction)
    (λ t p. let below = stands-below 0 items bytes t code.stand p in omega arith) land) code.land

-- the table of starts is that of the items
abbrev pub Marks : List Bool → List Located → Type 0
Marks starts items = (k : ℕ) → (is_start starts k ≡ true) ↔ IsPc items k

landed : (starts : List Bool) (items : List Located) → Marks starts items → all_land starts (instructions_of items)
    ≡ true → AllByRecursion (λ x. AllByRecursion (IsPc items) (targets x.instruction)) items
landed starts items marks e =
    let each = all-of-map (λ i. lands starts i ≡ true) (λ (x : Located). x.instruction) items
    (each-true (lands starts) (instructions_of items) e) in
    all-map (λ x. lands starts x.instruction ≡ true) (λ x. AllByRecursion (IsPc items) (targets x.instruction)) items
    (λ x land. all-map (λ t. is_start starts t ≡ true) (IsPc items) (targets x.instruction) (λ t s. (marks t).0 s)
    (each-true (is_start starts) (targets x.instruction) land)) each

pub code-lands : (bytes : List ℕ) (items : List Located) (starts : List Bool) → Marks starts items → IsCode bytes items
    → all_land starts (instructions_of items) ≡ true
code-lands bytes items starts marks code =
    true-each (lands starts) (instructions_of items) (map-of-all (λ i. lands starts i ≡ true)
    (λ (x : Located). x.instruction) items
    (all-map (λ x. AllByRecursion (IsPc items) (targets x.instruction)) (λ x. lands starts x.instruction ≡ true) items
    (λ x land. true-each (is_start starts) (targets x.instruction) (all-map (IsPc items) (λ t. is_start starts t ≡ true)
    (targets x.instruction) (λ t p. (marks t).1 p) land)) code.land))

pub lands-real : (starts : List Bool) (is : List Instr) → length starts ≤ 65535 → all_land starts is ≡ true
    → AllByRecursion Real is
lands-real starts is few e =
    all-map (λ i. lands starts i ≡ true) Real is
    (λ i land. all-map (λ t. is_start starts t ≡ true) (λ t. t < 65535) (targets i)
    (λ t s. let below = start-below starts t s in omega arith) (each-true (is_start starts) (targets i) land))
    (each-true (lands starts) is e)

pub is-code : (bytes : List ℕ) (items : List Located) (starts : List Bool) → (AreReal items → StandFrom 0 items bytes)
    → Marks starts items → length starts ≤ length bytes → 1 ≤ length bytes → length bytes ≤ 65535
    → all_land starts (instructions_of items) ≡ true → IsCode bytes items
is-code bytes items starts stand marks len some few e =
    let real : AreReal items = all-of-map Real (λ (x : Located). x.instruction) items
    (lands-real starts (instructions_of items) (omega arith) e) in
    record { stand = stand real; some = some; few = few; land = landed starts items marks e }
