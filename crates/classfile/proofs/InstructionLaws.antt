-- Instructions that are read are the code, and the code is read again.
use Rattle.std.specs.Prelude.{◌⊎◌, nat_le, ◌&&◌, ◌||◌}
use Rattle.std.proofs.Common.{◌≡◌, ℕ, zero, suc, ◌+◌, ◌-◌, ◌<◌, ◌≤◌, Bool, true, false, cond, eqb, List, [], ◌∷◌, ◌++◌}
use Rattle.std.proofs.Common.{length, Result, Ok, Err, refl, eq-eqb, sym, ap, subst, ◌∙◌, arith, inl, inr}
use Rattle.std.specs.List.{AllByRecursion, list_all}
use Rattle.std.proofs.lemmas.Bool.{eqb-true, leb-true, le-leb}
use Rattle.std.proofs.lemmas.List.{length-append}
use Rattle.model.specs.Bytecode.Opcodes.{Instr}
use Rattle.model.specs.Bytecode.{spelling, targets, StandFrom, IsPc, IsCode}
use Rattle.model.specs.declared.bytecode.Located.{Located}
use Rattle.model.specs.declared.class_files.FormatFault.TheVariants.{Attribute}
use Rattle.opcodes.specs.declared.error.OpError.{OpError}
use Rattle.opcodes.specs.declared.error.OpError.TheVariants as error
use Rattle.opcodes.specs.Reading.{instruction_at}
use Rattle.opcodes.specs.Reading.Steps.{◌>>=◌}
use Rattle.opcodes.specs.Starts.{Real, AreReal}
use Rattle.opcodes.proofs.CodeLaws.{each-true, true-each, code-real}
use Rattle.opcodes.proofs.DecodingLaws.{placed, located-is}
use Rattle.opcodes.proofs.FieldLaws.{IsBytes, bind_ok}
use Rattle.opcodes.proofs.InstructionLaws.{instruction-takes, instruction-again}
use Rattle.opcodes.proofs.Loops.{ok_is}
use Rattle.pool.specs.Reading.Steps.{Fails}
use Rattle.classfile.specs.declared.error.ClassError.{ClassError}
use Rattle.classfile.specs.declared.error.ClassError.TheVariants as reported
use Rattle.classfile.specs.Reading.Answers.{shown, Tells}
use Rattle.classfile.specs.Reading.Instructions.{items_from, is_pc, lands_among, decoded, items_in, as_format}
use Rattle.classfile.specs.Writing.{code_bytes}

all-of : {A : Type 0} (P Q : A → Type 0) (xs : List A) → ((x : A) → P x → Q x) → AllByRecursion P xs
    → AllByRecursion Q xs
all-of P Q [] f all = tt
all-of P Q (x ∷ xs) f all = (f x all.0, all-of P Q xs f all.1)

-- ---- instructions one after another

-- the instruction that stands first, and those after it
record Split (left pc : ℕ) (bytes : List ℕ) (items : List Located) : Type 0 where
  pub i : Instr
  pub after : List ℕ
  pub others : List Located
  pub read : instruction_at pc bytes ≡ Ok (i, after)
  pub more : items_from left (pc + (length bytes - length after)) after ≡ Ok others
  pub are : placed pc (pc + (length bytes - length after)) i ∷ others ≡ items

split : (left pc b : ℕ) (bytes : List ℕ) (items : List Located) → items_from (suc left) pc (b ∷ bytes) ≡ Ok items
    → Split left pc (b ∷ bytes) items
unfolding items_from
split left pc b bytes items e =
    let x = bind_ok (instruction_at pc (b ∷ bytes))
    (λ first. items_from left (pc + (length (b ∷ bytes) - length first.1)) first.1
    >>= λ others. Ok (placed pc (pc + (length (b ∷ bytes) - length first.1)) first.0 ∷ others)) items e in
    let y = bind_ok (items_from left (pc + (length (b ∷ bytes) - length x.0.1)) x.0.1)
    (λ others. Ok (placed pc (pc + (length (b ∷ bytes) - length x.0.1)) x.0.0 ∷ others)) items x.2 in
    record {
      i = x.0.0;
      after = x.0.1;
      others = y.0;
      read = x.1;
      more = y.1;
      are = ok_is (placed pc (pc + (length (b ∷ bytes) - length x.0.1)) x.0.0 ∷ y.0) items y.2;
    }

items_below : (left pc : ℕ) (bytes : List ℕ) (items : List Located) (t : ℕ) → IsBytes bytes → items_from left pc bytes
    ≡ Ok items → IsPc items t → t < pc + length bytes
unfolding items_from
items_below zero pc [] items t fits e p = let none : [] ≡ items = ok_is [] items e
    in absurd (subst (λ (xs : List Located). IsPc xs t) (sym none) p)
items_below zero pc (b ∷ bytes) items t fits e p = absurd cc
items_below (suc left) pc [] items t fits e p = let none : [] ≡ items = ok_is [] items e
    in absurd (subst (λ (xs : List Located). IsPc xs t) (sym none) p)
items_below (suc left) pc (b ∷ bytes) items t fits e p =
    let s = split left pc b bytes items e in
    let taken = instruction-takes pc (b ∷ bytes) s.i s.after fits s.read in
    let here : IsPc (placed pc (pc + (length (b ∷ bytes) - length s.after)) s.i ∷ s.others) t = subst
    (λ (xs : List Located). IsPc xs t) (sym s.are) p in
    elim here [
      | inl at ↦ let less = taken.shorter in omega arith
      | inr later ↦
          let below = items_below left (pc + (length (b ∷ bytes) - length s.after)) s.after s.others t taken.rest_fits
          s.more later in
          let less = taken.shorter in omega arith
    ]

items_stand : (left pc : ℕ) (bytes : List ℕ) (items : List Located) → IsBytes bytes → AreReal items
    → items_from left pc bytes ≡ Ok items → StandFrom pc items bytes
unfolding items_from
items_stand zero pc [] items fits real e = subst (λ (xs : List Located). StandFrom pc xs []) (ok_is [] items e) refl
items_stand zero pc (b ∷ bytes) items fits real e = absurd cc
items_stand (suc left) pc [] items fits real e = subst (λ (xs : List Located). StandFrom pc xs []) (ok_is [] items e)
    refl
items_stand (suc left) pc (b ∷ bytes) items fits real e =
    let s = split left pc b bytes items e in
    let taken = instruction-takes pc (b ∷ bytes) s.i s.after fits s.read in
    let x = placed pc (pc + (length (b ∷ bytes) - length s.after)) s.i in
    let all : AreReal (x ∷ s.others) = subst AreReal (sym s.are) real in
    let front = taken.front all.0 in
    let size : length (b ∷ bytes) ≡ length (spelling pc s.i) + length s.after = ap length front.parts
    ∙ length-append (spelling pc s.i) s.after in
    let next : x.next ≡ pc + length (spelling pc s.i) = omega arith in
    let more = items_stand left x.next s.after s.others taken.rest_fits all.1 s.more in
    subst (λ (xs : List Located). StandFrom pc xs (b ∷ bytes)) s.are (
      s.after,
      record { at = refl; fits = front.fits; bytes_are = front.parts; next = next },
      more,
    )

items_again : (left pc : ℕ) (bytes : List ℕ) (items : List Located) → length bytes ≤ left → AreReal items
    → StandFrom pc items bytes → items_from left pc bytes ≡ Ok items
unfolding items_from
items_again zero pc bytes [] small real stand = rw stand refl
items_again (suc left) pc bytes [] small real stand = rw stand refl
items_again zero pc bytes (x ∷ xs) small real stand =
    let size : length bytes ≡ length (spelling pc x.instruction) + length stand.0 = ap length stand.1.bytes_are
    ∙ length-append (spelling pc x.instruction) stand.0 in
    absurd (omega arith)
items_again (suc left) pc bytes (x ∷ xs) small real stand =
    let begins = stand.1 in
    let size : length bytes ≡ length (spelling pc x.instruction) + length stand.0 = ap length begins.bytes_are
    ∙ length-append (spelling pc x.instruction) stand.0 in
    let whole = spelling pc x.instruction ++ stand.0 in
    let next : x.next ≡ pc + (length whole - length
    stand.0) = let n = begins.next in let w = length-append (spelling pc x.instruction) stand.0 in omega arith in
    let here : placed pc (pc + (length whole - length stand.0)) x.instruction
    ≡ x = sym (located-is x pc (pc + (length whole - length stand.0)) x.instruction begins.at next refl) in
    let tail = subst (λ (n : ℕ). StandFrom n xs stand.0) next stand.2 in
    let more = items_again left (pc + (length whole - length stand.0)) stand.0 xs (omega arith) real.1 tail in
    ap (items_from (suc left) pc) begins.bytes_are ∙ rw (
      instruction-again pc x.instruction stand.0 begins.fits real.0,
      more,
    ) (ap (λ (y : Located). Ok (y ∷ xs)) here)

-- ---- branches

or_is : (a b : Bool) → (a || b) ≡ true → (a ≡ true) ⊎ (b ≡ true)
or_is true b e = inl refl
or_is false b e = inr e

or_right : (a b : Bool) → b ≡ true → (a || b) ≡ true
or_right true b e = refl
or_right false b e = e

pc_is : (items : List Located) (t : ℕ) → is_pc items t ≡ true → IsPc items t
pc_is [] t e = absurd cc
pc_is (x ∷ xs) t e = elim (or_is (eqb x.pc t) (is_pc xs t) e) [
  | inl here ↦ inl (eqb-true x.pc t here)
  | inr later ↦
      inr (pc_is xs t later)
]

is_the_pc : (items : List Located) (t : ℕ) → IsPc items t → is_pc items t ≡ true
is_the_pc [] t p = absurd p
is_the_pc (x ∷ xs) t (inl here) = ap (λ b. b || is_pc xs t) (eq-eqb x.pc t here)
is_the_pc (x ∷ xs) t (inr later) = or_right (eqb x.pc t) (is_pc xs t) (is_the_pc xs t later)

landed : (items : List Located) → list_all (lands_among items) items ≡ true
    → AllByRecursion (λ x. AllByRecursion (IsPc items) (targets x.instruction)) items
landed items e =
    all-of (λ x. lands_among items x ≡ true) (λ x. AllByRecursion (IsPc items) (targets x.instruction)) items
    (λ x land. all-of (λ t. is_pc items t ≡ true) (IsPc items) (targets x.instruction) (λ t p. pc_is items t p)
    (each-true (is_pc items) (targets x.instruction) land)) (each-true (lands_among items) items e)

lands : (items : List Located) → AllByRecursion (λ x. AllByRecursion (IsPc items) (targets x.instruction)) items
    → list_all (lands_among items) items ≡ true
lands items all =
    true-each (lands_among items) items
    (all-of (λ x. AllByRecursion (IsPc items) (targets x.instruction)) (λ x. lands_among items x ≡ true) items
    (λ x land. true-each (is_pc items) (targets x.instruction) (all-of (IsPc items) (λ t. is_pc items t ≡ true)
    (targets x.instruction) (λ t p. is_the_pc items t p) land)) all)

-- ---- code

both_true : (a b : Bool) → (a && b) ≡ true → (a ≡ true) × (b ≡ true)
both_true true b e = (refl, e)
both_true false b e = absurd cc

passed : {A : Type 0} (b : Bool) (d : OpError) (r : Result A OpError) (y : A) → cond b r (Err d) ≡ Ok y → (b ≡ true)
    × (r ≡ Ok y)
passed true d r y e = (refl, e)
passed false d r y e = absurd cc

pub decoded_is : (bytes : List ℕ) (items : List Located) → IsBytes bytes → decoded bytes ≡ Ok items → IsCode bytes items
unfolding decoded
decoded_is bytes items fits e =
    let p = passed (nat_le 1 (length bytes) && nat_le (length bytes) 65535) error.Length
    (items_from (length bytes) 0 bytes >>= λ xs. cond (list_all (lands_among xs) xs) (Ok xs) (Err error.Branch))
    items e in
    let range = both_true (nat_le 1 (length bytes)) (nat_le (length bytes) 65535) p.0 in
    let b = bind_ok (items_from (length bytes) 0 bytes) (λ xs. cond (list_all (lands_among xs) xs) (Ok xs)
    (Err error.Branch)) items p.1 in
    let q = passed (list_all (lands_among b.0) b.0) error.Branch (Ok b.0) items b.2 in
    let same = ok_is b.0 items q.1 in
    let read : items_from (length bytes) 0 bytes ≡ Ok items = b.1 ∙ ap (λ (xs : List Located). Ok xs) same in
    let land = landed items (subst (λ (xs : List Located). list_all (lands_among xs) xs ≡ true) same q.0) in
    let some : 1 ≤ length bytes = leb-true _ _ range.0 in
    let few : length bytes ≤ 65535 = leb-true _ _ range.1 in
    let real : AreReal items =
    all-of (λ x. AllByRecursion (IsPc items) (targets x.instruction)) (λ x. Real x.instruction) items
    (λ x land. all-of (IsPc items) (λ t. t < 65535) (targets x.instruction)
    (λ t p. let below = items_below (length bytes) 0 bytes items t fits read p in omega arith) land) land in
    record { stand = items_stand (length bytes) 0 bytes items fits real read; some = some; few = few; land = land }

pub code_is_decoded : (bytes : List ℕ) (items : List Located) → IsCode bytes items → decoded bytes ≡ Ok items
unfolding decoded
code_is_decoded bytes items code =
    let some : nat_le 1 (length bytes) ≡ true = le-leb _ _ code.some in
    let few : nat_le (length bytes) 65535 ≡ true = le-leb _ _ code.few in
    rw (
      some,
      few,
      items_again (length bytes) 0 bytes items (omega arith) (code-real bytes items code) code.stand,
      lands items code.land,
    ) refl

pub items_are : (bytes : List ℕ) (items : List Located) → IsCode bytes items → items_in bytes ≡ items
unfolding items_in
items_are bytes items code = rw (code_is_decoded bytes items code) refl

-- bytes that are kept, and are those of code
pub kept_code : (bytes kept : List ℕ) (items : List Located) → kept ≡ bytes → IsCode bytes items
    → IsCode kept (items_in kept)
kept_code bytes kept items same code = subst (λ (k : List ℕ). IsCode k (items_in k)) (sym same)
    (subst (λ (xs : List Located). IsCode bytes xs) (sym (items_are bytes items code)) code)

pub kept_are : (bytes kept : List ℕ) (items : List Located) → kept ≡ bytes → IsCode bytes items → items_in kept ≡ items
kept_are bytes kept items same code = ap items_in same ∙ items_are bytes items code

pub kept_decoded : (bytes kept : List ℕ) (items : List Located) → kept ≡ bytes → IsCode bytes items
    → as_format (decoded bytes) ≡ Ok (items_in kept)
kept_decoded bytes kept items same code =
    ap as_format (code_is_decoded bytes items code)
    ∙ ap (λ (xs : List Located). Ok xs) (sym (kept_are bytes kept items same code))

faulty_code : (bytes : List ℕ) (e : OpError) → IsBytes bytes → (e ≡ error.Memory → ⊥)
    → ((items : List Located) → IsCode bytes items → e ≡ error.Memory) → as_format (decoded bytes) ≡ Err Attribute
faulty_code bytes e fits other only = by_answer (decoded bytes) refl where
  by_answer : (r : Result (List Located) OpError) → decoded bytes ≡ r → as_format r ≡ Err Attribute
  by_answer (Ok items) is = absurd (other (only items (decoded_is bytes items fits is)))
  by_answer (Err d) is = refl

pub is_reported : (e : OpError) (f : ClassError) (bytes : List ℕ) → IsBytes bytes → Tells e f
    → ((items : List Located) → IsCode bytes items → e ≡ error.Memory) → Fails (shown f) (as_format (decoded bytes))
is_reported e (reported.Format fault) bytes fits tells only = absurd tells
is_reported e (reported.Code name descriptor fault) bytes fits tells only = faulty_code bytes e fits tells only
is_reported e reported.PoolFull bytes fits tells only = absurd tells
is_reported e reported.Memory bytes fits tells only = tt

-- ---- bytes

stands_bytes : (pc : ℕ) (items : List Located) (bytes : List ℕ) → StandFrom pc items bytes → bytes ≡ code_bytes items
stands_bytes pc [] bytes stand = stand
stands_bytes pc (x ∷ xs) bytes stand =
    let begins = stand.1 in
    begins.bytes_are ∙ ap (λ (rest : List ℕ). spelling pc x.instruction ++ rest)
    (stands_bytes x.next xs stand.0 stand.2) ∙ ap (λ (p : ℕ). spelling p x.instruction ++ code_bytes xs)
    (sym begins.at)

pub code_bytes_are : (bytes : List ℕ) (items : List Located) → IsCode bytes items → bytes ≡ code_bytes items
code_bytes_are bytes items code = stands_bytes 0 items bytes code.stand

-- instructions that are seen as those of kept bytes are code of their own bytes
pub seen_code : (bytes : List ℕ) (items : List Located) → items_in bytes ≡ items → IsCode bytes (items_in bytes)
    → IsCode (code_bytes items) items
seen_code bytes items seen code =
    let same : IsCode bytes items = subst (λ (xs : List Located). IsCode bytes xs) seen code in
    subst (λ (spelled : List ℕ). IsCode spelled items) (code_bytes_are bytes items same) same
