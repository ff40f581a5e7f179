-- Instructions one after another: what has been read, and what is still to be read.
use Rattle.std.specs.Prelude.{◌⊎◌, ◌↔◌}
use Rattle.std.proofs.Common.{◌≡◌, ℕ, zero, suc, ◌+◌, ◌-◌, ◌<◌, ◌≤◌, Bool, true, false, cond, eqb, List, [], ◌∷◌, ◌++◌}
use Rattle.std.proofs.Common.{length, Ok, refl, eq-eqb, sym, ap, subst, ◌∙◌, append_assoc, arith, inl, inr}
use Rattle.std.specs.List.{AllByRecursion}
use Rattle.std.proofs.lemmas.Bool.{eqb-true}
use Rattle.opcodes.proofs.FieldLaws.{chosen}
use Rattle.std.proofs.lemmas.List.{append-nil, length-append, nil_from_length}
use Rattle.model.specs.Bytecode.Opcodes.{Instr}
use Rattle.model.specs.Bytecode.Operands.{operands}
use Rattle.model.specs.Bytecode.{spelling, Begins, StandFrom, IsPc}
use Rattle.model.specs.declared.bytecode.Located.{Located}
use Rattle.opcodes.specs.declared.error.OpError.{OpError}
use Rattle.opcodes.specs.declared.error.OpError.TheVariants as error
use Rattle.opcodes.specs.Reading.Steps.{Fails}
use Rattle.opcodes.specs.Reading.{instruction_at}
use Rattle.opcodes.specs.Starts.{is_start, Real, AreReal}
use Rattle.opcodes.proofs.Loops.{ok_is}
use Rattle.opcodes.proofs.FieldLaws.{IsBytes}
use Rattle.opcodes.proofs.InstructionLaws.{instruction-takes, instruction-again}

-- ---- lists

all-append : {A : Type 0} (P : A → Type 0) (xs ys : List A) → AllByRecursion P (xs ++ ys) → AllByRecursion P xs
    × AllByRecursion P ys
all-append P [] ys all = (tt, all)
all-append P (x ∷ xs) ys all = let more = all-append P xs ys all.1 in ((all.0, more.0), more.1)

all-both : {A : Type 0} (P : A → Type 0) (xs ys : List A) → AllByRecursion P xs → AllByRecursion P ys
    → AllByRecursion P (xs ++ ys)
all-both P [] ys first second = second
all-both P (x ∷ xs) ys first second = (first.0, all-both P xs ys first.1 second)

pub pc-push : (xs : List Located) (x : Located) (k : ℕ) → IsPc (xs ++ x ∷ []) k → IsPc xs k ⊎ (x.pc ≡ k)
pc-push [] x k (inl e) = inr e
pc-push [] x k (inr none) = absurd none
pc-push (y ∷ ys) x k (inl e) = inl (inl e)
pc-push (y ∷ ys) x k (inr p) = elim (pc-push ys x k p) [ inl q ↦ inl (inr q) | inr e ↦ inr e ]

pub pc-left : (xs : List Located) (x : Located) (k : ℕ) → IsPc xs k → IsPc (xs ++ x ∷ []) k
pc-left [] x k p = absurd p
pc-left (y ∷ ys) x k (inl e) = inl e
pc-left (y ∷ ys) x k (inr p) = inr (pc-left ys x k p)

pub pc-last : (xs : List Located) (x : Located) → IsPc (xs ++ x ∷ []) x.pc
pc-last [] x = inl refl
pc-last (y ∷ ys) x = inr (pc-last ys x)

abbrev pub placed : ℕ → ℕ → Instr → Located
placed pc next i = record { pc = pc; next = next; instruction = i }

pub located-is : (y : Located) (pc next : ℕ) (i : Instr) → y.pc ≡ pc → y.next ≡ next → y.instruction ≡ i
    → y ≡ placed pc next i
located-is y pc next i e n s = rw (← e, ← n, ← s) refl

fails-ok : {A : Type 0} (e : OpError) (x : A) → Fails e (Ok x) → e ≡ error.Memory
fails-ok error.Opcode x h = absurd cc
fails-ok error.Operand x h = absurd cc
fails-ok error.Branch x h = absurd cc
fails-ok error.Switch x h = absurd cc
fails-ok error.Length x h = absurd cc
fails-ok error.Memory x h = refl

-- ---- what stands at the front

-- instructions that stand on bytes that aren't empty begin with one that is read
pub record First (pc : ℕ) (more : List Located) (rest : List ℕ) : Type 0 where
  pub head : Located
  pub tail : List Located
  pub after : List ℕ
  pub more_is : more ≡ head ∷ tail
  pub begins : Begins pc head rest after
  pub stands : StandFrom head.next tail after
  pub real : AreReal tail
  pub read : instruction_at pc rest ≡ Ok (head.instruction, after)

pub first-of : (pc : ℕ) (more : List Located) (rest : List ℕ) → 0 < length rest → AreReal more → StandFrom pc more rest
    → First pc more rest
first-of pc [] rest some real stand = let none : length rest ≡ 0 = ap length stand in absurd (omega arith)
first-of pc (x ∷ xs) rest some real stand =
    let begins = stand.1 in
    record {
      head = x;
      tail = xs;
      after = stand.0;
      more_is = refl;
      begins = begins;
      stands = stand.2;
      real = real.1;
      read = ap (instruction_at pc) begins.bytes_are ∙ instruction-again pc x.instruction stand.0 begins.fits real.0;
    }

-- ---- a loop over the bytes

-- the items stand in front of the rest, whatever the rest stands for, and nothing else stands there
pub record IsRead (bytes rest : List ℕ) (items : List Located) (starts : List Bool) : Type 0 where
  pub fits : IsBytes rest
  pub within : length rest ≤ length bytes
  pub marked : length starts ≤ length bytes - length rest
  pub found : AreReal items → (more : List Located) → StandFrom (length bytes - length rest) more rest
      → StandFrom 0 (items ++ more) bytes
  pub only : (all : List Located) → AreReal all → StandFrom 0 all bytes → (more : List Located) × (all ≡ items ++ more)
      × AreReal more × StandFrom (length bytes - length rest) more rest
  pub starts_are : (k : ℕ) → (is_start starts k ≡ true) ↔ IsPc items k

begin : (bytes : List ℕ) (starts : List Bool) → IsBytes bytes → starts ≡ [] → IsRead bytes bytes [] starts
begin bytes starts fits e =
    let z : length bytes - length bytes ≡ 0 = omega arith in
    record {
      fits = fits;
      within = omega arith;
      marked = rw e (omega arith);
      found = λ real more stand. rw z at stand;
      only = λ all real stand. (all, refl, real, rw z stand);
      starts_are = λ k. rw e (λ h. absurd cc, λ p. absurd p);
    }

pub begun : (bytes : List ℕ) (items : List Located) (starts : List Bool) → IsBytes bytes → items ≡ [] → starts ≡ []
    → IsRead bytes bytes items starts
begun bytes items starts fits none e = subst (λ (xs : List Located). IsRead bytes bytes xs starts) (sym none)
    (begin bytes starts fits e)

pub or_true : (b s : Bool) → s ≡ true → cond b true s ≡ true
or_true true s e = refl
or_true false s e = e

pub eqb-same : (m n : ℕ) → n ≡ m → eqb m n ≡ true
eqb-same m n e = eq-eqb m n (sym e)

pub goes_on : (bytes rest after : List ℕ) (items : List Located) (starts marked : List Bool) (i : Instr)
    → 0 < length rest
    → instruction_at (length bytes - length rest) rest ≡ Ok (i, after)
    → ((k : ℕ) → is_start marked k ≡ cond (eqb k (length bytes - length rest)) true (is_start starts k)) → length marked
    ≡ length bytes - length rest + 1
    → IsRead bytes rest items starts
    → IsRead bytes after (items ++ placed (length bytes - length rest) (length bytes - length after) i ∷ []) marked
goes_on bytes rest after items starts marked i some read marks len was =
    let pc = length bytes - length rest in
    let x = placed pc (length bytes - length after) i in
    let taken = instruction-takes pc rest i after was.fits read in
    let less = taken.shorter in
    let inside = was.within in
    record {
      fits = taken.rest_fits;
      within = omega arith;
      marked = omega arith;
      found = λ real more stand.
          let parts = all-append (λ y. Real y.instruction) items (x ∷ []) real in
          let front = taken.front parts.1.0 in
          let size : length rest ≡ length (spelling pc i) + length after = ap length front.parts
          ∙ length-append (spelling pc i) after in
          let next : length bytes - length after ≡ pc + length (spelling pc i) = omega arith in
          rw append_assoc (was.found parts.0 (x ∷ more) (
            after,
            record { at = refl; fits = front.fits; bytes_are = front.parts; next = next },
            stand,
          ));
      only = λ all real stand.
          let m = was.only all real stand in
          let f = first-of pc m.0 rest some m.2 m.3 in
          let same = ok_is (f.head.instruction, f.after) (i, after) (sym f.read ∙ read) in
          let i-is : f.head.instruction ≡ i = ap (λ (p : Instr × List ℕ). p.0) same in
          let after-is : f.after ≡ after = ap (λ (p : Instr × List ℕ). p.1) same in
          let size : length rest ≡ length (spelling pc f.head.instruction) + length f.after = ap length
          f.begins.bytes_are ∙ length-append (spelling pc f.head.instruction) f.after in
          let following : length f.after ≡ length after = ap length after-is in
          let next-is : f.head.next ≡ length bytes - length after = let n = f.begins.next in omega arith in
          let head-is : f.head ≡ x = located-is f.head pc (length bytes - length after) i f.begins.at next-is i-is in
          let all-is : all ≡ (items ++ x ∷ []) ++ f.tail = m.1 ∙ ap (λ (xs : List Located). items ++ xs) (f.more_is
          ∙ ap (λ (y : Located). y ∷ f.tail) head-is) ∙ sym (append_assoc items (x ∷ []) f.tail) in (
            f.tail,
            all-is,
            f.real,
            subst (λ (p : ℕ). StandFrom p f.tail after) next-is
                (subst (λ (r : List ℕ). StandFrom f.head.next f.tail r) after-is f.stands),
          );
      starts_are = λ k. (
        λ h. elim (chosen (eqb k pc) true (is_start starts k) true (sym (marks k) ∙ h)) [
          | inl t ↦ let e : k ≡ pc = eqb-true k pc t.0 in rw e (pc-last items x)
          | inr t ↦ pc-left items x k ((was.starts_are k).0 t.1)
        ],
        λ p. elim (pc-push items x k p) [
          | inl q ↦ marks k ∙ or_true (eqb k pc) (is_start starts k) ((was.starts_are k).1 q)
          | inr e ↦ marks k ∙ ap (λ b. cond b true (is_start starts k)) (eqb-same k pc e)
        ],
      );
    }

pub read-fails : (e : OpError) (bytes rest : List ℕ) (items : List Located) (starts : List Bool) → 0 < length rest
    → Fails e (instruction_at (length bytes - length rest) rest) → IsRead bytes rest items starts
    → (all : List Located) → AreReal all → StandFrom 0 all bytes → e ≡ error.Memory
read-fails e bytes rest items starts some fails was all real stand =
    let m = was.only all real stand in
    let f = first-of (length bytes - length rest) m.0 rest some m.2 m.3 in
    fails-ok e (f.head.instruction, f.after) (rw f.read at fails)

-- ---- at the end

stands-empty : (pc : ℕ) (more : List Located) (rest : List ℕ) → length rest ≡ 0 → StandFrom pc more rest → more ≡ []
stands-empty pc [] rest none stand = refl
stands-empty pc (x ∷ xs) rest none stand = let size : length rest
    ≡ suc (length (operands pc x.instruction ++ stand.0)) = ap length
    stand.1.bytes_are in absurd (omega arith)

pub is_all : (bytes rest : List ℕ) (items : List Located) (starts : List Bool) → length rest ≡ 0
    → IsRead bytes rest items starts → AreReal items → StandFrom 0 items bytes
is_all bytes rest items starts none was real =
    let e : rest ≡ [] = nil_from_length rest none in
    rw append-nil at (was.found real [] e)

pub is_only : (bytes rest : List ℕ) (items : List Located) (starts : List Bool) → length rest ≡ 0
    → IsRead bytes rest items starts → (all : List Located) → AreReal all → StandFrom 0 all bytes → all ≡ items
is_only bytes rest items starts none was all real stand =
    let m = was.only all real stand in
    let empty : m.0 ≡ [] = stands-empty (length bytes - length rest) m.0 rest none m.3 in
    m.1 ∙ ap (λ (xs : List Located). items ++ xs) empty ∙ append-nil items

pub some_left : (n : ℕ) → eqb n 0 ≡ false → 0 < n
some_left zero e = absurd cc
some_left (suc n) e = omega arith

pub none_left : (n : ℕ) → eqb n 0 ≡ true → n ≡ 0
none_left n e = eqb-true n 0 e
