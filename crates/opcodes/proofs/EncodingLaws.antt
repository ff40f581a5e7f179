-- Instructions written one after another.
use Rattle.std.proofs.Common.{◌≡◌, ℕ, zero, suc, ◌+◌, ◌<◌, ◌≤◌, Bool, true, false, cond, eqb, List, [], ◌∷◌, ◌++◌}
use Rattle.std.proofs.Common.{length, get_or, take, drop, add-one, drop-cons, refl, sym, ap, subst, ◌∙◌, append_assoc}
use Rattle.std.proofs.Common.{arith, inl, inr}
use Rattle.std.proofs.lemmas.Bool.{eqb-true}
use Rattle.std.proofs.lemmas.List.{append-nil, length-append, map-append, take-append-drop, take_more}
use Rattle.model.specs.Bytecode.Opcodes.{Instr}
use Rattle.model.specs.Bytecode.Operands.{operands}
use Rattle.model.specs.Bytecode.Ranges.{Fits}
use Rattle.model.specs.Bytecode.{spelling, Begins, StandFrom, IsCode, instructions_of}
use Rattle.model.specs.declared.bytecode.Located.{Located}
use Rattle.opcodes.specs.Starts.{is_start, all_land, AreReal}
use Rattle.opcodes.specs.Writing.{IsSpelled}
use Rattle.opcodes.proofs.FieldLaws.{chosen}
use Rattle.opcodes.proofs.DecodingLaws.{pc-push, pc-left, pc-last, placed, located-is, or_true, eqb-same}
use Rattle.opcodes.proofs.CodeLaws.{Marks, code-real, code-lands, is-code}
use Rattle.opcodes.specs.Reading.{instruction_at}
use Rattle.opcodes.proofs.Loops.{ok_is}
use Rattle.opcodes.proofs.InstructionLaws.{instruction-again}

heads : (x y : Instr) (xs ys : List Instr) → ◌≡◌ {A = List Instr} (x ∷ xs) (y ∷ ys) → (x ≡ y) × (xs ≡ ys)
heads x y xs ys e = (cc, cc)

-- what begins at a pc is fixed by its instruction
begins-same : (pc : ℕ) (x y : Located) (a b r s : List ℕ) → Begins pc x a r → Begins pc y b s → x.instruction
    ≡ y.instruction → x ≡ y
begins-same pc x y a b r s p q e =
    let next : x.next ≡ y.next = p.next ∙ ap (λ i. pc + length (spelling pc i)) e ∙ sym q.next in
    located-is x y.pc y.next y.instruction (p.at ∙ sym q.at) next e

-- instructions whose first are those of others begin with their bytes
pub record Follows (pc : ℕ) (xs ys : List Located) (a b : List ℕ) (back : List Instr) : Type 0 where
  pub more : List Located
  pub rest : List ℕ
  pub items_are : ys ≡ xs ++ more
  pub bytes_are : b ≡ a ++ rest
  pub stands : StandFrom (pc + length a) more rest
  pub instructions_are : instructions_of more ≡ back

pub follows : (pc : ℕ) (xs ys : List Located) (a b : List ℕ) (back : List Instr) → StandFrom pc xs a → StandFrom pc ys b
    → instructions_of ys ≡ instructions_of xs ++ back → Follows pc xs ys a b back
follows pc [] ys a b back p q e =
    let z : pc + length a ≡ pc = let n : length a ≡ 0 = ap length p in omega arith in
    record { more = ys; rest = b; items_are = refl; bytes_are = rw p refl; stands = rw z q; instructions_are = e }
follows pc (x ∷ xs) [] a b back p q e = absurd cc
follows pc (x ∷ xs) (y ∷ ys) a b back p q e =
    let h = heads y.instruction x.instruction (instructions_of ys) (instructions_of xs ++ back) e in
    let same : y ≡ x = begins-same pc y x b a q.0 p.0 q.1 p.1 h.0 in
    let stands : StandFrom x.next ys q.0 = subst (λ (z : Located). StandFrom z.next ys q.0) same q.2 in
    let f = follows x.next xs ys p.0 q.0 back p.2 stands h.1 in
    let text : b ≡ spelling pc x.instruction ++ q.0 = q.1.bytes_are ∙ ap (λ i. spelling pc i ++ q.0) h.0 in
    let whole : b ≡ a ++ f.rest = text ∙ ap (λ (r : List ℕ). spelling pc x.instruction ++ r) f.bytes_are
    ∙ sym (append_assoc (spelling pc x.instruction) p.0 f.rest)
    ∙ ap (λ (r : List ℕ). r ++ f.rest) (sym p.1.bytes_are) in
    let size : length a ≡ length (spelling pc x.instruction) + length p.0 = ap length p.1.bytes_are
    ∙ length-append (spelling pc x.instruction) p.0 in
    let end : x.next + length p.0 ≡ pc + length a = let n = p.1.next in omega arith in
    record {
      more = f.more;
      rest = f.rest;
      items_are = ap (λ (z : Located). z ∷ ys) same ∙ ap (λ (zs : List Located). x ∷ zs) f.items_are;
      bytes_are = whole;
      stands = rw end at f.stands;
      instructions_are = f.instructions_are;
    }

stand-push : (pc at : ℕ) (xs : List Located) (a : List ℕ) (i : Instr) → at ≡ pc + length a → StandFrom pc xs a
    → Fits at i
    → StandFrom pc (xs ++ placed at (at + length (spelling at i)) i ∷ []) (a ++ spelling at i)
stand-push pc at [] a i at-is stand fits =
    let none : length a ≡ 0 = ap length stand in
    let same : at ≡ pc = omega arith in (
      [],
      record {
        at = same;
        fits = subst (λ (q : ℕ). Fits q i) same fits;
        bytes_are = ap (λ (b : List ℕ). b ++ spelling at i) stand ∙ ap (λ (q : ℕ). spelling q i) same
            ∙ sym (append-nil (spelling pc i));
        next = ap (λ (q : ℕ). q + length (spelling q i)) same;
      },
      refl,
    )
stand-push pc at (x ∷ xs) a i at-is stand fits =
    let begins = stand.1 in
    let size : length a ≡ length (spelling pc x.instruction) + length stand.0 = ap length begins.bytes_are
    ∙ length-append (spelling pc x.instruction) stand.0 in
    let end : at ≡ x.next + length stand.0 = let n = begins.next in omega arith in
    let text = spelling at i in
    let both : a ++ text ≡ spelling pc x.instruction ++ (stand.0 ++ text) = ap (λ (r : List ℕ). r ++ text)
    begins.bytes_are ∙ append_assoc (spelling pc x.instruction) stand.0 text in (
      stand.0 ++ text,
      record { at = begins.at; fits = begins.fits; bytes_are = both; next = begins.next },
      stand-push x.next at xs stand.0 i end stand.2 fits,
    )

-- ---- a loop over the instructions

pub record IsWritten (is : List Instr) (k : ℕ) (out : List ℕ) (starts : List Bool) : Type 0 where
  pub short : length out ≤ 65535
  pub marked : length starts ≤ length out
  pub spelled : IsSpelled (take k is) out starts

pub begun : (is : List Instr) (out : List ℕ) (starts : List Bool) → out ≡ [] → starts ≡ [] → IsWritten is 0 out starts
begun is out starts none empty =
    let zero-long : length out ≡ 0 = ap length none in
    let no-start : length starts ≡ 0 = ap length empty in
    record {
      short = omega arith;
      marked = omega arith;
      spelled = record {
        items = [];
        instructions_are = refl;
        stands = none;
        starts_are = λ k. rw empty (
          λ h. absurd cc,
          λ p. absurd p,
        );
      };
    }

pub goes_on : (is : List Instr) (k : ℕ) (i : Instr) (out new : List ℕ) (starts marked : List Bool) → take (k + 1) is
    ≡ take k is ++ i ∷ []
    → Fits (length out) i → new ≡ out ++ spelling (length out) i → length new ≤ 65535
    → ((j : ℕ) → is_start marked j ≡ cond (eqb j (length out)) true (is_start starts j)) → length marked
    ≡ length out + 1
    → IsWritten is k out starts → IsWritten is (k + 1) new marked
goes_on is k i out new starts marked split fits new-is few marks len was =
    let pc = length out in
    let x = placed pc (pc + length (spelling pc i)) i in
    let s = was.spelled in
    let size : length new ≡ length out + suc (length (operands pc i)) = ap length new-is
    ∙ length-append out (spelling pc i) in
    record {
      short = few;
      marked = omega arith;
      spelled = record {
        items = s.items ++ x ∷ [];
        instructions_are = map-append (λ (y : Located). y.instruction) s.items (x ∷ [])
            ∙ ap (λ (xs : List Instr). xs ++ i ∷ []) s.instructions_are ∙ sym split;
        stands = rw new-is (stand-push 0 pc s.items out i (omega arith) s.stands fits);
        starts_are = λ j. (
          λ h. elim (chosen (eqb j pc) true (is_start starts j) true (sym (marks j) ∙ h)) [
            | inl t ↦ let e : j ≡ pc = eqb-true j pc t.0 in rw e (pc-last s.items x)
            | inr t ↦ pc-left s.items x j ((s.starts_are j).0 t.1)
          ],
          λ p. elim (pc-push s.items x j p) [
            | inl q ↦ marks j ∙ or_true (eqb j pc) (is_start starts j) ((s.starts_are j).1 q)
            | inr e ↦ marks j ∙ ap (λ b. cond b true (is_start starts j)) (eqb-same j pc e)
          ],
        );
      };
    }

-- what code of all the instructions has at the place of the next one
pub record HasNext (pc : ℕ) (i : Instr) (bytes : List ℕ) : Type 0 where
  pub fits : Fits pc i
  pub long : pc + length (spelling pc i) ≤ length bytes

next-of : (pc : ℕ) (i : Instr) (others : List Instr) (more : List Located) (out rest bytes : List ℕ) → pc ≡ length out
    → bytes ≡ out ++ rest → StandFrom (0 + length out) more rest → instructions_of more ≡ i ∷ others
    → HasNext pc i bytes
next-of pc i others [] out rest bytes pc-is split stand e = absurd cc
next-of pc i others (x ∷ xs) out rest bytes pc-is split stand e =
    let same : x.instruction ≡ i = (heads x.instruction i (instructions_of xs) others e).0 in
    let at : 0 + length out ≡ pc = omega arith in
    let begins = stand.1 in
    let size : length rest ≡ length (spelling (0 + length out) x.instruction) + length stand.0 = ap length
    begins.bytes_are ∙ length-append (spelling (0 + length out) x.instruction) stand.0 in
    let all : length bytes ≡ length out + length rest = ap length split ∙ length-append out rest in
    let text : length (spelling (0 + length out) x.instruction)
    ≡ length (spelling pc i) = ap (λ (q : ℕ). length (spelling q x.instruction)) at
    ∙ ap (λ j. length (spelling pc j)) same in
    record {
      fits = subst (λ j. Fits pc j) same (subst (λ (q : ℕ). Fits q x.instruction) at begins.fits);
      long = omega (arith, size, all, text);
    }

pub has_next : (is : List Instr) (k : ℕ) (i : Instr) (others : List Instr) (out : List ℕ) (starts : List Bool)
    (bytes : List ℕ) (all : List Located) → drop k is ≡ i ∷ others → IsWritten is k out starts
    → IsCode bytes all → instructions_of all ≡ is → HasNext (length out) i bytes
has_next is k i others out starts bytes all split was code e =
    let s = was.spelled in
    let parts : instructions_of all ≡ instructions_of s.items ++ drop k is = e ∙ sym (take-append-drop k is)
    ∙ ap (λ (xs : List Instr). xs ++ drop k is) (sym s.instructions_are) in
    let f = follows 0 s.items all out bytes (drop k is) s.stands code.stand parts in
    next-of (length out) i others f.more out f.rest bytes refl f.bytes_are f.stands (f.instructions_are ∙ split)

pub too_long : (is : List Instr) (k : ℕ) (i : Instr) (others : List Instr) (out new : List ℕ) (starts : List Bool)
    → drop k is ≡ i ∷ others → IsWritten is k out starts → new ≡ out ++ spelling (length out) i → 65535 < length new
    → (bytes : List ℕ) (all : List Located) → IsCode bytes all → instructions_of all ≡ is → ⊥
too_long is k i others out new starts split was new-is long bytes all code e =
    let n = has_next is k i others out starts bytes all split was code e in
    let size : length new ≡ length out + length (spelling (length out) i) = ap length new-is
    ∙ length-append out (spelling (length out) i) in
    let few = code.few in
    absurd (omega (arith, n.long, size, few))

-- ---- all of the instructions

none-more : (pc : ℕ) (more : List Located) (rest : List ℕ) → StandFrom pc more rest → instructions_of more ≡ []
    → (more ≡ []) × (rest ≡ [])
none-more pc [] rest stand e = (refl, stand)
none-more pc (x ∷ xs) rest stand e = absurd cc

pub same-code : (is : List Instr) (out : List ℕ) (starts : List Bool)
    → (s : IsSpelled is out starts) (bytes : List ℕ) (all : List Located) → StandFrom 0 all bytes → instructions_of all
    ≡ is → (all ≡ s.items) × (out ≡ bytes)
same-code is out starts s bytes all stand e =
    let parts : instructions_of all ≡ instructions_of s.items ++ [] = e ∙ sym s.instructions_are
    ∙ sym (append-nil (instructions_of s.items)) in
    let f = follows 0 s.items all out bytes [] s.stands stand parts in
    let n = none-more (0 + length out) f.more f.rest f.stands f.instructions_are in (
      f.items_are ∙ ap (λ (xs : List Located). s.items ++ xs) n.0 ∙ append-nil s.items,
      sym (f.bytes_are ∙ ap (λ (r : List ℕ). out ++ r) n.1 ∙ append-nil out),
    )

pub spelled-code : (is : List Instr) (out : List ℕ) (starts : List Bool) → IsSpelled is out starts
    → length starts ≤ length out → 1 ≤ length out → length out ≤ 65535 → all_land starts is ≡ true
    → (items : List Located) × IsCode out items × (instructions_of items ≡ is)
spelled-code is out starts s len some few land = (
  s.items,
  is-code out s.items starts (λ real. s.stands) s.starts_are len some few
      (ap (all_land starts) s.instructions_are ∙ land),
  s.instructions_are,
)

pub spelled-lands : (is : List Instr) (out : List ℕ) (starts : List Bool) (bytes : List ℕ) (all : List Located)
    → IsSpelled is out starts → IsCode bytes all → instructions_of all ≡ is → all_land starts is ≡ true
spelled-lands is out starts bytes all s code e =
    let same = (same-code is out starts s bytes all code.stand e).0 in
    let marks : Marks starts all = rw same s.starts_are in
    ap (all_land starts) (sym e) ∙ code-lands bytes all starts marks code

-- the item of a list at an index, as a part of the list
pub take-item : {A : Type 0} (xs : List A) (k : ℕ) (x : A) → k < length xs → x ≡ get_or xs k x → take (k + 1) xs
    ≡ take k xs ++ x ∷ []
take-item xs k x lt e = take_more xs k x lt ∙ ap (λ y. take k xs ++ y ∷ []) (sym e)

pub drop-item : {A : Type 0} (xs : List A) (k : ℕ) (x : A) → k < length xs → x ≡ get_or xs k x → drop k xs
    ≡ x ∷ drop (k + 1) xs
drop-item xs k x lt e = rw (add-one) (drop-cons xs k x lt ∙ ap (λ y. y ∷ drop (suc k) xs) (sym e))

pub non_empty : (n : ℕ) → eqb n 0 ≡ false → 1 ≤ n
non_empty zero e = absurd cc
non_empty (suc n) e = omega arith

-- ---- one spelling

stand-same : (pc : ℕ) (a b : List Located) (bytes : List ℕ) → AreReal a → AreReal b → StandFrom pc a bytes
    → StandFrom pc b bytes → a ≡ b
stand-same pc [] [] bytes r s p q = refl
stand-same pc [] (y ∷ ys) bytes r s p q = let none : [] ≡ spelling pc y.instruction ++ q.0 = sym p ∙ q.1.bytes_are
    in absurd cc
stand-same pc (x ∷ xs) [] bytes r s p q = let none : [] ≡ spelling pc x.instruction ++ p.0 = sym q ∙ p.1.bytes_are
    in absurd cc
stand-same pc (x ∷ xs) (y ∷ ys) bytes r s p q =
    let one = ap (instruction_at pc) p.1.bytes_are ∙ instruction-again pc x.instruction p.0 p.1.fits r.0 in
    let two = ap (instruction_at pc) q.1.bytes_are ∙ instruction-again pc y.instruction q.0 q.1.fits s.0 in
    let same = ok_is (x.instruction, p.0) (y.instruction, q.0) (sym one ∙ two) in
    let head : x ≡ y = begins-same pc x y bytes bytes p.0 q.0 p.1 q.1 (ap (λ (z : Instr × List ℕ). z.0) same) in
    let rest : p.0 ≡ q.0 = ap (λ (z : Instr × List ℕ). z.1) same in
    let tail : StandFrom y.next xs q.0 = subst (λ (z : Located). StandFrom z.next xs q.0) head
    (subst (λ (t : List ℕ). StandFrom x.next xs t) rest p.2) in
    ap (λ (z : Located). z ∷ xs) head
    ∙ ap (λ (zs : List Located). y ∷ zs) (stand-same y.next xs ys q.0 r.1 s.1 tail q.2)

pub one-list : (bytes : List ℕ) (a b : List Located) → IsCode bytes a → IsCode bytes b → a ≡ b
one-list bytes a b p q = stand-same 0 a b bytes (code-real bytes a p) (code-real bytes b q) p.stand q.stand

pub one-text : (x y : List ℕ) (a b : List Located) → IsCode x a → IsCode y b → instructions_of a ≡ instructions_of b
    → x ≡ y
one-text x y a b p q e =
    let f = follows 0 a b x y [] p.stand q.stand (sym e ∙ sym (append-nil (instructions_of a))) in
    let n = none-more (0 + length x) f.more f.rest f.stands f.instructions_are in
    sym (f.bytes_are ∙ ap (λ (r : List ℕ). x ++ r) n.1 ∙ append-nil x)
