-- A branch or a switch that is read is spelled so, and what is spelled so is read again.
use Rattle.std.specs.Prelude.{◌↔◌}
use Rattle.std.proofs.Common.{◌≡◌, ℕ, zero, suc, ◌+◌, ◌-◌, ◌%◌, ◌^◌, ◌<◌, ◌≤◌, Bool, true, false, cond, List, [], ◌∷◌}
use Rattle.std.proofs.Common.{◌++◌, length, get_or, drop, add-one, drop-cons, replicate, map, Option, Some, None}
use Rattle.std.proofs.Common.{Result, Ok, Err, refl, ap, subst, ◌∙◌, append_assoc, arith, ℤ, pos, negsuc, ◌+ℤ◌, ◌-ℤ◌}
use Rattle.std.proofs.Common.{◌<ℤ◌, ◌≤ℤ◌, int_lt, min}
use Rattle.std.specs.Int.{w32}
use Rattle.std.specs.Int.RustNames.{FitsSigned, unsigned_abs}
use Rattle.std.specs.List.{flat_map, AllByRecursion}
use Rattle.std.proofs.lemmas.Int.{ints}
use Rattle.std.proofs.lemmas.List.Concat.{flat_map-cons}
use Rattle.model.specs.Bytecode.Fields.{signed, offset, pad}
use Rattle.model.specs.Bytecode.Opcodes.{Instr, branch_opcode, opcode}
use Rattle.model.specs.Bytecode.Operands.{branch_width, table_high, table_operands, lookup_operands, operands}
use Rattle.model.specs.Bytecode.Ranges.{Fits, AreRisingFrom, AreRising, TableFits, LookupFits}
use Rattle.model.specs.Switches.{Table, Lookup}
use Rattle.model.specs.declared.instructions.Width.TheVariants as width
use Rattle.model.specs.declared.instructions.Test.{Test}
use Rattle.model.specs.declared.instructions.Test.TheVariants as test
use Rattle.model.specs.declared.instructions.Instruction.TheVariants as instruction
use Rattle.opcodes.specs.declared.error.OpError.{OpError}
use Rattle.opcodes.specs.declared.error.OpError.TheVariants as error
use Rattle.opcodes.specs.Reading.Steps.{◌>>=◌, signed_at}
use Rattle.opcodes.specs.Reading.Switches.{pc_of, landing, branch_at, pad_at, targets_at, table_len, table_at, rises}
use Rattle.opcodes.specs.Reading.Switches.{pairs_at, lookup_at}
use Rattle.opcodes.specs.Starts.{Real}
use Rattle.opcodes.proofs.Loops.{ok_is}
use Rattle.opcodes.proofs.FieldLaws.{IsBytes, IsBytes-rest, bind_ok, guard_then, Takes, Takes-then, Takes-shorter}
use Rattle.opcodes.proofs.FieldLaws.{IsWide, wide16, wide32, signed_takes, signed_again}

-- the bytes after an opcode are the operands of an instruction, and a rest
pub record IsRead (pc code : ℕ) (i : Instr) (bytes rest : List ℕ) : Type 0 where
  pub takes : Takes bytes (operands pc i) rest
  pub fits : Fits pc i
  pub opcode_is : opcode i ≡ code

pub record Reads (pc code : ℕ) (bytes : List ℕ) (x : Instr × List ℕ) : Type 0 where
  pub shorter : length x.1 ≤ length bytes
  pub rest_fits : IsBytes x.1
  pub read : Real x.0 → IsRead pc code x.0 bytes x.1

pub landing-again : (pc t : ℕ) → t < 65535 → landing pc (offset pc t) ≡ t
landing-again pc t lt =
    let e : pos pc +ℤ offset pc t ≡ pos t = omega (arith, ints) in
    let m : min t 65535 ≡ t = omega arith in
    ap pc_of e ∙ m

pc_of-takes : (s : ℤ) → pc_of s < 65535 → s ≡ pos (pc_of s)
pc_of-takes (pos n) lt = let m : n ≡ min n 65535 = omega arith in ap pos m
pc_of-takes (negsuc n) lt = absurd (omega arith)

pub landing-takes : (pc : ℕ) (z : ℤ) → landing pc z < 65535 → z ≡ offset pc (landing pc z)
landing-takes pc z lt =
    let e = pc_of-takes (pos pc +ℤ z) lt in
    omega (arith, ints, e)

pub branch_wide : (t : Test) → IsWide (branch_width t)
branch_wide (test.Always width.Narrow) = wide16
branch_wide (test.Always width.Wide) = wide32
branch_wide (test.Zero c) = wide16
branch_wide (test.Ints c) = wide16
branch_wide (test.Refs i) = wide16
branch_wide (test.Null i) = wide16

pub branch-takes : (pc : ℕ) (t : Test) (bytes : List ℕ) (x : Instr × List ℕ) → IsBytes bytes → branch_at pc t bytes
    ≡ Ok x → Reads pc (branch_opcode t) bytes x
unfolding branch_at
branch-takes pc t bytes x fits e =
    let a = bind_ok (signed_at (branch_width t) bytes) (λ z. Ok (instruction.Branch t (landing pc z.0), z.1)) x e in
    let s = signed_takes (branch_width t) (branch_wide t) bytes a.0.0 a.0.1 fits a.1 in
    subst (Reads pc (branch_opcode t) bytes) (ok_is (instruction.Branch t (landing pc a.0.0), a.0.1) x a.2)
    (record {
      shorter = Takes-shorter bytes (signed (branch_width t) a.0.0) a.0.1 s.0;
      rest_fits = s.0.rest_fits;
      read = λ real. let same = landing-takes pc a.0.0 real.0 in record {
        takes = rw (← same) s.0;
        fits = rw (← same) s.1;
        opcode_is = refl;
      };
    })

pub branch-again : (pc : ℕ) (t : Test) (target : ℕ) (rest : List ℕ) → FitsSigned (branch_width t) (offset pc target)
    → target < 65535 → branch_at pc t (signed (branch_width t) (offset pc target) ++ rest)
    ≡ Ok (instruction.Branch t target, rest)
unfolding branch_at
branch-again pc t target rest fits lt = rw (
  signed_again (branch_width t) (branch_wide t) (offset pc target) rest fits,
  landing-again pc target lt,
) refl

-- ---- pads

pub pad-takes : (n : ℕ) (bytes rest : List ℕ) → IsBytes bytes → pad_at n bytes ≡ Ok rest
    → Takes bytes (replicate n 0) rest
unfolding pad_at
pad-takes zero bytes rest fits e = let same = ok_is bytes rest e
    in record { parts = same; rest_fits = rw (← same) fits }
pad-takes (suc n) [] rest fits e = absurd cc
pad-takes (suc n) (zero ∷ bytes) rest fits e =
    let t = pad-takes n bytes rest (IsBytes-rest 0 bytes fits) e in
    record { parts = ap (λ (xs : List ℕ). 0 ∷ xs) t.parts; rest_fits = t.rest_fits }
pad-takes (suc n) (suc b ∷ bytes) rest fits e = absurd cc

pub pad-again : (n : ℕ) (rest : List ℕ) → pad_at n (replicate n 0 ++ rest) ≡ Ok rest
unfolding pad_at
pad-again zero rest = refl
pad-again (suc n) rest = pad-again n rest

-- ---- targets

abbrev pub OffsetFits : ℕ → ℕ → Type 0
OffsetFits pc t = FitsSigned w32 (offset pc t)

abbrev spelled : ℕ → ℕ → List ℕ
spelled pc t = signed w32 (offset pc t)

abbrev TargetsTaken : ℕ → ℕ → List ℕ → List ℕ × List ℕ → Type 0
TargetsTaken pc n bytes x = (length x.1 ≤ length bytes) × (length x.0 ≡ n) × IsBytes x.1
    × (AllByRecursion (λ t. t < 65535) x.0 → Takes bytes (flat_map (spelled pc) x.0) x.1
    × AllByRecursion (OffsetFits pc) x.0)

pub targets-take : (pc n : ℕ) (bytes : List ℕ) (x : List ℕ × List ℕ) → IsBytes bytes → targets_at pc n bytes ≡ Ok x
    → TargetsTaken pc n bytes x
unfolding targets_at
targets-take pc zero bytes x fits e = subst (TargetsTaken pc 0 bytes) (ok_is ([], bytes) x e) (
  omega arith,
  refl,
  fits,
  λ real. (record { parts = refl; rest_fits = fits }, tt),
)
targets-take pc (suc n) bytes x fits e =
    let a = bind_ok (signed_at w32 bytes) (λ z. targets_at pc n z.1 >>= λ others. Ok (
      landing pc z.0 ∷ others.0,
      others.1,
    )) x e in
    let b = bind_ok (targets_at pc n a.0.1) (λ others. Ok (landing pc a.0.0 ∷ others.0, others.1)) x a.2 in
    let s = signed_takes w32 wide32 bytes a.0.0 a.0.1 fits a.1 in
    let others = targets-take pc n a.0.1 b.0 s.0.rest_fits b.1 in
    let less = Takes-shorter bytes (signed w32 a.0.0) a.0.1 s.0 in
    subst (TargetsTaken pc (suc n) bytes) (ok_is (landing pc a.0.0 ∷ b.0.0, b.0.1) x b.2) (
      omega (arith, others.0, less),
      ap suc others.1,
      others.2,
      λ real.
          let same = landing-takes pc a.0.0 real.0 in
          let more = others.3 real.1 in
          let both = Takes-then bytes (signed w32 a.0.0) a.0.1 (flat_map (spelled pc) b.0.0) b.0.1 s.0 more.0 in
          (rw (flat_map-cons, ← same) both, (rw (← same) s.1, more.1)),
    )

pub targets-again : (pc : ℕ) (ts : List ℕ) (rest : List ℕ) → AllByRecursion (OffsetFits pc) ts
    → AllByRecursion (λ t. t < 65535) ts → targets_at pc (length ts) (flat_map (spelled pc) ts ++ rest) ≡ Ok (ts, rest)
unfolding targets_at
targets-again pc [] rest fits real = refl
targets-again pc (t ∷ ts) rest fits real =
    let regrouped : flat_map (spelled pc) (t ∷ ts) ++ rest ≡ spelled pc t ++ (flat_map (spelled pc) ts ++ rest) = ap
    (λ (x : List ℕ). x ++ rest) (flat_map-cons (spelled pc) t ts)
    ∙ append_assoc (spelled pc t) (flat_map (spelled pc) ts) rest in
    ap (targets_at pc (suc (length ts))) regrouped
    ∙ rw (
      signed_again w32 wide32 (offset pc t) (flat_map (spelled pc) ts ++ rest) fits.0,
      targets-again pc ts rest fits.1 real.1,
      landing-again pc t real.0,
    ) refl

-- ---- tableswitch

abs-of : (d : ℤ) → pos 0 ≤ℤ d → pos (unsigned_abs d) ≡ d
abs-of (pos n) h = refl
abs-of (negsuc n) h = absurd (omega (arith, ints))

not_under : (a b : ℤ) → int_lt a b ≡ false → b ≤ℤ a
not_under a b h = grind (arith, ints)

under : (a b : ℤ) → int_lt a b ≡ true → a <ℤ b
under a b h = grind (arith, ints)

under-is : (a b : ℤ) → a <ℤ b → int_lt a b ≡ true
under-is a b h = grind (arith, ints)

not_under-is : (a b : ℤ) → b ≤ℤ a → int_lt a b ≡ false
not_under-is a b h = grind (arith, ints)

high-is : (low high : ℤ) (n : ℕ) → low ≤ℤ high → n ≡ table_len low high → low +ℤ pos n -ℤ pos 1 ≡ high
high-is low high n le e =
    let d = abs-of (high -ℤ low) (omega (arith, ints)) in
    omega (arith, ints, d, e)

len-is : (low : ℤ) (n : ℕ) → 1 ≤ n → table_len low (low +ℤ pos n -ℤ pos 1) ≡ n
len-is low n le =
    let d = abs-of ((low +ℤ pos n -ℤ pos 1) -ℤ low) (omega (arith, ints)) in
    omega (arith, ints, d)

pub table-takes : (pc : ℕ) (bytes : List ℕ) (x : Instr × List ℕ) → IsBytes bytes → table_at pc bytes ≡ Ok x
    → Reads pc 170 bytes x
unfolding table_at
table-takes pc bytes x fits e =
    let finish : ℤ → ℤ → List ℕ × List ℕ
    → Result (Instr × List ℕ) OpError = λ default low ts. Ok
    (instruction.TableSwitch (record { low = low; targets = ts.0; default = landing pc default }), ts.1) in
    let a = bind_ok (pad_at (3 - pc % 4) bytes) (λ rest. signed_at w32 rest >>= λ default. signed_at w32 default.1
    >>= λ low. signed_at w32 low.1 >>= λ high. cond (int_lt high.0 low.0) (Err error.Switch)
    (targets_at pc (table_len low.0 high.0) high.1 >>= finish default.0 low.0)) x e in
    let b = bind_ok (signed_at w32 a.0) (λ default. signed_at w32 default.1 >>= λ low. signed_at w32 low.1
    >>= λ high. cond (int_lt high.0 low.0) (Err error.Switch) (targets_at pc (table_len low.0 high.0) high.1
    >>= finish default.0 low.0)) x a.2 in
    let c = bind_ok (signed_at w32 b.0.1) (λ low. signed_at w32 low.1
    >>= λ high. cond (int_lt high.0 low.0) (Err error.Switch) (targets_at pc (table_len low.0 high.0) high.1
    >>= finish b.0.0 low.0)) x b.2 in
    let d = bind_ok (signed_at w32 c.0.1) (λ high. cond (int_lt high.0 c.0.0) (Err error.Switch)
    (targets_at pc (table_len c.0.0 high.0) high.1 >>= finish b.0.0 c.0.0)) x c.2 in
    let g = guard_then (int_lt d.0.0 c.0.0) error.Switch (targets_at pc (table_len c.0.0 d.0.0) d.0.1
    >>= finish b.0.0 c.0.0) x d.2 in
    let f = bind_ok (targets_at pc (table_len c.0.0 d.0.0) d.0.1) (finish b.0.0 c.0.0) x g.1 in
    let t0 = pad-takes (3 - pc % 4) bytes a.0 fits a.1 in
    let t1 = signed_takes w32 wide32 a.0 b.0.0 b.0.1 t0.rest_fits b.1 in
    let t2 = signed_takes w32 wide32 b.0.1 c.0.0 c.0.1 t1.0.rest_fits c.1 in
    let t3 = signed_takes w32 wide32 c.0.1 d.0.0 d.0.1 t2.0.rest_fits d.1 in
    let ts = targets-take pc (table_len c.0.0 d.0.0) d.0.1 f.0 t3.0.rest_fits f.1 in
    let l0 = Takes-shorter bytes (pad pc) a.0 t0 in
    let l1 = Takes-shorter a.0 (signed w32 b.0.0) b.0.1 t1.0 in
    let l2 = Takes-shorter b.0.1 (signed w32 c.0.0) c.0.1 t2.0 in
    let l3 = Takes-shorter c.0.1 (signed w32 d.0.0) d.0.1 t3.0 in
    subst (Reads pc 170 bytes)
    (ok_is (
      instruction.TableSwitch (record { low = c.0.0; targets = f.0.0; default = landing pc b.0.0 }),
      f.0.1,
    ) x f.2)
    (record {
      shorter = omega (arith, l0, l1, l2, l3, ts.0);
      rest_fits = ts.2;
      read = λ real.
          let t4 = ts.3 real.1 in
          let high : c.0.0 +ℤ pos (length f.0.0) -ℤ pos 1
          ≡ d.0.0 = high-is c.0.0 d.0.0 (length f.0.0) (not_under d.0.0 c.0.0 g.0) ts.1 in
          let same = landing-takes pc b.0.0 real.0 in
          let e3 = Takes-then c.0.1 (signed w32 d.0.0) d.0.1 (flat_map (spelled pc) f.0.0) f.0.1 t3.0 t4.0 in
          let e2 = Takes-then b.0.1 (signed w32 c.0.0) c.0.1 (signed w32 d.0.0 ++ flat_map (spelled pc) f.0.0) f.0.1
          t2.0 e3 in
          let e1 = Takes-then a.0 (signed w32 b.0.0) b.0.1 (signed w32 c.0.0
          ++ (signed w32 d.0.0 ++ flat_map (spelled pc) f.0.0)) f.0.1 t1.0 e2 in
          let e0 = Takes-then bytes (pad pc) a.0 (signed w32 b.0.0
          ++ (signed w32 c.0.0 ++ (signed w32 d.0.0 ++ flat_map (spelled pc) f.0.0))) f.0.1 t0 e1 in
          record {
            takes = rw (high, ← same) e0;
            fits = record {
              some = omega (arith, ts.1);
              low = t2.1;
              high = rw high t3.1;
              default = rw (← same) t1.1;
              targets = t4.1;
            };
            opcode_is = refl;
          };
    })

append4 : (p q r s t rest : List ℕ) → (p ++ (q ++ (r ++ (s ++ t)))) ++ rest ≡ p ++ (q ++ (r ++ (s ++ (t ++ rest))))
append4 p q r s t rest = simp append_assoc

append3 : (p q r s rest : List ℕ) → (p ++ (q ++ (r ++ s))) ++ rest ≡ p ++ (q ++ (r ++ (s ++ rest)))
append3 p q r s rest = simp append_assoc

pub table-again : (pc : ℕ) (s : Table ℕ) (rest : List ℕ) → TableFits pc s → Real (instruction.TableSwitch s)
    → table_at pc (table_operands pc s ++ rest) ≡ Ok (instruction.TableSwitch s, rest)
unfolding table_at
table-again pc s rest fits real =
    let le : int_lt (table_high s) s.low
    ≡ false = not_under-is (table_high s) s.low (let some = fits.some in omega (arith, ints)) in
    let regrouped = append4 (pad pc) (spelled pc s.default) (signed w32 s.low) (signed w32 (table_high s))
    (flat_map (spelled pc) s.targets) rest in
    ap (table_at pc) regrouped ∙ rw (
      pad-again (3 - pc % 4) (spelled pc s.default
          ++ (signed w32 s.low ++ (signed w32 (table_high s) ++ (flat_map (spelled pc) s.targets ++ rest)))),
      signed_again w32 wide32 (offset pc s.default) (signed w32 s.low
          ++ (signed w32 (table_high s) ++ (flat_map (spelled pc) s.targets ++ rest))) fits.default,
      signed_again w32 wide32 s.low (signed w32 (table_high s) ++ (flat_map (spelled pc) s.targets ++ rest)) fits.low,
      signed_again w32 wide32 (table_high s) (flat_map (spelled pc) s.targets ++ rest) fits.high,
      le,
      len-is s.low (length s.targets) fits.some,
      targets-again pc s.targets rest fits.targets real.1,
      landing-again pc s.default real.0,
    ) refl

-- ---- lookupswitch

abbrev pub RisesFrom : Option ℤ → List (ℤ × ℕ) → Type 0
RisesFrom None ps = AreRising ps
RisesFrom (Some key) ps = AreRisingFrom key ps

abbrev pair : ℕ → ℤ × ℕ → List ℕ
pair pc p = signed w32 p.0 ++ signed w32 (offset pc p.1)

abbrev PairFits : ℕ → ℤ × ℕ → Type 0
PairFits pc p = FitsSigned w32 p.0 × FitsSigned w32 (offset pc p.1)

abbrev PairsTaken : ℕ → Option ℤ → ℕ → List ℕ → List (ℤ × ℕ) × List ℕ → Type 0
PairsTaken pc before n bytes x = (length x.1 ≤ length bytes) × (length x.0 ≡ n) × RisesFrom before x.0 × IsBytes x.1
    × (AllByRecursion (λ t. t < 65535) (map (λ p. p.1) x.0) → Takes bytes (flat_map (pair pc) x.0) x.1
    × AllByRecursion (PairFits pc) x.0)

rises_from-cons : (before : Option ℤ) (key : ℤ) (t : ℕ) (ps : List (ℤ × ℕ)) → rises before key ≡ true
    → AreRisingFrom key ps → RisesFrom before ((key, t) ∷ ps)
rises_from-cons None key t ps up others = others
rises_from-cons (Some k) key t ps up others = (under k key up, others)

rises_from-nil : (before : Option ℤ) → RisesFrom before []
rises_from-nil None = tt
rises_from-nil (Some k) = tt

rises_from-head : (before : Option ℤ) (p : ℤ × ℕ) (ps : List (ℤ × ℕ)) → RisesFrom before (p ∷ ps)
    → (rises before p.0 ≡ true) × AreRisingFrom p.0 ps
rises_from-head None p ps up = (refl, up)
rises_from-head (Some k) p ps up = (under-is k p.0 up.0, up.1)

then_else : {A : Type 0} (b : Bool) (r : Result A OpError) (d : OpError) (y : A) → cond b r (Err d) ≡ Ok y → (b ≡ true)
    × (r ≡ Ok y)
then_else true r d y e = (refl, e)
then_else false r d y e = absurd cc

pub pairs-take : (pc : ℕ) (before : Option ℤ) (n : ℕ) (bytes : List ℕ) (x : List (ℤ × ℕ) × List ℕ) → IsBytes bytes
    → pairs_at pc before n bytes ≡ Ok x → PairsTaken pc before n bytes x
unfolding pairs_at
pairs-take pc before zero bytes x fits e = subst (PairsTaken pc before 0 bytes) (ok_is ([], bytes) x e) (
  omega arith,
  refl,
  rises_from-nil before,
  fits,
  λ real. (record { parts = refl; rest_fits = fits }, tt),
)
pairs-take pc before (suc n) bytes x fits e =
    let a = bind_ok (signed_at w32 bytes) (λ key. cond (rises before key.0) (signed_at w32 key.1
    >>= λ z. pairs_at pc (Some key.0) n z.1 >>= λ others. Ok ((key.0, landing pc z.0) ∷ others.0, others.1))
    (Err error.Switch)) x e in
    let g = then_else (rises before a.0.0) (signed_at w32 a.0.1 >>= λ z. pairs_at pc (Some a.0.0) n z.1
    >>= λ others. Ok ((a.0.0, landing pc z.0) ∷ others.0, others.1)) error.Switch x a.2 in
    let b = bind_ok (signed_at w32 a.0.1) (λ z. pairs_at pc (Some a.0.0) n z.1
    >>= λ others. Ok ((a.0.0, landing pc z.0) ∷ others.0, others.1)) x g.1 in
    let c = bind_ok (pairs_at pc (Some a.0.0) n b.0.1) (λ others. Ok ((a.0.0, landing pc b.0.0) ∷ others.0, others.1)) x
    b.2 in
    let s = signed_takes w32 wide32 bytes a.0.0 a.0.1 fits a.1 in
    let t = signed_takes w32 wide32 a.0.1 b.0.0 b.0.1 s.0.rest_fits b.1 in
    let others = pairs-take pc (Some a.0.0) n b.0.1 c.0 t.0.rest_fits c.1 in
    let l0 = Takes-shorter bytes (signed w32 a.0.0) a.0.1 s.0 in
    let l1 = Takes-shorter a.0.1 (signed w32 b.0.0) b.0.1 t.0 in
    subst (PairsTaken pc before (suc n) bytes) (ok_is ((a.0.0, landing pc b.0.0) ∷ c.0.0, c.0.1) x c.2) (
      omega (arith, l0, l1, others.0),
      ap suc others.1,
      rises_from-cons before a.0.0 (landing pc b.0.0) c.0.0 g.0 others.2,
      others.3,
      λ real.
          let same = landing-takes pc b.0.0 real.0 in
          let more = others.4 real.1 in
          let first = Takes-then bytes (signed w32 a.0.0) a.0.1 (signed w32 b.0.0) b.0.1 s.0 t.0 in
          let both = Takes-then bytes (signed w32 a.0.0 ++ signed w32 b.0.0) b.0.1 (flat_map (pair pc) c.0.0) c.0.1
          first more.0 in
          (rw (flat_map-cons, ← same) both, ((s.1, rw (← same) t.1), more.1)),
    )

pub pairs-again : (pc : ℕ) (before : Option ℤ) (ps : List (ℤ × ℕ)) (rest : List ℕ) → AllByRecursion (PairFits pc) ps
    → AllByRecursion (λ t. t < 65535) (map (λ p. p.1) ps) → RisesFrom before ps
    → pairs_at pc before (length ps) (flat_map (pair pc) ps ++ rest) ≡ Ok (ps, rest)
unfolding pairs_at
pairs-again pc before [] rest fits real up = refl
pairs-again pc before (p ∷ ps) rest fits real up =
    let h = rises_from-head before p ps up in
    let regrouped : flat_map (pair pc) (p ∷ ps) ++ rest ≡ signed w32 p.0
    ++ (signed w32 (offset pc p.1) ++ (flat_map (pair pc) ps ++ rest)) = ap (λ (x : List ℕ). x ++ rest)
    (flat_map-cons (pair pc) p ps) ∙ append_assoc (pair pc p) (flat_map (pair pc) ps) rest
    ∙ append_assoc (signed w32 p.0) (signed w32 (offset pc p.1)) (flat_map (pair pc) ps ++ rest) in
    ap (pairs_at pc before (suc (length ps))) regrouped ∙ rw (
      signed_again w32 wide32 p.0 (signed w32 (offset pc p.1) ++ (flat_map (pair pc) ps ++ rest)) fits.0.0,
      h.0,
      signed_again w32 wide32 (offset pc p.1) (flat_map (pair pc) ps ++ rest) fits.0.1,
      pairs-again pc (Some p.0) ps rest fits.1 real.1 h.1,
      landing-again pc p.1 real.0,
    ) refl

count_fits : (n : ℕ) → n < 2 ^ 31 → FitsSigned w32 (pos n)
count_fits n lt = record { sfits = lt }

pub lookup-takes : (pc : ℕ) (bytes : List ℕ) (x : Instr × List ℕ) → IsBytes bytes → lookup_at pc bytes ≡ Ok x
    → Reads pc 171 bytes x
unfolding lookup_at
lookup-takes pc bytes x fits e =
    let finish : ℤ → List (ℤ × ℕ) × List ℕ
    → Result (Instr × List ℕ) OpError = λ default ps. Ok
    (instruction.LookupSwitch (record { pairs = ps.0; default = landing pc default }), ps.1) in
    let a = bind_ok (pad_at (3 - pc % 4) bytes) (λ rest. signed_at w32 rest >>= λ default. signed_at w32 default.1
    >>= λ count. cond (int_lt count.0 (pos 0)) (Err error.Switch) (pairs_at pc None (unsigned_abs count.0) count.1
    >>= finish default.0)) x e in
    let b = bind_ok (signed_at w32 a.0) (λ default. signed_at w32 default.1 >>= λ count. cond (int_lt count.0 (pos 0))
    (Err error.Switch) (pairs_at pc None (unsigned_abs count.0) count.1 >>= finish default.0)) x a.2 in
    let c = bind_ok (signed_at w32 b.0.1) (λ count. cond (int_lt count.0 (pos 0)) (Err error.Switch)
    (pairs_at pc None (unsigned_abs count.0) count.1 >>= finish b.0.0)) x b.2 in
    let g = guard_then (int_lt c.0.0 (pos 0)) error.Switch (pairs_at pc None (unsigned_abs c.0.0) c.0.1
    >>= finish b.0.0) x c.2 in
    let f = bind_ok (pairs_at pc None (unsigned_abs c.0.0) c.0.1) (finish b.0.0) x g.1 in
    let t0 = pad-takes (3 - pc % 4) bytes a.0 fits a.1 in
    let t1 = signed_takes w32 wide32 a.0 b.0.0 b.0.1 t0.rest_fits b.1 in
    let t2 = signed_takes w32 wide32 b.0.1 c.0.0 c.0.1 t1.0.rest_fits c.1 in
    let ps = pairs-take pc None (unsigned_abs c.0.0) c.0.1 f.0 t2.0.rest_fits f.1 in
    let l0 = Takes-shorter bytes (pad pc) a.0 t0 in
    let l1 = Takes-shorter a.0 (signed w32 b.0.0) b.0.1 t1.0 in
    let l2 = Takes-shorter b.0.1 (signed w32 c.0.0) c.0.1 t2.0 in
    subst (Reads pc 171 bytes) (ok_is (
      instruction.LookupSwitch (record { pairs = f.0.0; default = landing pc b.0.0 }),
      f.0.1,
    ) x f.2)
    (record {
      shorter = omega (arith, l0, l1, l2, ps.0);
      rest_fits = ps.3;
      read = λ real.
          let t3 = ps.4 real.1 in
          let count : pos (length f.0.0) ≡ c.0.0 = ap pos ps.1 ∙ abs-of c.0.0 (not_under c.0.0 (pos 0) g.0) in
          let same = landing-takes pc b.0.0 real.0 in
          let few : FitsSigned w32 (pos (length f.0.0)) = rw count t2.1 in
          let e2 = Takes-then b.0.1 (signed w32 c.0.0) c.0.1 (flat_map (pair pc) f.0.0) f.0.1 t2.0 t3.0 in
          let e1 = Takes-then a.0 (signed w32 b.0.0) b.0.1 (signed w32 c.0.0 ++ flat_map (pair pc) f.0.0) f.0.1 t1.0 e2
          in
          let e0 = Takes-then bytes (pad pc) a.0 (signed w32 b.0.0 ++ (signed w32 c.0.0 ++ flat_map (pair pc) f.0.0))
          f.0.1 t0 e1 in
          record {
            takes = rw (count, ← same) e0;
            fits = record { few = few.sfits; default = rw (← same) t1.1; pairs = t3.1; rising = ps.2 };
            opcode_is = refl;
          };
    })

pub lookup-again : (pc : ℕ) (s : Lookup ℕ) (rest : List ℕ) → LookupFits pc s → Real (instruction.LookupSwitch s)
    → lookup_at pc (lookup_operands pc s ++ rest) ≡ Ok (instruction.LookupSwitch s, rest)
unfolding lookup_at
lookup-again pc s rest fits real =
    let n = pos (length s.pairs) in
    let le : int_lt n (pos 0) ≡ false = not_under-is n (pos 0) (omega (arith, ints)) in
    let regrouped = append3 (pad pc) (spelled pc s.default) (signed w32 n) (flat_map (pair pc) s.pairs) rest in
    ap (lookup_at pc) regrouped ∙ rw (
      pad-again (3 - pc % 4) (spelled pc s.default ++ (signed w32 n ++ (flat_map (pair pc) s.pairs ++ rest))),
      signed_again w32 wide32 (offset pc s.default) (signed w32 n ++ (flat_map (pair pc) s.pairs ++ rest)) fits.default,
      signed_again w32 wide32 n (flat_map (pair pc) s.pairs ++ rest) (count_fits (length s.pairs) fits.few),
      le,
      pairs-again pc None s.pairs rest fits.pairs real.1 fits.rising,
      landing-again pc s.default real.0,
    ) refl

-- a key that may follow the one before is all that its place asks
pub keys-more : (before : Option ℤ) (ps : List (ℤ × ℕ)) (i : ℕ) (P : Type 0) → i < length ps
    → rises before (get_or ps i (pos 0, 0)).0 ≡ true → RisesFrom before (drop i ps) ↔ P
    → RisesFrom (Some (get_or ps i (pos 0, 0)).0) (drop (i + 1) ps) ↔ P
keys-more before ps i P lt up so_far =
    let p = get_or ps i (pos 0, 0) in
    let split : drop i ps ≡ p ∷ drop (i + 1) ps = rw (add-one, drop-cons ps i (pos 0, 0)) refl in (
      λ more. so_far.0 (rw split (rises_from-cons before p.0 p.1 (drop (i + 1) ps) up more)),
      λ h. (rises_from-head before p (drop (i + 1) ps) (rw split at (so_far.1 h))).1,
    )

-- five pieces written one after another
pub pieces : (o0 o1 o2 o3 o4 o5 p q r s t : List ℕ) → o1 ≡ o0 ++ p → o2 ≡ o1 ++ q → o3 ≡ o2 ++ r → o4 ≡ o3 ++ s
    → o5 ≡ o4 ++ t → o5 ≡ o0 ++ (p ++ (q ++ (r ++ (s ++ t))))
pieces o0 o1 o2 o3 o4 o5 p q r s t e1 e2 e3 e4 e5 = rw (e5, e4, e3, e2, e1) (simp append_assoc)
