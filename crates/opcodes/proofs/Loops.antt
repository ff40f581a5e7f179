-- Reading one after another, as a loop does.
use Rattle.std.proofs.Common.{◌≡◌, ◌≢◌, ℕ, zero, suc, ◌-◌, ◌+◌, ◌%◌, ◌≤◌, ◌<◌, true, false, cond, List, [], ◌∷◌, ◌++◌}
use Rattle.std.proofs.Common.{Option, Some, Result, Ok, Err, refl, sym, ap, ◌∙◌, append_assoc, arith, ℤ, int_lt, ◌≤ℤ◌}
use Rattle.std.proofs.lemmas.Int.{ints}
use Rattle.std.specs.Int.{w32}
use Rattle.std.proofs.lemmas.List.{append-nil}
use Rattle.opcodes.specs.declared.error.OpError.{OpError}
use Rattle.opcodes.specs.declared.error.OpError.TheVariants as error
use Rattle.opcodes.specs.Reading.Steps.{◌>>=◌, Fails, byte_at, signed_at}
use Rattle.opcodes.specs.Reading.Switches.{landing, pad_at, targets_at, rises, pairs_at, table_len, table_at}
use Rattle.model.specs.declared.instructions.Instruction.TheVariants as instruction

-- a step that failed fails all that it is part of
pub fails-then : {A B : Type 0} (e : OpError) (r : Result A OpError) (f : A → Result B OpError) → Fails e r
    → Fails e (r >>= f)
fails-then error.Opcode r f h = rw h refl
fails-then error.Operand r f h = rw h refl
fails-then error.Branch r f h = rw h refl
fails-then error.Switch r f h = rw h refl
fails-then error.Length r f h = rw h refl
fails-then error.Memory r f h = tt

pub fails-is : {A : Type 0} (e : OpError) (r s : Result A OpError) → r ≡ s → Fails e r → Fails e s
fails-is e r s same h = rw (← same) h

abbrev done : {A : Type 0} → A → Result A OpError
done x = Ok x

pub ok_is : {A : Type 0} (x y : A) → done x ≡ done y → x ≡ y
ok_is x y e = cc

-- ---- zero bytes

pad_at-suc : (n : ℕ) (bytes rest : List ℕ) (b : ℕ) → byte_at bytes ≡ Ok (b, rest) → b ≡ 0 → pad_at (suc n) bytes
    ≡ pad_at n rest
unfolding pad_at
pad_at-suc n [] rest b e z = absurd cc
pad_at-suc n (zero ∷ bytes) rest b e z = ap (λ (p : ℕ × List ℕ). pad_at n p.1) (ok_is (0, bytes) (b, rest) e)
pad_at-suc n (suc a ∷ bytes) rest b e z = let s : suc a
    ≡ b = ap (λ (p : ℕ × List ℕ). p.0) (ok_is (suc a, bytes) (b, rest) e)
    in absurd (omega arith)

pad_at-other : (n : ℕ) (bytes rest : List ℕ) (b : ℕ) → byte_at bytes ≡ Ok (b, rest) → b ≢ 0 → pad_at (suc n) bytes
    ≡ Err error.Switch
unfolding pad_at
pad_at-other n [] rest b e z = absurd cc
pad_at-other n (zero ∷ bytes) rest b e z = let s : 0 ≡ b = ap (λ (p : ℕ × List ℕ). p.0) (ok_is (0, bytes) (b, rest) e)
    in absurd (z (sym s))
pad_at-other n (suc a ∷ bytes) rest b e z = refl

pad_at-fails : (e : OpError) (n : ℕ) (bytes : List ℕ) → Fails e (byte_at bytes) → Fails e (pad_at (suc n) bytes)
unfolding pad_at
pad_at-fails error.Opcode n [] h = absurd cc
pad_at-fails error.Operand n [] h = refl
pad_at-fails error.Branch n [] h = absurd cc
pad_at-fails error.Switch n [] h = absurd cc
pad_at-fails error.Length n [] h = absurd cc
pad_at-fails error.Memory n [] h = tt
pad_at-fails error.Opcode n (b ∷ bytes) h = absurd cc
pad_at-fails error.Operand n (b ∷ bytes) h = absurd cc
pad_at-fails error.Branch n (b ∷ bytes) h = absurd cc
pad_at-fails error.Switch n (b ∷ bytes) h = absurd cc
pad_at-fails error.Length n (b ∷ bytes) h = absurd cc
pad_at-fails error.Memory n (b ∷ bytes) h = tt

pub pad_goes_on : (count i : ℕ) (bytes rest : List ℕ) (b : ℕ) (total : Result (List ℕ) OpError) → i < count
    → byte_at bytes ≡ Ok (b, rest) → b ≡ 0 → pad_at (count - i) bytes ≡ total → pad_at (count - (i + 1)) rest ≡ total
pad_goes_on count i bytes rest b total lt e z so_far =
    let k : count - i ≡ suc (count - (i + 1)) = omega arith in
    sym (pad_at-suc (count - (i + 1)) bytes rest b e z) ∙ ap (λ n. pad_at n bytes) (sym k) ∙ so_far

pub pad_stops : (count i : ℕ) (bytes rest : List ℕ) (b : ℕ) (total : Result (List ℕ) OpError) → i < count
    → byte_at bytes ≡ Ok (b, rest) → b ≢ 0 → pad_at (count - i) bytes ≡ total → total ≡ Err error.Switch
pad_stops count i bytes rest b total lt e z so_far =
    let k : count - i ≡ suc (count - (i + 1)) = omega arith in
    sym so_far ∙ ap (λ n. pad_at n bytes) k ∙ pad_at-other (count - (i + 1)) bytes rest b e z

pub pad_ends : (e : OpError) (count i : ℕ) (bytes : List ℕ) (total : Result (List ℕ) OpError) → i < count
    → Fails e (byte_at bytes) → pad_at (count - i) bytes ≡ total → Fails e total
pad_ends e count i bytes total lt h so_far =
    let k : count - i ≡ suc (count - (i + 1)) = omega arith in
    fails-is e (pad_at (suc (count - (i + 1))) bytes) total (ap (λ n. pad_at n bytes) (sym k) ∙ so_far)
    (pad_at-fails e (count - (i + 1)) bytes h)

pub pad_done : (count i : ℕ) (bytes : List ℕ) (total : Result (List ℕ) OpError) → count ≤ i → pad_at (count - i) bytes
    ≡ total → total ≡ Ok bytes
unfolding pad_at
pad_done count i bytes total le so_far =
    let k : count - i ≡ 0 = omega arith in
    sym so_far ∙ ap (λ n. pad_at n bytes) k

-- ---- what was read before, and what is still read

abbrev pub with_front : {A : Type 0} → List A → Result (List A × List ℕ) OpError → Result (List A × List ℕ) OpError
with_front front read = read >>= λ x. Ok (front ++ x.0, x.1)

regroup : {A : Type 0} (front : List A) (n : A) (read : Result (List A × List ℕ) OpError)
    → with_front front (read >>= λ x. Ok (n ∷ x.0, x.1)) ≡ with_front (front ++ n ∷ []) read
regroup front n (Ok x) = ap (λ (ns : List _). Ok (ns, x.1)) (simp append_assoc)
regroup front n (Err f) = refl

-- ---- offsets

pub targets_go_on : (front : List ℕ) (pc count i : ℕ) (bytes : List ℕ) (z : ℤ) (after : List ℕ)
    (total : Result (List ℕ × List ℕ) OpError) → i < count → signed_at w32 bytes ≡ Ok (z, after)
    → with_front front (targets_at pc (count - i) bytes) ≡ total
    → with_front (front ++ landing pc z ∷ []) (targets_at pc (count - (i + 1)) after) ≡ total
unfolding targets_at
targets_go_on front pc count i bytes z after total lt h so_far =
    let k : count - i ≡ suc (count - (i + 1)) = omega arith in
    let one : with_front front (targets_at pc (count - i) bytes)
    ≡ with_front (front ++ landing pc z ∷ []) (targets_at pc (count - (i + 1)) after) = rw (
      k,
      h,
    ) (regroup front (landing pc z) (targets_at pc (count - (i + 1)) after)) in
    sym one ∙ so_far

pub targets_end : (e : OpError) (front : List ℕ) (pc count i : ℕ) (bytes : List ℕ)
    (total : Result (List ℕ × List ℕ) OpError) → i < count → Fails e (signed_at w32 bytes)
    → with_front front (targets_at pc (count - i) bytes) ≡ total → Fails e total
unfolding targets_at
targets_end e front pc count i bytes total lt h so_far =
    let k : count - i ≡ suc (count - (i + 1)) = omega arith in
    let one = fails-then e (signed_at w32 bytes) (λ z. targets_at pc (count - (i + 1)) z.1
    >>= λ others. Ok (landing pc z.0 ∷ others.0, others.1)) h in
    let two = fails-then e (targets_at pc (suc (count - (i + 1))) bytes) (λ x. Ok (front ++ x.0, x.1)) one in
    fails-is e (with_front front (targets_at pc (suc (count - (i + 1))) bytes)) total
    (ap (λ n. with_front front (targets_at pc n bytes)) (sym k) ∙ so_far) two

pub targets_done : (front : List ℕ) (pc count i : ℕ) (bytes : List ℕ) (total : Result (List ℕ × List ℕ) OpError)
    → count ≤ i → with_front front (targets_at pc (count - i) bytes) ≡ total → total ≡ Ok (front, bytes)
unfolding targets_at
targets_done front pc count i bytes total le so_far =
    let k : count - i ≡ 0 = omega arith in
    let one : with_front front (targets_at pc (count - i) bytes)
    ≡ Ok (front, bytes) = rw k (ap (λ (ns : List ℕ). Ok (ns, bytes)) (append-nil front)) in
    sym so_far ∙ one

-- ---- pairs

abbrev pub Pairs : Type 0
Pairs = List (ℤ × ℕ)

pub pairs_go_on : (front : Pairs) (pc : ℕ) (before : Option ℤ) (count i : ℕ) (bytes : List ℕ) (key : ℤ)
    (middle : List ℕ) (z : ℤ) (after : List ℕ) (total : Result (Pairs × List ℕ) OpError) → i < count
    → signed_at w32 bytes ≡ Ok (key, middle) → rises before key ≡ true → signed_at w32 middle ≡ Ok (z, after)
    → with_front front (pairs_at pc before (count - i) bytes) ≡ total
    → with_front (front ++ (key, landing pc z) ∷ []) (pairs_at pc (Some key) (count - (i + 1)) after) ≡ total
unfolding pairs_at
pairs_go_on front pc before count i bytes key middle z after total lt h up h2 so_far =
    let k : count - i ≡ suc (count - (i + 1)) = omega arith in
    let one : with_front front (pairs_at pc before (count - i) bytes) ≡ with_front (front ++ (key, landing pc z) ∷ [])
    (pairs_at pc (Some key) (count - (i + 1)) after) = rw (
      k,
      h,
      up,
      h2,
    ) (regroup front (key, landing pc z) (pairs_at pc (Some key) (count - (i + 1)) after)) in
    sym one ∙ so_far

pub pairs_end : (e : OpError) (front : Pairs) (pc : ℕ) (before : Option ℤ) (count i : ℕ) (bytes : List ℕ)
    (total : Result (Pairs × List ℕ) OpError) → i < count → Fails e (signed_at w32 bytes)
    → with_front front (pairs_at pc before (count - i) bytes) ≡ total → Fails e total
unfolding pairs_at
pairs_end e front pc before count i bytes total lt h so_far =
    let n = count - (i + 1) in
    let k : count - i ≡ suc n = omega arith in
    let one = fails-then e (signed_at w32 bytes) (λ key. cond (rises before key.0) (signed_at w32 key.1
    >>= λ z. pairs_at pc (Some key.0) n z.1 >>= λ others. Ok ((key.0, landing pc z.0) ∷ others.0, others.1))
    (Err error.Switch)) h in
    let two = fails-then e (pairs_at pc before (suc n) bytes) (λ x. Ok (front ++ x.0, x.1)) one in
    fails-is e (with_front front (pairs_at pc before (suc n) bytes)) total
    (ap (λ m. with_front front (pairs_at pc before m bytes)) (sym k) ∙ so_far) two

pub pairs_stop : (front : Pairs) (pc : ℕ) (before : Option ℤ) (count i : ℕ) (bytes : List ℕ) (key : ℤ) (middle : List ℕ)
    (total : Result (Pairs × List ℕ) OpError) → i < count
    → signed_at w32 bytes ≡ Ok (key, middle) → rises before key ≡ false
    → with_front front (pairs_at pc before (count - i) bytes) ≡ total → total ≡ Err error.Switch
unfolding pairs_at
pairs_stop front pc before count i bytes key middle total lt h up so_far =
    let k : count - i ≡ suc (count - (i + 1)) = omega arith in
    let one : with_front front (pairs_at pc before (count - i) bytes) ≡ Err error.Switch = rw (k, h, up) refl in
    sym so_far ∙ one

pub pairs_break : (e : OpError) (front : Pairs) (pc : ℕ) (before : Option ℤ) (count i : ℕ) (bytes : List ℕ) (key : ℤ)
    (middle : List ℕ) (total : Result (Pairs × List ℕ) OpError) → i < count
    → signed_at w32 bytes ≡ Ok (key, middle) → rises before key ≡ true → Fails e (signed_at w32 middle)
    → with_front front (pairs_at pc before (count - i) bytes) ≡ total → Fails e total
unfolding pairs_at
pairs_break e front pc before count i bytes key middle total lt h up h2 so_far =
    let n = count - (i + 1) in
    let k : count - i ≡ suc n = omega arith in
    let one = fails-then e (signed_at w32 middle) (λ z. pairs_at pc (Some key) n z.1
    >>= λ others. Ok ((key, landing pc z.0) ∷ others.0, others.1)) h2 in
    let same : pairs_at pc before (suc n) bytes ≡ (signed_at w32 middle >>= λ z. pairs_at pc (Some key) n z.1
    >>= λ others. Ok ((key, landing pc z.0) ∷ others.0, others.1)) = rw (h, up) refl in
    let two = fails-then e (pairs_at pc before (suc n) bytes) (λ x. Ok (front ++ x.0, x.1))
    (fails-is e _ _ (sym same) one) in
    fails-is e (with_front front (pairs_at pc before (suc n) bytes)) total
    (ap (λ m. with_front front (pairs_at pc before m bytes)) (sym k) ∙ so_far) two

pub pairs_done : (front : Pairs) (pc : ℕ) (before : Option ℤ) (count i : ℕ) (bytes : List ℕ)
    (total : Result (Pairs × List ℕ) OpError) → count ≤ i → with_front front (pairs_at pc before (count - i) bytes)
    ≡ total → total ≡ Ok (front, bytes)
unfolding pairs_at
pairs_done front pc before count i bytes total le so_far =
    let k : count - i ≡ 0 = omega arith in
    let one : with_front front (pairs_at pc before (count - i) bytes)
    ≡ Ok (front, bytes) = rw k (ap (λ (ns : Pairs). Ok (ns, bytes)) (append-nil front)) in
    sym so_far ∙ one

pub int_lt-not : (a b : ℤ) → b ≤ℤ a → int_lt a b ≡ false
int_lt-not a b h = grind (arith, ints)

-- ---- a tableswitch whose targets fail

pub table_fails : (e : OpError) (pc count : ℕ) (bytes r0 r1 r2 r3 : List ℕ) (default low high : ℤ)
    → pad_at (3 - pc % 4) bytes ≡ Ok r0 → signed_at w32 r0 ≡ Ok (default, r1) → signed_at w32 r1 ≡ Ok (low, r2)
    → signed_at w32 r2 ≡ Ok (high, r3)
    → int_lt high low ≡ false → count ≡ table_len low high → Fails e (targets_at pc count r3)
    → Fails e (table_at pc bytes)
unfolding table_at
table_fails e pc count bytes r0 r1 r2 r3 default low high h0 h1 h2 h3 up n h =
    let fails = fails-then e (targets_at pc (table_len low high) r3)
    (λ targets. Ok (
      instruction.TableSwitch (record {
        low = low;
        targets = targets.0;
        default = landing pc default;
      }),
      targets.1,
    )) (rw n at h) in
    fails-is e _ (table_at pc bytes) (sym (rw (h0, h1, h2, h3, up) refl)) fails
