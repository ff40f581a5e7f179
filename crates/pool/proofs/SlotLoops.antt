-- Reading what stands under one number after another, as a loop does.
use Rattle.std.proofs.Common.{◌≡◌, ℕ, suc, ◌-◌, ◌+◌, ◌≤◌, ◌<◌, Bool, true, false, List, [], ◌∷◌, ◌++◌, Option, Some}
use Rattle.std.proofs.Common.{None, Result, Ok, Err, refl, sym, ap, ◌∙◌, append_assoc, arith}
use Rattle.std.proofs.lemmas.List.{append-nil}
use Rattle.model.specs.declared.class_files.FormatFault.{FormatFault}
use Rattle.model.specs.declared.class_files.Entry.{Entry}
use Rattle.pool.specs.declared.error.ReadError.{ReadError}
use Rattle.pool.specs.Reading.Steps.{◌>>=◌, Fails}
use Rattle.pool.specs.Reading.Entries.{entry_from}
use Rattle.pool.specs.Reading.Pools.{is_long, slots_from}
use Rattle.pool.proofs.Steps.{fails-then, fails-is}

abbrev pub Slots : Type 0
Slots = List (Option Entry)

-- what was read before, and what is still read
abbrev pub with_front : Slots → Result (Slots × List ℕ) FormatFault → Result (Slots × List ℕ) FormatFault
with_front front read = read >>= λ x. Ok (front ++ x.0, x.1)

regroup : (front : Slots) (s : Option Entry) (read : Result (Slots × List ℕ) FormatFault)
    → with_front front (read >>= λ x. Ok (s ∷ x.0, x.1)) ≡ with_front (front ++ s ∷ []) read
regroup front s (Ok x) = ap (λ (ss : Slots). Ok (ss, x.1)) (simp append_assoc)
regroup front s (Err f) = refl

pub goes_on : (front : Slots) (count i : ℕ) (bytes : List ℕ) (e : Entry) (after : List ℕ)
    (total : Result (Slots × List ℕ) FormatFault) → i < count → entry_from (count - i) bytes ≡ Ok (e, after)
    → with_front front (slots_from false (count - i) bytes) ≡ total
    → with_front (front ++ Some e ∷ []) (slots_from (is_long e) (count - (i + 1)) after) ≡ total
unfolding slots_from
goes_on front count i bytes e after total lt h so_far =
    let k : suc (count - (i + 1)) ≡ count - i = omega arith in
    let here : entry_from (suc (count - (i + 1))) bytes ≡ Ok (e, after) = ap (λ m. entry_from m bytes) k ∙ h in
    let one : with_front front (slots_from false (suc (count - (i + 1))) bytes)
    ≡ with_front (front ++ Some e ∷ []) (slots_from (is_long e) (count - (i + 1)) after) = rw here
    (regroup front (Some e) (slots_from (is_long e) (count - (i + 1)) after)) in
    sym one ∙ ap (λ m. with_front front (slots_from false m bytes)) k ∙ so_far

pub skips : (front : Slots) (count i : ℕ) (bytes : List ℕ) (total : Result (Slots × List ℕ) FormatFault) → i < count
    → with_front front (slots_from true (count - i) bytes) ≡ total
    → with_front (front ++ None ∷ []) (slots_from false (count - (i + 1)) bytes) ≡ total
unfolding slots_from
skips front count i bytes total lt so_far =
    let k : suc (count - (i + 1)) ≡ count - i = omega arith in
    let one : with_front front (slots_from true (suc (count - (i + 1))) bytes)
    ≡ with_front (front ++ None ∷ []) (slots_from false (count - (i + 1)) bytes) = regroup front None
    (slots_from false (count - (i + 1)) bytes) in
    sym one ∙ ap (λ m. with_front front (slots_from true m bytes)) k ∙ so_far

pub ends : (e : ReadError) (front : Slots) (count i : ℕ) (bytes : List ℕ) (total : Result (Slots × List ℕ) FormatFault)
    → i < count → Fails e (entry_from (count - i) bytes)
    → with_front front (slots_from false (count - i) bytes) ≡ total → Fails e total
unfolding slots_from
ends e front count i bytes total lt h so_far =
    let k : suc (count - (i + 1)) ≡ count - i = omega arith in
    let here = fails-is e (entry_from (count - i) bytes) (entry_from (suc (count - (i + 1))) bytes)
    (ap (λ m. entry_from m bytes) (sym k)) h in
    let one = fails-then e (entry_from (suc (count - (i + 1))) bytes)
    (λ first. slots_from (is_long first.0) (count - (i + 1)) first.1 >>= λ others. Ok (
      Some first.0 ∷ others.0,
      others.1,
    )) here in
    let two = fails-then e (slots_from false (suc (count - (i + 1))) bytes) (λ x. Ok (front ++ x.0, x.1)) one in
    fails-is e (with_front front (slots_from false (suc (count - (i + 1))) bytes)) total
    (ap (λ m. with_front front (slots_from false m bytes)) k ∙ so_far) two

pub is_done : (front : Slots) (second : Bool) (count i : ℕ) (bytes : List ℕ)
    (total : Result (Slots × List ℕ) FormatFault) → count ≤ i → with_front front (slots_from second (count - i) bytes)
    ≡ total → total ≡ Ok (front, bytes)
unfolding slots_from
is_done front second count i bytes total le so_far =
    let k : count - i ≡ 0 = omega arith in
    let one : with_front front (slots_from second (count - i) bytes)
    ≡ Ok (front, bytes) = rw k (ap (λ (ss : Slots). Ok (ss, bytes)) (append-nil front)) in
    sym so_far ∙ one
