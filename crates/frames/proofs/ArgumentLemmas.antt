-- arguments are copied into units after each other
use Rattle.std.proofs.Common.{◌≡◌, ℕ, zero, suc, ◌+◌, ◌-◌, ◌<◌, ◌≤◌, List, [], ◌∷◌, ◌++◌, length, map, replicate}
use Rattle.std.proofs.Common.{reverse, take, drop, slice_set, get_or, refl, ap, sym, ◌∙◌, arith, add-one}
use Rattle.std.proofs.lemmas.List.{set_split, append_assoc, take_more, take_more_set, drop-set-lt, drop-drop, drop_at}
use Rattle.std.proofs.lemmas.List.{take_at, take-take, take-map, map_push, length-append, length-set, length-take-le}
use Rattle.std.proofs.lemmas.List.{length-drop, get_or_append_left, get_or-take, get_or-drop, reverse-append}
use Rattle.std.proofs.lemmas.List.{reverse-reverse, length-replicate, replicate-append-replicate}
use Rattle.model.specs.declared.values.Value.{Value}
use Rattle.model.specs.declared.values.Value.TheVariants.{Int, Long, Ref}
use Rattle.model.specs.declared.values.Entry.{Entry}
use Rattle.model.specs.declared.values.Entry.TheVariants.{Unset, Holds, UpperHalf}
use Rattle.model.specs.Values.{units_of, units_of_all}
use Rattle.model.specs.declared.values.Kind.{Kind}
use Rattle.model.specs.declared.values.Kind.TheVariants.{Int as IntKind}
use Rattle.model.specs.Locals.{argument_entries, of_kind}
use Rattle.model.specs.Table.Invokes.{fault_in_pops}
use Rattle.std.specs.Prelude.{None}
use Rattle.std.specs.Option.{option_or}
use Rattle.std.specs.Result.{result_err}
use Rattle.values.specs.Slots.{value_in}
use Rattle.frames.specs.Layout.{stack_of, values_between}
use Rattle.frames.proofs.PushLemmas.{units_of_all-take_le}
use Rattle.frames.proofs.StackLemmas.{units_of-le}

-- one entry, or two, are written
pub put_one : (units : List Entry) (end : ℕ) (e : Entry) → end < length units → slice_set units end e ≡ take end units
    ++ e ∷ [] ++ drop (end + 1) units
put_one units end e h = rw add-one (set_split units end e h
    ∙ sym (append_assoc (take end units) (e ∷ []) (drop (suc end) units)))

pub put_two : (units : List Entry) (end : ℕ) (d e : Entry) → end + 1 < length units
    → slice_set (slice_set units end d) (end + 1) e ≡ take end units ++ d ∷ e ∷ [] ++ drop (end + 2) units
put_two units end d e h =
    let second : slice_set (slice_set units end d) (end + 1) e ≡ take (end + 1) (slice_set units end d) ++ e ∷ []
    ++ drop (end + 1 + 1) (slice_set units end d) = put_one (slice_set units end d) (end + 1) e
    (simp length-set (omega arith)) in
    let before : take (end + 1) (slice_set units end d) ≡ take end units ++ d ∷ [] = take_more_set units end d
    (omega arith) in
    let following : drop (end + 1 + 1) (slice_set units end d) ≡ drop (end + 1 + 1) units = drop-set-lt (end + 1 + 1)
    units end d (omega arith) in
    let place : end + 1 + 1 ≡ end + 2 = omega arith in
    second ∙ rw (before, following, place, append_assoc (take end units) (d ∷ []) (e ∷ []))

-- a long is written as two, anything else as one
pub two_entries : (v : Value) → units_of v ≡ 2 → argument_entries (v ∷ []) ≡ Holds v ∷ UpperHalf ∷ []
two_entries (Int z) is = absurd (omega arith)
two_entries (Long z) is = refl
two_entries (Ref r) is = absurd (omega arith)

pub one_entry : (v : Value) → (units_of v ≡ 2 → ⊥) → (argument_entries (v ∷ []) ≡ Holds v ∷ []) × (units_of v ≡ 1)
one_entry (Int z) is = (refl, refl)
one_entry (Long z) is = absurd (is refl)
one_entry (Ref r) is = (refl, refl)

pub length-argument_entries : (vs : List Value) → length (argument_entries vs) ≡ units_of_all vs
length-argument_entries [] = refl
length-argument_entries (Int z ∷ vs) = let rest = length-argument_entries vs in omega arith
length-argument_entries (Long z ∷ vs) = let rest = length-argument_entries vs in omega arith
length-argument_entries (Ref r ∷ vs) = let rest = length-argument_entries vs in omega arith

pub argument_entries-append : (vs ws : List Value) → argument_entries (vs ++ ws) ≡ argument_entries vs
    ++ argument_entries ws
argument_entries-append [] ws = refl
argument_entries-append (Int z ∷ vs) ws = ap (λ (es : List Entry). Holds (Int z) ∷ es) (argument_entries-append vs ws)
argument_entries-append (Long z ∷ vs) ws = ap (λ (es : List Entry). Holds (Long z) ∷ UpperHalf ∷ es)
    (argument_entries-append vs ws)
argument_entries-append (Ref r ∷ vs) ws = ap (λ (es : List Entry). Holds (Ref r) ∷ es) (argument_entries-append vs ws)

pub units_of_all-append : (vs ws : List Value) → units_of_all (vs ++ ws) ≡ units_of_all vs + units_of_all ws
units_of_all-append [] ws = omega arith
units_of_all-append (v ∷ vs) ws = let rest = units_of_all-append vs ws in omega arith

-- one value more between units
pub values_between-more : (units : List Entry) (from i : ℕ) → from + i < length units
    → values_between units from (i + 1) ≡ values_between units from i ++ value_in (get_or units (from + i) Unset) ∷ []
values_between-more units from i h =
    let more : take (i + 1) (drop from units) ≡ take i (drop from units) ++ get_or (drop from units) i Unset
    ∷ [] = take_more (drop from units) i Unset (omega (arith, length-drop from units)) in
    rw (more, get_or-drop) (map_push value_in (take i (drop from units)) (get_or units (from + i) Unset))

pub units_between_le : (units : List Entry) (from i count : ℕ) → i ≤ count
    → units_of_all (values_between units from i) ≤ units_of_all (values_between units from count)
units_between_le units from i count h =
    let part : take i (values_between units from count) ≡ values_between units from i = take-map value_in i
    (take count (drop from units)) ∙ ap (map value_in) (take-take i count (drop from units) h) in
    let le = units_of_all-take_le (values_between units from count) i in
    omega (arith, ap units_of_all part)

-- so far the first i values have been copied
pub record Copied (old : List Entry) (from base i : ℕ) (now : List Entry) (end : ℕ) : Type 0 where
  pub items : now ≡ take base old ++ argument_entries (values_between old from i) ++ drop end old
  pub end_is : end ≡ base + units_of_all (values_between old from i)

pub value_next : (old : List Entry) (from base i : ℕ) (now : List Entry) (end : ℕ) (e : Entry)
    → Copied old from base i now end → from + i < base → base ≤ length old → e ≡ get_or now (from + i) Unset
    → value_in e ≡ value_in (get_or old (from + i) Unset)
value_next old from base i now end e copied before fits read =
    let first : length (take base old) ≡ base = length-take-le base old fits in
    let split : now ≡ take base old ++ (argument_entries (values_between old from i) ++ drop end old) = copied.items
    ∙ append_assoc (take base old) (argument_entries (values_between old from i)) (drop end old) in
    let left : get_or now (from + i) Unset ≡ get_or (take base old) (from + i) Unset = ap
    (λ (es : List Entry). get_or es (from + i) Unset) split
    ∙ get_or_append_left (take base old) (argument_entries (values_between old from i) ++ drop end old) Unset
    (from + i) (omega arith) in
    ap value_in (read ∙ (left ∙ get_or-take base old (from + i) Unset before))

pub copied_next : (old : List Entry) (from base i : ℕ) (now after : List Entry) (end : ℕ) (v : Value)
    → Copied old from base i now end → from + i < base → base ≤ length old → end ≤ length old
    → v ≡ value_in (get_or old (from + i) Unset) → after ≡ take end now ++ argument_entries (v ∷ [])
    ++ drop (end + units_of v) now → Copied old from base (i + 1) after (end + units_of v)
copied_next old from base i now after end v copied before fits inside value put =
    let entries = argument_entries (values_between old from i) in
    let first : length (take base old) ≡ base = length-take-le base old fits in
    let count : length entries ≡ units_of_all (values_between old from i) = length-argument_entries
    (values_between old from i) in
    let end_is = copied.end_is in
    let both : length (take base old ++ entries) ≡ end = omega (arith, length-append (take base old) entries) in
    let head : take end now ≡ take base old ++ entries = ap (take end) copied.items
    ∙ take_at (take base old ++ entries) (drop end old) end both in
    let tail : drop (end + units_of v) now ≡ drop (end + units_of v) old = ap (drop (end + units_of v)) copied.items
    ∙ (sym (drop-drop (units_of v) end (take base old ++ entries ++ drop end old))
    ∙ (ap (drop (units_of v)) (drop_at (take base old ++ entries) (drop end old) end both)
    ∙ drop-drop (units_of v) end old)) in
    let more : values_between old from (i + 1) ≡ values_between old from i ++ v ∷ [] = values_between-more old from i
    (omega arith) ∙ ap (λ (w : Value). values_between old from i ++ w ∷ []) (sym value) in
    let all : argument_entries (values_between old from (i + 1)) ≡ entries
    ++ argument_entries (v ∷ []) = ap argument_entries more ∙ argument_entries-append (values_between old from i)
    (v ∷ []) in
    let units : units_of_all (values_between old from (i + 1)) ≡ units_of_all (values_between old from i) + units_of_all
    (v ∷ []) = ap units_of_all more ∙ units_of_all-append (values_between old from i) (v ∷ []) in
    record {
      items = put ∙ rw (head, tail, all, append_assoc (take base old) entries (argument_entries (v ∷ [])));
      end_is = omega arith;
    }

-- there is room for the next value
pub room_for_copy : (old : List Entry) (from base i count end : ℕ) (v : Value)
    → base + units_of_all (values_between old from count) ≤ length old → i < count → from + i < length old
    → end ≡ base + units_of_all (values_between old from i) → v ≡ value_in (get_or old (from + i) Unset)
    → end + units_of v ≤ length old
room_for_copy old from base i count end v fits within before end_is value =
    let more : values_between old from (i + 1) ≡ values_between old from i ++ v ∷ [] = values_between-more old from i
    before ∙ ap (λ (w : Value). values_between old from i ++ w ∷ []) (sym value) in
    let units : units_of_all (values_between old from (i + 1)) ≡ units_of_all (values_between old from i) + units_of_all
    (v ∷ []) = ap units_of_all more ∙ units_of_all-append (values_between old from i) (v ∷ []) in
    let le = units_between_le old from (i + 1) count (omega arith) in
    omega arith

-- ---- the locals of a call

pub record LaidOut (old now : List Entry) (from count base locals : ℕ) : Type 0 where
  pub long : length now ≡ length old
  pub same : take base old ≡ take base now
  pub locals_are : take locals (drop base now) ≡ argument_entries (values_between old from count)
      ++ replicate (locals - units_of_all (values_between old from count)) Unset

pub laid_out : (old now : List Entry) (from count base locals : ℕ) → base + locals ≤ length old
    → units_of_all (values_between old from count) ≤ locals → now ≡ take base old
    ++ (argument_entries (values_between old from count)
    ++ replicate (locals - units_of_all (values_between old from count)) Unset) ++ drop (base + locals) old
    → LaidOut old now from count base locals
laid_out old now from count base locals fits enough is =
    let vs = values_between old from count in
    let entries = argument_entries vs ++ replicate (locals - units_of_all vs) Unset in
    let first : length (take base old) ≡ base = length-take-le base old (omega arith) in
    let second : length entries
    ≡ locals = omega (
      arith,
      length-append (argument_entries vs) (replicate (locals - units_of_all vs) Unset),
      length-argument_entries vs,
      length-replicate (locals - units_of_all vs) Unset,
    ) in
    let rest : length (drop (base + locals) old) ≡ length old - (base + locals) = length-drop (base + locals) old in
    let split : now ≡ take base old ++ (entries ++ drop (base + locals) old) = is
    ∙ append_assoc (take base old) entries (drop (base + locals) old) in
    let all : length now ≡ length (take base old) + length (entries ++ drop (base + locals) old) = ap length split
    ∙ length-append (take base old) (entries ++ drop (base + locals) old) in
    let some = length-append entries (drop (base + locals) old) in
    record {
      long = omega arith;
      same = rw (split, take_at (take base old) (entries ++ drop (base + locals) old) base first);
      locals_are = rw (
        split,
        drop_at (take base old) (entries ++ drop (base + locals) old) base first,
        take_at entries (drop (base + locals) old) locals second,
      );
    }

-- one unit more is made unset
pub unset_next : (old now : List Entry) (base made : ℕ) → now ≡ take base old ++ replicate made Unset
    ++ drop (base + made) old → length now ≡ length old → base + made < length old
    → slice_set now (base + made) Unset ≡ take base old ++ replicate (made + 1) Unset ++ drop (base + (made + 1)) old
unset_next old now base made is long within =
    let place = base + made in
    let first : length (take base old) ≡ base = length-take-le base old (omega arith) in
    let front = take base old ++ replicate made Unset in
    let both : length front ≡ place = omega (
      arith,
      length-append (take base old) (replicate made Unset),
      length-replicate made Unset,
    ) in
    let head : take place now ≡ front = ap (take place) is ∙ take_at front (drop place old) place both in
    let tail : drop (place + 1) now ≡ drop (place + 1) old = ap (drop (place + 1)) is
    ∙ (sym (drop-drop 1 place (front ++ drop place old))
    ∙ (ap (drop 1) (drop_at front (drop place old) place both) ∙ drop-drop 1 place old)) in
    let more : replicate made Unset ++ Unset ∷ [] ≡ replicate (made + 1) Unset = replicate-append-replicate made 1 Unset
    in
    let next : place + 1 ≡ base + (made + 1) = omega arith in
    let whole : front ++ Unset ∷ [] ≡ take base old ++ replicate (made + 1) Unset =
    append_assoc (take base old) (replicate made Unset) (Unset ∷ []) ∙ ap (λ es. take base old ++ es) more in
    put_one now place Unset (omega arith) ∙ ap (λ es. es ++ Unset ∷ [] ++ drop (place + 1) now) head
    ∙ ap (λ es. front ++ Unset ∷ [] ++ es) tail ∙ ap (λ es. es ++ drop (place + 1) old) whole
    ∙ ap (λ n. take base old ++ replicate (made + 1) Unset ++ drop n old) next

-- the copied arguments, and then the unset entries
pub laid_out_items : (old between after : List Entry) (from count base locals end : ℕ) → base + locals ≤ length old
    → units_of_all (values_between old from count) ≤ locals → end ≡ base + units_of_all (values_between old from count)
    → between ≡ take base old ++ argument_entries (values_between old from count)
    ++ drop (base + units_of_all (values_between old from count)) old → after ≡ take end between
    ++ replicate (base + locals - end) Unset ++ drop (end + (base + locals - end)) between → after ≡ take base old
    ++ (argument_entries (values_between old from count)
    ++ replicate (locals - units_of_all (values_between old from count)) Unset) ++ drop (base + locals) old
laid_out_items old between after from count base locals end fits enough end_is copied is =
    let vs = values_between old from count in
    let entries = argument_entries vs in
    let first : length (take base old) ≡ base = length-take-le base old (omega arith) in
    let both : length (take base old ++ entries) ≡ end = omega (
      arith,
      length-append (take base old) entries,
      length-argument_entries vs,
    ) in
    let copy : between ≡ take base old ++ entries ++ drop end old = copied
    ∙ ap (λ (n : ℕ). take base old ++ entries ++ drop n old) (sym end_is) in
    let head : take end between ≡ take base old ++ entries = ap (take end) copy
    ∙ take_at (take base old ++ entries) (drop end old) end both in
    let many : base + locals - end ≡ locals - units_of_all vs = omega arith in
    let sum : end + (base + locals - end) ≡ end + (locals - units_of_all vs) = ap (λ (n : ℕ). end + n) many in
    let whole : end + (locals - units_of_all vs) ≡ base + locals = omega arith in
    let tail : drop (end + (locals - units_of_all vs)) between
    ≡ drop (base + locals) old = ap (drop (end + (locals - units_of_all vs))) copy
    ∙ (sym (drop-drop (locals - units_of_all vs) end (take base old ++ entries ++ drop end old))
    ∙ (ap (drop (locals - units_of_all vs)) (drop_at (take base old ++ entries) (drop end old) end both)
    ∙ (drop-drop (locals - units_of_all vs) end old ∙ ap (λ (n : ℕ). drop n old) whole))) in
    is ∙ rw (many, head, tail, append_assoc (take base old) entries (replicate (locals - units_of_all vs) Unset))

-- ---- the arguments on a stack are those in its last units

pub stack_of-between : (units : List Entry) (base n : ℕ) → base + n ≤ length units → stack_of units base n
    ≡ reverse (values_between units base n)
stack_of-between units base zero h = refl
stack_of-between units base (suc n) h =
    let more : values_between units base (suc n) ≡ values_between units base n
    ++ value_in (get_or units (base + n) Unset)
    ∷ [] = rw (← add-one) (values_between-more units base n (omega arith)) in
    rw (more, reverse-append) (ap (λ (vs : List Value). value_in (get_or units (base + n) Unset) ∷ vs)
    (stack_of-between units base n (omega arith)))

pub take-stack_of : (units : List Entry) (base n k : ℕ) → k ≤ n → take k (stack_of units base n)
    ≡ stack_of units (base + (n - k)) k
take-stack_of units base n zero h = refl
take-stack_of units base zero (suc k) h = absurd (omega arith)
take-stack_of units base (suc n) (suc k) h =
    let rest = take-stack_of units base n k (omega arith) in
    let less : suc n - suc k ≡ n - k = omega arith in
    let place : base + (n - k) + k ≡ base + n = omega arith in
    let kept : take (suc k) (stack_of units base (suc n)) ≡ stack_of units (base + (n - k)) (suc k) = rw (rest, place)
    in
    kept ∙ ap (λ (m : ℕ). stack_of units (base + m) (suc k)) (sym less)

pub arguments-between : (units : List Entry) (base n k : ℕ) → k ≤ n → base + n ≤ length units
    → reverse (take k (stack_of units base n)) ≡ values_between units (base + (n - k)) k
arguments-between units base n k h fits = ap reverse (take-stack_of units base n k h
    ∙ stack_of-between units (base + (n - k)) k (omega arith))
    ∙ reverse-reverse (values_between units (base + (n - k)) k)

pub units_of_all-reverse : (vs : List Value) → units_of_all (reverse vs) ≡ units_of_all vs
units_of_all-reverse [] = refl
units_of_all-reverse (v ∷ vs) =
    let rest = units_of_all-reverse vs in
    let all = units_of_all-append (reverse vs) (v ∷ []) in
    let split : reverse (v ∷ vs) ≡ reverse vs ++ v ∷ [] = reverse-append (v ∷ []) vs in
    ap units_of_all split ∙ omega arith

-- ---- values of kinds

-- so many values take no more than two units each
pub units_between-most : (units : List Entry) (from i : ℕ) → units_of_all (values_between units from i) ≤ i + i
units_between-most units from i = most (drop from units) i
  where
    most : (es : List Entry) (i : ℕ) → units_of_all (map value_in (take i es)) ≤ i + i
    most es zero = omega arith
    most [] (suc i) = omega arith
    most (e ∷ es) (suc i) =
        let rest = most es i in
        let one = units_of-le (value_in e) in
        omega (arith, rest, one)

-- nothing was copied yet but the values below
pub kinds_next : (old : List Entry) (from below i : ℕ) (kinds : List Kind) (kind : Kind) (v : Value) → i < length kinds
    → from + (below + i) < length old → kind ≡ get_or kinds i IntKind
    → v ≡ value_in (get_or old (from + (below + i)) Unset) → result_err (of_kind kind v) ≡ None
    → fault_in_pops (reverse (take i kinds)) (reverse (values_between old (from + below) i)) ≡ None
    → fault_in_pops (reverse (take (i + 1) kinds)) (reverse (values_between old (from + below) (i + 1))) ≡ None
kinds_next old from below i kinds kind v within before kind_is value fits rest =
    let place : from + (below + i) ≡ from + below + i = omega arith in
    let more : values_between old (from + below) (i + 1) ≡ values_between old (from + below) i ++ v ∷ [] =
    values_between-more old (from + below) i (omega arith)
    ∙ ap (λ (w : Value). values_between old (from + below) i ++ w ∷ [])
    (sym (value ∙ ap (λ n. value_in (get_or old n Unset)) place)) in
    let kinds_are : take (i + 1) kinds ≡ take i kinds ++ kind ∷ [] = take_more kinds i IntKind within
    ∙ ap (λ (k : Kind). take i kinds ++ k ∷ []) (sym kind_is) in
    let first : reverse (take (i + 1) kinds) ≡ kind ∷ reverse (take i kinds) = ap reverse kinds_are
    ∙ reverse-append (take i kinds) (kind ∷ []) in
    let second : reverse (values_between old (from + below) (i + 1)) ≡ v ∷ reverse (values_between old (from + below) i)
    = ap reverse more ∙ reverse-append (values_between old (from + below) i) (v ∷ []) in
    ap (λ ks. fault_in_pops ks (reverse (values_between old (from + below) (i + 1)))) first
    ∙ ap (λ vs. fault_in_pops (kind ∷ reverse (take i kinds)) vs) second
    ∙ ap (λ e. option_or e (fault_in_pops (reverse (take i kinds)) (reverse (values_between old (from + below) i))))
    fits
    ∙ rest

-- the pops look at so many values alone
pub pops-taken : (kinds : List Kind) (n : ℕ) (stack : List Value) → length kinds ≤ n
    → fault_in_pops kinds (take n stack) ≡ fault_in_pops kinds stack
pops-taken [] n stack few = refl
pops-taken (kind ∷ kinds) zero stack few = absurd (omega arith)
pops-taken (kind ∷ kinds) (suc n) [] few = refl
pops-taken (kind ∷ kinds) (suc n) (v ∷ vs) few =
    ap (λ e. option_or (result_err (of_kind kind v)) e) (pops-taken kinds n vs (omega arith))
