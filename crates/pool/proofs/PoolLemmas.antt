-- The pool that is read is the pool that was written, and what was written is read again.
use Rattle.std.proofs.Common.{◌≡◌, ℕ, zero, suc, ◌+◌, ◌-◌, ◌^◌, ◌<◌, ◌≤◌, Bool, true, false, cond, eqb, List, [], ◌∷◌}
use Rattle.std.proofs.Common.{◌++◌, Option, Some, None, Result, Ok, Err, refl, sym, ap, subst, ◌∙◌, append_assoc, arith}
use Rattle.std.proofs.Common.{w16, Bor, length}
use Rattle.std.specs.Prelude.{sum_by, IfOk}
use Rattle.std.specs.List.{flat_map, AllByRecursion}
use Rattle.std.proofs.lemmas.Bool.{eqb-false, ne_eqb}
use Rattle.std.proofs.lemmas.List.Sums.{sum_by-cons}
use Rattle.model.specs.ClassFiles.Numbers.{u2}
use Rattle.model.specs.ClassFiles.Entries.{entry_bytes, numbers_of, EntryFits}
use Rattle.model.specs.ClassFiles.Pools.{under, slots_of, pool_count, pool_bytes, PoolFits}
use Rattle.model.specs.ClassFiles.References.{entry_fault, or_else, first_fault, AreSound}
use Rattle.model.specs.declared.class_files.Entry.{Entry}
use Rattle.model.specs.declared.class_files.Entry.TheVariants.{Utf8, Integer, Long, Class, Fieldref, Methodref}
use Rattle.model.specs.declared.class_files.Entry.TheVariants.{InterfaceMethodref, NameAndType}
use Rattle.model.specs.declared.class_files.FormatFault.{FormatFault}
use Rattle.model.specs.declared.class_files.FormatFault.TheVariants.{Index}
use Rattle.pool.specs.Slots.{entries_in, AreSlots}
use Rattle.pool.specs.Reading.Steps.{◌>>=◌, Gives, number_at}
use Rattle.pool.specs.declared.error.ReadError.{ReadError}
use Rattle.pool.specs.Reading.Entries.{entry_from}
use Rattle.pool.specs.Reading.Pools.{is_long, slots_from, slots_after, entries_from, unless, pool_from}
use Rattle.pool.proofs.Steps.{bind_ok, guard_ok, ok_is}
use Rattle.pool.proofs.SlotLoops.{Slots}
use Rattle.pool.proofs.FieldLemmas.{IsBytes, Takes, Takes-then, Takes-nothing, wide16, number_takes, number_again}
use Rattle.pool.proofs.EntryLemmas.{entry_takes, entry_again}

-- ---- slots

pub entries_in-slots_of : (es : List Entry) → entries_in (slots_of es) ≡ es
entries_in-slots_of [] = refl
entries_in-slots_of (Utf8 text ∷ es) = ap (λ (xs : List Entry). Utf8 text ∷ xs) (entries_in-slots_of es)
entries_in-slots_of (Integer z ∷ es) = ap (λ (xs : List Entry). Integer z ∷ xs) (entries_in-slots_of es)
entries_in-slots_of (Long z ∷ es) = ap (λ (xs : List Entry). Long z ∷ xs) (entries_in-slots_of es)
entries_in-slots_of (Class name ∷ es) = ap (λ (xs : List Entry). Class name ∷ xs) (entries_in-slots_of es)
entries_in-slots_of (Fieldref class member ∷ es) = ap (λ (xs : List Entry). Fieldref class member ∷ xs)
    (entries_in-slots_of es)
entries_in-slots_of (Methodref class member ∷ es) = ap (λ (xs : List Entry). Methodref class member ∷ xs)
    (entries_in-slots_of es)
entries_in-slots_of (InterfaceMethodref class member ∷ es) = ap (λ (xs : List Entry). InterfaceMethodref class member
    ∷ xs) (entries_in-slots_of es)
entries_in-slots_of (NameAndType name descriptor ∷ es) = ap (λ (xs : List Entry). NameAndType name descriptor ∷ xs)
    (entries_in-slots_of es)

-- these slots were read for so many numbers
pub record Read (n : ℕ) (bytes : List ℕ) (slots : Slots) (rest : List ℕ) : Type 0 where
  pub slots_are : slots ≡ slots_of (entries_in slots)
  pub takes : Takes bytes (flat_map entry_bytes (entries_in slots)) rest
  pub fits : AllByRecursion EntryFits (entries_in slots)
  pub numbers : sum_by numbers_of (entries_in slots) ≡ n

-- the same, where the first number may be the second of a long
abbrev Follows : Bool → ℕ → List ℕ → Slots × List ℕ → Type 0
Follows false n bytes x = Read n bytes x.0 x.1
Follows true n bytes x = 1 ≤ n → (slots : Slots) × (x.0 ≡ None ∷ slots) × Read (n - 1) bytes slots x.1

read_one : (e : Entry) (n : ℕ) (bytes after : List ℕ) (slots : Slots) (rest : List ℕ) → numbers_of e ≡ 1
    → ((s : Slots) → under e s ≡ Some e ∷ s)
    → Takes bytes (entry_bytes e) after → EntryFits e → Read n after slots rest
    → Read (suc n) bytes (Some e ∷ slots) rest
read_one e n bytes after slots rest one alone t fits r = record {
  slots_are = ap (λ (s : Slots). Some e ∷ s) r.slots_are ∙ sym (alone (slots_of (entries_in slots)));
  takes = Takes-then bytes (entry_bytes e) after (flat_map entry_bytes (entries_in slots)) rest t r.takes;
  fits = (fits, r.fits);
  numbers = omega (arith, sum_by-cons numbers_of e (entries_in slots), r.numbers);
}

read_long : (z : _) (n : ℕ) (bytes after : List ℕ) (x : Slots × List ℕ) → 2 ≤ suc n
    → Takes bytes (entry_bytes (Long z)) after → EntryFits (Long z) → Follows true n after x
    → Read (suc n) bytes (Some (Long z) ∷ x.0) x.1
read_long z n bytes after x enough t fits f =
    let g = f (omega arith) in
    let r = g.2 in
    let e = sum_by-cons numbers_of (Long z) (entries_in g.0) in
    let made : Read (suc n) bytes (Some (Long z) ∷ None ∷ g.0) x.1 = record {
      slots_are = ap (λ (s : Slots). Some (Long z) ∷ None ∷ s) r.slots_are;
      takes = Takes-then bytes (entry_bytes (Long z)) after (flat_map entry_bytes (entries_in g.0)) x.1 t r.takes;
      fits = (fits, r.fits);
      numbers = omega (arith, e, r.numbers);
    } in
    subst (λ (s : Slots). Read (suc n) bytes (Some (Long z) ∷ s) x.1) (sym g.1) made

joined : (e : Entry) (n : ℕ) (bytes after : List ℕ) (x : Slots × List ℕ) → Takes bytes (entry_bytes e) after
    → EntryFits e → numbers_of e ≤ suc n → Follows (is_long e) n after x → Read (suc n) bytes (Some e ∷ x.0) x.1
joined (Utf8 text) n bytes after x t fits enough f = read_one (Utf8 text) n bytes after x.0 x.1 refl (λ s. refl) t fits
    f
joined (Integer z) n bytes after x t fits enough f = read_one (Integer z) n bytes after x.0 x.1 refl (λ s. refl) t fits
    f
joined (Long z) n bytes after x t fits enough f = read_long z n bytes after x enough t fits f
joined (Class name) n bytes after x t fits enough f = read_one (Class name) n bytes after x.0 x.1 refl (λ s. refl) t
    fits f
joined (Fieldref class member) n bytes after x t fits enough f = read_one (Fieldref class member) n bytes after x.0 x.1
    refl (λ s. refl) t fits f
joined (Methodref class member) n bytes after x t fits enough f = read_one (Methodref class member) n bytes after x.0
    x.1 refl (λ s. refl) t fits f
joined (InterfaceMethodref class member) n bytes after x t fits enough f = read_one (InterfaceMethodref class member) n
    bytes after x.0 x.1 refl (λ s. refl) t fits f
joined (NameAndType name descriptor) n bytes after x t fits enough f = read_one (NameAndType name descriptor) n bytes
    after x.0 x.1 refl (λ s. refl) t fits f

follows : (second : Bool) (n : ℕ) (bytes : List ℕ) (x : Slots × List ℕ) → IsBytes bytes → slots_from second n bytes
    ≡ Ok x → Follows second n bytes x
unfolding slots_from
follows false zero bytes x fits e =
    subst (λ (y : Slots × List ℕ). Read 0 bytes y.0 y.1) (ok_is ([], bytes) x e) (record {
      slots_are = refl;
      takes = Takes-nothing bytes fits;
      fits = tt;
      numbers = refl;
    })
follows true zero bytes x fits e = λ some. absurd (omega arith)
follows true (suc n) bytes x fits e = λ some.
    let b = bind_ok (slots_from false n bytes) (λ others. Ok (None ∷ others.0, others.1)) x e in
    let r : Read n bytes b.0.0 b.0.1 = follows false n bytes b.0 fits b.1 in
    let k : n ≡ suc n - 1 = omega arith in
    let made : Slots × List ℕ = (None ∷ b.0.0, b.0.1) in
    subst (λ (y : Slots × List ℕ). (slots : Slots) × (y.0 ≡ None ∷ slots) × Read (suc n - 1) bytes slots y.1)
    (ok_is made x b.2) (b.0.0, refl, subst (λ m. Read m bytes b.0.0 b.0.1) k r)
follows false (suc n) bytes x fits e =
    let a = bind_ok (entry_from (suc n) bytes) (λ first. slots_from (is_long first.0) n first.1
    >>= λ others. Ok (Some first.0 ∷ others.0, others.1)) x e in
    let b = bind_ok (slots_from (is_long a.0.0) n a.0.1) (λ others. Ok (Some a.0.0 ∷ others.0, others.1)) x a.2 in
    let t = entry_takes (suc n) bytes a.0 (omega arith) fits a.1 in
    let f = follows (is_long a.0.0) n a.0.1 b.0 t.0.rest_fits b.1 in
    let made : Slots × List ℕ = (Some a.0.0 ∷ b.0.0, b.0.1) in
    subst (λ (y : Slots × List ℕ). Read (suc n) bytes y.0 y.1) (ok_is made x b.2)
    (joined a.0.0 n bytes a.0.1 b.0 t.0 t.1 t.2 f)

pub slots_read : (n : ℕ) (bytes : List ℕ) (x : Slots × List ℕ) → IsBytes bytes → slots_from false n bytes ≡ Ok x
    → Read n bytes x.0 x.1
slots_read n bytes x fits e = follows false n bytes x fits e

again_one : (e : Entry) (k : ℕ) (after : List ℕ) (slots : Slots) (rest : List ℕ) → numbers_of e ≡ 1 → is_long e ≡ false
    → EntryFits e
    → slots_from false k after ≡ Ok (slots, rest) → slots_from false (1 + k) (entry_bytes e ++ after)
    ≡ Ok (Some e ∷ slots, rest)
unfolding slots_from
again_one e k after slots rest one short fits h =
    let p : 1 + k ≡ suc k = omega arith in
    ap (λ m. slots_from false m (entry_bytes e ++ after)) p ∙ rw (
      entry_again (suc k) e after fits (omega arith),
      short,
      h,
    ) refl

again_long : (z : _) (k : ℕ) (after : List ℕ) (slots : Slots) (rest : List ℕ) → EntryFits (Long z)
    → slots_from false k after ≡ Ok (slots, rest) → slots_from false (2 + k) (entry_bytes (Long z) ++ after)
    ≡ Ok (Some (Long z) ∷ None ∷ slots, rest)
unfolding slots_from
again_long z k after slots rest fits h =
    let p : 2 + k ≡ suc (suc k) = omega arith in
    ap (λ m. slots_from false m (entry_bytes (Long z) ++ after)) p
    ∙ rw (entry_again (suc (suc k)) (Long z) after fits (omega arith), h) refl

again_cons : (e : Entry) (k : ℕ) (after : List ℕ) (slots : Slots) (rest : List ℕ) → EntryFits e
    → slots_from false k after ≡ Ok (slots, rest) → slots_from false (numbers_of e + k) (entry_bytes e ++ after)
    ≡ Ok (under e slots, rest)
again_cons (Utf8 text) k after slots rest fits h = again_one (Utf8 text) k after slots rest refl refl fits h
again_cons (Integer z) k after slots rest fits h = again_one (Integer z) k after slots rest refl refl fits h
again_cons (Long z) k after slots rest fits h = again_long z k after slots rest fits h
again_cons (Class name) k after slots rest fits h = again_one (Class name) k after slots rest refl refl fits h
again_cons (Fieldref class member) k after slots rest fits h = again_one (Fieldref class member) k after slots rest refl
    refl fits h
again_cons (Methodref class member) k after slots rest fits h = again_one (Methodref class member) k after slots rest
    refl refl fits h
again_cons (InterfaceMethodref class member) k after slots rest fits h = again_one (InterfaceMethodref class member) k
    after slots rest refl refl fits h
again_cons (NameAndType name descriptor) k after slots rest fits h = again_one (NameAndType name descriptor) k after
    slots rest refl refl fits h

slots_again : (es : List Entry) (rest : List ℕ) → AllByRecursion EntryFits es
    → slots_from false (sum_by numbers_of es) (flat_map entry_bytes es ++ rest) ≡ Ok (slots_of es, rest)
unfolding slots_from
slots_again [] rest fits = refl
slots_again (e ∷ es) rest fits =
    rw (sum_by-cons numbers_of e es, append_assoc (entry_bytes e) (flat_map entry_bytes es) rest)
    (again_cons e (sum_by numbers_of es) (flat_map entry_bytes es ++ rest) (slots_of es) rest fits.0
    (slots_again es rest fits.1))

-- ---- entries after their count

abbrev counted : ℕ → List ℕ → Result (Slots × List ℕ) FormatFault
counted count bytes = cond (eqb count 0) (Err Index) (slots_from false (count - 1) bytes)

pub entries_take : (bytes : List ℕ) (x : List Entry × List ℕ) → IsBytes bytes → entries_from bytes ≡ Ok x
    → Takes bytes (pool_bytes x.0) x.1 × PoolFits x.0
unfolding entries_from
entries_take bytes x fits e =
    let a = bind_ok (number_at w16 bytes) (λ count. counted count.0 count.1 >>= λ slots. Ok (
      entries_in slots.0,
      slots.1,
    )) x e in
    let b = bind_ok (counted a.0.0 a.0.1) (λ slots. Ok (entries_in slots.0, slots.1)) x a.2 in
    let g = guard_ok (eqb a.0.0 0) Index (slots_from false (a.0.0 - 1) a.0.1) b.0 b.1 in
    let some = eqb-false a.0.0 0 g.0 in
    let t = number_takes w16 wide16 bytes a.0.0 a.0.1 fits a.1 in
    let r = slots_read (a.0.0 - 1) a.0.1 b.0 t.0.rest_fits g.1 in
    let count : pool_count (entries_in b.0.0) ≡ a.0.0 = omega (arith, r.numbers, some) in
    let both = Takes-then bytes (u2 a.0.0) a.0.1 (flat_map entry_bytes (entries_in b.0.0)) b.0.1 t.0 r.takes in
    let whole : Takes bytes (pool_bytes (entries_in b.0.0)) b.0.1 = subst
    (λ k. Takes bytes (u2 k ++ flat_map entry_bytes (entries_in b.0.0)) b.0.1) (sym count) both in
    let made : List Entry × List ℕ = (entries_in b.0.0, b.0.1) in
    subst (λ (y : List Entry × List ℕ). Takes bytes (pool_bytes y.0) y.1 × PoolFits y.0) (ok_is made x b.2) (
      whole,
      (omega (arith, count, t.1), r.fits),
    )

pub entries_again : (es : List Entry) (rest : List ℕ) → PoolFits es → entries_from (pool_bytes es ++ rest)
    ≡ Ok (es, rest)
unfolding entries_from
entries_again es rest fits =
    let n = sum_by numbers_of es in
    let body = flat_map entry_bytes es ++ rest in
    let regrouped : pool_bytes es ++ rest ≡ u2 (pool_count es) ++ body = append_assoc (u2 (pool_count es))
    (flat_map entry_bytes es) rest in
    let some : eqb (1 + n) 0 ≡ false = ne_eqb _ _ (omega arith) in
    let less : (1 + n) - 1 ≡ n = omega arith in
    let read : counted (1 + n) body ≡ Ok (slots_of es, rest) = rw some refl ∙ ap (λ m. slots_from false m body) less
    ∙ slots_again es rest fits.1 in
    ap entries_from regrouped ∙ rw (number_again w16 wide16 (pool_count es) body fits.0, read, entries_in-slots_of es)
    refl

-- ---- pools

neither : (a b : Option FormatFault) → or_else a b ≡ None → (a ≡ None) × (b ≡ None)
neither None b h = (refl, h)
neither (Some fault) b h = absurd cc

pub sound_from : (pool es : List Entry) → first_fault pool es ≡ None
    → AllByRecursion (λ e. entry_fault pool e ≡ None) es
sound_from pool [] h = tt
sound_from pool (e ∷ es) h = let p = neither (entry_fault pool e) (first_fault pool es) h
    in (p.0, sound_from pool es p.1)

pub faultless : (pool es : List Entry) → AllByRecursion (λ e. entry_fault pool e ≡ None) es → first_fault pool es ≡ None
faultless pool [] h = refl
faultless pool (e ∷ es) h = rw h.0 (faultless pool es h.1)

pub unless_ok : {A : Type 0} (fault : Option FormatFault) (x y : A) → unless fault x ≡ Ok y → (fault ≡ None) × (x ≡ y)
unless_ok None x y e = (refl, ok_is x y e)
unless_ok (Some fault) x y e = absurd cc

pub pool_takes : (bytes : List ℕ) (x : List Entry × List ℕ) → IsBytes bytes → pool_from bytes ≡ Ok x
    → Takes bytes (pool_bytes x.0) x.1 × PoolFits x.0 × AreSound x.0
unfolding pool_from
pool_takes bytes x fits e =
    let b = bind_ok (entries_from bytes) (λ pool. unless (first_fault pool.0 pool.0) pool) x e in
    let u = unless_ok (first_fault b.0.0 b.0.0) b.0 x b.2 in
    let t = entries_take bytes b.0 fits b.1 in
    subst (λ (y : List Entry × List ℕ). Takes bytes (pool_bytes y.0) y.1 × PoolFits y.0 × AreSound y.0) u.1 (
      t.0,
      t.1,
      sound_from b.0.0 b.0.0 u.0,
    )

pub pool_again : (es : List Entry) (rest : List ℕ) → PoolFits es → AreSound es → pool_from (pool_bytes es ++ rest)
    ≡ Ok (es, rest)
unfolding pool_from
pool_again es rest fits sound = rw (entries_again es rest fits, faultless es es sound) refl

-- ---- what a loop has read is a pool

pub slots_of_read : (count : ℕ) (bytes : List ℕ) (slots : Slots) (rest : List ℕ) → IsBytes bytes
    → slots_after None (slots_from false (count - 1) bytes) ≡ Ok (slots, rest) → AreSlots slots
slots_of_read count bytes slots rest fits e =
    let b = bind_ok (slots_from false (count - 1) bytes) (λ x. Ok (None ∷ x.0, x.1)) (slots, rest) e in
    let r = slots_read (count - 1) bytes b.0 fits b.1 in
    let made : Slots × List ℕ = (None ∷ b.0.0, b.0.1) in
    subst (λ (y : Slots × List ℕ). AreSlots y.0) (ok_is made (slots, rest) b.2)
    (ap (λ (s : Slots). None ∷ s) r.slots_are)

pub slots_fit : (count : ℕ) (bytes : List ℕ) (slots : Slots) (rest : List ℕ) → count < 2 ^ 16 → 0 < count
    → IsBytes bytes → slots_after None (slots_from false (count - 1) bytes) ≡ Ok (slots, rest)
    → PoolFits (entries_in slots)
slots_fit count bytes slots rest small some fits e =
    let b = bind_ok (slots_from false (count - 1) bytes) (λ x. Ok (None ∷ x.0, x.1)) (slots, rest) e in
    let r = slots_read (count - 1) bytes b.0 fits b.1 in
    let made : Slots × List ℕ = (None ∷ b.0.0, b.0.1) in
    subst (λ (y : Slots × List ℕ). PoolFits (entries_in y.0)) (ok_is made (slots, rest) b.2) (
      omega (arith, r.numbers),
      r.fits,
    )

-- ---- what a reader found

pub is_found : (bytes : List ℕ) (r : Result (List Entry × Bor (List ℕ)) ReadError) → IsBytes bytes
    → Gives (λ x. (x.0, x.1.now)) r (pool_from bytes)
    → IfOk r (λ x. PoolFits x.0 × AreSound x.0 × (bytes ≡ pool_bytes x.0 ++ x.1.now))
is_found bytes (Ok x) fits given = let t = pool_takes bytes (x.0, x.1.now) fits given in (t.1, t.2, t.0.parts)
is_found bytes (Err e) fits given = tt

-- ---- how many numbers

under_more : (e : Entry) (slots : Slots) → length (under e slots) ≡ numbers_of e + length slots
under_more (Utf8 text) slots = omega arith
under_more (Integer z) slots = omega arith
under_more (Long z) slots = omega arith
under_more (Class name) slots = omega arith
under_more (Fieldref class member) slots = omega arith
under_more (Methodref class member) slots = omega arith
under_more (InterfaceMethodref class member) slots = omega arith
under_more (NameAndType name descriptor) slots = omega arith

length-slots_of : (es : List Entry) → length (slots_of es) ≡ sum_by numbers_of es
length-slots_of [] = refl
length-slots_of (e ∷ es) = omega (arith, under_more e (slots_of es), length-slots_of es, sum_by-cons numbers_of e es)

pub count_is : (slots : Slots) → AreSlots slots → length slots ≡ pool_count (entries_in slots)
count_is slots are = ap length are ∙ omega (arith, length-slots_of (entries_in slots))
