-- A builder's entries by their numbers.
use Rattle.std.proofs.Common.{◌≡◌, ℕ, suc, ◌+◌, Bool, true, false, List, [], ◌∷◌, ◌++◌, length, slice_get, Option, Some}
use Rattle.std.proofs.Common.{None, MatchOption, Result, Ok, Err, refl, sym, ap, subst, ◌∙◌, append_assoc, arith}
use Rattle.std.specs.Prelude.{sum_by, nat_le, IfOk}
use Rattle.std.specs.Map.{lookup, keys_of}
use Rattle.std.proofs.lemmas.List.Sums.{sum_by-cons, sum_by-append}
use Rattle.std.specs.List.{list_all, AllByRecursion}
use Rattle.std.proofs.lemmas.Bool.{and_from, le-leb}
use Rattle.std.proofs.lemmas.List.{append-nil}
use Rattle.model.specs.ClassFiles.Entries.{numbers_of, is_text_byte, EntryFits}
use Rattle.model.specs.ClassFiles.Pools.{under, slots_of, held, entry_at, pool_count, PoolFits}
use Rattle.model.specs.ClassFiles.References.{first_fault, AreSound}
use Rattle.model.specs.ClassFiles.Adding.{is_same, is_among, added}
use Rattle.model.specs.declared.class_files.Entry.{Entry}
use Rattle.model.specs.declared.class_files.Entry.TheVariants.{Utf8, Integer, Long, Class, Fieldref, Methodref}
use Rattle.model.specs.declared.class_files.Entry.TheVariants.{InterfaceMethodref, NameAndType}
use Rattle.pool.specs.Making.{has_bytes}
use Rattle.pool.specs.Numbering.{numbered}
use Rattle.pool.specs.Reading.Pools.{unless}
use Rattle.pool.specs.Reading.Steps.{Gives}
use Rattle.pool.specs.declared.error.ReadError.{ReadError}
use Rattle.pool.specs.Slots.{entries_in, AreSlots}
use Rattle.pool.proofs.PoolLemmas.{entries_in-slots_of, unless_ok, sound_from, faultless}
use Rattle.pool.proofs.SlotLoops.{Slots}
use Rattle.pool.proofs.EqualEntries.{same_is}

-- ---- one entry more

pub keys_of-append : {A B : Type 0} (xs : List (A × B)) (k : A) (v : B) → keys_of (xs ++ (k, v) ∷ []) ≡ keys_of xs
    ++ k ∷ []
keys_of-append [] k v = refl
keys_of-append (x ∷ xs) k v = ap (λ ks. x.0 ∷ ks) (keys_of-append xs k v)

numbered-append : (n : ℕ) (es : List Entry) (e : Entry) → numbered n (es ++ e ∷ []) ≡ numbered n es
    ++ (e, n + sum_by numbers_of es) ∷ []
numbered-append n [] e = ap (λ k. (e, k) ∷ []) (omega arith)
numbered-append n (x ∷ es) e =
    let sum : n + numbers_of x + sum_by numbers_of es ≡ n + sum_by numbers_of (x ∷ es) = omega (
      arith,
      sum_by-cons numbers_of x es,
    ) in
    ap (λ ps. (x, n) ∷ ps) (numbered-append (n + numbers_of x) es e
    ∙ ap (λ k. numbered (n + numbers_of x) es ++ (e, k) ∷ []) sum)

pub count_more : (es : List Entry) (e : Entry) → pool_count (es ++ e ∷ []) ≡ pool_count es + numbers_of e
count_more es e = omega (arith, sum_by-append numbers_of es (e ∷ []), sum_by-cons numbers_of e [])

-- what a builder holds after a new entry
abbrev Grown : List (Entry × ℕ) → ℕ → Type 0
Grown qs next = (qs ≡ numbered 1 (keys_of qs)) × (next ≡ pool_count (keys_of qs))

pub grown : (ps qs : List (Entry × ℕ)) (e : Entry) (n next : ℕ) → qs ≡ ps ++ (e, n) ∷ [] → Grown ps n
    → next ≡ n + numbers_of e → Grown qs next
grown ps qs e n next are old sum =
    let keys : keys_of qs ≡ keys_of ps ++ e ∷ [] = ap keys_of are ∙ keys_of-append ps e n in (
      are ∙ ap (λ rs. rs ++ (e, n) ∷ []) old.0 ∙ ap (λ k. numbered 1 (keys_of ps) ++ (e, k) ∷ []) old.1
          ∙ sym (numbered-append 1 (keys_of ps) e) ∙ ap (numbered 1) (sym keys),
      omega (arith, sum, old.1, count_more (keys_of ps) e) ∙ ap pool_count (sym keys),
    )

pub new_added : (ps qs : List (Entry × ℕ)) (e : Entry) (n : ℕ) → qs ≡ ps ++ (e, n) ∷ [] → is_among e (keys_of ps)
    ≡ false → keys_of qs ≡ added (keys_of ps) e
new_added ps qs e n are new = rw new (ap keys_of are ∙ keys_of-append ps e n)

-- ---- what is looked up

-- a key is among the keys where it has a value
pub among : {B : Type 0} (e : Entry) (ps : List (Entry × B))
    → MatchOption (lookup (is_same e) ps) (is_among e (keys_of ps) ≡ false) (λ v. is_among e (keys_of ps) ≡ true)
among e [] = refl
among e (p ∷ ps) = by (is_same e p.0) refl (among e ps)
  where
    by : (b : Bool) → is_same e p.0 ≡ b → MatchOption (lookup (is_same e) ps) (is_among e (keys_of ps) ≡ false)
        (λ v. is_among e (keys_of ps) ≡ true)
        → MatchOption (lookup (is_same e) (p ∷ ps)) (is_among e (keys_of (p ∷ ps)) ≡ false)
        (λ v. is_among e (keys_of (p ∷ ps)) ≡ true)
    by true h rest = rw h refl
    by false h rest = rw h rest

first_under : (e : Entry) (slots : List (Option Entry)) → slice_get (under e slots) 0 ≡ Some (Some e)
first_under (Utf8 text) slots = refl
first_under (Integer z) slots = refl
first_under (Long z) slots = refl
first_under (Class name) slots = refl
first_under (Fieldref class member) slots = refl
first_under (Methodref class member) slots = refl
first_under (InterfaceMethodref class member) slots = refl
first_under (NameAndType name descriptor) slots = refl

next_get : {A : Type 0} (x : A) (xs : List A) (i : ℕ) → slice_get (x ∷ xs) (1 + i) ≡ slice_get xs i
next_get x xs i = let k : 1 + i ≡ suc i = omega arith in ap (slice_get (x ∷ xs)) k

after_under : (e : Entry) (slots : List (Option Entry)) (i : ℕ) → slice_get (under e slots) (numbers_of e + i)
    ≡ slice_get slots i
after_under (Utf8 text) slots i = next_get (Some (Utf8 text)) slots i
after_under (Integer z) slots i = next_get (Some (Integer z)) slots i
after_under (Long z) slots i = let k : 2 + i ≡ suc (suc i) = omega arith
    in ap (slice_get (Some (Long z) ∷ None ∷ slots)) k
after_under (Class name) slots i = next_get (Some (Class name)) slots i
after_under (Fieldref class member) slots i = next_get (Some (Fieldref class member)) slots i
after_under (Methodref class member) slots i = next_get (Some (Methodref class member)) slots i
after_under (InterfaceMethodref class member) slots i = next_get (Some (InterfaceMethodref class member)) slots i
after_under (NameAndType name descriptor) slots i = next_get (Some (NameAndType name descriptor)) slots i

-- the number that an entry has among entries that are numbered from n on is its own
abbrev Own : Entry → List Entry → ℕ → ℕ → Type 0
Own e es n m = (i : ℕ) × (m ≡ n + i) × (slice_get (slots_of es) i ≡ Some (Some e))

its_own : (e : Entry) (es : List Entry) (n m : ℕ) → lookup (is_same e) (numbered n es) ≡ Some m → Own e es n m
its_own e [] n m h = absurd cc
its_own e (x ∷ es) n m h = by (is_same e x) refl (its_own e es (n + numbers_of x) m)
  where
    by : (b : Bool) → is_same e x ≡ b → (lookup (is_same e) (numbered (n + numbers_of x) es) ≡ Some m
        → Own e es (n + numbers_of x) m) → Own e (x ∷ es) n m
    by true same rest =
        let here : Some n ≡ Some m = (rw same at h) in
        let is : n ≡ m = cc in
        (0, omega (arith, is), first_under x (slots_of es) ∙ ap (λ y. Some (Some y)) (sym (same_is e x same)))
    by false same rest =
        let own = rest (rw same at h) in
        (numbers_of x + own.0, omega (arith, own.1), after_under x (slots_of es) own.0 ∙ own.2)

found : (e : Entry) (es : List Entry) (m : ℕ) → lookup (is_same e) (numbered 1 es) ≡ Some m → entry_at es m ≡ Some e
found e es m h =
    let own = its_own e es 1 m h in
    rw (own.1, next_get None (slots_of es) own.0) (ap held own.2)

pub found_among : (e : Entry) (ps : List (Entry × ℕ)) (m : ℕ) → ps ≡ numbered 1 (keys_of ps) → lookup (is_same e) ps
    ≡ Some m → entry_at (keys_of ps) m ≡ Some e
found_among e ps m are h = found e (keys_of ps) m (ap (lookup (is_same e)) (sym are) ∙ h)

-- what a look-up answers
pub reported : (e : Entry) (ps : List (Entry × ℕ)) (r : Option ℕ) → ps ≡ numbered 1 (keys_of ps)
    → r ≡ lookup (is_same e) ps
    → MatchOption r (is_among e (keys_of ps) ≡ false) (λ number. (is_among e (keys_of ps) ≡ true)
    × (entry_at (keys_of ps) number ≡ Some e))
reported e ps None are h = subst (λ r. MatchOption r (is_among e (keys_of ps) ≡ false) (λ v. is_among e (keys_of ps)
    ≡ true)) (sym h) (among e ps)
reported e ps (Some n) are h = (
  subst (λ r. MatchOption r (is_among e (keys_of ps) ≡ false) (λ v. is_among e (keys_of ps) ≡ true)) (sym h)
      (among e ps),
  found_among e ps n are (sym h),
)

-- an entry that isn't among the keys is found nowhere
pub absent : {B : Type 0} (e : Entry) (ps : List (Entry × B)) → is_among e (keys_of ps) ≡ false → lookup (is_same e) ps
    ≡ None
absent e [] h = refl
absent e (p ∷ ps) h = by (is_same e p.0) refl (absent e ps)
  where
    by : (b : Bool) → is_same e p.0 ≡ b → (is_among e (keys_of ps) ≡ false → lookup (is_same e) ps ≡ None)
        → lookup (is_same e) (p ∷ ps) ≡ None
    by true same rest = let wrong : true ≡ false = (rw same at h) in absurd cc
    by false same rest = rw same (rest (rw same at h))

-- ---- the pool of the entries

entries_in-append : (xs ys : Slots) → entries_in (xs ++ ys) ≡ entries_in xs ++ entries_in ys
entries_in-append [] ys = refl
entries_in-append (None ∷ xs) ys = entries_in-append xs ys
entries_in-append (Some e ∷ xs) ys = ap (λ (es : List Entry). e ∷ es) (entries_in-append xs ys)

under-append : (e : Entry) (xs ys : Slots) → under e (xs ++ ys) ≡ under e xs ++ ys
under-append (Utf8 text) xs ys = refl
under-append (Integer z) xs ys = refl
under-append (Long z) xs ys = refl
under-append (Class name) xs ys = refl
under-append (Fieldref class member) xs ys = refl
under-append (Methodref class member) xs ys = refl
under-append (InterfaceMethodref class member) xs ys = refl
under-append (NameAndType name descriptor) xs ys = refl

slots_of-append : (es fs : List Entry) → slots_of (es ++ fs) ≡ slots_of es ++ slots_of fs
slots_of-append [] fs = refl
slots_of-append (e ∷ es) fs = ap (under e) (slots_of-append es fs) ∙ under-append e (slots_of es) (slots_of fs)

AllByRecursion-push : (es : List Entry) (e : Entry) → AllByRecursion EntryFits es → EntryFits e
    → AllByRecursion EntryFits (es ++ e ∷ [])
AllByRecursion-push [] e all one = (one, tt)
AllByRecursion-push (x ∷ es) e all one = (all.0, AllByRecursion-push es e all.1 one)

-- the slots hold the entries before those that are left
abbrev pub Filling : Slots → List (Entry × ℕ) → List Entry → Type 0
Filling slots rest entries = AreSlots slots × (entries_in slots ++ keys_of rest ≡ entries)
    × AllByRecursion EntryFits (entries_in slots) × (list_all has_bytes (keys_of rest) ≡ list_all has_bytes entries)

pub fills : (slots : Slots) (p : Entry × ℕ) (rest : List (Entry × ℕ)) (entries : List Entry) → EntryFits p.0
    → has_bytes p.0 ≡ true → Filling slots (p ∷ rest) entries → Filling (slots ++ under p.0 []) rest entries
fills slots p rest entries fits good f =
    let es : entries_in (slots ++ under p.0 []) ≡ entries_in slots ++ p.0 ∷ [] = entries_in-append slots (under p.0 [])
    ∙ ap (λ fs. entries_in slots ++ fs) (entries_in-slots_of (p.0 ∷ [])) in
    let are : AreSlots (slots ++ under p.0 []) =
    ap (λ (s : Slots). s ++ under p.0 []) f.0
    ∙ ap (λ (s : Slots). None ∷ s) (sym (slots_of-append (entries_in slots) (p.0 ∷ [])) ∙ ap slots_of (sym es)) in (
      are,
      ap (λ fs. fs ++ keys_of rest) es ∙ append_assoc (entries_in slots) (p.0 ∷ []) (keys_of rest) ∙ f.1,
      subst (AllByRecursion EntryFits) (sym es) (AllByRecursion-push (entries_in slots) p.0 f.2 fits),
      rw good at f.3,
    )

-- all entries stand in the slots
pub filled : (slots : Slots) (entries : List Entry) → Filling slots [] entries → entries_in slots ≡ entries
filled slots entries f = sym (append-nil (entries_in slots)) ∙ f.1

fitting_has_bytes : (e : Entry) → EntryFits e → has_bytes e ≡ true
fitting_has_bytes (Utf8 text) h = and_from (nat_le (length text) 65535) (list_all is_text_byte text)
    (le-leb _ _ (omega (arith, h.0))) h.1
fitting_has_bytes (Integer z) h = refl
fitting_has_bytes (Long z) h = refl
fitting_has_bytes (Class name) h = refl
fitting_has_bytes (Fieldref class member) h = refl
fitting_has_bytes (Methodref class member) h = refl
fitting_has_bytes (InterfaceMethodref class member) h = refl
fitting_has_bytes (NameAndType name descriptor) h = refl

pub all_have_bytes : (es : List Entry) → AllByRecursion EntryFits es → list_all has_bytes es ≡ true
all_have_bytes [] h = refl
all_have_bytes (e ∷ es) h = rw (fitting_has_bytes e h.0) (all_have_bytes es h.1)

-- an entry without bytes
pub lacks : (slots : Slots) (p : Entry × ℕ) (rest : List (Entry × ℕ)) (entries : List Entry) → has_bytes p.0 ≡ false
    → Filling slots (p ∷ rest) entries → list_all has_bytes entries ≡ false
lacks slots p rest entries bad f = sym f.3 ∙ rw bad refl

-- the entries were checked
abbrev pub Checked : Result (List Entry) ReadError → List Entry → Type 0
Checked r entries = Gives (λ pool. pool) r (unless (first_fault entries entries) entries)

pub is_made : (entries : List Entry) (r : Result (List Entry) ReadError) → PoolFits entries → Checked r entries
    → IfOk r (λ pool. (pool ≡ entries) × PoolFits pool × AreSound pool)
is_made entries (Ok pool) fits given =
    let u = unless_ok (first_fault entries entries) entries pool given in
    subst (λ p. (p ≡ entries) × PoolFits p × AreSound p) u.1 (refl, fits, sound_from entries entries u.0)
is_made entries (Err e) fits given = tt

pub only_memory : (entries : List Entry) (r : Result (List Entry) ReadError) → AreSound entries → Checked r entries
    → Gives (λ pool. pool) r (Ok entries)
only_memory entries r sound given = rw (faultless entries entries sound) at given
