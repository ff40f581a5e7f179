use Rattle.std.proofs.Common.{◌≡◌, ◌⊎◌, inl, inr, ◌↔◌, ℕ, zero, suc, ◌<◌, ◌≤◌, length, List, [], ◌∷◌, ◌++◌, slice_get}
use Rattle.std.proofs.Common.{Bool, true, false, IsTrue, nat_eq, Option, Some, None, refl, ap, subst, arith}
use Rattle.std.proofs.lemmas.Bool.{cases_lt}
use Rattle.std.proofs.lemmas.Bool.Decides.{Decides-eqb}
use Rattle.std.specs.List.{flat_map, list_any}
use Rattle.model.specs.Frames.{Frame}
use Rattle.model.specs.Worlds.{World, Thread, frames_of, frames_at, next_birth}
use Rattle.model.specs.Collector.Places.{Place, frame_refs, ref_at, entries_at, monitor_at, words_of, slots_of, root_at}
use Rattle.model.specs.Collector.Places.{word_at, Reach}
use Rattle.model.specs.Collector.Places.Place.{MemoryError, StackError, Slot, FrameEntry, MethodMonitor}
use Rattle.model.specs.Collector.Places.Reach.{at_root, by_word}
use Rattle.model.specs.Collector.Reached.{roots_of_frame, roots_of_thread, roots_of, leads_within, is_reached}
use Rattle.model.proofs.CollectorLemmas.Bounds.{words_made}
use Rattle.model.proofs.ShortPaths.{or-cases, or-right, IsPath, path-append, Short, shortened, has, Inside}

-- the test of reached births tells the relation

-- ---- a reference among references

abbrev Among : List (Option ℕ) → ℕ → Type 0
Among [] b = ⊥
Among (r ∷ rs) b = (r ≡ Some b) ⊎ Among rs b

among-at : (rs : List (Option ℕ)) (k b : ℕ) → ref_at rs k ≡ Some b → Among rs b
among-at [] k b e = cc
among-at (r ∷ rs) zero b e = inl e
among-at (r ∷ rs) (suc k) b e = inr (among-at rs k b e)

at-among : (rs : List (Option ℕ)) (b : ℕ) → Among rs b → (k : ℕ) × (ref_at rs k ≡ Some b)
at-among [] b h = absurd h
at-among (r ∷ rs) b (inl e) = (0, e)
at-among (r ∷ rs) b (inr h) = let rest : (k : ℕ) × (ref_at rs k ≡ Some b) = at-among rs b h in (suc rest.0, rest.1)

among-left : (xs ys : List (Option ℕ)) (b : ℕ) → Among xs b → Among (xs ++ ys) b
among-left [] ys b h = absurd h
among-left (x ∷ xs) ys b (inl e) = inl e
among-left (x ∷ xs) ys b (inr h) = inr (among-left xs ys b h)

among-right : (xs ys : List (Option ℕ)) (b : ℕ) → Among ys b → Among (xs ++ ys) b
among-right [] ys b h = h
among-right (x ∷ xs) ys b h = inr (among-right xs ys b h)

among-cases : (xs ys : List (Option ℕ)) (b : ℕ) → Among (xs ++ ys) b → Among xs b ⊎ Among ys b
among-cases [] ys b h = inr h
among-cases (x ∷ xs) ys b (inl e) = inl (inl e)
among-cases (x ∷ xs) ys b (inr h) = elim (among-cases xs ys b h) [ inl one ↦ inl (inr one) | inr other ↦ inr other ]

-- a test that null doesn't pass, at some reference
some-passes : (f : Option ℕ → Bool) → f None ≡ false → (rs : List (Option ℕ)) → list_any f rs ≡ true → (b : ℕ)
    × Among rs b × (f (Some b) ≡ true)
some-passes f n [] h = cc
some-passes f n (r ∷ rs) h =
    elim (or-cases (f r) (list_any f rs) h) [
      | inl here ↦ first r here
      | inr there ↦ let found : (b : ℕ) × Among rs b × (f (Some b) ≡ true) = some-passes f n rs there
          in (found.0, inr found.1, found.2)
    ]
  where
    first : (r : Option ℕ) → f r ≡ true → (b : ℕ) × Among (r ∷ rs) b × (f (Some b) ≡ true)
    first None e = cc
    first (Some b) e = (b, inl refl, e)

passes-some : (f : Option ℕ → Bool) (rs : List (Option ℕ)) (b : ℕ) → Among rs b → f (Some b) ≡ true → list_any f rs
    ≡ true
passes-some f [] b h t = absurd h
passes-some f (r ∷ rs) b (inl e) t = rw (e, t)
passes-some f (r ∷ rs) b (inr h) t = or-right (f r) (list_any f rs) (passes-some f rs b h t)

-- ---- the list of roots has what stands at the places, and no more

-- the birth at the method monitor or an entry of a frame
abbrev AtFrame : List Frame → ℕ → Type 0
AtFrame fs b = (d : ℕ) × ((monitor_at fs d ≡ Some b) ⊎ ((j : ℕ) × (ref_at (entries_at fs d) j ≡ Some b)))

frame-listed : (fs : List Frame) (d b : ℕ)
    → (monitor_at fs d ≡ Some b) ⊎ ((j : ℕ) × (ref_at (entries_at fs d) j ≡ Some b))
    → Among (flat_map roots_of_frame fs) b
frame-listed [] d b (inl e) = cc
frame-listed [] d b (inr e) = absurd (among-at [] e.0 b e.1)
frame-listed (f ∷ fs) zero b (inl e) = inl e
frame-listed (f ∷ fs) zero b (inr e) =
    inr (among-left (frame_refs f) (flat_map roots_of_frame fs) b (among-at (frame_refs f) e.0 b e.1))
frame-listed (f ∷ fs) (suc d) b h = among-right (roots_of_frame f) (flat_map roots_of_frame fs) b
    (frame-listed fs d b h)

listed-frame : (fs : List Frame) (b : ℕ) → Among (flat_map roots_of_frame fs) b → AtFrame fs b
listed-frame [] b h = absurd h
listed-frame (f ∷ fs) b (inl e) = (0, inl e)
listed-frame (f ∷ fs) b (inr h) =
    elim (among-cases (frame_refs f) (flat_map roots_of_frame fs) b h) [
      | inl here ↦ (0, inr (at-among (frame_refs f) b here))
      | inr there ↦ let rest : AtFrame fs b = listed-frame fs b there in (suc rest.0, rest.1)
    ]

thread-listed : (ts : List Thread) (t b : ℕ) → AtFrame (frames_of (slice_get ts t)) b
    → Among (flat_map roots_of_thread ts) b
thread-listed [] t b h = absurd (frame-listed [] h.0 b h.1)
thread-listed (x ∷ ts) zero b h =
    among-left (roots_of_thread x) (flat_map roots_of_thread ts) b (frame-listed (frames_of (Some x)) h.0 b h.1)
thread-listed (x ∷ ts) (suc t) b h = among-right (roots_of_thread x) (flat_map roots_of_thread ts) b
    (thread-listed ts t b h)

listed-thread : (ts : List Thread) (b : ℕ) → Among (flat_map roots_of_thread ts) b → (t : ℕ)
    × AtFrame (frames_of (slice_get ts t)) b
listed-thread [] b h = absurd h
listed-thread (x ∷ ts) b h =
    elim (among-cases (roots_of_thread x) (flat_map roots_of_thread ts) b h) [
      | inl here ↦ (0, listed-frame (frames_of (Some x)) b here)
      | inr there ↦ let rest : (t : ℕ) × AtFrame (frames_of (slice_get ts t)) b = listed-thread ts b there
          in (suc rest.0, rest.1)
    ]

root-listed : (w : World) (p : Place) (b : ℕ) → root_at w p ≡ Some b → Among (roots_of w) b
unfolding root_at
root-listed w MemoryError b e = inl e
root-listed w StackError b e = inr (inl e)
root-listed w (Slot s) b e =
    inr (inr (among-left (slots_of w) (flat_map roots_of_thread w.threads) b (among-at (slots_of w) s b e)))
root-listed w (FrameEntry t d j) b e =
    inr (inr (among-right (slots_of w) (flat_map roots_of_thread w.threads) b (thread-listed w.threads t b (
      d,
      inr (j, e),
    ))))
root-listed w (MethodMonitor t d) b e =
    inr (inr (among-right (slots_of w) (flat_map roots_of_thread w.threads) b (thread-listed w.threads t b (d, inl e))))

abbrev IsRoot : World → ℕ → Type 0
IsRoot w b = (p : Place) × (root_at w p ≡ Some b)

listed-root : (w : World) (b : ℕ) → Among (roots_of w) b → IsRoot w b
unfolding root_at
listed-root w b (inl e) = (MemoryError, e)
listed-root w b (inr (inl e)) = (StackError, e)
listed-root w b (inr (inr h)) =
    elim (among-cases (slots_of w) (flat_map roots_of_thread w.threads) b h) [
      | inl slot ↦ let found : (s : ℕ) × (ref_at (slots_of w) s ≡ Some b) = at-among (slots_of w) b slot
          in (Slot found.0, found.1)
      | inr frame ↦ let found : (t : ℕ) × AtFrame (frames_at w t) b = listed-thread w.threads b frame in
          in_frame found.0 found.1.0 found.1.1
    ]
  where
    in_frame : (t d : ℕ) → (monitor_at (frames_at w t) d ≡ Some b) ⊎ ((j : ℕ)
        × (ref_at (entries_at (frames_at w t) d) j ≡ Some b)) → IsRoot w b
    in_frame t d (inl e) = (MethodMonitor t d, e)
    in_frame t d (inr e) = (FrameEntry t d e.0, e.1)

-- ---- what the test finds is reached

at_null : (steps : ℕ) (w : World) (b : ℕ) → leads_within steps w b None ≡ false
unfolding leads_within
at_null zero w b = refl
at_null (suc n) w b = refl

leads-Reach : (steps : ℕ) (w : World) (b a : ℕ) → leads_within steps w b (Some a) ≡ true → Reach w a → Reach w b
unfolding leads_within word_at
leads-Reach zero w b a h r = subst (λ (x : ℕ). Reach w x) ((Decides-eqb a b).0 h) r
leads-Reach (suc n) w b a h r =
    elim (or-cases (nat_eq a b) (list_any (leads_within n w b) (words_of w.objects a)) h) [
      | inl here ↦ subst (λ (x : ℕ). Reach w x) ((Decides-eqb a b).0 here) r
      | inr there ↦
          let found : (c : ℕ) × Among (words_of w.objects a) c × (leads_within n w b (Some c) ≡ true) =
          some-passes (leads_within n w b) (at_null n w b) (words_of w.objects a) there in
          let word : (k : ℕ) × (ref_at (words_of w.objects a) k ≡ Some found.0) = at-among (words_of w.objects a)
          found.0 found.1 in
          leads-Reach n w b found.0 found.2 (by_word a word.0 r word.1)
    ]

-- ---- what is reached the test finds

abbrev Leads : World → ℕ → ℕ → Type 0
Leads w a b = (k : ℕ) × (word_at w a k ≡ Some b)

abbrev FromRoot : World → ℕ → Type 0
FromRoot w b = (a : ℕ) × IsRoot w a × ((xs : List ℕ) × IsPath (Leads w) a xs b)

path_of : (w : World) {b : ℕ} → Reach w b → FromRoot w b
path_of w (at_root {b = b} p e) = (b, (p, e), ([], refl))
path_of w (by_word {b = b} a k r e) =
    let before : FromRoot w a = path_of w r in (
      before.0,
      before.1,
      (
        before.2.0 ++ b ∷ [],
        path-append (Leads w) before.0 a b before.2.0 (b ∷ []) before.2.1
            ((k, e), refl),
      ),
    )

-- the births before a number
abbrev births_below : ℕ → List ℕ
births_below zero = []
births_below (suc n) = n ∷ births_below n

length-births : (n : ℕ) → length (births_below n) ≡ n
length-births zero = refl
length-births (suc n) = ap suc (length-births n)

has-birth : (n b : ℕ) → b < n → has nat_eq (births_below n) b ≡ true
has-birth zero b h = absurd (omega arith)
has-birth (suc n) b h =
    elim (cases_lt b n) [
      | inl below ↦ or-right (nat_eq n b) (has nat_eq (births_below n) b) (has-birth n b below)
      | inr from ↦ let e : n ≡ b = omega arith in rw ((Decides-eqb n b).1 e) refl
    ]

path-inside : (w : World) (a b : ℕ) (xs : List ℕ) → IsPath (Leads w) a xs b
    → Inside nat_eq (births_below (next_birth w)) a xs
path-inside w a b [] p = tt
path-inside w a b (x ∷ xs) p = (has-birth (next_birth w) a (words_made w a p.0.0 x p.0.1), path-inside w x b xs p.1)

path-leads : (steps : ℕ) (w : World) (a b : ℕ) (xs : List ℕ) → IsPath (Leads w) a xs b → length xs ≤ steps
    → leads_within steps w b (Some a) ≡ true
unfolding leads_within word_at
path-leads zero w a b [] p few = (Decides-eqb a b).1 p
path-leads (suc n) w a b [] p few = rw ((Decides-eqb a b).1 p) refl
path-leads zero w a b (x ∷ xs) p few = absurd (omega arith)
path-leads (suc n) w a b (x ∷ xs) p few =
    or-right (nat_eq a b) (list_any (leads_within n w b) (words_of w.objects a))
    (passes-some (leads_within n w b) (words_of w.objects a) x (among-at (words_of w.objects a) p.0.0 x p.0.1)
    (path-leads n w x b xs p.1 (omega arith)))

-- ---- the test and the relation agree

pub is_reached-Reach : (w : World) (b : ℕ) → is_reached w b ≡ true → Reach w b
unfolding is_reached
is_reached-Reach w b h =
    let found : (a : ℕ) × Among (roots_of w) a × (leads_within (next_birth w) w b (Some a) ≡ true) =
    some-passes (leads_within (next_birth w) w b) (at_null (next_birth w) w b) (roots_of w) h in
    let root : IsRoot w found.0 = listed-root w found.0 found.1 in
    leads-Reach (next_birth w) w b found.0 found.2 (at_root root.0 root.1)

pub Reach-is_reached : (w : World) (b : ℕ) → Reach w b → is_reached w b ≡ true
unfolding is_reached
Reach-is_reached w b r =
    let path : FromRoot w b = path_of w r in
    let few : length (births_below (next_birth w)) ≤ next_birth w = omega (arith, length-births (next_birth w)) in
    let short : Short nat_eq Decides-eqb (Leads w) (next_birth w) path.0 b =
    shortened nat_eq Decides-eqb (Leads w) (next_birth w) (births_below (next_birth w)) path.0 b path.2.0 few path.2.1
    (path-inside w path.0 b path.2.0 path.2.1) in
    passes-some (leads_within (next_birth w) w b) (roots_of w) path.0 (root-listed w path.1.0 path.0 path.1.1)
    (path-leads (next_birth w) w path.0 b short.0 short.1 short.2)

pub reached_agrees : (w : World) (b : ℕ) → Reach w b ↔ IsTrue (is_reached w b)
reached_agrees w b = (Reach-is_reached w b, is_reached-Reach w b)
