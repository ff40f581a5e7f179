use Rattle.std.proofs.Common.{◌≡◌, ◌⊎◌, inl, inr, ℕ, zero, suc, ◌+◌, ◌<◌, ◌≤◌, List, [], ◌∷◌, ◌++◌, length, replicate}
use Rattle.std.proofs.Common.{set, slice_get, nat_eq, Bool, true, false, Option, Some, None, refl, sym, ◌∙◌, ap, subst}
use Rattle.std.proofs.Common.{arith, eqb-true, eq-eqb}
use Rattle.std.specs.List.{flat_map, list_any}
use Rattle.model.specs.Worlds.{World, next_birth}
use Rattle.model.specs.Collector.Places.{Reach, ref_at, slots_of, word_at, words_of}
use Rattle.model.specs.Collector.Places.Reach.{by_word}
use Rattle.model.specs.Collector.Reached.{is_reached, leads_within, roots_of, roots_of_thread}
use Rattle.model.proofs.CollectorLemmas.Bounds.{words_made}
use Rattle.model.proofs.CollectorLemmas.Reaching.{is_reached-Reach, Reach-is_reached}
use Rattle.model.proofs.ShortPaths.{or-cases, or-right}
use Rattle.join.proofs.Lists.{get-within, get-older, get-newest, get-set_same, get-set_other}
use Rattle.join.proofs.Paths.{alike}
use Rattle.collector.specs.Reaching.{IsWalk, Marking, all_noted, marked, noted, noted_at, spread, unmarked, with_listed}

-- A marking marks what paths lead to, and nothing else. What is marked was listed once, so that all of the list is
-- looked at in as many steps as there are references.

-- ---- lists

-- how many have no mark
abbrev left : List Bool → ℕ
left [] = 0
left (true ∷ marks) = left marks
left (false ∷ marks) = suc (left marks)

left-set : (marks : List Bool) (r : ℕ) → slice_get marks r ≡ Some false → suc (left (set marks r true)) ≡ left marks
left-set [] r e = absurd (cc)
left-set (true ∷ marks) zero e = absurd (cc)
left-set (false ∷ marks) zero e = refl
left-set (true ∷ marks) (suc r) e = left-set marks r e
left-set (false ∷ marks) (suc r) e = ap suc (left-set marks r e)

left-none : (count : ℕ) → left (replicate count false) ≡ count
left-none zero = refl
left-none (suc count) = ap suc (left-none count)

no_mark : (count r : ℕ) → slice_get (replicate count false) r ≡ Some true → ⊥
no_mark zero r e = cc
no_mark (suc count) zero e = cc
no_mark (suc count) (suc r) e = no_mark count r e

get-below : {A : Type 0} (xs : List A) (n : ℕ) (x : A) → slice_get xs n ≡ Some x → n < length xs
get-below [] n x e = absurd (cc)
get-below (y ∷ ys) zero x e = omega arith
get-below (y ∷ ys) (suc n) x e = let h = get-below ys n x e in omega (arith, h)

get-past : {A : Type 0} (xs : List A) (n : ℕ) → slice_get xs n ≡ None → length xs ≤ n
get-past [] n e = omega arith
get-past (y ∷ ys) zero e = absurd (cc)
get-past (y ∷ ys) (suc n) e = let h = get-past ys n e in omega (arith, h)

length-set : (marks : List Bool) (r : ℕ) → length (set marks r true) ≡ length marks
length-set [] r = refl
length-set (m ∷ marks) zero = refl
length-set (m ∷ marks) (suc r) = ap suc (length-set marks r)

length-more : (xs : List ℕ) (x : ℕ) → length (xs ++ x ∷ []) ≡ suc (length xs)
length-more [] x = refl
length-more (y ∷ ys) x = ap suc (length-more ys x)

-- one reference or another
equal_or_not : (r s : ℕ) → (r ≡ s) ⊎ (r ≡ s → ⊥)
equal_or_not r s = by (nat_eq r s) refl
  where
    by : (t : Bool) → nat_eq r s ≡ t → (r ≡ s) ⊎ (r ≡ s → ⊥)
    by true e = inl (eqb-true r s e)
    by false e = inr (λ same. (let k = eq-eqb r s same in absurd (cc)))

-- ---- a test of references

test_at : (f : Option ℕ → Bool) (rs : List (Option ℕ)) (k b : ℕ) → ref_at rs k ≡ Some b → f (Some b) ≡ true
    → list_any f rs ≡ true
test_at f [] k b e t = absurd (cc)
test_at f (r ∷ rs) zero b e t = rw (e, t) refl
test_at f (r ∷ rs) (suc k) b e t = or-right (f r) (list_any f rs) (test_at f rs k b e t)

-- where one passes that null doesn't
abbrev Passes : (Option ℕ → Bool) → List (Option ℕ) → Type 0
Passes f rs = (k : ℕ) × ((b : ℕ) × ((ref_at rs k ≡ Some b) × (f (Some b) ≡ true)))

passes : (f : Option ℕ → Bool) → f None ≡ false → (rs : List (Option ℕ)) → list_any f rs ≡ true → Passes f rs
passes f n [] h = absurd (cc)
passes f n (r ∷ rs) h =
    elim (or-cases (f r) (list_any f rs) h) [
      | inl here ↦ first r here
      | inr there ↦ let rest = passes f n rs there in (suc rest.0, rest.1)
    ]
  where
    first : (r : Option ℕ) → f r ≡ true → Passes f (r ∷ rs)
    first None e = absurd (cc)
    first (Some b) e = (zero, (b, (refl, e)))

null_leads : (steps : ℕ) (w : World) (b : ℕ) → leads_within steps w b None ≡ false
unfolding leads_within
null_leads zero w b = refl
null_leads (suc n) w b = refl

leads_there : (steps : ℕ) (w : World) (b : ℕ) → leads_within steps w b (Some b) ≡ true
unfolding leads_within
leads_there zero w b = eq-eqb b b refl
leads_there (suc n) w b = rw (eq-eqb b b refl) refl

pub root_reached : (w : World) (k b : ℕ) → ref_at (roots_of w) k ≡ Some b → Reach w b
unfolding is_reached
root_reached w k b e = is_reached-Reach w b (test_at (leads_within (next_birth w) w b) (roots_of w) k b e
    (leads_there (next_birth w) w b))

-- ---- a marking

abbrev IsMarked : Marking → ℕ → Type 0
IsMarked m r = slice_get m.marks r ≡ Some true

module _ (w : World) (count : ℕ) where
  -- what is marked is reached, and listed once
  record Sound (m : Marking) : Type 0 where
    size : length m.marks ≡ count
    reached : (r : ℕ) → IsMarked m r → Reach w r
    listed : (r : ℕ) → IsMarked m r → (n : ℕ) × (slice_get m.list n ≡ Some r)
    marked : (n r : ℕ) → slice_get m.list n ≡ Some r → IsMarked m r
    once : length m.list + left m.marks ≡ count

  -- nothing is lost
  record Grows (m after : Marking) : Type 0 where
    marks : (r : ℕ) → IsMarked m r → IsMarked after r
    list : (n r : ℕ) → slice_get m.list n ≡ Some r → slice_get after.list n ≡ Some r

  same : (m : Marking) → Grows m m
  same m = record { marks = λ r e. e; list = λ n r e. e }

  then : (m n o : Marking) → Grows m n → Grows n o → Grows m o
  then m n o g h = record { marks = λ r e. h.marks r (g.marks r e); list = λ k r e. h.list k r (g.list k r e) }

  -- ---- one reference

  abbrev with_mark : Marking → ℕ → Marking
  with_mark m r = record { marks = set m.marks r true; list = m.list ++ r ∷ [] }

  module _ (m : Marking) (r : ℕ) (e : slice_get m.marks r ≡ Some false) where
    grows_by : Grows m (with_mark m r)
    grows_by = record {
      marks = λ s k. by_mark s k (equal_or_not s r);
      list = λ n s k. (get-older m.list r n (get-below m.list n s k) ∙ k);
    }
      where
        by_mark : (s : ℕ) → IsMarked m s → (s ≡ r) ⊎ (s ≡ r → ⊥) → slice_get (set m.marks r true) s ≡ Some true
        by_mark s k (inl is) = (let k' : slice_get m.marks r ≡ Some true = ap (slice_get m.marks) (sym is) ∙ k
            in absurd (cc))
        by_mark s k (inr other) = get-set_other m.marks s r true other ∙ k

    sound_by : Reach w r → Sound m → Sound (with_mark m r)
    sound_by path s = record {
      size = length-set m.marks r ∙ s.size;
      reached = λ q k. reached_by q k (equal_or_not q r);
      listed = λ q k. listed_by q k (equal_or_not q r);
      marked = λ n q k. marked_by n q k (equal_or_not n (length m.list));
      once = (let o = s.once in let l = length-more m.list r in let f = left-set m.marks r e in omega (arith, o, l, f));
    }
      where
        before : (q : ℕ) → (q ≡ r → ⊥) → IsMarked (with_mark m r) q → IsMarked m q
        before q other k = sym (get-set_other m.marks q r true other) ∙ k

        reached_by : (q : ℕ) → IsMarked (with_mark m r) q → (q ≡ r) ⊎ (q ≡ r → ⊥) → Reach w q
        reached_by q k (inl is) = subst (Reach w) (sym is) path
        reached_by q k (inr other) = s.reached q (before q other k)

        listed_by : (q : ℕ) → IsMarked (with_mark m r) q → (q ≡ r) ⊎ (q ≡ r → ⊥) → (n : ℕ)
            × (slice_get (m.list ++ r ∷ []) n ≡ Some q)
        listed_by q k (inl is) = (length m.list, get-newest m.list r ∙ ap (λ (x : ℕ). Some x) (sym is))
        listed_by q k (inr other) =
            let old = s.listed q (before q other k) in
            (old.0, get-older m.list r old.0 (get-below m.list old.0 q old.1) ∙ old.1)

        marked_by : (n q : ℕ) → slice_get (m.list ++ r ∷ []) n ≡ Some q → (n ≡ length m.list) ⊎ (n ≡ length m.list → ⊥)
            → IsMarked (with_mark m r) q
        marked_by n q k (inl is) =
            let k' : Some r ≡ Some q = sym (get-newest m.list r) ∙ ap (slice_get (m.list ++ r ∷ [])) (sym is) ∙ k in
            let q_is : r ≡ q = cc in
            ap (slice_get (set m.marks r true)) (sym q_is) ∙ get-set_same m.marks r true false e
        marked_by n q k (inr other) =
            let within = get-below (m.list ++ r ∷ []) n q k in
            let l = length-more m.list r in
            let below : n < length m.list = omega (arith, within, l, other) in
            (grows_by).marks q (s.marked n q (sym (get-older m.list r n below) ∙ k))

  -- what a reference may be: nothing, or one that is reached
  abbrev Led : Option ℕ → Type 0
  Led o = (r : ℕ) → o ≡ Some r → Reach w r

  record After (m : Marking) (o : Option ℕ) (after : Marking) : Type 0 where
    sound : Sound after
    grows : Grows m after
    noted_is : (r : ℕ) → o ≡ Some r → r < count → IsMarked after r

  noted_by : (m : Marking) (r : ℕ) (mark : Option Bool) → slice_get m.marks r ≡ mark → Sound m → Reach w r
      → After m (Some r) (noted_at m r mark)
  noted_by m r None e s path = record {
    sound = s;
    grows = same m;
    noted_is = λ q is below. (let past = get-past m.marks r e in let size = s.size in let q_is : r ≡ q = cc in absurd (omega (arith, past, size, q_is, below)));
  }
  noted_by m r (Some true) e s path = record {
    sound = s;
    grows = same m;
    noted_is = λ q is below. (let q_is : r ≡ q = cc in ap (slice_get m.marks) (sym q_is) ∙ e);
  }
  noted_by m r (Some false) e s path = record {
    sound = sound_by m r e path s;
    grows = grows_by m r e;
    noted_is = λ q is below. (let q_is : r ≡ q = cc in ap (slice_get (set m.marks r true)) (sym q_is)
        ∙ get-set_same m.marks r true false e);
  }

  noted_after : (m : Marking) (o : Option ℕ) → Sound m → Led o → After m o (noted m o)
  noted_after m None s led = record { sound = s; grows = same m; noted_is = λ q is below. absurd (cc) }
  noted_after m (Some r) s led = noted_by m r (slice_get m.marks r) refl s (led r refl)

  -- ---- references

  abbrev AllLed : List (Option ℕ) → Type 0
  AllLed rs = (k r : ℕ) → ref_at rs k ≡ Some r → Reach w r

  record AfterAll (m : Marking) (rs : List (Option ℕ)) (after : Marking) : Type 0 where
    sound : Sound after
    grows : Grows m after
    noted_are : (k r : ℕ) → ref_at rs k ≡ Some r → r < count → IsMarked after r

  all_after : (m : Marking) (rs : List (Option ℕ)) → Sound m → AllLed rs → AfterAll m rs (all_noted m rs)
  all_after m [] s led = record { sound = s; grows = same m; noted_are = λ k r e below. absurd (cc) }
  all_after m (o ∷ rs) s led =
      let one = noted_after m o s (λ r is. led 0 r is) in
      let rest = all_after (noted m o) rs one.sound (λ k r is. led (suc k) r is) in
      record {
        sound = rest.sound;
        grows = then m (noted m o) (all_noted (noted m o) rs) one.grows rest.grows;
        noted_are = λ k r is below. at k r is below one rest;
      }
    where
      at : (k r : ℕ) → ref_at (o ∷ rs) k ≡ Some r → r < count → After m o (noted m o)
          → AfterAll (noted m o) rs (all_noted (noted m o) rs) → IsMarked (all_noted (noted m o) rs) r
      at zero r is below one rest = rest.grows.marks r (one.noted_is r is below)
      at (suc k) r is below one rest = rest.noted_are k r is below

  -- ---- words, until none is left

  -- those of the first so many
  abbrev ClosedBelow : ℕ → Marking → Type 0
  ClosedBelow n m = (i r : ℕ) → i < n → slice_get m.list i ≡ Some r → (k b : ℕ) → word_at w r k ≡ Some b → b < count
      → IsMarked m b

  record Spread (m after : Marking) : Type 0 where
    sound : Sound after
    grows : Grows m after
    closed : (r : ℕ) → IsMarked after r → (k b : ℕ) → word_at w r k ≡ Some b → b < count → IsMarked after b

  ended : (n : ℕ) (m : Marking) → length m.list ≤ n → Sound m → ClosedBelow n m → Spread m m
  ended n m past s closed = record {
    sound = s;
    grows = same m;
    closed = λ r is. (let l = s.listed r is in let below = get-below m.list l.0 r l.1
        in closed l.0 r (omega (arith, below, past)) l.1);
  }

  words_led : (r : ℕ) → Reach w r → AllLed (words_of w.objects r)
  unfolding word_at
  words_led r path = λ k b e. by_word r k path e

  -- the words of one more
  closed_next : (n r : ℕ) (m : Marking) → slice_get m.list n ≡ Some r → ClosedBelow n m
      → AfterAll m (words_of w.objects r) (all_noted m (words_of w.objects r))
      → ClosedBelow (suc n) (all_noted m (words_of w.objects r))
  unfolding word_at
  closed_next n r m is closed after = λ i q within e k b word below. by i q within e k b word below (equal_or_not i n)
    where
      at_same : (i q x : ℕ) → slice_get m.list i ≡ Some x → slice_get (all_noted m (words_of w.objects r)).list i
          ≡ Some q → x ≡ q
      at_same i q x old new = (let e : Some x ≡ Some q = sym (after.grows.list i x old) ∙ new in cc)

      by : (i q : ℕ) → i < suc n → slice_get (all_noted m (words_of w.objects r)).list i ≡ Some q → (k b : ℕ)
          → ref_at (words_of w.objects q) k ≡ Some b → b < count → (i ≡ n) ⊎ (i ≡ n → ⊥)
          → IsMarked (all_noted m (words_of w.objects r)) b
      by i q within e k b word below (inl here) =
          let q_is : r ≡ q = at_same n q r is (ap (slice_get (all_noted m (words_of w.objects r)).list) (sym here) ∙ e)
          in
          after.noted_are k b (subst (λ (x : ℕ). ref_at (words_of w.objects x) k ≡ Some b) (sym q_is) word) below
      by i q within e k b word below (inr other) =
          let under = get-below m.list n r is in
          let before : i < n = omega (arith, within, other) in
          let old = get-within m.list i (omega (arith, before, under)) in
          let q_is : old.0 ≡ q = at_same i q old.0 old.1 e in
          after.grows.marks b (closed i q before (old.1 ∙ ap (λ (x : ℕ). Some x) q_is) k b word below)

  spread_closes : (steps n : ℕ) (m : Marking) → steps + n ≡ count → Sound m → ClosedBelow n m
      → Spread m (spread w steps n m)
  spread_closes zero n m all s closed = ended n m (let o = s.once in omega (arith, all, o)) s closed
  spread_closes (suc steps) n m all s closed =
      by (slice_get m.list n) refl
      (λ r is. (let after = words r is in spread_closes steps (suc n) (all_noted m (words_of w.objects r))
      (omega (arith, all)) after.sound (closed_next n r m is closed after)))
    where
      words : (r : ℕ) → slice_get m.list n ≡ Some r
          → AfterAll m (words_of w.objects r) (all_noted m (words_of w.objects r))
      words r is = all_after m (words_of w.objects r) s (words_led r (s.reached r (s.marked n r is)))

      by : (o : Option ℕ) → slice_get m.list n ≡ o
          → ((r : ℕ) → slice_get m.list n ≡ Some r
          → Spread (all_noted m (words_of w.objects r))
          (spread w steps (suc n) (all_noted m (words_of w.objects r))))
          → Spread m (with_listed m o (λ r. spread w steps (suc n) (all_noted m (words_of w.objects r))))
      by None e rest = ended n m (get-past m.list n e) s closed
      by (Some r) e rest =
          let more = rest r e in
          record {
            sound = more.sound;
            grows =
                then m (all_noted m (words_of w.objects r)) (spread w steps (suc n) (all_noted m (words_of w.objects r)))
                (words r e).grows more.grows;
            closed = more.closed;
          }

  -- ---- from the roots

  none_marked : Sound (unmarked count)
  none_marked = record {
    size = size count;
    reached = λ r e. absurd (no_mark count r e);
    listed = λ r e. absurd (no_mark count r e);
    marked = λ n r e. absurd (cc);
    once = (let e = left-none count in omega (arith, e));
  }
    where
      size : (n : ℕ) → length (replicate n false) ≡ n
      size zero = refl
      size (suc n) = ap suc (size n)

  from_roots : AfterAll (unmarked count) (roots_of w) (all_noted (unmarked count) (roots_of w))
  from_roots = all_after (unmarked count) (roots_of w) none_marked (root_reached w)

  whole : Spread (all_noted (unmarked count) (roots_of w)) (marked w count)
  whole = spread_closes count 0 (all_noted (unmarked count) (roots_of w)) (omega arith) (from_roots).sound
      (λ i r none. absurd (omega (arith, none)))

  -- ---- each is listed once

  abbrev Once : List ℕ → Type 0
  Once list = (i j r : ℕ) → slice_get list i ≡ Some r → slice_get list j ≡ Some r → i ≡ j

  once_more : (m : Marking) (r : ℕ) → slice_get m.marks r ≡ Some false → Sound m → Once m.list → Once (m.list ++ r ∷ [])
  once_more m r e s once i j q f g = by (equal_or_not i (length m.list)) (equal_or_not j (length m.list))
    where
      more : List ℕ
      more = m.list ++ r ∷ []

      older : (k : ℕ) → slice_get more k ≡ Some q → (k ≡ length m.list → ⊥) → slice_get m.list k ≡ Some q
      older k h other =
          let within = get-below more k q h in
          let size = length-more m.list r in
          sym (get-older m.list r k (omega (arith, within, size, other))) ∙ h

      -- the new one was marked before, if it was listed
      never : (k n : ℕ) → slice_get more k ≡ Some q → k ≡ length m.list → slice_get m.list n ≡ Some q → ⊥
      never k n h is old =
          let new : Some r ≡ Some q = sym (get-newest m.list r) ∙ ap (slice_get more) (sym is) ∙ h in
          let same_one : r ≡ q = cc in
          let marked : slice_get m.marks r ≡ Some true = ap (slice_get m.marks) same_one ∙ s.marked n q old in
          cc

      by : (i ≡ length m.list) ⊎ (i ≡ length m.list → ⊥) → (j ≡ length m.list) ⊎ (j ≡ length m.list → ⊥) → i ≡ j
      by (inl a) (inl b) = a ∙ sym b
      by (inl a) (inr b) = absurd (never i j f a (older j g b))
      by (inr a) (inl b) = absurd (never j i g b (older i f a))
      by (inr a) (inr b) = once i j q (older i f a) (older j g b)

  once_noted : (m : Marking) (o : Option ℕ) → Sound m → Once m.list → Once (noted m o).list
  once_noted m None s once = once
  once_noted m (Some r) s once = by (slice_get m.marks r) refl
    where
      by : (mark : Option Bool) → slice_get m.marks r ≡ mark → Once (noted_at m r mark).list
      by None e = once
      by (Some true) e = once
      by (Some false) e = once_more m r e s once

  once_all : (m : Marking) (rs : List (Option ℕ)) → Sound m → AllLed rs → Once m.list → Once (all_noted m rs).list
  once_all m [] s led once = once
  once_all m (o ∷ rs) s led once =
      let one = noted_after m o s (λ r is. led 0 r is) in
      once_all (noted m o) rs one.sound (λ k r is. led (suc k) r is) (once_noted m o s once)

  once_spread : (steps n : ℕ) (m : Marking) → Sound m → Once m.list → Once (spread w steps n m).list
  once_spread zero n m s once = once
  once_spread (suc steps) n m s once = by (slice_get m.list n) refl (λ r is. (
      let led = words_led r (s.reached r (s.marked n r is)) in
      let after = all_after m (words_of w.objects r) s led in
      once_spread steps (suc n) (all_noted m (words_of w.objects r)) after.sound (once_all m (words_of w.objects r) s led once)
      ))
    where
      by : (o : Option ℕ) → slice_get m.list n ≡ o
          → ((r : ℕ) → slice_get m.list n ≡ Some r → Once (spread w steps (suc n) (all_noted m (words_of w.objects r))).list)
          → Once (with_listed m o (λ r. spread w steps (suc n) (all_noted m (words_of w.objects r)))).list
      by None e rest = once
      by (Some r) e rest = rest r e

  all_once : Once (marked w count).list
  all_once = once_spread count 0 (all_noted (unmarked count) (roots_of w)) (from_roots).sound
      (once_all (unmarked count) (roots_of w) none_marked (root_reached w) (λ i j r e. absurd (cc)))

  -- ---- the errors that were made before the run come first

  unmarked_at : (n r : ℕ) → r < n → slice_get (replicate n false) r ≡ Some false
  unmarked_at zero r l = absurd (omega (arith, l))
  unmarked_at (suc n) zero l = refl
  unmarked_at (suc n) (suc r) l = unmarked_at n r (omega (arith, l))

  abbrev errors : Marking
  errors = noted (noted (unmarked count) (Some 1)) (Some 2)

  abbrev rest_of_roots : List (Option ℕ)
  rest_of_roots = slots_of w ++ flat_map roots_of_thread w.threads

  errors_are : 2 < count → errors.list ≡ 1 ∷ 2 ∷ []
  errors_are l =
      let first : slice_get (replicate count false) 1 ≡ Some false = unmarked_at count 1 (omega (arith, l)) in
      let second : slice_get (set (replicate count false) 1 true) 2 ≡ Some false =
      get-set_other (replicate count false) 2 1 true (λ e. (omega (arith, e))) ∙ unmarked_at count 2 l in
      ap (λ o. (noted (noted_at (unmarked count) 1 o) (Some 2)).list) first
      ∙ ap (λ o. (noted_at (with_mark (unmarked count) 1) 2 o).list) second

  errors_kept : Grows errors (marked w count)
  errors_kept =
      let one = noted_after (unmarked count) (Some 1) none_marked (λ r is. root_reached w 0 r is) in
      let two = noted_after (noted (unmarked count) (Some 1)) (Some 2) one.sound (λ r is. root_reached w 1 r is) in
      let rest = all_after errors rest_of_roots two.sound (λ k r is. root_reached w (suc (suc k)) r is) in
      then errors (all_noted errors rest_of_roots) (marked w count) rest.grows (whole).grows

  module _ (all : length w.objects ≤ count) where
    -- what a marked reference leads to is marked
    leads_marked : (steps a b : ℕ) → (a < count → IsMarked (marked w count) a) → b < count
        → leads_within steps w b (Some a) ≡ true → IsMarked (marked w count) b
    unfolding leads_within word_at
    leads_marked zero a b here below e = let is : a ≡ b = eqb-true a b e
        in subst (IsMarked (marked w count)) is (here (omega (arith, is, below)))
    leads_marked (suc steps) a b here below e =
        elim (or-cases (nat_eq a b) (list_any (leads_within steps w b) (words_of w.objects a)) e) [
          | inl same ↦ let is : a ≡ b = eqb-true a b same
              in subst (IsMarked (marked w count)) is (here (omega (arith, is, below)))
          | inr there ↦
              let word = passes (leads_within steps w b) (null_leads steps w b) (words_of w.objects a) there in
              let made = words_made w a word.0 word.1.0 word.1.1.0 in
              leads_marked steps word.1.0 b (λ inside. (whole).closed a (here (omega (arith, made, all))) word.0
              word.1.0 word.1.1.0 inside) below word.1.1.1
        ]

    reached_marked : (b : ℕ) → b < count → is_reached w b ≡ true → IsMarked (marked w count) b
    unfolding is_reached
    reached_marked b below e =
        let root = passes (leads_within (next_birth w) w b) (null_leads (next_birth w) w b) (roots_of w) e in
        leads_marked (next_birth w) root.1.0 b (λ
        inside. (whole).grows.marks root.1.0 ((from_roots).noted_are root.0 root.1.0 root.1.1.0 inside)) below
        root.1.1.1

    pub marks_tell : (r : ℕ) → r < count → slice_get (marked w count).marks r ≡ Some (is_reached w r)
    marks_tell r below =
        let size = (whole).sound.size in
        let mark = get-within (marked w count).marks r (omega (arith, below, size)) in
        mark.1
        ∙ ap (λ (t : Bool). Some t)
        (alike mark.0 (is_reached w r)
        (λ e. Reach-is_reached w r ((whole).sound.reached r (mark.1 ∙ ap (λ (t : Bool). Some t) e)))
        (λ e. (let same : Some mark.0 ≡ Some true = sym mark.1 ∙ reached_marked r below e in cc)))

    -- so the list is a walk
    pub walked : ((b : ℕ) → Reach w b → b < count) → IsWalk w (marked w count).list
    walked made =
        let l = made 2 (root_reached w 1 2 refl) in
        record {
          complete = λ b path. (whole).sound.listed b (reached_marked b (made b path) (Reach-is_reached w b path));
          only = λ k b e. (whole).sound.reached b ((whole).sound.marked k b e);
          once = all_once;
          memory_error = (errors_kept).list 0 1 (ap (λ list. slice_get list 0) (errors_are l));
          stack_error = (errors_kept).list 1 2 (ap (λ list. slice_get list 1) (errors_are l));
        }
