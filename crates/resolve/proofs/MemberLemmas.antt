-- The first member of each name and descriptor, as a map gets members one by one.
use Rattle.std.proofs.Common.{◌≡◌, ℕ, ◌+◌, ◌<◌, ◌≤◌, List, [], ◌∷◌, ◌++◌, length, take, get_or, Bool, true, false, cond}
use Rattle.std.proofs.Common.{◌&&◌, Option, Some, None, is_some, Bor, refl, sym, ap, ◌∙◌}
use Rattle.std.specs.List.{find}
use Rattle.std.specs.Map.{lookup}
use Rattle.std.specs.Option.{option_copied, option_map}
use Rattle.std.specs.Str.{bytes_eq}
use Rattle.std.proofs.lemmas.Slice.Eq.{bytes_eq-Decides}
use Rattle.model.specs.Classes.Named.{or_else}
use Rattle.resolve.specs.Members.{Signed, found_under}
use Rattle.resolve.proofs.IndexLemmas.{take-all, take-next}
use Rattle.resolve.proofs.ListLemmas.{and-left, and-right}

module _ {M : Type 0} where
  abbrev value : Option (Bor M) → Option M
  value m = option_map (λ m. m.now) m

  abbrev at : Signed M → List ℕ → List ℕ → Option (Bor M)
  at entries n d = lookup (λ k. bytes_eq n k.0.bytes.now && bytes_eq d k.1.bytes.now) entries

  no-value : (r : Option (Bor M)) (x : Option M) → is_some r ≡ false → option_copied r ≡ x → x ≡ None
  no-value None x h e = sym e
  no-value (Some v) x h e = cc

  added : (b : Bool) (old : Option (Bor M)) (m : Bor M) → (b ≡ true → value old ≡ None)
      → value (cond b (Some m) old) ≡ or_else (value old) (cond b (Some m.now) None)
  added true None m none = refl
  added true (Some v) m none = absurd (differ (none refl))
    where
      differ : Some v.now ≡ None → ⊥
      differ e = cc
  added false None m none = refl
  added false (Some v) m none = refl

  -- a member more, of a name and descriptor that weren't there
  pub added-first : (entries more : Signed M) (name descriptor : List ℕ) (member : Bor M) (r : Option (Bor M))
      → is_some r ≡ false
      → option_copied r ≡ found_under entries name descriptor
      → ((n d : List ℕ) → at more n d ≡ cond (bytes_eq name n && bytes_eq descriptor d) (Some member) (at entries n d))
      → (n d : List ℕ) → found_under more n d
      ≡ or_else (found_under entries n d) (cond (bytes_eq name n && bytes_eq descriptor d) (Some member.now) None)
  added-first entries more name descriptor member r none got updates n d =
      ap value (updates n d)
      ∙ added (bytes_eq name n && bytes_eq descriptor d) (at entries n d) member
      (λ same.
      let is : name ≡ n = (bytes_eq-Decides name n).0 (and-left (bytes_eq name n) (bytes_eq descriptor d) same) in
      let says : descriptor ≡ d = (bytes_eq-Decides descriptor d).0 (and-right (bytes_eq name n) (bytes_eq descriptor d)
      same) in
      ap (λ (x : List ℕ). found_under entries x d) (sym is)
      ∙ ap (found_under entries name) (sym says)
      ∙ no-value r (found_under entries name descriptor) none got)

  or-cond : (b : Bool) (x : M) (y z : Option M) → or_else (cond b (Some x) y) z ≡ cond b (Some x) (or_else y z)
  or-cond true x y z = refl
  or-cond false x y z = refl

  find-last : (q : M → Bool) (xs : List M) (x : M) → find q (xs ++ x ∷ [])
      ≡ or_else (find q xs) (cond (q x) (Some x) None)
  find-last q [] x = refl
  find-last q (y ∷ ys) x =
      ap (cond (q y) (Some y)) (find-last q ys x) ∙ sym (or-cond (q y) y (find q ys) (cond (q x) (Some x) None))

  -- the entries find the first of these members that pass a test
  abbrev pub Finds : (List ℕ → List ℕ → M → Bool) → Signed M → List M → Type 0
  Finds test entries xs = (n d : List ℕ) → found_under entries n d ≡ find (test n d) xs

  pub found-more : (test : List ℕ → List ℕ → M → Bool) (entries more : Signed M) (xs : List M) (i : ℕ) (x : M)
      → Finds test entries (take i xs)
      → x ≡ get_or xs i x → i < length xs
      → ((n d : List ℕ) → found_under more n d ≡ or_else (found_under entries n d) (cond (test n d x) (Some x) None))
      → Finds test more (take (i + 1) xs)
  found-more test entries more xs i x finds is inside adds n d =
      adds n d
      ∙ ap (λ o. or_else o (cond (test n d x) (Some x) None)) (finds n d)
      ∙ sym (find-last (test n d) (take i xs) x)
      ∙ ap (find (test n d)) (sym (take-next xs i x is inside))

  or-none : (x : Option M) → x ≡ or_else x None
  or-none None = refl
  or-none (Some x) = refl

  pub found-same : (test : List ℕ → List ℕ → M → Bool) (entries : Signed M) (xs : List M) (i : ℕ) (x : M)
      → Finds test entries (take i xs)
      → x ≡ get_or xs i x → i < length xs → ((n d : List ℕ) → test n d x ≡ false) → Finds test entries (take (i + 1) xs)
  found-same test entries xs i x finds is inside fails =
      found-more test entries entries xs i x finds is inside
      (λ n d. or-none (found_under entries n d) ∙ ap (λ b. or_else (found_under entries n d) (cond b (Some x) None))
      (sym (fails n d)))

  pub found-all : (test : List ℕ → List ℕ → M → Bool) (entries : Signed M) (xs : List M) (i : ℕ)
      → Finds test entries (take i xs) → length xs ≤ i → Finds test entries xs
  found-all test entries xs i finds done n d = finds n d ∙ ap (find (test n d)) (take-all xs i done)

  -- the same of a member with this name and descriptor
  pub added-named : (entries more : Signed M) (a b name descriptor : List ℕ) (x : M) → a ≡ name → b ≡ descriptor
      → ((n d : List ℕ) → found_under more n d
      ≡ or_else (found_under entries n d) (cond (bytes_eq a n && bytes_eq b d) (Some x) None))
      → (n d : List ℕ) → found_under more n d
      ≡ or_else (found_under entries n d) (cond (bytes_eq name n && bytes_eq descriptor d) (Some x) None)
  added-named entries more a b name descriptor x is says adds n d =
      adds n d
      ∙ ap (λ (k : List ℕ). or_else (found_under entries n d) (cond (bytes_eq k n && bytes_eq b d) (Some x) None)) is
      ∙ ap (λ (k : List ℕ). or_else (found_under entries n d) (cond (bytes_eq name n && bytes_eq k d) (Some x) None))
      says

pub and-passes : (b v : Bool) → v ≡ true → b ≡ (b && v)
and-passes true v e = sym e
and-passes false v e = refl

pub and-fails : (b v : Bool) → v ≡ false → (b && v) ≡ false
and-fails true v e = e
and-fails false v e = refl
