use Rattle.std.proofs.Common.{◌≡◌, ℕ, zero, suc, ◌+◌, arith, List, [], ◌∷◌, ◌++◌, slice_get, Bool, true, false, not, ◌||◌}
use Rattle.std.proofs.Common.{cond, if◌then◌else◌, eqb, Some, refl, sym, ◌∙◌, ap, subst}
use Rattle.std.specs.List.{list_any, position_or_len}
use Rattle.std.specs.Str.{bytes_eq}
use Rattle.std.proofs.lemmas.Bool.{eqb-true, and_parts}
use Rattle.std.proofs.lemmas.Slice.Eq.{bytes_eq-Decides}
use Rattle.indexmap.specs.IndexSet.{insert_key}
use Rattle.exploring.specs.declared.chains.Link.{Link}
use Rattle.exploring.specs.Chains.{Chains, IsBefore, IsChain, chained, is_same, one_more, started}

-- what is kept once is known by its number

-- what had a number still has it
abbrev pub Keeps : {A : Type 0} → List A → List A → Type 0
Keeps {A} xs ys = (n : ℕ) (x : A) → slice_get xs n ≡ Some x → slice_get ys n ≡ Some x

module _ {A : Type 0} where
  with_more : (xs ys : List A) → Keeps xs (xs ++ ys)
  with_more [] ys n x e = absurd (cc)
  with_more (y ∷ xs) ys zero x e = e
  with_more (y ∷ xs) ys (suc n) x e = with_more xs ys n x e

  further : (x : A) (xs : List A) (n : ℕ) → slice_get (x ∷ xs) (1 + n) ≡ slice_get xs n
  further x xs n = (let e : 1 + n ≡ suc n = omega arith in ap (slice_get (x ∷ xs)) e)

  module _ (eq : A → A → Bool) where
    pub entry_keeps : (xs : List A) (x : A) → Keeps xs (insert_key eq xs x)
    entry_keeps xs x n y e = by (list_any (eq x) xs)
      where
        by : (there : Bool) → slice_get (if there then xs else xs ++ x ∷ []) n ≡ Some y
        by true = e
        by false = with_more xs (x ∷ []) n y e

    pub entered : ((x y : A) → eq x y ≡ true → x ≡ y) → (xs : List A) (x : A)
        → slice_get (insert_key eq xs x) (position_or_len (eq x) xs) ≡ Some x
    entered same [] x = refl
    entered same (y ∷ xs) x =
        by (eq x y) (list_any (eq x) xs) (position_or_len (eq x) xs) (entered same xs x) (λ e. sym (same x y e))
      where
        by : (this there : Bool) (n : ℕ) → slice_get (if there then xs else xs ++ x ∷ []) n ≡ Some x → (this ≡ true → y ≡ x)
            → slice_get (if this || there then y ∷ xs else (y ∷ xs) ++ x ∷ []) (cond (not this) (1 + n) 0) ≡ Some x
        by true there n e is = ap (λ (z : A). Some z) (is refl)
        by false true n e is = further y xs n ∙ e
        by false false n e is = further y (xs ++ x ∷ []) n ∙ e

pub same_link : (l m : Link) → is_same l m ≡ true → l ≡ m
same_link l m e =
    let both = and_parts (eqb l.before m.before) (eqb l.piece m.piece) e in
    rw (eqb-true l.before m.before both.0, eqb-true l.piece m.piece both.1) refl

same_bytes : (xs ys : List ℕ) → bytes_eq xs ys ≡ true → xs ≡ ys
same_bytes xs ys e = (bytes_eq-Decides xs ys).0 e

-- ---- a chain says the same whatever else comes

module _ (ps qs : List (List ℕ)) (ls ms : List Link) (pieces : Keeps ps qs) (links : Keeps ls ms) where
  before_kept : (xs : List (List ℕ)) (n : ℕ) → IsBefore ps ls n xs → IsBefore qs ms n xs
  before_kept [] n e = e
  before_kept (x ∷ xs) n e =
      (e.0, e.1, e.2, links e.0 e.1 e.3, pieces e.1.piece x e.4, before_kept xs e.1.before e.5)

  pub chain_kept : (l : Link) (xs : List (List ℕ)) → IsChain ps ls l xs → IsChain qs ms l xs
  chain_kept l [] e = e
  chain_kept l (x ∷ xs) e = (pieces l.piece x e.0, before_kept xs l.before e.1)

-- ---- and says one thing

module _ (ps : List (List ℕ)) (ls : List Link) where
  before_tells : (xs ys : List (List ℕ)) (n : ℕ) → IsBefore ps ls n xs → IsBefore ps ls n ys → xs ≡ ys
  before_tells [] [] n e f = refl
  before_tells [] (y ∷ ys) n e f = absurd (let k = f.2 in omega (arith, e, k))
  before_tells (x ∷ xs) [] n e f = absurd (let k = e.2 in omega (arith, f, k))
  before_tells (x ∷ xs) (y ∷ ys) n e f =
      let j = e.2 in
      let k = f.2 in
      let place : e.0 ≡ f.0 = omega (arith, j, k) in
      let these : Some e.1 ≡ Some f.1 = sym e.3 ∙ ap (slice_get ls) place ∙ f.3 in
      let link : e.1 ≡ f.1 = cc in
      let both : Some x ≡ Some y = sym e.4 ∙ ap (λ (l : Link). slice_get ps l.piece) link ∙ f.4 in
      let piece : x ≡ y = cc in
      let rest = before_tells xs ys e.1.before e.5 (subst (λ (l : Link). IsBefore ps ls l.before ys) (sym link) f.5) in
      rw (piece, rest) refl

  pub chain_tells : (xs ys : List (List ℕ)) (l : Link) → IsChain ps ls l xs → IsChain ps ls l ys → xs ≡ ys
  chain_tells [] ys l e f = absurd e
  chain_tells (x ∷ xs) [] l e f = absurd f
  chain_tells (x ∷ xs) (y ∷ ys) l e f =
      let both : Some x ≡ Some y = sym e.0 ∙ f.0 in
      let piece : x ≡ y = cc in
      rw (piece, before_tells xs ys l.before e.1 f.1) refl

-- ---- making one

abbrev IsMade : Chains → List (List ℕ) → Type 0
IsMade c xs = IsChain c.pieces c.links c.last xs

pub start_is : (c : Chains) (x : List ℕ) → IsChain (started c x).pieces (started c x).links (started c x).last (x ∷ [])
start_is c x = (entered bytes_eq same_bytes c.pieces x, refl)

one_more_is : (c : Chains) (x : List ℕ) (xs : List (List ℕ)) → IsMade c xs → IsMade (one_more c x) (x ∷ xs)
one_more_is c x [] e = absurd e
one_more_is c x (y ∷ ys) e =
    let pieces = entry_keeps bytes_eq c.pieces x in
    let links = entry_keeps is_same c.links c.last in
    let new = one_more c x in (
      entered bytes_eq same_bytes c.pieces x,
      (
        position_or_len (is_same c.last) c.links,
        c.last,
        refl,
        entered is_same same_link c.links c.last,
        pieces c.last.piece y e.0,
        before_kept c.pieces new.pieces c.links new.links pieces links ys c.last.before e.1,
      ),
    )

-- the pieces with those that were added, the last one first
abbrev pub onto : List (List ℕ) → List (List ℕ) → List (List ℕ)
onto done [] = done
onto done (x ∷ xs) = onto (x ∷ done) xs

pub chained_is : (xs : List (List ℕ)) (c : Chains) (done : List (List ℕ)) → IsChain c.pieces c.links c.last done
    → IsChain (chained c xs).pieces (chained c xs).links (chained c xs).last (onto done xs)
chained_is [] c done e = e
chained_is (x ∷ xs) c done e = chained_is xs (one_more c x) (x ∷ done) (one_more_is c x done e)

-- what was there stays

pub chained_pieces : (xs : List (List ℕ)) (c : Chains) → Keeps c.pieces (chained c xs).pieces
chained_pieces [] c n x e = e
chained_pieces (y ∷ xs) c n x e = chained_pieces xs (one_more c y) n x (entry_keeps bytes_eq c.pieces y n x e)

pub chained_links : (xs : List (List ℕ)) (c : Chains) → Keeps c.links (chained c xs).links
chained_links [] c n l e = e
chained_links (y ∷ xs) c n l e = chained_links xs (one_more c y) n l (entry_keeps is_same c.links c.last n l e)

-- ---- one row of pieces after another

pub chained-append : (c : Chains) (xs ys : List (List ℕ)) → chained c (xs ++ ys) ≡ chained (chained c xs) ys
chained-append c [] ys = refl
chained-append c (x ∷ xs) ys = chained-append (one_more c x) xs ys

pub ruleset chains = (chained-append)
