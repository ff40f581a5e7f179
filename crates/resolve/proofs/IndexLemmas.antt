-- Classes by name: what a map finds in which each class goes whose name wasn't there.
use Rattle.std.proofs.Common.{◌≡◌, ◌⊎◌, inl, inr, ℕ, ◌+◌, ◌<◌, ◌≤◌, suc, zero, List, [], ◌∷◌, ◌++◌, length, take}
use Rattle.std.proofs.Common.{get_or, slice_get, Bool, true, false, cond, Option, Some, None, is_some, IfSome, Bor}
use Rattle.std.proofs.Common.{subst, refl, arith, ap, sym, ◌∙◌}
use Rattle.std.specs.List.{find}
use Rattle.std.specs.Map.{lookup}
use Rattle.std.specs.Option.{option_map, option_copied}
use Rattle.std.specs.Str.{bytes_eq}
use Rattle.std.proofs.lemmas.Map.Entries.{All-lookup}
use Rattle.std.proofs.lemmas.Option.{slice_get_within}
use Rattle.std.proofs.lemmas.Slice.Eq.{bytes_eq-Decides}
use Rattle.model.specs.ClassListings.{ClassListing}
use Rattle.model.specs.Classes.Named.{is_named, listed, or_else}
use Rattle.resolve.specs.Indexed.{IsIndex, found_in}

abbrev Tells : Bool → Type 0
Tells b = (b ≡ true) ⊎ (b ≡ false)

tells : (b : Bool) → Tells b
tells true = inl refl
tells false = inr refl

pub turned : (x y : List ℕ) → bytes_eq x y ≡ bytes_eq y x
turned x y = by (bytes_eq x y) (bytes_eq y x) refl refl
  where
    by : (a b : Bool) → bytes_eq x y ≡ a → bytes_eq y x ≡ b → a ≡ b
    by true true p q = refl
    by false false p q = refl
    by true false p q = sym ((bytes_eq-Decides y x).1 (sym ((bytes_eq-Decides x y).0 p))) ∙ q
    by false true p q = sym p ∙ (bytes_eq-Decides x y).1 (sym ((bytes_eq-Decides y x).0 q))

or_none : {A : Type 0} (x : Option A) → or_else x None ≡ x
or_none None = refl
or_none (Some x) = refl

-- one class alone, by its name
abbrev alone : ClassListing → List ℕ → Option ClassListing
alone c name = cond (bytes_eq c.name name) (Some c) None

or-cond : {A : Type 0} (b : Bool) (x : A) (y z : Option A) → or_else (cond b (Some x) y) z
    ≡ cond b (Some x) (or_else y z)
or-cond true x y z = refl
or-cond false x y z = refl

find-last : (cs : List ClassListing) (c : ClassListing) (name : List ℕ) → find (is_named name) (cs ++ c ∷ [])
    ≡ or_else (find (is_named name) cs) (alone c name)
find-last [] c name = refl
find-last (x ∷ xs) c name =
    ap (cond (bytes_eq x.name name) (Some x)) (find-last xs c name)
    ∙ sym (or-cond (bytes_eq x.name name) x (find (is_named name) xs) (alone c name))

map-cond : {A B : Type 0} (f : A → B) (b : Bool) (x : A) (y : Option A) → option_map f (cond b (Some x) y)
    ≡ cond b (Some (f x)) (option_map f y)
map-cond f true x y = refl
map-cond f false x y = refl

module _ {K C : Type 0} (text : K → List ℕ) (class : C → ClassListing) where
  found-last : (entries : List (K × C)) (k : K) (c : C) (name : List ℕ) → text k ≡ (class c).name
      → found_in text class (entries ++ (k, c) ∷ []) name
      ≡ or_else (found_in text class entries name) (alone (class c) name)
  found-last [] k c name is =
      map-cond class (bytes_eq name (text k)) c None
      ∙ ap (λ b. cond b (Some (class c)) None) (ap (bytes_eq name) is ∙ turned name (class c).name)
  found-last (e ∷ es) k c name is =
      map-cond class (bytes_eq name (text e.0)) e.1 (lookup (λ x. bytes_eq name (text x)) (es ++ (k, c) ∷ []))
      ∙ ap (cond (bytes_eq name (text e.0)) (Some (class e.1))) (found-last es k c name is)
      ∙ sym (or-cond (bytes_eq name (text e.0)) (class e.1) (found_in text class es name) (alone (class c) name))
      ∙ ap (λ x. or_else x (alone (class c) name))
      (sym (map-cond class (bytes_eq name (text e.0)) e.1 (lookup (λ x. bytes_eq name (text x)) es)))

  -- the entries find what a list of classes has
  abbrev pub Finds : List (K × C) → List ClassListing → Type 0
  Finds entries cs = (name : List ℕ) → found_in text class entries name ≡ find (is_named name) cs

  pub finds-new : (entries : List (K × C)) (cs : List ClassListing) (k : K) (c : C) → Finds entries cs
      → text k ≡ (class c).name
      → Finds (entries ++ (k, c) ∷ []) (cs ++ class c ∷ [])
  finds-new entries cs k c so is name =
      found-last entries k c name is ∙ ap (λ x. or_else x (alone (class c) name)) (so name)
      ∙ sym (find-last cs (class c) name)

  or-some : (x : Option ClassListing) (y : Option ClassListing) → (x ≡ None → ⊥) → or_else x y ≡ x
  or-some None y some = absurd (some refl)
  or-some (Some x) y some = refl

  pub finds-known : (entries : List (K × C)) (cs : List ClassListing) (c : ClassListing) → Finds entries cs
      → (found_in text class entries c.name ≡ None → ⊥)
      → Finds entries (cs ++ c ∷ [])
  finds-known entries cs c so known name =
      so name ∙ sym (find-last cs c name ∙ same (tells (bytes_eq c.name name)))
    where
      same : Tells (bytes_eq c.name name) → or_else (find (is_named name) cs) (alone c name) ≡ find (is_named name) cs
      same (inl t) =
          let is : c.name ≡ name = (bytes_eq-Decides c.name name).0 t in
          or-some (find (is_named name) cs) (alone c name) (λ none. known (ap (found_in text class entries) is ∙ so name
          ∙ none))
      same (inr f) = rw f (or_none (find (is_named name) cs))

pub take-next : {A : Type 0} (cs : List A) (n : ℕ) (c : A) → c ≡ get_or cs n c → n < length cs → take (n + 1) cs
    ≡ take n cs ++ c ∷ []
take-next {A = A} cs n c is inside = let next : n + 1 ≡ suc n = omega arith in rw next (by cs n is inside)
  where
    by : (cs : List A) (n : ℕ) → c ≡ get_or cs n c → n < length cs → take (suc n) cs ≡ take n cs ++ c ∷ []
    by [] n is inside = absurd (omega arith)
    by (x ∷ xs) zero is inside = ap (λ y. y ∷ []) (sym is)
    by (x ∷ xs) (suc n) is inside = ap (λ rest. x ∷ rest) (by xs n is (omega arith))

pub take-all : {A : Type 0} (cs : List A) (n : ℕ) → length cs ≤ n → take n cs ≡ cs
take-all [] zero h = refl
take-all [] (suc n) h = refl
take-all (x ∷ xs) zero h = absurd (omega arith)
take-all (x ∷ xs) (suc n) h = ap (λ rest. x ∷ rest) (take-all xs n (omega arith))

pub no_value : {V : Type 0} (r : Option (Bor V)) → is_some r ≡ false → {x : Option V} → option_copied r ≡ x → x ≡ None
no_value None h e = sym e
no_value (Some v) h e = cc

pub some_value : {V : Type 0} (class : V → ClassListing) (r : Option (Bor V)) → is_some r ≡ true → {x : Option V}
    → option_copied r ≡ x
    → option_map class x ≡ None → ⊥
some_value class None h e n = cc
some_value class (Some v) h e n = differ (ap (option_map class) e ∙ n)
  where
    differ : Some (class v.now) ≡ None → ⊥
    differ p = cc

pub slice-none : {A : Type 0} (xs : List A) (n : ℕ) → length xs ≤ n → None ≡ slice_get xs n
slice-none [] n over = refl
slice-none (x ∷ xs) zero over = absurd (omega arith)
slice-none (x ∷ xs) (suc n) over = slice-none xs n (omega arith)

pub slice-there : {A : Type 0} (cs : List A) (n : ℕ) (c : A) → c ≡ get_or cs n c → n < length cs → slice_get cs n
    ≡ Some c
slice-there [] n c is inside = absurd (omega arith)
slice-there (x ∷ xs) zero c is inside = ap (λ y. Some y) (sym is)
slice-there (x ∷ xs) (suc n) c is inside = slice-there xs n c is (omega arith)

-- the place that an entry has is that of the class of its name
module _ {K C : Type 0} (text : K → List ℕ) (class : C → ClassListing) (number : C → ℕ) (program : List ClassListing)
    (entries : List (K × C))
    (name : List ℕ) (c : C) (index : IsIndex text class number program entries) (found : Some c
    ≡ lookup (λ k. bytes_eq name (text k)) entries) where
  placed : slice_get program (number c) ≡ Some (class c)
  placed =
      subst (λ (x : Option C). IfSome x (λ c. slice_get program (number c) ≡ Some (class c))) (sym found)
      (All-lookup (λ c. slice_get program (number c) ≡ Some (class c)) (λ k. bytes_eq name (text k)) entries
      index.placed)

  pub numbered : slice_get program (number c) ≡ listed program name
  numbered = placed ∙ ap (option_map class) found ∙ index.finds name

  pub number-inside : number c < length program
  number-inside = slice_get_within program (number c) (class c) placed
