-- What the code of a program refers to is there, where no class refers to what isn't.
use Rattle.std.proofs.Common.{◌≡◌, ℕ, zero, suc, List, [], ◌∷◌, Bool, true, false, ◌||◌, not, cond, length, Option}
use Rattle.std.proofs.Common.{Some, None, refl, ap, sym, ◌∙◌}
use Rattle.std.specs.Prelude.{◌==◌, slice_get}
use Rattle.std.specs.List.{find, list_any}
use Rattle.std.specs.Option.{option_and_then}
use Rattle.model.specs.declared.listings.ExceptionRow.{ExceptionRow}
use Rattle.model.specs.declared.listings.Method.{Method}
use Rattle.model.specs.declared.listings.Placed.{Placed}
use Rattle.model.specs.declared.places.MethodPlace.{MethodPlace}
use Rattle.model.specs.Accepted.References.{catch_resolves, has_unresolved, is_unresolved_in, resolves}
use Rattle.model.specs.ClassListings.{ClassListing}
use Rattle.model.specs.Classes.Named.{or_else}
use Rattle.model.specs.CodeListings.{CodeListing}
use Rattle.model.specs.Programs.{code_at, empty_initializer, method_at, method_in, placed_at}

pub neither : (a b : Bool) → (a || b) ≡ false → (a ≡ false) × (b ≡ false)
neither true b e = cc
neither false b e = (refl, e)

pub was-not : (b : Bool) → not b ≡ false → b ≡ true
was-not true e = refl
was-not false e = cc

-- what none is found to be, none is
pub none-found-at : {A : Type 0} (p : A → Bool) (xs : List A) (n : ℕ) (x : A) → find p xs ≡ None → slice_get xs n
    ≡ Some x
    → p x ≡ false
none-found-at p [] n x none e = cc
none-found-at p (y ∷ ys) n x none e = by (p y) refl none n e (λ n rest e. none-found-at p ys n x rest e) where
  by : (b : Bool) → p y ≡ b → cond b (Some y) (find p ys) ≡ None → (n : ℕ) → slice_get (y ∷ ys) n ≡ Some x
      → ((n : ℕ) → find p ys ≡ None → slice_get ys n ≡ Some x → p x ≡ false) → p x ≡ false
  by true h none n e rest = cc
  by false h none zero e rest = let same : y ≡ x = cc in ap p (sym same) ∙ h
  by false h none (suc n) e rest = rest n none e

pub none-any-at : {A : Type 0} (p : A → Bool) (xs : List A) (n : ℕ) (x : A) → list_any p xs ≡ false
    → slice_get xs n ≡ Some x → p x ≡ false
none-any-at p [] n x none e = cc
none-any-at p (y ∷ ys) zero x none e = let same : y ≡ x = cc in ap p (sym same) ∙ (neither (p y) (list_any p ys) none).0
none-any-at p (y ∷ ys) (suc n) x none e = none-any-at p ys n x (neither (p y) (list_any p ys) none).1 e

none-any-found : {A : Type 0} (p q : A → Bool) (xs : List A) (x : A) → list_any p xs ≡ false → find q xs ≡ Some x
    → p x ≡ false
none-any-found p q [] x none e = cc
none-any-found p q (y ∷ ys) x none e =
    by (q y) e (λ rest. none-any-found p q ys x (neither (p y) (list_any p ys) none).1 rest) where
      by : (b : Bool) → cond b (Some y) (find q ys) ≡ Some x → (find q ys ≡ Some x → p x ≡ false) → p x ≡ false
      by true e rest = let same : y ≡ x = cc in ap p (sym same) ∙ (neither (p y) (list_any p ys) none).0
      by false e rest = rest e

pub and_then-some : {A B : Type 0} (f : A → Option B) (o : Option A) (y : B) → option_and_then f o ≡ Some y
    → (x : A) × (o ≡ Some x) × (f x ≡ Some y)
and_then-some f None y e = cc
and_then-some f (Some x) y e = (x, refl, e)

-- what no method of a class is found to be, none of its methods is, its empty initializer among them
module _ (p : Method → Bool) (empty : p empty_initializer ≡ false) where
  in_empty : (b : Bool) (m : Method) → cond b (Some empty_initializer) None ≡ Some m → p m ≡ false
  in_empty true m e = let same : empty_initializer ≡ m = cc in ap p (sym same) ∙ empty
  in_empty false m e = cc

  pub in_methods : (c : ClassListing) (n : ℕ) (m : Method) → list_any p c.methods ≡ false
      → method_in c n ≡ Some m → p m ≡ false
  in_methods c n m none e = by (slice_get c.methods n) refl e
    where
      by : (o : Option Method) → slice_get c.methods n ≡ o
          → or_else o (cond (n == length c.methods) (Some empty_initializer) None) ≡ Some m
          → p m ≡ false
      by None at k = in_empty (n == length c.methods) m k
      by (Some x) at k = none-any-at p c.methods n m none (at ∙ k)

module _ (program : List ClassListing) (none : find (has_unresolved program) program ≡ None) where
  abbrev is_unresolved : Method → Bool
  is_unresolved m = is_unresolved_in program m.code

  in_classes : (n : ℕ) (c : ClassListing) → slice_get program n ≡ Some c → list_any is_unresolved c.methods ≡ false
  unfolding has_unresolved
  in_classes n c e = none-found-at (has_unresolved program) program n c none e

  -- an instruction at a pc of a method
  pub placed-resolves : (place : MethodPlace) (code : CodeListing) (pc : ℕ) (i : Placed)
      → code_at program place ≡ Some code
      → placed_at code pc ≡ Some i → resolves program i.instruction ≡ true
  placed-resolves place code pc i there at =
      let method = and_then-some (λ (m : Method). m.code) (method_at program place) code there in
      let class = and_then-some (λ (c : ClassListing). method_in c place.method)
      (slice_get program place.class) method.0 method.1 in
      let whole : is_unresolved_in program (Some code) ≡ false =
      ap (is_unresolved_in program) (sym method.2)
      ∙ in_methods is_unresolved refl class.0 place.method method.0 (in_classes place.class class.0 class.1) class.2 in
      was-not (resolves program i.instruction)
      (none-any-found (λ (i : Placed). not (resolves program i.instruction))
      (λ (i : Placed). i.pc == pc) code.instructions i
      (neither (list_any (λ (i : Placed). not (resolves program i.instruction)) code.instructions)
      (list_any (λ (row : ExceptionRow). not (catch_resolves program row.class)) code.rows) whole).0 at)
