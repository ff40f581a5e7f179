use Rattle.std.proofs.Common.{◌≡◌, ℕ, zero, suc, ◌+◌, ◌≤◌, List, ◌∷◌, replicate, Some, refl, sym, ap, subst, arith}
use Rattle.std.proofs.lemmas.List.{map-id}
use Rattle.model.specs.declared.colours.Colour.{Colour}
use Rattle.model.specs.declared.colours.Colour.TheVariants.{White}
use Rattle.model.specs.declared.journals.HeapShape.{HeapShape}
use Rattle.model.specs.ClassListings.{ClassListing}
use Rattle.model.specs.Limits.{ShapeFits}
use Rattle.model.specs.Accounts.{Account, opening_account}
use Rattle.model.specs.declared.colours.Cell.TheVariants.{Free, Taken}
use Rattle.model.specs.Worlds.{opening_world, opening_objects}
use Rattle.model.specs.Machines.{opening_machine}
use Rattle.model.specs.Collector.Places.{word_at, words_of, ref_at}
use Rattle.model.specs.Collector.Table.{cell_at}
use Rattle.join.specs.Naming.{Named}
use Rattle.join.specs.TurnsOnCells.{opening_on}
use Rattle.join.specs.Joined.{Joint, Bounded}

-- the opening is joined, and its words lead nowhere

-- births 1 and 2 stand in the first two cells
no_birth : (n c b : ℕ) (x : Colour) → cell_at (replicate n Free) c ≡ Taken b x → ⊥
no_birth zero c b x e = cc
no_birth (suc n) zero b x e = cc
no_birth (suc n) (suc c) b x e = no_birth n c b x e

two_named : (n : ℕ) → Named (λ b. b) (Taken 1 White ∷ Taken 2 White ∷ replicate n Free)
two_named n zero b x e = (let k : 1 ≡ b = cc in sym k)
two_named n (suc zero) b x e = (let k : 2 ≡ b = cc in sym k)
two_named n (suc (suc c)) b x e = absurd (no_birth n c b x e)

pub two_cells : (s m l : ℕ) → 2 ≤ s + m + l → (n : ℕ)
    × ((opening_account (record { small = s; medium = m; large = l })).cells ≡ Taken 1 White ∷ Taken 2 White
    ∷ replicate n Free)
two_cells (suc (suc s)) m l two = (
  s + m + l,
  let k : suc (suc s) + m + l ≡ suc (suc (s + m + l)) = omega arith
      in rw k refl,
)
two_cells (suc zero) (suc m) l two = (
  m + l,
  let k : suc zero + suc m + l ≡ suc (suc (m + l)) = omega arith
      in rw k refl,
)
two_cells (suc zero) zero (suc l) two = (l, let k : suc zero + zero + suc l ≡ suc (suc l) = omega arith in rw k refl)
two_cells (suc zero) zero zero two = absurd (omega arith)
two_cells zero (suc (suc m)) l two = (
  m + l,
  let k : zero + suc (suc m) + l ≡ suc (suc (m + l)) = omega arith
      in rw k refl,
)
two_cells zero (suc zero) (suc l) two = (l, let k : zero + suc zero + suc l ≡ suc (suc l) = omega arith in rw k refl)
two_cells zero (suc zero) zero two = absurd (omega arith)
two_cells zero zero (suc (suc l)) two = (l, let k : zero + zero + suc (suc l) ≡ suc (suc l) = omega arith in rw k refl)
two_cells zero zero (suc zero) two = absurd (omega arith)
two_cells zero zero zero two = absurd (omega arith)

pub opening_joint : (program : List ClassListing) (shape : HeapShape) → 2 ≤ shape.small + shape.medium + shape.large
    → Joint (opening_on program shape) (opening_machine program shape)
opening_joint program shape two =
    let k = two_cells shape.small shape.medium shape.large two in
    record {
      naming = λ b. b;
      joined = record {
        world = refl;
        account = ap (λ grey. let a : Account = record (opening_account shape) { grey = grey }
            in a) (sym (map-id (opening_account shape).grey));
        births = refl;
        named = subst (Named (λ b. b)) (sym k.1) (two_named k.0);
        memory_error = refl;
        stack_error = refl;
      };
    }

no_word : (x k b : ℕ) → ref_at (words_of opening_objects x) k ≡ Some b → ⊥
no_word zero k b e = cc
no_word (suc zero) k b e = cc
no_word (suc (suc zero)) k b e = cc
no_word (suc (suc (suc x))) k b e = cc

pub opening_bounded : (program : List ClassListing) → Bounded (opening_world program)
unfolding word_at
opening_bounded program x k b e = absurd (no_word x k b e)

pub opening_joins : (program : List ClassListing) (shape : HeapShape) → ShapeFits shape.small shape.medium shape.large
    → Joint (opening_on program shape) (opening_machine program shape)
opening_joins program shape fits = opening_joint program shape fits.0
