-- The listings of sources, one by one.
use Rattle.std.proofs.Common.{◌≡◌, ◌+◌, ◌<◌, ℕ, zero, suc, List, [], ◌∷◌, ◌++◌, length, take, get_or, Some, false, refl}
use Rattle.std.proofs.Common.{ap, sym, ◌∙◌, arith, subst, Vec}
use Rattle.std.proofs.lemmas.List.{map_push, take_more, take_all}
use Rattle.std.specs.Global.{Global}
use Rattle.std.specs.Prelude.{slice_get}
use Rattle.model.specs.declared.journals.HeapShape.{HeapShape}
use Rattle.model.specs.declared.journals.Limits.{Limits}
use Rattle.model.specs.ClassListings.{ClassListing}
use Rattle.model.specs.Limits.{LimitsFit, ShapeFits}
use Rattle.model.specs.Worlds.{opening_fits}
use Rattle.scheduler.specs.declared.worlds.WorldError.{WorldError}
use Rattle.scheduler.specs.declared.worlds.WorldError.TheVariants.{Shape, Limits as OfLimits, Memory as WorldMemory}
use Rattle.scheduler.specs.declared.worlds.WorldError.TheVariants.{Frames as OpeningFrames}
use Rattle.launcher.specs.declared.sources.SourceError.{SourceError}
use Rattle.launcher.specs.Launching.{AreAccepted, AreListings, ExcusesWorld, IsListing, IsRefusedAt, LacksMemory}
use Rattle.launcher.specs.Launching.{bytes_of}

abbrev pub Source : Type 0
Source = Vec ℕ Global

more : (ss : List (List ℕ)) (ls : List ClassListing) (s : List ℕ) (l : ClassListing) → AreListings ss ls → IsListing s l
    → AreListings (ss ++ s ∷ []) (ls ++ l ∷ [])
more [] [] s l are is = (is, tt)
more [] (x ∷ xs) s l are is = absurd are
more (s0 ∷ ss) [] s l are is = absurd are
more (s0 ∷ ss) (l0 ∷ ls) s l are is = (are.0, more ss ls s l are.1 is)

with_next : (sources : List Source) (n : ℕ) (s : Source) → n < length sources → s ≡ get_or sources n s
    → bytes_of (take (n + 1) sources) ≡ bytes_of (take n sources) ++ s.items ∷ []
with_next sources n s inside is =
    ap bytes_of (take_more sources n s inside ∙ ap (λ (x : Source). take n sources ++ x ∷ []) (sym is))
    ∙ map_push (λ (x : Source). x.items) (take n sources) s

-- one source more has its listing
pub one_more : (sources : List Source) (n : ℕ) (s : Source) (front : List ClassListing) (l : ClassListing)
    → n < length sources → s ≡ get_or sources n s → IsListing s.items l → AreListings (bytes_of (take n sources)) front
    → AreListings (bytes_of (take (n + 1) sources)) (front ++ l ∷ [])
one_more sources n s front l inside is listing so_far =
    subst (λ (ss : List (List ℕ)). AreListings ss (front ++ l ∷ [])) (sym (with_next sources n s inside is))
    (more (bytes_of (take n sources)) front s.items l so_far listing)

taken : (sources : List Source) (n : ℕ) → bytes_of (take n sources) ≡ take n (bytes_of sources)
taken [] zero = refl
taken [] (suc n) = refl
taken (x ∷ xs) zero = refl
taken (x ∷ xs) (suc n) = ap (λ (r : List (List ℕ)). x.items ∷ r) (taken xs n)

at-place : (sources : List Source) (n : ℕ) (s : Source) → n < length sources → slice_get (bytes_of sources) n
    ≡ Some (get_or sources n s).items
at-place [] n s inside = absurd (omega (arith, inside))
at-place (x ∷ xs) zero s inside = refl
at-place (x ∷ xs) (suc n) s inside = at-place xs n s (omega (arith, inside))

-- the source at a place is refused, those before it being read
pub refused_at : (sources : List Source) (n : ℕ) (s : Source) (front : List ClassListing) (error : SourceError)
    → n < length sources
    → s ≡ get_or sources n s → AreListings (bytes_of (take n sources)) front
    → ((LacksMemory error → ⊥) → (l : ClassListing) → IsListing s.items l → ⊥) → IsRefusedAt (bytes_of sources) n error
refused_at sources n s front error inside is so_far none = record {
  source = s.items;
  there = at-place sources n s inside ∙ ap (λ (x : Source). Some x.items) (sym is);
  none = none;
  before = front;
  before_are = subst (λ (ss : List (List ℕ)). AreListings ss front) (taken sources n) so_far;
}

pub all_read : (sources : List Source) (n : ℕ) (front : List ClassListing) → n ≡ length sources
    → AreListings (bytes_of (take n sources)) front → AreListings (bytes_of sources) front
all_read sources n front at_end so_far =
    subst (λ (ss : List Source). AreListings (bytes_of ss) front) (take_all n sources (omega (arith, at_end))) so_far

-- ---- why there is no world

pub world_excused : (sources : List (List ℕ)) (shape : HeapShape) (limits : Limits) (error : WorldError)
    (sound : AreAccepted sources)
    → (error ≡ Shape → ShapeFits shape.small shape.medium shape.large → ⊥)
    → (error ≡ OfLimits → ShapeFits shape.small shape.medium shape.large × (LimitsFit limits.steps limits.output → ⊥))
    → (error ≡ OpeningFrames → opening_fits sound.program ≡ false)
    → (error ≡ OpeningFrames → ShapeFits shape.small shape.medium shape.large × LimitsFit limits.steps limits.output)
    → ExcusesWorld sources shape limits error
world_excused sources shape limits Shape sound wrong_shape wrong_limits wide ranges = (sound, wrong_shape refl)
world_excused sources shape limits OfLimits sound wrong_shape wrong_limits wide ranges =
    (sound, (wrong_limits refl).0, (wrong_limits refl).1)
world_excused sources shape limits WorldMemory sound wrong_shape wrong_limits wide ranges = tt
world_excused sources shape limits OpeningFrames sound wrong_shape wrong_limits wide ranges = (
  record {
    program = sound.program;
    listings_are = sound.listings_are;
    accepted = sound.accepted;
    wide = wide refl;
  },
  (ranges refl).0,
  (ranges refl).1,
)
