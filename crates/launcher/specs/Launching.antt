use Rattle.std.specs.Prelude.{◌≡◌, ℕ, Bool, true, false, List, [], ◌∷◌, map, slice_get, take, Some, None, Vec}
use Rattle.std.specs.Str.{bytes_eq}
use Rattle.std.specs.Global.{Global}
use Rattle.jasmin.specs.declared.errors.Fault.TheVariants.{Memory as TextMemory}
use Rattle.assembler.specs.declared.error.AsmError.TheVariants.{Memory as AsmMemory}
use Rattle.classfile.specs.declared.error.ClassError.TheVariants.{Memory as ClassMemory}
use Rattle.acceptance.specs.Errors.{IsRefusedBy}
use Rattle.model.specs.Limits.{ShapeFits, LimitsFit}
use Rattle.scheduler.specs.declared.worlds.WorldError.{WorldError}
use Rattle.scheduler.specs.declared.worlds.WorldError.TheVariants.{Shape, Limits as OfLimits, Memory as WorldMemory}
use Rattle.scheduler.specs.declared.worlds.WorldError.TheVariants.{Frames as OpeningFrames}
use Rattle.launcher.specs.declared.sources.SourceError.{SourceError}
use Rattle.launcher.specs.declared.sources.SourceError.TheVariants.{Text, Assembly, Class, Memory}
use Rattle.launcher.specs.declared.launching.LaunchError.{LaunchError}
use Rattle.launcher.specs.declared.launching.LaunchError.TheVariants.{Source, Load, World}
use Rattle.model.specs.declared.turns.Actor.{Actor}
use Rattle.model.specs.declared.journals.HeapShape.{HeapShape}
use Rattle.model.specs.declared.journals.Limits.{Limits}
use Rattle.model.specs.ClassListings.{ClassListing}
use Rattle.model.specs.Machines.{Recorded, opened, after_turns}
use Rattle.model.specs.Accepted.Refusals.{refusal_of}
use Rattle.model.specs.Worlds.{opening_fits}
use Rattle.model.specs.Texts.{tree_of}
use Rattle.model.specs.Texts.Trees.{Tree}
use Rattle.model.specs.Texts.Assembling.{assembles}
use Rattle.model.specs.Texts.ListingOfTree as texts
use Rattle.model.specs.ClassFiles.Listing as class_files
use Rattle.model.specs.ClassFiles.Classes.{ClassPart, IsClassFile}

-- ---- what sources stand for

-- class files begin with these bytes (JVMS 4.1)
abbrev pub class_opening : List ℕ
class_opening = 0xca ∷ 0xfe ∷ 0xba ∷ 0xbe ∷ []

-- whether a source is to be a class file; all others are texts
abbrev pub begins_as_class : List ℕ → Bool
begins_as_class source = bytes_eq (take 4 source) class_opening

-- the listing of a class file
abbrev pub IsClassListing : List ℕ → ClassListing → Type 0
IsClassListing bytes listing = (c : ClassPart) × IsClassFile bytes c × (listing ≡ class_files.listing_of c)

-- the listing of a text that assembles
abbrev pub IsTextListing : List ℕ → ClassListing → Type 0
IsTextListing text listing = (t : Tree) × (tree_of text ≡ Some t) × (assembles t ≡ true)
    × (listing ≡ texts.listing_of t)

abbrev pub IsListingBy : Bool → List ℕ → ClassListing → Type 0
IsListingBy true source listing = IsClassListing source listing
IsListingBy false source listing = IsTextListing source listing

-- the listing of a source
abbrev pub IsListing : List ℕ → ClassListing → Type 0
IsListing source listing = IsListingBy (begins_as_class source) source listing

-- the listings of sources, in order
abbrev pub AreListings : List (List ℕ) → List ClassListing → Type 0
AreListings [] [] = Unit {0}
AreListings [] (l ∷ ls) = ⊥
AreListings (s ∷ ss) [] = ⊥
AreListings (s ∷ ss) (l ∷ ls) = IsListing s l × AreListings ss ls

-- the sources have listings that are a program
pub record AreAccepted (sources : List (List ℕ)) : Type 0 where
  pub program : List ClassListing
  pub listings_are : AreListings sources program
  pub accepted : refusal_of program ≡ None

-- ---- what a launch gives: the sources have listings that are a program, its opening, the shape and the limits are in
-- range, and the world is the one that the actors lead to from the opening of that program
pub record IsLaunched (sources : List (List ℕ)) (shape : HeapShape) (limits : Limits) (actors : List Actor)
    (world : Recorded) : Type 0 where
  pub program : List ClassListing
  pub listings_are : AreListings sources program
  pub accepted : refusal_of program ≡ None
  pub shape_fits : ShapeFits shape.small shape.medium shape.large
  pub limits_fit : LimitsFit limits.steps limits.output
  pub opens : opening_fits program ≡ true
  pub world_is : world ≡ after_turns (opened program shape limits) actors

-- ---- why there is no world

-- the bytes of sources
abbrev pub bytes_of : List (Vec ℕ Global) → List (List ℕ)
bytes_of sources = map (λ (s : Vec ℕ Global). s.items) sources

-- memory ran out
abbrev pub LacksMemory : SourceError → Type 0
LacksMemory (Text e) = e.fault ≡ TextMemory
LacksMemory (Assembly e) = e ≡ AsmMemory
LacksMemory (Class e) = e ≡ ClassMemory
LacksMemory Memory = Unit {0}

-- the source at a place has no listing, unless memory ran out, and those before it have one each
pub record IsRefusedAt (sources : List (List ℕ)) (place : ℕ) (error : SourceError) : Type 0 where
  pub source : List ℕ
  pub there : slice_get sources place ≡ Some source
  pub none : (LacksMemory error → ⊥) → (listing : ClassListing) → IsListing source listing → ⊥
  pub before : List ClassListing
  pub before_are : AreListings (take place sources) before

-- a program whose opening frames pass a thread's limits
pub record OpensTooWide (sources : List (List ℕ)) : Type 0 where
  pub program : List ClassListing
  pub listings_are : AreListings sources program
  pub accepted : refusal_of program ≡ None
  pub wide : opening_fits program ≡ false

-- where the sources are a program: a shape out of range, else limits out of range, else, both being in range, opening
-- frames that don't fit. Or want of memory
abbrev pub ExcusesWorld : List (List ℕ) → HeapShape → Limits → WorldError → Type 0
ExcusesWorld sources shape limits Shape = AreAccepted sources × (ShapeFits shape.small shape.medium shape.large → ⊥)
ExcusesWorld sources shape limits OfLimits =
    AreAccepted sources × ShapeFits shape.small shape.medium shape.large × (LimitsFit limits.steps limits.output → ⊥)
ExcusesWorld sources shape limits WorldMemory = Unit {0}
ExcusesWorld sources shape limits OpeningFrames =
    OpensTooWide sources × ShapeFits shape.small shape.medium shape.large × LimitsFit limits.steps limits.output

-- but for want of memory a source is refused only where it has no listing and all before it have one; listings, once
-- all sources have one, by their first broken rule; shape, limits and opening once these are accepted
abbrev pub Excuses : List (List ℕ) → HeapShape → Limits → LaunchError → Type 0
Excuses sources shape limits (Source place e) = IsRefusedAt sources place e
Excuses sources shape limits (Load e) = (program : List ClassListing) × AreListings sources program
    × IsRefusedBy program e
Excuses sources shape limits (World e) = ExcusesWorld sources shape limits e
