-- What cells hold is read off the machine on cells, and tells whether another world has the same objects.
use Rattle.std.proofs.Common.{◌≡◌, ◌+◌, ℕ, zero, suc, List, [], ◌∷◌, map, slice_get, Bool, true, false, Option, Some}
use Rattle.std.proofs.Common.{None, if◌then◌else◌, refl, sym, ◌∙◌, ap, subst, arith}
use Rattle.std.specs.Option.{option_map}
use Rattle.model.specs.declared.colours.Cell.{Cell}
use Rattle.model.specs.declared.colours.Cell.TheVariants.{Free, Taken}
use Rattle.model.specs.declared.colours.Colour.{Colour}
use Rattle.model.specs.declared.journals.HeapShape.{HeapShape}
use Rattle.model.specs.declared.journals.Limits.{Limits}
use Rattle.model.specs.ClassListings.{ClassListing}
use Rattle.model.specs.Accounts.{Account}
use Rattle.model.specs.Collector.Places.{Reach}
use Rattle.model.specs.Collector.Paths.{KeepsReachable}
use Rattle.model.specs.Collector.Reached.{is_reached}
use Rattle.model.specs.Collector.Runs.{Holds}
use Rattle.model.specs.Collector.Table.{cell_at}
use Rattle.model.specs.Machines.{Machine}
use Rattle.model.specs.Objects.{object_at}
use Rattle.model.specs.Shows.{Held, HeapWorld, Shows}
use Rattle.model.specs.Worlds.{World, Object}
use Rattle.model.proofs.CollectorLemmas.Reaching.{is_reached-Reach, Reach-is_reached}
use Rattle.join.specs.Joined.{Joint}
use Rattle.join.specs.ReadBack.{ReadsBack, object_in}
use Rattle.join.specs.TurnsOnCells.{CellMachine}
use Rattle.join.proofs.Paths.{reached_alike}
use Rattle.instructions.specs.HeldOnCells.{held_of, held_on, helds_from}
use Rattle.scheduler.specs.Showing.{AreHeld, held_at, shown_in}

-- ---- from the machine on cells to the machine

-- what a test lets through is the same where the tests and what they let through are
let_through : {A B : Type 0} (f : A → B) (p q : Bool) (x y : Option A) → p ≡ q → (q ≡ true → x ≡ y)
    → (if p then option_map f x else None) ≡ option_map f (if q then y else None)
let_through f p true x y same e = rw (same, e refl) refl
let_through f p false x y same e = rw same refl

module _ (x : CellMachine) (m : Machine) where
  -- in cells that begin with this number
  abbrev Same : ℕ → List Cell → Type 0
  Same c cells = (k b : ℕ) (y : Colour) → cell_at cells k ≡ Taken b y → held_on x (c + k) (Taken b y)
      ≡ shown_in m (Taken b y)

  same_next : (c : ℕ) (cell : Cell) (cells : List Cell) → Same c (cell ∷ cells) → Same (suc c) cells
  same_next c cell cells same k b y e =
      let next : c + suc k ≡ suc c + k = omega arith in
      subst (λ (n : ℕ). held_on x n (Taken b y) ≡ shown_in m (Taken b y)) next (same (suc k) b y e)

  same_first : (c b : ℕ) (y : Colour) (cells : List Cell) → Same c (Taken b y ∷ cells) → held_on x c (Taken b y)
      ≡ shown_in m (Taken b y)
  same_first c b y cells same =
      let here : c + 0 ≡ c = omega arith in
      subst (λ (n : ℕ). held_on x n (Taken b y) ≡ shown_in m (Taken b y)) here (same 0 b y refl)

  listed : (cells : List Cell) (c : ℕ) → Same c cells → helds_from x c cells ≡ map (shown_in m) cells
  listed [] c same = refl
  listed (Free ∷ cells) c same = ap (λ (hs : List (Option Held)). None ∷ hs)
      (listed cells (suc c) (same_next c Free cells same))
  listed (Taken b y ∷ cells) c same =
      ap (λ (h : Option Held). h ∷ helds_from x (suc c) cells) (same_first c b y cells same)
      ∙ ap (λ (hs : List (Option Held)). shown_in m (Taken b y) ∷ hs)
      (listed cells (suc c) (same_next c (Taken b y) cells same))

module _ (program : List ClassListing) (shape : HeapShape) (limits : Limits) (x : CellMachine) (m : Machine)
    (holds : Holds shape m) (joint : Joint x m) (read : ReadsBack program limits x m) where
  cells_same : x.account.cells ≡ m.account.cells
  cells_same = ap (λ (a : Account). a.cells) joint.joined.account

  mark_same : (c b : ℕ) (y : Colour) → cell_at m.account.cells c ≡ Taken b y → is_reached x.world (suc c)
      ≡ is_reached m.world b
  unfolding Holds
  mark_same c b y held =
      let j = joint.joined in
      ap (λ (w : World). is_reached w (suc c)) j.world ∙ reached_alike joint.naming shape m.world m.account j.named
      holds j.memory_error j.stack_error c b y held

  one_held : (c b : ℕ) (y : Colour) → cell_at m.account.cells c ≡ Taken b y → held_on x c (Taken b y)
      ≡ shown_in m (Taken b y)
  one_held c b y held =
      let_through (held_of b) (is_reached x.world (suc c)) (is_reached m.world b) (object_in x c) (object_at m.world b)
      (mark_same c b y held)
      (λ e. read.objects b (is_reached-Reach m.world b e) (record {
        cell = c;
        colour = y;
        held = ap (λ cs. cell_at cs c) cells_same ∙ held;
      }))

  -- what the cells hold, with births for references
  pub helds_are : helds_from x 0 x.account.cells ≡ map (shown_in m) m.account.cells
  helds_are = ap (helds_from x 0) cells_same
      ∙ listed x m m.account.cells 0 (λ k b y e. (let z : 0 + k ≡ k = omega arith in rw z (one_held k b y e)))

-- ---- what cells hold, and another world

at_cell : {A : Type 0} (f : Cell → A) (cells : List Cell) (c b : ℕ) (y : Colour) → cell_at cells c ≡ Taken b y
    → slice_get (map f cells) c ≡ Some (f (Taken b y))
at_cell f [] c b y e = absurd (cc)
at_cell f (cell ∷ cells) zero b y e = ap (λ (d : Cell). Some (f d)) e
at_cell f (cell ∷ cells) (suc c) b y e = at_cell f cells c b y e

in_some_cell : {A : Type 0} (f : Cell → A) (a : A) (P : Type 0) → ((cell : Cell) → f cell ≡ a → P)
    → (cells : List Cell) (k : ℕ) → slice_get (map f cells) k ≡ Some a → P
in_some_cell f a P tells [] k e = absurd (cc)
in_some_cell f a P tells (cell ∷ cells) zero e = tells cell (cc)
in_some_cell f a P tells (cell ∷ cells) (suc k) e = in_some_cell f a P tells cells k e

module _ (shape : HeapShape) (m : Machine) (w : World) (kept : KeepsReachable shape m.world m.account) (heap : HeapWorld)
    (shown : Shows heap m.world) where
  -- a cell to whose birth a path leads
  reached_cell : (b : ℕ) (y : Colour) → Reach m.world b → shown_in m (Taken b y) ≡ held_at m.world b
  reached_cell b y r = ap (λ (t : Bool). option_map (held_of b) (if t then object_at m.world b else None))
      (Reach-is_reached m.world b r)

  pub held_objects : AreHeld w (map (shown_in m) m.account.cells) → (b : ℕ) → Reach m.world b → held_at m.world b
      ≡ held_at w b
  held_objects all b r =
      let cell = kept.has_cell b r in
      let object = shown.objects b r in
      let held : held_at m.world b ≡ Some (held_of b object.object) = ap (option_map (held_of b)) object.was_made in
      held
      ∙ sym (all cell.0 (held_of b object.object) (at_cell (shown_in m) m.account.cells cell.0 b cell.1 cell.2
      ∙ ap (λ (h : Option Held). Some h) (reached_cell b cell.1 r ∙ held)))

  by_object : (b : ℕ) (held : Held) (o : Option Object) → option_map (held_of b) o ≡ Some held → o ≡ object_at m.world b
      → held_at m.world b ≡ held_at w b → held_at w held.birth ≡ Some held
  by_object b held None e is same = absurd (cc)
  by_object b held (Some o) e is same =
      let h : held_of b o ≡ held = cc in
      let there : held_at w b ≡ Some held = sym same ∙ ap (option_map (held_of b)) (sym is) ∙ e in
      subst (λ (n : ℕ). held_at w n ≡ Some held) (ap (λ (g : Held). g.birth) h) there

  by_mark : (b : ℕ) (held : Held) (t : Bool) → is_reached m.world b ≡ t
      → option_map (held_of b) (if t then object_at m.world b else None) ≡ Some held
      → ((b : ℕ) → Reach m.world b → held_at m.world b ≡ held_at w b) → held_at w held.birth ≡ Some held
  by_mark b held true is e same = by_object b held (object_at m.world b) e refl (same b (is_reached-Reach m.world b is))
  by_mark b held false is e same = absurd (cc)

  by_cell : ((b : ℕ) → Reach m.world b → held_at m.world b ≡ held_at w b) → (held : Held) (cell : Cell)
      → shown_in m cell ≡ Some held → held_at w held.birth ≡ Some held
  by_cell same held Free e = absurd (cc)
  by_cell same held (Taken b y) e = by_mark b held (is_reached m.world b) refl e same

  pub objects_held : ((b : ℕ) → Reach m.world b → held_at m.world b ≡ held_at w b)
      → AreHeld w (map (shown_in m) m.account.cells)
  objects_held same k held e = in_some_cell (shown_in m) (Some held) (held_at w held.birth ≡ Some held)
      (by_cell same held) m.account.cells k e
