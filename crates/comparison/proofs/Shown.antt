-- The comparisons together tell whether the cells show a world.
use Rattle.std.proofs.Common.{◌≡◌, Decides, Bool, true, false, ◌&&◌, map, refl}
use Rattle.model.specs.Machines.{Recorded, machine_of}
use Rattle.model.specs.Observers.{ideal}
use Rattle.model.specs.Shows.{HeapWorld, Shows}
use Rattle.model.specs.Worlds.{World}
use Rattle.scheduler.specs.LosesNothing.{LosesNothing}
use Rattle.scheduler.specs.OnCells.{cells_of, heap_on}
use Rattle.scheduler.specs.Showing.{Alike, AreHeld, SameBeside, shown_in}
use Rattle.comparison.proofs.Alike.{alike_shown, shown_alike}
use Rattle.scheduler.proofs.HeldCells.{held_objects, objects_held}

module _ (v : Recorded) (w : World) (sound : LosesNothing v) where
  abbrev cells : HeapWorld
  cells = heap_on (cells_of v)

  alike : Shows cells w → Alike (ideal v) w
  alike = shown_alike cells (ideal v) w sound.shown

  pub shows_decides : (beside threads slots objects : Bool) → Decides beside (SameBeside (ideal v) w)
      → Decides threads ((ideal v).threads ≡ w.threads)
      → Decides slots ((ideal v).statics.fields ≡ w.statics.fields)
      → Decides objects (AreHeld w (map (shown_in (machine_of v)) (machine_of v).account.cells))
      → Decides (((beside && threads) && slots) && objects) (Shows cells w)
  shows_decides true true true true b t s o =
      let rest = b.0 refl in (
        λ e. alike_shown cells (ideal v) w sound.shown (record {
          threads = t.0 refl;
          slots = s.0 refl;
          states = rest.0;
          output = rest.1;
          fault = rest.2;
          rows = rest.3;
          births = rest.4;
          objects = held_objects v.journal.shape (machine_of v) w sound.kept cells sound.shown (o.0 refl);
        }),
        λ e. refl,
      )
  shows_decides false threads slots objects b t s o = (
    λ e. absurd (cc),
    λ e. (let a = alike e in b.1 (a.states, a.output, a.fault, a.rows, a.births)),
  )
  shows_decides true false slots objects b t s o = (λ e. absurd (cc), λ e. t.1 (alike e).threads)
  shows_decides true true false objects b t s o = (λ e. absurd (cc), λ e. s.1 (alike e).slots)
  shows_decides true true true false b t s o = (
    λ e. absurd (cc),
    λ e. o.1 (objects_held v.journal.shape (machine_of v) w sound.kept cells sound.shown
        (alike e).objects),
  )
