-- What a turn tells that prints.
use Rattle.std.proofs.Common.{◌≡◌, ℕ, ℤ, List, [], ◌++◌, length, Result, Ok, Err, refl, subst}
use Rattle.model.specs.declared.turns.Fault.{Fault}
use Rattle.model.specs.ClassListings.{ClassListing}
use Rattle.model.specs.Frames.{replaced, running_frame, with_running}
use Rattle.model.specs.Table.Builtins.{prints_on}
use Rattle.model.specs.Worlds.Thread.{Live as LiveThread}
use Rattle.join.specs.TurnsOnCells.{CellMachine, turned_on}
use Rattle.instructions.specs.declared.acting.Turned.{Turned}
use Rattle.instructions.specs.declared.kinds.Course.TheVariants.{Live}
use Rattle.instructions.specs.declared.machines.Machine.{Machine}
use Rattle.model.specs.Completions.{Completion}
use Rattle.instructions.specs.Acting.{Scene, shown, site_at, reported, turned}
use Rattle.instructions.proofs.ActingLemmas.{done_in, fault_reported}
use Rattle.instructions.proofs.Scenes.{frames_shown, thread_set}

module _ (program : List ClassListing) (scene : Scene) (m after : Machine) (here : length scene.before ≡ m.thread)
    (bytes : ℤ → List ℕ) where
  abbrev before : CellMachine
  before = shown program scene m Live

  abbrev Tells : Result Turned Fault → Completion → Type 0
  Tells result c = reported before m.thread (shown program scene after) result ≡ turned program before m.thread c

  abbrev printed : ℕ → Result ℤ Fault → Completion
  printed n r = prints_on (site_at program m before.world n) bytes r

  bytes_line : (n : ℕ) (z : ℤ) → after.frames ≡ with_running m.frames (replaced n (running_frame m.frames) 1 []).frame
      → after.slots ≡ m.slots
      → after.states.items ≡ m.states.items → after.output.items ≡ m.output.items ++ bytes z → after.heap ≡ m.heap
      → Tells (Ok (done_in Live)) (printed n (Ok z))
  unfolding turned_on
  bytes_line n z frames slots states output heap =
      rw (
        frames,
        slots,
        states,
        output,
        heap,
        frames_shown program scene m here,
        thread_set scene m.thread here (LiveThread m.frames)
            (LiveThread (with_running m.frames (replaced n (running_frame m.frames) 1 []).frame)),
      ) refl

  pub bytes_reported : (n : ℕ) (z : ℤ) (r : Result ℤ Fault) → Ok z ≡ r → after.frames
      ≡ with_running m.frames (replaced n (running_frame m.frames) 1 []).frame
      → after.slots ≡ m.slots → after.states.items ≡ m.states.items → after.output.items ≡ m.output.items ++ bytes z
      → after.heap ≡ m.heap
      → Tells (Ok (done_in Live)) (printed n r)
  bytes_reported n z r is frames slots states output heap =
      subst (λ r. Tells (Ok (done_in Live)) (printed n r)) is (bytes_line n z frames slots states output heap)

  pub bytes_fault_reported : (n : ℕ) (fault : Fault) (r : Result ℤ Fault) → Err fault ≡ r
      → Tells (Err fault) (printed n r)
  bytes_fault_reported n fault r is = subst (λ r. Tells (Err fault) (printed n r)) is
      (fault_reported program scene m after here fault)
