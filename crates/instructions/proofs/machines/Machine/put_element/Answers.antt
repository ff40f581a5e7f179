use Rattle.std.proofs.Common.{◌≡◌, ℕ, Ok, true, w32, refl, ap, ◌∙◌, arith}
use Rattle.std.proofs.lemmas.Int.{to_z-of_z}
use Rattle.model.specs.Collector.Places.{ref_of}
use Rattle.model.specs.Stores.{kept}
use Rattle.model.specs.Table.Arrays.{put_if, storage_in}
use Rattle.instructions.specs.declared.kinds.Course.TheVariants.{Live}
use Rattle.instructions.specs.Acting.{shown, site_at, turned}
use Rattle.instructions.specs.Heaps.{kind_held, shaded, written}
use Rattle.instructions.specs.TypesByNumbers.{element_put_by, place_of_element, takes}
use Rattle.instructions.proofs.ArrayLemmas.{place_held, stored_reported}
use Rattle.instructions.proofs.FieldLemmas.{word_written-stored, written-classes, written-shape}
use Rattle.instructions.proofs.machines.Machine.put_element.Goals as goal

pub returns-else-not-takes-clause-step : goal.returns-else-not-takes-clause-step
returns-else-not-takes-clause-step c = λ scene here.
    let m = c.args.self.now in
    let program = c.args.program.now in
    let x = shown program scene m Live in
    let s = site_at program m x.world c.args.next in
    let v = c.args.value in
    let storage = storage_in c.args.kind in
    let place : ℕ × ℕ = (c.in-Ok.reference, c.in-Ok.place) in
    let is : Ok (c.in-Ok.reference, c.in-Ok.place) ≡ place_of_element m.heap c.args.kind c.args.index c.args.reference =
    c.in-Ok.ensures ∙ ap (λ z. place_of_element m.heap c.args.kind z c.args.reference)
    (to_z-of_z w32 c.args.index c.ranges.index) in
    let found = place_held m.heap c.args.kind c.args.index c.args.reference place is in
    let heap : c.shade.new.self ≡ shaded (written m.heap c.in-Ok.reference c.in-Ok.place (kept storage v)) (ref_of v) =
    c.shade.ensures ∙ rw (c.put.ensures, c.kept.ensures, c.storage_in.ensures, c.reference_of.ensures) refl in
    let taken : true ≡ takes program m.heap (kind_held m.heap c.in-Ok.reference) v =
    c.if-not-takes.ensures ∙ ap (λ kind. takes program m.heap kind v) c.kind.ensures in
    rw c.to.ensures (stored_reported program scene m here c.args.next
    (record {
      thread = m.thread;
      frames = c.discard.new.self;
      slots = m.slots;
      states = m.states;
      heap = c.shade.new.self;
      output = m.output;
    })
    place storage v found.0 found.1 c.discard.ensures heap refl refl refl)
    ∙ ap (λ b. turned program x m.thread (put_if s storage v place b)) taken
    ∙ ap (λ r. turned program x m.thread (element_put_by s m.heap storage v r)) is

pub returns-else-not-takes-clause-keeps : goal.returns-else-not-takes-clause-keeps
returns-else-not-takes-clause-keeps c =
    let m = c.args.self.now in
    record {
      thread = refl;
      capacity = omega arith;
      slots = refl;
      states = refl;
      shape = rw (c.shade.ensures, c.put.ensures) (written-shape m.heap c.in-Ok.reference c.in-Ok.place c.kept.result);
      classes = rw (c.shade.ensures, c.put.ensures) (written-classes m.heap c.in-Ok.reference c.in-Ok.place
          c.kept.result);
      stored = λ stored.
          rw (c.shade.ensures, c.put.ensures)
          (word_written-stored c.args.program.now m.heap c.in-Ok.reference c.in-Ok.place c.kept.result stored);
    }
