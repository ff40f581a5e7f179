use Rattle.std.proofs.Common.{◌≡◌, refl, ap, ◌∙◌, arith}
use Rattle.model.specs.Collector.Places.{ref_of}
use Rattle.model.specs.Stores.{kept}
use Rattle.linking.specs.Storages.{shown_storage}
use Rattle.instructions.specs.declared.kinds.Course.TheVariants.{Live}
use Rattle.instructions.specs.Acting.{shown, site_at, turned}
use Rattle.instructions.specs.ByNumbers.{word_put_at}
use Rattle.instructions.specs.Heaps.{shaded, written}
use Rattle.instructions.proofs.ActingLemmas.{fault_reported}
use Rattle.instructions.proofs.FieldLemmas.{put_word_reported, word_written-stored, written-classes, written-shape}
use Rattle.instructions.proofs.machines.Machine.put_word.Goals as goal

pub returns-in-Some-clause-step : goal.returns-in-Some-clause-step
returns-in-Some-clause-step c = λ scene here.
    let m = c.args.self.now in
    let program = c.args.program.now in
    let field = c.args.field in
    let storage = shown_storage c.args.storage in
    let v = c.args.value in
    let heap : c.shade.new.self ≡ shaded (written m.heap c.args.reference c.in-Some.place (kept storage v)) (ref_of v) =
    c.shade.ensures ∙ rw (c.put.ensures, c.from.ensures, c.kept.ensures, c.reference_of.ensures) refl in
    rw c.to.ensures (put_word_reported program scene m here c.args.next
    (record {
      thread = m.thread;
      frames = c.discard.new.self;
      slots = m.slots;
      states = m.states;
      heap = c.shade.new.self;
      output = m.output;
    })
    field.class field.word field.declarer c.args.reference c.in-Some.place storage v c.in-Some.ensures c.discard.ensures
    heap refl refl refl)

pub returns-in-Some-clause-keeps : goal.returns-in-Some-clause-keeps
returns-in-Some-clause-keeps c = record {
  thread = refl;
  capacity = omega arith;
  slots = refl;
  states = refl;
  shape = rw (c.shade.ensures, c.put.ensures) (written-shape c.args.self.now.heap c.args.reference c.from.result
      c.kept.result);
  classes = rw (c.shade.ensures, c.put.ensures) (written-classes c.args.self.now.heap c.args.reference c.from.result
      c.kept.result);
  stored = λ stored.
      rw (c.shade.ensures, c.put.ensures)
      (word_written-stored c.args.program.now c.args.self.now.heap c.args.reference c.from.result c.kept.result stored);
}

pub returns-in-None-clause-step : goal.returns-in-None-clause-step
returns-in-None-clause-step c = λ scene here.
    let m = c.args.self.now in
    let program = c.args.program.now in
    let x = shown program scene m Live in
    let s = site_at program m x.world c.args.next in
    fault_reported program scene m m here _
    ∙ ap (λ o. turned program x m.thread (word_put_at s (shown_storage c.args.storage) c.args.value c.args.reference o))
    c.in-None.ensures
