use Rattle.std.proofs.Common.{◌+◌, ◌≤◌, length, ap, ◌∙◌, arith}
use Rattle.std.proofs.lemmas.List.{length-map, with_items_is}
use Rattle.values.specs.Slots.{entry_of}
use Rattle.frames.proofs.WindowLemmas.{length-written, runs_within}
use Rattle.frames.proofs.units.Units.run.Goals as goal

pub returns-clause-ran : goal.returns-clause-ran
returns-clause-ran g c =
    let slots = c.self.inside.slots in
    let seen = c.deref_mut.result.now in
    let base = c.args.base in
    let span = c.args.span in
    let view = rw (← c.deref_mut.ensures.value) at c.self.view_is in
    let there : base + span ≤ length seen = omega (
      arith,
      ap length view,
      length-map seen entry_of,
      c.requires.there,
    ) in
    let len = length-written seen c.run.new.units base span there c.run.ensures.len
    ∙ c.deref_mut.ensures.len in
    runs_within (g.M.Memory.acts c.args.context.now) c.args.memory.now c.run.new.memory seen c.run.new.units _
    c.args.self.now base span c.args.place _ _ _ (g.K.Lends.steps c.args.lender.now) view
    c.requires.there c.run.ensures.len c.run.ensures.ran c.run.ensures.stops (with_items_is slots _ len)
