use Rattle.std.proofs.Common.{◌≡◌, slice_get, ap, ◌∙◌}
use Rattle.model.specs.Words.{element_or_null}
use Rattle.values.specs.Slots.{value_of}
use Rattle.instructions.specs.declared.kinds.Course.TheVariants.{Live}
use Rattle.instructions.specs.Acting.{shown, turned}
use Rattle.instructions.specs.Heaps.{words_held}
use Rattle.instructions.proofs.ArrayLemmas.{element_is}
use Rattle.instructions.proofs.FieldLemmas.{or_null}
use Rattle.instructions.proofs.machines.Machine.get_element.Goals as goal

pub returns-in-Ok-clause-step : goal.returns-in-Ok-clause-step
returns-in-Ok-clause-step c = λ scene here.
    let m = c.args.self.now in
    let program = c.args.program.now in
    let word : value_of c.unwrap_or.result
    ≡ element_or_null (slice_get (words_held m.heap c.in-Ok.reference) c.in-Ok.index) =
    or_null c.word-word.result c.unwrap_or.result c.unwrap_or.ensures ∙ ap element_or_null c.word-word.ensures in
    rw c.in-Ok.is (c.exchange.ensures.step scene here
    ∙ ap (turned program (shown program scene m Live) m.thread) (element_is program scene m here c.args.next
    c.in-Ok.reference c.in-Ok.index (value_of c.unwrap_or.result) word))
