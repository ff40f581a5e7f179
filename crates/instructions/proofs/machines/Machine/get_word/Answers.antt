use Rattle.std.proofs.Common.{◌≡◌, slice_get, ap, ◌∙◌}
use Rattle.model.specs.Words.{element_or_null}
use Rattle.values.specs.Slots.{value_of}
use Rattle.instructions.specs.declared.kinds.Course.TheVariants.{Live}
use Rattle.instructions.specs.Acting.{shown, turned}
use Rattle.instructions.specs.Heaps.{words_held}
use Rattle.instructions.proofs.ActingLemmas.{fault_reported}
use Rattle.instructions.proofs.FieldLemmas.{or_null, word_is}
use Rattle.instructions.proofs.machines.Machine.get_word.Goals as goal

pub returns-in-Some-clause-step : goal.returns-in-Some-clause-step
returns-in-Some-clause-step c = λ scene here.
    let m = c.args.self.now in
    let program = c.args.program.now in
    let place = c.in-Some.place in
    let word : value_of c.unwrap_or.result ≡ element_or_null (slice_get (words_held m.heap c.args.reference) place) =
    or_null c.word-word.result c.unwrap_or.result c.unwrap_or.ensures ∙ ap element_or_null c.word-word.ensures
    ∙ ap (λ n. element_or_null (slice_get (words_held m.heap c.args.reference) n)) c.from.ensures in
    rw c.in-Some.is (c.push.ensures.step scene here
    ∙ ap (turned program (shown program scene m Live) m.thread) (word_is program scene m here c.args.next
    c.args.reference place (value_of c.unwrap_or.result) word))

pub returns-in-None-clause-step : goal.returns-in-None-clause-step
returns-in-None-clause-step c = λ scene here.
    rw c.in-None.is (fault_reported c.args.program.now scene c.args.self.now c.args.self.now here _)
