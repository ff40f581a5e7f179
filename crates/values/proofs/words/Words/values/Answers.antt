use Rattle.std.proofs.Common.{◌≡◌, List, subst}
use Rattle.std.specs.Prelude.{IfOk}
use Rattle.model.specs.declared.values.Value.{Value}
use Rattle.values.proofs.WordLemmas.{words-between}
use Rattle.values.proofs.words.Words.values.Goals as goal

pub returns : goal.returns
returns c =
    subst (λ (vs : List Value). IfOk c.values_in.result (λ values. values.items ≡ vs))
    (words-between c.self.inside.slots.items c.deref.result.now c.args.self.now c.args.base c.args.count
    c.deref.ensures.value c.self.view_is) c.values_in.ensures
