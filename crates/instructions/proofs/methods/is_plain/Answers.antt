use Rattle.std.proofs.Common.{◌≡◌, rules, sym, ◌∙◌}
use Rattle.instructions.proofs.MethodLemmas.{gives-found, gives-that, initializer-found, no-initializer}
use Rattle.instructions.proofs.methods.is_plain.Goals as goal

pub returns-clause-plain : goal.returns-clause-plain
returns-clause-plain c = λ made program place known.
    let info = c.args.code.now.info in
    let same : c.returns.result ≡ c.of.result = search rules in
    sym (initializer-found program place info known)
    ∙ no-initializer info c.args.kind (sym c.returns.ensures ∙ same ∙ c.of.ensures)

pub returns-clause-gives : goal.returns-clause-gives
returns-clause-gives c = λ made program place known.
    let info = c.args.code.now.info in
    let same : c.returns.result ≡ c.of.result = search rules in
    sym (gives-found program place c.args.kind info known)
    ∙ gives-that info c.args.kind (sym c.returns.ensures ∙ same ∙ c.of.ensures)
