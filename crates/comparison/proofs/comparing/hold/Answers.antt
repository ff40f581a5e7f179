use Rattle.std.proofs.Common.{◌≡◌, arith, length, map}
use Rattle.std.proofs.lemmas.List.{length-map}
use Rattle.model.specs.Worlds.{FieldValue}
use Rattle.comparison.proofs.Deciding.{agreed}
use Rattle.comparison.proofs.comparing.hold.Goals as goal

pub returns : goal.returns
returns c =
    let values = map (λ (f : FieldValue). f.value) c.args.fields.now in
    let count : length values ≡ length c.args.fields.now = length-map c.args.fields.now (λ (f : FieldValue). f.value) in
    let same = c.if-fields-words.false in
    let past = c.loop-n-test.false in
    agreed values c.args.words.now c.loop-n.n (omega (arith, count, same)) (omega (arith, count, same, past))
    c.loop-n.invariant
