use Rattle.std.proofs.Common.{◌≡◌, true, rules, sym, ap, ◌∙◌, to_z, of_z, get_or, pos}
use Rattle.std.specs.Int.{w32}
use Rattle.std.proofs.lemmas.Int.{to_z-of_z}
use Rattle.opcodes.specs.Reading.Switches.{rises}
use Rattle.opcodes.proofs.SwitchLaws.{keys-more}
use Rattle.opcodes.proofs.put_switches.keys_rise.Goals as goal

pub loop-pair-preserved : goal.loop-pair-preserved
loop-pair-preserved c =
    let key = (get_or c.args.pairs.now c.loop-pair.pair-index (pos 0, 0)).0 in
    let same : to_z w32 (of_z w32 key) ≡ key = to_z-of_z w32 key (search rules) in
    let up : rises c.loop-pair.before key ≡ true = sym (ap (rises c.loop-pair.before) same) ∙ sym c.rises.ensures
    ∙ c.if-not-rises.false in
    rw same (keys-more c.loop-pair.before c.args.pairs.now c.loop-pair.pair-index _ c.loop-pair-test.true up
    c.loop-pair.invariant)
