use Rattle.std.proofs.Common.{◌∙◌, sym, arith}
use Rattle.values.specs.Slots.{value_of}
use Rattle.frames.proofs.ArgumentLemmas.{one_entry, put_one, put_two, two_entries}
use Rattle.frames.proofs.arguments.put_held.Goals as goal

pub returns-then-units_in-eq2-clause-items : goal.returns-then-units_in-eq2-clause-items
returns-then-units_in-eq2-clause-items c =
    let two = sym c.units_in.ensures ∙ c.if-units_in-eq2.true in
    let fits = rw two at c.requires.fits in
    rw (
      c.put-then-units_in-eq2.ensures,
      c.put.ensures,
      c.requires.held,
      two_entries (value_of c.args.slot) two,
      two,
    ) (put_two _ _ _ _ (omega arith))

pub returns-clause-items : goal.returns-clause-items
returns-clause-items c =
    let one = one_entry (value_of c.args.slot) (λ two. c.if-units_in-eq2.false (c.units_in.ensures ∙ two)) in
    let fits = rw one.1 at c.requires.fits in
    rw (c.put.ensures, c.requires.held, one.0, one.1) (put_one _ _ _ (omega arith))
