use Rattle.std.proofs.Common.{◌∙◌, arith}
use Rattle.indexmap.proofs.CallerLemmas.{insert_entry-new}
use Rattle.model.specs.ClassFiles.Adding.{is_same}
use Rattle.pool.proofs.BuilderLemmas.{grown, new_added, absent, found_among}
use Rattle.pool.proofs.builder.PoolBuilder.add.Goals as goal

pub invariant_of-self-2 : goal.invariant_of-self-2
invariant_of-self-2 c =
    let new = absent c.args.entry c.self.inside.numbers.entries (rw (← c.self.view_is) at c.in_default.ensures) in
    let are = c.in_ok-insert.ensures.entries ∙ insert_entry-new is_same c.self.inside.numbers c.args.entry
    c.self.inside.next new in
    let still = grown c.self.inside.numbers.entries c.insert.new.self.entries c.args.entry c.self.inside.next
    c.in-Some-checked_add.next are (c.self.invariant.0, c.self.invariant.1)
    (omega (arith, c.in-Some-checked_add.ensures, c.numbers_of.ensures)) in
    (still.0, still.1, omega (arith, still.1, c.in-Some-checked_add.ensures))

pub returns-clause-added : goal.returns-clause-added
returns-clause-added c =
    let alone = rw (← c.self.view_is) at c.in_default.ensures in
    let new = absent c.args.entry c.self.inside.numbers.entries alone in
    let are = c.in_ok-insert.ensures.entries ∙ insert_entry-new is_same c.self.inside.numbers c.args.entry
    c.self.inside.next new in
    let still = grown c.self.inside.numbers.entries c.insert.new.self.entries c.args.entry c.self.inside.next
    c.in-Some-checked_add.next are (c.self.invariant.0, c.self.invariant.1)
    (omega (arith, c.in-Some-checked_add.ensures, c.numbers_of.ensures)) in (
      rw (← c.self.view_is) (new_added c.self.inside.numbers.entries c.insert.new.self.entries c.args.entry
          c.self.inside.next are alone),
      found_among c.args.entry c.insert.new.self.entries c.self.inside.next still.0 c.in_ok-insert.ensures.updates.1,
    )
