use Rattle.std.proofs.Common.{◌≡◌, ◌∙◌, true, false, sym, subst}
use Rattle.std.specs.List.{AllByRecursion}
use Rattle.model.specs.ClassFiles.Entries.{EntryFits}
use Rattle.pool.specs.Making.{has_bytes}
use Rattle.pool.proofs.BuilderLemmas.{Filling, fills, filled, lacks, all_have_bytes, Checked, is_made, only_memory}
use Rattle.pool.proofs.builder.PoolBuilder.finish.Goals as goal

pub loop-entry-preserved : goal.loop-entry-preserved
loop-entry-preserved c =
    let good : has_bytes c.in-Some.entry ≡ true = sym c.if-not-has_bytes.ensures in
    let before = subst (λ rest. Filling c.loop-entry.slots.items rest c.args.self) c.in-Some.ensures.steps
    c.loop-entry.invariant in
    rw (c.in_ok-push_entry.ensures.pushed) (fills c.loop-entry.slots.items (c.in-Some.entry, c.in-Some.field-0-1)
    c.next.new.self c.args.self (c.push_entry.ensures.fits good) good before)

pub returns-then-not-has_bytes-clause-only : goal.returns-then-not-has_bytes-clause-only
returns-then-not-has_bytes-clause-only c = λ fits sound.
    let before = subst (λ rest. Filling c.loop-entry.slots.items rest c.args.self) c.in-Some.ensures.steps
    c.loop-entry.invariant in
    let bad = lacks c.loop-entry.slots.items (c.in-Some.entry, c.in-Some.field-0-1) c.next.new.self c.args.self
    (sym c.if-not-has_bytes.ensures) before in
    let wrong : true ≡ false = sym (all_have_bytes c.args.self fits.1) ∙ bad in absurd cc

pub returns-clause-made : goal.returns-clause-made
returns-clause-made c =
    let all = subst (λ rest. Filling c.loop-entry.slots.items rest c.args.self) c.in-None.ensures.steps.0
    c.loop-entry.invariant in
    let same = filled c.loop-entry.slots.items c.args.self all in
    is_made c.args.self c.checked.result (
      rw (c.self.view_is) at c.self.invariant.2,
      subst (AllByRecursion EntryFits) same all.2,
    )
    (subst (Checked c.checked.result) (c.in_ok-of_slots.ensures ∙ same) c.checked.ensures)

pub returns-clause-only : goal.returns-clause-only
returns-clause-only c = λ fits sound.
    let all = subst (λ rest. Filling c.loop-entry.slots.items rest c.args.self) c.in-None.ensures.steps.0
    c.loop-entry.invariant in
    only_memory c.args.self c.checked.result sound (subst (Checked c.checked.result) (c.in_ok-of_slots.ensures
    ∙ filled c.loop-entry.slots.items c.args.self all) c.checked.ensures)
