use Rattle.std.proofs.Common.{None, [], refl, subst, sym}
use Rattle.model.specs.Accounts.{Account}
use Rattle.instructions.specs.Heaps.{world_looked_at}
use Rattle.instructions.specs.HeapsAgree.{IsHeap}
use Rattle.instructions.proofs.AgreeLemmas.{collected_agree}
use Rattle.instructions.proofs.ErrorLemmas.{collected_errors}
use Rattle.instructions.proofs.heaps.Heap.collect.Goals as goal

pub invariant_of-self : goal.invariant_of-self
invariant_of-self c =
    let shape = c.self.inside.cells.shape in
    let a = c.self.inside.account in
    let objects = c.self.inside.cells.objects in
    let w = world_looked_at c.args.program.now [] c.args.slots.now objects in
    let made = c.if-append_quickly.true in
    let none = sym (c.append_quickly.ensures.freed made) in
    subst (λ (x : Account). IsHeap shape x objects c.self.inside.births c.self.inside.classes)
    (sym (c.append_quickly.ensures.account made shape w))
    (record {
      agree = collected_agree _ _ _ _ c.self.invariant.agree shape a.phase None refl none;
      errors = collected_errors _ _ _ _ _ _ _ shape a.phase None refl none c.self.invariant.errors;
      few = c.self.invariant.few;
    })
