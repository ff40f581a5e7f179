use Rattle.std.proofs.Common.{◌≡◌, ◌+◌, ◌-◌, ◌++◌, ◌∷◌, [], ℕ, List, replicate, ap, arith, ◌∙◌, append_assoc}
use Rattle.std.specs.Prelude.{vec_len}
use Rattle.std.proofs.lemmas.List.{replicate-append-replicate}
use Rattle.values.specs.declared.slots.Slot.{Slot}
use Rattle.values.specs.declared.slots.Slot.TheVariants.{Unset}
use Rattle.frames.proofs.units.grow.Goals as goal

pub loop-place-preserved : goal.loop-place-preserved
loop-place-preserved c =
    let at = c.loop-place in
    let first = c.args.slots.now in
    let more = at.invariant.more in
    let held = at.invariant.capacity in
    let grown = c.push.ensures.capacity in
    let pushed : c.push.new.self.items ≡ at.slots.items ++ Unset ∷ [] = rw c.in-Ok.is at c.push.ensures.items in
    let longer : vec_len c.push.new.self ≡ vec_len at.slots + 1 = rw c.in-Ok.is at c.push.ensures.len in
    let k = at._place - vec_len first in
    let next : k + 1 ≡ at._place + 1 - vec_len first = omega (arith, more) in
    record {
      items =
          pushed ∙ ap (λ (xs : List Slot). xs ++ Unset ∷ []) at.invariant.items
          ∙ append_assoc first.items (replicate k Unset) (Unset ∷ [])
          ∙ ap (λ (xs : List Slot). first.items ++ xs) (replicate-append-replicate k 1 Unset
          ∙ ap (λ (n : ℕ). replicate n Unset) next);
      len = omega (arith, longer, at.invariant.len);
      more = omega (arith, more);
      capacity = omega (arith, held, grown);
    }
