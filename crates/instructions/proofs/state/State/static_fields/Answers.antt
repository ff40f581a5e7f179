use Rattle.std.proofs.Common.{◌≡◌, ◌∙◌, IfOk, List, ap, arith, length, map, subst}
use Rattle.model.specs.Naming.{named_field}
use Rattle.model.specs.Worlds.{FieldValue}
use Rattle.join.specs.ReadBack.{birth_read}
use Rattle.instructions.specs.Shown.{keyed}
use Rattle.instructions.specs.StaticKeys.{static_keys}
use Rattle.instructions.proofs.StaticsShown.{keys_count, keys_name}
use Rattle.instructions.proofs.state.State.static_fields.Goals as goal

pub fields_holding-requires : goal.fields_holding-requires
fields_holding-requires c =
    let keys = c.deref.ensures.value ∙ c.in_ok-keys.ensures ∙ ap static_keys c.listings.ensures.listings in
    let count = ap (λ (ks : List FieldValue). length ks) keys ∙ keys_count c.self.inside.program in
    let slots = c.self.invariant.slots_are in
    omega (arith, count, slots)

pub returns : goal.returns
returns c =
    let a = c.self.inside in
    let keys = c.deref.ensures.value ∙ c.in_ok-keys.ensures ∙ ap static_keys c.listings.ensures.listings in
    let births = birth_read a.machine.heap.account.cells in
    rw (← c.self.view_is)
    (subst (λ (fs : List FieldValue). IfOk c.fields_holding.result (λ views. views.items ≡ map (named_field births) fs))
    (ap (λ ks. keyed ks a.machine.slots) keys ∙ keys_name a.program a.machine.slots)
    c.fields_holding.ensures)
