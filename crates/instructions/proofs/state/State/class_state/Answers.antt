use Rattle.std.proofs.Common.{◌∙◌, List, ap, sym}
use Rattle.std.specs.Prelude.{position, slice_get}
use Rattle.model.specs.declared.turns.ClassState.{ClassState}
use Rattle.model.specs.ClassListings.{ClassListing}
use Rattle.model.specs.Classes.Named.{is_named}
use Rattle.instructions.proofs.NamedClasses.{listed-state, unlisted-state}
use Rattle.instructions.proofs.state.State.class_state.Goals as goal

pub returns-in-Some : goal.returns-in-Some
returns-in-Some c =
    let a = c.self.inside in
    let place = sym (c.place_named.ensures ∙ ap (λ (cs : List ClassListing). position (is_named c.args.name.now) cs)
    c.listings.ensures.listings) ∙ c.in-Some.is in
    rw (← c.self.view_is)
    (listed-state a.program c.args.name.now a.machine.states.items c.in-Some.class c.state_of.result place
    c.self.invariant.sized
    (c.state_of.ensures ∙ ap (λ (states : List ClassState). slice_get states c.in-Some.class) c.as_slice.ensures.value))

pub returns-else-is_builtin : goal.returns-else-is_builtin
returns-else-is_builtin c =
    let a = c.self.inside in
    let place = sym (c.place_named.ensures ∙ ap (λ (cs : List ClassListing). position (is_named c.args.name.now) cs)
    c.listings.ensures.listings) ∙ c.in-None.is in
    rw (← c.self.view_is)
    (unlisted-state a.program c.args.name.now a.machine.states.items place (sym c.is_builtin.ensures
    ∙ c.if-is_builtin.false))
