use Rattle.std.proofs.Common.{◌≡◌, ◌∙◌, ◌&&◌, Bool, List, ℕ, ap, not, true, false}
use Rattle.std.specs.List.{list_any}
use Rattle.model.specs.ClassListings.{ClassListing}
use Rattle.model.specs.Classes.Flags.{is_interface}
use Rattle.model.specs.Classes.Search.{superclasses}
use Rattle.model.specs.Initialisation.{wants_initialising}
use Rattle.linking.specs.Initializers.{declares_named}
use Rattle.linking.proofs.InitializerLemmas.{wants-upwards}
use Rattle.linking.proofs.initializers.wants_initialising.Goals as goal

-- what is asked of the classes upwards, with the program and the name under other names
same-upwards : (program other : List ClassListing) (name named : List ℕ) (declared : Bool)
    → declared ≡ list_any (declares_named other) (superclasses program name) → other ≡ program → name ≡ named
    → declared ≡ list_any (declares_named program) (superclasses program named)
same-upwards program other name named declared e same is =
    e ∙ ap (λ (p : List ClassListing). list_any (declares_named p) (superclasses program name)) same
    ∙ ap (λ (n : List ℕ). list_any (declares_named program) (superclasses program n)) is

wanted : (program : List ClassListing) (c : ClassListing) (declared : Bool)
    → declared ≡ list_any (declares_named program) (superclasses program c.name)
    → (declared && not (is_interface c)) ≡ wants_initialising program c
wanted program c declared e = ap (λ b. b && not (is_interface c)) e ∙ wants-upwards program c

pub returns-then-declared : goal.returns-then-declared
returns-then-declared c = λ same.
    ap not (c.contains.ensures tt ∙ ap is_interface c.class.view_is)
    ∙ wanted c.args.classes.now c.args.class.now true
    (same-upwards c.args.classes.now c.args.declarers.now c.as_bytes.result.now c.args.class.now.name true
    c.if-declared.ensures same
    (c.as_bytes.ensures ∙ ap (λ (x : ClassListing). x.name) c.class.view_is))

pub returns-else-declared : goal.returns-else-declared
returns-else-declared c = λ same.
    c.if-declared.false
    ∙ wanted c.args.classes.now c.args.class.now false
    (same-upwards c.args.classes.now c.args.declarers.now c.as_bytes.result.now c.args.class.now.name false
    c.if-declared.ensures same
    (c.as_bytes.ensures ∙ ap (λ (x : ClassListing). x.name) c.class.view_is))
