use Rattle.std.proofs.Common.{OnOk, ◌≡◌, subst, ℕ, List}
use Rattle.model.specs.Classes.Named.{listed}
use Rattle.resolve.specs.Reached.{with_names}
use Rattle.resolve.proofs.ReachedLemmas.{none-once, parents_named-builtin, parents_named-once}
use Rattle.resolve.proofs.reached.Reached.add_parents_named.Goals as goal

pub returns-in-Some : goal.returns-in-Some
returns-in-Some c =
    subst (λ (all : List (List ℕ)). OnOk c.add_all.result (c.add_all.new.self ≡ all))
    (parents_named-once c.args.index.now c.args.name.now c.args.self.now c.in-Some.names.now c.in-Some.ensures)
    c.add_all.ensures

pub returns-in-Some-builtin_superclass : goal.returns-in-Some-builtin_superclass
returns-in-Some-builtin_superclass c =
    subst (λ (names : List (List ℕ)). OnOk c.add.result (c.add.new.self ≡ with_names c.args.self.now names))
    (parents_named-builtin c.args.index.now c.args.name.now c.in-Some-builtin_superclass.superclass.now
    (none-once (listed c.args.index.now c.args.name.now) c.in-None.ensures) c.in-Some-builtin_superclass.ensures)
    c.add.ensures
