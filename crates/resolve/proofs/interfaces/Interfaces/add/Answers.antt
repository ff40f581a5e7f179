use Rattle.std.proofs.Common.{[], List, ℕ, ap, ◌∙◌}
use Rattle.model.specs.ClassListings.{ClassListing}
use Rattle.resolve.specs.Interfaces.{Lists, all_following, lists_in}
use Rattle.resolve.specs.Reached.{with_names}
use Rattle.resolve.proofs.InterfaceLemmas.{fewer-missing, more-lists}
use Rattle.resolve.proofs.interfaces.Interfaces.add.Goals as goal

pub returns-in_ok-insert-clause-lists : goal.returns-in_ok-insert-clause-lists
returns-in_ok-insert-clause-lists c =
    let old : Lists = lists_in c.args.self.now.lists.entries in
    more-lists c.args.index.now old (lists_in c.insert.new.self.entries) c.args.name.now c.in-Some.class.now
    c.in_ok-list.list
    c.in-Some.ensures c.requires.ready
    (λ x. c.in_ok-insert.ensures.updates.0 (record { bytes = record { ref_ptr = (0, 0); now = x } }))
    c.requires.lists
    (c.in_ok-list.ensures
    ∙ ap (λ (names : List (List ℕ)). with_names [] (all_following old names)) (c.deref.ensures.value
    ∙ ap (λ (x : ClassListing). x.interfaces) c.class.view_is))

pub returns-in_ok-insert-clause-fewer : goal.returns-in_ok-insert-clause-fewer
returns-in_ok-insert-clause-fewer c =
    let old : Lists = lists_in c.args.self.now.lists.entries in
    fewer-missing c.args.index.now old (lists_in c.insert.new.self.entries) c.args.name.now c.in-Some.class.now
    c.in_ok-list.list
    c.in-Some.ensures c.requires.ready
    (λ x. c.in_ok-insert.ensures.updates.0 (record { bytes = record { ref_ptr = (0, 0); now = x } }))
