use Rattle.std.proofs.Common.{ap, sym, ◌∙◌}
use Rattle.model.specs.ClassListings.{ClassListing}
use Rattle.resolve.specs.Interfaces.{is_ready, lists_in}
use Rattle.resolve.proofs.ListLemmas.{found-passes}
use Rattle.resolve.proofs.interfaces.Interfaces.add_rest.Goals as goal

pub add-requires-clause-ready : goal.add-requires-clause-ready
add-requires-clause-ready c =
    ap (is_ready c.args.index.now (lists_in c.loop-class.self.lists.entries)) (c.as_bytes.ensures
    ∙ ap (λ (x : ClassListing). x.name) c.class.view_is)
    ∙ found-passes (λ (x : ClassListing). is_ready c.args.index.now (lists_in c.loop-class.self.lists.entries) x.name)
    c.args.index.now c.in-Some.class.now
    (sym c.in-Some.ensures)
