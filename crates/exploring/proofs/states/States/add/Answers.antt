use Rattle.std.proofs.Common.{List, ap, sym, subst}
use Rattle.exploring.specs.declared.chains.Link.{Link}
use Rattle.exploring.specs.States.{HasStates, Stored}
use Rattle.exploring.proofs.StateLemmas.{adds_state}
use Rattle.exploring.proofs.states.States.add.Goals as goal

pub returns : goal.returns
returns c =
    λ states has.
    let old : Stored = record {
      table = c.self.inside.names;
      chains = c.self.inside.chains;
      keys = c.self.inside.keys.keys;
    } in
    let new : Stored = record {
      table = c.self.inside.names;
      chains = c.add_state.new.chains;
      keys = c.insert_full.new.self.keys;
    } in
    adds_state old new c.add_state.new.chains c.last_link-key.result c.args.state.now c.in_ok-new.new
    c.in_ok-add_state.ensures c.last_link-key.ensures
    (ap (λ (ks : List Link). let s : Stored = record {
      table = c.self.inside.names;
      chains = c.add_state.new.chains;
      keys = ks;
    } in s) c.in_ok-new.ensures.keys) c.in_ok-new.ensures.added states
    (subst (λ (s : Stored). HasStates s states) (sym c.self.view_is) has)
