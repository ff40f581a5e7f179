use Rattle.std.proofs.Common.{sym, ◌∙◌}
use Rattle.resolve.proofs.IndexLemmas.{slice-none, slice-there}
use Rattle.resolve.proofs.SubclassLemmas.{none-listed, set-missing, set-there}
use Rattle.resolve.proofs.above.is_above_interface.Goals as goal

pub returns-in-Some-get : goal.returns-in-Some-get
returns-in-Some-get c =
    c.has.ensures
    ∙ set-there c.args.index.now c.args.interfaces.now c.args.name.now c.args.above.now c.requires c.in-Some.number
    c.in-Some-get.names.now
    c.in-Some.ensures.place
    (sym (slice-there c.args.interfaces.now c.in-Some.number c.in-Some-get.names.now c.in-Some-get.ensures.lookup.1
    c.in-Some-get.ensures.lookup.3.0))

pub returns-in-None-get : goal.returns-in-None-get
returns-in-None-get c =
    set-missing c.args.index.now c.args.interfaces.now c.args.name.now c.args.above.now c.requires c.in-Some.number
    c.in-Some.ensures.place (slice-none c.args.interfaces.now c.in-Some.number c.in-None-get.ensures.lookup.3)

pub returns-in-None : goal.returns-in-None
returns-in-None c = none-listed c.args.index.now c.args.name.now c.args.above.now c.in-None.ensures.place
