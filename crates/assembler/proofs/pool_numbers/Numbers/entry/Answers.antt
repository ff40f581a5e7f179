use Rattle.std.proofs.Common.{[], ◌∷◌}
use Rattle.std.proofs.lemmas.Result.{err_from_is_err_and}
use Rattle.assembler.specs.Numbering.{said}
use Rattle.assembler.proofs.NumberingBuilding.{reported_added, reported_memory}
use Rattle.assembler.proofs.StayingLaws.{last_among, number_stays, no_room}
use Rattle.assembler.proofs.pool_numbers.Numbers.entry.Goals as goal

pub invariant_of-self-2 : goal.invariant_of-self-2
invariant_of-self-2 c = (reported_added c.self.inside.pool c.add.new.self c.args.self.now c.args.entry
    c.in_ok-add.field-0 c.add.result c.self.view_is c.self.invariant c.requires c.in_ok-add.was
    c.in_ok-add.ensures.added c.add.ensures.full).2

pub returns-in_err-add-clause-only : goal.returns-in_err-add-clause-only
returns-in_err-add-clause-only c =
    let reported = err_from_is_err_and c.from_residual.result c.from_residual.ensures.1 in
    let item = said c.args.self.now c.args.entry in
    rw reported.1 (λ later room.
    reported.2 (reported_memory c.self.inside.pool c.args.self.now c.args.entry c.add.result c.in_err-add.field-0.0
    c.self.view_is c.self.invariant c.requires c.in_err-add.was c.add.ensures.full
    (λ past. no_room c.args.self.now (item ∷ []) past later room)))

pub returns-clause-found : goal.returns-clause-found
returns-clause-found c =
    let all = reported_added c.self.inside.pool c.add.new.self c.args.self.now c.args.entry c.in_ok-add.field-0
    c.add.result c.self.view_is c.self.invariant c.requires c.in_ok-add.was c.in_ok-add.ensures.added
    c.add.ensures.full in
    let item = said c.args.self.now c.args.entry in
    number_stays c.args.self.now _ (item ∷ []) item c.in_ok-add.field-0 (last_among [] item) all.0 all.1

pub returns-clause-pool : goal.returns-clause-pool
returns-clause-pool c = (reported_added c.self.inside.pool c.add.new.self c.args.self.now c.args.entry
    c.in_ok-add.field-0 c.add.result c.self.view_is c.self.invariant c.requires c.in_ok-add.was
    c.in_ok-add.ensures.added c.add.ensures.full).2.1
