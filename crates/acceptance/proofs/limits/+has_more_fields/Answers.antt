use Rattle.std.proofs.Common.{◌∙◌, ap, arith}
use Rattle.model.specs.ClassListings.{ClassListing}
use Rattle.acceptance.proofs.LimitLemmas.{own_fields-too_many, no_steps-fields, inherited-fields, no_inherited-fields}
use Rattle.acceptance.proofs.limits.+has_more_fields.Goals as goal

pub returns-then-own-room : goal.returns-then-own-room
returns-then-own-room t c =
    own_fields-too_many c.args.steps c.args.room c.own_fields-own.result c.args.classes.now c.args.class.now
    c.own_fields-own.ensures (omega arith)

pub returns-then-steps-eq0 : goal.returns-then-steps-eq0
returns-then-steps-eq0 t c =
    rw c.if-steps-eq0.true
    (no_steps-fields c.args.room c.own_fields-own.result c.args.classes.now c.args.class.now c.own_fields-own.ensures
    (omega arith))

pub returns-in-Some : goal.returns-in-Some
returns-in-Some t c =
    c.has_more_fields.ensures
    ∙ inherited-fields c.args.steps c.args.room c.own_fields-own.result c.args.classes.now c.args.class.now
    c.in-Some.superclass.now c.as_bytes.result.now
    (omega arith) c.own_fields-own.ensures (omega arith)
    (c.as_bytes.ensures ∙ ap (λ (x : ClassListing). x.superclass) c.class.view_is) c.in-Some.ensures

pub returns-in-None : goal.returns-in-None
returns-in-None t c =
    no_inherited-fields c.args.steps c.args.room c.own_fields-own.result c.args.classes.now c.args.class.now
    c.as_bytes.result.now
    (omega arith) c.own_fields-own.ensures (omega arith)
    (c.as_bytes.ensures ∙ ap (λ (x : ClassListing). x.superclass) c.class.view_is) c.in-None.ensures
