use Rattle.std.proofs.Common.{◌∙◌, arith, sym}
use Rattle.instructions.proofs.ClaimFrames.{fits-if, too-many, too-wide}
use Rattle.instructions.proofs.claims.has_room_for_claim.Goals as goal

pub returns-then-units-gt4096 : goal.returns-then-units-gt4096
returns-then-units-gt4096 c =
    sym (too-wide c.args.program.now c.args.class c.args.count c.requires.accepted c.requires.claimed c.args.frames.now
    c.units_of_claim-units.result c.units_of_claim-units.ensures c.if-units-gt4096.true)

pub returns-then-depth-count-gt256 : goal.returns-then-depth-count-gt256
returns-then-depth-count-gt256 c =
    sym (too-many c.args.program.now c.args.class c.args.count c.requires.accepted c.requires.claimed c.args.frames.now
    c.units_of_claim-units.result c.units_of_claim-units.ensures
    (omega (arith, c.if-depth-count-gt256.true, c.depth.ensures.count)))

pub returns : goal.returns
returns c =
    c.has_room_for.ensures
    ∙ fits-if c.args.program.now c.args.class c.args.count c.requires.accepted c.requires.claimed c.args.frames.now
    c.units_of_claim-units.result c.units_of_claim-units.ensures
    (omega (arith, c.if-depth-count-gt256.false, c.depth.ensures.count)) c.requires.some
