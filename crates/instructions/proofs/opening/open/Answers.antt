use Rattle.std.proofs.Common.{◌∙◌, ap, sym, arith}
use Rattle.model.specs.Frames.{within_limits}
use Rattle.model.specs.Initialisation.{with_states}
use Rattle.model.specs.declared.turns.ClassState.TheVariants.{Running}
use Rattle.instructions.specs.InitialisingByNumbers.{chain_at, claimed}
use Rattle.instructions.proofs.OpeningClaims.{main-alone, main-fits, main-waits, states-are, states-stay}
use Rattle.instructions.proofs.opening.open.Goals as goal

pub returns-then-unused-eq0-clause-fits : goal.returns-then-unused-eq0-clause-fits
returns-then-unused-eq0-clause-fits c =
    let p = c.args.program.now in
    let chain =
    ap (λ states. chain_at p states 0) (sym (c.as_slice.ensures.value ∙ c.requires.unclaimed))
    ∙ c.unused_classes-unused.ensures.chain in
    main-fits p c.requires.accepted c.main_limits-max_locals.result.0 c.main_limits-max_locals.result.1
    c.main_limits-max_locals.ensures.main c.main.result c.main.ensures c.main_limits-max_locals.ensures.fits
    c.unused_classes-unused.result.count c.unused_classes-unused.result.above chain
    c.unused_classes-unused.ensures.claimed c.if-unused-eq0.true

pub returns-then-unused-eq0-clause-frames : goal.returns-then-unused-eq0-clause-frames
returns-then-unused-eq0-clause-frames c = λ fits.
    let p = c.args.program.now in
    let chain =
    ap (λ states. chain_at p states 0) (sym (c.as_slice.ensures.value ∙ c.requires.unclaimed))
    ∙ c.unused_classes-unused.ensures.chain in
    main-alone p c.requires.accepted c.main_limits-max_locals.result.0 c.main_limits-max_locals.result.1
    c.main_limits-max_locals.ensures.main c.main.result c.main.ensures c.main_limits-max_locals.ensures.fits
    c.unused_classes-unused.result.count c.unused_classes-unused.result.above chain
    c.unused_classes-unused.ensures.claimed c.if-unused-eq0.true c.enter.new.self c.args.frames.now c.requires.empty
    c.enter.ensures

pub returns-then-unused-eq0-clause-states : goal.returns-then-unused-eq0-clause-states
returns-then-unused-eq0-clause-states c = λ fits.
    let p = c.args.program.now in
    let chain =
    ap (λ states. chain_at p states 0) (sym (c.as_slice.ensures.value ∙ c.requires.unclaimed))
    ∙ c.unused_classes-unused.ensures.chain in
    states-stay p c.requires.accepted c.main_limits-max_locals.result.0 c.main_limits-max_locals.result.1
    c.main_limits-max_locals.ensures.main c.main.result c.main.ensures c.main_limits-max_locals.ensures.fits
    c.unused_classes-unused.result.count c.unused_classes-unused.result.above chain
    c.unused_classes-unused.ensures.claimed c.if-unused-eq0.true c.args.states.now.items c.requires.unclaimed

pub returns-then-has_room_for_claim-clause-fits : goal.returns-then-has_room_for_claim-clause-fits
returns-then-has_room_for_claim-clause-fits c =
    let p = c.args.program.now in
    let chain =
    ap (λ states. chain_at p states 0) (sym (c.as_slice.ensures.value ∙ c.requires.unclaimed))
    ∙ c.unused_classes-unused.ensures.chain in
    sym c.if-has_room_for_claim.true ∙ c.has_room_for_claim.ensures
    ∙ ap within_limits (main-waits p c.requires.accepted c.main_limits-max_locals.result.0
    c.main_limits-max_locals.result.1
    c.main_limits-max_locals.ensures.main c.main.result c.main.ensures c.main_limits-max_locals.ensures.fits
    c.unused_classes-unused.result.count c.unused_classes-unused.result.above chain
    c.unused_classes-unused.ensures.claimed (omega (arith, c.if-unused-eq0.false)) c.args.frames.now c.enter.new.self
    c.set_mark.new.self
    c.requires.empty c.enter.ensures c.set_mark.ensures)

pub returns-then-has_room_for_claim-clause-frames : goal.returns-then-has_room_for_claim-clause-frames
returns-then-has_room_for_claim-clause-frames c = λ fits.
    let p = c.args.program.now in
    let chain =
    ap (λ states. chain_at p states 0) (sym (c.as_slice.ensures.value ∙ c.requires.unclaimed))
    ∙ c.unused_classes-unused.ensures.chain in
    c.enter_initializers.ensures ∙ main-waits p c.requires.accepted c.main_limits-max_locals.result.0
    c.main_limits-max_locals.result.1
    c.main_limits-max_locals.ensures.main c.main.result c.main.ensures c.main_limits-max_locals.ensures.fits
    c.unused_classes-unused.result.count c.unused_classes-unused.result.above chain
    c.unused_classes-unused.ensures.claimed (omega (arith, c.if-unused-eq0.false)) c.args.frames.now c.enter.new.self
    c.set_mark.new.self
    c.requires.empty c.enter.ensures c.set_mark.ensures

pub returns-then-has_room_for_claim-clause-states : goal.returns-then-has_room_for_claim-clause-states
returns-then-has_room_for_claim-clause-states c = λ fits.
    let p = c.args.program.now in
    let chain =
    ap (λ states. chain_at p states 0) (sym (c.as_slice.ensures.value ∙ c.requires.unclaimed))
    ∙ c.unused_classes-unused.ensures.chain in
    c.set_states.ensures.states
    ∙ ap (with_states (Running 0) (claimed p 0 c.unused_classes-unused.result.count)) c.requires.unclaimed
    ∙ sym (states-are p c.requires.accepted c.main_limits-max_locals.result.0 c.main_limits-max_locals.result.1
    c.main_limits-max_locals.ensures.main c.main.result c.main.ensures c.main_limits-max_locals.ensures.fits
    c.unused_classes-unused.result.count c.unused_classes-unused.result.above chain
    c.unused_classes-unused.ensures.claimed)

pub returns-else-has_room_for_claim-clause-fits : goal.returns-else-has_room_for_claim-clause-fits
returns-else-has_room_for_claim-clause-fits c =
    let p = c.args.program.now in
    let chain =
    ap (λ states. chain_at p states 0) (sym (c.as_slice.ensures.value ∙ c.requires.unclaimed))
    ∙ c.unused_classes-unused.ensures.chain in
    sym c.if-has_room_for_claim.false ∙ c.has_room_for_claim.ensures
    ∙ ap within_limits (main-waits p c.requires.accepted c.main_limits-max_locals.result.0
    c.main_limits-max_locals.result.1
    c.main_limits-max_locals.ensures.main c.main.result c.main.ensures c.main_limits-max_locals.ensures.fits
    c.unused_classes-unused.result.count c.unused_classes-unused.result.above chain
    c.unused_classes-unused.ensures.claimed (omega (arith, c.if-unused-eq0.false)) c.args.frames.now c.enter.new.self
    c.set_mark.new.self
    c.requires.empty c.enter.ensures c.set_mark.ensures)
