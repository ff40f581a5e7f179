use Rattle.std.proofs.Common.{◌<◌, length, arith}
use Rattle.instructions.specs.Shown.{kind_name}
use Rattle.instructions.proofs.LandingLemmas.{answered, found_handler, found_initializer, found_nowhere, seeks_first}
use Rattle.instructions.proofs.LandingLemmas.{seeks_next}
use Rattle.instructions.proofs.machines.Machine.target.Goals as goal

pub loop-left-init : goal.loop-left-init
loop-left-init c = seeks_first c.args.self.now.frames c.args.program.now (kind_name c.args.program.now c.args.kind)

pub returns-in-Handles-clause-way : goal.returns-in-Handles-clause-way
returns-in-Handles-clause-way c =
    let frames = c.args.self.now.frames in
    let program = c.args.program.now in
    let count = c.depth-depth.ensures.count in
    let test = c.loop-left-test.true in
    let within : c.loop-left.left < length frames = omega (arith, test, count) in
    found_handler frames program (kind_name program c.args.kind) c.loop-left.left within c.loop-left.invariant
    c.in-Handles.handler
    (answered program c.args.kind frames c.loop-left.left c.depth-depth.result c.in-Some.head c.frame_at.result _
    c.requires.accepted c.requires.thrown count
    test c.frame_at.ensures c.in-Some.is c.in-Handles.ensures)

pub returns-in-Fails-clause-way : goal.returns-in-Fails-clause-way
returns-in-Fails-clause-way c =
    let frames = c.args.self.now.frames in
    let program = c.args.program.now in
    let count = c.depth-depth.ensures.count in
    let test = c.loop-left-test.true in
    let within : c.loop-left.left < length frames = omega (arith, test, count) in
    found_initializer frames program (kind_name program c.args.kind) c.loop-left.left within c.loop-left.invariant
    (answered program c.args.kind frames c.loop-left.left c.depth-depth.result c.in-Some.head c.frame_at.result _
    c.requires.accepted c.requires.thrown count
    test c.frame_at.ensures c.in-Some.is c.in-Fails.ensures)

pub loop-left-preserved : goal.loop-left-preserved
loop-left-preserved c =
    let frames = c.args.self.now.frames in
    let program = c.args.program.now in
    let count = c.depth-depth.ensures.count in
    let test = c.loop-left-test.true in
    let within : c.loop-left.left < length frames = omega (arith, test, count) in
    seeks_next frames program (kind_name program c.args.kind) c.loop-left.left within c.loop-left.invariant
    (answered program c.args.kind frames c.loop-left.left c.depth-depth.result c.in-Some.head c.frame_at.result _
    c.requires.accepted c.requires.thrown count
    test c.frame_at.ensures c.in-Some.is c.in-Leaves.ensures)

pub returns-clause-way : goal.returns-clause-way
returns-clause-way c =
    let frames = c.args.self.now.frames in
    let program = c.args.program.now in
    let count = c.depth-depth.ensures.count in
    let test = c.loop-left-test.false in
    let end = c.loop-left.auto.left-end in
    found_nowhere frames program (kind_name program c.args.kind) c.loop-left.left (omega (arith, test, count))
    (omega (arith, end, count)) c.loop-left.invariant
