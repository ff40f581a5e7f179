use Rattle.std.proofs.Common.{◌∙◌}
use Rattle.ideal_run.proofs.CallLemmas.{call-tested}
use Rattle.ideal_run.proofs.invokes.enters_tested.Goals as goal

pub returns-in-Ok : goal.returns-in-Ok
returns-in-Ok c =
    c.in-Ok.ensures
    ∙ call-tested c.args.site.now c.args.member.now c.args.object c.args.method.now c.args.code.now c.args.place
    c.args.n _ c.args.birth _
    c.frame-caller.ensures.running c.requires.birth c.requires.monitor c.requires.may c.requires.room c.requires.count
    c.requires.operands c.entry-change.ensures
