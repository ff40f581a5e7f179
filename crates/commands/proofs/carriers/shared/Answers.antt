use Rattle.std.proofs.Common.{◌∙◌, sym, ap, length}
use Rattle.hall.proofs.Dealt.{as_many}
use Rattle.commands.proofs.carriers.shared.Goals as goal

pub drive-requires-clause-long : goal.drive-requires-clause-long
drive-requires-clause-long g c = λ κs alive.
    c.in_ok-hall.shares.ok.0 ∙ ap length c.in_ok-hall.ensures.shares ∙ as_many c.args.burst 0 c.args.roles.now
    ∙ sym c.in_ok-board.ensures.number

pub close-requires : goal.close-requires
close-requires g c =
    c.in_ok-shares.ensures.all ∙ c.in_ok-hall.shares.ok.0 ∙ ap length c.in_ok-hall.ensures.shares
    ∙ as_many c.args.burst 0 c.args.roles.now
    ∙ sym c.requires.parts.1 ∙ c.requires.parts.0
