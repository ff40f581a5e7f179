use Rattle.debug_texts.proofs.Kept.{pushed, unpushed}
use Rattle.debug_texts.proofs.lines.LineBuffer.push.Goals as goal

pub returns-then-self-lt-ROOM : goal.returns-then-self-lt-ROOM
returns-then-self-lt-ROOM c =
    pushed c.self.inside.bytes c.self.inside.length c.args.byte c.args.self.now 201 c.self.told c.if-self-lt-ROOM.true
    c.self.view_is

pub returns-else-self-lt-ROOM : goal.returns-else-self-lt-ROOM
returns-else-self-lt-ROOM c =
    unpushed c.self.inside.bytes c.self.inside.length c.args.byte c.args.self.now 201 c.self.told
    c.if-self-lt-ROOM.false c.self.invariant c.self.view_is
