use Rattle.std.proofs.Common.{subst}
use Rattle.std.proofs.lemmas.Result.{on_ok_weaker}
use Rattle.model.specs.ClassFiles.Heads.{HeadPart, SpellsHead, head_bytes}
use Rattle.classfile.proofs.HeadLaws.{head_written}
use Rattle.classfile.proofs.heads.ClassHead.write.Goals as goal

pub returns : goal.returns
returns c =
    let parts = c.self.inside.parts in
    let spells : SpellsHead (head_bytes parts) c.args.self.now = subst (λ (h : HeadPart). SpellsHead (head_bytes parts)
    h) c.self.view_is (head_written c.self.invariant.0 parts c.self.invariant.1) in
    on_ok_weaker c.put_parts.result (λ e. (head_bytes parts, spells, e)) c.put_parts.ensures
