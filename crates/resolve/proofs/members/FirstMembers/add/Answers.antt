use Rattle.resolve.proofs.MemberLemmas.{added-first}
use Rattle.resolve.proofs.members.FirstMembers.add.Goals as goal

pub returns-in_ok-insert : goal.returns-in_ok-insert
returns-in_ok-insert g c =
    added-first c.args.self.now.members.entries c.insert.new.self.entries c.args.name.now c.args.descriptor.now
    c.args.member c.get.result
    c.if-is_none.ensures c.get.ensures
    (λ n d. c.in_ok-insert.ensures.updates.0 (
      record { bytes = record { ref_ptr = (0, 0); now = n } },
      record { bytes = record { ref_ptr = (0, 0); now = d } },
    ))
