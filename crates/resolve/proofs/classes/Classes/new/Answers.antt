use Rattle.resolve.proofs.classes.Classes.new.Goals as goal

pub invariant_of-result : goal.invariant_of-result
invariant_of-result c =
    let checked = rw c.in-Some.is at c.in_ok-interfaces.ensures.some in
    record {
      own_is = c.in_ok-tables-in-Some.ensures.own;
      members_are = c.in_ok-tables-in-Some.ensures.members;
      interfaces_are = checked.1;
      above_is = c.in_ok-tables-in-Some.ensures.above;
    }
