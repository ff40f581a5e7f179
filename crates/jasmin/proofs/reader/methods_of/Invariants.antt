use Rattle.std.proofs.Common.{◌≡◌, length}
use Rattle.model.specs.Texts.Classes.{methods_of}
use Rattle.jasmin.specs.Statements.{ahead}
use Rattle.jasmin.proofs.MethodLemmas.{methods_with}
use Rattle.jasmin.proofs.reader.methods_of.Given as goal

-- the methods so far, and those that follow
abbrev pub invariant-rows : goal.invariant-rows
invariant-rows g l = methods_with l.class l.methods.items (ahead l.next l.statements)
    ≡ methods_of l.class (ahead l.fn.first l.fn.statements)

abbrev pub decreases-rows : goal.decreases-rows
decreases-rows g l = length (ahead l.next l.statements)
