use Rattle.std.proofs.Common.{◌≡◌, codes, length}
use Rattle.model.specs.Texts.Classes.{interfaces_of, after_led}
use Rattle.model.specs.Texts.Heads.{interface_of}
use Rattle.jasmin.specs.Statements.{ahead}
use Rattle.jasmin.proofs.DeclarationLemmas.{said_with}
use Rattle.jasmin.proofs.reader.interfaces_of.Given as goal

-- the interfaces so far, and those that follow
abbrev pub invariant-rows : goal.invariant-rows
invariant-rows l = record {
  said : said_with (codes ".implements") interface_of l.interfaces.items (ahead l.next l.statements) ≡
      interfaces_of (ahead l.fn.first l.fn.statements);
  following : after_led (codes ".implements") (ahead l.next l.statements)
      ≡ after_led (codes ".implements") (ahead l.fn.first l.fn.statements);
}

abbrev pub decreases-rows : goal.decreases-rows
decreases-rows l = length (ahead l.next l.statements)
