use Rattle.std.proofs.Common.{◌≡◌, codes, length}
use Rattle.model.specs.Texts.Classes.{fields_of, after_led}
use Rattle.model.specs.Texts.Heads.{field_of}
use Rattle.jasmin.specs.Statements.{ahead}
use Rattle.jasmin.proofs.DeclarationLemmas.{said_with}
use Rattle.jasmin.proofs.reader.fields_of.Given as goal

-- the fields so far, and those that follow
abbrev pub invariant-rows : goal.invariant-rows
invariant-rows l = record {
  said : said_with (codes ".field") (field_of l.class) l.fields.items (ahead l.next l.statements)
      ≡ fields_of l.class (ahead l.fn.first l.fn.statements);
  following : after_led (codes ".field") (ahead l.next l.statements)
      ≡ after_led (codes ".field") (ahead l.fn.first l.fn.statements);
}

abbrev pub decreases-rows : goal.decreases-rows
decreases-rows l = length (ahead l.next l.statements)
