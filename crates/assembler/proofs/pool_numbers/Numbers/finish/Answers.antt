use Rattle.std.proofs.Common.{subst, List}
use Rattle.std.specs.Prelude.{IfOk, MatchResult, ◌≡◌}
use Rattle.classfile.specs.Classes.{IsClass}
use Rattle.classfile.specs.Made.{made}
use Rattle.classfile.specs.declared.error.ClassError.TheVariants as class_error
use Rattle.model.specs.declared.class_files.Entry.{Entry}
use Rattle.assembler.specs.Numbering.{IsPool}
use Rattle.assembler.proofs.NumberingBuilding.{builder_entries}
use Rattle.assembler.proofs.pool_numbers.Numbers.finish.Goals as goal

pub returns-clause-made : goal.returns-clause-made
returns-clause-made c =
    subst (λ (es : List Entry). IfOk c.new.result (λ file. file ≡ made es c.args.body))
    (builder_entries c.self.inside.pool c.args.self c.self.view_is c.self.invariant.0) c.new.ensures.made

pub returns-clause-only : goal.returns-clause-only
returns-clause-only c =
    subst (λ (es : List Entry). IsClass (made es c.args.body)
    → MatchResult c.new.result (λ file. file ≡ made es c.args.body) (λ e. e ≡ class_error.Memory))
    (builder_entries c.self.inside.pool c.args.self c.self.view_is c.self.invariant.0) c.new.ensures.only

pub returns-clause-pool : goal.returns-clause-pool
returns-clause-pool c = subst IsPool c.self.view_is c.self.invariant.1
