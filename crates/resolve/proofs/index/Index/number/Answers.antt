use Rattle.std.proofs.Common.{◌∙◌, ap, map, slice_get, sym}
use Rattle.std.specs.List.{position}
use Rattle.std.specs.Str.{bytes_eq}
use Rattle.model.specs.Classes.Named.{listed}
use Rattle.resolve.specs.Numbers.{name_of}
use Rattle.resolve.proofs.IndexLemmas.{numbered}
use Rattle.resolve.proofs.NumberLemmas.{number-some, number-none}
use Rattle.resolve.proofs.index.Index.number.Goals as goal

pub returns-clause-place : goal.returns-clause-place
returns-clause-place c =
    ap (λ program. slice_get program c.in_ok-get.field-0.now.number) (sym c.self.view_is)
    ∙ numbered (λ k. k.bytes.now) (λ x. x.class.now) (λ x. x.number) c.self.inside.program.now
    c.self.inside.classes.entries c.args.name.now
    c.in_ok-get.field-0.now c.self.invariant c.in_ok-get.ensures.value
    ∙ ap (λ program. listed program c.args.name.now) c.self.view_is

pub returns-in_err-get-clause-first : goal.returns-in_err-get-clause-first
returns-in_err-get-clause-first c =
    c.from_residual.ensures
    ∙ number-none (λ k. k.bytes.now) (λ x. x.class.now) (λ x. x.number) c.self.inside.program.now
    c.self.inside.classes.entries c.args.name.now
    c.self.invariant c.in_err-get.ensures.value
    ∙ ap (λ program. position (bytes_eq c.args.name.now) (map name_of program)) c.self.view_is

pub returns-clause-first : goal.returns-clause-first
returns-clause-first c =
    number-some (λ k. k.bytes.now) (λ x. x.class.now) (λ x. x.number) c.self.inside.program.now
    c.self.inside.classes.entries c.args.name.now
    c.self.invariant c.in_ok-get.field-0.now c.in_ok-get.ensures.value
    ∙ ap (λ program. position (bytes_eq c.args.name.now) (map name_of program)) c.self.view_is
