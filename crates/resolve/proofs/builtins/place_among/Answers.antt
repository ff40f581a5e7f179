use Rattle.std.proofs.Common.{map, arith, sym, ◌∙◌}
use Rattle.std.specs.List.{position}
use Rattle.std.specs.Str.{bytes_eq}
use Rattle.resolve.specs.declared.builtins.Builtin.{Builtin}
use Rattle.resolve.proofs.NumberLemmas.{left-all, left-found, left-next, left-none, position-map}
use Rattle.resolve.proofs.builtins.place_among.Goals as goal

pub loop-place-init : goal.loop-place-init
loop-place-init c =
    left-all (λ (b : Builtin). bytes_eq c.args.name.now b.name.now) c.args.classes.now
    ∙ sym (position-map (bytes_eq c.args.name.now) (λ (b : Builtin). b.name.now) c.args.classes.now)

pub returns-then-eq : goal.returns-then-eq
returns-then-eq c =
    left-found (λ (b : Builtin). bytes_eq c.args.name.now b.name.now) c.args.classes.now c.loop-place.place _
    (position (bytes_eq c.args.name.now) (map (λ (b : Builtin). b.name.now) c.args.classes.now))
    c.loop-place.invariant c.loop-place-test.true (sym c.eq.ensures ∙ c.if-eq.true)

pub loop-place-preserved : goal.loop-place-preserved
loop-place-preserved c =
    left-next (λ (b : Builtin). bytes_eq c.args.name.now b.name.now) c.args.classes.now c.loop-place.place _
    (position (bytes_eq c.args.name.now) (map (λ (b : Builtin). b.name.now) c.args.classes.now))
    c.loop-place.invariant c.loop-place-test.true (sym c.eq.ensures ∙ c.if-eq.false)

pub returns : goal.returns
returns c =
    left-none (λ (b : Builtin). bytes_eq c.args.name.now b.name.now) c.args.classes.now c.loop-place.place
    (position (bytes_eq c.args.name.now) (map (λ (b : Builtin). b.name.now) c.args.classes.now))
    c.loop-place.invariant (omega arith)
