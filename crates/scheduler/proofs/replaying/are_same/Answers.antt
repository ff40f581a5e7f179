use Rattle.std.proofs.Common.{◌≡◌, ◌++◌, ◌∷◌, [], ◌∙◌, List, Option, ap, arith, length, refl, subst, sym}
use Rattle.std.proofs.lemmas.List.{append_assoc}
use Rattle.std.specs.Iterator.{YieldsFirst}
use Rattle.model.specs.declared.journals.Row.{Row}
use Rattle.scheduler.proofs.replaying.are_same.Goals as goal

pub loop-row-preserved : goal.loop-row-preserved
loop-row-preserved c =
    let at = c.loop-row.invariant in
    let row = c.in-Some.row in
    let one = row ∷ [] in
    let new = c.next-in-Some.new.self in
    let made : c.loop-row.made ≡ row ∷ new = subst (λ (o : Option Row). YieldsFirst (λ s. s) c.loop-row.made o new)
    (c.is_row.ensures.0 c.if-not-is_row.false) c.next-in-Some.ensures.steps in
    let wanted : c.loop-row.wanted ≡ row ∷ c.next.new.self = c.in-Some.ensures.steps in (
      at.0 ++ one,
      at.1 ∙ ap (λ (rows : List Row). at.0 ++ rows) made ∙ sym (append_assoc at.0 one new),
      at.2 ∙ ap (λ (rows : List Row). at.0 ++ rows) wanted ∙ sym (append_assoc at.0 one c.next.new.self),
      let long = ap length made in
          let longer = ap length wanted in
          let same = at.3 in
          omega (arith, long, longer, same),
    )

pub returns : goal.returns
returns c = λ _.
    let at = c.loop-row.invariant in
    let wanted : c.loop-row.wanted ≡ [] = c.in_default.ensures.steps.0 in
    let none = at.3 ∙ ap length wanted in
    at.1 ∙ ap (λ (rows : List Row). at.0 ++ rows) (empty c.loop-row.made none ∙ sym wanted) ∙ sym at.2
  where
    empty : (rows : List Row) → length rows ≡ 0 → rows ≡ []
    empty [] none = refl
    empty (row ∷ rows) none = absurd (omega (arith, none))
