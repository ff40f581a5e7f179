use Rattle.std.proofs.Common.{◌≡◌, ◌<◌, ◌+◌, ◌-◌, ◌++◌, ◌∷◌, [], ◌∙◌, List, ap, arith, length, subst, sym, true≢false}
use Rattle.std.proofs.lemmas.List.{append_assoc, length-append}
use Rattle.model.specs.declared.journals.Row.{Row}
use Rattle.model.specs.Machines.{Recorded}
use Rattle.scheduler.proofs.Differing.{differs_at}
use Rattle.scheduler.proofs.Making.{made_one, of_next}
use Rattle.scheduler.proofs.replaying.make_rows.Goals as goal

pub turn_row-made-requires : goal.turn_row-made-requires
turn_row-made-requires g c =
    let at = c.loop-row.invariant in
    let row = c.in-Some.row in
    let all = at.1 ∙ ap (λ (rows : List Row). at.0 ++ rows) c.in-Some.ensures.steps in
    subst (λ (v : Recorded). row.worker < v.journal.workers) (sym at.2)
    (of_next (λ (r : Row). r.worker < c.args.world.now.journal.workers) c.args.rows at.0 c.next.new.self row all
    c.requires.workers)

pub returns-then-not-is_row : goal.returns-then-not-is_row
returns-then-not-is_row g c =
    let at = c.loop-row.invariant in
    let row = c.in-Some.row in
    let all = at.1 ∙ ap (λ (rows : List Row). at.0 ++ rows) c.in-Some.ensures.steps in
    let long = ap length all ∙ length-append at.0 (row ∷ c.next.new.self) in
    let place : c.len-count.result - c.len.result ≡ length at.0 + 1 = omega (
      arith,
      long,
      c.len-count.ensures,
      c.len.ensures,
    ) in
    differs_at c.args.world.now c.loop-row.world at.0 c.next.new.self row at.2 c.args.rows
    (c.len-count.result - c.len.result) c.turn_row-made.result all
    c.turn_row-made.ensures.before place c.turn_row-made.ensures.row (λ e. true≢false (sym (c.is_row.ensures.1 e)
    ∙ c.if-not-is_row.true))

pub loop-row-preserved : goal.loop-row-preserved
loop-row-preserved g c =
    let at = c.loop-row.invariant in
    let row = c.in-Some.row in
    let all = at.1 ∙ ap (λ (rows : List Row). at.0 ++ rows) c.in-Some.ensures.steps in (
      at.0 ++ row ∷ [],
      all ∙ sym (append_assoc at.0 (row ∷ []) c.next.new.self),
      made_one c.args.world.now c.loop-row.world at.0 c.next.new.self row at.2 c.turn_row-made.new.world
          c.turn_row-made.result c.turn_row-made.ensures.world
          c.turn_row-made.ensures.row (c.is_row.ensures.0 c.if-not-is_row.false),
    )
