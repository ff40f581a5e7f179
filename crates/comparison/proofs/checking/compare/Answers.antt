use Rattle.std.proofs.Common.{◌≡◌, ◌<◌, ◌+◌, ◌-◌, ◌++◌, ◌∷◌, [], ◌∙◌, ℕ, Bool, List, Option, None, Some, length, ap}
use Rattle.std.proofs.Common.{append-nil, arith, inl, inr, length-append, refl, subst, sym}
use Rattle.std.proofs.lemmas.List.{append_assoc}
use Rattle.model.specs.declared.journals.Row.{Row}
use Rattle.model.specs.Machines.{Recorded, noted}
use Rattle.comparison.specs.Compared.{AgreesIf, IsFirstOther}
use Rattle.scheduler.specs.Replaying.{with_all}
use Rattle.scheduler.proofs.Making.{of_next}
use Rattle.comparison.proofs.checking.compare.Goals as goal

pub loop-row-init : goal.loop-row-init
loop-row-init g c = record {
  done = [];
  all = refl;
  world = ap (with_all c.args.world.now) c.requires.empty;
  beside = c.requires.beside;
  rest = λ first is. is;
}

pub agrees_after-requires-clause-beside : goal.agrees_after-requires-clause-beside
agrees_after-requires-clause-beside g c = c.loop-row.invariant.beside

pub agrees_after-requires-clause-worker : goal.agrees_after-requires-clause-worker
agrees_after-requires-clause-worker g c =
    let at = c.loop-row.invariant in
    let row = c.in-Some.row in
    let all = at.all ∙ ap (λ (rows : List Row). at.done ++ rows) c.in-Some.ensures.steps in
    subst (λ (v : Recorded). row.worker < v.journal.workers) (sym at.world)
    (of_next (λ (r : Row). r.worker < c.args.world.now.journal.workers) c.args.rows at.done c.next.new.self row all
    c.requires.workers)

pub returns-then-not-branch-clause-first : goal.returns-then-not-branch-clause-first
returns-then-not-branch-clause-first g c =
    let at = c.loop-row.invariant in
    let row = c.in-Some.row in
    let left = c.next.new.self in
    let all = at.all ∙ ap (λ (rows : List Row). at.done ++ rows) c.in-Some.ensures.steps in
    let long = ap length all ∙ length-append at.done (row ∷ left) in
    let place : c.len-count.result - c.len.result ≡ length at.done + 1 = omega (
      arith,
      long,
      c.len-count.ensures,
      c.len.ensures,
    ) in
    let differs = subst (AgreesIf g.R.Reference.shown g.R.Reference.beside c.loop-row.world row) c.if-not-branch.true
    c.in_ok-agrees_after.ensures.agrees in
    let first : Option ℕ = Some (c.len-count.result - c.len.result) in
    at.rest first
    (subst
    (λ (rows : List Row). IsFirstOther g.R.Reference.shown g.R.Reference.beside (length at.done) c.loop-row.world rows
    first)
    (sym c.in-Some.ensures.steps)
    (inl (ap (λ (n : ℕ). Some n) place, differs)))

pub loop-row-preserved : goal.loop-row-preserved
loop-row-preserved g c =
    let at = c.loop-row.invariant in
    let row = c.in-Some.row in
    let left = c.next.new.self in
    let agrees = subst (AgreesIf g.R.Reference.shown g.R.Reference.beside c.loop-row.world row) c.if-not-branch.false
    c.in_ok-agrees_after.ensures.agrees in
    let world = c.in_ok-agrees_after.ensures.world c.if-not-branch.false in
    let more : noted c.loop-row.world row ≡ with_all c.args.world.now (at.done ++ row ∷ []) = ap
    (λ (v : Recorded). noted v row) at.world in
    record {
      done = at.done ++ row ∷ [];
      all = at.all ∙ ap (λ (rows : List Row). at.done ++ rows) c.in-Some.ensures.steps
          ∙ sym (append_assoc at.done (row ∷ []) left);
      world = world ∙ more;
      beside = subst (g.R.Reference.beside _) (sym world) (c.in_ok-agrees_after.ensures.beside c.if-not-branch.false);
      rest = λ first is.
          at.rest first
          (subst
          (λ (rows : List Row). IsFirstOther g.R.Reference.shown g.R.Reference.beside (length at.done)
          c.loop-row.world rows first)
          (sym c.in-Some.ensures.steps)
          (inr (
            agrees,
            subst (λ (n : ℕ). IsFirstOther g.R.Reference.shown g.R.Reference.beside n (noted c.loop-row.world row) left
                first) (length-append at.done (row ∷ []))
                (subst (λ (v : Recorded). IsFirstOther g.R.Reference.shown g.R.Reference.beside
                (length (at.done ++ row ∷ [])) v left first) world is),
          )));
    }

pub returns-clause-first : goal.returns-clause-first
returns-clause-first g c =
    let at = c.loop-row.invariant in
    at.rest None
    (subst
    (λ (rows : List Row). IsFirstOther g.R.Reference.shown g.R.Reference.beside (length at.done) c.loop-row.world rows
    None)
    (sym c.in_default.ensures.steps.0) refl)

pub returns-clause-followed : goal.returns-clause-followed
returns-clause-followed g c =
    let at = c.loop-row.invariant in
    let all = at.all ∙ ap (λ (rows : List Row). at.done ++ rows) c.in_default.ensures.steps.0 ∙ append-nil at.done in
    λ none. subst (g.R.Reference.beside c.loop-row.reference)
    (at.world ∙ ap (λ (rows : List Row). with_all c.args.world.now rows) (sym all)) at.beside
