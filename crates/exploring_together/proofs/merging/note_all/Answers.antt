use Rattle.std.proofs.Common.{◌≡◌, ◌∙◌, ◌∷◌, List, ap, subst, sym}
use Rattle.std.specs.Vec.Iter.{into_iter_items}
use Rattle.exploring.specs.Explorations.{AreSoundAfter, Finding}
use Rattle.exploring_together.specs.Merging.{with_all}
use Rattle.exploring_together.proofs.MergingLemmas.{one_sound, rest_sound}
use Rattle.exploring_together.proofs.merging.note_all.Goals as goal

pub loop-one-preserved : goal.loop-one-preserved
loop-one-preserved c =
    let rest = into_iter_items c.next.new.self in
    let found = c.loop-one.found.items in
    let one = c.in-Some.one in
    let step : into_iter_items c.loop-one.one-iterator ≡ one ∷ rest = c.in-Some.ensures.steps.0 in
    let noted = c.in_ok-note.ensures.noted in
    record {
      all = ap (λ (fs : List Finding). with_all fs rest) noted ∙ rw step at c.loop-one.invariant.all;
      sound = λ program limits first some more. (
          let s = rw step at c.loop-one.invariant.sound program limits first some more in (
            subst (AreSoundAfter program limits first) (sym noted) (one_sound program limits first found one rest s.0 s.1),
            rest_sound program limits first one rest s.1,
          ));
    }

pub returns-in_err-note-clause-sound : goal.returns-in_err-note-clause-sound
returns-in_err-note-clause-sound c =
    λ program limits first some more.
    subst (AreSoundAfter program limits first) (sym c.in_err-note.ensures.kept)
    (c.loop-one.invariant.sound program limits first some more).0

pub returns-clause-sound : goal.returns-clause-sound
returns-clause-sound c =
    λ program limits first some more. (c.loop-one.invariant.sound program limits first some more).0
