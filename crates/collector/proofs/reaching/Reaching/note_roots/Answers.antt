use Rattle.std.proofs.Common.{◌≡◌, ◌∙◌, OnOk, List, Option, Some, ℕ, ap, subst, sym}
use Rattle.std.specs.List.{flat_map}
use Rattle.model.specs.Worlds.{World}
use Rattle.model.specs.Collector.Places.{slots_of}
use Rattle.model.specs.Collector.Reached.{roots_of_thread}
use Rattle.collector.specs.Reaching.{Marking, all_noted, noted}
use Rattle.collector.proofs.ListsNoted.{noted-append}
use Rattle.collector.proofs.reaching.Reaching.note_roots.Goals as goal

pub returns : goal.returns
returns g c =
    let w : World = g.R.References.world c.args.references.now in
    let slots : List (Option ℕ) = slots_of w in
    let threads : List (Option ℕ) = flat_map roots_of_thread w.threads in
    let second = c.in_ok-note-2.ensures ∙ ap (λ (m : Marking). noted m (Some 2)) c.in_ok-note.ensures in
    subst (λ (m : Marking). OnOk c.note_threads.result (c.note_threads.new.self ≡ m))
    (ap (λ (m : Marking). all_noted m threads) (c.in_ok-note_slots.ensures
    ∙ ap (λ (m : Marking). all_noted m slots) second)
    ∙ sym (noted-append (noted (noted c.args.self.now (Some 1)) (Some 2)) slots threads))
    c.note_threads.ensures
