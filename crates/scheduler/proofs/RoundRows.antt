-- Rounds change nothing of a world but the rows of its journal.
use Rattle.std.proofs.Common.{◌≡◌, ℕ, zero, suc, Bool, true, false, Option, Some, None, refl, ap, ◌∙◌}
use Rattle.std.specs.Prelude.{if◌then◌else◌}
use Rattle.model.specs.declared.journals.Row.{Row}
use Rattle.model.specs.declared.turns.Actor.{Actor}
use Rattle.model.specs.declared.turns.Actor.TheVariants.{Thread, Collector}
use Rattle.model.specs.Machines.{Recorded, after_turn_by, row_for, with_row}
use Rattle.model.specs.Observers.{is_running, pick_of, status_of}
use Rattle.scheduler.specs.Replaying.{with_all}
use Rattle.scheduler.specs.Rounds.{after_round, after_rounds, collections, is_done, picked, picked_answer, swept}
use Rattle.scheduler.specs.Rounds.{turned_by}

-- it is the other one but for its rows
abbrev Keeps : Recorded → Recorded → Type 0
Keeps v w = w ≡ with_all v w.journal.rows

keeps-then : (u v w : Recorded) → Keeps u v → Keeps v w → Keeps u w
keeps-then u v w first second = second ∙ ap (λ (x : Recorded). with_all x w.journal.rows) first

keeps-if : (b : Bool) (v x y : Recorded) → Keeps v x → Keeps v y → Keeps v (if b then x else y)
keeps-if true v x y one other = one
keeps-if false v x y one other = other

keeps-row : (v : Recorded) (o : Option Row) → Keeps v (with_row v o)
keeps-row v None = refl
keeps-row v (Some row) = refl

keeps-turn : (v : Recorded) (actor : Actor) (worker : ℕ) → Keeps v (after_turn_by v actor worker)
unfolding after_turn_by
keeps-turn v actor worker = keeps-row v (row_for v actor worker)

keeps-turned : (v : Recorded) (worker : ℕ) (o : Option ℕ) → Keeps v (turned_by v worker o)
keeps-turned v worker None = refl
keeps-turned v worker (Some t) = keeps-turn v (Thread t) worker

keeps-collections : (n : ℕ) (v : Recorded) (worker : ℕ) → Keeps v (collections v worker n)
keeps-collections zero v worker = refl
keeps-collections (suc n) v worker =
    let x = after_turn_by v Collector worker in
    keeps-then v x (collections x worker n) (keeps-turn v Collector worker) (keeps-collections n x worker)

keeps-round : (v : Recorded) (worker gc : ℕ) → Keeps v (after_round v worker gc)
keeps-round v worker gc =
    let x = picked v worker in
    let turned = keeps-turned v worker (pick_of v) in
    keeps-if (is_done (picked_answer v worker)) v (swept x worker gc) x
    (keeps-then v x (swept x worker gc) turned
    (keeps-if (is_running (status_of x)) x (collections x worker gc) x (keeps-collections gc x worker) refl)) turned

pub rounds-keep : (n : ℕ) (v : Recorded) (worker gc : ℕ) → after_rounds v worker gc n
    ≡ with_all v (after_rounds v worker gc n).journal.rows
rounds-keep zero v worker gc = refl
rounds-keep (suc n) v worker gc =
    let x = after_round v worker gc in
    keeps-if (is_done (picked_answer v worker)) v (after_rounds x worker gc n) x
    (keeps-then v x (after_rounds x worker gc n) (keeps-round v worker gc) (rounds-keep n x worker gc))
    (keeps-round v worker gc)
