-- Where a journal's rows differ from those of its turns.
use Rattle.std.proofs.Common.{◌≡◌, ◌+◌, ℕ, List, ◌∷◌, ◌++◌, length, take, Option, Some, true≢false, refl, ap, sym}
use Rattle.std.proofs.Common.{subst, ◌∙◌}
use Rattle.std.proofs.lemmas.List.{take_at}
use Rattle.std.specs.Prelude.{slice_get}
use Rattle.model.specs.declared.journals.Row.{Row}
use Rattle.model.specs.Machines.{Recorded, machine_of, opening_machine, row_for}
use Rattle.scheduler.specs.declared.replaying.ReplayError.{ReplayError}
use Rattle.scheduler.specs.declared.replaying.ReplayError.TheVariants.{Row as AtRow, Memory, Frames}
use Rattle.scheduler.specs.Differing.{DiffersFirst, Excuses}
use Rattle.scheduler.specs.Replaying.{IsMade, with_all}
use Rattle.scheduler.proofs.Making.{at_after, made_at}

-- none of its rows differs
pub none_differs : (v : Recorded) (number : ℕ) → IsMade v → DiffersFirst v number → ⊥
unfolding machine_of
none_differs v number is d =
    d.differs (made_at v.program v.journal.shape v.journal.limits (opening_machine v.program v.journal.shape)
    v.journal.rows d.before d.row is.rows d.there)

module _ (v u : Recorded) (done left : List Row) (row : Row) (u_is : u ≡ with_all v done) where
  -- the row differs
  pub differs_at : (rows : List Row) (number : ℕ) (made : Option Row) → rows ≡ done ++ row ∷ left → IsMade u
      → number ≡ length done + 1
      → made ≡ row_for u row.actor row.worker → (made ≡ Some row → ⊥) → DiffersFirst (with_all v rows) number
  differs_at rows number made all is number_is reported other =
      let before : take (length done) rows ≡ done = ap (take (length done)) all
      ∙ take_at done (row ∷ left) (length done) refl in
      let u_front : u ≡ with_all v (take (length done) rows) = u_is ∙ ap (with_all v) (sym before) in
      record {
        before = length done;
        number_is = number_is;
        row = row;
        there = ap (λ (l : List Row). slice_get l (length done)) all ∙ at_after done left row;
        made = (subst IsMade u_front is).rows;
        differs = λ e. other (reported ∙ ap (λ (x : Recorded). row_for x row.actor row.worker) u_front ∙ e);
      }

-- why a journal that a run made isn't replayed
pub excuse_of_made : (v : Recorded) (e : ReplayError) → IsMade v → Excuses v e → e ≡ Memory
excuse_of_made v (AtRow number) is excuse = absurd (none_differs v number is excuse)
excuse_of_made v Frames is excuse = absurd (true≢false (sym is.opens ∙ excuse.0))
excuse_of_made v Memory is excuse = refl
