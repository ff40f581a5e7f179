use Rattle.std.proofs.Common.{◌≡◌, zero, suc, List, [], ◌∷◌, refl, sym, ◌∙◌, ap, subst, arith}
use Rattle.model.specs.declared.colours.Colour.TheVariants.{White}
use Rattle.model.specs.declared.colours.Cell.{Cell}
use Rattle.model.specs.declared.colours.Cell.TheVariants.{Taken}
use Rattle.model.specs.declared.journals.HeapShape.{HeapShape}
use Rattle.model.specs.ClassListings.{ClassListing}
use Rattle.model.specs.Accounts.{opening_account}
use Rattle.model.specs.Worlds.{World, opening_world}
use Rattle.model.specs.Collector.Places.{Reach}
use Rattle.model.specs.Collector.Runs.{Holds}
use Rattle.model.proofs.CollectorLemmas.Known.{memory_error_known, stack_error_known}
use Rattle.model.proofs.CollectorLemmas.Running.{opening_holds}
use Rattle.join.specs.Naming.{named_thread, named_field, Named}
use Rattle.join.specs.OnCells.{on_cells, ReachedInCells}
use Rattle.join.proofs.Lists.{map-same}
use Rattle.join.proofs.Reached.{reached_in_cells}
use Rattle.join.proofs.ReadingBack.{thread_same, field_same}
use Rattle.exploration.specs.Representation.{NoGarbage, Represents}

-- the opening represents itself: births 1 and 2 stand in the only two cells

abbrev two : List Cell
two = Taken 1 White ∷ Taken 2 White ∷ []

abbrev small : HeapShape
small = record { small = 2; medium = 0; large = 0 }

two_named : Named (λ b. b) two
two_named zero b x e = (let k : 1 ≡ b = cc in sym k)
two_named (suc zero) b x e = (let k : 2 ≡ b = cc in sym k)
two_named (suc (suc c)) b x e = absurd (cc)

two_tidy : (w : World) → NoGarbage two w
two_tidy w zero b x e = (let k : 1 ≡ b = cc in subst (Reach w) k (memory_error_known w))
two_tidy w (suc zero) b x e = (let k : 2 ≡ b = cc in subst (Reach w) k (stack_error_known w))
two_tidy w (suc (suc c)) b x e = absurd (cc)

two_reached : (program : List ClassListing) → ReachedInCells (λ b. b) two (opening_world program)
unfolding Holds
two_reached program = reached_in_cells (λ b. b) small (opening_world program) (opening_account small) two_named
    (opening_holds program small (omega arith)) refl refl

pub opening_represents : (program : List ClassListing) → Represents (opening_world program) (opening_world program)
opening_represents program =
    let w = opening_world program in
    record {
      naming = λ b. b;
      cells = two;
      reached = two_reached program;
      tidy = two_tidy w;
      is = sym (ap (λ ts. record (on_cells (λ b. b) two w) { threads = ts })
          (map-same (named_thread (λ b. b)) thread_same w.threads)
          ∙ ap (λ fs. record w { statics = record { fields = fs; states = w.statics.states } })
          (map-same (named_field (λ b. b)) field_same w.statics.fields));
    }
