use Rattle.std.proofs.Common.{◌≡◌, ℕ, ℤ, [], Result, Ok, Err, refl, ◌∙◌, ap}
use Rattle.model.specs.Switches.{Table, Lookup}
use Rattle.model.specs.declared.turns.Fault.{Fault}
use Rattle.model.specs.Frames.{Frame}
use Rattle.model.specs.Table.Switches.{table_switched_on, lookup_switched_on, table_target, lookup_target}
use Rattle.model.specs.Table.Switches.{table_switched, lookup_switched}
use Rattle.join.specs.Naming.{Naming, named_frame, named_result}
use Rattle.join.proofs.Naming.{int_on_named, replaced_named}

-- switches come to the same under a naming: they look at an int

module _ (h : Naming) where
  table_on : (table : Table ℕ) (f : Frame) (r : Result ℤ Fault) → table_switched_on table (named_frame h f) r
      ≡ named_result h (table_switched_on table f r)
  table_on table f (Err e) = refl
  table_on table f (Ok z) = ap Ok (replaced_named h (table_target table z) f 1 [])

  lookup_on : (lookup : Lookup ℕ) (f : Frame) (r : Result ℤ Fault) → lookup_switched_on lookup (named_frame h f) r
      ≡ named_result h (lookup_switched_on lookup f r)
  lookup_on lookup f (Err e) = refl
  lookup_on lookup f (Ok z) = ap Ok (replaced_named h (lookup_target lookup z) f 1 [])

  pub table_named : (table : Table ℕ) (f : Frame) → table_switched table (named_frame h f)
      ≡ named_result h (table_switched table f)
  table_named table f = ap (table_switched_on table (named_frame h f)) (int_on_named h f.stack) ∙ table_on table f _

  pub lookup_named : (lookup : Lookup ℕ) (f : Frame) → lookup_switched lookup (named_frame h f)
      ≡ named_result h (lookup_switched lookup f)
  lookup_named lookup f = ap (lookup_switched_on lookup (named_frame h f)) (int_on_named h f.stack)
      ∙ lookup_on lookup f _
