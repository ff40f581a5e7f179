-- Monitors of a heap's objects: what a change of one keeps, and what a world shows of it.
use Rattle.std.proofs.Common.{◌≡◌, ℕ, zero, suc, List, [], ◌∷◌, map, set, slice_get, Option, Some, None, Bool, true}
use Rattle.std.proofs.Common.{false, refl, sym, ap, ◌∙◌}
use Rattle.std.specs.Prelude.{is_some, if◌then◌else◌}
use Rattle.std.specs.Option.{option_map}
use Rattle.std.proofs.lemmas.List.{map-set}
use Rattle.model.specs.declared.journals.HeapShape.{HeapShape}
use Rattle.model.specs.Accounts.{Account}
use Rattle.model.specs.ClassListings.{ClassListing}
use Rattle.model.specs.Monitors.{exited, is_owner, monitor_of, monitor_if as monitor_of_object, released, released_all}
use Rattle.model.specs.Monitors.{with_monitor_if, with_monitor_of}
use Rattle.model.specs.Worlds.{Monitor, Object, World}
use Rattle.join.specs.OnCells.{nobody}
use Rattle.cells.specs.Objects.{StoredObject, monitor_if, monitor_set, object_if}
use Rattle.instructions.specs.declared.kinds.Kind.{Kind}
use Rattle.instructions.specs.ByNumbers.{AreStored, HoldsStored}
use Rattle.instructions.specs.Heaps.{HeapValue, held}
use Rattle.instructions.specs.HeapMonitors.{all_released_in, monitor_held, monitored, released_in}
use Rattle.instructions.specs.HeapsAgree.{Agree}
use Rattle.instructions.specs.Shown.{object_shown, objects_shown}
use Rattle.instructions.proofs.HeldLemmas.{object-shown}
use Rattle.instructions.proofs.StoredLemmas.{held-stored, set-stored}

-- ---- what stays

stays_taken : {K : Type 0} (objects : List (Option (StoredObject K))) (c : ℕ) (m : Monitor)
    → map is_some (set objects c (option_map (monitor_set m) (object_if (slice_get objects c)))) ≡ map is_some objects
stays_taken [] c m = refl
stays_taken (None ∷ objects) zero m = refl
stays_taken (Some o ∷ objects) zero m = refl
stays_taken (o ∷ objects) (suc c) m = ap (λ bs. is_some o ∷ bs) (stays_taken objects c m)

pub monitored_agree : {K : Type 0} (shape : HeapShape) (a : Account) (objects : List (Option
    (StoredObject K))) (c : ℕ) (m : Monitor) → Agree shape a objects
    → Agree shape a (set objects c (option_map (monitor_set m) (object_if (slice_get objects c))))
monitored_agree shape a objects c m k = record {
  fits = k.fits;
  count = k.count;
  taken = k.taken ∙ sym (stays_taken objects c m);
  medium = k.medium;
  large = k.large;
}

-- monitors alone differ
pub record MonitorsAlone (program : List ClassListing) (h after : HeapValue) : Type 0 where
  pub shape : after.shape ≡ h.shape
  pub account : after.account ≡ h.account
  pub births : after.births ≡ h.births
  pub classes : after.classes ≡ h.classes
  pub stored : AreStored program h.objects → AreStored program after.objects

module _ (program : List ClassListing) where
  as_stored : (m : Monitor) (o : Option (StoredObject Kind)) → HoldsStored program o
      → HoldsStored program (option_map (monitor_set m) o)
  as_stored m None fits = tt
  as_stored m (Some object) fits = fits

  nothing : (h : HeapValue) → MonitorsAlone program h h
  nothing h = record { shape = refl; account = refl; births = refl; classes = refl; stored = λ stored. stored }

  pub monitored-alone : (h : HeapValue) (reference : ℕ) (m : Monitor)
      → MonitorsAlone program h (monitored h reference m)
  monitored-alone h zero m = nothing h
  monitored-alone h (suc cell) m = record {
    shape = refl;
    account = refl;
    births = refl;
    classes = refl;
    stored = λ stored.
        set-stored program h.objects cell _ stored (as_stored m (object_if (slice_get h.objects cell))
        (held-stored program h.objects cell stored));
  }

  either : (h after : HeapValue) (b : Bool) → MonitorsAlone program h after
      → MonitorsAlone program h (if b then after else h)
  either h after true alone = alone
  either h after false alone = nothing h

  pub released-alone : (h : HeapValue) (t : ℕ) (reference : Option ℕ)
      → MonitorsAlone program h (released_in h t reference)
  released-alone h t None = nothing h
  released-alone h t (Some reference) =
      either h _ (is_owner t (monitor_held h reference).owner)
      (monitored-alone h reference (exited (monitor_held h reference)))

  pub all_released-alone : (h : HeapValue) (t : ℕ) (references : List (Option ℕ))
      → MonitorsAlone program h (all_released_in h t references)
  all_released-alone h t [] = nothing h
  all_released-alone h t (reference ∷ references) =
      let here = released-alone h t reference in
      let rest = all_released-alone (released_in h t reference) t references in
      record {
        shape = rest.shape ∙ here.shape;
        account = rest.account ∙ here.account;
        births = rest.births ∙ here.births;
        classes = rest.classes ∙ here.classes;
        stored = λ stored. rest.stored (here.stored stored);
      }

-- ---- what a world shows

module _ (program : List ClassListing) (h : HeapValue) (w : World)
    (shown : w.objects ≡ objects_shown program h.objects) where
  pub monitor-shown : (birth : ℕ) → monitor_of w birth ≡ monitor_held h birth
  monitor-shown zero = ap (λ (objects : List Object). monitor_of_object (slice_get objects 0)) shown
  monitor-shown (suc cell) = ap monitor_of_object (object-shown program h w shown cell) ∙ by (slice_get h.objects cell)
    where
      by : (o : Option (Option (StoredObject Kind)))
          → monitor_of_object (option_map (object_shown program) o) ≡ monitor_if (object_if o)
      by None = refl
      by (Some None) = refl
      by (Some (Some object)) = refl

  abbrev with_objects : List Object → World
  with_objects objects = record w { objects = objects }

  -- another monitor of an object is one in its cell
  pub monitored-shown : (birth : ℕ) (m : Monitor) (o : StoredObject Kind) → held h birth ≡ Some o
      → with_monitor_of w birth m ≡ with_objects (objects_shown program (monitored h birth m).objects)
  monitored-shown zero m o e = cc
  monitored-shown (suc cell) m o e = by (slice_get h.objects cell) refl e
    where
      after : Option (StoredObject Kind) → World
      after o = with_objects (objects_shown program (set h.objects cell (option_map (monitor_set m) o)))

      by : (found : Option (Option (StoredObject Kind))) → slice_get h.objects cell ≡ found → object_if found ≡ Some o
          → with_monitor_of w (suc cell) m ≡ after (object_if (slice_get h.objects cell))
      by None is k = cc
      by (Some None) is k = cc
      by (Some (Some x)) is k =
          ap (with_monitor_if w (suc cell) m) (object-shown program h w shown cell
          ∙ ap (option_map (object_shown program)) is)
          ∙ ap (λ (objects : List Object). with_objects
          (set objects (suc cell) (object_shown program (Some (monitor_set m x))))) shown
          ∙ ap (λ (objects : List Object). with_objects (nobody ∷ objects))
          (sym (map-set (object_shown program) h.objects cell (Some (monitor_set m x))))
          ∙ sym (ap (λ found. after (object_if found)) is)

  owned : (t birth : ℕ) (o : Option (StoredObject Kind)) → held h birth ≡ o → is_owner t (monitor_if o).owner ≡ true
      → with_monitor_of w birth (exited (monitor_held h birth))
      ≡ with_objects (objects_shown program (monitored h birth (exited (monitor_held h birth))).objects)
  owned t birth None is owns = cc
  owned t birth (Some o) is owns = monitored-shown birth (exited (monitor_held h birth)) o is

  either_shown : (t birth : ℕ) (b : Bool) → is_owner t (monitor_held h birth).owner ≡ b
      → (if b then with_monitor_of w birth (exited (monitor_held h birth)) else w)
      ≡ with_objects (objects_shown program (if b then monitored h birth (exited (monitor_held h birth))
      else h).objects)
  either_shown t birth true owns = owned t birth (held h birth) refl owns
  either_shown t birth false owns = ap with_objects shown

  -- a monitor that is given back in a world is given back in its cell
  pub released-shown : (t : ℕ) (monitor : Option ℕ)
      → released w t monitor ≡ with_objects (objects_shown program (released_in h t monitor).objects)
  released-shown t None = ap with_objects shown
  released-shown t (Some birth) =
      ap (λ (m : Monitor). if is_owner t m.owner then with_monitor_of w birth (exited m) else w) (monitor-shown birth)
      ∙ either_shown t birth (is_owner t (monitor_held h birth).owner) refl

pub all_released-shown : (program : List ClassListing) (h : HeapValue) (w : World) (t : ℕ) (monitors : List (Option ℕ))
    → w.objects ≡ objects_shown program h.objects
    → released_all w t monitors
    ≡ (let after : World = record w { objects = objects_shown program (all_released_in h t monitors).objects } in after)
all_released-shown program h w t [] shown =
    ap (λ (objects : List Object). let after : World = record w { objects = objects } in after) shown
all_released-shown program h w t (monitor ∷ monitors) shown =
    let here = released-shown program h w shown t monitor in
    ap (λ (w : World). released_all w t monitors) here
    ∙ all_released-shown program (released_in h t monitor)
    (let after : World = record w { objects = objects_shown program (released_in h t monitor).objects } in after) t
    monitors refl
