use Rattle.std.proofs.Common.{◌≡◌, ℕ, List, [], ◌∷◌, map, Bool, true, false, if◌then◌else◌, Option, Some, None, refl}
use Rattle.std.proofs.Common.{sym, ◌∙◌, ap}
use Rattle.model.specs.declared.colours.Cell.{Cell}
use Rattle.model.specs.Worlds.{World, Object, Monitor}
use Rattle.model.specs.Objects.{object_at}
use Rattle.model.specs.Monitors.{is_owner, exited, monitor_of, with_monitor_if, with_monitor_of, released, released_all}
use Rattle.join.specs.Naming.{Naming, Named, named_ref}
use Rattle.join.specs.OnCells.{on_cells, InCell}
use Rattle.join.proofs.Cells.{object_in_cell, put_on_cells, in_cell_put}

-- a birth's monitor is that of its cell

module _ (h : Naming) (cells : List Cell) where
  pub monitor_of_on_cells : (w : World) (b : ℕ) → InCell h cells w b → monitor_of (on_cells h cells w) (h b)
      ≡ monitor_of w b
  monitor_of_on_cells w b s = rw (object_in_cell h cells w b s, s.made) refl

  pub with_monitor_on_cells : (w : World) (b : ℕ) (m : Monitor) → Named h cells → InCell h cells w b
      → with_monitor_of (on_cells h cells w) (h b) m ≡ on_cells h cells (with_monitor_of w b m)
  with_monitor_on_cells w b m named s =
      ap (with_monitor_if (on_cells h cells w) (h b) m) (object_in_cell h cells w b s)
      ∙ sym (put_on_cells h cells w b (record s.object { monitor = m }) named s)
      ∙ ap (λ o. on_cells h cells (with_monitor_if w b m o)) (sym s.made)

  -- ---- monitors are released

  abbrev pub MonitorInCell : World → Option ℕ → Type 0
  MonitorInCell w m = (b : ℕ) → m ≡ Some b → InCell h cells w b

  abbrev pub MonitorsInCells : World → List (Option ℕ) → Type 0
  MonitorsInCells w [] = Unit {0}
  MonitorsInCells w (m ∷ ms) = MonitorInCell w m × MonitorsInCells w ms

  in_cell_if : (w : World) (a b : ℕ) (m : Monitor) (o : Option Object) → InCell h cells w a
      → InCell h cells (with_monitor_if w b m o) a
  in_cell_if w a b m None s = s
  in_cell_if w a b m (Some o) s = in_cell_put h cells w a b (record o { monitor = m }) s

  in_cell_by : (w v : World) (a : ℕ) (owns : Bool) → InCell h cells v a → InCell h cells w a
      → InCell h cells (if owns then v else w) a
  in_cell_by w v a true s r = s
  in_cell_by w v a false s r = r

  pub in_cell_released : (w : World) (t a : ℕ) (m : Option ℕ) → InCell h cells w a → InCell h cells (released w t m) a
  in_cell_released w t a None s = s
  in_cell_released w t a (Some b) s =
      in_cell_by w _ a (is_owner t (monitor_of w b).owner) (in_cell_if w a b (exited (monitor_of w b)) (object_at w b)
      s) s

  module _ (named : Named h cells) where
    released_if : (w : World) (b : ℕ) (m : Monitor) (owns : Bool) → InCell h cells w b
        → (if owns then with_monitor_of (on_cells h cells w) (h b) m else on_cells h cells w)
        ≡ on_cells h cells (if owns then with_monitor_of w b m else w)
    released_if w b m true s = with_monitor_on_cells w b m named s
    released_if w b m false s = refl

    pub released_on_cells : (w : World) (t : ℕ) (m : Option ℕ) → MonitorInCell w m
        → released (on_cells h cells w) t (named_ref h m) ≡ on_cells h cells (released w t m)
    released_on_cells w t None k = refl
    released_on_cells w t (Some b) k =
        let s = k b refl in
        ap (λ (m : Monitor). if is_owner t m.owner then with_monitor_of (on_cells h cells w) (h b) (exited m)
        else on_cells h cells w) (monitor_of_on_cells w b s)
        ∙ released_if w b (exited (monitor_of w b)) (is_owner t (monitor_of w b).owner) s

    in_cells_released : (w : World) (t : ℕ) (m : Option ℕ) (ms : List (Option ℕ)) → MonitorsInCells w ms
        → MonitorsInCells (released w t m) ms
    in_cells_released w t m [] k = tt
    in_cells_released w t m (x ∷ ms) k = (λ b e. in_cell_released w t b m (k.0 b e), in_cells_released w t m ms k.1)

    pub all_released : (w : World) (t : ℕ) (ms : List (Option ℕ)) → MonitorsInCells w ms
        → released_all (on_cells h cells w) t (map (named_ref h) ms) ≡ on_cells h cells (released_all w t ms)
    all_released w t [] k = refl
    all_released w t (m ∷ ms) k = ap (λ v. released_all v t (map (named_ref h) ms)) (released_on_cells w t m k.0)
        ∙ all_released (released w t m) t ms (in_cells_released w t m ms k.1)

-- ---- a fault is none of theirs

fault_if : (w : World) (b : ℕ) (m : Monitor) (o : Option Object) → (with_monitor_if w b m o).fault ≡ w.fault
fault_if w b m None = refl
fault_if w b m (Some o) = refl

fault_by : (w v : World) (owns : Bool) → v.fault ≡ w.fault → (if owns then v else w).fault ≡ w.fault
fault_by w v true e = e
fault_by w v false e = refl

fault_released : (w : World) (t : ℕ) (m : Option ℕ) → (released w t m).fault ≡ w.fault
fault_released w t None = refl
fault_released w t (Some b) = fault_by w _ (is_owner t (monitor_of w b).owner)
    (fault_if w b (exited (monitor_of w b)) (object_at w b))

pub released_fault : (w : World) (t : ℕ) (ms : List (Option ℕ)) → (released_all w t ms).fault ≡ w.fault
released_fault w t [] = refl
released_fault w t (m ∷ ms) = released_fault (released w t m) t ms ∙ fault_released w t m
