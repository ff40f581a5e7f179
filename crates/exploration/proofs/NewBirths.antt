use Rattle.std.proofs.Common.{◌≡◌, inl, inr, ℕ, suc, ◌<◌, List, [], ◌∷◌, ◌++◌, length, map, nat_eq, slice_get}
use Rattle.std.proofs.Common.{Bool, true, false, if◌then◌else◌, Option, Some, None, refl, sym, ◌∙◌, ap, arith, eqb-true}
use Rattle.std.proofs.Common.{eq-eqb}
use Rattle.std.proofs.lemmas.List.{map-append}
use Rattle.model.specs.declared.colours.Colour.{Colour}
use Rattle.model.specs.declared.colours.Colour.TheVariants.{White}
use Rattle.model.specs.declared.colours.Cell.{Cell}
use Rattle.model.specs.declared.colours.Cell.TheVariants.{Free, Taken}
use Rattle.model.specs.Frames.{Frame}
use Rattle.model.specs.Worlds.{World, Object, frames_at, next_birth}
use Rattle.model.specs.Objects.{with_new}
use Rattle.model.specs.Collector.Places.{ref_of, entry_ref, contents_refs, slots_of, root_at, Reach}
use Rattle.model.specs.Collector.Places.Place.{Slot}
use Rattle.model.specs.Collector.Places.Reach.{at_root}
use Rattle.model.specs.Collector.Table.{cell_at}
use Rattle.model.specs.Collector.Moves.{LeadNowhere}
use Rattle.model.proofs.CollectorLemmas.Moving.{AllMay}
use Rattle.model.proofs.CollectorLemmas.Known.{ref_may, locals_known, stack_known, monitor_known, word_known}
use Rattle.join.specs.Naming.{Naming, named_object, Named}
use Rattle.join.specs.OnCells.{held_object, object_or_nobody, nobody, on_cells, InCell, ReachedInCells}
use Rattle.join.proofs.Cells.{mapped_alike}
use Rattle.join.proofs.Agreeing.{FrameMay, threads_agree, fields_agree, contents_agree, nowhere_named}
use Rattle.join.proofs.Lists.{get-older, get-newest}
use Rattle.exploration.specs.Representation.{NoGarbage}
use Rattle.exploration.proofs.MadeBirths.{made_before, at_older, at_newest, at_either}

-- a birth comes into a cell of its own, behind all others: the image of the world with the new object is the image with
-- the new object

may_all : (P Q : ℕ → Type 0) (rs : List (Option ℕ)) → ((b : ℕ) → P b → Q b) → AllMay P rs → AllMay Q rs
may_all P Q [] f k = tt
may_all P Q (r ∷ rs) f k = (λ b e. f b (k.0 b e), may_all P Q rs f k.1)

module _ (h : Naming) (cells : List Cell) (w : World) (u : ReachedInCells h cells w) (tidy : NoGarbage cells w) where
  abbrev n : ℕ
  n = next_birth w

  abbrev Old : ℕ → Type 0
  Old b = b < next_birth w

  abbrev pub naming_with : ℕ → ℕ
  naming_with b = if nat_eq b (next_birth w) then suc (length cells) else h b

  abbrev pub cells_with : List Cell
  cells_with = cells ++ Taken (next_birth w) White ∷ []

  old_by : (b : ℕ) (t : Bool) → nat_eq b (next_birth w) ≡ t → b < next_birth w
      → h b ≡ (if t then suc (length cells) else h b)
  old_by b true e l = (let k = eqb-true b (next_birth w) e in absurd (omega (arith, k, l)))
  old_by b false e l = refl

  pub old_name : (b : ℕ) → b < next_birth w → h b ≡ naming_with b
  old_name b l = old_by b _ refl l

  new_by : (t : Bool) → nat_eq (next_birth w) (next_birth w) ≡ t
      → (if t then suc (length cells) else h (next_birth w)) ≡ suc (length cells)
  new_by true e = refl
  new_by false e = (let r = eq-eqb (next_birth w) (next_birth w) refl in absurd (cc))

  pub new_name : naming_with (next_birth w) ≡ suc (length cells)
  new_name = new_by _ refl

  born : (c b : ℕ) (x : Colour) → cell_at cells c ≡ Taken b x → b < next_birth w
  born c b x e = made_before h cells w u b (tidy c b x e)

  pub named_with : Named naming_with cells_with
  named_with c b x e = elim (at_either cells (Taken (next_birth w) White) c b x e) [
    | inl s ↦ sym (old_name b (born c b x s)) ∙ u.named c b x s
    | inr s ↦ let k : next_birth w ≡ b = (let q = s.1 in cc) in ap naming_with (sym k) ∙ new_name ∙ ap suc (sym s.0)
  ]

  -- ---- what leads to births that were made has one image under both

  pub frame_may : (t d : ℕ) (f : Frame) → slice_get (frames_at w t) d ≡ Some f
      → FrameMay h naming_with Old old_name f
  frame_may t d f e = record {
    locals = may_all (Reach w) Old (map entry_ref f.locals) (made_before h cells w u) (locals_known w t d f e);
    stack = may_all (Reach w) Old (map ref_of f.stack) (made_before h cells w u) (stack_known w t d f e);
    monitor = λ b k. made_before h cells w u b (monitor_known w t d b f e k);
  }

  slots_may : AllMay Old (slots_of w)
  unfolding root_at
  slots_may = ref_may Old (slots_of w) (λ s b e. made_before h cells w u b (at_root (Slot s) e))

  words_may : (b : ℕ) (o : Object) → Reach w b → slice_get w.objects b ≡ Some o → AllMay Old (contents_refs o.contents)
  words_may b o r e = ref_may Old (contents_refs o.contents)
      (λ k b' f. made_before h cells w u b' (word_known w b k b' o r e f))

  held_if : (b : ℕ) (r : Option Object) → Reach w b → slice_get w.objects b ≡ r
      → named_object naming_with (object_or_nobody r) ≡ named_object h (object_or_nobody r)
  held_if b None q e = refl
  held_if b (Some o) q e = ap (λ k. record o { contents = k })
      (sym (contents_agree h naming_with Old old_name o.contents (words_may b o q e)))

  held_alike : (new : Object) (z : Cell) → ((b : ℕ) (x : Colour) → z ≡ Taken b x → Reach w b)
      → held_object naming_with (w.objects ++ new ∷ []) z ≡ held_object h w.objects z
  held_alike new Free k = refl
  held_alike new (Taken b x) k = ap (λ r. named_object naming_with (object_or_nobody r))
      (get-older w.objects new b (made_before h cells w u b (k b x refl)))
      ∙ held_if b (slice_get w.objects b) (k b x refl) refl

  -- ---- the world with the new object

  pub new_on_cells : (new : Object) → LeadNowhere (contents_refs new.contents)
      → with_new (on_cells h cells w) new ≡ on_cells naming_with cells_with (with_new w new)
  new_on_cells new empty =
      let threads = threads_agree h naming_with Old old_name w.threads frame_may in
      let slots = fields_agree h naming_with Old old_name w.statics.fields slots_may in
      let held = held_object naming_with (w.objects ++ new ∷ []) in
      let here : held (Taken (next_birth w) White) ≡ new =
      ap (λ r. named_object naming_with (object_or_nobody r)) (get-newest w.objects new)
      ∙ ap (λ k. record new { contents = k }) (nowhere_named naming_with new.contents empty) in
      let objects : map held (cells ++ Taken (next_birth w) White ∷ []) ≡ map (held_object h w.objects) cells ++ new ∷ [] =
      map-append held cells (Taken (next_birth w) White ∷ [])
      ∙ ap (λ os. os ++ held (Taken (next_birth w) White) ∷ [])
      (mapped_alike held (held_object h w.objects) cells (λ d. held_alike new (cell_at cells d) (tidy d)))
      ∙ ap (λ o. map (held_object h w.objects) cells ++ o ∷ []) here in
      ap (λ ts. record (with_new (on_cells h cells w) new) { threads = ts }) threads
      ∙ ap (λ fs. record (on_cells naming_with cells_with (with_new w new)) {
        statics = record { fields = fs; states = w.statics.states };
        objects = nobody ∷ (map (held_object h w.objects) cells ++ new ∷ []);
      }) slots
      ∙ ap (λ os. record (on_cells naming_with cells_with (with_new w new)) { objects = nobody ∷ os }) (sym objects)

  -- what stood in a cell stands there
  pub in_cell_old : (new : Object) (b : ℕ) → Reach w b → InCell naming_with cells_with (with_new w new) b
  in_cell_old new b r =
      let s = u.reached b r in
      let l = made_before h cells w u b r in
      record {
        cell = s.cell;
        colour = s.colour;
        object = s.object;
        held = at_older cells (Taken (next_birth w) White) s.cell b s.colour s.held;
        named = sym (old_name b l) ∙ s.named;
        made = get-older w.objects new b l ∙ s.made;
      }

  pub in_cell_new : (new : Object) → InCell naming_with cells_with (with_new w new) (next_birth w)
  in_cell_new new = record {
    cell = length cells;
    colour = White;
    object = new;
    held = at_newest cells (Taken (next_birth w) White);
    named = new_name;
    made = get-newest w.objects new;
  }
