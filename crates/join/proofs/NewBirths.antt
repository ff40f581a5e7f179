use Rattle.std.proofs.Common.{◌≡◌, ◌⊎◌, inl, inr, ℕ, suc, ◌<◌, List, [], ◌∷◌, ◌++◌, length, map, set, nat_eq, slice_get}
use Rattle.std.proofs.Common.{Bool, true, false, if◌then◌else◌, Option, Some, None, refl, sym, ◌∙◌, ap, arith, eqb-true}
use Rattle.std.proofs.Common.{eq-eqb}
use Rattle.std.proofs.lemmas.List.{map-set}
use Rattle.model.specs.declared.colours.Colour.{Colour}
use Rattle.model.specs.declared.colours.Colour.TheVariants.{Grey}
use Rattle.model.specs.declared.journals.HeapShape.{HeapShape}
use Rattle.model.specs.Accounts.{Account}
use Rattle.model.specs.declared.colours.Cell.{Cell}
use Rattle.model.specs.declared.colours.Cell.TheVariants.{Free, Taken}
use Rattle.model.specs.Frames.{Frame}
use Rattle.model.specs.Worlds.{World, Object, frames_at, next_birth}
use Rattle.model.specs.Objects.{with_new, with_object}
use Rattle.model.specs.Collector.Places.{ref_of, entry_ref, contents_refs, slots_of, root_at, word_at, Reach}
use Rattle.model.specs.Collector.Places.Place.{Slot}
use Rattle.model.specs.Collector.Places.Reach.{at_root}
use Rattle.model.specs.Collector.Table.{cell_at}
use Rattle.model.specs.Collector.Invariant.{Invariant, In}
use Rattle.model.specs.Collector.Changes.{Change, IsNew, Allowed, births_after}
use Rattle.model.specs.Collector.Moves.{LeadNowhere}
use Rattle.model.proofs.CollectorLemmas.Moving.{AllMay}
use Rattle.model.proofs.CollectorLemmas.Known.{ref_may, locals_known, stack_known, monitor_known}
use Rattle.model.proofs.CollectorLemmas.Shading.{reach_kept}
use Rattle.model.proofs.CollectorLemmas.Taking.{Came, came_here, came_before, came_after}
use Rattle.join.specs.Naming.{Naming, named_object, Named}
use Rattle.join.specs.OnCells.{held_object, object_or_nobody, nobody, on_cells, InCell}
use Rattle.join.specs.Joined.{Bounded}
use Rattle.join.proofs.Cells.{mapped_alike}
use Rattle.join.proofs.Agreeing.{FrameMay, threads_agree, fields_agree, contents_agree, nowhere_named}
use Rattle.join.proofs.Lists.{get-older, get-newest}

-- a birth comes into a free cell: the naming with it agrees with the one before on every birth that was made, and words
-- lead to such births alone, in garbage too. So the world on cells changes in that one cell

may_all : (P Q : ℕ → Type 0) (rs : List (Option ℕ)) → ((b : ℕ) → P b → Q b) → AllMay P rs → AllMay Q rs
may_all P Q [] f k = tt
may_all P Q (r ∷ rs) f k = (λ b e. f b (k.0 b e), may_all P Q rs f k.1)

module _ (h : Naming) (shape : HeapShape) (w : World) (a : Account) (named : Named h a.cells)
    (i : Invariant shape w (next_birth w) a) where
  pub born_before : (b : ℕ) → Reach w b → b < next_birth w
  born_before b r = let k = reach_kept shape w (next_birth w) a b i r in i.tidy.born k.cell b k.colour k.held

  -- what a turn may write keeps the bound
  pub bounded_after : (c : Change) → Bounded w → Allowed w c → Bounded c.after
  bounded_after c bound al b k b' e =
      let n = al.counted in
      let was : IsNew c.object (next_birth w) b' ⊎ (b' < next_birth w)
      → b' < next_birth c.after = λ s. fresh c.object n s in
      elim (al.words b k b' e) [
        | inl s ↦ was (inr (bound b k b' s))
        | inr f ↦ elim f [
          | inl s ↦ was (inl s)
          | inr s ↦ elim (al.writes b' s) [
            | inl q ↦ was (inl q)
            | inr r ↦ was (inr (born_before b' r))
          ]
        ]
      ]
    where
      fresh : (object : Option ℕ) → next_birth c.after ≡ births_after object (next_birth w)
          → IsNew object (next_birth w) b' ⊎ (b' < next_birth w) → b' < next_birth c.after
      fresh None n (inl s) = absurd s
      fresh None n (inr s) = omega (arith, n, s)
      fresh (Some words) n (inl s) = omega (arith, n, s)
      fresh (Some words) n (inr s) = omega (arith, n, s)

  -- ---- the naming with the new birth

  module _ (bound : Bounded w) (c : ℕ) (free : cell_at a.cells c ≡ Free) (within : c < length a.cells) where
    abbrev pub naming_with : ℕ → ℕ
    naming_with b = if nat_eq b (next_birth w) then suc c else h b

    abbrev pub cells_with : List Cell
    cells_with = set a.cells c (Taken (next_birth w) Grey)

    came : Came (next_birth w) c Grey a.cells cells_with
    came = came_here (next_birth w) c Grey a.cells within free

    old_by : (b : ℕ) (t : Bool) → nat_eq b (next_birth w) ≡ t → b < next_birth w → h b ≡ (if t then suc c else h b)
    old_by b true e l = (let k = eqb-true b (next_birth w) e in absurd (omega (arith, k, l)))
    old_by b false e l = refl

    pub old_name : (b : ℕ) → b < next_birth w → h b ≡ naming_with b
    old_name b l = old_by b _ refl l

    new_by : (t : Bool) → nat_eq (next_birth w) (next_birth w) ≡ t → (if t then suc c else h (next_birth w)) ≡ suc c
    new_by true e = refl
    new_by false e = (let r = eq-eqb (next_birth w) (next_birth w) refl in absurd (cc))

    pub new_name : naming_with (next_birth w) ≡ suc c
    new_name = new_by _ refl

    pub named_with : Named naming_with cells_with
    named_with d b x e = elim (came_before (next_birth w) c Grey a.cells cells_with came d b x e) [
      | inl s ↦ ap naming_with s.1 ∙ new_name ∙ ap suc (sym s.0)
      | inr s ↦ sym (old_name b (i.tidy.born d b x s)) ∙ named d b x s
    ]

    -- ---- what leads to births that were made has one image under both

    pub frame_may : (t d : ℕ) (f : Frame) → slice_get (frames_at w t) d ≡ Some f
        → FrameMay h naming_with (λ b. b < next_birth w) old_name f
    frame_may t d f e = record {
      locals = may_all (Reach w) _ (map entry_ref f.locals) born_before (locals_known w t d f e);
      stack = may_all (Reach w) _ (map ref_of f.stack) born_before (stack_known w t d f e);
      monitor = λ b k. born_before b (monitor_known w t d b f e k);
    }

    slots_may : AllMay (λ b. b < next_birth w) (slots_of w)
    unfolding root_at
    slots_may = ref_may _ (slots_of w) (λ s b e. born_before b (at_root (Slot s) e))

    words_may : (b : ℕ) (o : Object) → slice_get w.objects b ≡ Some o
        → AllMay (λ b. b < next_birth w) (contents_refs o.contents)
    unfolding word_at
    words_may b o e = ref_may _ (contents_refs o.contents) (λ k b' f. bound b k b' (rw e f))

    held_if : (b : ℕ) (r : Option Object) → slice_get w.objects b ≡ r → named_object naming_with (object_or_nobody r)
        ≡ named_object h (object_or_nobody r)
    held_if b None e = refl
    held_if b (Some o) e = ap (λ k. record o { contents = k })
        (sym (contents_agree h naming_with (λ b. b < next_birth w) old_name o.contents (words_may b o e)))

    held_alike : (new : Object) (z : Cell) → ((b : ℕ) (x : Colour) → z ≡ Taken b x → b < next_birth w)
        → held_object naming_with (w.objects ++ new ∷ []) z ≡ held_object h w.objects z
    held_alike new Free k = refl
    held_alike new (Taken b x) k = ap (λ r. named_object naming_with (object_or_nobody r))
        (get-older w.objects new b (k b x refl)) ∙ held_if b (slice_get w.objects b) refl

    -- ---- the world with the new object

    pub new_on_cells : (new : Object) → LeadNowhere (contents_refs new.contents)
        → on_cells naming_with cells_with (with_new w new) ≡ with_object (on_cells h a.cells w) (suc c) new
    new_on_cells new empty =
        let threads = threads_agree h naming_with (λ b. b < next_birth w) old_name w.threads frame_may in
        let slots = fields_agree h naming_with (λ b. b < next_birth w) old_name w.statics.fields slots_may in
        let here : held_object naming_with (w.objects ++ new ∷ []) (Taken (next_birth w) Grey)
        ≡ new = ap (λ r. named_object naming_with (object_or_nobody r)) (get-newest w.objects new)
        ∙ ap (λ k. record new { contents = k }) (nowhere_named naming_with new.contents empty) in
        let objects = map-set (held_object naming_with (w.objects ++ new ∷ [])) a.cells c (Taken (next_birth w) Grey)
        ∙ ap (λ os. set os c (held_object naming_with (w.objects ++ new ∷ []) (Taken (next_birth w) Grey)))
        (mapped_alike _ _ a.cells (λ d. held_alike new (cell_at a.cells d) (λ b x e. i.tidy.born d b x e)))
        ∙ ap (set (map (held_object h w.objects) a.cells) c) here in
        ap (λ os. record (on_cells naming_with cells_with (with_new w new)) { objects = nobody ∷ os }) objects
        ∙ ap (λ ts. record (on_cells naming_with cells_with (with_new w new)) {
          threads = ts;
          objects = nobody ∷ set (map (held_object h w.objects) a.cells) c new;
        }) (sym threads)
        ∙ ap (λ fs. record (with_object (on_cells h a.cells w) (suc c) new) {
          statics = record {
            fields = fs;
            states = w.statics.states;
          };
        }) (sym slots)

    -- what stood in a cell stands there
    pub in_cell_with : (new : Object) (b : ℕ) → InCell h a.cells w b → InCell naming_with cells_with (with_new w new) b
    in_cell_with new b s =
        let l = i.tidy.born s.cell b s.colour s.held in
        record {
          cell = s.cell;
          colour = s.colour;
          object = s.object;
          held = came_after (next_birth w) c Grey a.cells cells_with came s.cell b s.colour s.held;
          named = sym (old_name b l) ∙ s.named;
          made = get-older w.objects new b l ∙ s.made;
        }

    pub in_cell_new : (new : Object) → InCell naming_with cells_with (with_new w new) (next_birth w)
    in_cell_new new = record {
      cell = c;
      colour = Grey;
      object = new;
      held = came.here;
      named = new_name;
      made = get-newest w.objects new;
    }

    pub refs_with : (bs : List ℕ) → ((b : ℕ) → In b bs → b < next_birth w) → map h bs ≡ map naming_with bs
    refs_with [] k = refl
    refs_with (b ∷ bs) k = ap (λ (r : ℕ). r ∷ map h bs) (old_name b (k b (inl refl)))
        ∙ ap (λ rs. naming_with b ∷ rs) (refs_with bs (λ x l. k x (inr l)))
