use Rattle.std.proofs.Common.{◌≡◌, ℕ, zero, suc, List, [], ◌∷◌, map, slice_get, Option, Some, None, refl}
use Rattle.std.proofs.Common.{sym, ◌∙◌, ap, subst}
use Rattle.model.specs.declared.colours.Colour.{Colour}
use Rattle.model.specs.declared.colours.Cell.{Cell}
use Rattle.model.specs.declared.colours.Cell.TheVariants.{Free, Taken}
use Rattle.model.specs.declared.values.Value.{Value}
use Rattle.model.specs.declared.values.Value.TheVariants.{Int, Long, Ref}
use Rattle.model.specs.declared.values.Entry.{Entry}
use Rattle.model.specs.declared.values.Entry.TheVariants.{Unset, Holds as HoldsValue, UpperHalf}
use Rattle.model.specs.Frames.{Frame}
use Rattle.model.specs.Worlds.{World, Thread, FieldValue, Contents, Object}
use Rattle.model.specs.Worlds.Thread.{Live, Ended}
use Rattle.model.specs.Worlds.Contents.{Instance, Array}
use Rattle.model.specs.Objects.{object_at}
use Rattle.model.specs.Collector.Places.{Place, Reach, root_at, word_at}
use Rattle.model.specs.Collector.Places.Place.{MemoryError, StackError, Slot, FrameEntry, MethodMonitor}
use Rattle.model.specs.Collector.Places.Reach.{at_root, by_word}
use Rattle.model.specs.Collector.Table.{cell_at}
use Rattle.join.specs.Naming.{Naming, named_ref, named_value, named_entry, named_frame, named_thread}
use Rattle.join.specs.Naming.{named_field, named_contents, named_object}
use Rattle.join.specs.OnCells.{on_cells, InCell, held_object, nobody, object_or_nobody, ReachedInCells}
use Rattle.join.proofs.Lists.{map-after}
use Rattle.join.proofs.Cells.{mapped_alike, object_in_cell}
use Rattle.join.proofs.Places.{slot_on_cells, entry_on_cells, method_on_cells, word_on_cells}
use Rattle.exploration.specs.Representation.{NoGarbage, Images, Represents}

-- what represents an image of a world represents the world

-- ---- one naming after another

module _ (h g : Naming) where
  abbrev both : ℕ → ℕ
  both b = g (h b)

  ref_after : (r : Option ℕ) → named_ref g (named_ref h r) ≡ named_ref both r
  ref_after None = refl
  ref_after (Some b) = refl

  value_after : (v : Value) → named_value g (named_value h v) ≡ named_value both v
  value_after (Int z) = refl
  value_after (Long z) = refl
  value_after (Ref r) = ap Ref (ref_after r)

  entry_after : (e : Entry) → named_entry g (named_entry h e) ≡ named_entry both e
  entry_after Unset = refl
  entry_after (HoldsValue v) = ap HoldsValue (value_after v)
  entry_after UpperHalf = refl

  frame_after : (f : Frame) → named_frame g (named_frame h f) ≡ named_frame both f
  frame_after f = rw (
    map-after (named_entry h) (named_entry g) (named_entry both) entry_after f.locals,
    map-after (named_value h) (named_value g) (named_value both) value_after f.stack,
    ref_after f.monitor,
  ) refl

  thread_after : (t : Thread) → named_thread g (named_thread h t) ≡ named_thread both t
  thread_after (Live frames) = ap Live (map-after (named_frame h) (named_frame g) (named_frame both) frame_after frames)
  thread_after (Ended by) = refl

  field_after : (f : FieldValue) → named_field g (named_field h f) ≡ named_field both f
  field_after f = ap (λ (v : Value). let y : FieldValue = record f { value = v } in y) (value_after f.value)

  contents_after : (c : Contents) → named_contents g (named_contents h c) ≡ named_contents both c
  contents_after (Instance class fields) = ap (Instance class) (map-after (named_field h) (named_field g)
      (named_field both) field_after fields)
  contents_after (Array element values) = ap (Array element) (map-after (named_value h) (named_value g)
      (named_value both) value_after values)

  object_after : (o : Object) → named_object g (named_object h o) ≡ named_object both o
  object_after o = ap (λ (c : Contents). let y : Object = record o { contents = c } in y) (contents_after o.contents)

-- ---- paths, of colours and phases nothing is asked

-- what leads to a name leads to a birth of that name
named_back : (h : Naming) (o : Option ℕ) (r : ℕ) → named_ref h o ≡ Some r → (b : ℕ) × (o ≡ Some b) × (h b ≡ r)
named_back h None r e = absurd (cc)
named_back h (Some b) r e = (b, refl, cc)

module _ (h : Naming) (cells : List Cell) (w : World) (u : ReachedInCells h cells w) where
  abbrev on : World
  on = on_cells h cells w

  root_on_cells : (p : Place) → root_at on p ≡ named_ref h (root_at w p)
  unfolding root_at
  root_on_cells MemoryError = ap (λ (r : ℕ). Some r) (sym u.memory_error)
  root_on_cells StackError = ap (λ (r : ℕ). Some r) (sym u.stack_error)
  root_on_cells (Slot s) = slot_on_cells h cells w s
  root_on_cells (FrameEntry t d j) = entry_on_cells h cells w t d j
  root_on_cells (MethodMonitor t d) = method_on_cells h cells w t d

  pub path_on_cells : (b : ℕ) → Reach w b → Reach on (h b)
  path_on_cells b (at_root p e) = at_root p (root_on_cells p ∙ ap (named_ref h) e)
  path_on_cells b (by_word x k r e) =
      by_word (h x) k (path_on_cells x r) (word_on_cells h cells w x k (u.reached x r) ∙ ap (named_ref h) e)

  -- the birth at the end of a path on cells
  abbrev Ends : ℕ → Type 0
  Ends r = (b : ℕ) × Reach w b × (h b ≡ r)

  pub ends : (r : ℕ) → Reach on r → Ends r
  ends r (at_root p e) = let back = named_back h (root_at w p) r (sym (root_on_cells p) ∙ e)
      in (back.0, at_root p back.1, back.2)
  ends r (by_word x k p e) =
      let from : Ends x = ends x p in
      let there : word_at on (h from.0) k ≡ Some r = subst (λ (y : ℕ). word_at on y k ≡ Some r) (sym from.2) e in
      let back = named_back h (word_at w from.0 k) r
      (sym (word_on_cells h cells w from.0 k (u.reached from.0 from.1)) ∙ there) in
      (back.0, by_word from.0 k from.1 back.1, back.2)

-- ---- cells of cells

-- the cell that a cell of the image's births stands for
abbrev under : List Cell → Cell → Cell
under cells Free = Free
under cells (Taken zero colour) = Free
under cells (Taken (suc c) colour) = cell_at cells c

at_mapped : (f : Cell → Cell) → f Free ≡ Free → (cells : List Cell) (c : ℕ) → cell_at (map f cells) c ≡ f (cell_at cells c)
at_mapped f e [] c = sym e
at_mapped f e (z ∷ cells) zero = refl
at_mapped f e (z ∷ cells) (suc c) = at_mapped f e cells c

module _ (h : Naming) (cells : List Cell) (w : World) (u : ReachedInCells h cells w) (g : Naming) (others : List Cell)
    (v : ReachedInCells g others (on_cells h cells w)) (tidy : NoGarbage others (on_cells h cells w)) where
  abbrev image : World
  image = on_cells h cells w

  abbrev k : ℕ → ℕ
  k b = g (h b)

  abbrev through : List Cell
  through = map (under cells) others

  through_at : (c : ℕ) → cell_at through c ≡ under cells (cell_at others c)
  through_at c = at_mapped (under cells) refl others c

  -- the birth for which a birth of the image stands
  record Under (r : ℕ) : Type 0 where
    birth : ℕ
    reach : Reach w birth
    name : h birth ≡ r
    colour : Colour
    object : Object
    held : (x : Colour) → under cells (Taken r x) ≡ Taken birth colour
    made : slice_get w.objects birth ≡ Some object
    shown : object_at image r ≡ Some (named_object h object)

  under_at : (b c : ℕ) (x y : Colour) → cell_at cells c ≡ Taken b x → (r : ℕ) → r ≡ suc c
      → under cells (Taken r y) ≡ Taken b x
  under_at b c x y e r s = rw s e

  found : (r : ℕ) → Reach image r → Under r
  found r p =
      let e = ends h cells w u r p in
      let s : InCell h cells w e.0 = u.reached e.0 e.1 in
      record {
        birth = e.0;
        reach = e.1;
        name = e.2;
        colour = s.colour;
        object = s.object;
        held = λ y. under_at e.0 s.cell s.colour y s.held r (sym e.2 ∙ s.named);
        made = s.made;
        shown = subst (λ (x : ℕ). object_at image x ≡ Some (named_object h s.object)) e.2
            (object_in_cell h cells w e.0 s);
      }

  held_through : (z : Cell) → ((r : ℕ) (x : Colour) → z ≡ Taken r x → Reach image r)
      → held_object k w.objects (under cells z) ≡ held_object g image.objects z
  held_through Free q = refl
  held_through (Taken r x) q =
      let f : Under r = found r (q r x refl) in
      ap (held_object k w.objects) (f.held x)
      ∙ ap (λ o. named_object k (object_or_nobody o)) f.made
      ∙ sym (object_after h g f.object)
      ∙ ap (λ o. named_object g (object_or_nobody o)) (sym f.shown)

  same_world : on_cells g others image ≡ on_cells k through w
  same_world =
      let threads = map-after (named_thread h) (named_thread g) (named_thread k) (thread_after h g) w.threads in
      let fields = map-after (named_field h) (named_field g) (named_field k) (field_after h g) w.statics.fields in
      let objects : map (held_object g image.objects) others ≡ map (held_object k w.objects) through =
      sym (map-after (under cells) (held_object k w.objects) (λ z. held_object k w.objects (under cells z)) (λ z. refl)
      others ∙ mapped_alike (λ z. held_object k w.objects (under cells z)) (held_object g image.objects) others
      (λ d. held_through (cell_at others d) (tidy d))) in
      ap (λ ts. record (on_cells g others image) { threads = ts }) threads
      ∙ ap (λ fs. record (on_cells g others image) {
        threads = map (named_thread k) w.threads;
        statics = record { fields = fs; states = w.statics.states };
      }) fields
      ∙ ap (λ os. record (on_cells k through w) { objects = nobody ∷ os }) objects

  -- a birth in a cell, and in which
  record Through (c b : ℕ) : Type 0 where
    reach : Reach w b
    name : k b ≡ suc c

  through_cell : (c b : ℕ) (x : Colour) (z : Cell) → cell_at others c ≡ z → under cells z ≡ Taken b x → Through c b
  through_cell c b x Free e s = absurd (cc)
  through_cell c b x (Taken r y) e s =
      let f : Under r = found r (tidy c r y e) in
      let same : f.birth ≡ b = (let q = sym (f.held y) ∙ s in cc) in
      record {
        reach = subst (Reach w) same f.reach;
        name = ap g (ap h (sym same) ∙ f.name) ∙ v.named c r y e;
      }

  at_cell : (c b : ℕ) (x : Colour) → cell_at through c ≡ Taken b x → Through c b
  at_cell c b x e = through_cell c b x (cell_at others c) refl (sym (through_at c) ∙ e)

  reached_through : (b : ℕ) → Reach w b → InCell k through w b
  reached_through b r =
      let s = u.reached b r in
      let q = v.reached (h b) (path_on_cells h cells w u b r) in
      record {
        cell = q.cell;
        colour = s.colour;
        object = s.object;
        held = through_at q.cell ∙ ap (under cells) q.held
            ∙ under_at b s.cell s.colour q.colour s.held (h b) s.named;
        named = q.named;
        made = s.made;
      }

  pub represents_through : Represents (on_cells g others image) w
  represents_through = record {
    naming = k;
    cells = through;
    reached = record {
      named = λ c b x e. Through.name (at_cell c b x e);
      reached = reached_through;
      memory_error = ap g u.memory_error ∙ v.memory_error;
      stack_error = ap g u.stack_error ∙ v.stack_error;
    };
    tidy = λ c b x e. Through.reach (at_cell c b x e);
    is = same_world;
  }

pub represents_image : (y x w : World) → Represents y x → Images x w → Represents y w
represents_image y x w r i =
    let s : Represents y (on_cells i.naming i.cells w) = subst (Represents y) i.is r in
    subst (λ z. Represents z w) (sym s.is)
    (represents_through i.naming i.cells w i.reached s.naming s.cells s.reached s.tidy)
