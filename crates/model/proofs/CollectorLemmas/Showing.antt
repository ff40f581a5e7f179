use Rattle.std.proofs.Common.{◌≡◌, ℕ, zero, suc, ◌<◌, Bool, true, false, List, [], ◌∷◌, length, map, slice_get, Option}
use Rattle.std.proofs.Common.{Some, None, nat_eq, refl, ◌∙◌, ap, arith, eqb-true, eq-eqb}
use Rattle.std.specs.Option.{option_map}
use Rattle.model.specs.declared.colours.Colour.{Colour}
use Rattle.model.specs.declared.journals.HeapShape.{HeapShape}
use Rattle.model.specs.declared.values.Value.{Value}
use Rattle.model.specs.declared.values.Value.TheVariants.{Int, Long, Ref}
use Rattle.model.specs.declared.values.Entry.{Entry}
use Rattle.model.specs.declared.values.Entry.TheVariants.{Unset, Holds, UpperHalf}
use Rattle.model.specs.Accounts.{Account}
use Rattle.model.specs.declared.colours.Cell.{Cell}
use Rattle.model.specs.declared.colours.Cell.TheVariants.{Free, Taken}
use Rattle.model.specs.Frames.{Frame}
use Rattle.model.specs.Worlds.{World, Thread, FieldValue, Contents, Object, frames_of, frames_at, next_birth}
use Rattle.model.specs.Worlds.Thread.{Live, Ended}
use Rattle.model.specs.Worlds.Contents.{Instance, Array}
use Rattle.model.specs.Objects.{object_at}
use Rattle.model.specs.Shows.{Held, HeapCell, held_in, birth_in, reference_read, value_read, entry_read, field_read}
use Rattle.model.specs.Shows.{frame_read, thread_read, all_read, values_in, HasCell, Shows}
use Rattle.model.specs.Heaps.{home, placed_object, placed_cell, heap_of}
use Rattle.model.specs.Naming.{named_ref, named_value, named_entry, named_field, named_frame, named_thread}
use Rattle.model.specs.Collector.Places.{ref_of, entry_ref, field_ref, contents_refs, slots_of, root_at, word_at, Reach}
use Rattle.model.specs.Collector.Places.Place.{Slot}
use Rattle.model.specs.Collector.Places.Reach.{at_root, by_word}
use Rattle.model.specs.Collector.Table.{cell_at}
use Rattle.model.specs.Collector.Invariant.{Invariant}
use Rattle.model.proofs.CollectorLemmas.Moving.{AllMay}
use Rattle.model.proofs.CollectorLemmas.Known.{ref_may, locals_known, stack_known, monitor_known}
use Rattle.model.proofs.CollectorLemmas.Shading.{reach_kept}

-- where the invariant holds, the heap that the account stands for shows the ideal world

-- ---- the cell of a birth

-- the birth stands here, or its home is further on
home_from : (cells : List Cell) (a b : ℕ) (y : Colour) (t : Bool) → nat_eq a b ≡ t
    → (nat_eq a b ≡ false → (z : Colour) × (cell_at cells (home cells b) ≡ Taken b z)) → (z : Colour)
    × (cell_at (Taken a y ∷ cells) (home (Taken a y ∷ cells) b) ≡ Taken b z)
home_from cells a b y true s further = rw s (y, let r = eqb-true a b s in rw r refl)
home_from cells a b y false s further = rw s (further s)

home_holds : (cells : List Cell) (c b : ℕ) (x : Colour) → cell_at cells c ≡ Taken b x → (y : Colour)
    × (cell_at cells (home cells b) ≡ Taken b y)
home_holds [] c b x e = absurd (cc)
home_holds (Free ∷ cells) zero b x e = absurd (cc)
home_holds (Free ∷ cells) (suc c) b x e = home_holds cells c b x e
home_holds (Taken a y ∷ cells) zero b x e = home_from cells a b y (nat_eq a b) refl
    (λ s. (let r : a ≡ b = cc in let q = eq-eqb a b r in absurd (cc)))
home_holds (Taken a y ∷ cells) (suc c) b x e = home_from cells a b y (nat_eq a b) refl (λ s. home_holds cells c b x e)

cell_mapped : (f : Cell → HeapCell) (cells : List Cell) (c b : ℕ) (x : Colour) → cell_at cells c ≡ Taken b x
    → held_in (map f cells) c ≡ f (Taken b x)
cell_mapped f [] c b x e = absurd (cc)
cell_mapped f (cell ∷ cells) zero b x e = rw e refl
cell_mapped f (cell ∷ cells) (suc c) b x e = cell_mapped f cells c b x e

made : (os : List Object) (b : ℕ) → b < length os → (o : Object) × (slice_get os b ≡ Some o)
made [] b h = absurd (omega arith)
made (o ∷ os) zero h = (o, refl)
made (o ∷ os) (suc b) h = made os b (omega arith)

-- what is in a cell, read back
birth_placed : (cells : List Cell) (w : World) (cell : Cell) (b : ℕ)
    → option_map (λ (held : Held). held.birth) (placed_cell cells w cell) ≡ Some b → (x : Colour) × (cell ≡ Taken b x)
birth_placed cells w Free b e = absurd (cc)
birth_placed cells w (Taken a x) b e = go (object_at w a) refl
  where
    go : (o : Option Object) → object_at w a ≡ o → (y : Colour) × (Taken a x ≡ Taken b y)
    go None s = (let k : option_map (λ (held : Held). held.birth) (option_map (placed_object cells a) None)
        ≡ Some b = rw s at e in absurd (cc))
    go (Some o) s = (let k : option_map (λ (held : Held). held.birth) (option_map (placed_object cells a) (Some o))
        ≡ Some b = rw s at e in (x, cc))

birth_at : (w : World) (all cells : List Cell) (c b : ℕ) → birth_in (map (placed_cell all w) cells) c ≡ Some b
    → (x : Colour) × (cell_at cells c ≡ Taken b x)
birth_at w all [] c b e = absurd (cc)
birth_at w all (cell ∷ cells) zero b e = birth_placed all w cell b e
birth_at w all (cell ∷ cells) (suc c) b e = birth_at w all cells c b e

-- ---- reading back what was placed, where each birth has a cell

-- these cells, as a heap, hold the births
module _ (hs : List HeapCell) (cells : List Cell) where
  abbrev Homed : ℕ → Type 0
  Homed b = birth_in hs (home cells b) ≡ Some b

  ref_back : (r : Option ℕ) → ((b : ℕ) → r ≡ Some b → Homed b) → reference_read hs (named_ref (home cells) r) ≡ Some r
  ref_back None h = refl
  ref_back (Some b) h = rw (h b refl) refl

  value_back : (v : Value) → ((b : ℕ) → ref_of v ≡ Some b → Homed b) → value_read hs (named_value (home cells) v)
      ≡ Some v
  value_back (Int z) h = refl
  value_back (Long z) h = refl
  value_back (Ref r) h = rw (ref_back r h) refl

  entry_back : (e : Entry) → ((b : ℕ) → entry_ref e ≡ Some b → Homed b) → entry_read hs (named_entry (home cells) e)
      ≡ Some e
  entry_back Unset h = refl
  entry_back (Holds v) h = rw (value_back v h) refl
  entry_back UpperHalf h = refl

  field_back : (f : FieldValue) → ((b : ℕ) → field_ref f ≡ Some b → Homed b)
      → field_read hs (named_field (home cells) f) ≡ Some f
  field_back f h = rw (value_back f.value h) refl

  values_back : (vs : List Value) → AllMay Homed (map ref_of vs)
      → all_read (value_read hs) (map (named_value (home cells)) vs) ≡ Some vs
  values_back [] h = refl
  values_back (v ∷ vs) h = rw (value_back v h.0, values_back vs h.1) refl

  entries_back : (es : List Entry) → AllMay Homed (map entry_ref es)
      → all_read (entry_read hs) (map (named_entry (home cells)) es) ≡ Some es
  entries_back [] h = refl
  entries_back (e ∷ es) h = rw (entry_back e h.0, entries_back es h.1) refl

  fields_back : (fs : List FieldValue) → AllMay Homed (map field_ref fs)
      → all_read (field_read hs) (map (named_field (home cells)) fs) ≡ Some fs
  fields_back [] h = refl
  fields_back (f ∷ fs) h = rw (field_back f h.0, fields_back fs h.1) refl

  -- a frame whose births have cells
  record HomedFrame (f : Frame) : Type 0 where
    locals : AllMay Homed (map entry_ref f.locals)
    stack : AllMay Homed (map ref_of f.stack)
    monitor : (b : ℕ) → f.monitor ≡ Some b → Homed b

  frame_back : (f : Frame) → HomedFrame f → frame_read hs (named_frame (home cells) f) ≡ Some f
  frame_back f h = rw (entries_back f.locals h.locals, values_back f.stack h.stack, ref_back f.monitor h.monitor) refl

  frames_back : (fs : List Frame) → ((d : ℕ) (f : Frame) → slice_get fs d ≡ Some f → HomedFrame f)
      → all_read (frame_read hs) (map (named_frame (home cells)) fs) ≡ Some fs
  frames_back [] h = refl
  frames_back (f ∷ fs) h = rw (frame_back f (h 0 f refl), frames_back fs (λ d. h (suc d))) refl

  thread_back : (t : Thread) → ((d : ℕ) (f : Frame) → slice_get (frames_of (Some t)) d ≡ Some f → HomedFrame f)
      → thread_read hs (named_thread (home cells) t) ≡ Some t
  thread_back (Live frames) h = rw (frames_back frames h) refl
  thread_back (Ended by) h = refl

  threads_back : (ts : List Thread) → ((t d : ℕ) (f : Frame) → slice_get (frames_of (slice_get ts t)) d ≡ Some f
      → HomedFrame f) → all_read (thread_read hs) (map (named_thread (home cells)) ts) ≡ Some ts
  threads_back [] h = refl
  threads_back (t ∷ ts) h = rw (thread_back t (h 0), threads_back ts (λ u. h (suc u))) refl

-- ---- what the invariant gives

-- a weaker property of each reference
may_all : (P Q : ℕ → Type 0) (rs : List (Option ℕ)) → ((b : ℕ) → P b → Q b) → AllMay P rs → AllMay Q rs
may_all P Q [] f h = tt
may_all P Q (r ∷ rs) f h = (λ b e. f b (h.0 b e), may_all P Q rs f h.1)

contents_may : (Q : ℕ → Type 0) (c : Contents) → AllMay Q (contents_refs c) → AllMay Q (map ref_of (values_in c))
contents_may Q (Instance class fields) h = go fields h
  where
    go : (fs : List FieldValue) → AllMay Q (map field_ref fs)
        → AllMay Q (map ref_of (map (λ (f : FieldValue). f.value) fs))
    go [] k = tt
    go (f ∷ fs) k = (k.0, go fs k.1)
contents_may Q (Array element values) h = h

module _ (shape : HeapShape) (w : World) (a : Account) (i : Invariant shape w (next_birth w) a) where
  abbrev heap_cells : List HeapCell
  heap_cells = map (placed_cell a.cells w) a.cells

  object_of : (b : ℕ) → Reach w b → (o : Object) × (object_at w b ≡ Some o)
  object_of b r = let k = reach_kept shape w (next_birth w) a b i r
      in made w.objects b (i.tidy.born k.cell b k.colour k.held)

  held_home : (b : ℕ) (r : Reach w b) → held_in heap_cells (home a.cells b)
      ≡ Some (placed_object a.cells b (object_of b r).0)
  held_home b r =
      let k = reach_kept shape w (next_birth w) a b i r in
      let h = home_holds a.cells k.cell b k.colour k.held in
      let o = object_of b r in
      cell_mapped (placed_cell a.cells w) a.cells (home a.cells b) b h.0 h.1 ∙ ap (option_map (placed_object a.cells b))
      o.1

  homed : (b : ℕ) → Reach w b → Homed heap_cells a.cells b
  homed b r = ap (option_map (λ (held : Held). held.birth)) (held_home b r)

  words_homed : (b : ℕ) (o : Object) → Reach w b → object_at w b ≡ Some o
      → AllMay (Homed heap_cells a.cells) (contents_refs o.contents)
  unfolding word_at
  words_homed b o r e = ref_may (Homed heap_cells a.cells) (contents_refs o.contents)
      (λ k b' h. homed b' (by_word b k r (rw e h)))

  has_cell : (b : ℕ) → Reach w b → HasCell heap_cells w b
  has_cell b r =
      let o = object_of b r in
      record {
        cell = home a.cells b;
        held = placed_object a.cells b o.0;
        object = o.0;
        is_there = held_home b r;
        was_made = o.1;
        shown = record {
          birth = refl;
          kind = refl;
          words = values_back heap_cells a.cells (values_in o.0.contents) (contents_may (Homed heap_cells a.cells)
              o.0.contents (words_homed b o.0 r o.1));
          monitor = refl;
          thread = refl;
        };
      }

  frame_homed : (t d : ℕ) (f : Frame) → slice_get (frames_at w t) d ≡ Some f → HomedFrame heap_cells a.cells f
  frame_homed t d f e = record {
    locals = may_all (Reach w) (Homed heap_cells a.cells) (map entry_ref f.locals) homed (locals_known w t d f e);
    stack = may_all (Reach w) (Homed heap_cells a.cells) (map ref_of f.stack) homed (stack_known w t d f e);
    monitor = λ b k. homed b (monitor_known w t d b f e k);
  }

  slots_homed : AllMay (Homed heap_cells a.cells) (map field_ref w.statics.fields)
  unfolding root_at
  slots_homed = ref_may (Homed heap_cells a.cells) (slots_of w) (λ s b e. homed b (at_root (Slot s) e))

  pub heap_shows : Shows (heap_of a w) w
  heap_shows = record {
    threads = threads_back heap_cells a.cells w.threads frame_homed;
    slots = fields_back heap_cells a.cells w.statics.fields slots_homed;
    states = refl;
    output = refl;
    fault = refl;
    rows = refl;
    births = refl;
    objects = has_cell;
    one = λ c d b e f. (let x = birth_at w a.cells a.cells c b e
        in let y = birth_at w a.cells a.cells d b f in i.tidy.one c d b x.0 y.0 x.1 y.1);
  }
