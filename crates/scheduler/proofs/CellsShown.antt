-- The cells of the machine on cells show the ideal machine to which it is joined.
use Rattle.std.proofs.Common.{◌≡◌, ◌+◌, ℕ, zero, suc, List, [], ◌∷◌, map, slice_get, Option, Some, None, refl, ap, sym}
use Rattle.std.proofs.Common.{Bool, true, false, if◌then◌else◌, subst, ◌∙◌, arith}
use Rattle.std.specs.Option.{option_map}
use Rattle.model.specs.declared.colours.Cell.{Cell}
use Rattle.model.specs.declared.colours.Cell.TheVariants.{Free, Taken}
use Rattle.model.specs.declared.colours.Colour.{Colour}
use Rattle.model.specs.declared.journals.HeapShape.{HeapShape}
use Rattle.model.specs.declared.values.Entry.{Entry}
use Rattle.model.specs.declared.values.Entry.TheVariants.{Unset, Holds as HoldsValue, UpperHalf}
use Rattle.model.specs.declared.values.Value.{Value}
use Rattle.model.specs.declared.values.Value.TheVariants.{Int, Long, Ref}
use Rattle.model.specs.Accounts.{Account}
use Rattle.model.specs.Collector.Invariant.{Invariant}
use Rattle.model.specs.Collector.Places.{Reach, contents_refs, entry_ref, field_ref, ref_of, root_at, slots_of, word_at}
use Rattle.model.specs.Collector.Places.Place.{Slot}
use Rattle.model.specs.Collector.Places.Reach.{at_root, by_word}
use Rattle.model.specs.Collector.Reached.{is_reached}
use Rattle.model.specs.Collector.Runs.{Holds}
use Rattle.model.specs.Collector.Table.{cell_at}
use Rattle.model.specs.Frames.{Frame}
use Rattle.model.specs.Machines.{Machine}
use Rattle.model.specs.Objects.{object_at}
use Rattle.model.specs.Observers.{reached_object}
use Rattle.model.specs.Shows.{HasCell, Held, HeapCell, Shows, ShowsObject, all_read, birth_in, entry_read, field_read}
use Rattle.model.specs.Shows.{frame_read, held_in, kind_of_contents, reference_read, thread_read, value_read, values_in}
use Rattle.model.specs.Worlds.{Contents, FieldValue, Object, Thread, World, frames_at, frames_of, next_birth}
use Rattle.model.specs.Worlds.Contents.{Array, Instance}
use Rattle.model.specs.Worlds.Thread.{Ended, Live}
use Rattle.model.proofs.CollectorLemmas.Known.{locals_known, monitor_known, ref_may, stack_known}
use Rattle.model.proofs.CollectorLemmas.Moving.{AllMay}
use Rattle.model.proofs.CollectorLemmas.Reaching.{is_reached-Reach}
use Rattle.join.specs.Joined.{Joined, Joint, named_account}
use Rattle.join.specs.Naming.{Named, Naming, named_contents, named_entry, named_field, named_frame, named_object}
use Rattle.join.specs.Naming.{named_ref, named_thread, named_value}
use Rattle.join.specs.OnCells.{InCell, held_object, on_cells}
use Rattle.join.specs.TurnsOnCells.{CellMachine}
use Rattle.join.proofs.Reached.{reached_in_cell}
use Rattle.instructions.specs.HeldOnCells.{held_of}
use Rattle.scheduler.specs.OnCells.{AreTold, IsToldOf, cell_referred, heap_from, heap_on, held_in_cell, standing}
use Rattle.scheduler.specs.Showing.{shown_in}

-- ---- references to births, then to cells, and read

module _ (cells : List HeapCell) (h : Naming) where
  -- the cell to which the birth's reference leads holds it
  abbrev InIts : ℕ → Type 0
  InIts b = birth_in cells (cell_referred (h b)) ≡ Some b

  ref_back : (r : Option ℕ) → ((b : ℕ) → r ≡ Some b → InIts b)
      → reference_read cells (named_ref cell_referred (named_ref h r)) ≡ Some r
  ref_back None its = refl
  ref_back (Some b) its = rw (its b refl) refl

  value_back : (v : Value) → ((b : ℕ) → ref_of v ≡ Some b → InIts b)
      → value_read cells (named_value cell_referred (named_value h v)) ≡ Some v
  value_back (Int z) its = refl
  value_back (Long z) its = refl
  value_back (Ref r) its = rw (ref_back r its) refl

  entry_back : (e : Entry) → ((b : ℕ) → entry_ref e ≡ Some b → InIts b)
      → entry_read cells (named_entry cell_referred (named_entry h e)) ≡ Some e
  entry_back Unset its = refl
  entry_back (HoldsValue v) its = rw (value_back v its) refl
  entry_back UpperHalf its = refl

  field_back : (f : FieldValue) → ((b : ℕ) → field_ref f ≡ Some b → InIts b)
      → field_read cells (named_field cell_referred (named_field h f)) ≡ Some f
  field_back f its = rw (value_back f.value its) refl

  values_back : (vs : List Value) → AllMay InIts (map ref_of vs)
      → all_read (value_read cells) (map (named_value cell_referred) (map (named_value h) vs)) ≡ Some vs
  values_back [] its = refl
  values_back (v ∷ vs) its = rw (value_back v its.0, values_back vs its.1) refl

  entries_back : (es : List Entry) → AllMay InIts (map entry_ref es)
      → all_read (entry_read cells) (map (named_entry cell_referred) (map (named_entry h) es)) ≡ Some es
  entries_back [] its = refl
  entries_back (e ∷ es) its = rw (entry_back e its.0, entries_back es its.1) refl

  fields_back : (fs : List FieldValue) → AllMay InIts (map field_ref fs)
      → all_read (field_read cells) (map (named_field cell_referred) (map (named_field h) fs)) ≡ Some fs
  fields_back [] its = refl
  fields_back (f ∷ fs) its = rw (field_back f its.0, fields_back fs its.1) refl

  -- a frame all of whose births have cells
  record FrameIn (f : Frame) : Type 0 where
    locals : AllMay InIts (map entry_ref f.locals)
    stack : AllMay InIts (map ref_of f.stack)
    monitor : (b : ℕ) → f.monitor ≡ Some b → InIts b

  frame_back : (f : Frame) → FrameIn f → frame_read cells (named_frame cell_referred (named_frame h f)) ≡ Some f
  frame_back f its = rw (
    entries_back f.locals its.locals,
    values_back f.stack its.stack,
    ref_back f.monitor its.monitor,
  ) refl

  frames_back : (fs : List Frame) → ((d : ℕ) (f : Frame) → slice_get fs d ≡ Some f → FrameIn f)
      → all_read (frame_read cells) (map (named_frame cell_referred) (map (named_frame h) fs)) ≡ Some fs
  frames_back [] its = refl
  frames_back (f ∷ fs) its = rw (frame_back f (its 0 f refl), frames_back fs (λ d. its (suc d))) refl

  thread_back : (t : Thread) → ((d : ℕ) (f : Frame) → slice_get (frames_of (Some t)) d ≡ Some f → FrameIn f)
      → thread_read cells (named_thread cell_referred (named_thread h t)) ≡ Some t
  thread_back (Live frames) its = rw (frames_back frames its) refl
  thread_back (Ended by) its = refl

  threads_back : (ts : List Thread) → ((t d : ℕ) (f : Frame) → slice_get (frames_of (slice_get ts t)) d ≡ Some f
      → FrameIn f)
      → all_read (thread_read cells) (map (named_thread cell_referred) (map (named_thread h) ts)) ≡ Some ts
  threads_back [] its = refl
  threads_back (t ∷ ts) its = rw (thread_back t (its 0), threads_back ts (λ u. its (suc u))) refl

-- ---- what stands in cells

all_may : (P Q : ℕ → Type 0) (rs : List (Option ℕ)) → ((b : ℕ) → P b → Q b) → AllMay P rs → AllMay Q rs
all_may P Q [] f its = tt
all_may P Q (r ∷ rs) f its = (λ b e. f b (its.0 b e), all_may P Q rs f its.1)

fields_may : (Q : ℕ → Type 0) (fields : List FieldValue) → AllMay Q (map field_ref fields)
    → AllMay Q (map ref_of (map (λ (f : FieldValue). f.value) fields))
fields_may Q [] its = tt
fields_may Q (f ∷ fields) its = (its.0, fields_may Q fields its.1)

contents_may : (Q : ℕ → Type 0) (c : Contents) → AllMay Q (contents_refs c) → AllMay Q (map ref_of (values_in c))
contents_may Q (Instance class fields) its = fields_may Q fields its
contents_may Q (Array element values) its = its

fields_named : (h : Naming) (fields : List FieldValue)
    → map (λ (f : FieldValue). f.value) (map (named_field h) fields)
    ≡ map (named_value h) (map (λ (f : FieldValue). f.value) fields)
fields_named h [] = refl
fields_named h (f ∷ fields) = ap (λ (vs : List Value). named_value h f.value ∷ vs) (fields_named h fields)

values_named : (h : Naming) (c : Contents) → values_in (named_contents h c) ≡ map (named_value h) (values_in c)
values_named h (Instance class fields) = fields_named h fields
values_named h (Array element values) = refl

kind_named : (h : Naming) (c : Contents) → kind_of_contents (named_contents h c) ≡ kind_of_contents c
kind_named h (Instance class fields) = refl
kind_named h (Array element values) = refl

-- the cell of this number, the first one having another
heap_at : (x : CellMachine) (first : ℕ) (cells : List Cell) (c b : ℕ) (y : Colour) → cell_at cells c ≡ Taken b y
    → held_in (heap_from x first cells) c ≡ held_in_cell x (first + c) (Taken b y)
heap_at x first [] c b y e = absurd (cc)
heap_at x first (cell ∷ cells) zero b y e =
    let here : first + 0 ≡ first = omega arith in rw (e, here) refl
heap_at x first (cell ∷ cells) (suc c) b y e =
    let next : first + suc c ≡ suc first + c = omega arith in rw next (heap_at x (suc first) cells c b y e)

birth_held : (x : CellMachine) (c a b : ℕ) (y : Colour) (o : Option Object)
    → option_map (λ (held : Held). held.birth) (option_map (standing a) o) ≡ Some b → a ≡ b
birth_held x c a b y None e = absurd (cc)
birth_held x c a b y (Some o) e = cc

-- a birth that is read in a cell is there
birth_there : (x : CellMachine) (first : ℕ) (cells : List Cell) (c b : ℕ)
    → birth_in (heap_from x first cells) c ≡ Some b → (y : Colour) × (cell_at cells c ≡ Taken b y)
birth_there x first [] c b e = absurd (cc)
birth_there x first (Free ∷ cells) zero b e = absurd (cc)
birth_there x first (Taken a y ∷ cells) zero b e =
    (y, ap (λ (n : ℕ). Taken n y) (birth_held x first a b y (object_at x.world (suc first)) e))
birth_there x first (Free ∷ cells) (suc c) b e = birth_there x (suc first) cells c b e
birth_there x first (Taken a y ∷ cells) (suc c) b e = birth_there x (suc first) cells c b e

-- what is told of a cell is the object of its birth, to which a path leads
record ShownAt (m : Machine) (cells : List Cell) (c : ℕ) (told : Held) : Type 0 where
  birth : ℕ
  colour : Colour
  held : cell_at cells c ≡ Taken birth colour
  told_is : shown_in m (Taken birth colour) ≡ Some told

shown_at : (m : Machine) (cells : List Cell) (c : ℕ) (told : Held)
    → slice_get (map (shown_in m) cells) c ≡ Some (Some told) → ShownAt m cells c told
shown_at m [] c told e = absurd (cc)
shown_at m (Free ∷ cells) zero told e = absurd (cc)
shown_at m (Taken b y ∷ cells) zero told e = record { birth = b; colour = y; held = refl; told_is = cc }
shown_at m (cell ∷ cells) (suc c) told e =
    let rest = shown_at m cells c told e in
    record { birth = rest.birth; colour = rest.colour; held = rest.held; told_is = rest.told_is }

objects_at : (h : Naming) (objects : List Object) (cells : List Cell) (c b : ℕ) (y : Colour)
    → cell_at cells c ≡ Taken b y
    → slice_get (map (held_object h objects) cells) c ≡ Some (held_object h objects (Taken b y))
objects_at h objects [] c b y e = absurd (cc)
objects_at h objects (cell ∷ cells) zero b y e = ap (λ (d : Cell). Some (held_object h objects d)) e
objects_at h objects (cell ∷ cells) (suc c) b y e = objects_at h objects cells c b y e

-- ---- the whole

module _ (h : Naming) (shape : HeapShape) (w : World) (a : Account) (named : Named h a.cells)
    (i : Invariant shape w (next_birth w) a) where
  abbrev image : CellMachine
  image = record { world = on_cells h a.cells w; account = named_account h a; births = next_birth w }

  abbrev heap : List HeapCell
  heap = heap_from image 0 a.cells

  abbrev its : (b : ℕ) → Reach w b → InCell h a.cells w b
  its = reached_in_cell h shape w a named i

  held_its : (b : ℕ) (s : InCell h a.cells w b) → held_in heap s.cell ≡ Some (standing b (named_object h s.object))
  held_its b s =
      let zero_first : 0 + s.cell ≡ s.cell = omega arith in
      let there : object_at image.world (suc s.cell) ≡ Some (named_object h s.object) =
      objects_at h w.objects a.cells s.cell b s.colour s.held ∙ (rw s.made refl) in
      heap_at image 0 a.cells s.cell b s.colour s.held
      ∙ ap (λ (c : ℕ). option_map (standing b) (object_at image.world (suc c))) zero_first
      ∙ ap (option_map (standing b)) there

  referred : (b : ℕ) (s : InCell h a.cells w b) → InIts heap h b
  referred b s = ap (λ (r : ℕ). birth_in heap (cell_referred r)) s.named
      ∙ ap (option_map (λ (held : Held). held.birth)) (held_its b s)

  reached : (b : ℕ) → Reach w b → InIts heap h b
  reached b r = referred b (its b r)

  words_may : (b : ℕ) (o : Object) → Reach w b → object_at w b ≡ Some o → AllMay (Reach w) (contents_refs o.contents)
  unfolding word_at
  words_may b o r e = ref_may (Reach w) (contents_refs o.contents) (λ k b' at. by_word b k r (rw e at))

  object_shown : (b : ℕ) (s : InCell h a.cells w b) → Reach w b
      → ShowsObject heap (standing b (named_object h s.object)) b s.object
  object_shown b s r = record {
    birth = refl;
    kind = kind_named h s.object.contents;
    words =
        ap (λ (vs : List Value). all_read (value_read heap) (map (named_value cell_referred) vs))
        (values_named h s.object.contents)
        ∙ values_back heap h (values_in s.object.contents) (contents_may (InIts heap h) s.object.contents
        (all_may (Reach w) (InIts heap h) (contents_refs s.object.contents) reached (words_may b s.object r s.made)));
    monitor = refl;
    thread = refl;
  }

  has_cell : (b : ℕ) → Reach w b → HasCell heap w b
  has_cell b r =
      let s = its b r in
      record {
        cell = s.cell;
        held = standing b (named_object h s.object);
        object = s.object;
        is_there = held_its b s;
        was_made = s.made;
        shown = object_shown b s r;
      }

  -- what is told of the object of a birth is read of the cell in which it stands
  told_there : (c b : ℕ) (y : Colour) (told : Held) → cell_at a.cells c ≡ Taken b y → Reach w b
      → option_map (held_of b) (object_at w b) ≡ Some told → IsToldOf heap c told
  told_there c b y told held r is =
      let s = its b r in
      let here : s.cell ≡ c = i.tidy.one s.cell c b s.colour y s.held held in
      let shown = object_shown b s r in
      let same : held_of b s.object ≡ told = let made = ap (option_map (held_of b)) s.made in cc in
      record {
        standing = standing b (named_object h s.object);
        there = ap (held_in heap) (sym here) ∙ held_its b s;
        birth = ap (λ (g : Held). g.birth) same;
        kind = shown.kind ∙ ap (λ (g : Held). g.kind) same;
        words = shown.words ∙ ap (λ (g : Held). Some g.words) same;
        monitor = ap (λ (g : Held). g.monitor) same;
        thread = ap (λ (g : Held). g.thread) same;
      }

  frame_in : (t d : ℕ) (f : Frame) → slice_get (frames_at w t) d ≡ Some f → FrameIn heap h f
  frame_in t d f e = record {
    locals = all_may (Reach w) (InIts heap h) (map entry_ref f.locals) reached (locals_known w t d f e);
    stack = all_may (Reach w) (InIts heap h) (map ref_of f.stack) reached (stack_known w t d f e);
    monitor = λ b at. reached b (monitor_known w t d b f e at);
  }

  slots_in : AllMay (InIts heap h) (map field_ref w.statics.fields)
  unfolding root_at
  slots_in = ref_may (InIts heap h) (slots_of w) (λ s b e. reached b (at_root (Slot s) e))

  image_shows : Shows (heap_on image) w
  image_shows = record {
    threads = threads_back heap h w.threads frame_in;
    slots = fields_back heap h w.statics.fields slots_in;
    states = refl;
    output = refl;
    fault = refl;
    rows = refl;
    births = refl;
    objects = has_cell;
    one = λ c d b e f. (let x = birth_there image 0 a.cells c b e in let y = birth_there image 0 a.cells d b f
        in i.tidy.one c d b x.0 y.0 x.1 y.1);
  }

  told_by_mark : (c b : ℕ) (y : Colour) (told : Held) (t : Bool) → cell_at a.cells c ≡ Taken b y → is_reached w b ≡ t
      → option_map (held_of b) (if t then object_at w b else None) ≡ Some told → IsToldOf heap c told
  told_by_mark c b y told true held is e = told_there c b y told held (is_reached-Reach w b is) e
  told_by_mark c b y told false held is e = absurd (cc)

  image_told : (m : Machine) → m.world ≡ w → AreTold heap (map (shown_in m) a.cells)
  image_told m same c told e =
      let is = shown_at m a.cells c told e in
      told_by_mark c is.birth is.colour told (is_reached w is.birth) is.held refl
      (ap (λ (u : World). option_map (held_of is.birth) (reached_object u is.birth)) (sym same) ∙ is.told_is)

-- ---- of any machine on cells that is joined

image_is : (h : Naming) (x : CellMachine) (m : Machine) → Joined h x m → x
    ≡ record {
      world = on_cells h m.account.cells m.world;
      account = named_account h m.account;
      births = next_birth m.world;
    }
image_is h x m joined = rw (joined.world, joined.account, joined.births) refl

module _ (x : CellMachine) (m : Machine) (shape : HeapShape) (joint : Joint x m) (holds : Holds shape m) where
  abbrev n : Naming
  n = joint.naming

  pub cells_shown : Shows (heap_on x) m.world
  unfolding Holds
  cells_shown =
      subst (λ (y : CellMachine). Shows (heap_on y) m.world) (sym (image_is n x m joint.joined))
      (image_shows n shape m.world m.account joint.joined.named holds)

  pub cells_told : AreTold (heap_on x).cells (map (shown_in m) m.account.cells)
  unfolding Holds
  cells_told =
      subst (λ (y : CellMachine). AreTold (heap_on y).cells (map (shown_in m) m.account.cells))
      (sym (image_is n x m joint.joined)) (image_told n shape m.world m.account joint.joined.named holds m refl)
