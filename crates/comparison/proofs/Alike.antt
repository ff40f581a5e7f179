-- The cells show the worlds that are alike to one that they show, and no others.
use Rattle.std.proofs.Common.{◌≡◌, ◌↔◌, ℕ, List, [], ◌∷◌, map, slice_get, Option, Some, None, refl, sym, ◌∙◌, ap}
use Rattle.std.specs.Option.{option_map}
use Rattle.model.specs.Collector.Places.{Reach, Place, root_at, word_at, ref_of, field_ref, contents_refs, object_refs}
use Rattle.model.specs.Collector.Places.{ref_at, entries_at, monitor_at}
use Rattle.model.specs.Collector.Places.Place.{MemoryError, StackError, Slot, FrameEntry, MethodMonitor}
use Rattle.model.specs.Collector.Places.Reach.{at_root, by_word}
use Rattle.model.specs.Objects.{object_at}
use Rattle.model.specs.Shows.{Held, HeapWorld, HasCell, ShowsObject, Shows, all_read, value_read, birth_in, held_in}
use Rattle.model.specs.Shows.{kind_of_contents, values_in}
use Rattle.model.specs.Worlds.{World, Thread, FieldValue, Contents, Object, frames_of}
use Rattle.model.specs.Worlds.Contents.{Instance, Array}
use Rattle.instructions.specs.HeldOnCells.{held_of}
use Rattle.scheduler.specs.Showing.{Alike, held_at}

some_same : {A : Type 0} (x y : A) → Some x ≡ Some y → x ≡ y
some_same x y e = cc

-- ---- paths, by what objects hold

refs_in : Option Held → List (Option ℕ)
refs_in None = []
refs_in (Some held) = map ref_of held.words

fields_refs : (fields : List FieldValue) → map field_ref fields ≡ map ref_of (map (λ (f : FieldValue). f.value) fields)
fields_refs [] = refl
fields_refs (f ∷ fields) = ap (λ rs. field_ref f ∷ rs) (fields_refs fields)

contents_held : (c : Contents) → contents_refs c ≡ map ref_of (values_in c)
contents_held (Instance class fields) = fields_refs fields
contents_held (Array element values) = refl

object_held : (b : ℕ) (o : Option Object) → object_refs o ≡ refs_in (option_map (held_of b) o)
unfolding refs_in
object_held b None = refl
object_held b (Some o) = contents_held o.contents

word_held : (v w : World) (a k : ℕ) → held_at v a ≡ held_at w a → word_at v a k ≡ word_at w a k
unfolding word_at
word_held v w a k e =
    ap (λ rs. ref_at rs k) (object_held a (object_at v a) ∙ ap refs_in e ∙ sym (object_held a (object_at w a)))

root_same : (v w : World) → v.threads ≡ w.threads → v.statics.fields ≡ w.statics.fields → (p : Place) → root_at v p
    ≡ root_at w p
unfolding root_at
root_same v w threads slots MemoryError = refl
root_same v w threads slots StackError = refl
root_same v w threads slots (Slot s) = ap (λ (fields : List FieldValue). ref_at (map field_ref fields) s) slots
root_same v w threads slots (FrameEntry t d j) = ap
    (λ (ts : List Thread). ref_at (entries_at (frames_of (slice_get ts t)) d) j) threads
root_same v w threads slots (MethodMonitor t d) = ap (λ (ts : List Thread). monitor_at (frames_of (slice_get ts t)) d)
    threads

-- ---- from one world to another that is alike

module _ (m : HeapWorld) (v w : World) (shown : Shows m v) where
  module _ (alike : Alike v w) where
    back : (b : ℕ) → Reach w b → Reach v b
    back b (at_root p e) = at_root p (root_same v w alike.threads alike.slots p ∙ e)
    back b (by_word a k r e) = let s = back a r in by_word a k s (word_held v w a k (alike.objects a s) ∙ e)

    -- the object of the other world, in the same cell
    other : (b : ℕ) (s : HasCell m.cells v b) (o : Option Object) → object_at w b ≡ o → Some (held_of b s.object)
        ≡ option_map (held_of b) o → HasCell m.cells w b
    other b s None is e = absurd (cc)
    other b s (Some o) is e =
        let same : held_of b s.object ≡ held_of b o = some_same (held_of b s.object) (held_of b o) e in
        record {
          cell = s.cell;
          held = s.held;
          object = o;
          is_there = s.is_there;
          was_made = is;
          shown = record {
            birth = s.shown.birth;
            kind = s.shown.kind ∙ ap (λ (h : Held). h.kind) same;
            words = s.shown.words ∙ ap (λ (h : Held). Some h.words) same;
            monitor = s.shown.monitor ∙ ap (λ (h : Held). h.monitor) same;
            thread = s.shown.thread ∙ ap (λ (h : Held). h.thread) same;
          };
        }

    has_cell : (b : ℕ) → Reach w b → HasCell m.cells w b
    has_cell b r =
        let t = back b r in
        let s = shown.objects b t in
        other b s (object_at w b) refl (sym (ap (option_map (held_of b)) s.was_made) ∙ alike.objects b t)

    pub alike_shown : Shows m w
    alike_shown = record {
      threads = shown.threads ∙ ap (λ (ts : List Thread). Some ts) alike.threads;
      slots = shown.slots ∙ ap (λ (fs : List FieldValue). Some fs) alike.slots;
      states = shown.states ∙ alike.states;
      output = shown.output ∙ alike.output;
      fault = shown.fault ∙ alike.fault;
      rows = shown.rows ∙ alike.rows;
      births = shown.births ∙ alike.births;
      objects = has_cell;
      one = shown.one;
    }

  -- ---- and back

  module _ (also : Shows m w) where
    threads_same : v.threads ≡ w.threads
    threads_same = some_same v.threads w.threads (sym shown.threads ∙ also.threads)

    slots_same : v.statics.fields ≡ w.statics.fields
    slots_same = some_same v.statics.fields w.statics.fields (sym shown.slots ∙ also.slots)

    -- two objects in one cell
    held_same : (b : ℕ) (p q : Held) (x y : Object) → p ≡ q → ShowsObject m.cells p b x → ShowsObject m.cells q b y
        → held_of b x ≡ held_of b y
    held_same b p q x y same s t =
        let kind : kind_of_contents x.contents ≡ kind_of_contents y.contents = sym s.kind
        ∙ ap (λ (h : Held). h.kind) same ∙ t.kind in
        let words : values_in x.contents ≡ values_in y.contents =
        some_same (values_in x.contents) (values_in y.contents) (sym s.words
        ∙ ap (λ (h : Held). all_read (value_read m.cells) h.words) same ∙ t.words) in
        let monitor : x.monitor ≡ y.monitor = sym s.monitor ∙ ap (λ (h : Held). h.monitor) same ∙ t.monitor in
        let thread : x.thread ≡ y.thread = sym s.thread ∙ ap (λ (h : Held). h.thread) same ∙ t.thread in
        rw (kind, words, monitor, thread) refl

    birth_there : (b : ℕ) (u : World) (s : HasCell m.cells u b) → birth_in m.cells s.cell ≡ Some b
    birth_there b u s = ap (option_map (λ (h : Held). h.birth)) s.is_there ∙ ap (λ (n : ℕ). Some n) s.shown.birth

    object_same : (b : ℕ) → HasCell m.cells v b → HasCell m.cells w b → held_at v b ≡ held_at w b
    object_same b s t =
        let cell : s.cell ≡ t.cell = also.one s.cell t.cell b (birth_there b v s) (birth_there b w t) in
        let held : s.held ≡ t.held = some_same s.held t.held (sym s.is_there ∙ ap (held_in m.cells) cell ∙ t.is_there)
        in
        ap (option_map (held_of b)) s.was_made
        ∙ ap (λ (h : Held). Some h) (held_same b s.held t.held s.object t.object held s.shown t.shown)
        ∙ sym (ap (option_map (held_of b)) t.was_made)

    there : (b : ℕ) → Reach v b → Reach w b
    there b (at_root p e) = at_root p (sym (root_same v w threads_same slots_same p) ∙ e)
    there b (by_word a k r e) =
        let s = there a r in
        by_word a k s (sym (word_held v w a k (object_same a (shown.objects a r) (also.objects a s))) ∙ e)

    pub shown_alike : Alike v w
    shown_alike = record {
      threads = threads_same;
      slots = slots_same;
      states = sym shown.states ∙ also.states;
      output = sym shown.output ∙ also.output;
      fault = sym shown.fault ∙ also.fault;
      rows = sym shown.rows ∙ also.rows;
      births = sym shown.births ∙ also.births;
      objects = λ b r. object_same b (shown.objects b r) (also.objects b (there b r));
    }

-- cells that show one world show exactly those that are alike to it
pub shows_alike : (m : HeapWorld) (v w : World) → Shows m v → Alike v w ↔ Shows m w
shows_alike m v w shown = (alike_shown m v w shown, shown_alike m v w shown)
