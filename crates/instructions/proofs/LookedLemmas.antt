use Rattle.std.proofs.Common.{◌≡◌, false, ℕ, zero, suc, List, [], ◌∷◌, length, map, slice_get, Option, Some, None, refl}
use Rattle.std.proofs.Common.{sym, ◌∙◌, ap}
use Rattle.std.proofs.lemmas.List.{length-map}
use Rattle.model.specs.declared.values.Value.{Value}
use Rattle.model.specs.ClassListings.{ClassListing}
use Rattle.model.specs.Frames.{Frame}
use Rattle.model.specs.Worlds.{Thread, World, frames_at, frames_of, opening_slots}
use Rattle.model.specs.Collector.Places.{entries_at, field_ref, monitor_at, object_refs, ref_at, ref_of, root_at}
use Rattle.model.specs.Collector.Places.{word_at, words_of}
use Rattle.model.specs.Collector.Places.Place.{FrameEntry, MethodMonitor, Slot}
use Rattle.cells.specs.Objects.{StoredObject, object_if, words_if}
use Rattle.instructions.specs.declared.kinds.Kind.{Kind}
use Rattle.instructions.specs.declared.kinds.Kind.TheVariants.{Instance, Array}
use Rattle.instructions.specs.Heaps.{ref_if, world_looked_at}
use Rattle.instructions.specs.Shown.{field_keys, keyed, object_shown, objects_shown}
use Rattle.instructions.specs.declared.kinds.Course.TheVariants.{Live}
use Rattle.instructions.specs.Threads.{LivesWith, ThreadsValue, all_frames, all_shown, lives_in}
use Rattle.instructions.proofs.ThreadLemmas.{dead_frames, thread_got}
use Rattle.instructions.proofs.KeyedLemmas.{length-keyed, refs-keyed}

-- What the collector finds in static fields and in words of objects is where their values lead.

at_place : (vs : List Value) (n : ℕ) → ref_if (slice_get vs n) ≡ ref_at (map ref_of vs) n
at_place [] n = refl
at_place (v ∷ vs) zero = refl
at_place (v ∷ vs) (suc n) = at_place vs n

-- ---- static fields

pub slots_number : (program : List ClassListing) (slots : List Value)
    → length slots ≡ length (map field_ref (keyed (opening_slots program) slots))
slots_number program slots =
    sym (length-map (keyed (opening_slots program) slots) field_ref ∙ length-keyed (opening_slots program) slots)

pub slot_is : (program : List ClassListing) (threads : List Thread) (slots : List Value) (objects : List
    (Option (StoredObject Kind))) (n : ℕ)
    → ref_if (slice_get slots n) ≡ root_at (world_looked_at program threads slots objects) (Slot n)
unfolding root_at
slot_is program threads slots objects n =
    at_place slots n ∙ ap (λ rs. ref_at rs n) (sym (refs-keyed (opening_slots program) slots))

-- ---- threads

module _ (program : List ClassListing) (threads : ThreadsValue) (running : ℕ) (frames : List Frame) (slots : List Value)
    (objects : List (Option (StoredObject Kind))) (t : ℕ) where
  -- what is looked at
  abbrev looked : World
  looked = world_looked_at program (all_shown program threads running frames) slots objects

  module _ (own : List Frame) (lives : LivesWith threads running frames t own) where
    frames-lent : frames_at looked t ≡ own
    frames-lent = ap frames_of (thread_got program threads.courses (all_frames threads running frames) t Live own
        lives.live lives.own)

    pub depth-lent : (n : ℕ) → n ≡ length own → n ≡ length (frames_at looked t)
    depth-lent n is = is ∙ ap length (sym frames-lent)

    pub entries-lent : (frame n : ℕ) → n ≡ length (entries_at own frame)
        → n ≡ length (entries_at (frames_at looked t) frame)
    entries-lent frame n is = is ∙ ap (λ fs. length (entries_at fs frame)) (sym frames-lent)

    pub entry-lent : (frame entry : ℕ) (r : Option ℕ) → r ≡ ref_at (entries_at own frame) entry
        → r ≡ root_at looked (FrameEntry t frame entry)
    unfolding root_at
    entry-lent frame entry r is = is ∙ ap (λ fs. ref_at (entries_at fs frame) entry) (sym frames-lent)

    pub monitor-lent : (frame : ℕ) (r : Option ℕ) → r ≡ monitor_at own frame
        → r ≡ root_at looked (MethodMonitor t frame)
    unfolding root_at
    monitor-lent frame r is = is ∙ ap (λ fs. monitor_at fs frame) (sym frames-lent)

  module _ (dead : lives_in threads.courses t ≡ false) where
    none-lent : frames_at looked t ≡ []
    none-lent = dead_frames program threads.courses (all_frames threads running frames) t dead

    pub no-depth : 0 ≡ length (frames_at looked t)
    no-depth = ap length (sym none-lent)

    pub no-entries : (frame : ℕ) → 0 ≡ length (entries_at (frames_at looked t) frame)
    no-entries frame = ap (λ fs. length (entries_at fs frame)) (sym none-lent)

    pub no-entry : (frame entry : ℕ) → None ≡ root_at looked (FrameEntry t frame entry)
    unfolding root_at
    no-entry frame entry = ap (λ fs. ref_at (entries_at fs frame) entry) (sym none-lent)

    pub no-monitor : (frame : ℕ) → None ≡ root_at looked (MethodMonitor t frame)
    unfolding root_at
    no-monitor frame = ap (λ fs. monitor_at fs frame) (sym none-lent)

-- ---- words

shown_refs : (program : List ClassListing) (o : Option (StoredObject Kind))
    → object_refs (Some (object_shown program o)) ≡ map ref_of (words_if o)
shown_refs program None = refl
shown_refs program (Some o) = go o.kind
  where
    go : (kind : Kind)
        → object_refs (Some (object_shown program (Some (record o { kind = kind })))) ≡ map ref_of o.words
    go (Instance class) = refs-keyed (field_keys program class) o.words
    go (Array type) = refl

pub words_are : (program : List ClassListing) (objects : List (Option (StoredObject Kind))) (c : ℕ)
    → words_of (objects_shown program objects) (suc c) ≡ map ref_of (words_if (object_if (slice_get objects c)))
words_are program [] c = refl
words_are program (o ∷ objects) zero = shown_refs program o
words_are program (o ∷ objects) (suc c) = words_are program objects c

pub words_number : (program : List ClassListing) (objects : List (Option (StoredObject Kind))) (c : ℕ)
    → length (words_if (object_if (slice_get objects c))) ≡ length (words_of (objects_shown program objects) (suc c))
words_number program objects c =
    sym (ap length (words_are program objects c) ∙ length-map (words_if (object_if (slice_get objects c))) ref_of)

pub word_is : (program : List ClassListing) (threads : List Thread) (slots : List Value) (objects : List
    (Option (StoredObject Kind))) (c n : ℕ)
    → ref_if (slice_get (words_if (object_if (slice_get objects c))) n)
    ≡ word_at (world_looked_at program threads slots objects) (suc c) n
unfolding word_at
word_is program threads slots objects c n =
    at_place (words_if (object_if (slice_get objects c))) n ∙ ap (λ rs. ref_at rs n) (sym (words_are program objects c))

pub no_word : (program : List ClassListing) (threads : List Thread) (slots : List Value) (objects : List
    (Option (StoredObject Kind))) (n : ℕ) → None ≡ word_at (world_looked_at program threads slots objects) 0 n
unfolding word_at
no_word program threads slots objects n = refl

pub ruleset looked_word = (word_is, no_word)
