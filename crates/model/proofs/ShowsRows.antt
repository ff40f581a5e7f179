-- Worked rows of what a heap shows: one that shows a world, and reasons why others don't.
use Rattle.std.proofs.Common.{◌≡◌, ◌⊎◌, inl, inr, ℕ, zero, suc, pos, List, [], ◌∷◌, Option, Some, None, codes, refl}
use Rattle.std.proofs.Common.{sym, ◌∙◌}
use Rattle.model.specs.declared.values.Value.TheVariants.{Int, Ref}
use Rattle.model.specs.declared.values.Entry.TheVariants.{Unset, Holds}
use Rattle.model.specs.declared.turns.Mark.TheVariants.{Unmarked}
use Rattle.model.specs.Frames.{Frame}
use Rattle.model.specs.Worlds.{World, FieldValue, Statics, Contents, Monitor, Object, free_monitor, plain_object}
use Rattle.model.specs.Worlds.Thread.{Live, Ended}
use Rattle.model.specs.Worlds.Contents.{Instance, Array}
use Rattle.model.specs.Collector.Places.{root_at, word_at, Reach}
use Rattle.model.specs.Collector.Places.Place.{MemoryError, StackError, Slot, FrameEntry, MethodMonitor}
use Rattle.model.specs.Collector.Places.Reach.{at_root, by_word}
use Rattle.model.specs.Shows.{Held, HeapCell, HeapWorld, birth_in, value_read, thread_read, HasCell, Shows}
use Rattle.model.specs.Shows.ObjectKind.{OfClass, OfElements}

-- ---- the ideal world: birth 4 has a field that leads to the array 5, and 3 is no longer reached

abbrev field : Option ℕ → FieldValue
field r = record { class = codes "A"; name = codes "x"; descriptor = codes "[I"; value = Ref r }

abbrev entered : Monitor
entered = record { owner = Some 0; count = 1 }

abbrev frame : Option ℕ → Frame
frame r = record {
  method = record { class = 0; method = 1 };
  pc = 2;
  locals = Holds (Ref r) ∷ Unset ∷ [];
  stack = Int (pos 6) ∷ Ref None ∷ [];
  room = 2;
  monitor = r;
  mark = Unmarked;
}

abbrev statics : Statics
statics = record { fields = field None ∷ []; states = [] }

abbrev sevens : Contents
sevens = Array (codes "I") (Int (pos 7) ∷ Int (pos 7) ∷ [])

abbrev objects : List Object
objects =
    plain_object [] ∷ plain_object (codes "java/lang/OutOfMemoryError")
    ∷ plain_object (codes "java/lang/StackOverflowError") ∷
    plain_object (codes "A") ∷
    record { contents = Instance (codes "A") (field (Some 5) ∷ []); monitor = entered; thread = Some 1 } ∷
    record { contents = sevens; monitor = free_monitor; thread = None } ∷ []

abbrev world : World
world = record {
  threads = Live (frame (Some 4) ∷ []) ∷ Ended None ∷ [];
  statics = statics;
  output = 65 ∷ [];
  objects = objects;
  fault = None;
  rows = 9;
}

-- ---- the heap: birth 4 in cell 1, the array in cell 3, and cell 2 is free

abbrev plain : ℕ → List ℕ → HeapCell
plain birth class = Some (record {
  birth = birth;
  kind = OfClass class;
  words = [];
  monitor = free_monitor;
  thread = None;
})

abbrev instance : Held
instance = record {
  birth = 4;
  kind = OfClass (codes "A");
  words = Ref (Some 3) ∷ [];
  monitor = entered;
  thread = Some 1;
}

abbrev array : Held
array = record {
  birth = 5;
  kind = OfElements (codes "I");
  words = Int (pos 7) ∷ Int (pos 7) ∷ [];
  monitor = free_monitor;
  thread = None;
}

abbrev cells : List HeapCell
cells = plain 1 (codes "java/lang/OutOfMemoryError") ∷ Some instance ∷ None ∷ Some array
    ∷ plain 2 (codes "java/lang/StackOverflowError") ∷ []

abbrev heap : HeapWorld
heap = record {
  cells = cells;
  threads = Live (frame (Some 1) ∷ []) ∷ Ended None ∷ [];
  statics = statics;
  output = 65 ∷ [];
  fault = None;
  rows = 9;
  next_birth = 6;
}

-- ---- which births are reached

abbrev Reached : ℕ → Type 0
Reached b = (b ≡ 1) ⊎ (b ≡ 2) ⊎ (b ≡ 4) ⊎ (b ≡ 5)

by_a_word : (a k b : ℕ) → word_at world a k ≡ Some b → b ≡ 5
unfolding word_at
by_a_word zero k b e = cc
by_a_word (suc zero) k b e = cc
by_a_word (suc (suc zero)) k b e = cc
by_a_word (suc (suc (suc zero))) k b e = cc
by_a_word (suc (suc (suc (suc zero)))) zero b e = cc
by_a_word (suc (suc (suc (suc zero)))) (suc k) b e = cc
by_a_word (suc (suc (suc (suc (suc zero))))) zero b e = cc
by_a_word (suc (suc (suc (suc (suc zero))))) (suc zero) b e = cc
by_a_word (suc (suc (suc (suc (suc zero))))) (suc (suc k)) b e = cc
by_a_word (suc (suc (suc (suc (suc (suc a)))))) k b e = cc

by_an_entry : (t d j b : ℕ) → root_at world (FrameEntry t d j) ≡ Some b → b ≡ 4
unfolding root_at
by_an_entry zero zero zero b e = cc
by_an_entry zero zero (suc zero) b e = cc
by_an_entry zero zero (suc (suc zero)) b e = cc
by_an_entry zero zero (suc (suc (suc zero))) b e = cc
by_an_entry zero zero (suc (suc (suc (suc j)))) b e = cc
by_an_entry zero (suc d) j b e = cc
by_an_entry (suc zero) d j b e = cc
by_an_entry (suc (suc t)) d j b e = cc

by_a_monitor : (t d b : ℕ) → root_at world (MethodMonitor t d) ≡ Some b → b ≡ 4
unfolding root_at
by_a_monitor zero zero b e = cc
by_a_monitor zero (suc d) b e = cc
by_a_monitor (suc zero) d b e = cc
by_a_monitor (suc (suc t)) d b e = cc

by_a_slot : (s b : ℕ) → root_at world (Slot s) ≡ Some b → b ≡ 4
unfolding root_at
by_a_slot zero b e = cc
by_a_slot (suc s) b e = cc

reached : (b : ℕ) → Reach world b → Reached b
unfolding root_at
reached b (at_root MemoryError e) = inl cc
reached b (at_root StackError e) = inr (inl cc)
reached b (at_root (Slot s) e) = inr (inr (inl (by_a_slot s b e)))
reached b (at_root (FrameEntry t d j) e) = inr (inr (inl (by_an_entry t d j b e)))
reached b (at_root (MethodMonitor t d) e) = inr (inr (inl (by_a_monitor t d b e)))
reached b (by_word a k r e) = inr (inr (inr (by_a_word a k b e)))

-- ---- each has a cell

memory_error : HasCell cells world 1
memory_error = record {
  cell = 0;
  held = _;
  object = _;
  is_there = refl;
  was_made = refl;
  shown = record { birth = refl; kind = refl; words = refl; monitor = refl; thread = refl };
}

stack_error : HasCell cells world 2
stack_error = record {
  cell = 4;
  held = _;
  object = _;
  is_there = refl;
  was_made = refl;
  shown = record { birth = refl; kind = refl; words = refl; monitor = refl; thread = refl };
}

fourth : HasCell cells world 4
fourth = record {
  cell = 1;
  held = instance;
  object = _;
  is_there = refl;
  was_made = refl;
  shown = record { birth = refl; kind = refl; words = refl; monitor = refl; thread = refl };
}

fifth : HasCell cells world 5
fifth = record {
  cell = 3;
  held = array;
  object = _;
  is_there = refl;
  was_made = refl;
  shown = record { birth = refl; kind = refl; words = refl; monitor = refl; thread = refl };
}

has_cell : (b : ℕ) → Reached b → HasCell cells world b
has_cell b (inl e) = rw e memory_error
has_cell b (inr (inl e)) = rw e stack_error
has_cell b (inr (inr (inl e))) = rw e fourth
has_cell b (inr (inr (inr e))) = rw e fifth

-- ---- and no two cells hold one

abbrev home : ℕ → ℕ
home zero = 9
home (suc zero) = 0
home (suc (suc zero)) = 4
home (suc (suc (suc zero))) = 9
home (suc (suc (suc (suc zero)))) = 1
home (suc (suc (suc (suc (suc b))))) = 3

at_home : (c b : ℕ) → birth_in cells c ≡ Some b → c ≡ home b
at_home zero b e = let s : b ≡ 1 = cc in rw s refl
at_home (suc zero) b e = let s : b ≡ 4 = cc in rw s refl
at_home (suc (suc zero)) b e = absurd (cc)
at_home (suc (suc (suc zero))) b e = let s : b ≡ 5 = cc in rw s refl
at_home (suc (suc (suc (suc zero)))) b e = let s : b ≡ 2 = cc in rw s refl
at_home (suc (suc (suc (suc (suc c))))) b e = absurd (cc)

pub heap_shows : Shows heap world
heap_shows = record {
  threads = refl;
  slots = refl;
  states = refl;
  output = refl;
  fault = refl;
  rows = refl;
  births = refl;
  objects = λ b r. has_cell b (reached b r);
  one = λ c d b e f. at_home c b e ∙ sym (at_home d b f);
}

-- ---- what shows nothing

-- a number of a free cell, and of none
pub free_cell : value_read cells (Ref (Some 2)) ≡ None
free_cell = refl

pub past_the_last : value_read cells (Ref (Some 5)) ≡ None
past_the_last = refl

pub null_read : value_read cells (Ref None) ≡ Some (Ref None)
null_read = refl

-- a thread whose frame names a free cell shows no thread
pub thread_unread : thread_read cells (Live (frame (Some 2) ∷ [])) ≡ None
thread_unread = refl

-- and where it names another object, it is another thread that it shows
pub other_object : thread_read cells (Live (frame (Some 3) ∷ [])) ≡ Some (Live (frame (Some 5) ∷ []))
other_object = refl

-- birth 5 in two cells
pub twice : Shows (record heap { cells = Some array ∷ cells }) world → ⊥
twice s = let e = s.one 0 4 5 refl refl in cc
