use Rattle.std.specs.Prelude.{ℕ, ◌+◌, Bool, true, false, if◌then◌else◌, List, [], ◌∷◌, ◌++◌, length, map, slice_set}
use Rattle.std.specs.Prelude.{slice_index_or, Option, Some, None, nat_lt, nat_eq}
use Rattle.model.specs.declared.colours.Colour.TheVariants.{White, Grey, Black}
use Rattle.model.specs.declared.colours.Phase.{Phase}
use Rattle.model.specs.declared.colours.Phase.TheVariants.{Idle, Statics, Frames, Mark, Append}
use Rattle.model.specs.declared.journals.HeapShape.{HeapShape}
use Rattle.model.specs.Accounts.{Account, shade}
use Rattle.model.specs.declared.colours.Cell.{Cell}
use Rattle.model.specs.declared.colours.Cell.TheVariants.{Free, Taken}
use Rattle.model.specs.Worlds.{World, frames_at}
use Rattle.model.specs.Collector.Places.{root_at, word_at, words_of, slots_of, entries_at}
use Rattle.model.specs.Collector.Places.Place.{Slot, FrameEntry, MethodMonitor}

-- What one step of the collector does to the account (CACM 21(11), 1978; the phases are this project's profile): a step
-- for each root, then one for each word of the front grey birth, then one for each cell. Roots and words are those of
-- the ideal world.

-- what a cell holds, nothing past the last cell
abbrev pub cell_at : List Cell → ℕ → Cell
cell_at cells c = slice_index_or cells c Free

abbrev pub at_phase : Account → Phase → Account
at_phase a phase = record a { phase = phase }

abbrev pub shade_ref : Account → Option ℕ → Account
shade_ref a None = a
shade_ref a (Some b) = shade a b

-- ---- the roots: births 1 and 2, the static slots, and of each frame the entries and then the method monitor

abbrev pub statics_step : World → Account → ℕ → Bool → Account
statics_step w a s true = at_phase (shade_ref a (root_at w (Slot s))) (Statics (s + 1))
statics_step w a s false = at_phase a (Frames 0 0 0)

-- whether there is such a thread, such a frame and such an entry
abbrev pub frames_step : World → Account → ℕ → ℕ → ℕ → Bool → Bool → Bool → Account
frames_step w a t d j true true true = at_phase (shade_ref a (root_at w (FrameEntry t d j))) (Frames t d (j + 1))
frames_step w a t d j true true false = at_phase (shade_ref a (root_at w (MethodMonitor t d))) (Frames t (d + 1) 0)
frames_step w a t d j true false entry = at_phase a (Frames (t + 1) 0 0)
frames_step w a t d j false frame entry = at_phase a (Mark 0)

-- ---- marking: the words of the front grey birth, which then turns black and leaves the list

abbrev pub blackened : ℕ → Cell → Cell
blackened b Free = Free
blackened b (Taken a colour) = if nat_eq a b then Taken a Black else Taken a colour

abbrev pub word_step : World → Account → ℕ → ℕ → List ℕ → Bool → Account
word_step w a q b rest true = at_phase (shade_ref a (word_at w b q)) (Mark (q + 1))
word_step w a q b rest false = record a { cells = map (blackened b) a.cells; grey = rest; phase = Mark 0 }

-- with no grey birth left, marking has ended
abbrev pub mark_step : World → Account → ℕ → List ℕ → Account
mark_step w a q [] = at_phase a (Append 0)
mark_step w a q (b ∷ rest) = word_step w a q b rest (nat_lt q (length (words_of w.objects b)))

-- ---- appending: a white cell is given back, a black one turns white

abbrev pub listed_in : Account → ℕ → Bool → Bool → Account
listed_in a c true medium = record a { small = a.small ++ c ∷ [] }
listed_in a c false true = record a { medium = a.medium ++ c ∷ [] }
listed_in a c false false = record a { large = a.large ++ c ∷ [] }

-- at the end of the free list of its size
abbrev pub with_free : HeapShape → Account → ℕ → Account
with_free shape a c = listed_in a c (nat_lt c shape.small) (nat_lt c (shape.small + shape.medium))

abbrev pub with_cell : Account → ℕ → Cell → Account
with_cell a c cell = record a { cells = slice_set a.cells c cell }

abbrev pub swept : HeapShape → Account → ℕ → Cell → Account
swept shape a p Free = a
swept shape a p (Taken b White) = with_free shape (with_cell a p Free) p
swept shape a p (Taken b Grey) = a
swept shape a p (Taken b Black) = with_cell a p (Taken b White)

abbrev pub append_step : HeapShape → Account → ℕ → Bool → Account
append_step shape a p true = at_phase (swept shape a p (cell_at a.cells p)) (Append (p + 1))
append_step shape a p false = at_phase a Idle

-- ---- the table

abbrev pub step_in : HeapShape → World → Account → Phase → Account
step_in shape w a Idle = at_phase (shade (shade a 1) 2) (Statics 0)
step_in shape w a (Statics s) = statics_step w a s (nat_lt s (length (slots_of w)))
step_in shape w a (Frames t d j) = frames_step w a t d j (nat_lt t (length w.threads))
    (nat_lt d (length (frames_at w t))) (nat_lt j (length (entries_at (frames_at w t) d)))
step_in shape w a (Mark q) = mark_step w a q a.grey
step_in shape w a (Append p) = append_step shape a p (nat_lt p (length a.cells))

-- a collector's step in a world
unfoldable pub collected : HeapShape → World → Account → Account
collected shape w a = step_in shape w a a.phase
