use Rattle.std.specs.Prelude.{◌≡◌, ◌⊎◌, ℕ, List, [], ◌∷◌, Option, Some, None, Result, Ok, Err}
use Rattle.model.specs.declared.turns.Fault.{Fault}
use Rattle.model.specs.declared.turns.Abrupt.{Abrupt}
use Rattle.model.specs.Frames.{Frame, Moved}
use Rattle.model.specs.Results.{Effect, faulted}
use Rattle.model.specs.Effects.{Choice}
use Rattle.model.specs.Effects.Choice.{NewObject, NoRoom}
use Rattle.model.specs.Worlds.{World, Thread, Object, frames_of, next_birth}
use Rattle.model.specs.Completions.{Completion}
use Rattle.model.specs.Completions.Completion.{Goes, Prints, Creates, Throws, Raises, Denies, Faults, Waits}
use Rattle.model.specs.Collector.Places.{frame_refs, contents_refs, slots_of, Reach}
use Rattle.model.specs.Collector.Invariant.{In}
use Rattle.model.specs.Collector.Changes.{Change, IsNew, births_after, Fresh}

-- How a turn may change a world, by recursion on its lists: what each instruction of the table is shown to do. P holds
-- of the births to which a place may lead where it didn't before.

abbrev pub RefMoves : (ℕ → Type 0) → Option ℕ → Option ℕ → Type 0
RefMoves P r s = (b : ℕ) → s ≡ Some b → (r ≡ Some b) ⊎ P b

abbrev pub RefsMove : (ℕ → Type 0) → List (Option ℕ) → List (Option ℕ) → Type 0
RefsMove P rs [] = Unit {0}
RefsMove P [] (s ∷ ss) = RefMoves P None s × RefsMove P [] ss
RefsMove P (r ∷ rs) (s ∷ ss) = RefMoves P r s × RefsMove P rs ss

-- the entries and the method monitor of a frame
abbrev pub FrameMoves : (ℕ → Type 0) → Frame → Frame → Type 0
FrameMoves P f g = RefsMove P (frame_refs f) (frame_refs g) × RefMoves P f.monitor g.monitor

abbrev pub FramesMove : (ℕ → Type 0) → List Frame → List Frame → Type 0
FramesMove P fs [] = Unit {0}
FramesMove P [] (g ∷ gs) = RefsMove P [] (frame_refs g) × RefMoves P None g.monitor × FramesMove P [] gs
FramesMove P (f ∷ fs) (g ∷ gs) = RefsMove P (frame_refs f) (frame_refs g) × RefMoves P f.monitor g.monitor
    × FramesMove P fs gs

abbrev pub ThreadsMove : (ℕ → Type 0) → List Thread → List Thread → Type 0
ThreadsMove P ts [] = Unit {0}
ThreadsMove P [] (u ∷ us) = FramesMove P [] (frames_of (Some u)) × ThreadsMove P [] us
ThreadsMove P (t ∷ ts) (u ∷ us) = FramesMove P (frames_of (Some t)) (frames_of (Some u)) × ThreadsMove P ts us

abbrev pub ObjectsMove : (ℕ → Type 0) → List Object → List Object → Type 0
ObjectsMove P os [] = Unit {0}
ObjectsMove P [] (u ∷ us) = RefsMove P [] (contents_refs u.contents) × ObjectsMove P [] us
ObjectsMove P (o ∷ os) (u ∷ us) = RefsMove P (contents_refs o.contents) (contents_refs u.contents) × ObjectsMove P os us

-- the whole world
pub record Moves (w : World) (c : Change) : Type 0 where
  pub counted : next_birth c.after ≡ births_after c.object (next_birth w)
  pub statics : RefsMove (Fresh w c) (slots_of w) (slots_of c.after)
  pub threads : ThreadsMove (Fresh w c) w.threads c.after.threads
  pub objects : ObjectsMove (Fresh w c) w.objects c.after.objects
  pub writes : (b : ℕ) → In b c.writes → IsNew c.object (next_birth w) b ⊎ Reach w b

-- ---- what each case of the instruction table is shown to be

-- an effect as a change, where the turn takes a cell of so many words or none
abbrev pub change_of : Option ℕ → Effect → Change
change_of object e = record { after = e.after; object = object; writes = e.writes }

-- how many words the new object has, by what was chosen and asked for: there is none where none was asked for, and
-- otherwise unless none had room
abbrev pub object_of : Choice → Option ℕ → Option ℕ
object_of NewObject words = words
object_of NoRoom words = None

-- a fault, which changes nothing but the recorded fault, or a move of the world, which records none; neither counts a
-- row
pub data Lawful (w : World) (object : Option ℕ) (e : Effect) : Type 0 where
  faults : (t : ℕ) (fault : Fault) → e ≡ faulted w t fault → Lawful w object e
  moves : e.after.fault ≡ w.fault → e.after.rows ≡ w.rows → Moves w (change_of object e) → Lawful w object e

-- the same of what an instruction comes to, before it is chosen whether a cell is free: what a family is shown to do

-- a world that an instruction leaves: it records no fault and counts no row
pub record WorldMoves (w after : World) (writes : List ℕ) : Type 0 where
  pub fault : after.fault ≡ w.fault
  pub rows : after.rows ≡ w.rows
  pub moves : Moves w (record { after = after; object = None; writes = writes })

-- places that lead nowhere
abbrev pub LeadNowhere : List (Option ℕ) → Type 0
LeadNowhere [] = Unit {0}
LeadNowhere (None ∷ refs) = LeadNowhere refs
LeadNowhere (Some b ∷ refs) = ⊥

abbrev pub CompletionMoves : World → Completion → Type 0
CompletionMoves w (Goes after writes) = WorldMoves w after writes
CompletionMoves w (Prints after bytes) = WorldMoves w after []
CompletionMoves w (Creates next taken contents) = LeadNowhere (contents_refs contents)
CompletionMoves w (Throws birth) = Reach w birth
CompletionMoves w (Raises exception) = Unit {0}
CompletionMoves w (Denies states) = Unit {0}
CompletionMoves w (Faults fault) = Unit {0}
CompletionMoves w Waits = Unit {0}

-- what an instruction that changes the running frame alone makes of it
abbrev pub ResultMoves : World → Frame → Result Moved Abrupt → Type 0
ResultMoves w f (Ok m) = FrameMoves (λ b. ⊥ ⊎ In b m.writes) f m.frame × ((b : ℕ) → In b m.writes → Reach w b)
ResultMoves w f (Err abrupt) = Unit {0}
