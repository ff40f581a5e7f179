use Rattle.std.specs.Prelude.{◌≡◌, ◌⊎◌, ℕ, ◌+◌, List, [], Option, Some, None, IsTrue}
use Rattle.model.specs.declared.journals.Outcome.{Outcome}
use Rattle.model.specs.declared.journals.Outcome.TheVariants.{Done as WasDone, Object as GotObject}
use Rattle.model.specs.declared.journals.Outcome.TheVariants.{NoRoom as FoundNoRoom, Fault as WasFault}
use Rattle.model.specs.Accounts.{Account, has_room, new_object, shade_all}
use Rattle.model.specs.Worlds.{World, next_birth}
use Rattle.model.specs.Collector.Places.{Place, root_at, word_at, Reach}
use Rattle.model.specs.Collector.Invariant.{In}

-- A thread's turn as the collector sees it, and the condition under which it keeps the invariant.

-- the world after a turn, how many words the new object has if there is one, and the births that were written
pub record Change : Type 0 where
  pub after : World
  pub object : Option ℕ
  pub writes : List ℕ

-- b is the birth of the new object, n having been the next birth
abbrev pub IsNew : Option ℕ → ℕ → ℕ → Type 0
IsNew (Some words) n b = b ≡ n
IsNew None n b = ⊥

abbrev pub births_after : Option ℕ → ℕ → ℕ
births_after (Some words) n = n + 1
births_after None n = n

-- the births to which a root or a word may lead where it didn't before
abbrev pub Fresh : World → Change → ℕ → Type 0
Fresh w c b = IsNew c.object (next_birth w) b ⊎ In b c.writes

-- what every turn of a thread has: at each place stands what stood there before, or nothing, or the new birth, or one
-- that was written; and what was written was reachable before, or is the new birth
pub record Allowed (w : World) (c : Change) : Type 0 where
  pub counted : next_birth c.after ≡ births_after c.object (next_birth w)
  pub roots : (p : Place) (b : ℕ) → root_at c.after p ≡ Some b → (root_at w p ≡ Some b) ⊎ Fresh w c b
  pub words : (a k b : ℕ) → word_at c.after a k ≡ Some b → (word_at w a k ≡ Some b) ⊎ Fresh w c b
  pub writes : (b : ℕ) → In b c.writes → IsNew c.object (next_birth w) b ⊎ Reach w b

-- a free cell has room for the new object
abbrev pub RoomFor : Option ℕ → Account → Type 0
RoomFor (Some words) a = IsTrue (has_room a words)
RoomFor None a = Unit {0}

-- the account after a change
unfoldable pub changed : World → Account → Change → Account
changed w a c = shade_all (new_object a (next_birth w) c.object) c.writes

-- ---- a thread's turn by its outcome

abbrev pub taken_by : Outcome → Option ℕ → Option ℕ
taken_by WasDone words = None
taken_by GotObject words = words
taken_by FoundNoRoom words = None
taken_by WasFault words = None

abbrev pub written_by : Outcome → List ℕ → List ℕ
written_by WasDone writes = writes
written_by GotObject writes = writes
written_by FoundNoRoom writes = writes
written_by WasFault writes = []
