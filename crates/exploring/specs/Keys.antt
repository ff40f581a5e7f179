use Rattle.std.specs.Prelude.{◌≡◌, ℕ, ◌+◌, ◌/◌, ◌%◌, ℤ, pos, negsuc, List, [], ◌∷◌, ◌++◌, length, map, nat_lt, Option, Some, None}
use Rattle.std.specs.Prelude.{if◌then◌else◌}
use Rattle.std.specs.List.{flat_map, position}
use Rattle.std.specs.Str.{bytes_eq}
use Rattle.model.specs.declared.turns.ClassState.{ClassState}
use Rattle.model.specs.declared.turns.ClassState.TheVariants.{Unused, Running, Done, Failed}
use Rattle.model.specs.declared.turns.Fault.{Fault}
use Rattle.model.specs.declared.turns.Mark.{Mark}
use Rattle.model.specs.declared.turns.Mark.TheVariants.{Unmarked, Waiting, Failing}
use Rattle.model.specs.declared.values.Entry.{Entry}
use Rattle.model.specs.declared.values.Entry.TheVariants.{Unset, Holds, UpperHalf}
use Rattle.model.specs.declared.values.Value.{Value}
use Rattle.model.specs.declared.values.Value.TheVariants.{Int, Long, Ref}
use Rattle.model.specs.declared.turns.Status.{Status}
use Rattle.model.specs.declared.turns.Status.TheVariants.{Running as RunningStatus, Finished, Stuck, Faulted}
use Rattle.model.specs.Faults.{fault_number}
use Rattle.model.specs.Frames.{Frame}
use Rattle.model.specs.Worlds.{World, Thread, FieldValue, Contents, Object}
use Rattle.model.specs.Worlds.Thread.{Live, Ended}
use Rattle.model.specs.Worlds.Contents.{Instance, Array}
use Rattle.exploration.specs.declared.ends.End.{End}
use Rattle.exploration.specs.declared.ends.End.TheVariants.{Lives, Ended as HasEnded}
use Rattle.exploration.specs.Observations.{Observed}

-- What a state is made of, as rows of bytes from which the whole world can be read back. So states are alike where their
-- pieces are.

-- ---- numbers: one byte for most, three, five or nine for others

abbrev pub two : ℕ → List ℕ
two n = n % 256 ∷ n / 256 ∷ []

abbrev pub four : ℕ → List ℕ
four n = two (n % 65536) ++ two (n / 65536)

abbrev pub eight : ℕ → List ℕ
eight n = four (n % 4294967296) ++ four (n / 4294967296)

abbrev pub large_number : ℕ → List ℕ
large_number n = if nat_lt n 4294967296 then 254 ∷ four n else 255 ∷ eight n

abbrev pub wide_number : ℕ → List ℕ
wide_number n = if nat_lt n 65536 then 253 ∷ two n else large_number n

unfoldable pub number : ℕ → List ℕ
number n = if nat_lt n 253 then n ∷ [] else wide_number n

-- ints and longs as numbers: 0, -1, 1, -2, 2 ..
abbrev pub folded : ℤ → ℕ
folded (pos n) = n + n
folded (negsuc n) = n + n + 1

abbrev pub integer : ℤ → List ℕ
integer z = number (folded z)

abbrev pub perhaps : Option ℕ → List ℕ
perhaps None = 0 ∷ []
perhaps (Some n) = 1 ∷ number n

-- how many there are, and each
abbrev pub each : {A : Type 0} → (A → List ℕ) → List A → List ℕ
each part xs = number (length xs) ++ flat_map part xs

abbrev pub bytes : List ℕ → List ℕ
bytes xs = number (length xs) ++ xs

-- ---- names: by their places in a table, the few that it hasn't byte by byte

abbrev pub name_at : List ℕ → Option ℕ → List ℕ
name_at name None = 0 ∷ bytes name
name_at name (Some place) = 1 ∷ number place

-- ---- values, frames and threads

abbrev pub value : Value → List ℕ
value (Int z) = 0 ∷ integer z
value (Long z) = 1 ∷ integer z
value (Ref None) = 2 ∷ []
value (Ref (Some birth)) = 3 ∷ number birth

abbrev pub entry : Entry → List ℕ
entry Unset = 4 ∷ []
entry (Holds v) = value v
entry UpperHalf = 5 ∷ []

abbrev pub mark : Mark → List ℕ
mark Unmarked = 0 ∷ []
mark Waiting = 1 ∷ []
mark Failing = 2 ∷ []

abbrev pub frame : Frame → List ℕ
frame f = number f.method.class ++ number f.method.method ++ number f.pc ++ each entry f.locals ++ each value f.stack
    ++ number f.room ++ perhaps f.monitor ++ mark f.mark

abbrev pub state : ClassState → List ℕ
state Unused = 0 ∷ []
state (Running t) = 1 ∷ number t
state Done = 2 ∷ []
state Failed = 3 ∷ []

abbrev pub fault : Option (Fault × ℕ) → List ℕ
fault None = 0 ∷ []
fault (Some f) = fault_number f.0 ∷ number f.1

-- ---- what has names

module _ (table : List (List ℕ)) where
  abbrev pub place_of : List ℕ → Option ℕ
  place_of n = position (bytes_eq n) table

  abbrev pub name : List ℕ → List ℕ
  name n = name_at n (place_of n)

  abbrev pub field : FieldValue → List ℕ
  field f = name f.class ++ name f.name ++ name f.descriptor ++ value f.value

  abbrev pub contents : Contents → List ℕ
  contents (Instance class fields) = 0 ∷ name class ++ each field fields
  contents (Array element values) = 1 ∷ name element ++ each value values

  abbrev pub object : Object → List ℕ
  object o = contents o.contents ++ perhaps o.monitor.owner ++ number o.monitor.count ++ perhaps o.thread

  abbrev pub thread : Thread → List ℕ
  thread (Live frames) = 0 ∷ each frame frames
  thread (Ended None) = 1 ∷ []
  thread (Ended (Some class)) = 2 ∷ name class

  -- the pieces after the first: those that change least come first
  abbrev pub rest : World → List (List ℕ)
  rest w = map field w.statics.fields ++ map object w.objects ++ map thread w.threads

-- ---- the pieces of a state

-- the first piece: how many fields and objects there are, and all that isn't one of them, or a thread
abbrev pub head : World → List ℕ
head w = number (length w.statics.fields) ++ number (length w.objects) ++ each state w.statics.states ++ bytes w.output
    ++ fault w.fault ++ number w.rows

abbrev pub pieces : List (List ℕ) → World → List (List ℕ)
pieces table w = head w ∷ rest table w

-- ---- outcomes, which have few names

abbrev pub end : End → List ℕ
end Lives = 0 ∷ []
end (HasEnded None) = 1 ∷ []
end (HasEnded (Some class)) = 2 ∷ bytes class

abbrev pub status : Status → List ℕ
status RunningStatus = 0 ∷ []
status Finished = 1 ∷ []
status Stuck = 2 ∷ []
status Faulted = 3 ∷ []

abbrev pub outcome : Observed → List ℕ
outcome o = bytes o.output ++ fault o.fault ++ each end o.ends ++ status o.status

-- ---- what such rows of bytes are good for

-- what a part begins with tells the part
abbrev pub IsReadBack : {A : Type 0} → (A → List ℕ) → Type 0
IsReadBack {A} part = (x y : A) (s t : List ℕ) → part x ++ s ≡ part y ++ t → (x ≡ y) × (s ≡ t)

-- so worlds whose pieces are equal are equal
abbrev pub PiecesTell : Type 0
PiecesTell = (table : List (List ℕ)) (v w : World) → pieces table v ≡ pieces table w → v ≡ w

-- and outcomes whose keys are
abbrev pub OutcomeKeysTell : Type 0
OutcomeKeysTell = (o p : Observed) → outcome o ≡ outcome p → o ≡ p
