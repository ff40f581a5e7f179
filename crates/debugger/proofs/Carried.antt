-- What comes of a command, from what was written.
use Rattle.std.proofs.Common.{◌≡◌, ℕ, List, true, false, Option, Some, None, Result, Ok, Err, refl}
use Rattle.std.specs.Prelude.{is_some}
use Rattle.debug_texts.specs.Answers.{no_breakpoint}
use Rattle.model.specs.declared.places.CodePlace.{CodePlace}
use Rattle.debugger.specs.declared.errors.DebugError.{DebugError}
use Rattle.debugger.specs.declared.errors.DebugError.TheVariants.{Read, Write, Memory}
use Rattle.debugger.specs.Sessions.{Answers, Carries, Debugged, Deleted, Deletes, Told, Written}

-- a text that is the answer
pub written_carries : {A : Type 0} (P : Debugged → List ℕ → Type 0) (result : Result A DebugError) (s t : Debugged)
    (out now : Option (List ℕ)) (text : List ℕ) → P t text → Written result out now text → Carries P result s t out now
written_carries P (Ok a) s t out now text p h = (text, p, h)
written_carries P (Err Read) s t out now text p h = absurd h
written_carries P (Err Memory) s t out now text p h = absurd h
written_carries P (Err Write) s t out now text p h = (text, p, h)

-- one for which memory may have run out, of a command that changes nothing
pub told_carries : {A : Type 0} (P : Debugged → List ℕ → Type 0) (result : Result A DebugError) (s : Debugged)
    (out now : Option (List ℕ)) (text : List ℕ) → P s text → Told result out now text → Carries P result s s out now
told_carries P (Ok a) s out now text p h = (text, p, h)
told_carries P (Err Read) s out now text p h = absurd h
told_carries P (Err Memory) s out now text p h = (refl, h)
told_carries P (Err Write) s out now text p h = (text, p, h)

-- ---- a breakpoint that goes, or isn't there

pub deletes_some : (s t : Debugged) (number : ℕ) (answer : List ℕ) (place : Option CodePlace) → is_some place ≡ true
    → Deleted s number t answer → Deletes s number place t answer
deletes_some s t number answer None e h = cc
deletes_some s t number answer (Some place) e h = h

pub deletes_none : (s t : Debugged) (number : ℕ) (answer : List ℕ) (place : Option CodePlace) → is_some place ≡ false
    → Answers s t answer no_breakpoint → Deletes s number place t answer
deletes_none s t number answer None e h = h
deletes_none s t number answer (Some place) e h = cc
