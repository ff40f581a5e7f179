use Rattle.std.proofs.Common.{◌≡◌, ℕ, Bool, true, false, List, [], ◌∷◌, map, reverse, Option, Some, None, Result, Ok}
use Rattle.std.proofs.Common.{Err, is_some, nat_le, refl, sym, ◌∙◌, ap}
use Rattle.model.specs.declared.journals.HeapShape.{HeapShape}
use Rattle.model.specs.declared.journals.Limits.{Limits}
use Rattle.model.specs.declared.journals.Outcome.{Outcome}
use Rattle.model.specs.declared.journals.Outcome.TheVariants.{Done, Object, NoRoom as FoundNoRoom}
use Rattle.model.specs.declared.turns.Abrupt.{Abrupt}
use Rattle.model.specs.declared.turns.Actor.TheVariants.{Thread}
use Rattle.model.specs.declared.turns.Exception.TheVariants.{NoClassDefFound}
use Rattle.model.specs.declared.turns.Fault.TheVariants.{StackFull}
use Rattle.model.specs.declared.values.Value.TheVariants.{Ref}
use Rattle.model.specs.ClassListings.{ClassListing}
use Rattle.model.specs.Accounts.{has_room}
use Rattle.model.specs.Frames.{Frame, Moved, running, replaced_if_room}
use Rattle.model.specs.Worlds.{World, Contents, frames_at, next_birth, counted, with_class_states, plain_object}
use Rattle.model.specs.Objects.{class_at, with_new}
use Rattle.model.specs.Monitors.{released, released_all}
use Rattle.model.specs.Classes.Exceptions.{exception_class}
use Rattle.model.specs.Results.{Effect, faulted}
use Rattle.model.specs.Unwinding.{Landing, way_of, without, landed, thrown}
use Rattle.model.specs.Unwinding.Landing.{Handled, Stopped, Unhandled}
use Rattle.model.specs.Completions.{Completion}
use Rattle.model.specs.Completions.Completion.{Goes, Prints, Creates, Throws, Raises, Denies, Faults, Waits}
use Rattle.model.specs.Effects.{Choice, created_with, created_on, effect_of}
use Rattle.model.specs.Effects.Choice.{NewObject, NoRoom}
use Rattle.model.specs.Table.Next.{at_frame, completion, next, asked}
use Rattle.model.specs.Turns.{refusal, is_fault, faulting, choice_of}
use Rattle.model.specs.Machines.{Machine, outcome_by, outcome_with, outcome_asked, outcome_if}
use Rattle.model.specs.Collector.Invariant.{Tidy}
use Rattle.model.specs.Collector.Runs.{moved_by}
use Rattle.model.specs.Collector.Choices.{Chooses}
use Rattle.model.proofs.CollectorLemmas.Moving.{objects_same}
use Rattle.model.proofs.CollectorLemmas.Unwinding.{Kept, released_keeps}
use Rattle.model.proofs.CollectorLemmas.Rooms.{room_is_listed}
use Rattle.model.proofs.CollectorLemmas.Running.{unfaulted}

-- a thread's turn finds no room exactly where no free cell has so many words

-- ---- where a turn faults by both choices, it faults in one way: the stack has no room for the reference

no_fault : (w : World) → w.fault ≡ None → is_fault w ≡ true → ⊥
no_fault w n e = let k = ap is_some n in cc

released_all_fault : (w v : World) (t : ℕ) (monitors : List (Option ℕ)) → Kept (λ b. ⊥) w (next_birth w) v
    → (released_all v t monitors).fault ≡ w.fault
released_all_fault w v t [] k = k.fault
released_all_fault w v t (monitor ∷ monitors) k = released_all_fault w (released v t monitor) t monitors
    (released_keeps _ w v (next_birth w) t monitor k)

left_fault : (w : World) (t : ℕ) (monitors : List (Option ℕ)) → (released_all w t monitors).fault ≡ w.fault
left_fault w t monitors = released_all_fault w w t monitors (record {
  fault = refl;
  rows = refl;
  threads = refl;
  fields = refl;
  made = refl;
  objects = objects_same _ w.objects;
})

landed_fault : (before w : World) (t birth : ℕ) (class : List ℕ) (l : Landing) → w.fault ≡ None
    → is_fault (landed before w t birth class l).after ≡ true → landed before w t birth class l
    ≡ faulted before t StackFull
landed_fault before w t birth class Unhandled n e = absurd (no_fault w n e)
landed_fault before w t birth class (Stopped f callers) n e = absurd (no_fault w n e)
landed_fault before w t birth class (Handled handler f callers) n e = go (nat_le 1 f.room) refl
  where
    go : (room : Bool) → nat_le 1 f.room ≡ room → landed before w t birth class (Handled handler f callers)
        ≡ faulted before t StackFull
    go true s = absurd (no_fault w n (rw s at e))
    go false s = rw s refl

thrown_fault : (program : List ClassListing) (before w : World) (t birth : ℕ) → w.fault ≡ None
    → is_fault (thrown program before w t birth).after ≡ true → thrown program before w t birth
    ≡ faulted before t StackFull
thrown_fault program before w t birth n e =
    let class = class_at w birth in
    let way = way_of program class (reverse (frames_at w t)) in
    landed_fault before (without program w t way.left) t birth class way.landing
    (left_fault w t (map (λ (f : Frame). f.monitor) way.left) ∙ n) e

created_with_fault : (w : World) (t : ℕ) (contents : Contents) (r : Result Moved Abrupt) → w.fault ≡ None
    → is_fault (created_with w t contents r).after ≡ true → created_with w t contents r ≡ faulted w t StackFull
created_with_fault w t contents (Ok m) n e = absurd (no_fault w n e)
created_with_fault w t contents (Err abrupt) n e = refl

created_on_fault : (w : World) (t next taken : ℕ) (contents : Contents) (o : Option Frame) → (o ≡ None → ⊥)
    → w.fault ≡ None → is_fault (created_on w t next taken contents o).after ≡ true
    → created_on w t next taken contents o ≡ faulted w t StackFull
created_on_fault w t next taken contents None h n e = absurd (h refl)
created_on_fault w t next taken contents (Some f) h n e = created_with_fault w t contents
    (replaced_if_room next f taken (Ref (Some (next_birth w)) ∷ [])) n e

one_effect : (program : List ClassListing) (w : World) (t : ℕ) (c : Completion) → (running (frames_at w t) ≡ None → ⊥)
    → w.fault ≡ None → is_fault (effect_of program w t NewObject c).after ≡ true
    → is_fault (effect_of program w t NoRoom c).after ≡ true → effect_of program w t NewObject c
    ≡ effect_of program w t NoRoom c
one_effect program w t (Goes after writes) h n e g = refl
one_effect program w t (Prints after bytes) h n e g = refl
one_effect program w t (Creates next taken contents) h n e g = created_on_fault w t next taken contents
    (running (frames_at w t)) h n e ∙ sym (thrown_fault program w w t 1 n g)
one_effect program w t (Throws birth) h n e g = refl
one_effect program w t (Raises exception) h n e g = thrown_fault program w
    (with_new w (plain_object (exception_class exception))) t (next_birth w) n e
    ∙ sym (thrown_fault program w w t 1 n g)
one_effect program w t (Denies states) h n e g =
    let v = with_class_states w states in
    thrown_fault program w (with_new v (plain_object (exception_class NoClassDefFound))) t (next_birth w) n e
    ∙ sym (thrown_fault program w v t 1 n g)
one_effect program w t (Faults fault) h n e g = refl
one_effect program w t Waits h n e g = refl

one_fault : (program : List ClassListing) (w : World) (t : ℕ) → w.fault ≡ None
    → is_fault (next program w t NewObject).after ≡ true → is_fault (next program w t NoRoom).after ≡ true
    → next program w t NewObject ≡ next program w t NoRoom
unfolding next completion
one_fault program w t n e g = go (running (frames_at w t)) refl e g
  where
    go : (o : Option Frame) → running (frames_at w t) ≡ o
        → is_fault (effect_of program w t NewObject (at_frame program w t o)).after ≡ true
        → is_fault (effect_of program w t NoRoom (at_frame program w t o)).after ≡ true
        → effect_of program w t NewObject (at_frame program w t o)
        ≡ effect_of program w t NoRoom (at_frame program w t o)
    go None s e g = refl
    go (Some f) s e g = one_effect program w t (at_frame program w t (Some f)) (λ k. cc) n e g

-- ---- the row's choice leads where the turn's does

faulting_goes : (program : List ClassListing) (w : World) (t : ℕ) (choice : Choice) → w.fault ≡ None
    → is_fault (next program w t choice).after ≡ true → (f : Bool) → is_fault (next program w t NewObject).after ≡ f
    → (next program w t (faulting f)).after ≡ (next program w t choice).after
faulting_goes program w t NewObject n e true s = refl
faulting_goes program w t NewObject n e false s = absurd (cc)
faulting_goes program w t NoRoom n e true s = ap (λ (x : Effect). x.after) (one_fault program w t n s e)
faulting_goes program w t NoRoom n e false s = refl

outcome_goes : (program : List ClassListing) (w : World) (t : ℕ) (choice : Choice) (outcome : Outcome) → w.fault ≡ None
    → choice_of program w t outcome ≡ choice
    → (next program w t (choice_of program w t (outcome_with program w t choice outcome))).after
    ≡ (next program w t choice).after
outcome_goes program w t choice outcome n is = go (is_fault (next program w t choice).after) refl
  where
    go : (f : Bool) → is_fault (next program w t choice).after ≡ f
        → (next program w t (choice_of program w t (outcome_by f outcome))).after ≡ (next program w t choice).after
    go true e = faulting_goes program w t choice n e (is_fault (next program w t NewObject).after) refl
    go false e = ap (λ c. (next program w t c).after) is

moved_is : (program : List ClassListing) (shape : HeapShape) (limits : Limits) (m : Machine) (t : ℕ)
    → refusal program limits m.world (Thread t) ≡ None → (moved_by program shape limits m (Thread t)).world
    ≡ counted (next program m.world t
    (choice_of program m.world t (outcome_if program m t (asked program m.world t)))).after
unfolding moved_by
moved_is program shape limits m t e = rw (e, e) refl

-- ---- a thread's turn

pub chooses_by_room : (program : List ClassListing) (shape : HeapShape) (limits : Limits) (n : ℕ) (m : Machine) (t : ℕ)
    → Tidy shape n m.account → refusal program limits m.world (Thread t) ≡ None → Chooses program shape limits m t
chooses_by_room program shape limits n m t h e = by_asked (asked program m.world t) refl
    (moved_is program shape limits m t e)
  where
    none : m.world.fault ≡ None
    none = unfaulted program limits m.world t e

    by_has : (words : ℕ) → asked program m.world t ≡ Some words → (room : Bool) → has_room m.account words ≡ room
        → (moved_by program shape limits m (Thread t)).world
        ≡ counted (next program m.world t (choice_of program m.world t (outcome_asked program m.world t room))).after
        → Chooses program shape limits m t
    by_has words s true r k = record {
      choice = NewObject;
      goes = k ∙ ap counted (outcome_goes program m.world t NewObject Object none refl);
      by_room = (
        λ z. absurd (cc),
        λ l. (let a = l.asks in let same : l.words ≡ words = cc
            in absurd (l.none (rw same ((room_is_listed shape n m.account words h).1 r)))),
      );
    }
    by_has words s false r k = record {
      choice = NoRoom;
      goes = k ∙ ap counted (outcome_goes program m.world t NoRoom FoundNoRoom none refl);
      by_room = (
        λ z. record {
          words = words;
          asks = s;
          none = λ x. (let y = (room_is_listed shape n m.account words h).0 x in cc);
        },
        λ l. refl,
      );
    }

    by_asked : (o : Option ℕ) → asked program m.world t ≡ o → (moved_by program shape limits m (Thread t)).world
        ≡ counted (next program m.world t (choice_of program m.world t (outcome_if program m t o))).after
        → Chooses program shape limits m t
    by_asked None s k = record {
      choice = NewObject;
      goes = k ∙ ap counted (outcome_goes program m.world t NewObject Done none refl);
      by_room = (λ z. absurd (cc), λ l. (let a = l.asks in absurd (cc)));
    }
    by_asked (Some words) s k = by_has words s (has_room m.account words) refl k
