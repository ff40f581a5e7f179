use Rattle.std.proofs.Common.{◌≡◌, ◌⊎◌, inl, inr, ℕ, ◌+◌, Bool, true, false, List, [], ◌∷◌, ◌++◌, drop, Option, Some}
use Rattle.std.proofs.Common.{None, Ok, nat_le, refl}
use Rattle.std.proofs.lemmas.List.{length-append}
use Rattle.model.specs.declared.values.Value.TheVariants.{Ref}
use Rattle.model.specs.declared.turns.Fault.TheVariants.{NoInstruction, StackFull}
use Rattle.model.specs.declared.turns.ClassState.{ClassState}
use Rattle.model.specs.declared.turns.Exception.{Exception}
use Rattle.model.specs.declared.turns.Exception.TheVariants.{NoClassDefFound}
use Rattle.model.specs.ClassListings.{ClassListing}
use Rattle.model.specs.Classes.Exceptions.{exception_class}
use Rattle.model.specs.Values.{units_of_all}
use Rattle.model.specs.Frames.{Frame, running, with_running, push_all, replaced, replaced_if_room}
use Rattle.model.specs.Worlds.{World, Contents, frames_at, next_birth, with_class_states, plain_object}
use Rattle.model.specs.Worlds.Thread.{Live}
use Rattle.model.specs.Objects.{made_of, with_new, words_in}
use Rattle.model.specs.Completions.{Completion, asks}
use Rattle.model.specs.Completions.Completion.{Goes, Prints, Creates, Throws, Raises, Denies, Faults, Waits}
use Rattle.model.specs.Effects.{Choice, created_with, created_on, created, raised, effect_of}
use Rattle.model.specs.Effects.Choice.{NewObject, NoRoom}
use Rattle.model.specs.Collector.Places.{contents_refs, slots_of}
use Rattle.model.specs.Collector.Invariant.{In}
use Rattle.model.specs.Collector.Moves.{LeadNowhere, CompletionMoves, Moves, Lawful, object_of}
use Rattle.model.specs.Collector.Moves.Lawful.{faults, moves}
use Rattle.model.proofs.CollectorLemmas.Moving.{AllMay, refs_same, frames_set, threads_same, threads_set, objects_same}
use Rattle.model.proofs.CollectorLemmas.Moving.{objects_more}
use Rattle.model.proofs.CollectorLemmas.Known.{memory_error_known}
use Rattle.model.proofs.CollectorLemmas.Stepping.{replaced_moves}
use Rattle.model.proofs.CollectorLemmas.Unwinding.{Kept, states_keep, thrown_lawful}

-- what an instruction comes to is lawful, whatever is chosen

-- ---- an object is made

nowhere_may : (P : ℕ → Type 0) (rs : List (Option ℕ)) → LeadNowhere rs → AllMay P rs
nowhere_may P [] h = tt
nowhere_may P (None ∷ rs) h = (λ b e. absurd (cc), nowhere_may P rs h)
nowhere_may P (Some b ∷ rs) h = absurd h

created_here : (w : World) (t next taken : ℕ) (contents : Contents) (f : Frame) → running (frames_at w t) ≡ Some f
    → LeadNowhere (contents_refs contents)
    → Lawful w (Some (words_in contents))
    (created_with w t contents (Ok (replaced next f taken (Ref (Some (next_birth w)) ∷ []))))
created_here w t next taken contents f e h =
    let n = next_birth w in
    let vs = Ref (Some n) ∷ [] in
    let P : ℕ → Type 0 = λ b. (b ≡ n) ⊎ In b (n ∷ []) in
    moves refl refl (record {
      counted = length-append w.objects (made_of contents ∷ []);
      statics = refs_same _ (slots_of w);
      threads = threads_set _ w.threads t (Live (with_running (frames_at w t) (replaced next f taken vs).frame))
          (frames_set _ (frames_at w t) _ f _ e (replaced_moves P next f taken vs (λ b k. inr (inl cc), tt)));
      objects = objects_more P w.objects (made_of contents) (nowhere_may P (contents_refs contents) h);
      writes = λ b k. elim k [ inl s ↦ inl s | inr z ↦ absurd z ];
    })

created_if_room : (w : World) (t next taken : ℕ) (contents : Contents) (f : Frame) → running (frames_at w t) ≡ Some f
    → LeadNowhere (contents_refs contents)
    → Lawful w (Some (words_in contents))
    (created_with w t contents (replaced_if_room next f taken (Ref (Some (next_birth w)) ∷ [])))
created_if_room w t next taken contents f e h = go
    (nat_le (units_of_all (push_all (Ref (Some (next_birth w)) ∷ []) (drop taken f.stack))) f.room) refl
  where
    go : (fits : Bool) → nat_le (units_of_all (push_all (Ref (Some (next_birth w)) ∷ []) (drop taken f.stack))) f.room
        ≡ fits → Lawful w (Some (words_in contents))
        (created_with w t contents (replaced_if_room next f taken (Ref (Some (next_birth w)) ∷ [])))
    go true s = rw s (created_here w t next taken contents f e h)
    go false s = rw s (faults t StackFull refl)

created_on_lawful : (w : World) (t next taken : ℕ) (contents : Contents) (o : Option Frame) → running (frames_at w t)
    ≡ o → LeadNowhere (contents_refs contents)
    → Lawful w (Some (words_in contents)) (created_on w t next taken contents o)
created_on_lawful w t next taken contents None e h = faults t NoInstruction refl
created_on_lawful w t next taken contents (Some f) e h = created_if_room w t next taken contents f e h

-- ---- something is thrown that is there

there : (w : World) (P : ℕ → Type 0) → Kept P w (next_birth w) w
there w P = record {
  fault = refl;
  rows = refl;
  threads = refl;
  fields = refl;
  made = refl;
  objects = objects_same P w.objects;
}

no_room_lawful : (program : List ClassListing) (w : World) (t : ℕ)
    → Lawful w None (effect_of program w t NewObject (Throws 1))
no_room_lawful program w t = thrown_lawful program w w None t 1 refl (inr (memory_error_known w)) (there w)

created_lawful : (program : List ClassListing) (w : World) (t next taken : ℕ) (contents : Contents) (choice : Choice)
    → LeadNowhere (contents_refs contents)
    → Lawful w (object_of choice (Some (words_in contents))) (created program w t next taken contents choice)
created_lawful program w t next taken contents NewObject h = created_on_lawful w t next taken contents
    (running (frames_at w t)) refl h
created_lawful program w t next taken contents NoRoom h = no_room_lawful program w t

-- ---- an exception is made and thrown

-- the class states may differ
one_more : (w : World) (states : List ClassState) (class : List ℕ) (P : ℕ → Type 0)
    → Kept P w (next_birth w + 1) (with_new (with_class_states w states) (plain_object class))
one_more w states class P = record {
  fault = refl;
  rows = refl;
  threads = refl;
  fields = refl;
  made = length-append w.objects (plain_object class ∷ []);
  objects = objects_more P w.objects (plain_object class) tt;
}

raised_lawful : (program : List ClassListing) (w : World) (states : List ClassState) (t : ℕ) (exception : Exception)
    (choice : Choice) → Lawful w (object_of choice (Some 0)) (raised program w (with_class_states w states) t exception
    choice)
raised_lawful program w states t exception NewObject =
    thrown_lawful program w (with_new (with_class_states w states) (plain_object (exception_class exception))) (Some 0)
    t (next_birth w) refl (inl refl) (one_more w states (exception_class exception))
raised_lawful program w states t exception NoRoom =
    thrown_lawful program w (with_class_states w states) None t 1 refl (inr (memory_error_known w))
    (λ P. states_keep P w w (next_birth w) states (there w P))

-- ---- whatever an instruction comes to

-- none is made where none is asked for
none_made : (choice : Choice) → object_of choice None ≡ None
none_made NewObject = refl
none_made NoRoom = refl

-- what is printed is no place
printed_moves : (w after : World) (output : List ℕ) → Moves w (record { after = after; object = None; writes = [] })
    → Moves w (record { after = record after { output = output }; object = None; writes = [] })
printed_moves w after output m = record {
  counted = m.counted;
  statics = m.statics;
  threads = m.threads;
  objects = m.objects;
  writes = m.writes;
}

nothing_moves : (w : World) → Moves w (record { after = w; object = None; writes = [] })
nothing_moves w = record {
  counted = refl;
  statics = refs_same _ _;
  threads = threads_same _ w.threads;
  objects = objects_same _ w.objects;
  writes = λ b k. absurd k;
}

pub effect_lawful : (program : List ClassListing) (w : World) (t : ℕ) (choice : Choice) (c : Completion)
    → CompletionMoves w c → Lawful w (object_of choice (asks c)) (effect_of program w t choice c)
effect_lawful program w t choice (Goes after writes) h = rw (none_made choice) (moves h.fault h.rows h.moves)
effect_lawful program w t choice (Prints after bytes) h = rw (none_made choice)
    (moves h.fault h.rows (printed_moves w after (after.output ++ bytes) h.moves))
effect_lawful program w t choice (Creates next taken contents) h = created_lawful program w t next taken contents choice
    h
effect_lawful program w t choice (Throws birth) h = rw (none_made choice) (thrown_lawful program w w None t birth refl
    (inr h) (there w))
effect_lawful program w t choice (Raises exception) h = raised_lawful program w w.statics.states t exception choice
effect_lawful program w t choice (Denies states) h = raised_lawful program w states t NoClassDefFound choice
effect_lawful program w t choice (Faults fault) h = faults t fault refl
effect_lawful program w t choice Waits h = rw (none_made choice) (moves refl refl (nothing_moves w))

-- ---- a choice that isn't asked for counts for nothing

pub effect-choice : (program : List ClassListing) (w : World) (t : ℕ) (a b : Choice) (c : Completion) → asks c ≡ None
    → effect_of program w t a c ≡ effect_of program w t b c
effect-choice program w t a b (Goes after writes) e = refl
effect-choice program w t a b (Prints after bytes) e = refl
effect-choice program w t a b (Creates next taken contents) e = absurd (cc)
effect-choice program w t a b (Throws birth) e = refl
effect-choice program w t a b (Raises exception) e = absurd (cc)
effect-choice program w t a b (Denies states) e = absurd (cc)
effect-choice program w t a b (Faults fault) e = refl
effect-choice program w t a b Waits e = refl
