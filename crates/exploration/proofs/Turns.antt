use Rattle.std.proofs.Common.{◌≡◌, inl, inr, ℕ, suc, ◌-◌, List, [], ◌∷◌, ◌++◌, length, slice_get}
use Rattle.std.proofs.Common.{Option, Some, None, Result, Ok, Err, refl, sym, ◌∙◌, ap, subst, arith}
use Rattle.std.specs.Option.{option_map}
use Rattle.std.proofs.lemmas.List.{length-map}
use Rattle.model.specs.declared.turns.Abrupt.{Abrupt}
use Rattle.model.specs.declared.turns.ClassState.{ClassState}
use Rattle.model.specs.declared.turns.Exception.{Exception}
use Rattle.model.specs.declared.turns.Exception.TheVariants.{NoClassDefFound}
use Rattle.model.specs.declared.turns.Fault.{Fault}
use Rattle.model.specs.declared.turns.Fault.TheVariants.{NoInstruction, StackFull}
use Rattle.model.specs.declared.values.Value.TheVariants.{Ref}
use Rattle.model.specs.ClassListings.{ClassListing}
use Rattle.model.specs.Classes.Exceptions.{exception_class}
use Rattle.model.specs.declared.colours.Cell.{Cell}
use Rattle.model.specs.Frames.{Frame, Moved, running, with_running, replaced_if_room}
use Rattle.model.specs.Worlds.{World, Contents, Object, frames_at, next_birth, with_thread, with_class_states}
use Rattle.model.specs.Worlds.{with_fault, with_output, plain_object}
use Rattle.model.specs.Worlds.Thread.{Live}
use Rattle.model.specs.Objects.{made_of, with_new, words_in}
use Rattle.model.specs.Results.{Effect, faulted}
use Rattle.model.specs.Unwinding.{thrown}
use Rattle.model.specs.Effects.{Choice, created_with, created_on, effect_of}
use Rattle.model.specs.Effects.Choice.{NewObject, NoRoom}
use Rattle.model.specs.Completions.{Completion}
use Rattle.model.specs.Completions.Completion.{Goes, Prints, Creates, Throws, Raises, Denies, Faults, Waits}
use Rattle.model.specs.Table.Next.{completion, next}
use Rattle.model.specs.Collector.Places.{contents_refs, Reach}
use Rattle.model.specs.Collector.Changes.{Allowed}
use Rattle.model.specs.Collector.Moves.{LeadNowhere, Lawful, CompletionMoves, change_of}
use Rattle.model.specs.Collector.Moves.Lawful.{faults as lawful_fault, moves}
use Rattle.model.proofs.CollectorLemmas.Choosing.{effect_lawful}
use Rattle.model.proofs.CollectorLemmas.Moving.{allowed_from_moves, refs_same, threads_same, objects_same}
use Rattle.model.proofs.CollectorLemmas.Known.{memory_error_known, stack_error_known, monitor_known}
use Rattle.model.proofs.CollectorLemmas.Table.Next.{completion_moves}
use Rattle.join.specs.OnCells.Matches.{faults, matches}
use Rattle.join.specs.Naming.{Naming, named_frame, named_result, Named}
use Rattle.join.specs.OnCells.{completion_on, on_cells, effect_on, InCell, Matches, ReachedInCells, held_object}
use Rattle.join.proofs.Naming.{if_room_named}
use Rattle.join.proofs.Unwinding.{thrown_on_cells}
use Rattle.join.proofs.Agreeing.{frame_agrees}
use Rattle.join.proofs.Frames.{running_named, frames_on_cells, running_on_cells, thread_on_cells}
use Rattle.join.proofs.Table.Next.{completion_on_cells}
use Rattle.exploration.specs.Representation.{NoGarbage, Images, Represents}
use Rattle.exploration.proofs.MadeBirths.{made_before, reach_before, in_cell_by}
use Rattle.exploration.proofs.NewBirths.{naming_with, cells_with, old_name, new_name, named_with, frame_may}
use Rattle.exploration.proofs.NewBirths.{new_on_cells, in_cell_old, in_cell_new}

-- a turn of a world that represents another one leaves an image of what the same turn leaves of the other

module _ (h : Naming) (cells : List Cell) (w : World) (u : ReachedInCells h cells w) (program : List ClassListing)
    (t : ℕ) where
  abbrev on : World
  on = on_cells h cells w

  -- ---- nothing is born

  images : (v x : World) → x ≡ on_cells h cells v → ((b : ℕ) → Reach v b → InCell h cells v b) → Images x v
  images v x e k = record {
    naming = h;
    cells = cells;
    reached = record { named = u.named; reached = k; memory_error = u.memory_error; stack_error = u.stack_error };
    is = e;
  }

  pub unborn_reached : (f : Effect) → Allowed w (change_of None f) → (b : ℕ) → Reach f.after b → InCell h cells f.after b
  unborn_reached f al b r =
      elim (reach_before w (change_of None f) al b r) [
        | inl s ↦ absurd s
        | inr s ↦ in_cell_by h cells w f.after b (u.reached b s)
            (let l = made_before h cells w u b s in let c = al.counted in omega (arith, l, c))
      ]

  -- a fault changes no place
  fault_allowed : (fault : Fault) → Allowed w (change_of None (faulted w t fault))
  fault_allowed fault = allowed_from_moves w (change_of None (faulted w t fault)) (record {
    counted = refl;
    statics = refs_same _ _;
    threads = threads_same _ w.threads;
    objects = objects_same _ w.objects;
    writes = λ b k. absurd k;
  })

  fault_images : (fault : Fault) → Images (faulted on t fault).after (faulted w t fault).after
  fault_images fault = images (with_fault w t fault) (with_fault on t fault) refl
      (unborn_reached (faulted w t fault) (fault_allowed fault))

  faults_images : (o : Option ℕ) (f : Effect) → Lawful w o f → (e : Effect) → e ≡ effect_on h cells f
      → o ≡ None → Images e.after f.after
  faults_images o f (lawful_fault s fault k) e q z =
      rw (q, k) (images (with_fault w s fault) (with_fault on s fault) refl
      (unborn_reached (faulted w s fault) (allowed_from_moves w (change_of None (faulted w s fault)) (record {
        counted = refl;
        statics = refs_same _ _;
        threads = threads_same _ w.threads;
        objects = objects_same _ w.objects;
        writes = λ b k. absurd k;
      }))))
  faults_images o f (moves s r l) e q z =
      let m = subst (λ x. Allowed w (change_of x f)) z (allowed_from_moves w (change_of o f) l) in
      rw q (images f.after (on_cells h cells f.after) refl (unborn_reached f m))

  carried : (e f : Effect) → Matches h cells on w t e f → Lawful w None f → Images e.after f.after
  carried e f (faults fault s r) l = rw (s, r) (fault_images fault)
  carried e f (matches s c) l = faults_images None f l e s refl

  -- ---- a throwable, in a world with other class states

  in_cell_states : (v : World) (cs : List Cell) (g : Naming) (states : List ClassState) (b : ℕ) → InCell g cs v b
      → InCell g cs (with_class_states v states) b
  in_cell_states v cs g states b s = record {
    cell = s.cell;
    colour = s.colour;
    object = s.object;
    held = s.held;
    named = s.named;
    made = s.made;
  }

  monitors : (d : ℕ) (f : Frame) → slice_get (frames_at w t) d ≡ Some f → (b : ℕ) → f.monitor ≡ Some b → Reach w b
  monitors d f e b k = monitor_known w t d b f e k

  thrown_images : (b : ℕ) (states : List ClassState) → Reach w b
      → Lawful w None (thrown program w (with_class_states w states) t b)
      → Images (thrown program on (with_class_states on states) t (h b)).after
      (thrown program w (with_class_states w states) t b).after
  thrown_images b states r l =
      let v = with_class_states w states in
      carried (thrown program on (with_class_states on states) t (h b)) (thrown program w v t b)
      (thrown_on_cells h cells u.named program on w v t b refl (in_cell_states w cells h states b (u.reached b r))
      (λ d f e c k. in_cell_states w cells h states c (u.reached c (monitors d f e c k))))
      l

  -- no cell has room
  memory_images : (states : List ClassState) → Lawful w None (thrown program w (with_class_states w states) t 1)
      → Images (thrown program on (with_class_states on states) t 1).after
      (thrown program w (with_class_states w states) t 1).after
  memory_images states l =
      subst (λ (r : ℕ). Images (thrown program on (with_class_states on states) t r).after
      (thrown program w (with_class_states w states) t 1).after) u.memory_error
      (thrown_images 1 states (memory_error_known w) l)

  pub goes : (after : World) (writes : List ℕ) → Lawful w None (record { after = after; writes = writes })
      → Images (on_cells h cells after) after
  goes after writes l = faults_images None (record { after = after; writes = writes }) l
      (effect_on h cells (record { after = after; writes = writes })) refl refl

  module _ (tidy : NoGarbage cells w) (none : w.fault ≡ None) where
    -- ---- something is born

    abbrev n : ℕ
    n = next_birth w

    abbrev h' : ℕ → ℕ
    h' = naming_with h cells w u tidy

    abbrev cells' : List Cell
    cells' = cells_with h cells w u tidy

    named' : Named h' cells'
    named' = named_with h cells w u tidy

    newest : h' n ≡ suc (length cells)
    newest = new_name h cells w u tidy

    -- on cells the new object gets the next number
    next_on : next_birth on ≡ h' n
    next_on = ap suc (length-map cells (held_object h w.objects)) ∙ sym newest

    older : (b : ℕ) → Reach w b → h b ≡ h' b
    older b r = old_name h cells w u tidy b (made_before h cells w u b r)

    new_images : (words : ℕ) (new : Object) (v x : World) → x ≡ on_cells h' cells' v → (writes : List ℕ)
        → Allowed w (record { after = v; object = Some words; writes = writes }) → Images x v
    new_images words new v x e writes al =
        record {
          naming = h';
          cells = cells';
          reached = record {
            named = named';
            reached = λ b r. elim (reach_before w (record { after = v; object = Some words; writes = writes }) al b r) [
              | inl s ↦ in_cell_by h' cells' (with_new w new) v b
                  (subst (InCell h' cells' (with_new w new)) (sym s) (in_cell_new h cells w u tidy new))
                  (let c = al.counted in omega (arith, s, c))
              | inr s ↦ in_cell_by h' cells' (with_new w new) v b (in_cell_old h cells w u tidy new b s)
                  (let c = al.counted in let l = made_before h cells w u b s in omega (arith, l, c))
            ];
            memory_error = sym (older 1 (memory_error_known w)) ∙ u.memory_error;
            stack_error = sym (older 2 (stack_error_known w)) ∙ u.stack_error;
          };
          is = e;
        }

    new_carried : (words : ℕ) (new : Object) (e f : Effect) → Matches h' cells' on w t e f → Lawful w (Some words) f
        → Images e.after f.after
    new_carried words new e f (faults fault s r) l = rw (s, r) (fault_images fault)
    new_carried words new e f (matches s c) (lawful_fault v fault k) =
        (let z = ap (λ (x : Effect). x.after.fault) k in absurd (cc))
    new_carried words new e f (matches s c) (moves k r l) =
        rw s (new_images words new f.after (on_cells h' cells' f.after) refl f.writes
        (allowed_from_moves w (change_of (Some words) f) l))

    -- ---- an exception is made and thrown

    raised_images : (exception : Exception) (states : List ClassState) →
        let new = plain_object (exception_class exception) in
        let f = thrown program w (with_new (with_class_states w states) new) t n in
        Lawful w (Some 0) f
        → Images (thrown program on (with_new (with_class_states on states) new) t (next_birth on)).after f.after
    raised_images exception states l =
        let new = plain_object (exception_class exception) in
        let v = with_new w new in
        let f = thrown program w (with_class_states v states) t n in
        let al = thrown_on_cells h' cells' named' program on w (with_class_states v states) t n refl
        (in_cell_states v cells' h' states n (in_cell_new h cells w u tidy new)) (λ d g e b q.
        in_cell_states v cells' h' states b (in_cell_old h cells w u tidy new b (monitors d g e b q))) in
        let same : thrown program on (with_new (with_class_states on states) new) t (next_birth on)
        ≡ thrown program on (with_class_states (on_cells h' cells' v) states) t (h' n) =
        ap (λ x. thrown program on (with_class_states x states) t (next_birth on)) (new_on_cells h cells w u tidy new tt)
        ∙ ap (thrown program on (with_class_states (on_cells h' cells' v) states) t) next_on in
        subst (λ (e : Effect). Images e.after f.after) (sym same)
        (new_carried 0 new (thrown program on (with_class_states (on_cells h' cells' v) states) t (h' n)) f al l)

    -- ---- an object is made

    pushed : (next taken : ℕ) (f : Frame) → named_frame h f ≡ named_frame h' f
        → replaced_if_room next (named_frame h f) taken (Ref (Some (next_birth on)) ∷ [])
        ≡ named_result h' (replaced_if_room next f taken (Ref (Some n) ∷ []))
    pushed next taken f e =
        ap (λ g. replaced_if_room next g taken (Ref (Some (next_birth on)) ∷ [])) e
        ∙ ap (λ (r : ℕ). replaced_if_room next (named_frame h' f) taken (Ref (Some r) ∷ [])) next_on
        ∙ if_room_named h' next f taken (Ref (Some n) ∷ [])

    made_world : (contents : Contents) → LeadNowhere (contents_refs contents) → (moved : Moved)
        → with_thread (with_new on (made_of contents)) t
        (Live (with_running (frames_at on t) (named_frame h' moved.frame)))
        ≡ on_cells h' cells' (with_thread (with_new w (made_of contents)) t
        (Live (with_running (frames_at w t) moved.frame)))
    made_world contents empty moved =
        let v = with_new w (made_of contents) in
        ap (λ x. with_thread x t (Live (with_running (frames_at x t) (named_frame h' moved.frame))))
        (new_on_cells h cells w u tidy (made_of contents) empty)
        ∙ ap (λ fs. with_thread (on_cells h' cells' v) t (Live (with_running fs (named_frame h' moved.frame))))
        (frames_on_cells h' cells' v t)
        ∙ ap (λ fs. with_thread (on_cells h' cells' v) t (Live fs)) (running_named h' (frames_at w t) moved.frame)
        ∙ thread_on_cells h' cells' v t (Live (with_running (frames_at w t) moved.frame))

    made_images : (contents : Contents) → LeadNowhere (contents_refs contents) → (r : Result Moved Abrupt)
        → Lawful w (Some (words_in contents)) (created_with w t contents r)
        → Images (created_with on t contents (named_result h' r)).after (created_with w t contents r).after
    made_images contents empty (Err abrupt) l = fault_images StackFull
    made_images contents empty (Ok moved) (lawful_fault v fault k) =
        (let z = ap (λ (x : Effect). x.after.fault) k in absurd (cc))
    made_images contents empty (Ok moved) (moves k r l) =
        let f = created_with w t contents (Ok moved) in
        new_images (words_in contents) (made_of contents) f.after _ (made_world contents empty moved) f.writes
        (allowed_from_moves w (change_of (Some (words_in contents)) f) l)

    created_images : (next taken : ℕ) (contents : Contents) → LeadNowhere (contents_refs contents)
        → (o : Option Frame) → running (frames_at w t) ≡ o
        → Lawful w (Some (words_in contents)) (created_on w t next taken contents o)
        → Images (created_on on t next taken contents (option_map (named_frame h) o)).after
        (created_on w t next taken contents o).after
    created_images next taken contents empty None e l = fault_images NoInstruction
    created_images next taken contents empty (Some f) e l =
        let same = frame_agrees h h' _ (old_name h cells w u tidy) f
        (frame_may h cells w u tidy t (length (frames_at w t) - 1) f e) in
        subst (λ r. Images (created_with on t contents r).after (created_on w t next taken contents (Some f)).after)
        (sym (pushed next taken f same))
        (made_images contents empty (replaced_if_room next f taken (Ref (Some n) ∷ [])) l)

    -- ---- whatever the instruction comes to

    done_images : (c : Completion) → CompletionMoves w c → (choice : Choice)
        → Images (effect_of program on t choice (completion_on h cells c)).after (effect_of program w t choice c).after
    done_images (Goes after writes) k choice = goes after writes (moves k.fault k.rows k.moves)
    done_images (Prints after bytes) k choice =
        goes (with_output after (after.output ++ bytes)) []
        (effect_lawful program w t NoRoom (Prints after bytes) k)
    done_images (Creates next taken contents) k NewObject =
        subst (λ o. Images (created_on on t next taken contents o).after
        (effect_of program w t NewObject (Creates next taken contents)).after) (sym (running_on_cells h cells w t))
        (created_images next taken contents k (running (frames_at w t)) refl
        (effect_lawful program w t NewObject (Creates next taken contents) k))
    done_images (Creates next taken contents) k NoRoom = memory_images w.statics.states
        (effect_lawful program w t NoRoom (Creates next taken contents) k)
    done_images (Throws b) k choice = thrown_images b w.statics.states k (effect_lawful program w t NoRoom (Throws b) k)
    done_images (Raises exception) k NewObject = raised_images exception w.statics.states
        (effect_lawful program w t NewObject (Raises exception) tt)
    done_images (Raises exception) k NoRoom = memory_images w.statics.states
        (effect_lawful program w t NoRoom (Raises exception) tt)
    done_images (Denies states) k NewObject = raised_images NoClassDefFound states
        (effect_lawful program w t NewObject (Denies states) tt)
    done_images (Denies states) k NoRoom = memory_images states (effect_lawful program w t NoRoom (Denies states) tt)
    done_images (Faults fault) k choice = fault_images fault
    done_images Waits k choice = images w on refl u.reached

    pub next_images : (choice : Choice) → Images (next program on t choice).after (next program w t choice).after
    unfolding next
    next_images choice =
        subst (λ c. Images (effect_of program on t choice c).after
        (effect_of program w t choice (completion program w t)).after) (sym (completion_on_cells h cells program w u t))
        (done_images (completion program w t) (completion_moves program w t) choice)

-- of one world that represents another
pub turn_images : (program : List ClassListing) (x w : World) (r : Represents x w) (t : ℕ) (choice : Choice)
    → w.fault ≡ None → Images (next program x t choice).after (next program w t choice).after
turn_images program x w r t choice none =
    subst (λ y. Images (next program y t choice).after (next program w t choice).after) (sym r.is)
    (next_images r.naming r.cells w r.reached program t r.tidy none choice)
