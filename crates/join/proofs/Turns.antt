use Rattle.std.proofs.Common.{◌≡◌, ◌⊎◌, inl, inr, ℕ, suc, ◌+◌, ◌-◌, List, [], ◌∷◌, ◌++◌, length, map, slice_get}
use Rattle.std.proofs.Common.{is_some, Option, Some, None, Result, Ok, Err, refl, sym, ◌∙◌, ap, subst}
use Rattle.std.specs.Option.{option_map}
use Rattle.std.proofs.lemmas.List.{map-append}
use Rattle.model.specs.declared.colours.Colour.TheVariants.{Grey}
use Rattle.model.specs.declared.journals.HeapShape.{HeapShape}
use Rattle.model.specs.declared.turns.Abrupt.{Abrupt}
use Rattle.model.specs.declared.turns.ClassState.{ClassState}
use Rattle.model.specs.declared.turns.Exception.{Exception}
use Rattle.model.specs.declared.turns.Exception.TheVariants.{NoClassDefFound}
use Rattle.model.specs.declared.turns.Fault.{Fault}
use Rattle.model.specs.declared.turns.Fault.TheVariants.{NoInstruction, StackFull}
use Rattle.model.specs.declared.values.Value.TheVariants.{Ref}
use Rattle.model.specs.ClassListings.{ClassListing}
use Rattle.model.specs.Classes.Exceptions.{exception_class}
use Rattle.model.specs.Accounts.{Account, take_cell, with_new as with_birth, shade_all}
use Rattle.model.specs.declared.colours.Cell.{Cell}
use Rattle.model.specs.Frames.{Frame, Moved, running, with_running, replaced_if_room}
use Rattle.model.specs.Worlds.{World, Contents, Object, frames_at, next_birth, with_thread, with_class_states}
use Rattle.model.specs.Worlds.{with_fault, with_output, plain_object}
use Rattle.model.specs.Worlds.Thread.{Live}
use Rattle.model.specs.Objects.{made_of, with_new, with_object, words_in}
use Rattle.model.specs.Results.{Effect}
use Rattle.model.specs.Unwinding.{thrown}
use Rattle.model.specs.Effects.{created_with, created_on, raised}
use Rattle.model.specs.Effects.Choice.{NewObject, NoRoom}
use Rattle.model.specs.Completions.{Completion}
use Rattle.model.specs.Completions.Completion.{Goes, Prints, Creates, Throws, Raises, Denies, Faults, Waits}
use Rattle.model.specs.Machines.{Machine}
use Rattle.model.specs.Collector.Places.{contents_refs, Reach}
use Rattle.model.specs.Collector.Invariant.{Invariant, In}
use Rattle.model.specs.Collector.Changes.{IsNew}
use Rattle.model.specs.Collector.Moves.{LeadNowhere, Lawful, CompletionMoves, object_of}
use Rattle.model.specs.Collector.Moves.Lawful.{faults as lawful_fault, moves}
use Rattle.model.proofs.CollectorLemmas.Choosing.{effect_lawful}
use Rattle.model.proofs.CollectorLemmas.Known.{memory_error_known, stack_error_known, monitor_known}
use Rattle.model.proofs.CollectorLemmas.Taking.{Takes, takes, placed_is, relisted}
use Rattle.join.specs.OnCells.Matches.{faults, matches}
use Rattle.join.specs.Naming.{Naming, named_frame, named_result, Named}
use Rattle.join.specs.OnCells.{completion_on, on_cells, InCell, Matches}
use Rattle.join.specs.TurnsOnCells.{CellMachine, shade_cells, birth_in, carried_unless, carried_on, created_with_on}
use Rattle.join.specs.TurnsOnCells.{created_in, created_at, raised_at, turned_on}
use Rattle.join.specs.Joined.{named_account, Joined, Joint, Bounded}
use Rattle.join.proofs.Naming.{if_room_named}
use Rattle.join.proofs.Choices.{by_room, ideal_unless, ideal_carried, ideal_by, ideal_turned}
use Rattle.join.proofs.Shading.{EachInCell, shades_on_cells, named_shades, on_shades}
use Rattle.join.proofs.Reached.{reached_in_cell}
use Rattle.join.proofs.Unwinding.{thrown_on_cells}
use Rattle.join.proofs.Agreeing.{frame_agrees}
use Rattle.join.proofs.NewBirths.{naming_with, cells_with, old_name, new_name, named_with, frame_may, new_on_cells}
use Rattle.join.proofs.NewBirths.{in_cell_with, in_cell_new, refs_with, born_before}
use Rattle.join.proofs.Frames.{running_named, frames_on_cells, running_on_cells, thread_on_cells}
use Rattle.join.proofs.Taking.{named_taken, take_on_cells}

-- a thread's turn on cells is the ideal turn, case by case of what its instruction comes to. Where an object is made
-- the naming after the turn has one birth more; in each other case it stays

-- ---- what a turn without a new object comes to

module _ (h : Naming) (shape : HeapShape) (m : Machine) (i : Invariant shape m.world (next_birth m.world) m.account)
    (named : Named h m.account.cells) (e1 : h 1 ≡ 1) (e2 : h 2 ≡ 2) where
  abbrev w : World
  w = m.world

  abbrev a : Account
  a = m.account

  abbrev n : ℕ
  n = next_birth w

  abbrev on : CellMachine
  on = record { world = on_cells h a.cells w; account = named_account h a; births = n }

  -- the account stays, and nothing is born
  stays : (v x : World) → x ≡ on_cells h a.cells v → next_birth v ≡ n
      → Joined h (record { world = x; account = on.account; births = n }) (record { world = v; account = a })
  stays v x e k = record {
    world = e;
    account = refl;
    births = sym k;
    named = named;
    memory_error = e1;
    stack_error = e2;
  }

  all_known : (bs : List ℕ) → ((b : ℕ) → In b bs → Reach w b) → EachInCell h a.cells w bs
  all_known [] k = tt
  all_known (b ∷ bs) k = (reached_in_cell h shape w a named i b (k b (inl refl)), all_known bs (λ x l. k x (inr l)))

  -- these births are shaded
  shades : (v x : World) (bs : List ℕ) → x ≡ on_cells h a.cells v → next_birth v ≡ n → ((b : ℕ) → In b bs → Reach w b)
      → Joined h (record { world = x; account = shade_cells on.account (map h bs); births = n })
      (record { world = v; account = shade_all a bs })
  shades v x bs e s k = record {
    world = e ∙ sym (on_shades h a v bs);
    account = shades_on_cells h a w bs named (all_known bs k);
    births = sym s;
    named = named_shades h a bs named;
    memory_error = e1;
    stack_error = e2;
  }

  -- what an effect without a new object wrote was reachable
  reached : (e : Effect) → Lawful w None e → (b : ℕ) → In b e.writes → Reach w b
  reached e (lawful_fault t fault s) b k = absurd (none (ap (λ (x : Effect). x.writes) s) k)
    where
      none : {bs : List ℕ} → bs ≡ [] → In b bs → ⊥
      none s l = subst (In b) s l
  reached e (moves f r l) b k = elim (l.writes b k) [ inl s ↦ absurd s | inr s ↦ s ]

  -- and nothing was born
  unborn : (e : Effect) → Lawful w None e → next_birth e.after ≡ n
  unborn e (lawful_fault t fault s) = ap (λ (x : Effect). next_birth x.after) s
  unborn e (moves f r l) = l.counted

  -- an effect without a new object
  carried_joint : (t : ℕ) (e f : Effect) → Matches h a.cells on.world w t e f → Lawful w None f
      → Joint (carried_on on on.account n e) (ideal_carried a n None f)
  carried_joint t e f (faults fault s r) l = rw (
    s,
    r,
  ) (record { naming = h; joined = stays (with_fault w t fault) (with_fault on.world t fault) refl refl })
  carried_joint t e f (matches s c) l =
      let same : e.after.fault ≡ f.after.fault = ap (λ (x : Effect). x.after.fault) s in
      subst (λ o. Joint (carried_unless on on.account n e o) (ideal_carried a n None f)) (sym same) (go f.after.fault)
    where
      go : (o : Option (Fault × ℕ)) → Joint (carried_unless on on.account n e o) (ideal_unless a n None f o)
      go None = record {
        naming = h;
        joined = rw s (shades f.after (on_cells h a.cells f.after) f.writes refl (unborn f l) (reached f l));
      }
      go (Some fault) = record {
        naming = h;
        joined = rw s (stays f.after (on_cells h a.cells f.after) refl (unborn f l));
      }

  -- ---- a throwable, in a world with other class states

  in_cell_states : (v : World) (cells : List Cell) (g : Naming) (states : List ClassState) (b : ℕ) → InCell g cells v b
      → InCell g cells (with_class_states v states) b
  in_cell_states v cells g states b s = record {
    cell = s.cell;
    colour = s.colour;
    object = s.object;
    held = s.held;
    named = s.named;
    made = s.made;
  }

  monitors : (t d : ℕ) (f : Frame) → slice_get (frames_at w t) d ≡ Some f → (b : ℕ) → f.monitor ≡ Some b
      → InCell h a.cells w b
  monitors t d f e b k = reached_in_cell h shape w a named i b (monitor_known w t d b f e k)

  thrown_joint : (program : List ClassListing) (t b : ℕ) (states : List ClassState)
      → let v = with_class_states w states in Reach w b → Lawful w None (thrown program w v t b)
      → Joint (carried_on on on.account n (thrown program on.world (with_class_states on.world states) t (h b)))
      (ideal_carried a n None (thrown program w v t b))
  thrown_joint program t b states r l =
      let v = with_class_states w states in
      carried_joint t (thrown program on.world (with_class_states on.world states) t (h b)) (thrown program w v t b)
      (thrown_on_cells h a.cells named program on.world w v t b refl
      (in_cell_states w a.cells h states b (reached_in_cell h shape w a named i b r)) (λ d f e c k.
      in_cell_states w a.cells h states c (monitors t d f e c k)))
      l

  -- no cell has room
  memory_thrown : (program : List ClassListing) (t : ℕ) (states : List ClassState)
      → let v = with_class_states w states in Lawful w None (thrown program w v t 1)
      → Joint (carried_on on on.account n (thrown program on.world (with_class_states on.world states) t 1))
      (ideal_carried a n None (thrown program w v t 1))
  memory_thrown program t states l =
      subst (λ (r : ℕ). Joint (carried_on on on.account n (thrown program on.world (with_class_states on.world states) t
      r)) (ideal_carried a n None (thrown program w (with_class_states w states) t 1))) e1
      (thrown_joint program t 1 states (memory_error_known w) l)

  -- ---- what a turn with a new object comes to

  module _ (bound : Bounded w) (words : ℕ) (cell : ℕ × Account) (found : take_cell a words ≡ Some cell) where
    abbrev t : Takes shape n a cell.0 cell.1
    t = takes shape n a words cell found i.tidy

    abbrev h' : ℕ → ℕ
    h' = naming_with h shape w a named i bound cell.0 t.was_free t.within

    abbrev cells' : List Cell
    cells' = cells_with h shape w a named i bound cell.0 t.was_free t.within

    abbrev a' : Account
    a' = with_birth a n words

    named' : Named h' cells'
    named' = named_with h shape w a named i bound cell.0 t.was_free t.within

    older_same : (b : ℕ) → Reach w b → h b ≡ h' b
    older_same b r = old_name h shape w a named i bound cell.0 t.was_free t.within b
        (born_before h shape w a named i b r)

    newest : h' n ≡ suc cell.0
    newest = new_name h shape w a named i bound cell.0 t.was_free t.within

    account_is : a' ≡ record (relisted a t.small t.medium t.large) { cells = cells'; grey = a.grey ++ n ∷ [] }
    account_is = ap (λ (x : Account). let y : Account = record x { grey = x.grey ++ n ∷ [] }
        in y) (placed_is shape n a words Grey cell t found)

    cells_are : a'.cells ≡ cells'
    cells_are = ap (λ (x : Account). x.cells) account_is

    grey_same : map h a.grey ≡ map h' a.grey
    grey_same = refs_with h shape w a named i bound cell.0 t.was_free t.within a.grey
        (λ b k. (let g = i.tidy.only_grey b k in i.tidy.born g.0 b Grey g.1))

    taken_on_cells : birth_in (named_account h cell.1) cell.0 n ≡ named_account h' a'
    taken_on_cells =
        ap (λ (x : Account). birth_in (named_account h x) cell.0 n) t.is
        ∙ ap (λ (bs : List ℕ). let y : Account = record (relisted a t.small t.medium t.large) {
          cells = cells';
          grey = bs;
        } in y) (ap (λ bs. bs ++ suc cell.0 ∷ []) grey_same
        ∙ ap (λ (r : ℕ). map h' a.grey ++ r ∷ []) (sym newest)
        ∙ sym (map-append h' a.grey (n ∷ [])))
        ∙ ap (named_account h') (sym account_is)

    came : (new : Object) → LeadNowhere (contents_refs new.contents) → with_object on.world (suc cell.0) new
        ≡ on_cells h' cells' (with_new w new)
    came new empty = sym (new_on_cells h shape w a named i bound cell.0 t.was_free t.within new empty)

    new_in_cell : (new : Object) → InCell h' cells' (with_new w new) n
    new_in_cell new = in_cell_new h shape w a named i bound cell.0 t.was_free t.within new

    old_in_cell : (new : Object) (b : ℕ) → Reach w b → InCell h' cells' (with_new w new) b
    old_in_cell new b r = in_cell_with h shape w a named i bound cell.0 t.was_free t.within new b
        (reached_in_cell h shape w a named i b r)

    -- ---- what the turn wrote is shaded

    new_known : (new : Object) (bs : List ℕ) → ((b : ℕ) → In b bs → IsNew (Some words) n b ⊎ Reach w b)
        → EachInCell h' cells' (with_new w new) bs
    new_known new [] k = tt
    new_known new (b ∷ bs) k = (
      elim (k b (inl refl)) [
        | inl e ↦ subst (InCell h' cells' (with_new w new)) (sym e)
            (new_in_cell new)
        | inr r ↦ old_in_cell new b r
      ],
      new_known new bs (λ x l. k x (inr l)),
    )

    new_shades : (new : Object) (v x : World) (bs : List ℕ) → x ≡ on_cells h' cells' v → next_birth v ≡ n + 1
        → ((b : ℕ) → In b bs → IsNew (Some words) n b ⊎ Reach w b)
        → Joined h' (record {
          world = x;
          account = shade_cells (birth_in (named_account h cell.1) cell.0 n) (map h' bs);
          births = n + 1;
        }) (record { world = v; account = shade_all a' bs })
    new_shades new v x bs e s k = record {
      world = e ∙ ap (λ cs. on_cells h' cs v) (sym cells_are) ∙ sym (on_shades h' a' v bs);
      account = ap (λ y. shade_cells y (map h' bs)) taken_on_cells ∙ shades_on_cells h' a' (with_new w new) bs
          (subst (Named h') (sym cells_are) named') (subst (λ cs. EachInCell h' cs (with_new w new) bs) (sym cells_are)
          (new_known new bs k));
      births = sym s;
      named = named_shades h' a' bs (subst (Named h') (sym cells_are) named');
      memory_error = sym (older_same 1 (memory_error_known w)) ∙ e1;
      stack_error = sym (older_same 2 (stack_error_known w)) ∙ e2;
    }

    written : (f : Effect) → Lawful w (Some words) f → (b : ℕ) → In b f.writes → IsNew (Some words) n b ⊎ Reach w b
    written f (lawful_fault u fault s) b k = absurd (none (ap (λ (x : Effect). x.writes) s) k)
      where
        none : {bs : List ℕ} → bs ≡ [] → In b bs → ⊥
        none s l = subst (In b) s l
    written f (moves r s l) b k = l.writes b k

    -- one more was born
    born : (f : Effect) → w.fault ≡ None → f.after.fault ≡ None → Lawful w (Some words) f → next_birth f.after ≡ n + 1
    born f none clean (lawful_fault u fault s) = (let k = ap (λ (x : Effect). x.after.fault) s in absurd (cc))
    born f none clean (moves r s l) = l.counted

    -- ---- an exception is made and thrown

    new_carried : (new : Object) (u : ℕ) (e f : Effect) → w.fault ≡ None → Matches h' cells' on.world w u e f
        → Lawful w (Some words) f → Joint (carried_on on (birth_in (named_account h cell.1) cell.0 n) (n + 1) e)
        (ideal_carried a n (Some words) f)
    new_carried new u e f none (faults fault s r) l = rw (
      s,
      r,
    ) (record { naming = h; joined = stays (with_fault w u fault) (with_fault on.world u fault) refl refl })
    new_carried new u e f none (matches s c) l =
        let clean : f.after.fault ≡ None = c ∙ none in
        let same : e.after.fault ≡ None = ap (λ (y : Effect). y.after.fault) s ∙ clean in
        subst (λ o. Joint (carried_unless on (birth_in (named_account h cell.1) cell.0 n) (n + 1) e o)
        (ideal_carried a n (Some words) f)) (sym same)
        (subst (λ o. Joint (carried_unless on (birth_in (named_account h cell.1) cell.0 n) (n + 1) e None)
        (ideal_unless a n (Some words) f o)) (sym clean)
        (record {
          naming = h';
          joined = rw s (new_shades new f.after (on_cells h' cells' f.after) f.writes refl (born f none clean l)
              (written f l));
        }))

    raised_joint : (program : List ClassListing) (u : ℕ) (exception : Exception) (states : List ClassState)
        → w.fault ≡ None →
        let new = plain_object (exception_class exception) in
        let f = thrown program w (with_new (with_class_states w states) new) u n in
        Lawful w (Some words) f →
        Joint (carried_on on (birth_in (named_account h cell.1) cell.0 n) (n + 1)
        (thrown program on.world (with_object (with_class_states on.world states) (suc cell.0) new) u (suc cell.0)))
        (ideal_carried a n (Some words) f)
    raised_joint program u exception states none l =
        let new = plain_object (exception_class exception) in
        let v = with_new w new in
        let f = thrown program w (with_class_states v states) u n in
        let al = thrown_on_cells h' cells' named' program on.world w (with_class_states v states) u n refl
        (in_cell_states v cells' h' states n (new_in_cell new)) (λ d g e b q.
        in_cell_states v cells' h' states b (old_in_cell new b (monitor_known w u d b g e q))) in
        let same : thrown program on.world (with_object (with_class_states on.world states) (suc cell.0) new) u
        (suc cell.0) ≡ thrown program on.world (with_class_states (on_cells h' cells' v) states) u (h' n) =
        ap (λ x. thrown program on.world (with_class_states x states) u (suc cell.0)) (came new tt)
        ∙ ap (thrown program on.world (with_class_states (on_cells h' cells' v) states) u) (sym newest) in
        subst (λ e. Joint (carried_on on (birth_in (named_account h cell.1) cell.0 n) (n + 1) e)
        (ideal_carried a n (Some words) f)) (sym same)
        (new_carried new u (thrown program on.world (with_class_states (on_cells h' cells' v) states) u (h' n)) f none
        al l)

    -- ---- an object is made

    pushed : (next taken : ℕ) (f : Frame) → named_frame h f ≡ named_frame h' f
        → replaced_if_room next (named_frame h f) taken (Ref (Some (suc cell.0)) ∷ [])
        ≡ named_result h' (replaced_if_room next f taken (Ref (Some n) ∷ []))
    pushed next taken f e =
        ap (λ g. replaced_if_room next g taken (Ref (Some (suc cell.0)) ∷ [])) e
        ∙ ap (λ (r : ℕ). replaced_if_room next (named_frame h' f) taken (Ref (Some r) ∷ [])) (sym newest)
        ∙ if_room_named h' next f taken (Ref (Some n) ∷ [])

    made_world : (u : ℕ) (contents : Contents) → LeadNowhere (contents_refs contents) → (moved : Moved)
        → with_thread (with_object on.world (suc cell.0) (made_of contents)) u
        (Live (with_running (frames_at on.world u) (named_frame h' moved.frame)))
        ≡ on_cells h' cells' (with_thread (with_new w (made_of contents)) u
        (Live (with_running (frames_at w u) moved.frame)))
    made_world u contents empty moved =
        let v = with_new w (made_of contents) in
        ap (λ x. with_thread x u (Live (with_running (frames_at x u) (named_frame h' moved.frame))))
        (came (made_of contents) empty)
        ∙ ap (λ fs. with_thread (on_cells h' cells' v) u (Live (with_running fs (named_frame h' moved.frame))))
        (frames_on_cells h' cells' v u)
        ∙ ap (λ fs. with_thread (on_cells h' cells' v) u (Live fs)) (running_named h' (frames_at w u) moved.frame)
        ∙ thread_on_cells h' cells' v u (Live (with_running (frames_at w u) moved.frame))

    made_joint : (u : ℕ) (contents : Contents) → LeadNowhere (contents_refs contents) → w.fault ≡ None
        → (r : Result Moved Abrupt) → Lawful w (Some words) (created_with w u contents r)
        → Joint (created_with_on on u cell.0 (named_account h cell.1) contents (named_result h' r))
        (ideal_carried a n (Some words) (created_with w u contents r))
    made_joint u contents empty none (Err abrupt) l = record {
      naming = h;
      joined = stays (with_fault w u StackFull) (with_fault on.world u StackFull) refl refl;
    }
    made_joint u contents empty none (Ok moved) l =
        let f = created_with w u contents (Ok moved) in
        subst (λ o. Joint (created_with_on on u cell.0 (named_account h cell.1) contents (named_result h' (Ok moved)))
        (ideal_unless a n (Some words) f o)) (sym none)
        (record {
          naming = h';
          joined = new_shades (made_of contents) f.after _ moved.writes
              (made_world u contents empty moved) (born f none none l) (written f l);
        })

    pub created_joint : (u next taken : ℕ) (contents : Contents) → LeadNowhere (contents_refs contents) → w.fault ≡ None
        → (o : Option Frame) → running (frames_at w u) ≡ o
        → Lawful w (Some words) (created_on w u next taken contents o)
        → Joint (created_in on u next taken contents cell.0 (named_account h cell.1) (option_map (named_frame h) o))
        (ideal_carried a n (Some words) (created_on w u next taken contents o))
    created_joint u next taken contents empty none None e l = record {
      naming = h;
      joined = stays (with_fault w u NoInstruction) (with_fault on.world u NoInstruction) refl refl;
    }
    created_joint u next taken contents empty none (Some f) e l =
        let same = frame_agrees h h' _ (old_name h shape w a named i bound cell.0 t.was_free t.within) f
        (frame_may h shape w a named i bound cell.0 t.was_free t.within u (length (frames_at w u) - 1) f e) in
        subst (λ r. Joint (created_with_on on u cell.0 (named_account h cell.1) contents r)
        (ideal_carried a n (Some words) (created_on w u next taken contents (Some f))))
        (sym (pushed next taken f same))
        (made_joint u contents empty none (replaced_if_room next f taken (Ref (Some n) ∷ [])) l)

  -- ---- the turn, whatever the instruction comes to

  module _ (bound : Bounded w) (none : w.fault ≡ None) (program : List ClassListing) (u : ℕ) where
    created_turn : (next taken : ℕ) (contents : Contents) → LeadNowhere (contents_refs contents)
        → (o : Option (ℕ × Account)) → take_cell a (words_in contents) ≡ o
        → Joint (created_at program on u next taken contents (option_map (named_taken h) o))
        (ideal_by program m u (Creates next taken contents) (by_room (is_some o)))
    created_turn next taken contents empty None e = memory_thrown program u w.statics.states
        (effect_lawful program w u NoRoom (Creates next taken contents) empty)
    created_turn next taken contents empty (Some cell) e =
        subst (λ o. Joint (created_in on u next taken contents cell.0 (named_account h cell.1) o)
        (ideal_by program m u (Creates next taken contents) NewObject)) (sym (running_on_cells h a.cells w u))
        (created_joint bound (words_in contents) cell e u next taken contents empty none (running (frames_at w u)) refl
        (effect_lawful program w u NewObject (Creates next taken contents) empty))

    -- by the class states that the turn leaves
    raised_turn : (exception : Exception) (states : List ClassState) → let v = with_class_states w states in
        Lawful w None (thrown program w v u 1)
        → Lawful w (Some 0) (thrown program w (with_new v (plain_object (exception_class exception))) u n) →
        (o : Option (ℕ × Account)) → take_cell a 0 ≡ o →
        Joint (raised_at program on (with_class_states on.world states) u exception (option_map (named_taken h) o))
        (ideal_carried a n (object_of (by_room (is_some o)) (Some 0))
        (raised program w v u exception (by_room (is_some o))))
    raised_turn exception states l k None e = memory_thrown program u states l
    raised_turn exception states l k (Some cell) e = raised_joint bound 0 cell e program u exception states none k

    pub turned_joint : (c : Completion) → CompletionMoves w c
        → Joint (turned_on program on u (completion_on h a.cells c)) (ideal_turned program m u c)
    unfolding turned_on ideal_turned
    turned_joint (Goes after writes) k =
        let f : Effect = record { after = after; writes = writes } in
        subst (λ o. Joint (turned_on program on u (Goes (on_cells h a.cells after) (map h writes)))
        (ideal_unless a n None f o)) (sym (k.fault ∙ none))
        (record {
          naming = h;
          joined = shades after (on_cells h a.cells after) writes refl k.moves.counted
              (λ b l. elim (k.moves.writes b l) [ inl s ↦ absurd s | inr r ↦ r ]);
        })
    turned_joint (Prints after bytes) k =
        let f : Effect = record { after = with_output after (after.output ++ bytes); writes = [] } in
        subst (λ o. Joint (turned_on program on u (Prints (on_cells h a.cells after) bytes))
        (ideal_unless a n None f o)) (sym (k.fault ∙ none))
        (record { naming = h; joined = stays f.after _ refl k.moves.counted })
    turned_joint (Creates next taken contents) k =
        subst (λ o. Joint (created_at program on u next taken contents o)
        (ideal_turned program m u (Creates next taken contents))) (sym (take_on_cells h a (words_in contents)))
        (created_turn next taken contents k (take_cell a (words_in contents)) refl)
    turned_joint (Throws b) k = thrown_joint program u b w.statics.states k (effect_lawful program w u NoRoom (Throws b)
        k)
    turned_joint (Raises exception) k =
        subst (λ o. Joint (raised_at program on on.world u exception o) (ideal_turned program m u (Raises exception)))
        (sym (take_on_cells h a 0))
        (raised_turn exception w.statics.states (effect_lawful program w u NoRoom (Raises exception) tt)
        (effect_lawful program w u NewObject (Raises exception) tt) (take_cell a 0) refl)
    turned_joint (Denies states) k =
        subst (λ o. Joint (raised_at program on (with_class_states on.world states) u NoClassDefFound o)
        (ideal_turned program m u (Denies states))) (sym (take_on_cells h a 0))
        (raised_turn NoClassDefFound states (effect_lawful program w u NoRoom (Denies states) tt)
        (effect_lawful program w u NewObject (Denies states) tt) (take_cell a 0) refl)
    turned_joint (Faults fault) k = record {
      naming = h;
      joined = stays (with_fault w u fault) (with_fault on.world u fault) refl refl;
    }
    turned_joint Waits k =
        let f : Effect = record { after = w; writes = [] } in
        subst (λ o. Joint on (ideal_unless a n None f o)) (sym none)
        (record { naming = h; joined = stays w _ refl refl })
