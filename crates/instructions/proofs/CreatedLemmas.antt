-- What a turn tells that makes an object.
use Rattle.std.proofs.Common.{◌≡◌, ◌<◌, ◌≤◌, ◌+◌, ℕ, suc, List, [], ◌∷◌, ◌&&◌, Bool, true, false, drop, length, Option}
use Rattle.std.proofs.Common.{Some, None, Ok, Err, refl, sym, ap, ◌∙◌, arith, le-leb}
use Rattle.std.proofs.lemmas.Bool.{leb-false, leb-true, lt-leb}
use Rattle.std.specs.Prelude.{is_some, nat_le, slice_set, if◌then◌else◌}
use Rattle.model.specs.declared.journals.Outcome.{Outcome}
use Rattle.model.specs.declared.journals.Outcome.TheVariants.{Fault as FaultOutcome, Object as GotObject, NoRoom}
use Rattle.model.specs.declared.turns.Abrupt.TheVariants.{Fault as Faulted}
use Rattle.model.specs.declared.turns.Fault.TheVariants.{StackFull}
use Rattle.model.specs.declared.values.Value.{Value}
use Rattle.model.specs.declared.values.Value.TheVariants.{Ref}
use Rattle.model.specs.ClassListings.{ClassListing}
use Rattle.model.specs.Accounts.{Account, has_room, take_cell}
use Rattle.model.specs.Completions.Completion.{Creates}
use Rattle.model.specs.Frames.{Frame, replaced, running, with_running}
use Rattle.model.specs.Machines.{outcome_by}
use Rattle.model.specs.Objects.{made_of}
use Rattle.model.specs.Turns.{is_fault}
use Rattle.model.specs.Values.{units_of_all}
use Rattle.model.specs.Worlds.{Contents, Object, World, frames_at, with_thread}
use Rattle.model.specs.Worlds.Thread.{Live as LiveThread}
use Rattle.join.specs.TurnsOnCells.{CellMachine, birth_in, created_at, created_in, created_with_on, faulted_on}
use Rattle.join.specs.TurnsOnCells.{shade_cells, turned_on}
use Rattle.resolve.proofs.ListLemmas.{and-left, and-right}
use Rattle.instructions.specs.declared.kinds.Course.TheVariants.{Live}
use Rattle.instructions.specs.declared.kinds.Kind.{Kind}
use Rattle.instructions.specs.declared.machines.Machine.{Machine}
use Rattle.instructions.specs.Acting.{Scene, shown, turned}
use Rattle.instructions.specs.Heaps.{created, made, reference_taken, shaded}
use Rattle.instructions.specs.Shown.{contents_shown, objects_shown}
use Rattle.instructions.proofs.Scenes.{frames_shown, thread_set}
use Rattle.instructions.proofs.ShownLemmas.{shown-set, words-shown}

module _ (program : List ClassListing) (f : Frame) (scene : Scene) (m : Machine) (here : length scene.before ≡ m.thread)
    (runs : running m.frames ≡ Some f) (next taken : ℕ) (kind : Kind) (words : List Value) where
  abbrev x : CellMachine
  x = shown program scene m Live

  runs_on : running (frames_at x.world m.thread) ≡ Some f
  runs_on = ap running (frames_shown program scene m here) ∙ runs

  abbrev contents : Contents
  contents = contents_shown program kind words

  abbrev reported_as : Option (ℕ × Account) → CellMachine → CellMachine × Outcome
  reported_as o y = (y, outcome_by (is_fault y.world) (if is_some o then GotObject else NoRoom))

  comes_to : (o : Option (ℕ × Account)) → take_cell m.heap.account (length words) ≡ o
      → turned program x m.thread (Creates next taken contents)
      ≡ reported_as o (created_at program x m.thread next taken contents o)
  unfolding turned_on
  comes_to o is =
      ap (λ o. reported_as o (created_at program x m.thread next taken contents o))
      (ap (take_cell m.heap.account) (words-shown program kind words) ∙ is)

  -- the new object in its cell, its reference on the stack
  abbrev placed : ℕ → Account → List Frame → CellMachine
  placed cell account frames = record {
    world = with_thread (let w : World = record x.world {
      objects = objects_shown program
          (created m.heap kind words (Some (cell, account))).objects;
    } in w) m.thread
        (LiveThread frames);
    account = (shaded (created m.heap kind words (Some (cell, account))) (Some (suc cell))).account;
    births = m.heap.births + 1;
  }

  abbrev pushed : ℕ → Frame
  pushed cell = (replaced next f taken (Ref (Some (suc cell)) ∷ [])).frame

  in_cell : (cell : ℕ) (account : Account) (b : Bool) → nat_le (1 + units_of_all (drop taken f.stack)) f.room ≡ b
      → created_at program x m.thread next taken contents (Some (cell, account))
      ≡ (if b then placed cell account (with_running m.frames (pushed cell)) else faulted_on x m.thread StackFull)
  in_cell cell account true room =
      ap (created_in x m.thread next taken contents cell account) runs_on
      ∙ ap (λ b. created_with_on x m.thread cell account contents (if b
      then Ok (replaced next f taken (Ref (Some (suc cell)) ∷ [])) else Err (Faulted StackFull))) room
      ∙ ap (λ (fs : List Frame). let y : CellMachine = record {
        world = with_thread (let w : World = record x.world {
          objects = slice_set x.world.objects (suc cell)
              (made_of contents);
        } in w) m.thread (LiveThread (with_running fs (pushed cell)));
        account = shade_cells (birth_in account cell x.births) (suc cell ∷ []);
        births = x.births + 1;
      } in y) (frames_shown program scene m here)
      ∙ ap (λ (objects : List Object). let y : CellMachine = record {
        world = with_thread (let w : World = record x.world { objects = objects } in w) m.thread
            (LiveThread (with_running m.frames (pushed cell)));
        account = shade_cells (birth_in account cell x.births) (suc cell ∷ []);
        births = x.births + 1;
      } in y) (sym (shown-set program m.heap.objects cell (Some (made kind words))))
  in_cell cell account false room =
      ap (created_in x m.thread next taken contents cell account) runs_on
      ∙ ap (λ b. created_with_on x m.thread cell account contents (if b
      then Ok (replaced next f taken (Ref (Some (suc cell)) ∷ [])) else Err (Faulted StackFull))) room

  pub new_reported : (after : Machine) (reference : ℕ) (o : Option (ℕ × Account))
      → take_cell m.heap.account (length words) ≡ o
      → Some reference ≡ reference_taken o → units_of_all (drop taken f.stack) < f.room
      → after.frames ≡ with_running m.frames (replaced next f taken (Ref (Some reference) ∷ [])).frame
      → after.heap ≡ shaded (created m.heap kind words o) (Some reference)
      → after.slots ≡ m.slots → after.states.items ≡ m.states.items → after.output.items ≡ m.output.items
      → (shown program scene after Live, GotObject) ≡ turned program x m.thread (Creates next taken contents)
  new_reported after reference None came is room frames heap slots states output = cc
  new_reported after reference (Some cell) came is room frames heap slots states output =
      let at : reference ≡ suc cell.0 = cc in
      let fits : 1 + units_of_all (drop taken f.stack) ≤ f.room = omega (arith, room) in
      rw (
        frames,
        heap,
        slots,
        states,
        output,
        at,
        sym (thread_set scene m.thread here (LiveThread m.frames)
            (LiveThread (with_running m.frames (pushed cell.0)))),
      )
      (sym (comes_to (Some cell) came
      ∙ ap (reported_as (Some cell)) (in_cell cell.0 cell.1 true (le-leb (1 + units_of_all (drop taken f.stack)) f.room
      fits))))

  -- a cell is free and the stack is full
  pub blocked_reported : (nat_le f.room (units_of_all (drop taken f.stack)) && has_room m.heap.account (length words))
      ≡ true
      → (faulted_on x m.thread StackFull, FaultOutcome) ≡ turned program x m.thread (Creates next taken contents)
  blocked_reported blocked = by (take_cell m.heap.account (length words)) refl
    where
      full : f.room ≤ units_of_all (drop taken f.stack)
      full = leb-true f.room (units_of_all (drop taken f.stack))
          (and-left (nat_le f.room (units_of_all (drop taken f.stack))) (has_room m.heap.account (length words))
          blocked)

      by : (o : Option (ℕ × Account)) → take_cell m.heap.account (length words) ≡ o
          → (faulted_on x m.thread StackFull, FaultOutcome) ≡ turned program x m.thread (Creates next taken contents)
      by None is =
          let free : has_room m.heap.account (length words) ≡ true =
          and-right (nat_le f.room (units_of_all (drop taken f.stack))) (has_room m.heap.account (length words)) blocked
          in
          let none : has_room m.heap.account (length words) ≡ false = ap is_some is in cc
      by (Some cell) is =
          let over : f.room < 1 + units_of_all (drop taken f.stack) = omega (arith, full) in
          sym (comes_to (Some cell) is
          ∙ ap (reported_as (Some cell))
          (in_cell cell.0 cell.1 false (lt-leb (1 + units_of_all (drop taken f.stack)) f.room over)))

-- where none is, there is room on the stack or no free cell
pub unblocked : (room units : ℕ) (free : Bool) → free ≡ true → (nat_le room units && free) ≡ false → units < room
unblocked room units true is e = leb-false room units (both (nat_le room units) e)
  where
    both : (b : Bool) → (b && true) ≡ false → b ≡ false
    both true e = e
    both false e = e
unblocked room units false is e = cc

pub free_taken : (o : Option (ℕ × Account)) (reference : ℕ) → Some reference ≡ reference_taken o → is_some o ≡ true
free_taken None reference is = cc
free_taken (Some taken) reference is = refl
