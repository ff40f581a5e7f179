use Rattle.std.proofs.Common.{◌≡◌, inl, inr, ℕ, suc, List, [], ◌∷◌, map, slice_get, Option, Some, None, refl, ◌∙◌, ap}
use Rattle.std.specs.Option.{option_map}
use Rattle.model.specs.declared.colours.Colour.{Colour}
use Rattle.model.specs.declared.colours.Colour.TheVariants.{Grey}
use Rattle.model.specs.declared.values.Value.{Value}
use Rattle.model.specs.declared.values.Value.TheVariants.{Int, Long, Ref}
use Rattle.model.specs.declared.values.Entry.{Entry}
use Rattle.model.specs.declared.values.Entry.TheVariants.{Unset, Holds as HoldsValue, UpperHalf}
use Rattle.model.specs.declared.journals.HeapShape.{HeapShape}
use Rattle.model.specs.Accounts.{Account}
use Rattle.model.specs.declared.colours.Cell.{Cell}
use Rattle.model.specs.declared.colours.Cell.TheVariants.{Taken}
use Rattle.model.specs.Frames.{Frame}
use Rattle.model.specs.Worlds.{World, Thread, FieldValue, Contents, Object, next_birth}
use Rattle.model.specs.Worlds.Thread.{Live, Ended}
use Rattle.model.specs.Worlds.Contents.{Instance, Array}
use Rattle.model.specs.Objects.{object_at}
use Rattle.model.specs.declared.journals.Limits.{Limits}
use Rattle.model.specs.ClassListings.{ClassListing}
use Rattle.model.specs.Observers.{reached_object, status_in}
use Rattle.model.specs.Ready.{is_ready, thread_numbers}
use Rattle.model.specs.Turns.{overflows, refusal}
use Rattle.model.specs.Collector.Runs.{Holds}
use Rattle.model.specs.Machines.{Machine}
use Rattle.model.specs.Collector.Places.{Reach, root_at, slots_of, contents_refs}
use Rattle.model.specs.Collector.Places.Place.{Slot}
use Rattle.model.specs.Collector.Places.Reach.{at_root}
use Rattle.model.specs.Collector.Table.{cell_at}
use Rattle.model.specs.Collector.Invariant.{Invariant, In}
use Rattle.model.proofs.CollectorLemmas.Reaching.{is_reached-Reach}
use Rattle.model.proofs.CollectorLemmas.Moving.{AllMay}
use Rattle.model.proofs.CollectorLemmas.Known.{ref_may, locals_known, stack_known, monitor_known, word_known}
use Rattle.join.specs.Naming.{Naming, named_ref, named_value, named_entry, named_frame, named_thread, Named}
use Rattle.join.specs.Naming.{named_field, named_contents, named_object}
use Rattle.join.specs.OnCells.{on_cells, InCell, held_object}
use Rattle.join.specs.Joined.{Bounded, Joined, Joint, named_account}
use Rattle.join.specs.ReadBack.{birth_read, object_on, ReadsBack}
use Rattle.join.specs.TurnsOnCells.{CellMachine}
use Rattle.join.proofs.Agreeing.{threads_agree, fields_agree, contents_agree}
use Rattle.join.proofs.Reached.{reached_in_cell, in_cell_at}
use Rattle.join.proofs.Lists.{map-after, map-same}
use Rattle.join.proofs.Cells.{mapped_at}
use Rattle.join.proofs.Refusals.{ready_on_cells, overflows_on_cells, numbers_on_cells, status_on_cells}
use Rattle.join.proofs.Refusals.{refusal_on_cells}
use Rattle.join.proofs.Outcomes.{rows_on_cells}
use Rattle.join.proofs.Joining.{reached_joined}
use Rattle.join.proofs.Paths.{reached_alike}
use Rattle.join.proofs.ObjectsRead.{shown_in_cell}

-- what is read of the machine on cells is the ideal machine: a birth's reference leads back to the birth

birth_back : (h : Naming) (cells : List Cell) (w : World) (b : ℕ) → InCell h cells w b → birth_read cells (h b) ≡ b
birth_back h cells w b s = rw (s.named, s.held) refl

-- ---- one naming after another, and the naming by itself

module _ (h g : Naming) where
  abbrev both : ℕ → ℕ
  both b = g (h b)

  ref_after : (r : Option ℕ) → named_ref g (named_ref h r) ≡ named_ref both r
  ref_after None = refl
  ref_after (Some b) = refl

  value_after : (v : Value) → named_value g (named_value h v) ≡ named_value both v
  value_after (Int z) = refl
  value_after (Long z) = refl
  value_after (Ref r) = ap Ref (ref_after r)

  entry_after : (e : Entry) → named_entry g (named_entry h e) ≡ named_entry both e
  entry_after Unset = refl
  entry_after (HoldsValue v) = ap HoldsValue (value_after v)
  entry_after UpperHalf = refl

  frame_after : (f : Frame) → named_frame g (named_frame h f) ≡ named_frame both f
  frame_after f = rw (
    map-after (named_entry h) (named_entry g) (named_entry both) entry_after f.locals,
    map-after (named_value h) (named_value g) (named_value both) value_after f.stack,
    ref_after f.monitor,
  ) refl

  thread_after : (t : Thread) → named_thread g (named_thread h t) ≡ named_thread both t
  thread_after (Live frames) = ap Live (map-after (named_frame h) (named_frame g) (named_frame both) frame_after frames)
  thread_after (Ended by) = refl

  field_after : (f : FieldValue) → named_field g (named_field h f) ≡ named_field both f
  field_after f = ap (λ (v : Value). let y : FieldValue = record f { value = v } in y) (value_after f.value)

  contents_after : (c : Contents) → named_contents g (named_contents h c) ≡ named_contents both c
  contents_after (Instance class fields) = ap (Instance class) (map-after (named_field h) (named_field g)
      (named_field both) field_after fields)
  contents_after (Array element values) = ap (Array element) (map-after (named_value h) (named_value g)
      (named_value both) value_after values)

ref_same : (r : Option ℕ) → named_ref (λ b. b) r ≡ r
ref_same None = refl
ref_same (Some b) = refl

value_same : (v : Value) → named_value (λ b. b) v ≡ v
value_same (Int z) = refl
value_same (Long z) = refl
value_same (Ref r) = ap Ref (ref_same r)

entry_same : (e : Entry) → named_entry (λ b. b) e ≡ e
entry_same Unset = refl
entry_same (HoldsValue v) = ap HoldsValue (value_same v)
entry_same UpperHalf = refl

frame_same : (f : Frame) → named_frame (λ b. b) f ≡ f
frame_same f = rw (
  map-same (named_entry (λ b. b)) entry_same f.locals,
  map-same (named_value (λ b. b)) value_same f.stack,
  ref_same f.monitor,
) refl

pub thread_same : (t : Thread) → named_thread (λ b. b) t ≡ t
thread_same (Live frames) = ap Live (map-same (named_frame (λ b. b)) frame_same frames)
thread_same (Ended by) = refl

pub field_same : (f : FieldValue) → named_field (λ b. b) f ≡ f
field_same f = ap (λ (v : Value). let y : FieldValue = record f { value = v } in y) (value_same f.value)

contents_same : (c : Contents) → named_contents (λ b. b) c ≡ c
contents_same (Instance class fields) = ap (Instance class) (map-same (named_field (λ b. b)) field_same fields)
contents_same (Array element values) = ap (Array element) (map-same (named_value (λ b. b)) value_same values)

-- ---- the parts, read

module _ (h : Naming) (shape : HeapShape) (w : World) (a : Account) (named : Named h a.cells)
    (i : Invariant shape w (next_birth w) a) where
  abbrev read : Naming
  read = birth_read a.cells

  abbrev back : Naming
  back b = read (h b)

  back_same : (b : ℕ) → Reach w b → back b ≡ b
  back_same b r = birth_back h a.cells w b (reached_in_cell h shape w a named i b r)

  threads_read : map (named_thread read) (on_cells h a.cells w).threads ≡ w.threads
  threads_read =
      map-after (named_thread h) (named_thread read) (named_thread back) (thread_after h read) w.threads
      ∙ threads_agree back (λ b. b) (Reach w) back_same w.threads (λ t d f e. record {
        locals = locals_known w t d f e;
        stack = stack_known w t d f e;
        monitor = λ b k. monitor_known w t d b f e k;
      })
      ∙ map-same (named_thread (λ b. b)) thread_same w.threads

  slots_known : AllMay (Reach w) (slots_of w)
  unfolding root_at
  slots_known = ref_may (Reach w) (slots_of w) (λ s b e. at_root (Slot s) e)

  slots_read : map (named_field read) (on_cells h a.cells w).statics.fields ≡ w.statics.fields
  slots_read =
      map-after (named_field h) (named_field read) (named_field back) (field_after h read) w.statics.fields
      ∙ fields_agree back (λ b. b) (Reach w) back_same w.statics.fields slots_known
      ∙ map-same (named_field (λ b. b)) field_same w.statics.fields

  contents_read : (b : ℕ) (o : Object) → Reach w b → slice_get w.objects b ≡ Some o
      → named_contents read (named_contents h o.contents) ≡ o.contents
  contents_read b o r made =
      contents_after h read o.contents
      ∙ contents_agree back (λ b. b) (Reach w) back_same o.contents (ref_may (Reach w) (contents_refs o.contents)
      (λ k b' e. word_known w b k b' o r made e))
      ∙ contents_same o.contents

  grey_read : (bs : List ℕ) → ((b : ℕ) → In b bs → InCell h a.cells w b) → map read (map h bs) ≡ bs
  grey_read [] k = refl
  grey_read (b ∷ bs) k = rw (birth_back h a.cells w b (k b (inl refl)), grey_read bs (λ d l. k d (inr l))) refl

  account_read : named_account read (named_account h a) ≡ a
  account_read =
      ap (λ (bs : List ℕ). let x : Account = record a { grey = bs } in x)
      (grey_read a.grey (λ b l. (let g = i.tidy.only_grey b l in in_cell_at h shape w a named i g.0 b Grey g.1)))

  -- whatever cell holds the birth
  object_read : (c b : ℕ) (x : Colour) → cell_at a.cells c ≡ Taken b x → Reach w b
      → option_map (named_object read) (object_at (on_cells h a.cells w) (suc c)) ≡ object_at w b
  object_read c b x held r =
      let s = in_cell_at h shape w a named i c b x held in
      rw (mapped_at (held_object h w.objects) a.cells c b x held, s.made)
      (ap (λ (k : Contents). let y : Object = record s.object { contents = k } in Some y)
      (contents_read b s.object r s.made))

-- ---- the object of a birth

shown_read : (h : Naming) (shape : HeapShape) (on : CellMachine) (m : Machine) → Joined h on m
    → Invariant shape m.world (next_birth m.world) m.account → (b : ℕ) → object_on on b ≡ reached_object m.world b
shown_read h shape on m j i b =
    let cells = ap (λ (x : Account). x.cells) j.account in
    shown_in_cell on m.world b
    (λ c y held. rw j.world (reached_alike h shape m.world m.account j.named i j.memory_error j.stack_error c b y
    (rw (← cells) held)))
    (λ c y held e. rw (cells, j.world) (object_read h shape m.world m.account j.named i c b y (rw (← cells) held)
    (is_reached-Reach m.world b e)))
    (λ e. (let s = reached_in_cell h shape m.world m.account j.named i b (is_reached-Reach m.world b e)
    in (s.cell, (s.colour, rw cells s.held))))

-- ---- the whole

pub reads_back : (program : List ClassListing) (shape : HeapShape) (limits : Limits) (on : CellMachine) (m : Machine)
    → Holds shape m → Bounded m.world → Joint on m → ReadsBack program limits on m
unfolding Holds
reads_back program shape limits on m i bound joint =
    let h = joint.naming in
    let j = joint.joined in
    let w = m.world in
    let a = m.account in
    let u = reached_joined program shape limits on m i bound joint in
    let cells = ap (λ (x : Account). x.cells) j.account in
    let known = rows_on_cells program shape limits on m i bound joint in
    record {
      threads = rw (cells, j.world) (threads_read h shape w a j.named i);
      slots = rw (cells, j.world) (slots_read h shape w a j.named i);
      states = ap (λ (x : World). x.statics.states) j.world;
      output = ap (λ (x : World). x.output) j.world;
      fault = ap (λ (x : World). x.fault) j.world;
      rows = ap (λ (x : World). x.rows) j.world;
      births = j.births;
      account = rw j.account (account_read h shape w a j.named i);
      reached = λ b r. (let s = reached_in_cell h shape w a j.named i b r in record {
        cell = s.cell;
        colour = s.colour;
        held = rw cells s.held;
      });
      objects = λ b r s. (let held = s.held
          in rw (cells, j.world) (object_read h shape w a j.named i s.cell b s.colour
          (rw (← cells) held) r));
      shown = shown_read h shape on m j i;
      status = ap (status_in program) j.world ∙ status_on_cells h a.cells program limits w u;
      threads_numbered = ap thread_numbers j.world ∙ numbers_on_cells h a.cells program limits w u;
      ready = λ t. ap (λ x. is_ready program x t) j.world ∙ ready_on_cells h a.cells program limits w u t;
      overflowing = λ t. ap (λ x. overflows program limits x t) j.world ∙ overflows_on_cells h a.cells program limits w
          u t;
      refusals = λ actor. ap (λ x. refusal program limits x actor) j.world ∙ refusal_on_cells h a.cells program limits w
          u actor;
      row = known;
    }
