-- how the frames read after a write in the region of the last one
use Rattle.std.proofs.Common.{All, ◌≡◌, ℕ, ◌+◌, ◌-◌, ◌<◌, ◌≤◌, List, [], ◌∷◌, ◌++◌, length, map, slice_set, take, drop}
use Rattle.std.proofs.Common.{nat_lt, nat_le, ◌&&◌, zero-add, replicate, Ok, Some, None, slice_get, Bool, true, refl}
use Rattle.std.proofs.Common.{ap, sym, ◌∙◌, subst, arith, get_or}
use Rattle.std.proofs.lemmas.List.{take-take, take_more, take_all, map_push, length-map, length-set, get_or-map}
use Rattle.std.proofs.lemmas.List.{length-append, take-map, length-take-le, length-drop, length-replicate}
use Rattle.std.proofs.lemmas.List.{take-append-le, append_assoc, take_at, drop_at, take-set-le, get_or_default}
use Rattle.std.proofs.lemmas.List.{get_or-take, get_or-drop, set-get_or, drop-set-add}
use Rattle.std.proofs.lemmas.List.Elements.{All-cons, All-nil}
use Rattle.std.proofs.lemmas.Option.{slice_get_read, slice_get_past}
use Rattle.std.proofs.Math.Seq.{take-set-lt}
use Rattle.std.proofs.lemmas.Bool.{lt-ltb, and_parts, ltb-true, leb-true}
use Rattle.model.specs.declared.values.Entry.{Entry}
use Rattle.model.specs.declared.values.Entry.TheVariants.{Unset}
use Rattle.model.specs.declared.values.Value.{Value}
use Rattle.model.specs.Values.{units_of, units_of_all}
use Rattle.model.specs.Frames.{Frame, running_frame, callers, top_of, with_running, no_frame, units_of_frames}
use Rattle.model.specs.Frames.{has_room_for}
use Rattle.frames.specs.declared.activations.Activation.{Activation}
use Rattle.values.specs.Slots.{value_in}
use Rattle.frames.specs.Activations.{Fits, last_of, with_last, no_activation}
use Rattle.frames.specs.Layout.{stack_of, frame_of, Stands, AreLaidOut, IsSound}
use Rattle.frames.proofs.ListLemmas.{set_last}
use Rattle.frames.proofs.StackLemmas.{stack_of-agree, locals-agree, length-stack_of, length_le_units}
use Rattle.frames.proofs.StackLemmas.{units_of_all-take-drop, units_of-pos, drop-stack_of, stack_of-push}
use Rattle.frames.proofs.StackLemmas.{stack_of-set_below, top_of-drop-stack_of}

-- a list of activations and its last one
pub split_last : (acts : List Activation) (a : Activation) → 0 < length acts → a ≡ get_or acts (length acts - 1) a
    → acts ≡ take (length acts - 1) acts ++ a ∷ []
split_last acts a some is =
    let whole : take (length acts - 1 + 1) acts ≡ take (length acts - 1) acts ++ get_or acts (length acts - 1) a
    ∷ [] = take_more acts (length acts - 1) a (omega arith) in
    let all : take (length acts - 1 + 1) acts ≡ acts = take_all (length acts - 1 + 1) acts (omega arith) in
    cc

-- what the last of so many activations is known to do
pub record StandsLast (units : List Entry) (base end : ℕ) (acts : List Activation) (a : Activation) : Type 0 where
  pub below : AreLaidOut units base acts a.base
  pub stands : Stands units a.base a
  pub ends : a.base + a.locals + a.room ≡ end

pub laid_split : (units : List Entry) (base end : ℕ) (acts : List Activation) (a : Activation)
    → AreLaidOut units base (acts ++ a ∷ []) end → StandsLast units base end acts a
laid_split units base end [] a h = record {
  below = sym h.0.begins;
  stands = record { begins = refl; taken_is = h.0.taken_is; fits = h.0.fits };
  ends = let e = h.0.begins in let f = h.1 in omega arith;
}
laid_split units base end (x ∷ xs) a h =
    let rest = laid_split units (base + x.locals + x.room) end xs a h.1 in
    record { below = (h.0, rest.below); stands = rest.stands; ends = rest.ends }

pub laid_join : (units : List Entry) (base middle end : ℕ) (acts : List Activation) (a : Activation)
    → AreLaidOut units base acts middle → Stands units middle a → middle + a.locals + a.room ≡ end
    → AreLaidOut units base (acts ++ a ∷ []) end
laid_join units base middle end [] a h stands ends = (
  record {
    begins = stands.begins ∙ sym h;
    taken_is = stands.taken_is;
    fits = stands.fits;
  },
  omega arith,
)
laid_join units base middle end (x ∷ xs) a h stands ends = (
  h.0,
  laid_join units (base + x.locals + x.room) middle end xs a h.1 stands ends,
)

-- activations end no earlier than they begin
pub laid_le : (units : List Entry) (base end : ℕ) (acts : List Activation) → AreLaidOut units base acts end → base ≤ end
laid_le units base end [] h = omega arith
laid_le units base end (x ∷ xs) h = let rest = laid_le units (base + x.locals + x.room) end xs h.1 in omega arith

-- the units of a stack that stands within its room
pub values_fit : (units : List Entry) (base : ℕ) (a : Activation) → Stands units base a → a.values ≤ a.room
values_fit units base a stands =
    let few = length_le_units (stack_of units (a.base + a.locals) a.values) in
    let count = length-stack_of units (a.base + a.locals) a.values in
    let taken = stands.taken_is in
    let fits = stands.fits in
    omega arith

-- an activation with another stack that stands within its room fits
pub fits_with : (units : List Entry) (a : Activation) (pc values taken : ℕ)
    → Stands units a.base (record a { values = values; taken = taken }) → a.base + a.locals + a.room ≤ 4096
    → Fits (record a { pc = pc; values = values; taken = taken })
fits_with units a pc values taken stands inside =
    let few = values_fit units a.base (record a { values = values; taken = taken }) stands in
    let fits = stands.fits in
    record { inside = omega arith; within = fits; few = omega arith }

-- all activations fit
pub all_fit : (units : List Entry) (base end : ℕ) (acts : List Activation) → AreLaidOut units base acts end → end ≤ 4096
    → All Fits acts
all_fit units base end [] h le = All-nil Fits
all_fit units base end (x ∷ xs) h le =
    let up = laid_le units (base + x.locals + x.room) end xs h.1 in
    let begins = h.0.begins in
    let stands : Stands units x.base x = record { begins = refl; taken_is = h.0.taken_is; fits = h.0.fits } in
    All-cons Fits x xs (fits_with units x x.pc x.values x.taken stands (omega arith))
    (all_fit units (base + x.locals + x.room) end xs h.1 le)

-- units that agree below one place agree below each lower one
pub take-agree : (units units' : List Entry) (m k : ℕ) → take m units ≡ take m units' → k ≤ m → take k units
    ≡ take k units'
take-agree units units' m k same h = sym (take-take k m units h) ∙ (ap (λ (us : List Entry). take k us) same
    ∙ take-take k m units' h)

-- frames below a unit depend on the units below it alone
pub frame_of-agree : (units units' : List Entry) (m base : ℕ) (a : Activation) → take m units ≡ take m units'
    → Stands units base a → base + a.locals + a.room ≤ m → frame_of units a ≡ frame_of units' a
frame_of-agree units units' m base a same stands h =
    let few = values_fit units base a stands in
    let begins = stands.begins in
    let stacks : stack_of units (a.base + a.locals) a.values
    ≡ stack_of units' (a.base + a.locals) a.values = stack_of-agree units units' m (a.base + a.locals) a.values
    same (omega arith) in
    let locals : take a.locals (drop a.base units) ≡ take a.locals (drop a.base units') = locals-agree units units' m
    a.base a.locals same (omega arith) in
    cc

pub frames-agree : (units units' : List Entry) (m base end : ℕ) (acts : List Activation) → take m units ≡ take m units'
    → AreLaidOut units base acts end → end ≤ m → map (frame_of units) acts ≡ map (frame_of units') acts
frames-agree units units' m base end [] same h le = refl
frames-agree units units' m base end (x ∷ xs) same h le =
    let up = laid_le units (base + x.locals + x.room) end xs h.1 in
    let first : frame_of units x ≡ frame_of units' x = frame_of-agree units units' m base x same h.0 (omega arith) in
    let rest : map (frame_of units) xs ≡ map (frame_of units') xs = frames-agree units units' m
    (base + x.locals + x.room) end xs same h.1 le in
    cc

pub stands-agree : (units units' : List Entry) (m base : ℕ) (a : Activation) → take m units ≡ take m units'
    → Stands units base a → base + a.locals + a.room ≤ m → Stands units' base a
stands-agree units units' m base a same stands h =
    let few = values_fit units base a stands in
    let begins = stands.begins in
    let stacks : stack_of units (a.base + a.locals) a.values
    ≡ stack_of units' (a.base + a.locals) a.values = stack_of-agree units units' m (a.base + a.locals) a.values
    same (omega arith) in
    record { begins = stands.begins; taken_is = stands.taken_is ∙ ap units_of_all stacks; fits = stands.fits }

pub laid-agree : (units units' : List Entry) (m base end : ℕ) (acts : List Activation) → take m units ≡ take m units'
    → AreLaidOut units base acts end → end ≤ m → AreLaidOut units' base acts end
laid-agree units units' m base end [] same h le = h
laid-agree units units' m base end (x ∷ xs) same h le =
    let up = laid_le units (base + x.locals + x.room) end xs h.1 in (
      stands-agree units units' m base x same h.0 (omega arith),
      laid-agree units units' m (base + x.locals + x.room) end
          xs same h.1 le,
    )

-- the units that frames take are those between their ends
pub units_of_frames-laid : (units : List Entry) (base end : ℕ) (acts : List Activation) → AreLaidOut units base acts end
    → end ≤ length units → base + units_of_frames (map (frame_of units) acts) ≡ end
units_of_frames-laid units base end [] h fits = omega arith
units_of_frames-laid units base end (x ∷ xs) h fits =
    let rest = units_of_frames-laid units (base + x.locals + x.room) end xs h.1 fits in
    let up = laid_le units (base + x.locals + x.room) end xs h.1 in
    let begins = h.0.begins in
    let locals : length (take x.locals (drop x.base units)) ≡ x.locals = length-take-le x.locals (drop x.base units)
    (omega (arith, length-drop x.base units)) in
    omega arith

-- ---- a frame is entered or left

pub sound_push : (units units' : List Entry) (acts : List Activation) (used end : ℕ) (a : Activation)
    → IsSound units acts used → length units' ≤ 4096 → take used units ≡ take used units' → Stands units' used a
    → used + a.locals + a.room ≡ end → end ≤ length units' → length acts < 256 → IsSound units' (acts ++ a ∷ []) end
sound_push units units' acts used end a sound long same stands ends fits few =
    record {
      units_are = long;
      count_is = omega (arith, length-append acts (a ∷ []));
      used_is = fits;
      laid_out = laid_join units' 0 used end acts a (laid-agree units units' used 0 used acts same sound.laid_out
          (omega arith)) stands ends;
    }

pub view_push : (units units' : List Entry) (acts : List Activation) (used : ℕ) (a : Activation) (frames : List Frame)
    → IsSound units acts used → map (frame_of units) acts ≡ frames → take used units ≡ take used units'
    → map (frame_of units') (acts ++ a ∷ []) ≡ frames ++ frame_of units' a ∷ []
view_push units units' acts used a frames sound view same =
    let below : map (frame_of units) acts ≡ map (frame_of units') acts = frames-agree units units' used 0 used acts same
    sound.laid_out (omega arith) in
    map_push (frame_of units') acts a ∙ ap (λ (fs : List Frame). fs ++ frame_of units' a ∷ []) (sym below ∙ view)

pub sound_pop : (units : List Entry) (acts rest : List Activation) (used : ℕ) (a : Activation) → IsSound units acts used
    → acts ≡ rest ++ a ∷ [] → IsSound units rest a.base
sound_pop units acts rest used a sound split =
    let last = laid_split units 0 used rest a (let P : List Activation → Type 0 = λ l. AreLaidOut units 0 l used
    in subst P split sound.laid_out) in
    let ends = last.ends in
    let count = sound.count_is in
    let used_is = sound.used_is in
    record {
      units_are = sound.units_are;
      count_is = omega (arith, ap length split, length-append rest (a ∷ []));
      used_is = omega arith;
      laid_out = last.below;
    }

-- ---- the parts as a whole, while a frame runs: `a` is the last activation

-- what a method finds: activations that show so many frames, of which one runs
pub record Opened (units : List Entry) (acts : List Activation) (used : ℕ) (frames : List Frame) (a : Activation) : Type
    0 where
  pub sound : IsSound units acts used
  pub some : 0 < length acts
  pub view : map (frame_of units) acts ≡ frames
  pub last : a ≡ get_or acts (length acts - 1) a

pub some_act : (units : List Entry) (acts : List Activation) (frames : List Frame) → map (frame_of units) acts ≡ frames
    → 0 < length frames → 0 < length acts
some_act units acts frames view some =
    let e : length (map (frame_of units) acts) ≡ length acts = length-map acts (frame_of units) in
    let f : length (map (frame_of units) acts) ≡ length frames = ap length view in
    omega arith

pub opened : (units : List Entry) (acts : List Activation) (used : ℕ) (frames : List Frame) (a : Activation)
    → IsSound units acts used → map (frame_of units) acts ≡ frames → 0 < length frames → a ≡ last_of acts
    → Opened units acts used frames a
opened units acts used frames a sound view some last =
    let is : 0 < length acts = some_act units acts frames view some in
    record {
      sound = sound;
      some = is;
      view = view;
      last = last ∙ get_or_default acts (length acts - 1) no_activation a (omega arith);
    }

module _ {units : List Entry} {acts : List Activation} {used : ℕ} {frames : List Frame} {a : Activation}
    (o : Opened units acts used frames a) where
  pub running_is : running_frame frames ≡ frame_of units a
  running_is = ap running_frame (sym o.view)
      ∙ rw length-map (get_or-map (frame_of units) acts (length acts - 1) a no_frame
      (let some = o.some in omega arith) ∙ ap (frame_of units) (sym o.last))

  pub stands_last : StandsLast units 0 used (take (length acts - 1) acts) a
  stands_last =
      laid_split units 0 used (take (length acts - 1) acts) a
      (let P : List Activation → Type 0 = λ l. AreLaidOut units 0 l used
      in subst P (split_last acts a o.some o.last) o.sound.laid_out)

  -- the last activation and units from its base on are written
  pub sound_put : (units' : List Entry) (a' : Activation) → length units' ≡ length units → take a.base units
      ≡ take a.base units' → Stands units' a.base a' → a'.locals + a'.room ≡ a.locals + a.room
      → IsSound units' (with_last acts a') used
  sound_put units' a' long same stands kept =
      let last = stands_last in
      let ends = last.ends in
      let below = laid-agree units units' a.base 0 a.base (take (length acts - 1) acts) same last.below (omega arith) in
      let laid = laid_join units' 0 a.base used (take (length acts - 1) acts) a' below stands (omega arith) in
      record {
        units_are = subst (λ n. n ≤ 4096) (sym long) o.sound.units_are;
        count_is = rw length-set o.sound.count_is;
        used_is = subst (λ n. used ≤ n) (sym long) o.sound.used_is;
        laid_out = let P : List Activation → Type 0 = λ l. AreLaidOut units' 0 l used
            in subst P (sym (set_last acts a' o.some)) laid;
      }

  pub view_put : (units' : List Entry) (a' : Activation) → take a.base units ≡ take a.base units'
      → map (frame_of units') (with_last acts a') ≡ with_running frames (frame_of units' a')
  view_put units' a' same =
      let last = stands_last in
      let below : map (frame_of units) (take (length acts - 1) acts)
      ≡ map (frame_of units') (take (length acts - 1) acts) = frames-agree units units' a.base 0 a.base
      (take (length acts - 1) acts) same last.below (omega arith) in
      let count : length (map (frame_of units) acts) ≡ length acts = length-map acts (frame_of units) in
      let some = o.some in
      let written : slice_set (map (frame_of units) acts) (length (map (frame_of units) acts) - 1) (frame_of units' a')
      ≡ take (length (map (frame_of units) acts) - 1) (map (frame_of units) acts) ++ frame_of units' a'
      ∷ [] = set_last (map (frame_of units) acts) (frame_of units' a') (omega arith) in
      let callers : take (length (map (frame_of units) acts) - 1) (map (frame_of units) acts)
      ≡ map (frame_of units) (take (length acts - 1) acts) = ap
      (λ (k : ℕ). take (k - 1) (map (frame_of units) acts)) count ∙ take-map (frame_of units) (length acts - 1)
      acts in
      let put : map (frame_of units') (slice_set acts (length acts - 1) a')
      ≡ with_running (map (frame_of units) acts) (frame_of units' a') = ap (map (frame_of units'))
      (set_last acts a' o.some) ∙ (map_push (frame_of units') (take (length acts - 1) acts) a'
      ∙ (ap (λ (fs : List Frame). fs ++ frame_of units' a' ∷ []) (sym below ∙ sym callers) ∙ sym written)) in
      put ∙ ap (λ (fs : List Frame). with_running fs (frame_of units' a')) o.view

  -- the last activation goes
  pub sound_leave : IsSound units (take (length acts - 1) acts) a.base
  sound_leave = sound_pop units acts (take (length acts - 1) acts) used a o.sound (split_last acts a o.some o.last)

  pub view_leave : map (frame_of units) (take (length acts - 1) acts) ≡ callers frames
  view_leave =
      let count : length (map (frame_of units) acts) ≡ length acts = length-map acts (frame_of units) in
      sym (ap callers (sym o.view) ∙ (ap (λ (k : ℕ). take (k - 1) (map (frame_of units) acts)) count
      ∙ take-map (frame_of units) (length acts - 1) acts))

  -- the running frame's region lies within the units, and its stack within its room
  pub region_fits : (a.base + a.locals + a.room ≤ length units) × (a.values ≤ a.room) × (a.taken ≤ a.room)
      × (length units ≤ 4096)
  region_fits =
      let last = stands_last in
      let ends = last.ends in
      let used_is = o.sound.used_is in
      (omega arith, values_fit units a.base a last.stands, last.stands.fits, o.sound.units_are)

  pub fits_in_units : a.base + a.locals + a.room ≤ 4096
  fits_in_units = let fits = region_fits in omega (arith, fits)

  pub stack_is : (running_frame frames).stack ≡ stack_of units (a.base + a.locals) a.values
  stack_is = ap (λ (f : Frame). f.stack) running_is

  -- the value below so many others
  pub holds : (above : ℕ) → above < length (running_frame frames).stack → above < a.values
  holds above there = omega (arith, ap length stack_is, length-stack_of units (a.base + a.locals) a.values)

  pub top_of-held : (above : ℕ) (e : Entry) → above < length (running_frame frames).stack
      → e ≡ get_or units (a.base + a.locals + (a.values - above - 1)) Unset
      → top_of (drop above (running_frame frames).stack) ≡ Ok (value_in e)
  top_of-held above e there read =
      let found = top_of-drop-stack_of units (a.base + a.locals) a.values above e (holds above there) read in
      rw stack_is (sym found)

  -- so many values, which take so many units, leave the stack
  pub drops : (count taken : ℕ) → count ≤ length (running_frame frames).stack
      → taken ≡ units_of_all (take count (running_frame frames).stack) → (count ≤ a.values) × (taken ≤ a.taken)
      × (taken + units_of_all (drop count (running_frame frames).stack) ≤ (running_frame frames).room)
      × Stands units a.base (record a { values = a.values - count; taken = a.taken - taken })
  drops count taken there sized =
      let stack = stack_of units (a.base + a.locals) a.values in
      let last = stands_last in
      let total = last.stands.taken_is in
      let fits = last.stands.fits in
      let deep : count ≤ a.values = omega (
        arith,
        ap length stack_is,
        length-stack_of units (a.base + a.locals) a.values,
      ) in
      let parts = units_of_all-take-drop stack count in
      let gone : taken ≡ units_of_all (take count stack) = sized
      ∙ ap (λ (vs : List Value). units_of_all (take count vs)) stack_is in
      let left : units_of_all (drop count stack)
      ≡ units_of_all (stack_of units (a.base + a.locals) (a.values - count)) = ap units_of_all
      (drop-stack_of units (a.base + a.locals) a.values count deep) in
      let stack_units = ap (λ (vs : List Value). units_of_all (drop count vs)) stack_is in
      let room_is : (running_frame frames).room ≡ a.room = ap (λ (f : Frame). f.room) running_is in
      (deep, omega arith, omega arith, record { begins = refl; taken_is = omega arith; fits = omega arith })

  pub view_drop : (next count taken : ℕ) → count ≤ a.values
      → map (frame_of units) (with_last acts (record a {
        pc = next;
        values = a.values - count;
        taken = a.taken - taken;
      }))
      ≡ with_running frames (record (running_frame frames) {
        pc = next;
        stack = drop count (running_frame frames).stack;
      })
  view_drop next count taken deep =
      let left : stack_of units (a.base + a.locals) (a.values - count)
      ≡ drop count (stack_of units (a.base + a.locals) a.values) = sym (drop-stack_of units (a.base + a.locals)
      a.values count deep) in
      rw (running_is, ← left) (view_put units (record a {
        pc = next;
        values = a.values - count;
        taken = a.taken - taken;
      }) refl)

  -- a value is written above the stack
  pub pushes : (e : Entry)
      → units_of (value_in e) + units_of_all (running_frame frames).stack ≤ (running_frame frames).room
      → (a.values < a.room) × (a.base + a.locals + a.values < length units) × (a.taken + units_of (value_in e) ≤ a.room)
      × Stands (slice_set units (a.base + a.locals + a.values) e) a.base (record a {
        values = a.values + 1;
        taken = a.taken + units_of (value_in e);
      })
  pushes e room =
      let last = stands_last in
      let total = last.stands.taken_is in
      let fits = region_fits in
      let room_is : (running_frame frames).room ≡ a.room = ap (λ (f : Frame). f.room) running_is in
      let units_are : units_of_all (running_frame frames).stack
      ≡ units_of_all (stack_of units (a.base + a.locals) a.values) = ap units_of_all stack_is in
      let some = units_of-pos (value_in e) in
      let few = length_le_units (stack_of units (a.base + a.locals) a.values) in
      let count = length-stack_of units (a.base + a.locals) a.values in
      let inside : a.base + a.locals + a.values < length units = omega arith in
      let pushed = stack_of-push units (a.base + a.locals) a.values e inside in (
        omega arith,
        inside,
        omega arith,
        record { begins = refl; taken_is = let e = ap units_of_all pushed in omega arith; fits = omega arith },
      )

  pub view_push_value : (e : Entry) → a.base + a.locals + a.values < length units
      → map (frame_of (slice_set units (a.base + a.locals + a.values) e))
      (with_last acts (record a { values = a.values + 1; taken = a.taken + units_of (value_in e) }))
      ≡ with_running frames (record (running_frame frames) { stack = value_in e ∷ (running_frame frames).stack })
  view_push_value e inside =
      let units' = slice_set units (a.base + a.locals + a.values) e in
      let same : take a.base units ≡ take a.base units' = sym (take-set-le a.base units (a.base + a.locals + a.values) e
      (omega arith)) in
      let below : take (a.base + a.locals) units' ≡ take (a.base + a.locals) units = take-set-le (a.base + a.locals)
      units (a.base + a.locals + a.values) e (omega arith) in
      let locals : take a.locals (drop a.base units') ≡ take a.locals (drop a.base units) = locals-agree units' units
      (a.base + a.locals) a.base a.locals below (omega arith) in
      let stack : stack_of units' (a.base + a.locals) (a.values + 1) ≡ value_in e ∷ stack_of units (a.base + a.locals)
      a.values = stack_of-push units (a.base + a.locals) a.values e inside in
      rw (
        running_is,
        ← stack,
        ← locals,
      ) (view_put units' (record a { values = a.values + 1; taken = a.taken + units_of (value_in e) }) same)

  -- the running frame's locals
  pub locals_is : (running_frame frames).locals ≡ take a.locals (drop a.base units)
  locals_is = ap (λ (f : Frame). f.locals) running_is

  pub length-locals : length (running_frame frames).locals ≡ a.locals
  length-locals =
      let fits = region_fits in
      ap length locals_is ∙ length-take-le a.locals (drop a.base units) (omega (arith, length-drop a.base units))

  pub entry_within : (i : ℕ) (e : Entry) → i < a.locals → e ≡ get_or units (a.base + i) Unset
      → Some e ≡ slice_get (running_frame frames).locals i
  entry_within i e within read =
      let place : get_or (running_frame frames).locals i Unset
      ≡ get_or units (a.base + i) Unset = ap (λ (es : List Entry). get_or es i Unset) locals_is
      ∙ (get_or-take a.locals (drop a.base units) i Unset within ∙ get_or-drop a.base units i Unset) in
      let default = get_or_default (running_frame frames).locals i Unset e (omega (arith, length-locals)) in
      sym (slice_get_read (running_frame frames).locals a.locals i e (sym length-locals) within (read
      ∙ (sym place ∙ default)))

  pub entry_past : (i : ℕ) → a.locals ≤ i → None ≡ slice_get (running_frame frames).locals i
  entry_past i past = sym (slice_get_past (running_frame frames).locals i (omega (arith, length-locals)))

  -- an entry of them is written
  acts_stay : with_last acts a ≡ acts
  acts_stay = ap (λ (x : Activation). with_last acts x) o.last ∙ set-get_or acts (length acts - 1) a

  stands_entry : (i : ℕ) (e : Entry) → i < a.locals → stack_of (slice_set units (a.base + i) e) (a.base + a.locals)
      a.values ≡ stack_of units (a.base + a.locals) a.values
  stands_entry i e within = stack_of-set_below units (a.base + a.locals) a.values (a.base + i) e (omega arith)

  pub sound_entry : (i : ℕ) (e : Entry) → i < a.locals → IsSound (slice_set units (a.base + i) e) acts used
  sound_entry i e within =
      let stands = stands_last.stands in
      let same : take a.base units ≡ take a.base (slice_set units (a.base + i) e) = sym
      (take-set-le a.base units (a.base + i) e (omega arith)) in
      let put = sound_put (slice_set units (a.base + i) e) a (length-set units (a.base + i) e) same
      (record {
        begins = refl;
        taken_is = stands.taken_is ∙ ap units_of_all (sym (stands_entry i e within));
        fits = stands.fits;
      }) refl in
      let P : List Activation → Type 0 = λ l. IsSound (slice_set units (a.base + i) e) l used in
      subst P acts_stay put

  pub view_entry : (i : ℕ) (e : Entry) → i < a.locals → map (frame_of (slice_set units (a.base + i) e)) acts
      ≡ with_running frames (record (running_frame frames) { locals = slice_set (running_frame frames).locals i e })
  view_entry i e within =
      let units' = slice_set units (a.base + i) e in
      let same : take a.base units ≡ take a.base units' = sym (take-set-le a.base units (a.base + i) e (omega arith)) in
      let stack = stands_entry i e within in
      let locals : take a.locals (drop a.base units') ≡ slice_set (take a.locals (drop a.base units)) i e = ap
      (λ (es : List Entry). take a.locals es) (drop-set-add a.base units i e)
      ∙ take-set-lt a.locals (drop a.base units) i e within in
      let put : map (frame_of units') acts ≡ with_running frames (frame_of units' a) = ap (map (frame_of units'))
      (sym acts_stay) ∙ view_put units' a same in
      rw (running_is, ← locals, ← stack) put

  -- the running frame calls a method: values leave its stack, and a frame is made after it
  pub sound_call : (units' : List Entry) (a' b : Activation) (count taken end : ℕ)
      → count ≤ length (running_frame frames).stack → taken ≡ units_of_all (take count (running_frame frames).stack)
      → a' ≡ record a { values = a.values - count; taken = a.taken - taken } → length units' ≡ length units
      → take used units ≡ take used units' → Stands units' used b → used + b.locals + b.room ≡ end → end ≤ length units
      → length acts < 256 → IsSound units' (with_last acts a' ++ b ∷ []) end
  sound_call units' a' b count taken end there sized is long same stands ends fits few =
      let last = stands_last in
      let below = last.ends in
      let d = drops count taken there sized in
      let narrow : take a.base units ≡ take a.base units' = take-agree units units' used a.base same (omega arith) in
      let caller : Stands units' a.base (record a { values = a.values - count; taken = a.taken - taken }) = stands-agree
      units units' used a.base (record a { values = a.values - count; taken = a.taken - taken }) same d.3
      (omega arith) in
      let put = sound_put units' (record a { values = a.values - count; taken = a.taken - taken }) long narrow caller
      refl in
      let count_is : length (with_last acts (record a { values = a.values - count; taken = a.taken - taken }))
      ≡ length acts = length-set acts (length acts - 1) (record a {
        values = a.values - count;
        taken = a.taken - taken;
      }) in
      rw is (sound_push units' units' (with_last acts (record a { values = a.values - count; taken = a.taken - taken }))
      used end b put put.units_are refl stands ends (subst (λ n. end ≤ n) (sym long) fits) (omega arith))

  pub view_call : (units' : List Entry) (a' b : Activation) (count taken : ℕ)
      → count ≤ length (running_frame frames).stack → taken ≡ units_of_all (take count (running_frame frames).stack)
      → a' ≡ record a { values = a.values - count; taken = a.taken - taken } → take used units ≡ take used units'
      → map (frame_of units') (with_last acts a' ++ b ∷ [])
      ≡ with_running frames (record (running_frame frames) { stack = drop count (running_frame frames).stack })
      ++ frame_of units' b ∷ []
  view_call units' a' b count taken there sized is same =
      let last = stands_last in
      let below = last.ends in
      let d = drops count taken there sized in
      let narrow : take a.base units ≡ take a.base units' = take-agree units units' used a.base same (omega arith) in
      let put = view_put units' (record a { values = a.values - count; taken = a.taken - taken }) narrow in
      let kept : frame_of units (record a { values = a.values - count; taken = a.taken - taken })
      ≡ frame_of units' (record a { values = a.values - count; taken = a.taken - taken }) = frame_of-agree units
      units' used a.base (record a { values = a.values - count; taken = a.taken - taken }) same d.3 (omega arith)
      in
      let left : stack_of units (a.base + a.locals) (a.values - count)
      ≡ drop count (stack_of units (a.base + a.locals) a.values) = sym (drop-stack_of units (a.base + a.locals)
      a.values count d.0) in
      let frame : frame_of units' (record a { values = a.values - count; taken = a.taken - taken })
      ≡ record (running_frame frames) { stack = drop count (running_frame frames).stack } = sym kept
      ∙ rw (running_is, ← left) in
      rw is (map_push (frame_of units')
      (with_last acts (record a { values = a.values - count; taken = a.taken - taken })) b
      ∙ ap (λ (fs : List Frame). fs ++ frame_of units' b ∷ []) (put ∙ ap (with_running frames) frame))

-- whether another frame fits, from the units in use
pub has_room-laid : (units : List Entry) (acts : List Activation) (used : ℕ) (frames : List Frame)
    (max_locals max_stack : ℕ) → IsSound units acts used → map (frame_of units) acts ≡ frames
    → has_room_for frames max_locals max_stack ≡ nat_lt (length acts) 256 && nat_le (used + max_locals + max_stack) 4096
has_room-laid units acts used frames max_locals max_stack sound view =
    let count : length frames ≡ length acts = sym (ap length view) ∙ length-map acts (frame_of units) in
    let fits = sound.used_is in
    let long = sound.units_are in
    let total : units_of_frames (map (frame_of units) acts)
    ≡ used = sym (zero-add (units_of_frames (map (frame_of units) acts)))
    ∙ units_of_frames-laid units 0 used acts sound.laid_out (omega arith) in
    let taken : units_of_frames frames ≡ used = sym (ap units_of_frames view) ∙ total in
    rw (count, taken)

pub has_room-few : (units : List Entry) (acts : List Activation) (used n : ℕ) (frames : List Frame)
    (max_locals max_stack : ℕ) → IsSound units acts used → map (frame_of units) acts ≡ frames → n ≡ length acts
    → n < 256 → nat_le (used + max_locals + max_stack) 4096 ≡ has_room_for frames max_locals max_stack
has_room-few units acts used n frames max_locals max_stack sound view count few =
    sym (has_room-laid units acts used frames max_locals max_stack sound view
    ∙ ap (λ (b : Bool). b && nat_le (used + max_locals + max_stack) 4096) (lt-ltb (length acts) 256 (omega arith)))

pub has_room-facts : (units : List Entry) (acts : List Activation) (used : ℕ) (frames : List Frame)
    (max_locals max_stack : ℕ) → IsSound units acts used → map (frame_of units) acts ≡ frames
    → has_room_for frames max_locals max_stack ≡ true → (length acts < 256) × (used + max_locals + max_stack ≤ 4096)
    × (used ≤ length units) × (length units ≤ 4096)
has_room-facts units acts used frames max_locals max_stack sound view has =
    let both = and_parts (nat_lt (length acts) 256) (nat_le (used + max_locals + max_stack) 4096)
    (sym (has_room-laid units acts used frames max_locals max_stack sound view) ∙ has) in (
      ltb-true (length acts) 256 both.0,
      leb-true (used + max_locals + max_stack) 4096 both.1,
      sound.used_is,
      sound.units_are,
    )

-- ---- units are reached, so many at least, before a frame is made in them

pub record Reaches (units : List Entry) (acts : List Activation) (used end : ℕ) (frames : List Frame) : Type 0 where
  pub sound : IsSound units acts used
  pub view : map (frame_of units) acts ≡ frames
  pub fits : end ≤ length units

pub reaches : (units units' : List Entry) (acts : List Activation) (used end : ℕ) (frames : List Frame)
    → IsSound units acts used → map (frame_of units) acts ≡ frames → end ≤ 4096
    → units' ≡ units ++ replicate (end - length units) Unset → Reaches units' acts used end frames
reaches units units' acts used end frames sound view few is =
    let more : List Entry = replicate (end - length units) Unset in
    let used_is = sound.used_is in
    let units_are = sound.units_are in
    let long = length-append units more in
    let count = length-replicate (end - length units) Unset in
    let same : take used units ≡ take used (units ++ more) = sym (take-append-le used units more used_is) in
    subst (λ us. Reaches us acts used end frames) (sym is) (record {
      sound = record {
        units_are = omega (arith, long, count, units_are, few);
        count_is = sound.count_is;
        used_is = omega (arith, long, used_is);
        laid_out = laid-agree units (units ++ more) used 0 used acts same sound.laid_out (omega arith);
      };
      view = sym (frames-agree units (units ++ more) used 0 used acts same sound.laid_out (omega arith)) ∙ view;
      fits = omega (arith, long, count);
    })

-- units that differ from those in use on alone give the same frames
pub stays : (units units' : List Entry) (acts : List Activation) (used : ℕ) (frames : List Frame)
    → IsSound units acts used → map (frame_of units) acts ≡ frames → length units' ≡ length units
    → take used units' ≡ take used units → IsSound units' acts used × (map (frame_of units') acts ≡ frames)
stays units units' acts used frames sound view long same = (
  record {
    units_are = subst (λ n. n ≤ 4096) (sym long) sound.units_are;
    count_is = sound.count_is;
    used_is = subst (λ n. used ≤ n) (sym long) sound.used_is;
    laid_out = laid-agree units units' used 0 used acts (sym same) sound.laid_out (omega arith);
  },
  sym (frames-agree units units' used 0 used acts (sym same) sound.laid_out (omega arith)) ∙ view,
)

-- units of which so many, from one on, became others
pub record Replaces (units units' part : List Entry) (base count : ℕ) : Type 0 where
  pub long : length units' ≡ length units
  pub same : take base units ≡ take base units'
  pub part_is : take count (drop base units') ≡ part

pub replaces : (units units' part : List Entry) (base count : ℕ) → length part ≡ count → base + count ≤ length units
    → units' ≡ take base units ++ part ++ drop (base + count) units → Replaces units units' part base count
replaces units units' part base count many fits is =
    let first : length (take base units) ≡ base = length-take-le base units (omega arith) in
    let rest : length (drop (base + count) units) ≡ length units - (base + count) = length-drop (base + count) units in
    let all : length units' ≡ length (take base units) + length part + length (drop (base + count) units) = rw (
      is,
      length-append,
      length-append,
    ) in
    let split : units' ≡ take base units ++ (part ++ drop (base + count) units) = is
    ∙ append_assoc (take base units) part (drop (base + count) units) in
    record {
      long = omega arith;
      same = rw (split, take_at (take base units) (part ++ drop (base + count) units) base first);
      part_is = rw (
        split,
        drop_at (take base units) (part ++ drop (base + count) units) base first,
        take_at part (drop (base + count) units) count many,
      );
    }
