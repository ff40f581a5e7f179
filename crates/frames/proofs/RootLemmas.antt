-- the references in a frame's entries
use Rattle.std.proofs.Common.{◌≡◌, ℕ, zero, suc, ◌+◌, ◌<◌, ◌≤◌, List, [], ◌∷◌, ◌++◌, length, map, reverse, take, drop}
use Rattle.std.proofs.Common.{Option, Some, None, slice_get, get_or, refl, ap, sym, ◌∙◌, arith}
use Rattle.std.proofs.lemmas.List.{reverse-reverse, length-map, length-take-le, length-drop, get_or-map, get_or-take}
use Rattle.std.proofs.lemmas.List.{get_or-drop, get_or_past, map-append, reverse-append, drop-drop, length-take}
use Rattle.std.proofs.Math.Seq.{take-add}
use Rattle.std.specs.Option.{option_map}
use Rattle.std.proofs.lemmas.Option.{slice_get-map}
use Rattle.model.specs.declared.values.Entry.{Entry}
use Rattle.model.specs.declared.values.Entry.TheVariants.{Unset, Holds, UpperHalf}
use Rattle.model.specs.Frames.{Frame}
use Rattle.model.specs.Collector.Places.{ref_of, entry_ref, ref_at, frame_refs, entries_at, refs_of_frame}
use Rattle.frames.specs.declared.activations.Activation.{Activation}
use Rattle.frames.specs.declared.heads.FrameHead.{FrameHead}
use Rattle.frames.specs.Heads.{head_at, head_of}
use Rattle.values.specs.Slots.{value_in}
use Rattle.frames.specs.Layout.{values_between, stack_of, frame_of, Stands, AreLaidOut, IsSound}
use Rattle.frames.proofs.ArgumentLemmas.{stack_of-between}
use Rattle.frames.proofs.LayoutLemmas.{laid_le, values_fit}

pub ref_of-value_in : (e : Entry) → ref_of (value_in e) ≡ entry_ref e
ref_of-value_in Unset = refl
ref_of-value_in (Holds v) = refl
ref_of-value_in UpperHalf = refl

pub refs_of-values : (es : List Entry) → map ref_of (map value_in es) ≡ map entry_ref es
refs_of-values [] = refl
refs_of-values (e ∷ es) = let here = ref_of-value_in e in let rest = refs_of-values es in cc

pub map-reverse : {X Y : Type 0} (f : X → Y) → (xs : List X) → map f (reverse xs) ≡ reverse (map f xs)
map-reverse f [] = refl
map-reverse {Y = Y} f (x ∷ xs) =
    let before : reverse (x ∷ xs) ≡ reverse xs ++ x ∷ [] = reverse-append (x ∷ []) xs in
    let after : reverse (f x ∷ map f xs) ≡ reverse (map f xs) ++ f x ∷ [] = reverse-append (f x ∷ []) (map f xs) in
    ap (map f) before ∙ (map-append f (reverse xs) (x ∷ []) ∙ (ap (λ (ys : List Y). ys ++ f x ∷ []) (map-reverse f xs)
    ∙ sym after))

-- an activation within the units: what it is known to do
pub record Within (units : List Entry) (a : Activation) : Type 0 where
  pub stands : Stands units a.base a
  pub fits : a.base + a.locals + a.room ≤ length units

pub within : (units : List Entry) (base end : ℕ) (acts : List Activation) (d : ℕ) (a : Activation)
    → AreLaidOut units base acts end → end ≤ length units → slice_get acts d ≡ Some a → Within units a
within units base end [] d a laid fits is = cc
within units base end (x ∷ xs) zero a laid fits is =
    let same : x ≡ a = cc in
    let up = laid_le units (base + x.locals + x.room) end xs laid.1 in
    let begins = laid.0.begins in
    rw (← same) (record {
      stands = record { begins = refl; taken_is = laid.0.taken_is; fits = laid.0.fits };
      fits = omega arith;
    })
within units base end (x ∷ xs) (suc d) a laid fits is = within units (base + x.locals + x.room) end xs d a laid.1 fits
    is

pub frame_refs-frame_of : (units : List Entry) (a : Activation) → Within units a → frame_refs (frame_of units a)
    ≡ map entry_ref (take (a.locals + a.values) (drop a.base units))
frame_refs-frame_of units a w =
    let room = values_fit units a.base a w.stands in
    let fits = w.fits in
    let bottom_first : reverse (stack_of units (a.base + a.locals) a.values)
    ≡ values_between units (a.base + a.locals) a.values = ap reverse (stack_of-between units (a.base + a.locals)
    a.values (omega arith)) ∙ reverse-reverse (values_between units (a.base + a.locals) a.values) in
    let stack : reverse (map ref_of (stack_of units (a.base + a.locals) a.values))
    ≡ map entry_ref (take a.values (drop (a.base + a.locals) units)) = sym
    (map-reverse ref_of (stack_of units (a.base + a.locals) a.values))
    ∙ (ap (map ref_of) bottom_first ∙ refs_of-values (take a.values (drop (a.base + a.locals) units))) in
    let both : take (a.locals + a.values) (drop a.base units) ≡ take a.locals (drop a.base units)
    ++ take a.values (drop (a.base + a.locals) units) = take-add a.locals a.values (drop a.base units)
    ∙ ap (λ (es : List Entry). take a.locals (drop a.base units) ++ take a.values es)
    (drop-drop a.locals a.base units) in
    ap (λ (rs : List (Option ℕ)). map entry_ref (take a.locals (drop a.base units)) ++ rs) stack
    ∙ (sym (map-append entry_ref (take a.locals (drop a.base units))
    (take a.values (drop (a.base + a.locals) units))) ∙ ap (map entry_ref) (sym both))

-- ---- the entries of a frame, as its activation has them

pub entries-some : (units : List Entry) (acts : List Activation) (frames : List Frame) (used d : ℕ) (a : Activation)
    → IsSound units acts used → map (frame_of units) acts ≡ frames → slice_get acts d ≡ Some a → entries_at frames d
    ≡ map entry_ref (take (a.locals + a.values) (drop a.base units))
entries-some units acts frames used d a sound view is =
    let long = sound.units_are in
    let used_is = sound.used_is in
    let w = within units 0 used acts d a sound.laid_out (omega arith) is in
    let found : slice_get frames d ≡ Some (frame_of units a) = ap (λ (fs : List Frame). slice_get fs d) (sym view)
    ∙ (slice_get-map (frame_of units) acts d ∙ ap (option_map (frame_of units)) is) in
    ap refs_of_frame found ∙ frame_refs-frame_of units a w

pub entries-none : (units : List Entry) (acts : List Activation) (frames : List Frame) (d : ℕ)
    → map (frame_of units) acts ≡ frames → slice_get acts d ≡ None → entries_at frames d ≡ []
entries-none units acts frames d view is =
    let found : slice_get frames d ≡ None = ap (λ (fs : List Frame). slice_get fs d) (sym view)
    ∙ (slice_get-map (frame_of units) acts d ∙ ap (option_map (frame_of units)) is) in
    ap refs_of_frame found

-- where an activation's region lies
pub region_of : (units : List Entry) (acts : List Activation) (used d : ℕ) (a : Activation) → IsSound units acts used
    → slice_get acts d ≡ Some a → (a.base + a.locals + a.values ≤ length units) × (length units ≤ 4096)
region_of units acts used d a sound is =
    let long = sound.units_are in
    let used_is = sound.used_is in
    let w = within units 0 used acts d a sound.laid_out (omega arith) is in
    let room = values_fit units a.base a w.stands in
    let fits = w.fits in
    (omega arith, long)

pub length-entries : (units : List Entry) (a : Activation) → a.base + a.locals + a.values ≤ length units
    → a.locals + a.values ≡ length (map entry_ref (take (a.locals + a.values) (drop a.base units)))
length-entries units a fits = omega (
  arith,
  length-map (take (a.locals + a.values) (drop a.base units)) entry_ref,
  length-take-le (a.locals + a.values) (drop a.base units) (omega (arith, length-drop a.base units)),
)

pub ref_at-entries : (units : List Entry) (a : Activation) (j : ℕ) (e : Entry)
    → a.base + a.locals + a.values ≤ length units → j < a.locals + a.values → e ≡ get_or units (a.base + j) Unset
    → entry_ref e ≡ ref_at (map entry_ref (take (a.locals + a.values) (drop a.base units))) j
ref_at-entries units a j e fits h read =
    let many : length (take (a.locals + a.values) (drop a.base units))
    ≡ a.locals + a.values = length-take-le (a.locals + a.values) (drop a.base units)
    (omega (arith, length-drop a.base units)) in
    let place : get_or (take (a.locals + a.values) (drop a.base units)) j Unset
    ≡ get_or units (a.base + j) Unset = get_or-take (a.locals + a.values) (drop a.base units) j Unset h
    ∙ get_or-drop a.base units j Unset in
    ap entry_ref (read ∙ sym place) ∙ sym (get_or-map entry_ref (take (a.locals + a.values) (drop a.base units)) j Unset
    None (omega arith))

pub ref_at-past : (units : List Entry) (a : Activation) (j : ℕ) → a.locals + a.values ≤ j
    → None ≡ ref_at (map entry_ref (take (a.locals + a.values) (drop a.base units))) j
ref_at-past units a j h =
    let many = length-take (a.locals + a.values) (drop a.base units) in
    sym (get_or_past (map entry_ref (take (a.locals + a.values) (drop a.base units))) j None
    (omega (arith, length-map (take (a.locals + a.values) (drop a.base units)) entry_ref)))

-- ---- a frame but for its locals and the values on its stack, as its activation has it

pub head-some : (units : List Entry) (acts : List Activation) (frames : List Frame) (used d : ℕ) (a : Activation)
    → IsSound units acts used → map (frame_of units) acts ≡ frames → slice_get acts d ≡ Some a → head_at frames d
    ≡ Some (record { method = a.method; pc = a.pc; taken = a.taken; room = a.room; monitor = a.monitor; mark = a.mark })
head-some units acts frames used d a sound view is =
    let long = sound.units_are in
    let used_is = sound.used_is in
    let w = within units 0 used acts d a sound.laid_out (omega arith) is in
    let found : slice_get frames d ≡ Some (frame_of units a) = ap (λ (fs : List Frame). slice_get fs d) (sym view)
    ∙ (slice_get-map (frame_of units) acts d ∙ ap (option_map (frame_of units)) is) in
    ap (option_map head_of) found
    ∙ ap (λ (taken : ℕ). let head : FrameHead = record {
      method = a.method;
      pc = a.pc;
      taken = taken;
      room = a.room;
      monitor = a.monitor;
      mark = a.mark;
    } in Some head) (sym w.stands.taken_is)

pub head-none : (units : List Entry) (acts : List Activation) (frames : List Frame) (d : ℕ) → map (frame_of units) acts
    ≡ frames → slice_get acts d ≡ None → head_at frames d ≡ None
head-none units acts frames d view is =
    let found : slice_get frames d ≡ None = ap (λ (fs : List Frame). slice_get fs d) (sym view)
    ∙ (slice_get-map (frame_of units) acts d ∙ ap (option_map (frame_of units)) is) in
    ap (option_map head_of) found
