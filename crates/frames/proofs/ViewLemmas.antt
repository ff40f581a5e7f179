-- frames as plain data
use Rattle.std.proofs.Common.{◌≡◌, ℕ, ◌+◌, ◌<◌, ◌≤◌, List, [], ◌∷◌, ◌++◌, length, slice_get, Some, map, reverse, take}
use Rattle.std.proofs.Common.{drop, get_or, ap, sym, ◌∙◌}
use Rattle.std.proofs.lemmas.List.{take_more, map_push}
use Rattle.std.proofs.lemmas.Option.{slice_get_within, get_or_from_slice_get}
use Rattle.model.specs.Frames.{Frame}
use Rattle.model.specs.declared.values.Entry.{Entry}
use Rattle.model.specs.declared.values.Value.{Value}
use Rattle.frames.specs.declared.activations.Activation.{Activation}
use Rattle.values.specs.Slots.{value_in}
use Rattle.frames.specs.Layout.{stack_of, frame_of}
use Rattle.frames.proofs.ArgumentLemmas.{stack_of-between}

-- a frame from copies of its locals and of its values, bottom first
pub frame_of-copies : (units : List Entry) (a : Activation) (locals : List Entry) (values : List Value)
    → a.base + a.locals + a.values ≤ length units → locals ≡ take a.locals (drop a.base units)
    → values ≡ map value_in (take a.values (drop (a.base + a.locals) units))
    → record {
      method = a.method;
      pc = a.pc;
      locals = locals;
      stack = reverse values;
      room = a.room;
      monitor = a.monitor;
      mark = a.mark;
    } ≡ frame_of units a
frame_of-copies units a locals values fits locals_are values_are =
    let stack_is : reverse values ≡ stack_of units (a.base + a.locals) a.values = ap reverse values_are
    ∙ sym (stack_of-between units (a.base + a.locals) a.values fits) in
    cc

-- one frame more
pub views_more : (units : List Entry) (acts : List Activation) (d : ℕ) (a : Activation) (view : Frame)
    (views after : List Frame) → slice_get acts d ≡ Some a → views ≡ map (frame_of units) (take d acts)
    → view ≡ frame_of units a → after ≡ views ++ view ∷ [] → after ≡ map (frame_of units) (take (d + 1) acts)
views_more units acts d a view views after found so_far is pushed =
    let there : d < length acts = slice_get_within acts d a found in
    let more : take (d + 1) acts ≡ take d acts ++ get_or acts d a ∷ [] = take_more acts d a there in
    let here : get_or acts d a ≡ a = get_or_from_slice_get acts d a a found in
    rw (pushed, so_far, is, more, here) (sym (map_push (frame_of units) (take d acts) a))
