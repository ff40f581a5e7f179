-- The running frame changes twice.
use Rattle.std.proofs.Common.{◌≡◌, ◌<◌, ◌-◌, List, length, ap, ◌∙◌, arith, length-set}
use Rattle.std.specs.Prelude.{slice_index_or, slice_set}
use Rattle.std.proofs.lemmas.List.{get_or-set_same, set-set}
use Rattle.model.specs.Frames.{Frame, no_frame, running_frame, with_running}

running-with : (frames : List Frame) (f : Frame) → 0 < length frames → running_frame (with_running frames f) ≡ f
running-with frames f some =
    ap (λ n. slice_index_or (with_running frames f) (n - 1) no_frame) (length-set frames (length frames - 1) f)
    ∙ get_or-set_same frames (length frames - 1) f no_frame (omega (arith, some))

with-twice : (frames : List Frame) (f g : Frame) → with_running (with_running frames f) g ≡ with_running frames g
with-twice frames f g =
    ap (λ n. slice_set (with_running frames f) (n - 1) g) (length-set frames (length frames - 1) f)
    ∙ set-set frames (length frames - 1) f g

pub changed-twice : (old mid : List Frame) (g : Frame) (change : Frame → Frame) → 0 < length old
    → mid ≡ with_running old g
    → with_running mid (change (running_frame mid)) ≡ with_running old (change g)
changed-twice old mid g change some is =
    ap (λ fs. with_running fs (change (running_frame fs))) is ∙ ap (λ f. with_running (with_running old g) (change f))
    (running-with old g some)
    ∙ with-twice old g (change g)
