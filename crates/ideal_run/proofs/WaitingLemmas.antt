-- of frames all but the last one wait
use Rattle.std.proofs.Common.{◌≡◌, List, [], ◌∷◌, ◌++◌, map, refl, ap, sym, ◌∙◌}
use Rattle.std.proofs.lemmas.List.{append-nil}
use Rattle.model.specs.Frames.{Frame}
use Rattle.model.specs.Initialisation.{waiting, callers_waiting}

waiting-last : (frames : List Frame) (last : Frame) → callers_waiting (frames ++ last ∷ []) ≡ map waiting frames
    ++ last ∷ []
waiting-last [] last = refl
waiting-last (f ∷ []) last = refl
waiting-last (f ∷ g ∷ fs) last = ap (λ (l : List Frame). waiting f ∷ l) (waiting-last (g ∷ fs) last)

pub waits-some : (frames rest : List Frame) (last : Frame) (after : List Frame) → frames ≡ rest ++ last ∷ []
    → after ≡ map waiting rest ++ last ∷ [] → after ≡ callers_waiting frames
waits-some frames rest last after is after-is = after-is ∙ (sym (waiting-last rest last) ∙ sym (ap callers_waiting is))

pub waits-none : (frames rest : List Frame) → frames ≡ rest ++ [] → rest ≡ [] → rest ≡ callers_waiting frames
waits-none frames rest is none = none ∙ sym (ap callers_waiting (is ∙ append-nil rest ∙ none))

pub ruleset waits = (waits-some, waits-none)
