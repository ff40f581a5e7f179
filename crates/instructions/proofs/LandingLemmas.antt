-- Where a throwable lands, sought from the running frame outwards.
use Rattle.std.proofs.Common.{◌≡◌, ◌<◌, ◌≤◌, ◌+◌, ◌-◌, ℕ, List, [], ◌∷◌, ◌++◌, reverse, take, drop, length, Option}
use Rattle.std.proofs.Common.{Some, None, sym, ap, ◌∙◌, arith}
use Rattle.std.specs.Prelude.{slice_index_or}
use Rattle.std.specs.Option.{option_map}
use Rattle.std.proofs.Math.Seq.{drop-append_seam}
use Rattle.std.proofs.lemmas.List.{append-nil, append_assoc, length-drop, length-reverse, length-take-le}
use Rattle.std.proofs.lemmas.List.{reverse-append, take-append-drop, take-take, take_all, take_more, get_or-drop}
use Rattle.std.proofs.lemmas.List.{get_or-take}
use Rattle.std.proofs.lemmas.Option.{slice_get-get_or}
use Rattle.model.specs.Accepted.Refusals.{refusal_of}
use Rattle.model.specs.ClassListings.{ClassListing}
use Rattle.model.specs.Frames.{Frame, callers, no_frame, running_frame}
use Rattle.model.specs.Unwinding.{Response, Way, response_of, way_from, way_of}
use Rattle.model.specs.Unwinding.Landing.{Unhandled}
use Rattle.model.specs.Unwinding.Response.{Handles, Fails, Leaves}
use Rattle.frames.specs.declared.heads.FrameHead.{FrameHead}
use Rattle.frames.specs.Heads.{head_at, head_of}
use Rattle.instructions.specs.declared.kinds.Kind.{Kind}
use Rattle.instructions.specs.declared.unwinding.Answer.{Answer}
use Rattle.instructions.specs.declared.unwinding.Target.TheVariants as target
use Rattle.instructions.specs.Leaving.{innermost}
use Rattle.instructions.specs.Shown.{kind_name}
use Rattle.instructions.specs.Throwing.{IsThrown, answer_by, kept, response_as, way_as}
use Rattle.instructions.proofs.CatchLemmas.{thrown_answers}
use Rattle.instructions.proofs.LeavingLemmas.{running_first}

-- a way with these frames left before it
abbrev extended : List Frame → Way → Way
extended before w = record { landing = w.landing; left = before ++ w.left }

-- ---- the frames that stay

module _ (frames : List Frame) where
  kept_length : (left : ℕ) → left ≤ length frames → length (kept left frames) ≡ length frames - left
  kept_length left within = length-take-le (length frames - left) frames (omega arith)

  -- after the innermost so many stand the others, the innermost first
  drop_reversed : (left : ℕ) → left ≤ length frames → drop left (reverse frames) ≡ reverse (kept left frames)
  drop_reversed left within =
      let n = length frames - left in
      let split : reverse frames ≡ reverse (drop n frames) ++ reverse (take n frames) =
      ap reverse (sym (take-append-drop n frames)) ∙ reverse-append (take n frames) (drop n frames) in
      let dropped = length-drop n frames in
      let turned = length-reverse (drop n frames) in
      let long : left ≡ length (reverse (drop n frames)) = omega (arith, within, dropped, turned) in
      ap (drop left) split ∙ ap (λ k. drop k (reverse (drop n frames) ++ reverse (take n frames))) long
      ∙ drop-append_seam (reverse (drop n frames)) (reverse (take n frames))

  kept_some : (left : ℕ) → left < length frames → 0 < length (kept left frames)
  kept_some left within = let long = kept_length left (omega (arith, within)) in omega (arith, within, long)

  pub kept_first : (left : ℕ) → left < length frames
      → reverse (kept left frames) ≡ running_frame (kept left frames) ∷ reverse (callers (kept left frames))
  kept_first left within = running_first (kept left frames) (kept_some left within)

  pub kept_next : (left : ℕ) → left < length frames → callers (kept left frames) ≡ kept (left + 1) frames
  kept_next left within =
      let long = kept_length left (omega (arith, within)) in
      let fewer : length (kept left frames) - 1 ≡ length frames - (left + 1) = omega (arith, within, long) in
      ap (λ n. take n (kept left frames)) fewer ∙ take-take (length frames - (left + 1)) (length frames - left) frames
      (omega arith)

  pub innermost_next : (left : ℕ) → left < length frames → innermost (left + 1) frames ≡ innermost left frames
      ++ running_frame (kept left frames) ∷ []
  innermost_next left within =
      let turned = length-reverse frames in
      let zero : left ≡ left + 0 = omega arith in
      take_more (reverse frames) left no_frame (omega (arith, within, turned))
      ∙ ap (λ f. innermost left frames ++ f ∷ [])
      (ap (λ n. slice_index_or (reverse frames) n no_frame) zero ∙ sym (get_or-drop left (reverse frames) 0 no_frame)
      ∙ ap (λ fs. slice_index_or fs 0 no_frame) (drop_reversed left (omega (arith, within)) ∙ kept_first left within))

  -- the frame at which the search stands
  pub head_there : (left : ℕ) → left < length frames → head_at frames (length frames - left - 1)
      ≡ Some (head_of (running_frame (kept left frames)))
  head_there left within =
      let long = kept_length left (omega (arith, within)) in
      let n = length frames - left in
      let same : length (kept left frames) - 1 ≡ length frames - left - 1 = omega (arith, long) in
      ap (option_map head_of) (slice_get-get_or frames (length frames - left - 1) no_frame (omega (arith, within))
      ∙ ap Some (sym (ap (λ k. slice_index_or (kept left frames) k no_frame) same
      ∙ get_or-take n frames (length frames - left - 1) no_frame (omega (arith, within)))))

  -- ---- the search

  module _ (program : List ClassListing) (class : List ℕ) where
    -- so many of the innermost frames are left
    abbrev pub Seeks : ℕ → Type 0
    Seeks left = way_of program class (reverse frames)
        ≡ extended (innermost left frames) (way_of program class (reverse (kept left frames)))

    pub seeks_first : Seeks 0
    seeks_first =
        let all : length frames - 0 ≡ length frames = omega arith in
        ap (λ fs. way_of program class (reverse fs))
        (sym (ap (λ n. take n frames) all ∙ take_all (length frames) frames (omega arith)))

    module _ (left : ℕ) (within : left < length frames) (seeks : Seeks left) where
      abbrev here : Frame
      here = running_frame (kept left frames)

      abbrev further : Way
      further = way_of program class (reverse (callers (kept left frames)))

      way_here : (r : Response) → response_of program class here ≡ r
          → way_of program class (reverse frames)
          ≡ extended (innermost left frames) (way_from here (reverse (callers (kept left frames))) r further)
      way_here r is =
          seeks ∙ ap (λ fs. extended (innermost left frames) (way_of program class fs)) (kept_first left within)
          ∙ ap (λ r. extended (innermost left frames) (way_from here (reverse (callers (kept left frames))) r further))
          is

      pub seeks_next : response_of program class here ≡ Leaves → Seeks (left + 1)
      seeks_next is =
          way_here Leaves is
          ∙ ap (λ (fs : List Frame). let w : Way = record { landing = further.landing; left = fs } in w)
          (sym (append_assoc (innermost left frames) (here ∷ []) further.left)
          ∙ ap (λ fs. fs ++ further.left) (sym (innermost_next left within)))
          ∙ ap (λ fs. extended (innermost (left + 1) frames) (way_of program class (reverse fs)))
          (kept_next left within)

      pub found_handler : (handler : ℕ) → response_of program class here ≡ Handles handler
          → way_of program class (reverse frames) ≡ way_as frames (target.Handler left handler)
      found_handler handler is =
          way_here (Handles handler) is
          ∙ ap (λ (fs : List Frame). let w : Way = record (way_as frames (target.Handler left handler)) { left = fs }
          in w) (append-nil (innermost left frames))

      pub found_initializer : response_of program class here ≡ Fails
          → way_of program class (reverse frames) ≡ way_as frames (target.Initializer left)
      found_initializer is =
          way_here Fails is
          ∙ ap (λ (fs : List Frame). let w : Way = record (way_as frames (target.Initializer left)) { left = fs }
          in w) (append-nil (innermost left frames))

    pub found_nowhere : (left : ℕ) → length frames ≤ left → left ≤ length frames → Seeks left
        → way_of program class (reverse frames) ≡ way_as frames target.Nowhere
    found_nowhere left past within seeks =
        let none : length frames - left ≡ 0 = omega (arith, past) in
        let turned = length-reverse frames in
        seeks ∙ ap (λ n. extended (innermost left frames) (way_of program class (reverse (take n frames)))) none
        ∙ ap (λ (fs : List Frame). let w : Way = record { landing = Unhandled; left = fs } in w)
        (append-nil (innermost left frames) ∙ take_all left (reverse frames) (omega (arith, past, turned)))

-- what the frame does at which the search stands
pub answered : (program : List ClassListing) (kind : Kind) (frames : List Frame) (left depth : ℕ) (head : FrameHead)
    (found : Option FrameHead) (a : Answer)
    → refusal_of program ≡ None → IsThrown program kind → depth ≡ length frames → left < depth
    → found ≡ head_at frames (depth - left - 1)
    → found ≡ Some head → a ≡ answer_by program kind head
    → response_of program (kind_name program kind) (running_frame (kept left frames)) ≡ response_as a
answered program kind frames left depth head found a accepted can count within is there reported =
    let here = running_frame (kept left frames) in
    let at : head_at frames (depth - left - 1) ≡ Some (head_of here) = ap (λ n. head_at frames (n - left - 1)) count
    ∙ head_there frames left (omega (arith, count, within)) in
    let some : Some head ≡ Some (head_of here) = sym there ∙ is ∙ at in
    let same : head ≡ head_of here = cc in
    sym (ap response_as reported ∙ ap (λ h. response_as (answer_by program kind h)) same
    ∙ thrown_answers program kind accepted can here)
