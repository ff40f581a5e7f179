-- The running thread among the others.
use Rattle.std.proofs.Common.{◌≡◌, ◌<◌, ◌-◌, arith, ℕ, List, [], ◌∷◌, ◌++◌, length, Some, refl, ap, ◌∙◌, subst}
use Rattle.std.specs.Prelude.{slice_get, slice_set}
use Rattle.std.proofs.lemmas.Option.{slice_get-get_or}
use Rattle.model.specs.ClassListings.{ClassListing}
use Rattle.model.specs.Frames.{Frame, no_frame, running, running_frame}
use Rattle.model.specs.Worlds.{Thread, World, frames_at, frames_of, with_thread}
use Rattle.model.specs.Worlds.Thread.{Live as LiveThread}
use Rattle.instructions.specs.declared.kinds.Course.TheVariants.{Live}
use Rattle.instructions.specs.declared.machines.Machine.{Machine}
use Rattle.instructions.specs.Acting.{Scene, shown, threads_shown}

get_between : (before after : List Thread) (t : Thread) → slice_get (before ++ t ∷ after) (length before) ≡ Some t
get_between [] after t = refl
get_between (b ∷ bs) after t = get_between bs after t

pub set_between : {A : Type 0} (before after : List A) (t u : A) → slice_set (before ++ t ∷ after) (length before) u
    ≡ before ++ u ∷ after
set_between [] after t u = refl
set_between (b ∷ bs) after t u = ap (λ ts. b ∷ ts) (set_between bs after t u)

module _ (scene : Scene) (n : ℕ) (here : length scene.before ≡ n) where
  pub thread_there : (t : Thread) → slice_get (threads_shown scene t) n ≡ Some t
  thread_there t = subst (λ n. slice_get (threads_shown scene t) n ≡ Some t) here
      (get_between scene.before scene.after t)

  pub thread_set : (t u : Thread) → slice_set (threads_shown scene t) n u ≡ threads_shown scene u
  thread_set t u = subst (λ n. slice_set (threads_shown scene t) n u ≡ threads_shown scene u) here
      (set_between scene.before scene.after t u)

module _ (program : List ClassListing) (scene : Scene) (m : Machine) (here : length scene.before ≡ m.thread) where
  -- the running thread's frames are those of the machine
  pub frames_shown : frames_at (shown program scene m Live).world m.thread ≡ m.frames
  frames_shown = ap frames_of (thread_there scene m.thread here (LiveThread m.frames))

  -- in any world with these threads another thread stands in its place
  pub with_thread_shown : (w : World) (t u : Thread) → w.threads ≡ threads_shown scene t
      → with_thread w m.thread u ≡ (let after : World = record w { threads = threads_shown scene u } in after)
  with_thread_shown w t u same =
      ap (λ (ts : List Thread). let after : World = record w { threads = ts } in after)
      (ap (λ (ts : List Thread). slice_set ts m.thread u) same ∙ thread_set scene m.thread here t u)

-- where there are frames, the last one runs
pub running_some : (frames : List Frame) → 0 < length frames → running frames ≡ Some (running_frame frames)
running_some frames some = slice_get-get_or frames (length frames - 1) no_frame (omega (arith, some))
