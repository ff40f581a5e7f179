use Rattle.std.proofs.Common.{◌≡◌, ◌<◌, ◌≤◌, inl, inr, ℕ, zero, suc, ◌+◌, arith, IfOk, IfSome, List, [], ◌∷◌, ◌++◌}
use Rattle.std.proofs.Common.{replicate, slice_get, is_some, Bool, true, false, Option, Some, None, Result, Ok, Err, refl, sym}
use Rattle.std.proofs.Common.{◌∙◌, ap, subst}
use Rattle.model.specs.declared.instructions.Instruction.TheVariants.{Invoke, Return}
use Rattle.model.specs.declared.instructions.Invocation.{Invocation}
use Rattle.model.specs.declared.listings.Placed.{Placed}
use Rattle.model.specs.declared.names.Member.{Member}
use Rattle.model.specs.declared.turns.Actor.TheVariants.{Thread as ThreadActor}
use Rattle.model.specs.declared.turns.Fault.{Fault}
use Rattle.model.specs.declared.turns.Mark.TheVariants.{Unmarked}
use Rattle.model.specs.declared.turns.Turn.{Turn}
use Rattle.model.specs.declared.values.Kind.{Kind}
use Rattle.model.specs.ClassListings.{ClassListing}
use Rattle.model.specs.Effects.Choice.{NewObject}
use Rattle.model.specs.Frames.{Frame, running}
use Rattle.model.specs.Programs.{instruction_of}
use Rattle.model.specs.Table.Next.{asked, next}
use Rattle.model.specs.Turns.{refusal}
use Rattle.model.specs.Worlds.{World, Thread, frames_at, frames_of, with_thread}
use Rattle.model.specs.Worlds.Thread.{Live, Ended}
use Rattle.ideal_run.specs.Successors.{Successor, Transitions, successor, unless_refused}
use Rattle.exploration.specs.ClosedLists.{pair_of}
use Rattle.exploration.specs.PlainTurns.{HasEntered, MayReturn, is_plain}
use Rattle.exploration.specs.ReducedRuns.{pairs_in}
use Rattle.exploration.specs.Reduction.{GoesAhead, PlainStep}
use Rattle.exploration.specs.Reduction.GoesAhead.{stays, steps}
use Rattle.exploration.proofs.PlainTests.{has_entered_is, may_return_is}
use Rattle.exploration.proofs.QuietTurns.{is_call, is_return, is_step}
use Rattle.exploring.specs.Ahead.{IsPlainTurn, IsQuietCall, IsQuietReturn, IsQuietTurn, WentAhead, WentOn, WentUpTo}

-- a turn of a plain instruction that neither throws nor is at fault is a plain step

-- ---- one step more

one_more : (program : List ClassListing) (w v : World) (a : GoesAhead program w v) (t : ℕ) (fs gs : List Frame)
    → slice_get v.threads t ≡ Some (Live fs) → PlainStep program v fs gs
    → (b : GoesAhead program w (with_thread v t (Live gs))) × (pairs_in b ≡ pairs_in a ++ pair_of t NewObject ∷ [])
one_more program w v (stays x) t fs gs live step =
    (steps w (with_thread w t (Live gs)) t fs gs live step (stays (with_thread w t (Live gs))), refl)
one_more program w v (steps x y u hs ks there first rest) t fs gs live step =
    let k = one_more program (with_thread w u (Live ks)) v rest t fs gs live step in
    (steps w (with_thread v t (Live gs)) u hs ks there first k.0, ap (λ ps. pair_of u NewObject ∷ ps) k.1)

last_more : {A : Type 0} (n : ℕ) (x : A) → replicate n x ++ x ∷ [] ≡ replicate (n + 1) x
last_more zero x = refl
last_more (suc n) x = (let more : suc n + 1 ≡ suc (n + 1) = omega arith in
    rw more (ap (λ xs. x ∷ xs) (last_more n x)))

pub goes_nowhere : (program : List ClassListing) (t : ℕ) (w : World) → WentAhead program t 0 w w
goes_nowhere program t w = record { ahead = stays w; pairs = refl }

pub goes_further : (program : List ClassListing) (t n : ℕ) (w v after : World) → WentAhead program t n w v
    → (fs gs : List Frame) → slice_get v.threads t ≡ Some (Live fs) → PlainStep program v fs gs
    → after ≡ with_thread v t (Live gs) → WentAhead program t (n + 1) w after
goes_further program t n w v after went fs gs live step is =
    let k = one_more program w v went.ahead t fs gs live step in
    subst (WentAhead program t (n + 1) w) (sym is) (record {
      ahead = k.0;
      pairs = k.1 ∙ ap (λ ps. ps ++ pair_of t NewObject ∷ []) went.pairs ∙ last_more n (pair_of t NewObject);
    })

-- ---- as code has it

lives_with : (o : Option Thread) (f : Frame) → running (frames_of o) ≡ Some f
    → o ≡ Some (Live (frames_of o))
lives_with None f e = absurd (cc)
lives_with (Some (Live fs)) f e = refl
lives_with (Some (Ended by)) f e = absurd (cc)

none_asked : (o : Option ℕ) → is_some o ≡ false → o ≡ None
none_asked None e = refl
none_asked (Some n) e = absurd (cc)

module _ (s : Transitions) (w : World) (t : ℕ) where
  free_left : (r : Option Turn) (a : Successor) → Some a ≡ unless_refused s w t NewObject r
      → a ≡ record { world = (next s.program w t NewObject).after; asks = is_some (asked s.program w t) }
  free_left None a k = cc
  free_left (Some refused) a k = absurd (cc)

  module _ (f : Frame) (i : Placed) (a : Successor) (runs : running (frames_at w t) ≡ Some f) (unmarked : f.mark ≡ Unmarked)
      (stands : instruction_of s.program f ≡ Some i) (made : Some a ≡ successor s w t NewObject) (quiet : a.asks ≡ false)
      (clean : a.world.fault ≡ None) where
    abbrev fs : List Frame
    fs = frames_at w t

    live : slice_get w.threads t ≡ Some (Live fs)
    live = lives_with (slice_get w.threads t) f runs

    is : a ≡ record { world = (next s.program w t NewObject).after; asks = is_some (asked s.program w t) }
    is = free_left (refusal s.program s.limits w (ThreadActor t)) a made

    after : a.world ≡ (next s.program w t NewObject).after
    after = ap (λ (y : Successor). y.world) is

    none : asked s.program w t ≡ None
    none = none_asked (asked s.program w t) (sym (ap (λ (y : Successor). y.asks) is) ∙ quiet)

    turn_of : (gs : List Frame) × PlainStep s.program w fs gs × (a.world ≡ with_thread w t (Live gs))
        → IsPlainTurn s.program w t a.world
    turn_of k = record { frames = fs; others = k.0; live = live; step = k.1; is = k.2 }

    plain_turn_is : is_plain i.instruction ≡ true → IsPlainTurn s.program w t a.world
    plain_turn_is kind = turn_of (is_step s.program w t fs f live runs i unmarked stands a.world after none clean kind)

    return_is : (kind : Option Kind) → i.instruction ≡ Return kind → MayReturn s.program fs f
        → IsPlainTurn s.program w t a.world
    return_is kind e may = turn_of (is_return s.program w t fs f live runs i unmarked stands a.world after none clean kind e may)

    call_is : (invocation : Invocation) (m : Member) → i.instruction ≡ Invoke invocation m
        → HasEntered s.program w t f invocation a.world → IsPlainTurn s.program w t a.world
    call_is invocation m e entered =
        turn_of (is_call s.program w t fs f live runs i unmarked stands a.world after none clean invocation m e entered)

-- a fault is none where a test says so
pub no_fault : (w : World) (o : Option (Fault × ℕ)) (b : Bool) → o ≡ w.fault → b ≡ is_some o → b ≡ false → w.fault ≡ None
no_fault w None b is some no_more = sym is
no_fault w (Some fault) b is some no_more = absurd (let both : true ≡ false = sym some ∙ no_more in cc)

-- if there is such a turn
pub turn_if : {E : Type 0} {P Q : World → Type 0} (r : Result (Option World) E) → ((v : World) → P v → Q v)
    → IfOk r (λ o. IfSome o P) → IfOk r (λ o. IfSome o Q)
turn_if (Ok None) k q = tt
turn_if (Ok (Some v)) k q = k v q
turn_if (Err e) k q = tt

module _ (s : Transitions) (w : World) (t : ℕ) (f : Frame) (i : Placed) (runs : running (frames_at w t) ≡ Some f)
    (unmarked : f.mark ≡ Unmarked) (stands : instruction_of s.program f ≡ Some i) where
  pub quiet_plain : is_plain i.instruction ≡ true → (v : World) → IsQuietTurn s w t v → IsPlainTurn s.program w t v
  quiet_plain kind v q =
      plain_turn_is s w t f i (record { world = v; asks = false }) runs unmarked stands q.0 refl q.1 kind

  pub quiet_return : (kind : Option Kind) → i.instruction ≡ Return kind → (v : World) → IsQuietReturn s w t f v
      → IsPlainTurn s.program w t v
  quiet_return kind e v q =
      return_is s w t f i (record { world = v; asks = false }) runs unmarked stands q.0.0 refl q.0.1 kind e
      (may_return_is s.program (frames_at w t) f q.1)

  pub quiet_call : (invocation : Invocation) (m : Member) → i.instruction ≡ Invoke invocation m → (v : World)
      → IsQuietCall s w t f invocation v → IsPlainTurn s.program w t v
  quiet_call invocation m e v q =
      call_is s w t f i (record { world = v; asks = false }) runs unmarked stands q.0.0 refl q.0.1 invocation m e
      (has_entered_is s.program w t f invocation v q.1)

pub up_to_none : (program : List ClassListing) (t most : ℕ) (w v : World) (n : ℕ) → WentAhead program t n w v → n < most
    → WentUpTo program t most w v n
up_to_none program t most w v n went l = record { went = went; few = omega (arith, l) }

pub up_to_most : (program : List ClassListing) (t most : ℕ) (w v : World) (n : ℕ) → WentAhead program t n w v → most ≤ n
    → n ≤ most → WentUpTo program t most w v most
up_to_most program t most w v n went l m =
    (let same : n ≡ most = omega (arith, l, m) in
    record { went = subst (λ (k : ℕ). WentAhead program t k w v) same went; few = omega arith })

pub went_on : (program : List ClassListing) (t room most : ℕ) (w v : World) (n : ℕ) → most ≤ room
    → WentUpTo program t most w v n → w.fault ≡ None → WentOn program t room w v n
went_on program t room most w v n l went clean =
    (let few = went.few in record { went = went.went; few = omega (arith, few, l); clean = inl clean })

pub went_not : (program : List ClassListing) (t most : ℕ) (w : World) → WentOn program t most w w 0
went_not program t most w = record { went = goes_nowhere program t w; few = omega arith; clean = inr (refl, refl) }

pub goes_one_more : (program : List ClassListing) (t n : ℕ) (w v after : World) → WentAhead program t n w v
    → IsPlainTurn program v t after → WentAhead program t (n + 1) w after
goes_one_more program t n w v after went p = goes_further program t n w v after went p.frames p.others p.live p.step p.is
