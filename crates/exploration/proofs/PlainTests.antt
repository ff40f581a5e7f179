use Rattle.std.proofs.Common.{◌≡◌, ℕ, ◌+◌, List, length, nat_le, slice_get, slice_index_or, Bool, true, false, not, ◌&&◌}
use Rattle.std.proofs.Common.{is_none, Option, Some, None, refl}
use Rattle.std.proofs.lemmas.Bool.{eqb-true, leb-true}
use Rattle.std.specs.List.{list_all, list_any}
use Rattle.std.specs.Option.{option_map_or}
use Rattle.model.specs.declared.instructions.Invocation.{Invocation}
use Rattle.model.specs.declared.instructions.Invocation.TheVariants.{Virtual, Special, Static, Interface}
use Rattle.model.specs.declared.turns.ClassState.{ClassState}
use Rattle.model.specs.declared.turns.ClassState.TheVariants.{Unused, Running, Done, Failed}
use Rattle.model.specs.ClassListings.{ClassListing}
use Rattle.model.specs.Frames.{Frame, running}
use Rattle.model.specs.Initialisation.{declares_initializer, runs_initializer}
use Rattle.model.specs.Worlds.{World, frames_at}
use Rattle.exploration.specs.PlainTurns.{HasEntered, IsPlainFrame, IsSettledFor, MayReturn, entered_with, has_entered}
use Rattle.exploration.specs.PlainTurns.{has_one_more, is_done, is_made, is_plain_frame, is_settled, is_settled_for, may_return}
use Rattle.exploration.specs.Reduction.{IsSettledAt, thread_initialises}

-- what the tests of a turn tell

both_true : (x y : Bool) → (x && y) ≡ true → (x ≡ true) × (y ≡ true)
both_true true y e = (refl, e)
both_true false y e = absurd (cc)

not_true : (x : Bool) → not x ≡ true → x ≡ false
not_true true e = absurd (cc)
not_true false e = refl

none_there : (o : Option ℕ) → is_none o ≡ true → o ≡ None
none_there None e = refl
none_there (Some b) e = absurd (cc)

done_is : (s : ClassState) → is_done s ≡ true → s ≡ Done
done_is Unused e = absurd (cc)
done_is (Running t) e = absurd (cc)
done_is Done e = refl
done_is Failed e = absurd (cc)

module _ (program : List ClassListing) where
  plain_frame_is : (f : Frame) → is_plain_frame program f ≡ true → IsPlainFrame program f
  plain_frame_is f e = (let k = both_true (is_none f.monitor) (not (runs_initializer program f)) e in
      (none_there f.monitor k.0, not_true (runs_initializer program f) k.1))

  pub may_return_is : (frames : List Frame) (f : Frame) → may_return program frames f ≡ true → MayReturn program frames f
  may_return_is frames f e = (let k = both_true (nat_le 2 (length frames)) (is_plain_frame program f) e in
      (plain_frame_is f k.1, leb-true 2 (length frames) k.0))

  settled_is : (w : World) (c : ℕ) → is_settled program w c ≡ true → IsSettledAt program w c
  settled_is w c e =
      let declared = option_map_or declares_initializer (slice_get program c) false in
      let active = list_any (thread_initialises program c) w.threads in
      let k = both_true (is_done (slice_index_or w.statics.states c Done)) (not declared && not active) e in
      let l = both_true (not declared) (not active) k.1 in
      record {
        done = done_is (slice_index_or w.statics.states c Done) k.0;
        undeclared = not_true declared l.0;
        not_running = not_true active l.1;
      }

  settled_for_is : (w : World) (i : Invocation) (c : ℕ) → is_settled_for program w i c ≡ true → IsSettledFor program w i c
  settled_for_is w Virtual c e = tt
  settled_for_is w Special c e = tt
  settled_for_is w Static c e = settled_is w c e
  settled_for_is w (Interface count) c e = tt

  pub has_entered_is : (w : World) (t : ℕ) (caller : Frame) (i : Invocation) (v : World)
      → has_entered program w t caller i v ≡ true → HasEntered program w t caller i v
  has_entered_is w t caller i v e = by (running (frames_at v t)) refl e
    where
      by : (o : Option Frame) → running (frames_at v t) ≡ o → entered_with program w t caller i v o ≡ true
          → HasEntered program w t caller i v
      by None runs k = absurd (cc)
      by (Some f) runs k =
          let one = has_one_more (frames_at w t) (frames_at v t) in
          let made = list_all (is_made (length w.objects)) caller.stack in
          let halves = both_true (one && is_plain_frame program f) (made && is_settled_for program w i f.method.class) k in
          let first = both_true one (is_plain_frame program f) halves.0 in
          let second = both_true made (is_settled_for program w i f.method.class) halves.1 in
          let plain = plain_frame_is f first.1 in
          record {
            frame = f;
            runs = runs;
            more = eqb-true (length (frames_at v t)) (length (frames_at w t) + 1) first.0;
            unheld = plain.0;
            no_initializer = plain.1;
            made = second.0;
            settled = settled_for_is w i f.method.class second.1;
          }
