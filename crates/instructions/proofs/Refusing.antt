-- Where the rules refuse nothing, a thread's turn is allowed.
use Rattle.std.proofs.Common.{◌≡◌, ◌<◌, ◌≤◌, ◌+◌, ℕ, List, length, Option, Some, None, IfSome, Bool, true, false}
use Rattle.std.proofs.Common.{nat_le, is_none, refl, ap, sym, ◌∙◌}
use Rattle.std.specs.Prelude.{if◌then◌else◌, ◌&&◌, not}
use Rattle.model.specs.declared.journals.Limits.{Limits}
use Rattle.model.specs.declared.turns.Actor.{Actor}
use Rattle.model.specs.declared.turns.Actor.TheVariants.{Thread}
use Rattle.model.specs.declared.turns.Fault.{Fault}
use Rattle.model.specs.declared.turns.Turn.{Turn}
use Rattle.model.specs.declared.turns.Turn.TheVariants.{NotReady, OutputFull, StepLimit}
use Rattle.std.proofs.lemmas.Bool.{ltb-false, leb-false}
use Rattle.model.specs.ClassListings.{ClassListing}
use Rattle.model.specs.Worlds.{World, is_live}
use Rattle.model.specs.Completions.{waits}
use Rattle.model.specs.Table.Next.{completion}
use Rattle.model.specs.Ready.{is_ready}
use Rattle.model.specs.Turns.{refusal, refusal_after, actor_refusal, thread_refusal, overflows, passes, print_of}
use Rattle.instructions.specs.Loaded.{Loaded}
use Rattle.instructions.specs.Allowed.{IsAllowed}

faultless : (program : List ClassListing) (limits : Limits) (w : World) (actor : Actor) (o : Option (Fault × ℕ))
    → refusal_after program limits w actor o ≡ None → o ≡ None
faultless program limits w actor None e = refl
faultless program limits w actor (Some fault) e = cc

counted : (b : Bool) (r : Option Turn) → (if b then Some StepLimit else r) ≡ None → (b ≡ false) × (r ≡ None)
counted true r e = cc
counted false r e = (refl, e)

unrefused : (ready full : Bool) → (if ready then (if full then Some OutputFull else None) else Some NotReady) ≡ None
    → (ready ≡ true) × (full ≡ false)
unrefused true true e = cc
unrefused true false e = (refl, refl)
unrefused false full e = cc

first_holds : (a b : Bool) → (a && b) ≡ true → a ≡ true
first_holds true b e = refl
first_holds false b e = cc

second_holds : (a b : Bool) → (a && b) ≡ true → b ≡ true
second_holds true b e = e
second_holds false b e = cc

fits : (limit : ℕ) (output : List ℕ) (o : Option (List ℕ)) → passes limit output o ≡ false
    → IfSome o (λ line. length output + length line ≤ limit)
fits limit output None e = tt
fits limit output (Some line) e = ltb-false limit (length output + length line) e

pub allowed : (s : Loaded) (t : ℕ) → refusal s.program s.limits s.machine.world (Thread t) ≡ None → IsAllowed s t
unfolding refusal
allowed s t e =
    let none : s.machine.world.fault ≡ None = faultless s.program s.limits s.machine.world (Thread t)
    s.machine.world.fault e in
    let rest : refusal_after s.program s.limits s.machine.world (Thread t) None
    ≡ None = ap (refusal_after s.program s.limits s.machine.world (Thread t)) (sym none) ∙ e in
    let steps = counted (nat_le s.limits.steps s.machine.world.rows) (thread_refusal s.program s.limits s.machine.world
    t) rest in
    let ready = unrefused (is_ready s.program s.machine.world t) (overflows s.program s.limits s.machine.world t)
    steps.1 in
    record {
      faultless = none;
      counted = leb-false s.limits.steps s.machine.world.rows steps.0;
      live =
          second_holds (is_none s.machine.world.fault) (is_live s.machine.world t)
          (first_holds (is_none s.machine.world.fault && is_live s.machine.world t)
          (not (waits (completion s.program s.machine.world t))) ready.0);
      fits = fits s.limits.output s.machine.world.output (print_of s.program s.machine.world t) ready.1;
    }

-- no actor's turn is allowed after a fault, or at the limit of steps
pub unrefused_faultless : (program : List ClassListing) (limits : Limits) (w : World) (actor : Actor)
    → refusal program limits w actor ≡ None → w.fault ≡ None
unfolding refusal
unrefused_faultless program limits w actor e = faultless program limits w actor w.fault e

pub unrefused_counted : (program : List ClassListing) (limits : Limits) (w : World) (actor : Actor)
    → refusal program limits w actor ≡ None → w.rows < limits.steps
unfolding refusal
unrefused_counted program limits w actor e =
    let none : w.fault ≡ None = faultless program limits w actor w.fault e in
    let rest : refusal_after program limits w actor None ≡ None = ap (refusal_after program limits w actor) (sym none)
    ∙ e in
    leb-false limits.steps w.rows (counted (nat_le limits.steps w.rows) (actor_refusal program limits w actor) rest).0
