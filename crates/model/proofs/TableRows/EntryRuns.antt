-- Main enters the monitor of an Object again and again: the 65,536th entry is F10, in row 196,609. It begins with the
-- object in local 0; from then on each third turn enters.
use Rattle.std.proofs.Common.{◌≤◌, ◌<◌, ◌*◌, arith, ap, ◌∙◌}
use Rattle.std.proofs.lemmas.Bool.{lt-leb}
use Rattle.std.specs.Prelude.{◌≡◌, ℕ, zero, suc, ◌+◌, List, [], ◌∷◌, ◌++◌, Bool, true, false, nat_le, ◌&&◌, not}
use Rattle.std.specs.Prelude.{is_none, if◌then◌else◌, Option, Some, None, codes, refl}
use Rattle.std.specs.Int.{int_wrap}
use Rattle.std.specs.Fmt.{digits}
use Rattle.model.specs.declared.instructions.FirstLocal.TheVariants.{Zero as FirstZero}
use Rattle.model.specs.declared.instructions.Local.TheVariants.{First}
use Rattle.model.specs.declared.instructions.LocalAccess.TheVariants.{Load, Store}
use Rattle.model.specs.declared.instructions.ClassOperation.TheVariants.{New}
use Rattle.model.specs.declared.instructions.Test.TheVariants.{Always}
use Rattle.model.specs.declared.instructions.Width.TheVariants.{Narrow}
use Rattle.model.specs.declared.instructions.MonitorOperation.TheVariants.{Enter}
use Rattle.model.specs.declared.instructions.Instruction.TheVariants.{Local, Branch, Class, Monitor}
use Rattle.model.specs.declared.values.Kind.TheVariants.{Ref as RefKind}
use Rattle.model.specs.declared.values.Value.{Value}
use Rattle.model.specs.declared.values.Value.TheVariants.{Ref}
use Rattle.model.specs.declared.values.Entry.TheVariants.{Holds}
use Rattle.model.specs.declared.turns.Fault.TheVariants.{MonitorLimit}
use Rattle.model.specs.ClassListings.{ClassListing}
use Rattle.model.specs.Classes.Builtin.{builtin_classes}
use Rattle.model.specs.Classes.Search.{upwards, interfaces_from}
use Rattle.model.specs.Classes.Subclasses.{is_within}
use Rattle.model.specs.Classes.Types.{is_subtype_within}
use Rattle.model.specs.Worlds.{World, is_live, counted, opening_world, opening_objects}
use Rattle.model.specs.Worlds.Thread.{Live}
use Rattle.model.specs.Table.Next.{completion, next}
use Rattle.model.specs.Effects.Choice.{NewObject}
use Rattle.model.specs.Completions.Completion.{Goes}
use Rattle.model.specs.declared.turns.Actor.TheVariants.{Thread}
use Rattle.model.specs.Turns.{passes, overflows, thread_refusal, refusal_after, refusal, unless_refused, ideal_step}
use Rattle.model.specs.Ready.{is_ready}
use Rattle.model.specs.Effects.{effect_of}
use Rattle.model.specs.Completions.{Completion, waits, prints}
use Rattle.model.specs.declared.turns.Turn.{Turn}
use Rattle.model.specs.declared.turns.Turn.TheVariants.{NotReady, OutputFull, StepLimit}
use Rattle.model.specs.declared.turns.Fault.{Fault}
use Rattle.model.proofs.TableRows.Listings.{ample, main_of, after, run, more}
use Rattle.model.proofs.TableRows.Sites.{place, frame, object}

abbrev entries : List ClassListing
entries = main_of 1 1 ((3, Class New (codes "java/lang/Object")) ∷ (1, Local (Store RefKind (First FirstZero)))
    ∷ (1, Local (Load RefKind (First FirstZero))) ∷ (1, Monitor Enter) ∷ (3, Branch (Always Narrow) 4) ∷ [])

-- main at a pc with this stack, when the monitor was entered so often, in so many rows
abbrev entered : ℕ → List Value → Option ℕ → ℕ → ℕ → World
entered pc stack owner count rows = record (opening_world entries) {
  threads = Live (frame (place 0 0) pc (Holds (Ref (Some 3)) ∷ []) stack 1 None ∷ []) ∷ [];
  objects = opening_objects ++ object (codes "java/lang/Object") owner count None ∷ [];
  rows = rows;
}

abbrev top : ℕ → ℕ → World
top count rows = entered 4 [] (Some 0) count rows

first_entry : run 5 entries ≡ top 1 5
unfolding refusal next completion builtin_classes upwards interfaces_from is_within is_subtype_within int_wrap digits
first_entry = refl

-- ---- the three turns of a loop, below the limits

loads : (n r : ℕ) → nat_le 1000000 r ≡ false → after 1 entries (top n r)
    ≡ entered 5 (Ref (Some 3) ∷ []) (Some 0) n (r + 1)
unfolding refusal next completion builtin_classes upwards interfaces_from is_within is_subtype_within int_wrap digits
loads n r e = rw e refl

-- a turn of thread 0 that goes on
goes_on : (program : List ClassListing) (w v : World) (writes : List ℕ) → completion program w 0 ≡ Goes v writes
    → w.fault ≡ None → is_live w 0 ≡ true → nat_le 1000000 w.rows ≡ false
    → ideal_step program ample w (Thread 0) NewObject ≡ counted v
unfolding refusal next
goes_on program w v writes c f l r =
    let ready : is_ready program w 0 ≡ true =
    ap (λ (o : Option (Fault × ℕ)). is_none o && is_live w 0 && not (waits (completion program w 0))) f
    ∙ ap (λ (b : Bool). true && b && not (waits (completion program w 0))) l ∙ ap (λ (x : Completion). not (waits x)) c
    in
    let free : thread_refusal program ample w 0 ≡ None =
    ap (λ (b : Bool). if b then (if overflows program ample w 0 then Some OutputFull else None) else Some NotReady)
    ready
    ∙ ap (λ (x : Completion). if passes ample.output w.output (prints x) then Some OutputFull else None) c in
    let unrefused : refusal program ample w (Thread 0) ≡ None =
    ap (λ (o : Option (Fault × ℕ)). refusal_after program ample w (Thread 0) o) f
    ∙ ap (λ (b : Bool). if b then Some StepLimit else thread_refusal program ample w 0) r ∙ free in
    ap (λ (o : Option Turn). unless_refused program w (Thread 0) NewObject o) unrefused
    ∙ ap (λ (x : Completion). counted (effect_of program w 0 NewObject x).after) c

enters : (n r : ℕ) → nat_le 65535 n ≡ false → completion entries (entered 5 (Ref (Some 3) ∷ []) (Some 0) n r) 0
    ≡ Goes (entered 6 [] (Some 0) (n + 1) r) []
unfolding completion builtin_classes upwards interfaces_from is_within is_subtype_within int_wrap digits
enters n r f = rw f refl

goes_back : (n r : ℕ) → nat_le 1000000 r ≡ false → after 1 entries (entered 6 [] (Some 0) n r) ≡ top n (r + 1)
unfolding refusal next completion builtin_classes upwards interfaces_from is_within is_subtype_within int_wrap digits
goes_back n r e = rw e refl

loop : (n r : ℕ) → r < 999998 → n < 65535 → after 3 entries (top n r) ≡ top (n + 1) (r + 1 + 1 + 1)
loop n r h k =
    let one = loads n r (lt-leb 1000000 r (omega (arith, h))) in
    let two = goes_on entries (entered 5 (Ref (Some 3) ∷ []) (Some 0) n (r + 1)) (entered 6 [] (Some 0) (n + 1) (r + 1))
    [] (enters n (r + 1) (lt-leb 65535 n k)) refl refl (lt-leb 1000000 (r + 1) (omega (arith, h))) in
    let three = goes_back (n + 1) (r + 1 + 1) (lt-leb 1000000 (r + 1 + 1) (omega (arith, h))) in
    more 1 2 entries (top n r) (entered 5 (Ref (Some 3) ∷ []) (Some 0) n (r + 1)) (top (n + 1) (r + 1 + 1 + 1)) one
    (more 1 1 entries (entered 5 (Ref (Some 3) ∷ []) (Some 0) n (r + 1)) (entered 6 [] (Some 0) (n + 1) (r + 1 + 1))
    (top (n + 1) (r + 1 + 1 + 1)) two three)

-- ---- so many loops

loops : (k n r : ℕ) → n + k ≤ 65535 → r + k * 3 ≤ 999000 → after (k * 3) entries (top n r) ≡ top (n + k) (r + k * 3)
loops zero n r h g =
    let a : zero * 3 ≡ 0 = omega arith in
    let b : n + zero ≡ n = omega arith in
    let c : r + zero * 3 ≡ r = omega arith in
    rw (a, b, c) refl
loops (suc k) n r h g =
    let a : suc k * 3 ≡ 3 + k * 3 = omega arith in
    let b : n + suc k ≡ n + 1 + k = omega arith in
    let c : r + suc k * 3 ≡ r + 1 + 1 + 1 + k * 3 = omega arith in
    rw (b, c, a) (more 3 (k * 3) entries (top n r) (top (n + 1) (r + 1 + 1 + 1))
    (top (n + 1 + k) (r + 1 + 1 + 1 + k * 3)) (loop n r (omega (arith, h, g)) (omega (arith, h, g)))
    (loops k (n + 1) (r + 1 + 1 + 1) (omega (arith, h)) (omega (arith, g))))

-- ---- all rows

abbrev full : World
full = record (entered 5 (Ref (Some 3) ∷ []) (Some 0) 65535 196609) { fault = Some (MonitorLimit, 0) }

last_entry : after 2 entries (top 65535 196607) ≡ full
unfolding refusal next completion builtin_classes upwards interfaces_from is_within is_subtype_within int_wrap digits
last_entry = refl

all_loops : after 196602 entries (top 1 5) ≡ top 65535 196607
all_loops = loops 65534 1 5 (omega arith) (omega arith)

entries-run : run 196609 entries ≡ full
entries-run =
    let w = opening_world entries in
    let all = more 5 196602 entries w (top 1 5) (top 65535 196607) first_entry all_loops in
    more 196607 2 entries w (top 65535 196607) full all last_entry

-- the turn after it is refused
entries-stopped : after 1 entries full ≡ full
unfolding refusal next completion builtin_classes upwards interfaces_from is_within is_subtype_within int_wrap digits
entries-stopped = refl
