-- Programs of several threads: two monitors that two threads enter in opposite orders, a thread that is started twice,
-- and a 65th thread.
use Rattle.std.specs.Prelude.{◌≡◌, ℕ, zero, suc, ◌+◌, List, [], ◌∷◌, ◌++◌, replicate, Option, Some, None, codes, refl}
use Rattle.std.specs.List.{find}
use Rattle.std.specs.Int.{int_wrap}
use Rattle.std.specs.Fmt.{digits}
use Rattle.model.specs.declared.instructions.Access.TheVariants.{Get, Put}
use Rattle.model.specs.declared.instructions.ClassOperation.TheVariants.{New}
use Rattle.model.specs.declared.instructions.Test.TheVariants.{Always}
use Rattle.model.specs.declared.instructions.Width.TheVariants.{Narrow}
use Rattle.model.specs.declared.instructions.Invocation.TheVariants.{Virtual}
use Rattle.model.specs.declared.instructions.MonitorOperation.TheVariants.{Enter, Exit}
use Rattle.model.specs.declared.instructions.StackOperation.TheVariants.{Dup}
use Rattle.model.specs.declared.instructions.Instruction.TheVariants.{Branch, Class, Invoke, Stack}
use Rattle.model.specs.declared.instructions.Instruction.TheVariants.{Static as StaticField, Monitor}
use Rattle.model.specs.declared.values.Value.{Value}
use Rattle.model.specs.declared.values.Value.TheVariants.{Ref}
use Rattle.model.specs.declared.turns.ClassState.TheVariants.{Done as Initialised}
use Rattle.model.specs.declared.values.Entry.TheVariants.{Holds}
use Rattle.model.specs.declared.listings.Field.{Field}
use Rattle.model.specs.declared.turns.Actor.TheVariants.{Thread as ByThread}
use Rattle.model.specs.declared.turns.Fault.TheVariants.{ThreadLimit}
use Rattle.model.specs.declared.turns.Status.TheVariants.{Stuck}
use Rattle.model.specs.ClassListings.{ClassListing}
use Rattle.model.specs.Classes.Builtin.{builtin_classes}
use Rattle.model.specs.Classes.Search.{upwards, interfaces_from}
use Rattle.model.specs.Classes.Subclasses.{is_within}
use Rattle.model.specs.Classes.Types.{is_subtype_within}
use Rattle.model.specs.Worlds.{World, Thread, Object, FieldValue, opening_world, opening_objects}
use Rattle.model.specs.Worlds.Thread.{Live, Ended}
use Rattle.model.specs.Effects.Choice.{NewObject}
use Rattle.model.specs.Ready.{is_ready, thread_numbers}
use Rattle.model.specs.Observers.{cyclic_from, status_in}
use Rattle.model.specs.Table.Next.{completion, next}
use Rattle.model.specs.Turns.{refusal, ideal_step}
use Rattle.model.proofs.TableRows.Listings.{Sized, return, ample, after, run, more}
use Rattle.model.proofs.TableRows.Sites.{class, method, member, place, frame, object}

abbrev new : List ℕ → Sized
new name = (3, Class New name)

abbrev object_class : List ℕ
object_class = codes "java/lang/Object"

abbrev thread_class : List ℕ
thread_class = codes "java/lang/Thread"

abbrev start : List ℕ → Sized
start name = (3, Invoke Virtual (member name (codes "start") (codes "()V")))

-- ---- D's main enters a, then b; its run enters b, then a

abbrev static_field : List ℕ → Field
static_field name = record {
  flags = record { 0 = 8 };
  name = name;
  descriptor = codes "Ljava/lang/Object;";
  constant = None;
}

abbrev get : List ℕ → Sized
get name = (3, StaticField Get (member (codes "D") name (codes "Ljava/lang/Object;")))

abbrev put : List ℕ → Sized
put name = (3, StaticField Put (member (codes "D") name (codes "Ljava/lang/Object;")))

abbrev enter : Sized
enter = (1, Monitor Enter)

abbrev exit : Sized
exit = (1, Monitor Exit)

-- one monitor is entered, then the other, and they are left in the opposite order
abbrev crossing : List ℕ → List ℕ → List Sized
crossing first second = get first ∷ enter ∷ get second ∷ enter ∷ get second ∷ exit ∷ get first ∷ exit ∷ return ∷ []

abbrev a : List ℕ
a = codes "a"

abbrev b : List ℕ
b = codes "b"

abbrev crossings : List ClassListing
crossings = record (class (codes "D") thread_class [] (
    method 9 (codes "main") (codes "()V") 1 0 (new object_class ∷ put a ∷ new object_class ∷ put b ∷ new (codes "D")
    ∷ start (codes "D") ∷ crossing a b) ∷
    method 1 (codes "run") (codes "()V") 1 1 (crossing b a) ∷ [])) { fields = static_field a ∷ static_field b ∷ [] }
    ∷ []

-- the first ready thread in cyclic order from a number on
abbrev picked : List ClassListing → World → ℕ → Option ℕ
picked program w first = find (is_ready program w) (cyclic_from first (thread_numbers w))

-- turns of these threads
abbrev acted : List ClassListing → List ℕ → World → World
acted program [] w = w
acted program (t ∷ ts) w = acted program ts (ideal_step program ample w (ByThread t) NewObject)

-- which threads are picked when these have their turns, the last one for the turn after them
abbrev picks : List ClassListing → List ℕ → ℕ → World → List (Option ℕ)
picks program [] first w = picked program w first ∷ []
picks program (t ∷ ts) first w = picked program w first
    ∷ picks program ts (t + 1) (ideal_step program ample w (ByThread t) NewObject)

-- twelve rows: six of main, and then the threads take turns
abbrev opening : World
opening = opening_world crossings

abbrev holding : List ℕ → ℕ → FieldValue
holding name birth = record {
  class = codes "D";
  name = name;
  descriptor = codes "Ljava/lang/Object;";
  value = Ref (Some birth);
}

-- entered once, by its owner
abbrev monitored : Option ℕ → Object
monitored None = object object_class None 0 None
monitored (Some t) = object object_class (Some t) 1 None

-- with this main and this thread, and these owners of the monitors
abbrev crossed : List Thread → Option ℕ → Option ℕ → ℕ → World
crossed threads owner_of_a owner_of_b rows = record opening {
  threads = threads;
  statics = record { fields = holding a 3 ∷ holding b 4 ∷ []; states = Initialised ∷ [] };
  objects = opening_objects ++ monitored owner_of_a ∷ monitored owner_of_b ∷ object (codes "D") None 0 (Some 1) ∷ [];
  rows = rows;
}

abbrev main_at : ℕ → List Value → Thread
main_at pc stack = Live (frame (place 0 0) pc [] stack 1 None ∷ [])

abbrev run_at : ℕ → List Value → Thread
run_at pc stack = Live (frame (place 0 1) pc (Holds (Ref (Some 5)) ∷ []) stack 1 None ∷ [])

abbrev begun : World
begun = crossed (main_at 18 [] ∷ run_at 0 [] ∷ []) None None 6

crossings-six : acted crossings (replicate 6 0) opening ≡ begun
unfolding refusal next completion builtin_classes upwards interfaces_from is_within is_subtype_within int_wrap digits
crossings-six = refl

crossings-six_picks : picks crossings (replicate 5 0) 0 opening ≡ replicate 6 (Some 0)
unfolding refusal next completion builtin_classes upwards interfaces_from is_within is_subtype_within int_wrap digits
crossings-six_picks = refl

abbrev one_each : World
one_each = crossed (main_at 22 [] ∷ run_at 4 [] ∷ []) (Some 0) (Some 1) 10

crossings-ten : acted crossings (1 ∷ 0 ∷ 1 ∷ 0 ∷ []) begun ≡ one_each
unfolding refusal next completion builtin_classes upwards interfaces_from is_within is_subtype_within int_wrap digits
crossings-ten = refl

crossings-ten_picks : picks crossings (1 ∷ 0 ∷ 1 ∷ []) 1 begun ≡ Some 1 ∷ Some 0 ∷ Some 1 ∷ Some 0 ∷ []
unfolding refusal next completion builtin_classes upwards interfaces_from is_within is_subtype_within int_wrap digits
crossings-ten_picks = refl

-- each thread owns a monitor, and stands at the entry into the other's
abbrev both_waiting : World
both_waiting = crossed (main_at 25 (Ref (Some 4) ∷ []) ∷ run_at 7 (Ref (Some 3) ∷ []) ∷ []) (Some 0) (Some 1) 12

crossings-twelve : acted crossings (1 ∷ 0 ∷ []) one_each ≡ both_waiting
unfolding refusal next completion builtin_classes upwards interfaces_from is_within is_subtype_within int_wrap digits
crossings-twelve = refl

crossings-twelve_picks : picks crossings (1 ∷ 0 ∷ []) 1 one_each ≡ Some 1 ∷ Some 0 ∷ None ∷ []
unfolding refusal next completion builtin_classes upwards interfaces_from is_within is_subtype_within int_wrap digits
crossings-twelve_picks = refl

crossings-stuck : status_in crossings both_waiting ≡ Stuck
unfolding refusal next completion builtin_classes upwards interfaces_from is_within is_subtype_within int_wrap digits
crossings-stuck = refl

-- neither has a turn any more
crossings-refused : acted crossings (0 ∷ 1 ∷ []) both_waiting ≡ both_waiting
unfolding refusal next completion builtin_classes upwards interfaces_from is_within is_subtype_within int_wrap digits
crossings-refused = refl

-- one after the other: 15 rows of thread 0, and 9 of thread 1
crossings-main : acted crossings (replicate 9 0) begun ≡ crossed (Ended None ∷ run_at 0 [] ∷ []) None None 15
unfolding refusal next completion builtin_classes upwards interfaces_from is_within is_subtype_within int_wrap digits
crossings-main = refl

crossings-run : acted crossings (replicate 9 1) (crossed (Ended None ∷ run_at 0 [] ∷ []) None None 15)
    ≡ crossed (Ended None ∷ Ended None ∷ []) None None 24
unfolding refusal next completion builtin_classes upwards interfaces_from is_within is_subtype_within int_wrap digits
crossings-run = refl

-- ---- a thread that is started twice: the second start's turn makes an exception

abbrev twice : List ClassListing
twice = class (codes "T") thread_class [] (method 9 (codes "main") (codes "()V") 2 0 (new (codes "T") ∷ (1, Stack Dup)
    ∷ start (codes "T") ∷ start (codes "T") ∷ return ∷ []) ∷ []) ∷ []

twice-end : run 4 twice ≡ record (opening_world twice) {
  threads = Ended (Some (codes "java/lang/IllegalThreadStateException")) ∷ Ended None ∷ [];
  objects = opening_objects ++ object (codes "T") None 0 (Some 1)
      ∷ object (codes "java/lang/IllegalThreadStateException") None 0 None ∷ [];
  rows = 4;
}
unfolding refusal next completion builtin_classes upwards interfaces_from is_within is_subtype_within int_wrap digits
twice-end = refl

-- ---- T's main starts one thread after another, each of which ends at once: the 64th start is F8, in row 191

abbrev starts : List ClassListing
starts = class (codes "T") thread_class [] (method 9 (codes "main") (codes "()V") 1 0 (new (codes "T")
    ∷ start (codes "T") ∷ (3, Branch (Always Narrow) 0) ∷ []) ∷ []) ∷ []

abbrev started_from : ℕ → ℕ → List Object
started_from first zero = []
started_from first (suc n) = object (codes "T") None 0 (Some first) ∷ started_from (first + 1) n

-- at the top, when so many threads were started
abbrev started : ℕ → World
started n = record (opening_world starts) {
  threads = Live (frame (place 0 0) 0 [] [] 1 None ∷ []) ∷ replicate n (Ended None);
  objects = opening_objects ++ started_from 1 n;
  rows = n + n + n;
}

-- the new object is on main's stack, and the fault is recorded
abbrev full : World
full = record (started 63) {
  threads = Live (frame (place 0 0) 3 [] (Ref (Some 66) ∷ []) 1 None ∷ []) ∷ replicate 63 (Ended None);
  objects = opening_objects ++ started_from 1 63 ++ object (codes "T") None 0 None ∷ [];
  fault = Some (ThreadLimit, 0);
  rows = 191;
}

starts-10 : after 30 starts (opening_world starts) ≡ started 10
unfolding refusal next completion builtin_classes upwards interfaces_from is_within is_subtype_within int_wrap digits
starts-10 = refl

starts-20 : after 30 starts (started 10) ≡ started 20
unfolding refusal next completion builtin_classes upwards interfaces_from is_within is_subtype_within int_wrap digits
starts-20 = refl

starts-30 : after 30 starts (started 20) ≡ started 30
unfolding refusal next completion builtin_classes upwards interfaces_from is_within is_subtype_within int_wrap digits
starts-30 = refl

starts-40 : after 30 starts (started 30) ≡ started 40
unfolding refusal next completion builtin_classes upwards interfaces_from is_within is_subtype_within int_wrap digits
starts-40 = refl

starts-50 : after 30 starts (started 40) ≡ started 50
unfolding refusal next completion builtin_classes upwards interfaces_from is_within is_subtype_within int_wrap digits
starts-50 = refl

starts-60 : after 30 starts (started 50) ≡ started 60
unfolding refusal next completion builtin_classes upwards interfaces_from is_within is_subtype_within int_wrap digits
starts-60 = refl

starts-63 : after 9 starts (started 60) ≡ started 63
unfolding refusal next completion builtin_classes upwards interfaces_from is_within is_subtype_within int_wrap digits
starts-63 = refl

starts-65th : after 2 starts (started 63) ≡ full
unfolding refusal next completion builtin_classes upwards interfaces_from is_within is_subtype_within int_wrap digits
starts-65th = refl

starts-all : run 191 starts ≡ full
starts-all =
    let w = opening_world starts in
    let to_20 = more 30 30 starts w (started 10) (started 20) starts-10 starts-20 in
    let to_30 = more 60 30 starts w (started 20) (started 30) to_20 starts-30 in
    let to_40 = more 90 30 starts w (started 30) (started 40) to_30 starts-40 in
    let to_50 = more 120 30 starts w (started 40) (started 50) to_40 starts-50 in
    let to_60 = more 150 30 starts w (started 50) (started 60) to_50 starts-60 in
    let to_63 = more 180 9 starts w (started 60) (started 63) to_60 starts-63 in
    more 189 2 starts w (started 63) full to_63 starts-65th
