use Rattle.std.proofs.Common.{◌≡◌, ◌==◌, ℕ, zero, suc, ◌-◌, ℤ, pos, negsuc, List, [], ◌∷◌, ◌++◌, length, map}
use Rattle.std.proofs.Common.{drop, reverse, set, slice_get, take, Bool, true, false, ◌&&◌, ◌||◌, not, if◌then◌else◌, is_some, nat_le, position}
use Rattle.std.proofs.Common.{Option, Some, None, Result, Ok, Err, refl, sym, ◌∙◌, ap, arith, codes}
use Rattle.std.specs.List.{list_any, slice_index_or}
use Rattle.std.specs.Option.{option_map, option_map_or, option_and_then}
use Rattle.std.proofs.lemmas.Bool.{eq-eqb, eqb-true, ne_eqb}
use Rattle.std.proofs.lemmas.List.{map-append, reverse-append, length-append}
use Rattle.std.proofs.lemmas.List.Quantifiers.{position-Some}
use Rattle.model.specs.declared.builtins.Builtin.{Builtin}
use Rattle.model.specs.declared.builtins.Builtin.TheVariants.{PrintInt, PrintLong, PutByte, Initialize, RunThread}
use Rattle.model.specs.declared.builtins.Builtin.TheVariants.{StartThread, JoinThread}
use Rattle.model.specs.declared.instructions.Access.{Access}
use Rattle.model.specs.declared.instructions.Access.TheVariants.{Get, Put}
use Rattle.model.specs.declared.instructions.ArrayOperation.{ArrayOperation}
use Rattle.model.specs.declared.instructions.ArrayOperation.TheVariants.{New, NewOf, Length, Load, Store}
use Rattle.model.specs.declared.instructions.ClassOperation.{ClassOperation}
use Rattle.model.specs.declared.instructions.ClassOperation.TheVariants.{New as NewObjectOf, CheckCast, InstanceOf}
use Rattle.model.specs.declared.instructions.ElementKind.{ElementKind}
use Rattle.model.specs.declared.instructions.Instruction.TheVariants.{Nop, Constant, Local, Stack, Number, Branch}
use Rattle.model.specs.declared.instructions.Instruction.TheVariants.{TableSwitch, LookupSwitch, Return}
use Rattle.model.specs.declared.instructions.Instruction.TheVariants.{Static as StaticField, Field, Array, Class}
use Rattle.model.specs.declared.instructions.Instruction.TheVariants.{Invoke, Throw as ThrowIt, Monitor as MonitorIt}
use Rattle.model.specs.declared.instructions.Invocation.{Invocation}
use Rattle.model.specs.declared.instructions.Invocation.TheVariants.{Virtual, Special, Static, Interface}
use Rattle.model.specs.declared.instructions.MonitorOperation.{MonitorOperation}
use Rattle.model.specs.declared.instructions.MonitorOperation.TheVariants.{Enter, Exit}
use Rattle.model.specs.declared.listings.Method.{Method}
use Rattle.model.specs.declared.listings.Placed.{Placed}
use Rattle.model.specs.declared.names.Member.{Member}
use Rattle.model.specs.declared.places.MethodPlace.{MethodPlace}
use Rattle.model.specs.declared.turns.Abrupt.{Abrupt}
use Rattle.model.specs.declared.turns.Abrupt.TheVariants.{Fault as Faulted, Throw}
use Rattle.model.specs.declared.turns.ClassState.{ClassState}
use Rattle.model.specs.declared.turns.ClassState.TheVariants.{Unused, Running, Done, Failed}
use Rattle.model.specs.declared.turns.Exception.{Exception}
use Rattle.model.specs.declared.turns.Exception.TheVariants.{Arithmetic, NullPointer, ClassCast, NegativeArraySize}
use Rattle.model.specs.declared.turns.Exception.TheVariants.{ArrayStore, IllegalMonitorState, ArrayIndexOutOfBounds}
use Rattle.model.specs.declared.turns.Exception.TheVariants.{IllegalThreadState, StackOverflow, ExceptionInInitializer}
use Rattle.model.specs.declared.turns.Exception.TheVariants.{NoClassDefFound}
use Rattle.model.specs.declared.turns.Fault.{Fault}
use Rattle.model.specs.declared.turns.Fault.TheVariants.{MonitorLimit, StackFull, WrongClass}
use Rattle.model.specs.declared.turns.Mark.{Mark}
use Rattle.model.specs.declared.turns.Mark.TheVariants.{Unmarked, Waiting, Failing}
use Rattle.model.specs.declared.values.Kind.{Kind}
use Rattle.model.specs.declared.values.Value.{Value}
use Rattle.model.specs.declared.values.Value.TheVariants.{Int, Ref}
use Rattle.model.specs.Callees.{CodedMethod, Callee, callee_by, callee_of, coded}
use Rattle.model.specs.Callees.Callee.{Own, Coded, NoCode}
use Rattle.model.specs.Classes.Exceptions.{exception_class}
use Rattle.model.specs.Classes.MethodPlaces.{is_method, place_in, place_of}
use Rattle.model.specs.Classes.Named.{class_named, is_named, superclass_in}
use Rattle.model.specs.Classes.Resolution.{resolved_method}
use Rattle.model.specs.Classes.Search.{Declared, superclasses}
use Rattle.model.specs.Classes.Selection.{selected}
use Rattle.model.specs.Classes.Types.{is_subtype}
use Rattle.model.specs.ClassListings.{ClassListing}
use Rattle.model.specs.CodeListings.{CodeListing}
use Rattle.model.specs.Completions.{Completion, Site, completes, completes_abruptly, frames_in, moves_in, raises, with_frame}
use Rattle.model.specs.Completions.Completion.{Goes, Prints, Creates, Throws, Raises, Denies, Faults, Waits}
use Rattle.model.specs.Effects.{Choice, created_on, created_with, effect_of}
use Rattle.model.specs.Effects.Choice.{NewObject, NoRoom}
use Rattle.model.specs.Frames.{Frame, Moved, running, running_frame, no_frame, with_running, callers, replaced, replaced_if_room}
use Rattle.model.specs.Frames.{int_on, ref_on, within_limits}
use Rattle.model.specs.Initialisation.{Chain, callers_waiting, chain_from, chain_if, chain_of, chain_with, declares_initializer}
use Rattle.model.specs.Initialisation.{framed, initializer_frames, initializer_place, is_initializer_if, runs_initializer, started_at}
use Rattle.model.specs.Initialisation.{with_states}
use Rattle.model.specs.Locals.{arguments_on, called_frame, frames_of_call, value_on}
use Rattle.model.specs.Monitors.{entered, exited, is_full, is_owner, may_enter, monitor_of, released, released_all}
use Rattle.model.specs.Monitors.{with_monitor_of}
use Rattle.model.specs.Objects.{class_at, class_of, made_of, object_at, with_new, with_object}
use Rattle.model.specs.Programs.{code_at, empty_initializer, instruction_of, is_class_initializer, method_at}
use Rattle.model.specs.Results.{Effect, faulted}
use Rattle.model.specs.Signatures.{argument_kinds}
use Rattle.model.specs.Stores.{Storage, kept, storage_of}
use Rattle.model.specs.Unwinding.{Landing, Response, Way, initialised_by, landed, response_of, thrown, way_from, way_of, without}
use Rattle.model.specs.Unwinding.{failing, handling}
use Rattle.model.specs.Unwinding.Landing.{Handled, Stopped, Unhandled}
use Rattle.model.specs.Unwinding.Response.{Handles, Fails, Leaves}
use Rattle.model.specs.Words.{contents_at, slot_at, with_slot, with_word, with_word_in, word_of}
use Rattle.model.specs.Worlds.{World, Contents, Monitor, Object, Thread, frames_at, frames_of, next_birth, plain_object}
use Rattle.model.specs.Worlds.{with_class_states, with_thread}
use Rattle.model.specs.Worlds.Contents.{Instance, Array as ArrayOf}
use Rattle.model.specs.Worlds.Thread.{Live, Ended}
use Rattle.model.specs.Table.Arrays.{array_made, array_operated, array_stored, element_got, element_put, length_of, loaded, measured}
use Rattle.model.specs.Table.Arrays.{put_if, sized}
use Rattle.model.specs.Table.Branches.{branched}
use Rattle.model.specs.Table.Builtins.{builtin_call, prints_on}
use Rattle.model.specs.Table.Constants.{constant_value}
use Rattle.model.specs.Table.Fields.{field_accessed, field_got, field_put, field_put_in, word_got, word_put}
use Rattle.model.specs.Table.Initialisation.{after_initialising, claims, initialises as initialises_at}
use Rattle.model.specs.Table.Invokes.{Call, arguments_in, called, called_on, enters_frame, fault_in_pops, frames_entered}
use Rattle.model.specs.Table.Invokes.{guarded, invoked}
use Rattle.model.specs.Table.Invokes.{method_monitor, on_object, selected_for, special_for, world_entered}
use Rattle.model.specs.Table.Locals.{local}
use Rattle.model.specs.Table.Monitors.{enter_if, operates, operates_on}
use Rattle.model.specs.Table.Next.{Listed, at_frame, at_instruction, at_mark, by_family, class_used, completion, next}
use Rattle.model.specs.Table.Numbers.{number}
use Rattle.model.specs.Table.Objects.{cast, cast_if, class_operated, is_instance, reported_if, tested}
use Rattle.model.specs.Table.Returns.{gives, initialised_if, leaves_if, leaves_to, leaves_with, left_world, resumed}
use Rattle.model.specs.Table.Returns.{resumes, return_if}
use Rattle.model.specs.Table.Stacks.{rearranged}
use Rattle.model.specs.Table.Statics.{static_accessed, static_got, static_put}
use Rattle.model.specs.Table.Switches.{lookup_switched, table_switched}
use Rattle.model.specs.Table.Threads.{begins, joined, numbered, start_if, started, starts, thread_added}
use Rattle.model.specs.Table.Throws.{throws}
use Rattle.join.proofs.Lists.{get-newest, get-older, get-within}
use Rattle.exploration.specs.Reduction.{IsSettledAt, class_in, classes_in, initialises, thread_initialises}
use Rattle.exploration.proofs.MadeBirths.{get_below}
use Rattle.exploration.proofs.PlainFrames.{Calm, calm_branch, calm_local, calm_lookup, calm_number, calm_room, calm_stack, calm_table}
use Rattle.exploration.proofs.PlainFrames.{past_calm}

-- what plain steps look at stays as it is, whatever turns are made: an object's class, and that a class is initialised
-- for good

-- ---- lists none of whose items pass a test

pub neither : (x y : Bool) → (x || y) ≡ false → (x ≡ false) × (y ≡ false)
neither true y e = absurd (cc)
neither false y e = (refl, e)

pub fails_both : (x y : Bool) → x ≡ false → y ≡ false → (x || y) ≡ false
fails_both x y e k = ap (λ z. z || y) e ∙ k

module _ {A : Type 0} (p : A → Bool) where
  pub none_at : (xs : List A) (k : ℕ) (x : A) → list_any p xs ≡ false → slice_get xs k ≡ Some x → p x ≡ false
  none_at [] k x none e = absurd (cc)
  none_at (y ∷ ys) zero x none e = (let k = neither (p y) (list_any p ys) none in let s : y ≡ x = cc in ap p (sym s) ∙ k.0)
  none_at (y ∷ ys) (suc k) x none e = none_at ys k x (neither (p y) (list_any p ys) none).1 e

  pub none_set : (xs : List A) (k : ℕ) (x : A) → list_any p xs ≡ false → p x ≡ false → list_any p (set xs k x) ≡ false
  none_set [] k x none e = refl
  none_set (y ∷ ys) zero x none e = fails_both (p x) (list_any p ys) e (neither (p y) (list_any p ys) none).1
  none_set (y ∷ ys) (suc k) x none e =
      (let n = neither (p y) (list_any p ys) none in fails_both (p y) (list_any p (set ys k x)) n.0 (none_set ys k x n.1 e))

  pub none_more : (xs ys : List A) → list_any p xs ≡ false → list_any p ys ≡ false → list_any p (xs ++ ys) ≡ false
  none_more [] ys none e = e
  none_more (x ∷ xs) ys none e =
      (let n = neither (p x) (list_any p xs) none in fails_both (p x) (list_any p (xs ++ ys)) n.0 (none_more xs ys n.1 e))

  pub none_first : (xs ys : List A) → list_any p (xs ++ ys) ≡ false
      → (list_any p xs ≡ false) × (list_any p ys ≡ false)
  none_first [] ys none = (refl, none)
  none_first (x ∷ xs) ys none =
      (let n = neither (p x) (list_any p (xs ++ ys)) none in
      let k = none_first xs ys n.1 in (fails_both (p x) (list_any p xs) n.0 k.0, k.1))

  none_taken : (n : ℕ) (xs : List A) → list_any p xs ≡ false → list_any p (take n xs) ≡ false
  none_taken zero xs none = refl
  none_taken (suc n) [] none = refl
  none_taken (suc n) (x ∷ xs) none =
      (let k = neither (p x) (list_any p xs) none in fails_both (p x) (list_any p (take n xs)) k.0 (none_taken n xs k.1))

  pub any_same : (xs : List A) (k : ℕ) (x y : A) → slice_get xs k ≡ Some x → p y ≡ p x
      → list_any p (set xs k y) ≡ list_any p xs
  any_same [] k x y at e = refl
  any_same (z ∷ zs) zero x y at e =
      (let s : z ≡ x = cc in ap (λ (b : Bool). b || list_any p zs) (e ∙ ap p (sym s)))
  any_same (z ∷ zs) (suc k) x y at e = ap (λ (b : Bool). p z || b) (any_same zs k x y at e)

  none_reversed : (xs : List A) → list_any p xs ≡ false → list_any p (reverse xs) ≡ false
  none_reversed [] none = refl
  none_reversed (x ∷ xs) none =
      (let n = neither (p x) (list_any p xs) none in
      ap (list_any p) (reverse-append (x ∷ []) xs)
      ∙ none_more (reverse xs) (x ∷ []) (none_reversed xs n.1) (fails_both (p x) false n.0 refl))

pub index_get : {A : Type 0} (xs : List A) (k : ℕ) (x d : A) → slice_get xs k ≡ Some x → slice_index_or xs k d ≡ x
index_get [] k x d e = absurd (cc)
index_get (y ∷ ys) zero x d e = cc
index_get (y ∷ ys) (suc k) x d e = index_get ys k x d e

set_alike : {A B : Type 0} (f : A → B) (xs : List A) (k : ℕ) (x y : A) → slice_get xs k ≡ Some y → f x ≡ f y
    → map f (set xs k x) ≡ map f xs
set_alike f [] k x y e q = refl
set_alike f (z ∷ zs) zero x y e q = (let s : z ≡ y = cc in ap (λ v. v ∷ map f zs) (q ∙ ap f (sym s)))
set_alike f (z ∷ zs) (suc k) x y e q = ap (λ vs. f z ∷ vs) (set_alike f zs k x y e q)

-- ---- the last of some frames

pub last_runs : (fs : List Frame) (f : Frame) → running (fs ++ f ∷ []) ≡ Some f
last_runs fs f =
    let size : length (fs ++ f ∷ []) - 1 ≡ length fs = (let l = length-append fs (f ∷ []) in omega (arith, l)) in
    ap (slice_get (fs ++ f ∷ [])) size ∙ get-newest fs f

pub last_running : (fs : List Frame) (f : Frame) → running_frame (fs ++ f ∷ []) ≡ f
last_running fs f = index_get (fs ++ f ∷ []) (length (fs ++ f ∷ []) - 1) f no_frame (last_runs fs f)

pub split_last : (fs : List Frame) (f : Frame) → running fs ≡ Some f → callers fs ++ f ∷ [] ≡ fs
split_last [] f e = absurd (cc)
split_last (g ∷ fs) f e = split_at (g ∷ fs) (length (g ∷ fs) - 1) f (omega arith) e
  where
    split_at : (xs : List Frame) (k : ℕ) (x : Frame) → suc k ≡ length xs → slice_get xs k ≡ Some x
        → take k xs ++ x ∷ [] ≡ xs
    split_at [] k x l e = absurd (omega (arith, l))
    split_at (y ∷ []) zero x l e = (let s : y ≡ x = cc in ap (λ z. z ∷ []) (sym s))
    split_at (y ∷ z ∷ zs) zero x l e = absurd (omega (arith, l))
    split_at (y ∷ ys) (suc k) x l e = ap (λ zs. y ∷ zs) (split_at ys k x (omega (arith, l)) e)

-- ---- class states

set_done : (states : List ClassState) (k c : ℕ) → slice_index_or states c Done ≡ Done
    → slice_index_or (set states k Done) c Done ≡ Done
set_done [] k c e = refl
set_done (s ∷ states) zero zero e = refl
set_done (s ∷ states) zero (suc c) e = e
set_done (s ∷ states) (suc k) zero e = e
set_done (s ∷ states) (suc k) (suc c) e = set_done states k c e

set_other : (states : List ClassState) (k c : ℕ) (s : ClassState) → (k ≡ c → ⊥)
    → slice_index_or (set states k s) c Done ≡ slice_index_or states c Done
set_other [] k c s e = refl
set_other (x ∷ states) zero zero s e = absurd (e refl)
set_other (x ∷ states) zero (suc c) s e = refl
set_other (x ∷ states) (suc k) zero s e = refl
set_other (x ∷ states) (suc k) (suc c) s e = set_other states k c s (λ q. e (ap suc q))

abbrev AllOther : ℕ → List ℕ → Type 0
AllOther c [] = Unit {0}
AllOther c (k ∷ ks) = (k ≡ c → ⊥) × AllOther c ks

others_set : (s : ClassState) (ks : List ℕ) (states : List ClassState) (c : ℕ) → AllOther c ks
    → slice_index_or states c Done ≡ Done → slice_index_or (with_states s ks states) c Done ≡ Done
others_set s [] states c n e = e
others_set s (k ∷ ks) states c n e = others_set s ks (set states k s) c n.1 (set_other states k c s n.0 ∙ e)

-- an unused class is another one than an initialised one
unused_other : (states : List ClassState) (k c : ℕ) → slice_index_or states k Done ≡ Unused
    → slice_index_or states c Done ≡ Done → k ≡ c → ⊥
unused_other states k c u d e = (let r : Unused ≡ Done = sym u ∙ ap (λ n. slice_index_or states n Done) e ∙ d in cc)

module _ (states : List ClassState) (c : ℕ) (done : slice_index_or states c Done ≡ Done) where
  with_other : (k : ℕ) (s : ClassState) (further : Chain) → slice_index_or states k Done ≡ s
      → AllOther c further.unused → AllOther c (chain_with k s further).unused
  with_other k Unused further e n = (unused_other states k c e done, n)
  with_other k (Running t) further e n = tt
  with_other k Done further e n = tt
  with_other k Failed further e n = tt

  if_other : (o : Option ℕ) (further : Chain) → AllOther c further.unused → AllOther c (chain_if states o further).unused
  if_other None further n = tt
  if_other (Some k) further n = with_other k (slice_index_or states k Done) further refl n

  chain_other : (program : List ClassListing) (names : List (List ℕ)) → AllOther c (chain_from program states names).unused
  chain_other program [] = tt
  chain_other program (name ∷ names) = if_other (position (is_named name) program) (chain_from program states names)
      (chain_other program names)

-- ---- frames that run no initializer of a class

module _ (program : List ClassListing) where
  pub by_method : (c : ℕ) (f g : Frame) → g.method ≡ f.method → initialises program c g ≡ initialises program c f
  by_method c f g e = ap (λ (m : MethodPlace). is_initializer_if (method_at program m) && m.class == c) e

  -- what is called is declared by its class
  coded_place : (m : Method) (o : Option CodeListing) (p : Option MethodPlace) (k : CodedMethod) → coded m o p ≡ Coded k
      → p ≡ Some k.place
  coded_place m None p k e = absurd (cc)
  coded_place m (Some code) None k e = absurd (cc)
  coded_place m (Some code) (Some place) k e = ap (λ (x : Callee). place_if x) e
    where
      place_if : Callee → Option MethodPlace
      place_if (Own builtin) = None
      place_if (Coded z) = Some z.place
      place_if NoCode = None

  pub declared_place : (d : Declared Method) (o : Option Builtin) (k : CodedMethod) → callee_by program d o ≡ Coded k
      → place_of program d ≡ Some k.place
  declared_place d (Some builtin) k e = absurd (cc)
  declared_place d None k e = coded_place d.member d.member.code (place_of program d) k e

  callee_place : (o : Option (Declared Method)) (k : CodedMethod) → callee_of program o ≡ Coded k
      → (d : Declared Method) × (place_of program d ≡ Some k.place)
  callee_place None k e = absurd (cc)
  callee_place (Some d) k e = (d, declared_place d _ k e)

  module _ (d : Declared Method) (place : MethodPlace) where
    at_position : (n : ℕ) (l : ClassListing) (o : Option ℕ)
        → position (is_method d.member.name d.member.descriptor) l.methods ≡ o → slice_get program n ≡ Some l
        → option_map (λ (k : ℕ). let p : MethodPlace = record { class = n; method = k } in p) o ≡ Some place
        → (l : ClassListing) × (m : Method) × (slice_get program place.class ≡ Some l)
        × (slice_get l.methods place.method ≡ Some m)
    at_position n l None q at e = absurd (cc)
    at_position n l (Some k) q at e =
        let inside = position-Some (is_method d.member.name d.member.descriptor) l.methods k empty_initializer q in
        let m = get-within l.methods k inside.0 in
        let class : n ≡ place.class = ap (λ (o : Option MethodPlace). option_map_or (λ (p : MethodPlace). p.class) o 0) e in
        let method : k ≡ place.method = ap (λ (o : Option MethodPlace). option_map_or (λ (p : MethodPlace). p.method) o 0) e in
        (l, m.0, ap (slice_get program) (sym class) ∙ at, ap (slice_get l.methods) (sym method) ∙ m.1)

    at_class : (n : ℕ) (o : Option ClassListing) → slice_get program n ≡ o
        → option_and_then (λ (c : ClassListing). option_map (λ (k : ℕ). let p : MethodPlace = record { class = n; method = k } in p)
        (position (is_method d.member.name d.member.descriptor) c.methods)) o ≡ Some place
        → (l : ClassListing) × (m : Method) × (slice_get program place.class ≡ Some l)
        × (slice_get l.methods place.method ≡ Some m)
    at_class n None at e = absurd (cc)
    at_class n (Some l) at e =
        at_position n l (position (is_method d.member.name d.member.descriptor) l.methods) refl at e

    at_place : (o : Option ℕ) → option_and_then (place_in program d) o ≡ Some place
        → (l : ClassListing) × (m : Method) × (slice_get program place.class ≡ Some l)
        × (slice_get l.methods place.method ≡ Some m)
    at_place None e = absurd (cc)
    at_place (Some n) e = at_class n (slice_get program n) refl e

  module _ (c : ℕ) (undeclared : option_map_or declares_initializer (slice_get program c) false ≡ false) where
    callee_free : (o : Option (Declared Method)) (k : CodedMethod) → callee_of program o ≡ Coded k
        → (is_initializer_if (method_at program k.place) && k.place.class == c) ≡ false
    callee_free o k e =
        let d = callee_place o k e in
        let at = at_place d.0 k.place (position (is_named d.0.class) program) d.1 in
        by at.0 at.1 at.2 at.3 (k.place.class == c) refl
      where
        and_false : (x : Bool) → (x && false) ≡ false
        and_false true = refl
        and_false false = refl

        by : (l : ClassListing) (m : Method) → slice_get program k.place.class ≡ Some l
            → slice_get l.methods k.place.method ≡ Some m → (x : Bool) → (k.place.class == c) ≡ x
            → (is_initializer_if (method_at program k.place) && k.place.class == c) ≡ false
        by l m at in_class false e =
            ap (λ (x : Bool). is_initializer_if (method_at program k.place) && x) e
            ∙ and_false (is_initializer_if (method_at program k.place))
        by l m at in_class true e =
            let here : slice_get program c ≡ Some l = ap (slice_get program) (sym (eqb-true k.place.class c e)) ∙ at in
            let none : list_any is_class_initializer l.methods ≡ false =
            ap (λ (o : Option ClassListing). option_map_or declares_initializer o false) (sym here) ∙ undeclared in
            rw (at, in_class, none_at is_class_initializer l.methods k.place.method m none in_class) refl

-- ---- a world whose classes stay as they are

module _ (program : List ClassListing) (w : World) where
  pub record Stays (v : World) : Type 0 where
    pub classes : (b : ℕ) (class : List ℕ) → slice_get (classes_in w) b ≡ Some class
        → slice_get (classes_in v) b ≡ Some class
    pub settled : (c : ℕ) → IsSettledAt program w c → IsSettledAt program v c

  abbrev Settled : ℕ → Type 0
  Settled c = IsSettledAt program w c

  -- no frame of these runs an initializer of a class that is initialised for good
  abbrev Free : List Frame → Type 0
  Free fs = (c : ℕ) → Settled c → list_any (initialises program c) fs ≡ false

  abbrev OneFree : Frame → Type 0
  OneFree f = (c : ℕ) → Settled c → initialises program c f ≡ false

  free_in : (ts : List Thread) (t c : ℕ) → list_any (thread_initialises program c) ts ≡ false
      → list_any (initialises program c) (frames_of (slice_get ts t)) ≡ false
  free_in [] t c none = refl
  free_in (x ∷ ts) zero c none = (neither (thread_initialises program c x) (list_any (thread_initialises program c) ts) none).0
  free_in (x ∷ ts) (suc t) c none =
      free_in ts t c (neither (thread_initialises program c x) (list_any (thread_initialises program c) ts) none).1

  free_at : (t : ℕ) → Free (frames_at w t)
  free_at t c k = free_in w.threads t c k.not_running

  one_at : (fs : List Frame) (f : Frame) → Free fs → running fs ≡ Some f → OneFree f
  one_at fs f free e c k = none_at (initialises program c) fs (length fs - 1) f (free c k) e

  one_like : (f g : Frame) → OneFree f → g.method ≡ f.method → OneFree g
  one_like f g free e c k = by_method program c f g e ∙ free c k

  one_free : (f : Frame) → OneFree f → Free (f ∷ [])
  one_free f free c k = fails_both (initialises program c f) false (free c k) refl

  free_with : (fs : List Frame) (f : Frame) → Free fs → OneFree f → Free (with_running fs f)
  free_with fs f free one c k = none_set (initialises program c) fs (length fs - 1) f (free c k) (one c k)

  free_more : (fs gs : List Frame) → Free fs → Free gs → Free (fs ++ gs)
  free_more fs gs free other c k = none_more (initialises program c) fs gs (free c k) (other c k)

  free_callers : (fs : List Frame) → Free fs → Free (callers fs)
  free_callers fs free c k = none_taken (initialises program c) (length fs - 1) fs (free c k)

  -- the same objects' classes and threads, and no class that was initialised isn't any more
  pub record Like (v : World) : Type 0 where
    pub classes : classes_in v ≡ classes_in w
    pub threads : v.threads ≡ w.threads
    pub done : (c : ℕ) → Settled c → slice_index_or v.statics.states c Done ≡ Done

  record Keeps (v : World) : Type 0 where
    classes : classes_in v ≡ classes_in w
    settled : (c : ℕ) → Settled c → IsSettledAt program v c

  pub like_itself : Like w
  like_itself = record { classes = refl; threads = refl; done = λ c k. k.done }

  keeps_thread : (v : World) → Like v → (t : ℕ) (x : Thread) → Free (frames_of (Some x)) → Keeps (with_thread v t x)
  keeps_thread v like t x free = record {
    classes = like.classes;
    settled = λ c k. record {
      done = like.done c k;
      undeclared = k.undeclared;
      not_running = ap (λ ts. list_any (thread_initialises program c) (set ts t x)) like.threads
          ∙ none_set (thread_initialises program c) w.threads t x k.not_running (free c k);
    };
  }

  -- ---- objects

  like_object : (v : World) → Like v → (b : ℕ) (o q : Object) → object_at v b ≡ Some o → class_in q ≡ class_in o
      → Like (with_object v b q)
  like_object v like b o q at e = record {
    classes = set_alike class_in v.objects b q o at e ∙ like.classes;
    threads = like.threads;
    done = like.done;
  }

  pub like_monitor : (v : World) → Like v → (b : ℕ) (m : Monitor) → Like (with_monitor_of v b m)
  like_monitor v like b m = go (object_at v b) refl
    where
      go : (o : Option Object) → object_at v b ≡ o → Like (with_monitor_of v b m)
      go None e = rw e like
      go (Some o) e = rw e (like_object v like b o (record o { monitor = m }) e refl)

  word_class : (c : Contents) (place : ℕ) (v : Value) (m : Monitor) (t : Option ℕ)
      → class_in (record { contents = with_word_in c place v; monitor = m; thread = t })
      ≡ class_in (record { contents = c; monitor = m; thread = t })
  word_class (Instance class fields) place v m t = refl
  word_class (ArrayOf element values) place v m t = refl

  like_word : (v : World) → Like v → (b place : ℕ) (z : Value) → Like (with_word v b place z)
  like_word v like b place z = go (object_at v b) refl
    where
      go : (o : Option Object) → object_at v b ≡ o → Like (with_word v b place z)
      go None e = rw e like
      go (Some o) e = rw e (like_object v like b o (record o { contents = with_word_in o.contents place z }) e
          (word_class o.contents place z o.monitor o.thread))

  like_released : (v : World) → Like v → (t : ℕ) (o : Option ℕ) → Like (released v t o)
  like_released v like t None = like
  like_released v like t (Some b) = go (is_owner t (monitor_of v b).owner)
    where
      go : (x : Bool) → Like (if x then with_monitor_of v b (exited (monitor_of v b)) else v)
      go true = like_monitor v like b (exited (monitor_of v b))
      go false = like

  pub like_all : (v : World) → Like v → (t : ℕ) (os : List (Option ℕ)) → Like (released_all v t os)
  like_all v like t [] = like
  like_all v like t (o ∷ os) = like_all (released v t o) (like_released v like t o) t os

  -- ---- what a completion keeps

  abbrev Keeping : Completion → Type 0
  Keeping (Goes after writes) = Keeps after
  Keeping (Prints after bytes) = Keeps after
  Keeping (Creates next taken contents) = Unit {0}
  Keeping (Throws birth) = Unit {0}
  Keeping (Raises exception) = Unit {0}
  Keeping (Denies states) = (c : ℕ) → Settled c → slice_index_or states c Done ≡ Done
  Keeping (Faults fault) = Unit {0}
  Keeping Waits = Unit {0}

  raises_keep : (e : Exception) → Keeping (raises e)
  raises_keep Arithmetic = tt
  raises_keep NullPointer = tt
  raises_keep ClassCast = tt
  raises_keep NegativeArraySize = tt
  raises_keep ArrayStore = tt
  raises_keep IllegalMonitorState = tt
  raises_keep ArrayIndexOutOfBounds = tt
  raises_keep IllegalThreadState = tt
  raises_keep StackOverflow = tt
  raises_keep ExceptionInInitializer = tt
  raises_keep NoClassDefFound = tt

  abrupt_keeps : (a : Abrupt) → Keeping (completes_abruptly a)
  abrupt_keeps (Faulted fault) = tt
  abrupt_keeps (Throw e) = raises_keep e

  if_keeps : (x : Bool) (c d : Completion) → Keeping c → Keeping d → Keeping (if x then c else d)
  if_keeps true c d k l = k
  if_keeps false c d k l = l

module _ (s : Site) (runs : running (frames_in s) ≡ Some s.frame) where
  abbrev w : World
  w = s.world

  abbrev Kept : Completion → Type 0
  Kept c = Keeping s.program w c

  abbrev AsWas : World → Type 0
  AsWas v = Like s.program w v

  as_was : AsWas w
  as_was = like_itself s.program w

  free : Free s.program w (frames_in s)
  free = free_at s.program w s.thread

  own : OneFree s.program w s.frame
  own = one_at s.program w (frames_in s) s.frame free runs

  -- another running frame of the same method
  frame_kept : (v : World) → AsWas v → (f : Frame) → f.method ≡ s.frame.method → Keeps s.program w (with_frame v s f)
  frame_kept v like f e = keeps_thread s.program w v like s.thread (Live (with_running (frames_in s) f))
      (free_with s.program w (frames_in s) f free (one_like s.program w s.frame f own e))

  completes_kept : (r : Result Moved Abrupt) → Calm s.frame r → Kept (completes s r)
  completes_kept (Ok m) calm = frame_kept w as_was m.frame calm
  completes_kept (Err a) calm = abrupt_keeps s.program w a

  pushed_kept : (n : ℕ) (vs : List Value) → Kept (completes s (replaced_if_room s.next s.frame n vs))
  pushed_kept n vs = completes_kept (replaced_if_room s.next s.frame n vs) (calm_room s.next s.frame n vs)

  moved_kept : (n : ℕ) (vs : List Value) → Kept (moves_in w s (replaced s.next s.frame n vs))
  moved_kept n vs = frame_kept w as_was (replaced s.next s.frame n vs).frame refl

  -- ---- returns

  left_like : AsWas (left_world s)
  left_like = go (runs_initializer s.program s.frame)
    where
      released_like : AsWas (released w s.thread s.frame.monitor)
      released_like = like_released s.program w w as_was s.thread s.frame.monitor

      go : (x : Bool) → AsWas (initialised_if (released w s.thread s.frame.monitor) s.frame.method.class x)
      go true = record {
        classes = released_like.classes;
        threads = released_like.threads;
        done = λ c k. set_done (released w s.thread s.frame.monitor).statics.states s.frame.method.class c
            (released_like.done c k);
      }
      go false = released_like

  resumed_calm : (caller : Frame) (v : Option Value) (x : Bool) → Calm caller (resumed s caller v x)
  resumed_calm caller v true = refl
  resumed_calm caller v false = past_calm caller v (instruction_of s.program caller)

  resumes_kept : (caller : Frame) → running (callers (frames_in s)) ≡ Some caller → (r : Result Moved Abrupt)
      → Calm caller r → Kept (resumes s r)
  resumes_kept caller e (Err a) calm = abrupt_keeps s.program w a
  resumes_kept caller e (Ok m) calm =
      let below = free_callers s.program w (frames_in s) free in
      keeps_thread s.program w (left_world s) left_like s.thread (Live (with_running (callers (frames_in s)) m.frame))
      (free_with s.program w (callers (frames_in s)) m.frame below
      (one_like s.program w caller m.frame (one_at s.program w (callers (frames_in s)) caller below e) calm))

  leaves_kept : (v : Option Value) (o : Option Frame) → running (callers (frames_in s)) ≡ o → Kept (leaves_to s v o)
  leaves_kept v None e = keeps_thread s.program w (left_world s) left_like s.thread (Ended None) (λ c k. refl)
  leaves_kept v (Some caller) e = resumes_kept caller e (resumed s caller v (runs_initializer s.program s.frame))
      (resumed_calm caller v (runs_initializer s.program s.frame))

  left_kept : (v : Option Value) → Kept (leaves_with s v)
  left_kept v = leaves_kept v (running (callers (frames_in s))) refl

  leaves_if_kept : (r : Result Value Fault) → Kept (leaves_if s r)
  leaves_if_kept (Err fault) = tt
  leaves_if_kept (Ok v) = left_kept (Some v)

  return_kept : (kind : Option Kind) (x : Bool) → Kept (return_if s kind x)
  return_kept kind false = tt
  return_kept None true = left_kept None
  return_kept (Some kind) true = leaves_if_kept (value_on kind s.frame.stack)

  -- ---- fields

  static_got_kept : (o : Option ℕ) → Kept (static_got s o)
  static_got_kept None = tt
  static_got_kept (Some slot) = pushed_kept 0 (slot_at w slot ∷ [])

  static_put_kept : (descriptor : List ℕ) (r : Result Value Fault) (o : Option ℕ) → Kept (static_put s descriptor r o)
  static_put_kept descriptor (Err fault) o = tt
  static_put_kept descriptor (Ok v) None = tt
  static_put_kept descriptor (Ok v) (Some slot) =
      frame_kept (with_slot w slot (kept (storage_of descriptor) v))
      (record { classes = refl; threads = refl; done = λ c k. k.done }) (replaced s.next s.frame 1 []).frame refl

  static_kept : (access : Access) (m : Member) → Kept (static_accessed s access m)
  static_kept Get m = static_got_kept _
  static_kept Put m = static_put_kept m.descriptor _ _

  word_got_kept : (b : ℕ) (o : Option ℕ) → Kept (word_got s b o)
  word_got_kept b None = tt
  word_got_kept b (Some place) = pushed_kept 1 (word_of (contents_at w b) place ∷ [])

  field_got_kept : (m : Member) (r : Result (Option ℕ) Fault) → Kept (field_got s m r)
  field_got_kept m (Err fault) = tt
  field_got_kept m (Ok None) = tt
  field_got_kept m (Ok (Some b)) = word_got_kept b _

  word_kept : (n b place : ℕ) (v : Value) → Keeps s.program w (with_frame (with_word w b place v) s
      (replaced s.next s.frame n []).frame)
  word_kept n b place v = frame_kept (with_word w b place v) (like_word s.program w w as_was b place v)
      (replaced s.next s.frame n []).frame refl

  word_put_kept : (descriptor : List ℕ) (v : Value) (b : ℕ) (o : Option ℕ) → Kept (word_put s descriptor v b o)
  word_put_kept descriptor v b None = tt
  word_put_kept descriptor v b (Some place) = word_kept 2 b place (kept (storage_of descriptor) v)

  field_put_in_kept : (m : Member) (v : Value) (o : Option ℕ) → Kept (field_put_in s m v o)
  field_put_in_kept m v None = tt
  field_put_in_kept m v (Some b) = word_put_kept m.descriptor v b _

  field_put_kept : (m : Member) (r : Result (Value × Option ℕ) Fault) → Kept (field_put s m r)
  field_put_kept m (Err fault) = tt
  field_put_kept m (Ok p) = field_put_in_kept m p.0 p.1

  field_kept : (access : Access) (m : Member) → Kept (field_accessed s access m)
  field_kept Get m = field_got_kept m _
  field_kept Put m = field_put_kept m _

  -- ---- arrays and objects

  sized_kept : (element : List ℕ) (z : ℤ) → Kept (sized s element z)
  sized_kept element (pos k) = tt
  sized_kept element (negsuc k) = tt

  made_kept : (element : List ℕ) (r : Result ℤ Fault) → Kept (array_made s element r)
  made_kept element (Err fault) = tt
  made_kept element (Ok z) = sized_kept element z

  length_kept : (c : Contents) → Kept (length_of s c)
  length_kept (Instance class fields) = tt
  length_kept (ArrayOf element values) = moved_kept 1 (Int (pos (length values)) ∷ [])

  measured_kept : (r : Result (Option ℕ) Fault) → Kept (measured s r)
  measured_kept (Err fault) = tt
  measured_kept (Ok None) = tt
  measured_kept (Ok (Some b)) = length_kept _

  element_got_kept : (r : Result (ℕ × ℕ) Abrupt) → Kept (element_got s r)
  element_got_kept (Err a) = abrupt_keeps s.program w a
  element_got_kept (Ok p) = moved_kept 2 (word_of (contents_at w p.0) p.1 ∷ [])

  loaded_kept : (kind : ElementKind) (r : Result (ℤ × Option ℕ) Fault) → Kept (loaded s kind r)
  loaded_kept kind (Err fault) = tt
  loaded_kept kind (Ok p) = element_got_kept _

  put_if_kept : (storage : Storage) (v : Value) (p : ℕ × ℕ) (x : Bool) → Kept (put_if s storage v p x)
  put_if_kept storage v p true = word_kept 3 p.0 p.1 (kept storage v)
  put_if_kept storage v p false = tt

  element_put_kept : (storage : Storage) (v : Value) (r : Result (ℕ × ℕ) Abrupt) → Kept (element_put s storage v r)
  element_put_kept storage v (Err a) = abrupt_keeps s.program w a
  element_put_kept storage v (Ok p) = put_if_kept storage v p _

  stored_kept : (kind : ElementKind) (r : Result (Value × (ℤ × Option ℕ)) Fault) → Kept (array_stored s kind r)
  stored_kept kind (Err fault) = tt
  stored_kept kind (Ok p) = element_put_kept _ p.0 _

  array_kept : (o : ArrayOperation (List ℕ)) → Kept (array_operated s o)
  array_kept (New primitive) = made_kept _ _
  array_kept (NewOf name) = made_kept _ _
  array_kept Length = measured_kept _
  array_kept (Load kind) = loaded_kept kind _
  array_kept (Store kind) = stored_kept kind _

  cast_if_kept : (b : ℕ) (x : Bool) → Kept (cast_if s b x)
  cast_if_kept b true = moved_kept 1 (Ref (Some b) ∷ [])
  cast_if_kept b false = tt

  cast_kept : (name : List ℕ) (r : Result (Option ℕ) Fault) → Kept (cast s name r)
  cast_kept name (Err fault) = tt
  cast_kept name (Ok None) = moved_kept 1 (Ref None ∷ [])
  cast_kept name (Ok (Some b)) = cast_if_kept b _

  reported_kept : (x : Bool) → Kept (reported_if s x)
  reported_kept true = moved_kept 1 (Int (pos 1) ∷ [])
  reported_kept false = moved_kept 1 (Int (pos 0) ∷ [])

  tested_kept : (name : List ℕ) (r : Result (Option ℕ) Fault) → Kept (tested s name r)
  tested_kept name (Err fault) = tt
  tested_kept name (Ok None) = reported_kept false
  tested_kept name (Ok (Some b)) = reported_kept _

  class_kept : (o : ClassOperation) (name : List ℕ) → Kept (class_operated s o name)
  class_kept NewObjectOf name = tt
  class_kept CheckCast name = cast_kept name _
  class_kept InstanceOf name = tested_kept name _

  -- ---- calls

  -- a new frame of what is called
  entered_free : (o : Option (Declared Method)) (k : CodedMethod) → callee_of s.program o ≡ Coded k → (f : Frame)
      → f.method ≡ k.place → OneFree s.program w f
  entered_free o k e f at c settled =
      ap (λ (m : MethodPlace). is_initializer_if (method_at s.program m) && m.class == c) at
      ∙ callee_free s.program c settled.undeclared o k e

  frames_free : (o : Option (Declared Method)) (k : CodedMethod) → callee_of s.program o ≡ Coded k → (m : Option ℕ) (n : ℕ)
      → Free s.program w
      (guarded m (frames_of_call (frames_in s) k.place k.code.max_locals k.code.max_stack n))
  frames_free o k e m n =
      let top : running_frame (frames_in s) ≡ s.frame =
      index_get (frames_in s) (length (frames_in s) - 1) s.frame no_frame runs in
      let below = with_running (frames_in s) (record (running_frame (frames_in s))
      { stack = drop n (running_frame (frames_in s)).stack }) in
      let new = called_frame k.place k.code.max_locals k.code.max_stack
      (arguments_on n (running_frame (frames_in s)).stack) in
      let one = entered_free o k e new refl in
      let all = free_more s.program w below (new ∷ [])
      (free_with s.program w (frames_in s) _ free (one_like s.program w s.frame (record (running_frame (frames_in s))
      { stack = drop n (running_frame (frames_in s)).stack }) own (ap (λ (f : Frame). f.method) top)))
      (one_free s.program w new one) in
      free_with s.program w (below ++ new ∷ []) (record (running_frame (below ++ new ∷ [])) { monitor = m }) all
      (one_like s.program w new (record (running_frame (below ++ new ∷ [])) { monitor = m }) one
      (ap (λ (f : Frame). f.method) (last_running below new)))

  entered_like : (o : Option ℕ) → AsWas (world_entered s o)
  entered_like None = as_was
  entered_like (Some b) = like_monitor s.program w w as_was b (entered s.thread (monitor_of w b))

  abbrev call : Member → Option ℕ → Call
  call m o = record { site = s; member = m; object = o }

  enters_kept : (x y z : Bool) (c : Completion) → Kept c → Kept (if x then Waits else if y then raises StackOverflow
      else if z then Faults MonitorLimit else c)
  enters_kept true y z c k = tt
  enters_kept false true z c k = tt
  enters_kept false false true c k = tt
  enters_kept false false false c k = k

  -- ---- the machine's own methods

  prints_kept : (bytes : ℤ → List ℕ) (r : Result ℤ Fault) → Kept (prints_on s bytes r)
  prints_kept bytes (Err fault) = tt
  prints_kept bytes (Ok z) = moved_kept 1 []

  added_kept : (b : ℕ) (o : Object) (x : Thread) (ws : List ℕ) → object_at w b ≡ Some o → Free s.program w (frames_of (Some x))
      → Kept (thread_added s b o x ws)
  added_kept b o x ws at one =
      let k = frame_kept (numbered w b o)
      (like_object s.program w w as_was b o (record o { thread = Some (length w.threads) }) at refl)
      (replaced s.next s.frame 1 []).frame refl in
      record {
        classes = k.classes;
        settled = λ c settled. let z = k.settled c settled in record {
          done = z.done;
          undeclared = z.undeclared;
          not_running = none_more (thread_initialises s.program c)
              (with_frame (numbered w b o) s (replaced s.next s.frame 1 []).frame).threads (x ∷ []) z.not_running
              (fails_both (thread_initialises s.program c x) false (one c settled) refl);
        };
      }

  begins_kept : (b : ℕ) (o : Object) → object_at w b ≡ Some o → (d : Option (Declared Method)) (c : Callee)
      → callee_of s.program d ≡ c → Kept (begins s b o c)
  begins_kept b o at d NoCode e = tt
  begins_kept b o at d (Own builtin) e = added_kept b o (Ended None) [] at (λ c k. refl)
  begins_kept b o at d (Coded k) e =
      let f = called_frame k.place k.code.max_locals k.code.max_stack (Ref (Some b) ∷ []) in
      added_kept b o (Live (f ∷ [])) (b ∷ []) at (one_free s.program w f (entered_free d k e f refl))

  start_kept : (c : Completion) → Kept c → (started full : Bool) → Kept (start_if c started full)
  start_kept c k true full = tt
  start_kept c k false true = tt
  start_kept c k false false = k

  starts_kept : (b : ℕ) (o : Option Object) → object_at w b ≡ o → Kept (starts s b o)
  starts_kept b None e = tt
  starts_kept b (Some o) e =
      let d = selected s.program (class_of o.contents) (codes "run") (codes "()V") in
      start_kept (begins s b o (callee_of s.program d)) (begins_kept b o e d (callee_of s.program d) refl)
      (is_some o.thread) (nat_le 64 (length w.threads))

  started_kept : (r : Result (Option ℕ) Fault) → Kept (started s r)
  started_kept (Err fault) = tt
  started_kept (Ok None) = tt
  started_kept (Ok (Some b)) = starts_kept b (object_at w b) refl

  joined_kept : (r : Result (Option ℕ) Fault) → Kept (joined s r)
  joined_kept (Err fault) = tt
  joined_kept (Ok None) = tt
  joined_kept (Ok (Some b)) = if_keeps s.program w _ Waits (moves_in w s (replaced s.next s.frame 1 [])) tt (moved_kept 1 [])

  builtin_kept : (b : Builtin) → Kept (builtin_call s b)
  builtin_kept PrintInt = prints_kept _ _
  builtin_kept PrintLong = prints_kept _ _
  builtin_kept PutByte = prints_kept _ _
  builtin_kept Initialize = moved_kept 1 []
  builtin_kept RunThread = moved_kept 1 []
  builtin_kept StartThread = started_kept _
  builtin_kept JoinThread = joined_kept _

  called_kept : (m : Member) (o : Option ℕ) (d : Option (Declared Method)) (c : Callee) → callee_of s.program d ≡ c
      → Kept (called (call m o) c)
  called_kept m o d NoCode e = tt
  called_kept m o d (Own builtin) e = builtin_kept builtin
  called_kept m o d (Coded k) e = enters_kept _ _ _ (enters_frame (call m o) k)
      (keeps_thread s.program w (world_entered s (method_monitor (call m o) k))
      (entered_like (method_monitor (call m o) k)) s.thread (Live (frames_entered (call m o) k))
      (frames_free d k e (method_monitor (call m o) k) _))

  pops_kept : (o : Option Fault) (c : Completion) → Kept c → Kept (option_map_or Faults o c)
  pops_kept None c k = k
  pops_kept (Some fault) c k = tt

  called_on_kept : (m : Member) (method : ℕ → Option (Declared Method)) (r : Result (Option ℕ) Fault)
      → Kept (called_on s m method r)
  called_on_kept m method (Err fault) = tt
  called_on_kept m method (Ok None) = tt
  called_on_kept m method (Ok (Some b)) = if_keeps s.program w (not (is_subtype s.program (class_at w b) m.class))
      (Faults WrongClass) (called (call m (Some b)) (callee_of s.program (method b))) tt
      (called_kept m (Some b) (method b) (callee_of s.program (method b)) refl)

  on_object_kept : (m : Member) (method : ℕ → Option (Declared Method)) → Kept (on_object s m method)
  on_object_kept m method = pops_kept (fault_in_pops (reverse (argument_kinds m.descriptor)) s.frame.stack)
      (called_on s m method (ref_on (drop (arguments_in m) s.frame.stack)))
      (called_on_kept m method (ref_on (drop (arguments_in m) s.frame.stack)))

  invoked_kept : (i : Invocation) (m : Member) → Kept (invoked s i m)
  invoked_kept Static m = pops_kept (fault_in_pops (reverse (argument_kinds m.descriptor)) s.frame.stack)
      (called (call m None) (callee_of s.program (resolved_method s.program m)))
      (called_kept m None (resolved_method s.program m) (callee_of s.program (resolved_method s.program m)) refl)
  invoked_kept Virtual m = on_object_kept m (selected_for s m)
  invoked_kept Special m = on_object_kept m (λ b. special_for s m)
  invoked_kept (Interface count) m = on_object_kept m (selected_for s m)

  -- ---- throws and monitors

  throws_kept : (r : Result (Option ℕ) Fault) → Kept (throws s r)
  throws_kept (Err fault) = tt
  throws_kept (Ok None) = tt
  throws_kept (Ok (Some b)) = if_keeps s.program w (is_subtype s.program (class_at w b) (codes "java/lang/Throwable"))
      (Throws b) (Faults WrongClass) tt tt

  monitor_kept : (b : ℕ) (m : Monitor) → Keeps s.program w (with_frame (with_monitor_of w b m) s
      (replaced s.next s.frame 1 []).frame)
  monitor_kept b m = frame_kept (with_monitor_of w b m) (like_monitor s.program w w as_was b m)
      (replaced s.next s.frame 1 []).frame refl

  enter_kept : (c : Completion) → Kept c → (may full : Bool) → Kept (enter_if c may full)
  enter_kept c k false full = tt
  enter_kept c k true true = tt
  enter_kept c k true false = k

  operates_kept : (o : MonitorOperation) (b : ℕ) → Kept (operates s o b)
  operates_kept Enter b = enter_kept
      (moves_in (with_monitor_of w b (entered s.thread (monitor_of w b))) s (replaced s.next s.frame 1 []))
      (monitor_kept b (entered s.thread (monitor_of w b))) (may_enter s.thread (monitor_of w b).owner)
      (is_full (monitor_of w b))
  operates_kept Exit b = if_keeps s.program w (is_owner s.thread (monitor_of w b).owner)
      (moves_in (with_monitor_of w b (exited (monitor_of w b))) s (replaced s.next s.frame 1 []))
      (raises IllegalMonitorState) (monitor_kept b (exited (monitor_of w b))) tt

  operates_on_kept : (o : MonitorOperation) (r : Result (Option ℕ) Fault) → Kept (operates_on s o r)
  operates_on_kept o (Err fault) = tt
  operates_on_kept o (Ok None) = tt
  operates_on_kept o (Ok (Some b)) = if_keeps s.program w (is_instance s (codes "java/lang/Object") b) (operates s o b)
      (Faults WrongClass) (operates_kept o b) tt

  -- ---- initialisation

  waiting_same : (c : ℕ) (fs : List Frame) → list_any (initialises s.program c) (callers_waiting fs)
      ≡ list_any (initialises s.program c) fs
  waiting_same c [] = refl
  waiting_same c (f ∷ []) = refl
  waiting_same c (f ∷ g ∷ fs) = ap (λ (x : Bool). initialises s.program c f || x) (waiting_same c (g ∷ fs))

  one_started : (c : ℕ) (place : MethodPlace) → (place.class == c) ≡ false
      → (o : Option CodeListing) → list_any (initialises s.program c) (framed place o) ≡ false
  one_started c place other None = refl
  one_started c place other (Some code) = go (is_initializer_if (method_at s.program place))
    where
      go : (x : Bool) → ((x && place.class == c) || false) ≡ false
      go true = rw other refl
      go false = refl

  all_started : (c : ℕ) (classes : List ℕ) → AllOther c classes
      → list_any (initialises s.program c) (initializer_frames s.program classes) ≡ false
  all_started c [] n = refl
  all_started c (class ∷ classes) n = none_more (initialises s.program c) (started_at s.program (initializer_place s.program class)) _
      (one_started c (initializer_place s.program class) (ne_eqb class c n.0) (code_at s.program (initializer_place s.program class)))
      (all_started c classes n.1)

  claims_kept : (classes : List ℕ) → ((c : ℕ) → Settled s.program w c → AllOther c classes) → (c : Completion) → Kept c
      → Kept (claims s classes c)
  claims_kept [] others c k = k
  claims_kept (class ∷ classes) others c k =
      let new = callers_waiting (initializer_frames s.program (class ∷ classes)) in
      let frames = frames_in s ++ new in
      let like : AsWas (with_class_states w (with_states (Running s.thread) (class ∷ classes) w.statics.states)) = record {
        classes = refl;
        threads = refl;
        done = λ c settled. others_set (Running s.thread) (class ∷ classes) w.statics.states c (others c settled) settled.done;
      } in
      if_keeps s.program w (within_limits frames) _ (raises StackOverflow)
      (keeps_thread s.program w (with_class_states w (with_states (Running s.thread) (class ∷ classes) w.statics.states))
      like s.thread (Live frames)
      (free_more s.program w (frames_in s) new free
      (λ c settled. waiting_same c (initializer_frames s.program (class ∷ classes))
      ∙ all_started c (class ∷ classes) (others c settled)))) tt

  initialises_kept : (unused : List ℕ) → ((c : ℕ) → Settled s.program w c → AllOther c unused) → (state : ClassState)
      → (c : Completion) → Kept c → Kept (initialises_at s unused state c)
  initialises_kept unused others Unused c k = claims_kept unused others c k
  initialises_kept unused others (Running t) c k = if_keeps s.program w (t == s.thread) (claims s unused c) Waits
      (claims_kept unused others c k) tt
  initialises_kept unused others Done c k = claims_kept unused others c k
  initialises_kept unused others Failed c k =
      λ class settled. others_set Failed unused w.statics.states class (others class settled) settled.done

  after_kept : (class : Option (List ℕ)) (c : Completion) → Kept c → Kept (after_initialising s class c)
  after_kept None c k = k
  after_kept (Some class) c k = initialises_kept (chain_of s.program w.statics.states class).unused
      (λ z settled. chain_other w.statics.states z settled.done s.program
      (class ∷ superclasses s.program (superclass_in (class_named s.program class))))
      (chain_of s.program w.statics.states class).above c k

  -- ---- the whole table

  family_kept : (i : Listed) → Kept (by_family s i)
  family_kept Nop = moved_kept 0 []
  family_kept (Constant c) = pushed_kept 0 (constant_value c ∷ [])
  family_kept (Local access) = completes_kept (local s.next access s.frame) (calm_local s.next s.frame access)
  family_kept (Stack operation) = completes_kept (rearranged s.next operation s.frame) (calm_stack s.next s.frame operation)
  family_kept (Number operation) = completes_kept (number s.next operation s.frame) (calm_number s.next s.frame operation)
  family_kept (Branch test target) = completes_kept (branched s.next test target s.frame) (calm_branch s.next s.frame test target)
  family_kept (TableSwitch table) = completes_kept (table_switched table s.frame) (calm_table table s.frame (int_on s.frame.stack))
  family_kept (LookupSwitch lookup) = completes_kept (lookup_switched lookup s.frame) (calm_lookup lookup s.frame (int_on s.frame.stack))
  family_kept (Return kind) = return_kept kind (gives kind (method_at s.program s.frame.method))
  family_kept (StaticField access member) = static_kept access member
  family_kept (Field access member) = field_kept access member
  family_kept (Array operation) = array_kept operation
  family_kept (Class operation name) = class_kept operation name
  family_kept (Invoke invocation member) = invoked_kept invocation member
  family_kept ThrowIt = throws_kept (ref_on s.frame.stack)
  family_kept (MonitorIt operation) = operates_on_kept operation (ref_on s.frame.stack)

module _ (program : List ClassListing) (w : World) (t : ℕ) where
  instruction_kept : (f : Frame) → running (frames_at w t) ≡ Some f → (i : Option Placed)
      → Keeping program w (at_instruction program w t f i)
  instruction_kept f runs None = tt
  instruction_kept f runs (Some i) =
      let s : Site = record { program = program; world = w; thread = t; frame = f; next = i.next } in
      after_kept s runs (class_used program i.instruction) (by_family s i.instruction) (family_kept s runs i.instruction)

  mark_kept : (f : Frame) → running (frames_at w t) ≡ Some f → (m : Mark) → Keeping program w (at_mark program w t f m)
  mark_kept f runs Unmarked = instruction_kept f runs (instruction_of program f)
  mark_kept f runs Waiting = tt
  mark_kept f runs Failing = tt

  frame_at_kept : (o : Option Frame) → running (frames_at w t) ≡ o → Keeping program w (at_frame program w t o)
  frame_at_kept None runs = tt
  frame_at_kept (Some f) runs = mark_kept f runs f.mark

  completion_kept : Keeping program w (completion program w t)
  unfolding completion
  completion_kept = frame_at_kept (running (frames_at w t)) refl

-- ---- what a turn leaves

module _ (program : List ClassListing) where
  stays_still : (w : World) → Stays program w w
  stays_still w = record { classes = λ b class e. e; settled = λ c k. k }

  stays_then : (w v x : World) → Stays program w v → Stays program v x → Stays program w x
  stays_then w v x a b = record {
    classes = λ n class e. Stays.classes b n class (Stays.classes a n class e);
    settled = λ c k. Stays.settled b c (Stays.settled a c k);
  }

  keeps_stays : (w v : World) → Keeps program w v → Stays program w v
  keeps_stays w v k = record {
    classes = λ b class e. ap (λ cs. slice_get cs b) (Keeps.classes k) ∙ e;
    settled = Keeps.settled k;
  }

  fault_stays : (w : World) (t : ℕ) (fault : Fault) → Stays program w (faulted w t fault).after
  fault_stays w t fault = record {
    classes = λ b class e. e;
    settled = λ c k. record { done = k.done; undeclared = k.undeclared; not_running = k.not_running };
  }

  output_stays : (w : World) (bs : List ℕ) → Stays program w (record w { output = bs })
  output_stays w bs = record {
    classes = λ b class e. e;
    settled = λ c k. record { done = k.done; undeclared = k.undeclared; not_running = k.not_running };
  }

  states_stay : (w : World) (states : List ClassState) → ((c : ℕ) → IsSettledAt program w c → slice_index_or states c Done ≡ Done)
      → Stays program w (with_class_states w states)
  states_stay w states d = record {
    classes = λ b class e. e;
    settled = λ c k. record { done = d c k; undeclared = k.undeclared; not_running = k.not_running };
  }

  new_stays : (w : World) (o : Object) → Stays program w (with_new w o)
  new_stays w o = record {
    classes = λ b class e. ap (λ cs. slice_get cs b) (map-append class_in w.objects (o ∷ []))
        ∙ get-older (map class_in w.objects) (class_in o) b (get_below (map class_in w.objects) b class e) ∙ e;
    settled = λ c k. record { done = k.done; undeclared = k.undeclared; not_running = k.not_running };
  }

  -- ---- a throwable

  module _ (w : World) (t : ℕ) where
    abbrev Loose : List Frame → Type 0
    Loose fs = Free program w fs

    abbrev LandsFree : Landing → Type 0
    LandsFree (Handled handler f below) = Loose (f ∷ below)
    LandsFree (Stopped f below) = Loose (f ∷ below)
    LandsFree Unhandled = Unit {0}

    abbrev WayFree : Way → Type 0
    WayFree z = LandsFree z.landing × Loose z.left

    first_free : (f : Frame) (fs : List Frame) → Loose (f ∷ fs) → OneFree program w f
    first_free f fs loose c k = (neither (initialises program c f) (list_any (initialises program c) fs) (loose c k)).0

    rest_free : (f : Frame) (fs : List Frame) → Loose (f ∷ fs) → Loose fs
    rest_free f fs loose c k = (neither (initialises program c f) (list_any (initialises program c) fs) (loose c k)).1

    from_free : (f : Frame) (fs : List Frame) → Loose (f ∷ fs) → (r : Response) (z : Way) → WayFree z
        → WayFree (way_from f fs r z)
    from_free f fs loose (Handles handler) z k = (loose, λ c settled. refl)
    from_free f fs loose Fails z k = (loose, λ c settled. refl)
    from_free f fs loose Leaves z k = (
      k.0,
      λ c settled. fails_both (initialises program c f) (list_any (initialises program c) z.left)
          (first_free f fs loose c settled) (k.1 c settled),
    )

    way_free : (class : List ℕ) (fs : List Frame) → Loose fs → WayFree (way_of program class fs)
    way_free class [] loose = (tt, λ c settled. refl)
    way_free class (f ∷ fs) loose = from_free f fs loose (response_of program class f) (way_of program class fs)
        (way_free class fs (rest_free f fs loose))

    -- the classes whose initializers are left are others
    failed_others : (c : ℕ) (fs : List Frame) → list_any (initialises program c) fs ≡ false
        → AllOther c (initialised_by program fs)
    failed_others c [] none = tt
    failed_others c (f ∷ fs) none =
        let k = neither (initialises program c f) (list_any (initialises program c) fs) none in
        by (runs_initializer program f) refl k.0 (failed_others c fs k.1)
      where
        by : (x : Bool) → runs_initializer program f ≡ x → initialises program c f ≡ false
            → AllOther c (initialised_by program fs) → AllOther c (initialised_by program (f ∷ fs))
        by true e one rest =
            let z : (true && f.method.class == c) ≡ false = ap (λ (x : Bool). x && f.method.class == c) (sym e) ∙ one in
            rw e ((λ (q : f.method.class ≡ c). let k = eq-eqb f.method.class c q in let r : true ≡ false = sym k ∙ z in cc), rest)
        by false e one rest = rw e rest

    without_like : (left : List Frame) → Loose left → Like program w (without program w t left)
    without_like left loose =
        let ms = map (λ (f : Frame). f.monitor) left in
        let like = like_all program w w (like_itself program w) t ms in
        record {
          classes = Like.classes like;
          threads = Like.threads like;
          done = λ c k. others_set Failed (initialised_by program left) w.statics.states c (failed_others c left (loose c k)) k.done;
        }

    restored : (f g : Frame) (below : List Frame) → g.method ≡ f.method → Loose (f ∷ below)
        → Loose (reverse below ++ g ∷ [])
    restored f g below e loose = free_more program w (reverse below) (g ∷ [])
        (λ c k. none_reversed (initialises program c) below (rest_free f below loose c k))
        (one_free program w g (one_like program w f g (first_free f below loose) e))

    landed_stays : (w0 before v : World) → Stays program w0 before → Stays program w0 w → Like program w v
        → (birth : ℕ) (class : List ℕ) (l : Landing) → LandsFree l
        → Stays program w0 (landed before v t birth class l).after
    landed_stays w0 before v b s like birth class Unhandled loose =
        stays_then w0 w (with_thread v t (Ended (Some class))) s
        (keeps_stays w _ (keeps_thread program w v like t (Ended (Some class)) (λ c k. refl)))
    landed_stays w0 before v b s like birth class (Stopped f below) loose =
        stays_then w0 w (with_thread v t (Live (reverse below ++ failing f ∷ []))) s
        (keeps_stays w _ (keeps_thread program w v like t (Live (reverse below ++ failing f ∷ []))
        (restored f (failing f) below refl loose)))
    landed_stays w0 before v b s like birth class (Handled handler f below) loose = go (nat_le 1 f.room)
      where
        go : (x : Bool) → let e : Effect = if x then record {
          after = with_thread v t (Live (reverse below ++ handling birth handler f ∷ []));
          writes = birth ∷ [];
        } else faulted before t StackFull in Stays program w0 e.after
        go true = stays_then w0 w (with_thread v t (Live (reverse below ++ handling birth handler f ∷ []))) s
            (keeps_stays w _ (keeps_thread program w v like t (Live (reverse below ++ handling birth handler f ∷ []))
            (restored f (handling birth handler f) below refl loose)))
        go false = stays_then w0 before (faulted before t StackFull).after b (fault_stays before t StackFull)

    thrown_stays : (w0 before : World) → Stays program w0 before → Stays program w0 w → (birth : ℕ)
        → Stays program w0 (thrown program before w t birth).after
    thrown_stays w0 before b s birth =
        let class = class_at w birth in
        let loose : Loose (reverse (frames_at w t)) =
        λ c k. none_reversed (initialises program c) (frames_at w t) (free_at program w t c k) in
        let z = way_free class (reverse (frames_at w t)) loose in
        let way = way_of program class (reverse (frames_at w t)) in
        landed_stays w0 before (without program w t way.left) b s (without_like way.left z.1) birth class way.landing z.0

  -- ---- all effects

  module _ (w : World) (t : ℕ) where
    created_stays : (n taken : ℕ) (contents : Contents) (o : Option Frame) → running (frames_at w t) ≡ o
        → Stays program w (created_on w t n taken contents o).after
    created_stays n taken contents None runs = fault_stays w t _
    created_stays n taken contents (Some f) runs =
        by (replaced_if_room n f taken (Ref (Some (next_birth w)) ∷ [])) (calm_room n f taken (Ref (Some (next_birth w)) ∷ []))
      where
        v : World
        v = with_new w (made_of contents)

        by : (r : Result Moved Abrupt) → Calm f r → Stays program w (created_with w t contents r).after
        by (Err a) calm = fault_stays w t _
        by (Ok m) calm =
            let free : Free program v (frames_at w t) = free_at program v t in
            stays_then w v (with_thread v t (Live (with_running (frames_at w t) m.frame))) (new_stays w (made_of contents))
            (keeps_stays v _ (keeps_thread program v v (like_itself program v) t (Live (with_running (frames_at w t) m.frame))
            (free_with program v (frames_at w t) m.frame free
            (one_like program v f m.frame (one_at program v (frames_at w t) f free runs) calm))))

    effect_stays : (choice : Choice) (c : Completion) → Keeping program w c
        → Stays program w (effect_of program w t choice c).after
    effect_stays choice (Goes after writes) k = keeps_stays w after k
    effect_stays choice (Prints after bytes) k =
        stays_then w after (record after { output = after.output ++ bytes }) (keeps_stays w after k)
        (output_stays after (after.output ++ bytes))
    effect_stays NewObject (Creates n taken contents) k = created_stays n taken contents (running (frames_at w t)) refl
    effect_stays NoRoom (Creates n taken contents) k = thrown_stays w t w w (stays_still w) (stays_still w) 1
    effect_stays choice (Throws birth) k = thrown_stays w t w w (stays_still w) (stays_still w) birth
    effect_stays NewObject (Raises e) k =
        thrown_stays (with_new w (plain_object (exception_class e))) t w w (stays_still w)
        (new_stays w (plain_object (exception_class e))) (next_birth w)
    effect_stays NoRoom (Raises e) k = thrown_stays w t w w (stays_still w) (stays_still w) 1
    effect_stays NewObject (Denies states) k =
        let v = with_class_states w states in
        thrown_stays (with_new v (plain_object (exception_class NoClassDefFound))) t w w (stays_still w)
        (stays_then w v (with_new v (plain_object (exception_class NoClassDefFound))) (states_stay w states k)
        (new_stays v (plain_object (exception_class NoClassDefFound)))) (next_birth v)
    effect_stays NoRoom (Denies states) k =
        thrown_stays (with_class_states w states) t w w (stays_still w) (states_stay w states k) 1
    effect_stays choice (Faults fault) k = fault_stays w t fault
    effect_stays choice Waits k = stays_still w

    pub next_stays : (choice : Choice) → Stays program w (next program w t choice).after
    unfolding next
    next_stays choice = effect_stays choice (completion program w t) (completion_kept program w t)
