use Rattle.std.proofs.Common.{◌≡◌, ◌⊎◌, inl, inr, ℕ, zero, suc, List, [], ◌∷◌, ◌++◌, filter, map, replicate, set}
use Rattle.std.proofs.Common.{Option, Some, None, Result, Ok, Err, refl, length-set}
use Rattle.std.proofs.lemmas.List.{map-append}
use Rattle.model.specs.declared.listings.Constant.{Constant}
use Rattle.model.specs.declared.listings.Constant.TheVariants.{Int as IntConstant, Long as LongConstant}
use Rattle.model.specs.declared.listings.Field.{Field}
use Rattle.model.specs.declared.turns.Fault.{Fault}
use Rattle.model.specs.declared.values.Kind.{Kind}
use Rattle.model.specs.declared.values.Kind.TheVariants.{Int as IntKind, Long as LongKind, Ref as RefKind}
use Rattle.model.specs.declared.values.Value.{Value}
use Rattle.model.specs.declared.values.Value.TheVariants.{Int, Long, Ref}
use Rattle.model.specs.Values.{births_of}
use Rattle.model.specs.Stores.{Storage, storage_of, default_in, kept}
use Rattle.model.specs.Stores.Storage.{Ints, Longs, References}
use Rattle.model.specs.ClassListings.{ClassListing}
use Rattle.model.specs.Classes.Flags.{is_static_field}
use Rattle.model.specs.Classes.Search.{Declared}
use Rattle.model.specs.Locals.{of_kind, value_on}
use Rattle.model.specs.Frames.{both, ref_on, running, with_running, replaced}
use Rattle.model.specs.Worlds.{World, FieldValue, Contents, Object, next_birth, opening_value, opening_slot}
use Rattle.model.specs.Worlds.{opening_slots_of, opening_slots}
use Rattle.model.specs.Worlds.Contents.{Instance, Array}
use Rattle.model.specs.Worlds.Thread.{Live}
use Rattle.model.specs.Objects.{object_at}
use Rattle.model.specs.Completions.{Site, frames_in}
use Rattle.model.specs.Words.{unwritten, value_at, with_value_at, slot_at, with_slot, contents_if, contents_at, word_of}
use Rattle.model.specs.Words.{with_word_in, with_word_of, with_word, puts}
use Rattle.model.specs.Collector.Places.{ref_of, field_ref, ref_at, contents_refs, object_refs, slots_of, root_at}
use Rattle.model.specs.Collector.Places.{word_at, Reach}
use Rattle.model.specs.Collector.Places.Place.{Slot}
use Rattle.model.specs.Collector.Places.Reach.{at_root, by_word}
use Rattle.model.specs.Collector.Invariant.{In}
use Rattle.model.specs.Collector.Moves.{RefsMove, ObjectsMove, LeadNowhere, CompletionMoves}
use Rattle.model.proofs.CollectorLemmas.Moving.{AllMay, refs_same, frames_set, threads_set, objects_same, objects_set}
use Rattle.model.proofs.CollectorLemmas.Stepping.{in_births, may_births, replaced_moves}

-- static slots, fields and elements: what is read was reachable, and what is written was an operand

-- ---- operands

of_kind-same : (kind : Kind) (x v : Value) → of_kind kind x ≡ Ok v → x ≡ v
of_kind-same IntKind (Int z) v e = cc
of_kind-same IntKind (Long z) v e = absurd (cc)
of_kind-same IntKind (Ref r) v e = absurd (cc)
of_kind-same LongKind (Int z) v e = absurd (cc)
of_kind-same LongKind (Long z) v e = cc
of_kind-same LongKind (Ref r) v e = absurd (cc)
of_kind-same RefKind (Int z) v e = absurd (cc)
of_kind-same RefKind (Long z) v e = absurd (cc)
of_kind-same RefKind (Ref r) v e = cc

-- a value of some kind at the top, and a reference
pub value_on-known : (Q : ℕ → Type 0) (kind : Kind) (stack : List Value) (v : Value) → AllMay Q (map ref_of stack)
    → value_on kind stack ≡ Ok v → AllMay Q (map ref_of (v ∷ []))
value_on-known Q kind [] v h e = absurd (cc)
value_on-known Q kind (x ∷ xs) v h e = (let s = of_kind-same kind x v e in rw (← s) ((h.0, tt)))

pub ref_on-known : (Q : ℕ → Type 0) (stack : List Value) (b : ℕ) → AllMay Q (map ref_of stack) → ref_on stack
    ≡ Ok (Some b) → Q b
ref_on-known Q [] b h e = absurd (cc)
ref_on-known Q (Int z ∷ vs) b h e = absurd (cc)
ref_on-known Q (Long z ∷ vs) b h e = absurd (cc)
ref_on-known Q (Ref r ∷ vs) b h e = h.0 b (let k : r ≡ Some b = cc in k)

pub both-first : {A B : Type 0} (x : Result A Fault) (y : Result B Fault) (p : A × B) → both x y ≡ Ok p → x ≡ Ok p.0
both-first (Err e) y p h = absurd (cc)
both-first (Ok x) (Err e) p h = absurd (cc)
both-first (Ok x) (Ok y) p h = cc

pub both-second : {A B : Type 0} (x : Result A Fault) (y : Result B Fault) (p : A × B) → both x y ≡ Ok p → y ≡ Ok p.1
both-second (Err e) y p h = absurd (cc)
both-second (Ok x) (Err e) p h = absurd (cc)
both-second (Ok x) (Ok y) p h = cc

-- ---- words are read

field-at : (fields : List FieldValue) (k b : ℕ) → ref_of (value_at fields k) ≡ Some b → ref_at (map field_ref fields) k
    ≡ Some b
field-at [] k b e = absurd (cc)
field-at (f ∷ fs) zero b e = e
field-at (f ∷ fs) (suc k) b e = field-at fs k b e

element-at : (element : List ℕ) (values : List Value) (k b : ℕ) → ref_of (word_of (Array element values) k) ≡ Some b
    → ref_at (map ref_of values) k ≡ Some b
element-at element [] k b e = absurd (cc)
element-at element (v ∷ vs) zero b e = e
element-at element (v ∷ vs) (suc k) b e = element-at element vs k b e

contents-at : (c : Contents) (k b : ℕ) → ref_of (word_of c k) ≡ Some b → ref_at (contents_refs c) k ≡ Some b
contents-at (Instance class fields) k b e = field-at fields k b e
contents-at (Array element values) k b e = element-at element values k b e

object-at : (o : Option Object) (k b : ℕ) → ref_of (word_of (contents_if o) k) ≡ Some b → ref_at (object_refs o) k
    ≡ Some b
object-at None k b e = absurd (cc)
object-at (Some o) k b e = contents-at o.contents k b e

pub slot_may : (w : World) (slot : ℕ) → AllMay (Reach w) (map ref_of (slot_at w slot ∷ []))
unfolding root_at
slot_may w slot = (λ b e. at_root (Slot slot) (field-at w.statics.fields slot b e), tt)

pub word_may : (w : World) (birth place : ℕ) → Reach w birth
    → AllMay (Reach w) (map ref_of (word_of (contents_at w birth) place ∷ []))
unfolding word_at
word_may w birth place r = (λ b e. by_word birth place r (object-at (object_at w birth) place b e), tt)

-- ---- words are written

pub kept_ref : (storage : Storage) (v : Value) → ref_of (kept storage v) ≡ ref_of v
kept_ref (Ints type) (Int z) = refl
kept_ref (Ints type) (Long z) = refl
kept_ref (Ints type) (Ref r) = refl
kept_ref Longs v = refl
kept_ref References v = refl

-- the births to which a written value leads
abbrev Put : Value → ℕ → Type 0
Put v b = ⊥ ⊎ In b (births_of (v ∷ []))

pub put_may : (storage : Storage) (v : Value) (b : ℕ) → ref_of (kept storage v) ≡ Some b → ⊥ ⊎ In b (births_of (v ∷ []))
put_may storage v b e = (may_births (v ∷ []) (Put v) (λ x k. inr k)).0 b (rw (kept_ref storage v) at e)

fields_set : (P : ℕ → Type 0) (fields : List FieldValue) (k : ℕ) (v : Value) → ((b : ℕ) → ref_of v ≡ Some b → P b)
    → RefsMove P (map field_ref fields) (map field_ref (with_value_at fields k v))
fields_set P [] k v h = tt
fields_set P (f ∷ fs) zero v h = (λ b e. inr (h b e), refs_same P (map field_ref fs))
fields_set P (f ∷ fs) (suc k) v h = (λ b e. inl e, fields_set P fs k v h)

elements_set : (P : ℕ → Type 0) (values : List Value) (k : ℕ) (v : Value) → ((b : ℕ) → ref_of v ≡ Some b → P b)
    → RefsMove P (map ref_of values) (map ref_of (set values k v))
elements_set P [] k v h = tt
elements_set P (x ∷ xs) zero v h = (λ b e. inr (h b e), refs_same P (map ref_of xs))
elements_set P (x ∷ xs) (suc k) v h = (λ b e. inl e, elements_set P xs k v h)

contents_set : (P : ℕ → Type 0) (c : Contents) (k : ℕ) (v : Value) → ((b : ℕ) → ref_of v ≡ Some b → P b)
    → RefsMove P (contents_refs c) (contents_refs (with_word_in c k v))
contents_set P (Instance class fields) k v h = fields_set P fields k v h
contents_set P (Array element values) k v h = elements_set P values k v h

-- a world in which slots and words alone may differ
pub record Stored (P : ℕ → Type 0) (w after : World) : Type 0 where
  pub fault : after.fault ≡ w.fault
  pub rows : after.rows ≡ w.rows
  pub counted : next_birth after ≡ next_birth w
  pub threads : after.threads ≡ w.threads
  pub statics : RefsMove P (slots_of w) (slots_of after)
  pub objects : ObjectsMove P w.objects after.objects

pub slot_stored : (P : ℕ → Type 0) (w : World) (slot : ℕ) (v : Value) → ((b : ℕ) → ref_of v ≡ Some b → P b)
    → Stored P w (with_slot w slot v)
slot_stored P w slot v h = record {
  fault = refl;
  rows = refl;
  counted = refl;
  threads = refl;
  statics = fields_set P w.statics.fields slot v h;
  objects = objects_same P w.objects;
}

stored_of : (P : ℕ → Type 0) (w : World) (birth place : ℕ) (v : Value) → ((b : ℕ) → ref_of v ≡ Some b → P b)
    → (o : Option Object) → object_at w birth ≡ o → Stored P w (with_word_of w birth place v o)
stored_of P w birth place v h None e = record {
  fault = refl;
  rows = refl;
  counted = refl;
  threads = refl;
  statics = refs_same P (slots_of w);
  objects = objects_same P w.objects;
}
stored_of P w birth place v h (Some o) e = record {
  fault = refl;
  rows = refl;
  counted = length-set w.objects birth (record o { contents = with_word_in o.contents place v });
  threads = refl;
  statics = refs_same P (slots_of w);
  objects = objects_set P w.objects birth o (record o { contents = with_word_in o.contents place v }) e
      (contents_set P o.contents place v h);
}

pub word_stored : (P : ℕ → Type 0) (w : World) (birth place : ℕ) (v : Value) → ((b : ℕ) → ref_of v ≡ Some b → P b)
    → Stored P w (with_word w birth place v)
word_stored P w birth place v h = stored_of P w birth place v h (object_at w birth) refl

-- the instruction that writes: operands go, and the value was one of them
pub puts_moves : (s : Site) → running (frames_in s) ≡ Some s.frame → (after : World) (n : ℕ) (v : Value)
    → AllMay (Reach s.world) (map ref_of (v ∷ [])) → Stored (λ b. ⊥ ⊎ In b (births_of (v ∷ []))) s.world after
    → CompletionMoves s.world (puts after s n v)
puts_moves s e after n v may h =
    let f = (replaced s.next s.frame n []).frame in
    record {
      fault = h.fault;
      rows = h.rows;
      moves = record {
        counted = h.counted;
        statics = h.statics;
        threads = rw h.threads (threads_set (Put v) s.world.threads s.thread (Live (with_running (frames_in s) f))
            (frames_set (Put v) (frames_in s) _ s.frame f e (replaced_moves (Put v) s.next s.frame n [] tt)));
        objects = h.objects;
        writes = λ b k. inr (in_births (v ∷ []) (Reach s.world) may b k);
      };
    }

-- ---- what is made leads nowhere

nowhere_first : (r : Option ℕ) (rs : List (Option ℕ)) → r ≡ None → LeadNowhere rs → LeadNowhere (r ∷ rs)
nowhere_first None rs e h = h
nowhere_first (Some b) rs e h = absurd (cc)

nowhere_both : (rs ss : List (Option ℕ)) → LeadNowhere rs → LeadNowhere ss → LeadNowhere (rs ++ ss)
nowhere_both [] ss h k = k
nowhere_both (None ∷ rs) ss h k = nowhere_both rs ss h k
nowhere_both (Some b ∷ rs) ss h k = absurd h

pub nowhere_at : (rs : List (Option ℕ)) (k b : ℕ) → LeadNowhere rs → ref_at rs k ≡ Some b → ⊥
nowhere_at [] k b h e = cc
nowhere_at (None ∷ rs) zero b h e = cc
nowhere_at (None ∷ rs) (suc k) b h e = nowhere_at rs k b h e
nowhere_at (Some x ∷ rs) k b h e = absurd h

default_nowhere : (storage : Storage) → ref_of (default_in storage) ≡ None
default_nowhere (Ints type) = refl
default_nowhere Longs = refl
default_nowhere References = refl

pub unwritten_nowhere : (fields : List (Declared Field)) → LeadNowhere (map field_ref (map unwritten fields))
unwritten_nowhere [] = tt
unwritten_nowhere (d ∷ ds) = nowhere_first _ _ (default_nowhere (storage_of d.member.descriptor)) (unwritten_nowhere ds)

pub defaults_nowhere : (storage : Storage) (n : ℕ) → LeadNowhere (map ref_of (replicate n (default_in storage)))
defaults_nowhere storage zero = tt
defaults_nowhere storage (suc n) = nowhere_first _ _ (default_nowhere storage) (defaults_nowhere storage n)

-- ---- and so do the static fields at first

opening_ref : (storage : Storage) (constant : Option Constant) → ref_of (opening_value storage constant) ≡ None
opening_ref storage None = default_nowhere storage
opening_ref storage (Some (IntConstant z)) = kept_ref storage (Int z)
opening_ref storage (Some (LongConstant z)) = kept_ref storage (Long z)

class_nowhere : (class : List ℕ) (fields : List Field) → LeadNowhere (map field_ref (map (opening_slot class) fields))
class_nowhere class [] = tt
class_nowhere class (f ∷ fs) = nowhere_first _ _ (opening_ref (storage_of f.descriptor) f.constant)
    (class_nowhere class fs)

pub opening_nowhere : (program : List ClassListing) → LeadNowhere (map field_ref (opening_slots program))
opening_nowhere [] = tt
opening_nowhere (c ∷ cs) =
    rw (map-append field_ref (opening_slots_of c) (opening_slots cs))
    (nowhere_both (map field_ref (opening_slots_of c)) (map field_ref (opening_slots cs))
    (class_nowhere c.name (filter is_static_field c.fields)) (opening_nowhere cs))
