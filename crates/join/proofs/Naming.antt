use Rattle.std.proofs.Common.{◌≡◌, ℕ, List, [], ◌∷◌, map, drop, Some, None, Result, Ok, Err, Bool, true, false, nat_le}
use Rattle.std.proofs.Common.{if◌then◌else◌, refl, ◌∙◌, ap}
use Rattle.std.proofs.lemmas.List.{drop-map}
use Rattle.model.specs.declared.values.Value.{Value}
use Rattle.model.specs.declared.values.Value.TheVariants.{Int, Long, Ref}
use Rattle.model.specs.declared.values.Kind.{Kind}
use Rattle.model.specs.declared.values.Kind.TheVariants.{Int as IntKind, Long as LongKind, Ref as RefKind}
use Rattle.model.specs.declared.turns.Fault.{Fault}
use Rattle.model.specs.declared.turns.Fault.TheVariants.{StackFull}
use Rattle.model.specs.declared.turns.Abrupt.TheVariants.{Fault as Faulted}
use Rattle.model.specs.Values.{births_of, units_of, units_of_all}
use Rattle.model.specs.Frames.{Frame, Moved, top_of, as_int, as_long, as_ref, int_on, long_on, ref_on, both, push_all}
use Rattle.model.specs.Frames.{replaced, replaced_if_room}
use Rattle.model.specs.Locals.{of_kind, as_kind, value_on}
use Rattle.join.specs.Naming.{Naming, named_ref, named_value, named_frame, named_moved, named_result}

-- what an instruction finds on a stack and leaves there, under a naming: tests look at kinds and lengths, which stay

module _ (h : Naming) where
  -- ---- an answer under the naming
  abbrev pub renamed : {A : Type 0} → (A → A) → Result A Fault → Result A Fault
  renamed f (Ok x) = Ok (f x)
  renamed f (Err e) = Err e

  pub top_named : (vs : List Value) → top_of (map (named_value h) vs) ≡ renamed (named_value h) (top_of vs)
  top_named [] = refl
  top_named (v ∷ vs) = refl

  as_ref_named : (r : Result Value Fault) → as_ref (renamed (named_value h) r) ≡ renamed (named_ref h) (as_ref r)
  as_ref_named (Err e) = refl
  as_ref_named (Ok (Int z)) = refl
  as_ref_named (Ok (Long z)) = refl
  as_ref_named (Ok (Ref r)) = refl

  pub ref_on_named : (vs : List Value) → ref_on (map (named_value h) vs) ≡ renamed (named_ref h) (ref_on vs)
  ref_on_named vs = ap as_ref (top_named vs) ∙ as_ref_named (top_of vs)

  pub ref_below_named : (n : ℕ) (vs : List Value) → ref_on (drop n (map (named_value h) vs))
      ≡ renamed (named_ref h) (ref_on (drop n vs))
  ref_below_named n vs = ap ref_on (drop-map (named_value h) n vs) ∙ ref_on_named (drop n vs)

  as_int_named : (r : Result Value Fault) → as_int (renamed (named_value h) r) ≡ as_int r
  as_int_named (Err e) = refl
  as_int_named (Ok (Int z)) = refl
  as_int_named (Ok (Long z)) = refl
  as_int_named (Ok (Ref r)) = refl

  pub int_on_named : (vs : List Value) → int_on (map (named_value h) vs) ≡ int_on vs
  int_on_named vs = ap as_int (top_named vs) ∙ as_int_named (top_of vs)

  as_long_named : (r : Result Value Fault) → as_long (renamed (named_value h) r) ≡ as_long r
  as_long_named (Err e) = refl
  as_long_named (Ok (Int z)) = refl
  as_long_named (Ok (Long z)) = refl
  as_long_named (Ok (Ref r)) = refl

  pub long_on_named : (vs : List Value) → long_on (map (named_value h) vs) ≡ long_on vs
  long_on_named vs = ap as_long (top_named vs) ∙ as_long_named (top_of vs)

  pub of_kind_named : (kind : Kind) (v : Value) → of_kind kind (named_value h v)
      ≡ renamed (named_value h) (of_kind kind v)
  of_kind_named IntKind (Int z) = refl
  of_kind_named IntKind (Long z) = refl
  of_kind_named IntKind (Ref r) = refl
  of_kind_named LongKind (Int z) = refl
  of_kind_named LongKind (Long z) = refl
  of_kind_named LongKind (Ref r) = refl
  of_kind_named RefKind (Int z) = refl
  of_kind_named RefKind (Long z) = refl
  of_kind_named RefKind (Ref r) = refl

  as_kind_named : (kind : Kind) (r : Result Value Fault) → as_kind kind (renamed (named_value h) r)
      ≡ renamed (named_value h) (as_kind kind r)
  as_kind_named kind (Err e) = refl
  as_kind_named kind (Ok v) = of_kind_named kind v

  pub value_on_named : (kind : Kind) (vs : List Value) → value_on kind (map (named_value h) vs)
      ≡ renamed (named_value h) (value_on kind vs)
  value_on_named kind vs = ap (as_kind kind) (top_named vs) ∙ as_kind_named kind (top_of vs)

  pub pair_named : {A B : Type 0} (f : A → A) (g : B → B) (x : Result A Fault) (y : Result B Fault)
      → both (renamed f x) (renamed g y) ≡ renamed (λ (p : A × B). (f p.0, g p.1)) (both x y)
  pair_named f g (Err e) y = refl
  pair_named f g (Ok x) (Err e) = refl
  pair_named f g (Ok x) (Ok y) = refl

  -- ---- what is left
  pub births_named : (vs : List Value) → births_of (map (named_value h) vs) ≡ map h (births_of vs)
  births_named [] = refl
  births_named (Int z ∷ vs) = births_named vs
  births_named (Long z ∷ vs) = births_named vs
  births_named (Ref None ∷ vs) = births_named vs
  births_named (Ref (Some b) ∷ vs) = ap (λ (bs : List ℕ). h b ∷ bs) (births_named vs)

  unit_named : (v : Value) → units_of (named_value h v) ≡ units_of v
  unit_named (Int z) = refl
  unit_named (Long z) = refl
  unit_named (Ref r) = refl

  pub units_named : (vs : List Value) → units_of_all (map (named_value h) vs) ≡ units_of_all vs
  units_named [] = refl
  units_named (v ∷ vs) = rw (unit_named v, units_named vs) refl

  pub push_named : (vs stack : List Value) → push_all (map (named_value h) vs) (map (named_value h) stack)
      ≡ map (named_value h) (push_all vs stack)
  push_named [] stack = refl
  push_named (v ∷ vs) stack = push_named vs (v ∷ stack)

  pushed_named : (n : ℕ) (vs stack : List Value)
      → push_all (map (named_value h) vs) (drop n (map (named_value h) stack))
      ≡ map (named_value h) (push_all vs (drop n stack))
  pushed_named n vs stack = ap (push_all (map (named_value h) vs)) (drop-map (named_value h) n stack)
      ∙ push_named vs (drop n stack)

  pub replaced_named : (next : ℕ) (f : Frame) (n : ℕ) (vs : List Value)
      → replaced next (named_frame h f) n (map (named_value h) vs) ≡ named_moved h (replaced next f n vs)
  replaced_named next f n vs = rw (pushed_named n vs f.stack, births_named vs) refl

  by_room : (next : ℕ) (f : Frame) (n : ℕ) (vs : List Value) (t : Bool)
      → (if t then Ok (replaced next (named_frame h f) n (map (named_value h) vs)) else Err (Faulted StackFull))
      ≡ named_result h (if t then Ok (replaced next f n vs) else Err (Faulted StackFull))
  by_room next f n vs true = ap (λ (m : Moved). Ok m) (replaced_named next f n vs)
  by_room next f n vs false = refl

  pub if_room_named : (next : ℕ) (f : Frame) (n : ℕ) (vs : List Value)
      → replaced_if_room next (named_frame h f) n (map (named_value h) vs)
      ≡ named_result h (replaced_if_room next f n vs)
  if_room_named next f n vs =
      ap (λ (k : ℕ). if nat_le k f.room then Ok (replaced next (named_frame h f) n (map (named_value h) vs))
      else Err (Faulted StackFull)) (ap units_of_all (pushed_named n vs f.stack)
      ∙ units_named (push_all vs (drop n f.stack)))
      ∙ by_room next f n vs _
