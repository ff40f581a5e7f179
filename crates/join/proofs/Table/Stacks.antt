use Rattle.std.proofs.Common.{◌≡◌, ℕ, ◌+◌, List, [], ◌∷◌, ◌++◌, length, map, drop, Result, Ok, Err, refl, ◌∙◌, ap}
use Rattle.std.proofs.lemmas.List.{map-append, drop-map, length-map}
use Rattle.model.specs.declared.values.Value.{Value}
use Rattle.model.specs.declared.values.Value.TheVariants.{Int, Long, Ref}
use Rattle.model.specs.declared.turns.Fault.{Fault}
use Rattle.model.specs.declared.instructions.StackOperation.{StackOperation}
use Rattle.model.specs.declared.instructions.StackOperation.TheVariants.{Pop, Pop2, Dup, DupX1, DupX2, Dup2, Dup2X1}
use Rattle.model.specs.declared.instructions.StackOperation.TheVariants.{Dup2X2, Swap}
use Rattle.model.specs.Frames.{Frame, top_of}
use Rattle.model.specs.Table.Stacks.{Units, as_unit, unit_on, with_top, as_units, group_on, with_group_below, groups_on}
use Rattle.model.specs.Table.Stacks.{popped_on, doubled_on, inserted_on, swapped_on, rearranged}
use Rattle.model.specs.Table.Stacks.Units.{One, Two}
use Rattle.join.specs.Naming.{Naming, named_value, named_frame, named_result}
use Rattle.join.proofs.Naming.{renamed, top_named, pair_named, replaced_named, if_room_named}

-- rearrangements come to the same under a naming: a value takes as many units as its image

module _ (h : Naming) where
  abbrev named : List Value → List Value
  named vs = map (named_value h) vs

  abbrev pair : List Value × List Value → List Value × List Value
  pair groups = (named groups.0, named groups.1)

  unit_named : (r : Result Value Fault) → as_unit (renamed h (named_value h) r) ≡ renamed h named (as_unit r)
  unit_named (Err e) = refl
  unit_named (Ok (Int z)) = refl
  unit_named (Ok (Long z)) = refl
  unit_named (Ok (Ref r)) = refl

  unit_on_named : (vs : List Value) → unit_on (named vs) ≡ renamed h named (unit_on vs)
  unit_on_named vs = ap as_unit (top_named h vs) ∙ unit_named (top_of vs)

  top_over : (v : Value) (r : Result (List Value) Fault) → with_top (named_value h v) (renamed h named r)
      ≡ renamed h named (with_top v r)
  top_over v (Err e) = refl
  top_over v (Ok group) = rw (map-append (named_value h) group (v ∷ [])) refl

  as_units_named : (r : Result Value Fault) (below : Result (List Value) Fault)
      → as_units (renamed h (named_value h) r) (renamed h named below) ≡ renamed h named (as_units r below)
  as_units_named (Err e) below = refl
  as_units_named (Ok (Int z)) below = top_over (Int z) below
  as_units_named (Ok (Long z)) below = refl
  as_units_named (Ok (Ref r)) below = top_over (Ref r) below

  group_named : (u : Units) (vs : List Value) → group_on u (named vs) ≡ renamed h named (group_on u vs)
  group_named One vs = unit_on_named vs
  group_named Two vs = rw (top_named h vs, drop-map (named_value h) 1 vs, unit_on_named (drop 1 vs))
      (as_units_named (top_of vs) (unit_on (drop 1 vs)))

  below_named : (u : Units) (vs : List Value) (r : Result (List Value) Fault)
      → with_group_below u (named vs) (renamed h named r) ≡ renamed h pair (with_group_below u vs r)
  below_named u vs (Err e) = refl
  below_named u vs (Ok upper) = rw (
    length-map upper (named_value h),
    drop-map (named_value h) (length upper) vs,
    group_named u (drop (length upper) vs),
  )
      (pair_named h named named (Ok upper) (group_on u (drop (length upper) vs)))

  groups_named : (u l : Units) (vs : List Value) → groups_on u l (named vs) ≡ renamed h pair (groups_on u l vs)
  groups_named u l vs = ap (with_group_below l (named vs)) (group_named u vs) ∙ below_named l vs (group_on u vs)

  popped_named : (next : ℕ) (f : Frame) (r : Result (List Value) Fault)
      → popped_on next (named_frame h f) (renamed h named r) ≡ named_result h (popped_on next f r)
  popped_named next f (Err e) = refl
  popped_named next f (Ok group) = rw (length-map group (named_value h))
      (ap Ok (replaced_named h next f (length group) []))

  doubled_named : (next : ℕ) (f : Frame) (r : Result (List Value) Fault)
      → doubled_on next (named_frame h f) (renamed h named r) ≡ named_result h (doubled_on next f r)
  doubled_named next f (Err e) = refl
  doubled_named next f (Ok group) = rw (length-map group (named_value h), ← map-append (named_value h) group group)
      (if_room_named h next f (length group) (group ++ group))

  inserted_named : (next : ℕ) (f : Frame) (r : Result (List Value × List Value) Fault)
      → inserted_on next (named_frame h f) (renamed h pair r) ≡ named_result h (inserted_on next f r)
  inserted_named next f (Err e) = refl
  inserted_named next f (Ok groups) = rw (
    length-map groups.0 (named_value h),
    length-map groups.1 (named_value h),
    ← map-append (named_value h) groups.0 groups.1,
    ← map-append (named_value h) (groups.0 ++ groups.1) groups.0,
  )
      (if_room_named h next f (length groups.0 + length groups.1) (groups.0 ++ groups.1 ++ groups.0))

  swapped_named : (next : ℕ) (f : Frame) (r : Result (List Value × List Value) Fault)
      → swapped_on next (named_frame h f) (renamed h pair r) ≡ named_result h (swapped_on next f r)
  swapped_named next f (Err e) = refl
  swapped_named next f (Ok groups) = rw (
    length-map groups.0 (named_value h),
    length-map groups.1 (named_value h),
    ← map-append (named_value h) groups.0 groups.1,
  )
      (ap Ok (replaced_named h next f (length groups.0 + length groups.1) (groups.0 ++ groups.1)))

  pub rearranged_named : (next : ℕ) (operation : StackOperation) (f : Frame)
      → rearranged next operation (named_frame h f) ≡ named_result h (rearranged next operation f)
  rearranged_named next Pop f = ap (popped_on next (named_frame h f)) (group_named One f.stack) ∙ popped_named next f _
  rearranged_named next Pop2 f = ap (popped_on next (named_frame h f)) (group_named Two f.stack) ∙ popped_named next f _
  rearranged_named next Dup f = ap (doubled_on next (named_frame h f)) (group_named One f.stack)
      ∙ doubled_named next f _
  rearranged_named next DupX1 f = ap (inserted_on next (named_frame h f)) (groups_named One One f.stack) ∙
      inserted_named next f _
  rearranged_named next DupX2 f = ap (inserted_on next (named_frame h f)) (groups_named One Two f.stack) ∙
      inserted_named next f _
  rearranged_named next Dup2 f = ap (doubled_on next (named_frame h f)) (group_named Two f.stack)
      ∙ doubled_named next f _
  rearranged_named next Dup2X1 f = ap (inserted_on next (named_frame h f)) (groups_named Two One f.stack) ∙
      inserted_named next f _
  rearranged_named next Dup2X2 f = ap (inserted_on next (named_frame h f)) (groups_named Two Two f.stack) ∙
      inserted_named next f _
  rearranged_named next Swap f = ap (swapped_on next (named_frame h f)) (groups_named One One f.stack)
      ∙ swapped_named next f _
