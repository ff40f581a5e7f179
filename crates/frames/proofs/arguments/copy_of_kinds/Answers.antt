use Rattle.std.proofs.Common.{◌≡◌, ◌+◌, ◌++◌, ◌∙◌, ap, drop, get_or, length, refl, reverse, sym, take, arith}
use Rattle.std.proofs.lemmas.List.{append_assoc, length-take-le, take_all, take_at}
use Rattle.model.specs.Locals.{argument_entries}
use Rattle.model.specs.Values.{units_of}
use Rattle.model.specs.declared.values.Entry.TheVariants.{Unset}
use Rattle.model.specs.Table.Invokes.{fault_in_pops}
use Rattle.frames.specs.Layout.{values_between}
use Rattle.frames.proofs.ArgumentLemmas.{Copied, copied_next, kinds_next, units_between-most, value_next}
use Rattle.values.specs.Slots.{entry_of, value_in, value_of}
use Rattle.frames.proofs.arguments.copy_of_kinds.Goals as goal

pub copy_arguments-end-requires-clause-fits : goal.copy_arguments-end-requires-clause-fits
copy_arguments-end-requires-clause-fits c =
    let most = units_between-most c.args.units.now c.args.from c.args.below in
    omega (arith, most)

pub put_of_kind-requires-in-loop-place-clause-fits : goal.put_of_kind-requires-in-loop-place-clause-fits
put_of_kind-requires-in-loop-place-clause-fits c =
    let at = c.args.below + c.loop-place.place in
    let most = units_between-most c.args.units.now c.args.from at in
    omega (arith, most, c.loop-place.invariant.end, c.loop-place.invariant.len)

pub loop-place-preserved : goal.loop-place-preserved
loop-place-preserved c =
    let at = c.args.below + c.loop-place.place in
    let slot = c.at-slot-in-loop-place.result in
    let made = c.put_of_kind-in-loop-place in
    let its = c.in-Some-put_of_kind.ensures in
    let copied : Copied c.args.units.now c.args.from c.args.base at c.loop-place.units c.loop-place.end =
    record { items = c.loop-place.invariant.items; end_is = c.loop-place.invariant.end } in
    let next = value_next c.args.units.now c.args.from c.args.base at c.loop-place.units c.loop-place.end
    (entry_of slot) copied (omega arith) (omega arith) c.at-slot-in-loop-place.ensures in
    let most = units_between-most c.args.units.now c.args.from at in
    let more = copied_next c.args.units.now c.args.from c.args.base at c.loop-place.units
    made.new.units c.loop-place.end (value_of slot) copied (omega arith) (omega arith)
    (omega (arith, most)) next its.items in
    let place : at + 1 ≡ c.args.below + (c.loop-place.place + 1) = omega arith in
    record {
      items = rw (its.end, ← place) more.items;
      len = made.ensures.len ∙ c.loop-place.invariant.len;
      end = rw (its.end, ← place) more.end_is;
      kinds = kinds_next c.args.units.now c.args.from c.args.below c.loop-place.place c.args.kinds.now _
          (value_of slot) (omega arith) (omega arith) refl next its.kind c.loop-place.invariant.kinds;
    }

pub put_of_kind-requires-clause-fits : goal.put_of_kind-requires-clause-fits
put_of_kind-requires-clause-fits c =
    let one : length c.args.kinds.now ≡ 1 = omega (arith, c.in-len1.len_at_least, c.in-len1.len_below) in
    let most = units_between-most c.args.units.now c.args.from c.args.below in
    omega (arith, one, most, c.copy_arguments-end.ensures.end, c.copy_arguments-end.ensures.len)

pub returns-in-Some : goal.returns-in-Some
returns-in-Some c =
    let old = c.args.units.now in
    let kinds = c.args.kinds.now in
    let below = c.args.below in
    let end = c.copy_arguments-end.result in
    let v = value_of c.at-slot.result in
    let its = c.in-Some.ensures in
    let one : length kinds ≡ 1 = omega (arith, c.in-len1.len_at_least, c.in-len1.len_below) in
    let copied : Copied old c.args.from c.args.base below c.copy_arguments-end.new.units end = record {
      items = rw (c.copy_arguments-end.ensures.end) c.copy_arguments-end.ensures.items;
      end_is = c.copy_arguments-end.ensures.end;
    } in
    let next = value_next old c.args.from c.args.base below c.copy_arguments-end.new.units end
    (entry_of c.at-slot.result) copied (omega (arith, one)) (omega arith) c.at-slot.ensures in
    let most = units_between-most old c.args.from below in
    let more = copied_next old c.args.from c.args.base below c.copy_arguments-end.new.units c.put_of_kind.new.units
    end v
    copied (omega (arith, one)) (omega arith) (omega (arith, most, copied.end_is)) next its.items in
    let all : below + length kinds ≡ below + 1 = omega (arith, one) in
    let none : below + 0 ≡ below = omega arith in
    let first = kinds_next old c.args.from below 0 kinds _ v (omega (arith, one)) (omega (arith, one)) refl
    (next ∙ ap (λ n. value_in (get_or old (c.args.from + n) Unset)) (sym none)) its.kind refl in
    record {
      items = rw (all, ← more.end_is) more.items;
      end = its.end ∙ more.end_is ∙ rw all refl;
      kinds =
          ap (λ ks. fault_in_pops (reverse ks) (reverse (values_between old (c.args.from + below) (length kinds))))
          (sym (take_all 1 kinds (omega (arith, one))))
          ∙ ap (λ n. fault_in_pops (reverse (take 1 kinds)) (reverse (values_between old (c.args.from + below) n))) one
          ∙ first;
      len = c.put_of_kind.ensures.len ∙ c.copy_arguments-end.ensures.len;
      same =
          ap (take c.args.base) (more.items ∙ append_assoc (take c.args.base old)
          (argument_entries (values_between old c.args.from (below + 1))) (drop (end + units_of v) old))
          ∙ take_at (take c.args.base old) (argument_entries (values_between old c.args.from (below + 1))
          ++ drop (end + units_of v) old) c.args.base (length-take-le c.args.base old (omega arith));
    }
