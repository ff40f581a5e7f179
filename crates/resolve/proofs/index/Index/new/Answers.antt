use Rattle.std.proofs.Common.{◌≡◌, ◌+◌, ◌≤◌, length, List, [], ◌∷◌, ◌++◌, ℕ, slice_get, map, Some, arith, subst, sym}
use Rattle.std.proofs.Common.{ap, ◌∙◌, refl, take}
use Rattle.std.specs.List.{All, find, position}
use Rattle.std.specs.Option.{option_map}
use Rattle.std.specs.Str.{bytes_eq}
use Rattle.std.proofs.lemmas.List.Elements.{All-nil, All-push}
use Rattle.indexmap.proofs.CallerLemmas.{insert_entry-new}
use Rattle.model.specs.ClassListings.{ClassListing}
use Rattle.model.specs.Classes.Named.{is_named}
use Rattle.resolve.specs.declared.index.Numbered.{Numbered}
use Rattle.resolve.specs.declared.keys.NameKey.{NameKey}
use Rattle.resolve.specs.Indexed.{found_in}
use Rattle.resolve.specs.Numbers.{name_of}
use Rattle.resolve.proofs.NumberLemmas.{first-place}
use Rattle.resolve.proofs.IndexLemmas.{Finds, finds-new, finds-known, take-next, take-all, slice-there, no_value}
use Rattle.resolve.proofs.IndexLemmas.{some_value}
use Rattle.resolve.proofs.index.Index.new.Goals as goal
use Rattle.resolve.proofs.index.Index.new.Goals.{then-is_none+in_ok-insert, else-is_none}

abbrev Entries : Type 0
Entries = List (NameKey × Numbered)

-- each entry has the place of its class
abbrev IsPlaced : List ClassListing → NameKey × Numbered → Type 0
IsPlaced program e = slice_get program e.1.number ≡ Some e.1.class.now

-- each entry has the first place of its class's name
abbrev IsFirst : List ClassListing → NameKey × Numbered → Type 0
IsFirst program e = position (bytes_eq e.1.class.now.name) (map name_of program) ≡ Some e.1.number

pub loop-number-init : goal.loop-number-init
loop-number-init c = record {
  finds = λ name. rw c.new-classes.ensures.empty refl;
  placed = subst (λ (es : Entries). All (IsPlaced c.args.program.now) es) (sym c.new-classes.ensures.empty)
      (All-nil (IsPlaced c.args.program.now));
  first = subst (λ (es : Entries). All (IsFirst c.args.program.now) es) (sym c.new-classes.ensures.empty)
      (All-nil (IsFirst c.args.program.now));
}

pub loop-number-preserved : goal.loop-number-preserved
loop-number-preserved c =
    let cs : List ClassListing = c.args.program.now in
    let n : ℕ = c.loop-number.number in
    let passed : take (n + 1) cs ≡ take n cs ++ c.index-program-number.result ∷ [] =
    take-next cs n c.index-program-number.result c.index-program-number.is (omega arith) in
    let named : c.as_bytes.result.now ≡ c.index-program-number.result.name = c.as_bytes.ensures
    ∙ ap (λ (x : ClassListing). x.name) c.class.view_is in
    elim c.if-is_none.branch [
      | then-is_none+in_ok-insert w ↦
          let none = no_value c.get.result w.if-is_none.ensures c.get.ensures.value in
          let entries = ap (λ m. m.entries) w.classes-is ∙ w.in_ok-insert.ensures.entries
          ∙ insert_entry-new (λ x y. bytes_eq x.bytes.now y.bytes.now) c.loop-number.classes
          (record { bytes = c.as_bytes.result }) _ none in
          record {
            finds = λ name.
                ap (λ es. found_in (λ k. k.bytes.now) (λ x. x.class.now) es name) entries
                ∙ finds-new (λ k. k.bytes.now) (λ x. x.class.now) c.loop-number.classes.entries (take n cs)
                (record { bytes = c.as_bytes.result }) _ c.loop-number.invariant.finds named name
                ∙ ap (find (is_named name)) (sym passed);
            placed = subst (λ (es : Entries). All (IsPlaced cs) es) (sym entries)
                (All-push (IsPlaced cs) c.loop-number.classes.entries _ c.loop-number.invariant.placed
                (slice-there cs n c.index-program-number.result c.index-program-number.is (omega arith)));
            first = subst (λ (es : Entries). All (IsFirst cs) es) (sym entries)
                (All-push (IsFirst cs) c.loop-number.classes.entries _ c.loop-number.invariant.first
                (first-place cs n c.index-program-number.result
                (sym (c.loop-number.invariant.finds c.index-program-number.result.name)
                ∙ ap (λ (name : List ℕ). found_in (λ k. k.bytes.now) (λ x. x.class.now) c.loop-number.classes.entries
                name) (sym named)
                ∙ ap (option_map (λ (x : Numbered). x.class.now)) none)
                c.index-program-number.is (omega arith)));
          }
      | else-is_none w ↦
          record {
            finds = λ name.
                ap (λ m. found_in (λ k. k.bytes.now) (λ x. x.class.now) m.entries name) w.classes-is
                ∙ finds-known (λ k. k.bytes.now) (λ x. x.class.now) c.loop-number.classes.entries (take n cs)
                c.index-program-number.result c.loop-number.invariant.finds
                (λ none. some_value (λ x. x.class.now) c.get.result w.if-is_none.ensures c.get.ensures.value
                (ap (found_in (λ k. k.bytes.now) (λ x. x.class.now) c.loop-number.classes.entries) named ∙ none)) name
                ∙ ap (find (is_named name)) (sym passed);
            placed = subst (λ (es : Entries). All (IsPlaced cs) es) (sym (ap (λ m. m.entries) w.classes-is))
                c.loop-number.invariant.placed;
            first = subst (λ (es : Entries). All (IsFirst cs) es) (sym (ap (λ m. m.entries) w.classes-is))
                c.loop-number.invariant.first;
          }
    ]

pub invariant_of-result : goal.invariant_of-result
invariant_of-result c =
    let done : length c.args.program.now ≤ c.loop-number.number = omega arith in
    record {
      finds = subst (λ (cs : List ClassListing). Finds (λ k. k.bytes.now) (λ x. x.class.now)
          c.loop-number.classes.entries cs)
          (take-all c.args.program.now c.loop-number.number done) c.loop-number.invariant.finds;
      placed = c.loop-number.invariant.placed;
      first = c.loop-number.invariant.first;
    }
