use Rattle.std.proofs.Common.{◌≡◌, inl, inr, ◌<◌, ◌≤◌, ◌+◌, ℕ, List, [], ◌∷◌, ◌++◌, length, slice_get, Bool, Some}
use Rattle.std.proofs.Common.{sym, ◌∙◌, ap, subst, arith}
use Rattle.std.proofs.lemmas.Bool.{cases_lt}
use Rattle.model.specs.declared.journals.Limits.{Limits}
use Rattle.model.specs.ClassListings.{ClassListing}
use Rattle.model.specs.Worlds.{World}
use Rattle.model.proofs.CollectorLemmas.Cells.{same_or_not}
use Rattle.join.proofs.Lists.{get-older}
use Rattle.exploration.specs.Reduction.{IsAheadAmong, ClosedReduced}
use Rattle.exploration.specs.Search.{IsExpanded, ClosedBelow, SearchesAll}
use Rattle.exploration.proofs.MadeBirths.{get_below}

-- a search goes on, and ends with a list that is closed

module _ (program : List ClassListing) (limits : Limits) (no_room : Bool) (start : World) where
  among_more : (states : List World) (y w : World) → IsAheadAmong program states w
      → IsAheadAmong program (states ++ y ∷ []) w
  among_more states y w a =
      let m = a.among in
      record {
        world = a.world;
        ahead = a.ahead;
        among = record {
          place = m.place;
          state = m.state;
          there = get-older states y m.place (get_below states m.place m.state m.there) ∙ m.there;
          represents = m.represents;
        };
      }

  expanded_more : (states : List World) (x y : World) (t : ℕ) → IsExpanded program limits no_room states x t
      → IsExpanded program limits no_room (states ++ y ∷ []) x t
  expanded_more states x y t e = record {
    turned = λ f. among_more states y _ (e.turned f);
    without_room = λ both words f a. among_more states y _ (e.without_room both words f a);
  }

  found : (states : List World) (n : ℕ) (x : World) → n ≤ length states → ClosedBelow program limits no_room start states n
      → ClosedBelow program limits no_room start (states ++ x ∷ []) n
  found states n x l c = record {
    opening = among_more states x _ c.opening;
    expanded = λ k y t below e. expanded_more states y x t
        (c.expanded k y t below (sym (get-older states x k (omega (arith, below, l))) ∙ e));
  }

  one_more : (states : List World) (n : ℕ) (x : World) → slice_get states n ≡ Some x
      → ((t : ℕ) → IsExpanded program limits no_room states x t) → ClosedBelow program limits no_room start states n
      → ClosedBelow program limits no_room start states (n + 1)
  one_more states n x e all c = record {
    opening = c.opening;
    expanded = λ k y t below f. elim (same_or_not k n) as (λ _. IsExpanded program limits no_room states y t) [
      | inl s ↦ let same : x ≡ y = (let q = sym e ∙ ap (slice_get states) s ∙ f in cc)
          in subst (λ z. IsExpanded program limits no_room states z t) same (all t)
      | inr other ↦ c.expanded k y t (less k n below (λ s. other (sym s))) f
    ];
  }
    where
      less : (k n : ℕ) → k < n + 1 → (k ≡ n → ⊥) → k < n
      less k n l other = elim (cases_lt k n) [
        | inl s ↦ s
        | inr s ↦ absurd (other (omega (arith, l, s)))
      ]

  ended : (states : List World) → ClosedBelow program limits no_room start states (length states)
      → ClosedReduced program limits no_room start states
  ended states c = record {
    opening = c.opening;
    turned = λ k x t e f. (c.expanded k x t (get_below states k x e) e).turned f;
    without_room = λ both k x t words e f a. (c.expanded k x t (get_below states k x e) e).without_room both words f a;
  }

pub searches_all : SearchesAll
searches_all program limits no_room start = record {
  found = found program limits no_room start;
  kept = expanded_more program limits no_room start;
  looked_at = one_more program limits no_room start;
  ends = ended program limits no_room start;
}
