-- What comparisons part by part tell.
use Rattle.std.proofs.Common.{rules, ◌≡◌, Decides, Bool, true, false, ◌&&◌, List, refl, ap, sym}
use Rattle.std.specs.Cmp.Lexicographic.{pointwise}
use Rattle.std.specs.Str.{bytes_eq}
use Rattle.std.proofs.lemmas.Slice.Eq.{bytes_eq-Decides, slice_eq-Decides}
use Rattle.exploration.specs.contracts.ends.EndPartialEq.TheImpl as end
use Rattle.exploration.specs.declared.ends.End.{End}
use Rattle.exploration.specs.Observations.{Observed}
use Rattle.exploring.specs.Keys.{outcome}
use Rattle.exploring.proofs.KeyLemmas.{outcome_keys_tell}

end_decides : (a b : End) → Decides ((end.ghosts).eq a b) (a ≡ b)
end_decides a b = search rules

pub ends_decide : (a b : List End) (r : Bool) → r ≡ pointwise (end.ghosts).eq a b → Decides r (a ≡ b)
ends_decide = slice_eq-Decides end_decides

-- an outcome by its parts
pub outcome_decides : (a b : Observed) (output fault ends status : Bool) → Decides output (a.output ≡ b.output)
    → Decides fault (a.fault ≡ b.fault) → Decides ends (a.ends ≡ b.ends) → Decides status (a.status ≡ b.status)
    → Decides (((output && fault) && ends) && status) (a ≡ b)
outcome_decides a b true true true true o f e s =
    (λ q. rw (o.0 refl, f.0 refl, e.0 refl, s.0 refl) refl, λ q. refl)
outcome_decides a b false fault ends status o f e s = (λ q. absurd (cc), λ q. o.1 (ap (λ (x : Observed). x.output) q))
outcome_decides a b true false ends status o f e s = (λ q. absurd (cc), λ q. f.1 (ap (λ (x : Observed). x.fault) q))
outcome_decides a b true true false status o f e s = (λ q. absurd (cc), λ q. e.1 (ap (λ (x : Observed). x.ends) q))
outcome_decides a b true true true false o f e s = (λ q. absurd (cc), λ q. s.1 (ap (λ (x : Observed). x.status) q))

-- outcomes are the same where their keys are
pub same_by_key : (a b : Observed) (r : Bool) → Decides r (a ≡ b) → r ≡ bytes_eq (outcome b) (outcome a)
same_by_key a b true d = sym ((bytes_eq-Decides (outcome b) (outcome a)).1 (ap outcome (sym (d.0 refl))))
same_by_key a b false d = by (bytes_eq (outcome b) (outcome a)) refl
  where
    by : (r : Bool) → bytes_eq (outcome b) (outcome a) ≡ r → false ≡ r
    by false e = refl
    by true e = absurd (let same : b ≡ a = outcome_keys_tell b a ((bytes_eq-Decides (outcome b) (outcome a)).0 e) in
        let no : false ≡ true = d.1 (sym same) in cc)

pub ruleset deciding = (ends_decide, outcome_decides)
