use Rattle.std.proofs.Common.{◌≡◌, drop, map}
use Rattle.std.specs.List.{list_all}
use Rattle.model.specs.Texts.Uses.{leads_on}
use Rattle.jasmin.proofs.uses.pairs_lead_on.Given as goal

-- the labels so far lead on
abbrev pub invariant-loop-label : goal.invariant-loop-label
invariant-loop-label l = list_all (leads_on l.labels l.count) (map (λ p. p.1) (drop l.label-index l.pairs))
    ≡ list_all (leads_on l.labels l.count) (map (λ p. p.1) l.pairs)
