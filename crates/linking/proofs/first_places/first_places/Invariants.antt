use Rattle.std.proofs.Common.{◌≡◌, drop}
use Rattle.std.specs.List.{position_from}
use Rattle.indexmap.specs.IndexMap.{get}
use Rattle.linking.proofs.first_places.first_places.Given as goal

-- the first places among the keys from one on
abbrev pub invariant-loop-place : goal.invariant-loop-place
invariant-loop-place g l =
    (key : g.row.K.Denot) → get g.K.PartialEq.eq l.places key ≡ position_from (λ k. g.K.PartialEq.eq k key) l.place
    (drop l.place l.keys)
