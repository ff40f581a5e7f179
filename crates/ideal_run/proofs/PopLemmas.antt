-- the faults of pops, one after another
use Rattle.std.proofs.Common.{◌≡◌, ℕ, ◌+◌, ◌<◌, ◌≤◌, List, length, get_or, drop, Some, None, Result, Ok, Err, ap, ◌∙◌}
use Rattle.std.specs.Option.{option_or}
use Rattle.std.specs.Result.{result_err}
use Rattle.std.proofs.lemmas.List.{drop_more, drop_all}
use Rattle.model.specs.declared.turns.Fault.{Fault}
use Rattle.model.specs.declared.values.Kind.{Kind}
use Rattle.model.specs.declared.values.Value.{Value}
use Rattle.model.specs.Locals.{value_on}
use Rattle.model.specs.Table.Invokes.{fault_in_pops}

first : (kinds : List Kind) (i : ℕ) (d : Kind) (rest : List Value) (r : Result Value Fault) → i < length kinds
    → value_on (get_or kinds i d) rest ≡ r → fault_in_pops (drop i kinds) rest
    ≡ option_or (result_err r) (fault_in_pops (drop (i + 1) kinds) (drop 1 rest))
first kinds i d rest r h is =
    ap (λ (l : List Kind). fault_in_pops l rest) (drop_more kinds i d h)
    ∙ ap (λ (x : Result Value Fault). option_or (result_err x) (fault_in_pops (drop (i + 1) kinds) (drop 1 rest))) is

pub pops-fault : (kinds : List Kind) (i : ℕ) (d : Kind) (rest : List Value) (e : Fault) → i < length kinds
    → value_on (get_or kinds i d) rest ≡ Err e → fault_in_pops (drop i kinds) rest ≡ Some e
pops-fault kinds i d rest e h is = first kinds i d rest (Err e) h is

pub pops-more : (kinds : List Kind) (i : ℕ) (d : Kind) (rest : List Value) (v : Value) → i < length kinds
    → value_on (get_or kinds i d) rest ≡ Ok v → fault_in_pops (drop i kinds) rest
    ≡ fault_in_pops (drop (i + 1) kinds) (drop 1 rest)
pops-more kinds i d rest v h is = first kinds i d rest (Ok v) h is

pub pops-all : (kinds : List Kind) (i : ℕ) (rest : List Value) → length kinds ≤ i → fault_in_pops (drop i kinds) rest
    ≡ None
pops-all kinds i rest h = ap (λ (l : List Kind). fault_in_pops l rest) (drop_all i kinds h)

pub ruleset pops = (pops-fault, pops-more, pops-all)
