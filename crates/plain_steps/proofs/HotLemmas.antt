-- what a step comes to that writes one reference at most
use Rattle.std.proofs.Common.{◌≡◌, ℕ, ◌≤◌, List, [], ◌∷◌, length, Option, Some, Result, Ok, Err, ap, sym, arith}
use Rattle.std.specs.Prelude.{IfOk, IfSome, IfNone, OnErr}
use Rattle.std.specs.Option.{option_to_list}
use Rattle.model.specs.declared.turns.Abrupt.{Abrupt}
use Rattle.model.specs.Frames.{Frame, Moved}
use Rattle.plain_steps.specs.Reported.{reported_with, moved_with, carried}

reported_step : (reported : Result (List ℕ) Abrupt) (old after : List Frame) (move : Result Moved Abrupt)
    → reported_with reported after ≡ moved_with old move → IfOk reported (λ written. length written ≤ 1)
    → IfSome (carried reported) (λ written. Some (moved_with old move) ≡ Some (Ok (after, option_to_list written)))
reported_step (Ok []) old after move is few = ap Some (sym is)
reported_step (Ok (n ∷ [])) old after move is few = ap Some (sym is)
reported_step (Ok (n ∷ m ∷ ns)) old after move is few = absurd (omega arith)
reported_step (Err e) old after move is few = tt

pub hot_step-carried : (answer : Option (Option ℕ)) (reported : Result (List ℕ) Abrupt) (old after : List Frame)
    (move : Result Moved Abrupt) → answer ≡ carried reported → reported_with reported after ≡ moved_with old move
    → IfOk reported (λ written. length written ≤ 1) → IfSome answer (λ written. Some (moved_with old move)
    ≡ Some (Ok (after, option_to_list written)))
hot_step-carried answer reported old after move same is few = rw same (reported_step reported old after move is few)

reported_passed : (reported : Result (List ℕ) Abrupt) (old after : List Frame) → OnErr reported (after ≡ old)
    → IfNone (carried reported) (after ≡ old)
reported_passed (Ok written) old after kept = tt
reported_passed (Err e) old after kept = kept

pub hot_step-passed : (answer : Option (Option ℕ)) (reported : Result (List ℕ) Abrupt) (old after : List Frame)
    → answer ≡ carried reported → OnErr reported (after ≡ old) → IfNone answer (after ≡ old)
hot_step-passed answer reported old after same kept = rw same (reported_passed reported old after kept)

pub ruleset hot = (hot_step-carried, hot_step-passed)
