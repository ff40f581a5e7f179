use Rattle.exploration.proofs.ReducedRuns.{reduced_shows_all}
use Rattle.exploration.proofs.ClosedLists.{closed_has_all, runs_come}
use Rattle.exploration.proofs.CanonicalForms.{canonical_represents, turns_make_all}
use Rattle.exploration.proofs.Witnesses.{opening_is_witnessed, turns_are_witnessed}
use Rattle.exploration.proofs.ReducedWitnesses.{ahead_is_witnessed}
use Rattle.exploration.proofs.Search.{searches_all}
use Rattle.exploration.proofs.Observations.{closed_shows_all}
use Rattle.exploration.proofs.Outcomes.{outcomes_are_real, outcomes_of_all, rest_is_halted}
use Rattle.exploration.proofs.a_closed_list_has_every_run.Goals as goal

pub returns-clause-all : goal.returns-clause-all
returns-clause-all c = closed_has_all

pub returns-clause-shown : goal.returns-clause-shown
returns-clause-shown c = closed_shows_all

pub returns-clause-opening : goal.returns-clause-opening
returns-clause-opening c = opening_is_witnessed

pub returns-clause-witnessed : goal.returns-clause-witnessed
returns-clause-witnessed c = turns_are_witnessed

pub returns-clause-canonical : goal.returns-clause-canonical
returns-clause-canonical c = canonical_represents

pub returns-clause-made : goal.returns-clause-made
returns-clause-made c = turns_make_all

pub returns-clause-reduced : goal.returns-clause-reduced
returns-clause-reduced c = reduced_shows_all

pub returns-clause-reduced_witnessed : goal.returns-clause-reduced_witnessed
returns-clause-reduced_witnessed c = ahead_is_witnessed

pub returns-clause-outcomes : goal.returns-clause-outcomes
returns-clause-outcomes c = outcomes_of_all

pub returns-clause-real : goal.returns-clause-real
returns-clause-real c = outcomes_are_real

pub returns-clause-rest : goal.returns-clause-rest
returns-clause-rest c = rest_is_halted

pub returns-clause-searches : goal.returns-clause-searches
returns-clause-searches c = searches_all

pub returns-clause-come : goal.returns-clause-come
returns-clause-come c = runs_come
