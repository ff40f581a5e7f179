use Rattle.model.proofs.CollectorLemmas.Collecting.{collected_keeps}
use Rattle.model.proofs.CollectorLemmas.Turning.{changed_keeps}
use Rattle.model.proofs.CollectorLemmas.Promising.{always_holds, always_kept, always_coloured, always_room}
use Rattle.model.proofs.CollectorLemmas.Promising.{always_chosen, always_shown}
use Rattle.model.proofs.CollectorLemmas.Reclaiming.{always_reclaims}
use Rattle.model.proofs.collector.no_reachable_object_is_lost.Goals as goal

pub returns-clause-collector : goal.returns-clause-collector
returns-clause-collector c = collected_keeps

pub returns-clause-thread : goal.returns-clause-thread
returns-clause-thread c = changed_keeps

pub returns-clause-holds : goal.returns-clause-holds
returns-clause-holds c = always_holds

pub returns-clause-kept : goal.returns-clause-kept
returns-clause-kept c = always_kept

pub returns-clause-coloured : goal.returns-clause-coloured
returns-clause-coloured c = always_coloured

pub returns-clause-reclaimed : goal.returns-clause-reclaimed
returns-clause-reclaimed c = always_reclaims

pub returns-clause-room : goal.returns-clause-room
returns-clause-room c = always_room

pub returns-clause-chosen : goal.returns-clause-chosen
returns-clause-chosen c = always_chosen

pub returns-clause-shown : goal.returns-clause-shown
returns-clause-shown c = always_shown
