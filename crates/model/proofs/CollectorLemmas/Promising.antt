use Rattle.std.proofs.Common.{ℕ, ◌↔◌, IsTrue}
use Rattle.model.specs.Accounts.{has_room}
use Rattle.model.specs.Room.{Room}
use Rattle.model.specs.Worlds.{next_birth}
use Rattle.model.specs.Shows.{Shows}
use Rattle.model.specs.Heaps.{heap_of}
use Rattle.model.specs.Collector.Choices.{AlwaysChoosesByRoom}
use Rattle.model.specs.Collector.Paths.{KeepsReachable, ThreeColour}
use Rattle.model.specs.Collector.Runs.{machine_after, Always, Holds}
use Rattle.model.proofs.CollectorLemmas.FindingRoom.{chooses_by_room}
use Rattle.model.proofs.CollectorLemmas.Running.{machine_holds}
use Rattle.model.proofs.CollectorLemmas.Rooms.{room_is_listed}
use Rattle.model.proofs.CollectorLemmas.Tracing.{three_colours}
use Rattle.model.proofs.CollectorLemmas.Holding.{keeps_reachable}
use Rattle.model.proofs.CollectorLemmas.Showing.{heap_shows}

-- what is promised of every run

pub always_holds : Always Holds
always_holds program shape limits actors fits = machine_holds program shape limits actors fits.0

pub always_kept : Always (λ shape m. KeepsReachable shape m.world m.account)
unfolding Holds
always_kept program shape limits actors fits =
    let m = machine_after program shape limits actors in
    keeps_reachable shape m.world (next_birth m.world) m.account (machine_holds program shape limits actors fits.0)

pub always_coloured : Always (λ shape m. ThreeColour m.world m.account)
unfolding Holds
always_coloured program shape limits actors fits =
    let m = machine_after program shape limits actors in
    three_colours shape m.world (next_birth m.world) m.account (machine_holds program shape limits actors fits.0)

pub always_room : Always (λ shape m. (words : ℕ) → Room shape m.account words ↔ IsTrue (has_room m.account words))
unfolding Holds
always_room program shape limits actors fits words =
    let m = machine_after program shape limits actors in
    room_is_listed shape (next_birth m.world) m.account words (machine_holds program shape limits actors fits.0).tidy

pub always_chosen : AlwaysChoosesByRoom
unfolding Holds
always_chosen program shape limits actors fits t e =
    let m = machine_after program shape limits actors in
    chooses_by_room program shape limits (next_birth m.world) m t (machine_holds program shape limits actors
    fits.0).tidy e

pub always_shown : Always (λ shape m. Shows (heap_of m.account m.world) m.world)
unfolding Holds
always_shown program shape limits actors fits =
    let m = machine_after program shape limits actors in
    heap_shows shape m.world m.account (machine_holds program shape limits actors fits.0)
