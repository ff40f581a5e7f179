use Rattle.std.proofs.Common.{◌≡◌, subst, true, ◌∙◌, sym, ap, arith, refl, ℕ}
use Rattle.atomic_table.specs.Table.{Me}
use Rattle.board.specs.declared.views.View.{View}
use Rattle.board.specs.Marks.{is_own}
use Rattle.board.proofs.Looking.{holds, owns_its}
use Rattle.board.proofs.Shared.{hand_over_allowed, take_in_allowed, part_allowed}
use Rattle.board.proofs.Visits.{round_of_both, host_sees, guest_sees, host_holds, guest_holds, as_host, as_guest}
use Rattle.board.proofs.Visits.{seen_a, seen_b}
use Rattle.board.proofs.boards.Board.visit.Goals as goal

pub split_seat-handed-requires : goal.split_seat-handed-requires
split_seat-handed-requires c = let words = c.args.self.now.words_are in (
  c.requires.guest.0,
  omega arith,
  hand_over_allowed _ _ _,
)

pub join_seat-requires : goal.join_seat-requires
join_seat-requires c =
    let words = c.args.self.now.words_are in
    let handed = c.split_seat-handed.ensures in (
      c.requires.host.0,
      handed.3 ∙ c.requires.guest.0,
      ap (λ (m : Me ℕ View). m.1) handed.4,
      omega arith,
      take_in_allowed _ _ _ _ _ (owns_its _ _ _ (holds c.args.host.now))
          (subst (λ (m : Me ℕ View). is_own m.0.marks m.0.worker ≡ true) (sym handed.4)
          (owns_its _ _ _ (holds c.args.guest.now))),
    )

pub split_seat-requires : goal.split_seat-requires
split_seat-requires c =
    let words = c.args.self.now.words_are in
    (c.look_round.ensures.table.0 ∙ (c.join_seat.ensures.0 ∙ c.requires.host.0), omega arith, part_allowed _ _ _)

pub invariant_of-host : goal.invariant_of-host
invariant_of-host c =
    let h = holds c.args.host.now in
    let g = holds c.args.guest.now in
    let after = c.split_seat.ensures in
    let round = round_of_both _ c.args.host.now.seat.me c.args.guest.now.seat.me _ _ _ c.split_seat-handed.ensures.4
    c.join_seat.ensures.2 c.look_round.ensures.view in
    let new = host_holds _ _ _ _ _ _ _ h g c.requires.host.1 c.requires.guest.1 _ round c.split_seat.new.seat.me
    (ap (λ (m : Me ℕ View). m.0) after.2)
    (ap (λ (m : Me ℕ View). m.1) after.2
    ∙ (c.look_round.ensures.table.1 ∙ (ap (λ (m : Me ℕ View). m.1) c.join_seat.ensures.2 ∙ h.no_slot))) in
    record { no_slot = new.no_slot; worker_is = new.worker_is; own = new.own; no_other = new.no_other }

pub invariant_of-guest : goal.invariant_of-guest
invariant_of-guest c =
    let h = holds c.args.host.now in
    let g = holds c.args.guest.now in
    let after = c.split_seat.ensures in
    let round = round_of_both _ c.args.host.now.seat.me c.args.guest.now.seat.me _ _ _ c.split_seat-handed.ensures.4
    c.join_seat.ensures.2 c.look_round.ensures.view in
    let new = guest_holds _ _ _ _ _ _ _ h g c.requires.host.1 c.requires.guest.1 _ round c.split_seat.result.me
    (ap (λ (m : Me ℕ View). m.0) after.4) (ap (λ (m : Me ℕ View). m.1) after.4) in
    record { no_slot = new.no_slot; worker_is = new.worker_is; own = new.own; no_other = new.no_other }

pub returns-clause-host : goal.returns-clause-host
returns-clause-host c =
    let h = holds c.args.host.now in
    let g = holds c.args.guest.now in
    let after = c.split_seat.ensures in
    let round = round_of_both _ c.args.host.now.seat.me c.args.guest.now.seat.me _ _ _ c.split_seat-handed.ensures.4
    c.join_seat.ensures.2 c.look_round.ensures.view in
    let sees = host_sees _ _ _ _ _ _ _ h g c.requires.host.1 c.requires.guest.1 _ round c.split_seat.new.seat.me
    (ap (λ (m : Me ℕ View). m.0) after.2) in
    record {
      same = (after.0 ∙ (c.look_round.ensures.table.0 ∙ c.join_seat.ensures.0), refl);
      count = refl;
      mine = as_host _ _ _ _ _ _ _ h g c.requires.host.1 c.requires.guest.1 _ round c.split_seat.new.seat.me.0 sees;
      yours = as_guest _ _ _ _ _ _ _ h g c.requires.host.1 c.requires.guest.1 _ round c.split_seat.new.seat.me.0 sees;
      exact = sees.0 c.args.guest.now.worker ∙ seen_b _ _ _ _ _ _ _ h g c.requires.host.1 c.requires.guest.1 _ round;
    }

pub returns-clause-guest : goal.returns-clause-guest
returns-clause-guest c =
    let h = holds c.args.host.now in
    let g = holds c.args.guest.now in
    let after = c.split_seat.ensures in
    let round = round_of_both _ c.args.host.now.seat.me c.args.guest.now.seat.me _ _ _ c.split_seat-handed.ensures.4
    c.join_seat.ensures.2 c.look_round.ensures.view in
    let sees = guest_sees _ _ _ _ _ _ _ h g c.requires.host.1 c.requires.guest.1 _ round c.split_seat.result.me
    (ap (λ (m : Me ℕ View). m.0) after.4) in
    record {
      same = (
        after.3 ∙ (c.look_round.ensures.table.0
            ∙ (c.join_seat.ensures.0 ∙ (c.requires.host.0 ∙ sym c.requires.guest.0))),
        refl,
      );
      count = refl;
      mine = as_guest _ _ _ _ _ _ _ h g c.requires.host.1 c.requires.guest.1 _ round c.split_seat.result.me.0 sees;
      yours = as_host _ _ _ _ _ _ _ h g c.requires.host.1 c.requires.guest.1 _ round c.split_seat.result.me.0 sees;
      exact = sees.0 c.args.host.now.worker ∙ seen_a _ _ _ _ _ _ _ h g c.requires.host.1 c.requires.guest.1 _ round;
    }
