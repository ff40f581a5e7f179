use Rattle.std.proofs.Common.{◌+◌, arith, refl, length-set}
use Rattle.model.specs.declared.colours.Colour.TheVariants.{Grey}
use Rattle.colours.proofs.Keeping.{takes, takes_leave, is_within, is_free_there, is_not_grey, room_for_grey, pushed}
use Rattle.colours.proofs.Keeping.{came, room_kept}
use Rattle.colours.proofs.accounts.Account.create.Goals as goal

pub index_mut-requires : goal.index_mut-requires
index_mut-requires c =
    let in_self = c.self.inside in
    let out = takes_leave in_self.cells.items in_self.free c.take.new.self in_self.grey
    in_self.phase c.args.words c.in_ok-cell.cell _ c.take.ensures.taken c.in_ok-cell.was in
    let within = is_within _ _ _ c.self.invariant.0 out in
    let len = in_self.cells.ok.0 in
    omega (arith, within, len)

pub overflow_add-cell : goal.overflow_add-cell
overflow_add-cell c =
    let in_self = c.self.inside in
    let out = takes_leave in_self.cells.items in_self.free c.take.new.self in_self.grey
    in_self.phase c.args.words c.in_ok-cell.cell _ c.take.ensures.taken c.in_ok-cell.was in
    let within = is_within _ _ _ c.self.invariant.0 out in
    let few = c.self.invariant.0.few in
    omega (arith, within, few)

pub push-requires : goal.push-requires
push-requires c =
    let in_self = c.self.inside in
    let out = takes_leave in_self.cells.items in_self.free c.take.new.self in_self.grey
    in_self.phase c.args.words c.in_ok-cell.cell _ c.take.ensures.taken c.in_ok-cell.was in
    let within = is_within _ _ _ c.self.invariant.0 out in
    let less = room_for_grey _ _ c.self.invariant.0 within (is_not_grey _ _ _ c.self.invariant.0 out) in
    let room = c.self.invariant.1.grey in
    omega (arith, less, room)

pub invariant_of-self-2 : goal.invariant_of-self-2
invariant_of-self-2 c =
    let in_self = c.self.inside in
    let out = takes_leave in_self.cells.items in_self.free c.take.new.self in_self.grey
    in_self.phase c.args.words c.in_ok-cell.cell _ c.take.ensures.taken c.in_ok-cell.was in
    let one_more = pushed in_self.grey c.push.new.list (c.in_ok-cell.cell + 1) c.push.ensures in
    let length = one_more.0 in (
      came _ c.in_ok-cell.cell _ c.args.birth Grey _ c.self.invariant.0 out (omega (arith, length)),
      room_kept _ _ _ _ _ _ (length-set _ _ _) c.take.ensures.room one_more.1 c.self.invariant.1,
    )

pub returns-clause-cell : goal.returns-clause-cell
returns-clause-cell c =
    let in_self = c.self.inside in
    rw (
      ← c.self.view_is,
      takes in_self.cells.items in_self.free c.take.new.self in_self.grey
          in_self.phase c.args.words c.in_ok-cell.cell _ c.take.ensures.taken c.in_ok-cell.was,
    ) refl

pub returns-clause-room : goal.returns-clause-room
returns-clause-room c =
    let in_self = c.self.inside in
    rw (
      ← c.self.view_is,
      takes in_self.cells.items in_self.free c.take.new.self in_self.grey
          in_self.phase c.args.words c.in_ok-cell.cell _ c.take.ensures.taken c.in_ok-cell.was,
    ) refl

pub returns-clause-free : goal.returns-clause-free
returns-clause-free c =
    let in_self = c.self.inside in
    let out = takes_leave in_self.cells.items in_self.free c.take.new.self in_self.grey
    in_self.phase c.args.words c.in_ok-cell.cell _ c.take.ensures.taken c.in_ok-cell.was in
    rw (← c.self.view_is) (is_free_there _ _ _ c.self.invariant.0 out)
