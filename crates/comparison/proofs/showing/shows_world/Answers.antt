use Rattle.std.proofs.Common.{◌&&◌}
use Rattle.std.proofs.lemmas.Bool.Decides.{Decides-at}
use Rattle.comparison.proofs.Shown.{shows_decides}
use Rattle.comparison.proofs.showing.shows_world.Goals as goal

pub returns : goal.returns
returns c =
    let b = c.has_same_beside-beside.result in
    let t = c.in_ok-threads.threads in
    let s = c.in_ok-slots.slots in
    let o = c.in_ok-objects.objects in
    Decides-at c.all_four.result (((b && t) && s) && o) c.all_four.ensures
    (shows_decides c.args.world.now c.args.other.now c.loses_nothing.ensures.now b t s o
    c.has_same_beside-beside.ensures c.in_ok-threads.ensures c.in_ok-slots.ensures c.in_ok-objects.ensures)
