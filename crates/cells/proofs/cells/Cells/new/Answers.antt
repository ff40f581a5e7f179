use Rattle.std.proofs.Common.{◌≡◌, ◌+◌, None, ap, sym, ◌∙◌, arith}
use Rattle.model.specs.Room.{words_of_cell}
use Rattle.std.specs.Prelude.{replicate}
use Rattle.cells.specs.declared.headers.Header.{Header}
use Rattle.cells.proofs.LayoutLemmas.{laid_out-more, nobody-push, one_longer, words_of_cell_up_to}
use Rattle.cells.proofs.CellLemmas.{with_objects}
use Rattle.cells.proofs.cells.Cells.new.Goals as goal

pub loop-cell-preserved : goal.loop-cell-preserved
loop-cell-preserved g c =
    let vacant = c.vacant.ensures in
    let wide : c.from-end.result ≡ words_of_cell c.args.shape c.loop-cell.cell = c.from-end.ensures
    ∙ c.room_of-room.ensures in
    let headers = c.in_ok-push.ensures.items in
    let most = words_of_cell_up_to c.args.shape c.loop-cell.cell in
    let base_is = ap (λ (h : Header _). h.base) vacant in
    let room_is = ap (λ (h : Header _). h.room) vacant ∙ sym c.from-end.ensures in
    let unused = ap (λ (h : Header _). h.length) vacant in
    let kind_is = ap (λ (h : Header _). h.kind) vacant in
    record {
      laid_out = rw headers (laid_out-more _ _ _ c.loop-cell.cell _ c.vacant.result c.loop-cell.invariant.laid_out
          c.loop-cell.invariant.count wide base_is room_is unused);
      count = one_longer _ _ _ _ headers c.loop-cell.invariant.count;
      bound = omega (arith, wide, most);
      nobody = λ words. rw headers (nobody-push words _ c.loop-cell.cell c.vacant.result
          (c.loop-cell.invariant.nobody words) kind_is);
    }

pub returns : goal.returns
returns g c =
    let all : c.loop-cell.cell ≡ c.args.shape.small + c.args.shape.medium + c.args.shape.large = omega arith in
    with_objects _ _ _ (c.loop-cell.invariant.nobody _ ∙ ap (λ n. replicate n None) all)
