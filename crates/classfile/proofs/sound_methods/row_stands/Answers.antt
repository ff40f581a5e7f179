use Rattle.std.proofs.Common.{subst}
use Rattle.std.specs.Prelude.{◌≡◌, ◌↔◌, true}
use Rattle.model.specs.ClassFiles.Codes.{CodeRow, RowFits}
use Rattle.classfile.proofs.SoundLaws as laws
use Rattle.classfile.proofs.sound_methods.row_stands.Goals as goal

pub returns : goal.returns
returns c =
    let inside = c.row.inside in
    let fits = c.is_row.ensures.fits in
    let row : CodeRow = record {
      start = inside.start;
      end = inside.end;
      handler = inside.handler;
      class =
          inside.class;
    } in
    subst (λ (r : CodeRow). (c.is_row.result ≡ true) ↔ RowFits c.args.pool.now r) c.row.view_is
    (laws.row_stands c.args.pool.now row c.is_row.result fits.0 fits.1 fits.2 fits.3 c.is_row.ensures.is)
