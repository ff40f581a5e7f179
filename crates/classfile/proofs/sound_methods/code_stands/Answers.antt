use Rattle.std.proofs.Common.{subst, ◌∙◌}
use Rattle.std.specs.Prelude.{◌≡◌, ◌↔◌, true}
use Rattle.model.specs.ClassFiles.Codes.{CodePart}
use Rattle.classfile.specs.Sound.{CodeStands}
use Rattle.classfile.proofs.SoundLaws as laws
use Rattle.classfile.proofs.sound_methods.code_stands.Goals as goal

pub returns : goal.returns
returns c =
    let inside = c.code.inside in
    let code : CodePart = record {
      name = inside.name;
      max_stack = inside.max_stack;
      max_locals = inside.max_locals;
      instructions = inside.instructions;
      rows = inside.rows.items;
    } in
    subst (λ (k : CodePart). (c.both.result ≡ true) ↔ CodeStands c.args.pool.now k) c.code.view_is
    (laws.code_test c.args.pool.now code c.as_slice-instructions.result.now c.as_slice-rows.result.now
    c.is_code-is_sound.result c.is_count.result c.rows_stand.result c.both-fit.result c.both.result
    (c.as_slice-instructions.ensures ∙ c.in_ok-items.ensures.same) c.as_slice-rows.ensures.value
    c.is_code-is_sound.ensures.fits c.in_ok-items.ensures.code c.is_code-is_sound.ensures.is c.is_count.ensures
    c.rows_stand.ensures c.both-fit.ensures c.both.ensures)
