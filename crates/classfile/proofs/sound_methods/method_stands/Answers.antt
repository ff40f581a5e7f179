use Rattle.std.proofs.Common.{subst}
use Rattle.std.specs.Prelude.{◌≡◌, ◌↔◌, true}
use Rattle.model.specs.ClassFiles.Methods.{MethodPart}
use Rattle.classfile.specs.Sound.{MethodStands}
use Rattle.classfile.proofs.SoundLaws as laws
use Rattle.classfile.proofs.sound_methods.method_stands.Goals as goal

pub returns : goal.returns
returns c =
    let inside = c.method.inside in
    let method : MethodPart = record {
      flags = inside.flags;
      name = inside.name;
      descriptor = inside.descriptor;
      code =
          inside.code;
    } in
    subst (λ (m : MethodPart). (c.both.result ≡ true) ↔ MethodStands c.args.pool.now c.args.class m) c.method.view_is
    (laws.method_test c.args.pool.now c.args.class method c.bits-flags.result c.wants_code.result
    c.is_method-is_sound.result c.in_ok-has_code.has_code c.both.result (c.bits-flags.ensures tt)
    c.is_method-is_sound.ensures.fits c.is_method-is_sound.ensures.is c.wants_code.ensures c.in_ok-has_code.ensures
    c.both.ensures)
