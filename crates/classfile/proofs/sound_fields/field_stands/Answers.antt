use Rattle.classfile.proofs.SoundLaws as laws
use Rattle.classfile.proofs.sound_fields.field_stands.Goals as goal

pub returns : goal.returns
returns c = laws.field_test c.args.pool.now c.args.class c.args.field.now c.bits-flags.result c.is_field.result
    (c.bits-flags.ensures tt) c.is_field.ensures.fits c.is_field.ensures.constant c.is_field.ensures.is
