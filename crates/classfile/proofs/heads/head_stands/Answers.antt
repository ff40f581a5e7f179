use Rattle.std.proofs.Common.{subst, sym}
use Rattle.std.specs.Prelude.{◌≡◌, ◌↔◌, true}
use Rattle.model.specs.ClassFiles.Heads.{HeadPart, IsHead}
use Rattle.model.specs.ClassFiles.Pools.{PoolFits}
use Rattle.model.specs.ClassFiles.References.{AreSound}
use Rattle.classfile.proofs.SoundLaws as laws
use Rattle.classfile.proofs.heads.head_stands.Goals as goal

pub returns : goal.returns
returns c =
    let inside = c.parts.inside in
    let head : HeadPart = record {
      pool = inside.pool;
      flags = inside.flags;
      class = inside.class;
      superclass =
          inside.superclass;
      interfaces = inside.interfaces.items;
      fields = inside.fields.items;
    } in
    let fits : PoolFits head.pool = subst (λ (h : HeadPart). PoolFits h.pool) (sym c.parts.view_is) c.requires.fits in
    let sound : AreSound head.pool = subst (λ (h : HeadPart). AreSound h.pool) (sym c.parts.view_is) c.requires.sound in
    subst (λ (h : HeadPart). (c.both-3.result ≡ true) ↔ IsHead h) c.parts.view_is
    (laws.head_test head c.bits-flags.result c.as_slice-interfaces.result.now c.as_slice-fields.result.now
    c.class_stands-class.result c.class_stands-superclass.result c.is_count.result c.classes_stand.result
    c.both-others.result c.is_count-2.result c.fields_stand.result
    c.both-members.result c.flags_stand.result c.both.result c.both-itself.result c.both-2.result c.both-3.result fits
    sound (c.bits-flags.ensures tt) c.as_slice-interfaces.ensures.value c.as_slice-fields.ensures.value
    c.class_stands-class.ensures
    c.class_stands-superclass.ensures c.is_count.ensures c.classes_stand.ensures c.both-others.ensures
    c.is_count-2.ensures c.fields_stand.ensures c.both-members.ensures c.flags_stand.ensures.fits
    c.flags_stand.ensures.is c.both.ensures c.both-itself.ensures
    c.both-2.ensures c.both-3.ensures)
