use Rattle.std.proofs.Common.{◌&&◌, arith}
use Rattle.std.specs.Str.{bytes_eq}
use Rattle.model.specs.declared.listings.Field.{Field}
use Rattle.resolve.proofs.MemberLemmas.{added-named, found-all, found-more}
use Rattle.resolve.proofs.members.first_fields.Goals as goal

pub loop-field-preserved : goal.loop-field-preserved
loop-field-preserved c =
    found-more (λ n d (m : Field). bytes_eq m.name n && bytes_eq m.descriptor d) c.loop-field.found.members.entries
    c.add.new.self.members.entries
    c.args.fields.now c.loop-field.field-index c.field-item.result c.loop-field.invariant c.field-item.is (omega arith)
    (added-named c.loop-field.found.members.entries c.add.new.self.members.entries c.as_bytes.result.now
    c.as_bytes-in-loop-field.result.now
    c.field-item.result.name c.field-item.result.descriptor c.field-item.result c.as_bytes.ensures
    c.as_bytes-in-loop-field.ensures c.in_ok-add.ensures)

pub returns : goal.returns
returns c =
    found-all (λ n d (m : Field). bytes_eq m.name n && bytes_eq m.descriptor d) c.loop-field.found.members.entries
    c.args.fields.now
    c.loop-field.field-index c.loop-field.invariant (omega arith)
