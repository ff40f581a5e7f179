use Rattle.std.proofs.Common.{ℕ, ◌∙◌, ◌&&◌, arith, subst, List}
use Rattle.std.specs.List.{list_any}
use Rattle.std.specs.Str.{bytes_eq}
use Rattle.std.proofs.lemmas.List.{take_all}
use Rattle.model.specs.declared.listings.Field.{Field}
use Rattle.acceptance.proofs.RepeatLemmas.{NotesSignatures, notes-none, signatures-more, signatures-all}
use Rattle.acceptance.proofs.members.has_field_twice.Goals as goal

abbrev name : Field → List ℕ
name m = m.name

abbrev descriptor : Field → List ℕ
descriptor m = m.descriptor

pub loop-field-init : goal.loop-field-init
loop-field-init c =
    notes-none (λ x y. bytes_eq x.0.bytes.now y.0.bytes.now && bytes_eq x.1.bytes.now y.1.bytes.now)
    (λ k (a : Field). bytes_eq a.name k.0.bytes.now && bytes_eq a.descriptor k.1.bytes.now)
    c.new-repeats.result c.args.fields.now c.new-repeats.ensures

pub loop-field-preserved : goal.loop-field-preserved
loop-field-preserved c =
    signatures-more name descriptor c.loop-field.repeats c.note.new.self c.args.fields.now c.loop-field.field-index
    c.field-item.result c.field_signature.result
    c.loop-field.invariant (omega arith) c.field-item.is c.field_signature.ensures.name
    c.field_signature.ensures.descriptor c.in_ok-note.ensures

pub returns : goal.returns
returns c =
    let fields : List Field = c.args.fields.now in
    let all : NotesSignatures name descriptor c.loop-field.repeats fields =
    subst (NotesSignatures name descriptor c.loop-field.repeats) (take_all c.loop-field.field-index fields
    (omega arith)) c.loop-field.invariant in
    c.is_one_field_again.ensures
    ∙ (λ j. list_any (λ m. signatures-all name descriptor c.loop-field.repeats fields m.name m.descriptor all j)
    fields)
