use Rattle.std.proofs.Common.{ℕ, ◌∙◌, ◌&&◌, arith, subst, List}
use Rattle.std.specs.List.{list_any}
use Rattle.std.specs.Str.{bytes_eq}
use Rattle.std.proofs.lemmas.List.{take_all}
use Rattle.model.specs.declared.listings.Method.{Method}
use Rattle.acceptance.proofs.RepeatLemmas.{NotesSignatures, notes-none, signatures-more, signatures-all}
use Rattle.acceptance.proofs.members.has_method_twice.Goals as goal

abbrev name : Method → List ℕ
name m = m.name

abbrev descriptor : Method → List ℕ
descriptor m = m.descriptor

pub loop-method-init : goal.loop-method-init
loop-method-init c =
    notes-none (λ x y. bytes_eq x.0.bytes.now y.0.bytes.now && bytes_eq x.1.bytes.now y.1.bytes.now)
    (λ k (a : Method). bytes_eq a.name k.0.bytes.now && bytes_eq a.descriptor k.1.bytes.now)
    c.new-repeats.result c.args.methods.now c.new-repeats.ensures

pub loop-method-preserved : goal.loop-method-preserved
loop-method-preserved c =
    signatures-more name descriptor c.loop-method.repeats c.note.new.self c.args.methods.now c.loop-method.method-index
    c.method-item.result c.method_signature.result
    c.loop-method.invariant (omega arith) c.method-item.is c.method_signature.ensures.name
    c.method_signature.ensures.descriptor c.in_ok-note.ensures

pub returns : goal.returns
returns c =
    let methods : List Method = c.args.methods.now in
    let all : NotesSignatures name descriptor c.loop-method.repeats methods =
    subst (NotesSignatures name descriptor c.loop-method.repeats) (take_all c.loop-method.method-index methods
    (omega arith)) c.loop-method.invariant in
    c.is_one_method_again.ensures
    ∙ (λ j. list_any (λ m. signatures-all name descriptor c.loop-method.repeats methods m.name m.descriptor all j)
    methods)
