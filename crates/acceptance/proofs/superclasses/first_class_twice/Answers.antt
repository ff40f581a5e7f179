use Rattle.std.proofs.Common.{ℕ, ap, ◌∙◌, arith, subst, List}
use Rattle.std.specs.List.{find}
use Rattle.std.specs.Str.{bytes_eq}
use Rattle.std.proofs.lemmas.List.{take_all}
use Rattle.model.specs.ClassListings.{ClassListing}
use Rattle.model.specs.Accepted.Superclasses.{is_class_twice}
use Rattle.acceptance.proofs.RepeatLemmas.{NotesNames, notes-none, names-more, names-all}
use Rattle.acceptance.proofs.superclasses.first_class_twice.Goals as goal

abbrev class_name : ClassListing → List ℕ
class_name c = c.name

pub loop-class-init : goal.loop-class-init
loop-class-init c = notes-none (λ x y. bytes_eq x.bytes.now y.bytes.now) (λ k (a : ClassListing). bytes_eq a.name
    k.bytes.now) c.new-repeats.result c.args.program.now c.new-repeats.ensures

pub loop-class-preserved : goal.loop-class-preserved
loop-class-preserved c =
    names-more class_name c.loop-class.repeats c.note.new.self c.args.program.now c.loop-class.class-index
    c.class-item.result (record { bytes = c.as_bytes.result })
    c.loop-class.invariant (omega arith) c.class-item.is (c.as_bytes.ensures ∙ ap class_name c.class.view_is)
    c.in_ok-note.ensures

pub returns : goal.returns
unfolding is_class_twice
returns c =
    let program : List ClassListing = c.args.program.now in
    let all : NotesNames class_name c.loop-class.repeats program =
    subst (NotesNames class_name c.loop-class.repeats) (take_all c.loop-class.class-index program (omega arith))
    c.loop-class.invariant in
    c.first_again.ensures ∙ (λ j. find (λ x. names-all class_name c.loop-class.repeats program x.name all j) program)
