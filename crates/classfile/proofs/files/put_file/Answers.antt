use Rattle.std.proofs.Common.{◌++◌, List, ap, subst, ◌∙◌, append_assoc}
use Rattle.std.proofs.lemmas.Result.{on_ok_weaker}
use Rattle.model.specs.ClassFiles.Classes.{ClassPart, IsClassFile}
use Rattle.model.specs.ClassFiles.Methods.{MethodPart}
use Rattle.classfile.specs.Writing.{after_head_bytes}
use Rattle.classfile.proofs.ClassLaws.{methods_fit, class_written}
use Rattle.classfile.proofs.files.put_file.Goals as goal

pub put_after_head-requires-clause-fit : goal.put_after_head-requires-clause-fit
put_after_head-requires-clause-fit c =
    rw c.as_slice.ensures.value (methods_fit c.file.invariant.0 (record {
      head = c.file.inside.head;
      methods = c.file.inside.methods.items;
    }) c.file.invariant.1)

pub returns : goal.returns
returns c =
    let inside : ClassPart = record { head = c.file.inside.head; methods = c.file.inside.methods.items } in
    let head = c.in_ok-write.ensures in
    let following = after_head_bytes c.file.inside.methods.items in
    let text = head.0 ++ following in
    let is : IsClassFile text c.args.file.now = subst (λ (p : ClassPart). IsClassFile text p) c.file.view_is
    (class_written c.file.invariant.0 head.0 inside c.file.invariant.1 head.1) in
    on_ok_weaker c.put_after_head.result
    (λ e. (
      text,
      is,
      e ∙ ap (λ (methods : List MethodPart). c.write.new.out.items ++ after_head_bytes methods)
          c.as_slice.ensures.value ∙ ap (λ (front : List _). front ++ following) head.2
          ∙ append_assoc c.args.out.now.items head.0 following,
    ))
    c.put_after_head.ensures
