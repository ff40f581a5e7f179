use Rattle.std.proofs.Common.{◌&&◌, ◌||◌, not, Bool, List, ℕ, Some, None, cond, take, ◌+◌, arith, ap, sym, subst, ◌∙◌}
use Rattle.std.specs.Str.{bytes_eq}
use Rattle.model.specs.declared.listings.Method.{Method}
use Rattle.model.specs.Classes.Flags.{is_private, is_static}
use Rattle.model.specs.Classes.Named.{or_else}
use Rattle.resolve.specs.Members.{Signed, VirtualsAre, found_under}
use Rattle.resolve.proofs.MemberLemmas.{added-named, and-fails, and-passes, found-all, found-more, found-same}
use Rattle.resolve.proofs.members.first_virtuals.Goals as goal
use Rattle.resolve.proofs.members.first_virtuals.Goals.{then-is_virtual+in_ok-add, else-is_virtual}

abbrev is_virtual : Method → Bool
is_virtual m = not (is_static m || is_private m)

abbrev fits : List ℕ → List ℕ → Method → Bool
fits n d m = bytes_eq m.name n && bytes_eq m.descriptor d && is_virtual m

pub loop-method-preserved : goal.loop-method-preserved
loop-method-preserved c =
    let m : Method = c.method-item.result in
    let before : Signed Method = c.loop-method.found.members.entries in
    elim c.if-is_virtual.branch [
      | then-is_virtual+in_ok-add w ↦
          let after : Signed Method = w.add.new.self.members.entries in
          subst (λ found. VirtualsAre (take (c.loop-method.method-index + 1) c.args.methods.now) found.members.entries)
          (sym w.found-is)
          (found-more fits before after c.args.methods.now c.loop-method.method-index m c.loop-method.invariant
          c.method-item.is (omega arith)
          (λ n d.
          added-named before after w.as_bytes.result.now w.as_bytes-then-is_virtual.result.now m.name m.descriptor m
          w.as_bytes.ensures w.as_bytes-then-is_virtual.ensures w.in_ok-add.ensures n d
          ∙ ap (λ b. or_else (found_under before n d) (cond b (Some m) None))
          (and-passes (bytes_eq m.name n && bytes_eq m.descriptor d) (is_virtual m) (sym c.is_virtual.ensures
          ∙ w.if-is_virtual.true))))
      | else-is_virtual w ↦
          subst (λ found. VirtualsAre (take (c.loop-method.method-index + 1) c.args.methods.now) found.members.entries)
          (sym w.found-is)
          (found-same fits before c.args.methods.now c.loop-method.method-index m c.loop-method.invariant
          c.method-item.is (omega arith)
          (λ n d. and-fails (bytes_eq m.name n && bytes_eq m.descriptor d) (is_virtual m) (sym c.is_virtual.ensures
          ∙ w.if-is_virtual.false)))
    ]

pub returns : goal.returns
returns c =
    found-all fits c.loop-method.found.members.entries c.args.methods.now c.loop-method.method-index
    c.loop-method.invariant (omega arith)
