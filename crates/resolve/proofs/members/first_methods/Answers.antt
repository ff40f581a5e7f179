use Rattle.std.proofs.Common.{◌&&◌, arith}
use Rattle.std.specs.Str.{bytes_eq}
use Rattle.model.specs.declared.listings.Method.{Method}
use Rattle.resolve.proofs.MemberLemmas.{added-named, found-all, found-more}
use Rattle.resolve.proofs.members.first_methods.Goals as goal

pub loop-method-preserved : goal.loop-method-preserved
loop-method-preserved c =
    found-more (λ n d (m : Method). bytes_eq m.name n && bytes_eq m.descriptor d) c.loop-method.found.members.entries
    c.add.new.self.members.entries
    c.args.methods.now c.loop-method.method-index c.method-item.result c.loop-method.invariant c.method-item.is
    (omega arith)
    (added-named c.loop-method.found.members.entries c.add.new.self.members.entries c.as_bytes.result.now
    c.as_bytes-in-loop-method.result.now
    c.method-item.result.name c.method-item.result.descriptor c.method-item.result c.as_bytes.ensures
    c.as_bytes-in-loop-method.ensures c.in_ok-add.ensures)

pub returns : goal.returns
returns c =
    found-all (λ n d (m : Method). bytes_eq m.name n && bytes_eq m.descriptor d) c.loop-method.found.members.entries
    c.args.methods.now
    c.loop-method.method-index c.loop-method.invariant (omega arith)
