use Rattle.std.proofs.Common.{[], arith, get_or}
use Rattle.std.proofs.lemmas.List.{get_or_default}
use Rattle.linking.specs.Selections.{gathered}
use Rattle.linking.proofs.SelectionTableLemmas.{rows-next}
use Rattle.linking.proofs.SelectorLemmas.{Key}
use Rattle.linking.proofs.selection.rows_of.Goals as goal

abbrev none : Key
none = (
  record { bytes = record { ref_ptr = (0, 0); now = [] } },
  record { bytes = record { ref_ptr = (0, 0); now = [] } },
)

pub loop-signature-preserved : goal.loop-signature-preserved
loop-signature-preserved c =
    let signatures = c.args.signatures.now in
    let i = c.loop-signature.signature-index in
    let signature : Key = get_or signatures i none in
    rows-next (λ (s : Key). gathered c.args.rows.now s.0.bytes.now s.1.bytes.now) signatures i
    signature c.row.result c.loop-signature.found.items c.push.new.self.items _
    (get_or_default signatures i none signature (omega arith)) (omega arith) c.loop-signature.invariant c.row.ensures
    c.in_ok-push.ensures.items
