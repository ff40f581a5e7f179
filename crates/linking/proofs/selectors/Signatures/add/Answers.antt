use Rattle.std.proofs.Common.{◌∙◌, ap, map, List, ℕ}
use Rattle.linking.specs.Selectors.{Signature, with_signature}
use Rattle.linking.proofs.SelectorLemmas.{signature, with_signature-map}
use Rattle.linking.proofs.selectors.Signatures.add.Goals as goal

pub returns : goal.returns
returns c =
    let before = c.args.self.now in
    ap (map signature) c.in_ok-insert.ensures.keys
    ∙ with_signature-map c.self.inside.pairs.keys (
      record { bytes = c.as_bytes.result },
      record { bytes = c.as_bytes-2.result },
    )
    ∙ ap (λ (ss : List Signature). with_signature ss (c.as_bytes.result.now, c.as_bytes-2.result.now)) c.self.view_is
    ∙ ap (λ (n : List ℕ). with_signature before (n, c.as_bytes-2.result.now)) c.as_bytes.ensures
    ∙ ap (λ (n : List ℕ). with_signature before (c.args.member.now.name, n)) c.as_bytes-2.ensures
