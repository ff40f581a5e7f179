-- Plain words can be written: they are of the ASCII characters but NUL, and have 65,535 bytes at most.
use Rattle.std.proofs.Common.{◌≡◌, ℕ, true, List, length, arith}
use Rattle.std.specs.Prelude.{nat_le}
use Rattle.std.specs.List.{list_all}
use Rattle.std.proofs.lemmas.Bool.{and_parts, and_from, leb-true, le-leb}
use Rattle.model.specs.ClassFiles.Entries.{is_text_byte}
use Rattle.model.specs.ClassFiles.Items.Item.{text_item}
use Rattle.model.proofs.PlainNames.{is_ink, IsPlainName, inks_of, weaker}
use Rattle.assembler.specs.Numbering.{is_well_formed}

ink_in_text : (b : ℕ) → is_ink b ≡ true → is_text_byte b ≡ true
ink_in_text b ink =
    let p = and_parts (nat_le 33 b) (nat_le b 126) ink in
    let low = leb-true 33 b p.0 in
    let high = leb-true b 126 p.1 in
    and_from (nat_le 1 b) (nat_le b 127) (le-leb 1 b (omega (arith, low))) (le-leb b 127 (omega (arith, high)))

pub written : (w : List ℕ) → IsPlainName w → is_well_formed (text_item w) ≡ true
written w name = and_from (nat_le (length w) 65535) (list_all is_text_byte w) name.short (weaker is_ink is_text_byte
    ink_in_text w (inks_of w name.plain))
