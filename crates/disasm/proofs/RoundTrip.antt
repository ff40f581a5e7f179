-- The text of a listing is read back as a tree with the same listing.
use Rattle.std.proofs.Common.{◌≡◌, true, ◌&&◌, ◌∙◌, nat_le, length, Option, Some, None, refl, ap}
use Rattle.std.specs.List.{list_all}
use Rattle.std.proofs.lemmas.Bool.{and_parts}
use Rattle.model.specs.declared.listings.Method.{Method}
use Rattle.model.specs.CodeListings.{CodeListing}
use Rattle.model.specs.ClassListings.{ClassListing}
use Rattle.model.specs.Texts.{tree_of}
use Rattle.model.specs.Texts.Assembling.{end_from, switch_agrees, size_is_right, reaches, is_countable, body_assembles}
use Rattle.model.specs.Texts.Assembling.{method_assembles, pool_size, listing_assembles}
use Rattle.model.specs.Texts.Classes.{class_tree}
use Rattle.model.specs.Texts.Disassembling.{text_of}
use Rattle.model.specs.Texts.ListingOfTree.{listing_of}
use Rattle.model.specs.Texts.Spelled.{is_spelled}
use Rattle.disasm.specs.Back.{tree_back, code_fits, pcs_fit}
use Rattle.disasm.proofs.Back.Classes.{class_back}
use Rattle.disasm.proofs.Back.Listings.{listing_back}
use Rattle.disasm.proofs.Back.Lists.{all_from}
use Rattle.disasm.proofs.StatementsBack.{text_statements}

pub text_read : (l : ClassListing) → is_spelled l ≡ true → pcs_fit l ≡ true → tree_of (text_of l) ≡ Some (tree_back l)
unfolding tree_of
text_read l e small = ap class_tree (text_statements l e) ∙ class_back l e small

pub round_trip : (l : ClassListing) → is_spelled l ≡ true → pcs_fit l ≡ true
    → (tree_of (text_of l) ≡ Some (tree_back l)) × (listing_of (tree_back l) ≡ l)
round_trip l e small = (text_read l e small, listing_back l e small)

-- ---- what assembles fits

body_fits : (o : Option CodeListing) → body_assembles o ≡ true → code_fits o ≡ true
body_fits None e = refl
body_fits (Some c) e =
    let switches = list_all (λ p. switch_agrees p.instruction) c.instructions in
    let right = size_is_right (end_from 0 c.instructions) in
    let near = list_all (λ p. reaches p.pc p.instruction) c.instructions in
    let one = and_parts (switches && right && near) (is_countable (length c.rows)) e in
    let two = and_parts (switches && right) near one.0 in
    let three = and_parts switches right two.0 in
    (and_parts (nat_le 1 (end_from 0 c.instructions)) (nat_le (end_from 0 c.instructions) 65535) three.1).1

pub assembled_fits : (l : ClassListing) → listing_assembles l ≡ true → pcs_fit l ≡ true
unfolding listing_assembles pcs_fit
assembled_fits l e =
    let methods = list_all method_assembles l.methods in
    let one = and_parts (methods && is_countable (length l.interfaces) && is_countable (length l.fields)
    && is_countable (length l.methods)) (is_countable (pool_size l)) e in
    let two = and_parts (methods && is_countable (length l.interfaces) && is_countable (length l.fields))
    (is_countable (length l.methods)) one.0 in
    let three = and_parts (methods && is_countable (length l.interfaces)) (is_countable (length l.fields)) two.0 in
    let four = and_parts methods (is_countable (length l.interfaces)) three.0 in
    all_from method_assembles (λ (m : Method). code_fits m.code) (λ m fits. body_fits m.code fits) l.methods four.0
