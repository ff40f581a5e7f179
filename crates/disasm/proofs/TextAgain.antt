-- Where a listing is spelled and assembles, its own text has a tree with it, which assembles too.
use Rattle.std.proofs.Common.{◌≡◌, ℕ, true, List, Some, None, refl, sym, ap, ◌∙◌, ◌≢◌}
use Rattle.jasmin.specs.declared.errors.Fault.{Fault}
use Rattle.jasmin.specs.declared.errors.Fault.TheVariants as fault
use Rattle.model.specs.ClassListings.{ClassListing}
use Rattle.model.specs.Texts.{tree_of}
use Rattle.model.specs.Texts.Assembling.{listing_assembles, assembles}
use Rattle.model.specs.Texts.Disassembling.{text_of}
use Rattle.model.specs.Texts.ListingOfTree.{listing_of}
use Rattle.model.specs.Texts.Spelled.{is_spelled}
use Rattle.model.specs.Texts.Trees.{Tree}
use Rattle.disasm.specs.Back.{tree_back}
use Rattle.disasm.proofs.RoundTrip.{text_read, assembled_fits}
use Rattle.disasm.proofs.Back.Listings.{listing_back}

some_is : {A : Type 0} (a b : A) → Some a ≡ Some b → a ≡ b
some_is a b e = cc

none_is_some : {A : Type 0} (a : A) → None ≡ Some a → ⊥
none_is_some a e = cc

pub tree_found : (l : ClassListing) → is_spelled l ≡ true → listing_assembles l ≡ true → (written : List ℕ)
    → written ≡ text_of l → (found : Tree) → tree_of written ≡ Some found
    → (listing_of found ≡ l) × (assembles found ≡ true)
unfolding assembles
tree_found l good right written w found f =
    let fit = assembled_fits l right in
    let is : tree_back l ≡ found = some_is (tree_back l) found (sym (text_read l good fit) ∙ ap tree_of (sym w) ∙ f) in
    let listed : listing_of found ≡ l = ap listing_of (sym is) ∙ listing_back l good fit in
    (listed, ap listing_assembles listed ∙ right)

is_memory : (f : Fault) → (f ≢ fault.Memory → ⊥) → f ≡ fault.Memory
is_memory fault.Statement h = absurd (h (λ e. cc))
is_memory fault.Mnemonic h = absurd (h (λ e. cc))
is_memory fault.Operand h = absurd (h (λ e. cc))
is_memory fault.Range h = absurd (h (λ e. cc))
is_memory fault.Label h = absurd (h (λ e. cc))
is_memory fault.End h = absurd (h (λ e. cc))
is_memory fault.Limit h = absurd (h (λ e. cc))
is_memory fault.Byte h = absurd (h (λ e. cc))
is_memory fault.Memory h = refl

pub tree_refused : (l : ClassListing) → is_spelled l ≡ true → listing_assembles l ≡ true → (written : List ℕ)
    → written ≡ text_of l → (f : Fault) → (f ≢ fault.Memory → tree_of written ≡ None)
    → f ≡ fault.Memory
tree_refused l good right written w f h =
    is_memory f (λ other. none_is_some (tree_back l) (sym (h other) ∙ ap tree_of w
    ∙ text_read l good (assembled_fits l right)))
