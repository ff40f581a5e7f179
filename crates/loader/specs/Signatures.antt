use Rattle.std.specs.Prelude.{List, Option}
use Rattle.std.specs.Option.{option_map}
use Rattle.model.specs.declared.listings.Method.{Method}
use Rattle.model.specs.ClassListings.{ClassListing}
use Rattle.model.specs.Classes.Search.{Declared}
use Rattle.linking.specs.declared.selection_rows.SelectionRow.{SelectionRow}
use Rattle.linking.specs.Selections.{declared_at}
use Rattle.linking.specs.Selectors.{Signature}
use Rattle.loader.specs.declared.signatures.Signature.{Signature as Lent}

-- What a row of a selection table is found by.

abbrev pub signature_of : Method → Signature
signature_of m = (m.name, m.descriptor)

-- a name and a descriptor that are lent
abbrev pub lent : Lent → Signature
lent s = (s.name.now, s.descriptor.now)

-- those of the method that a row tells
abbrev pub signature_at : List ClassListing → SelectionRow → Option Signature
signature_at program row = option_map (λ (d : Declared Method). signature_of d.member) (declared_at program row)
