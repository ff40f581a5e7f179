use Rattle.std.proofs.Common.{rules, refl, sym, ◌&&◌, ℕ, ◌≡◌, true, List}
use Rattle.std.specs.Cmp.{first_so, second_so}
use Rattle.std.specs.Cmp.Lexicographic.{pointwise, same_text}
use Rattle.model.specs.declared.listings.Placed.{Placed}
use Rattle.std.specs.Prelude.{nat_eq}
use Rattle.std.specs.Option.{option_eq}
use Rattle.std.specs.Str.{bytes_eq}
use Rattle.model.specs.contracts.flags.MethodFlagsPartialEq.TheImpl as method_flags
use Rattle.std.proofs.lemmas.Bool.{eqb-true}
use Rattle.model.specs.contracts.flags.ClassFlagsPartialEq.TheImpl as flags
use Rattle.model.specs.declared.listings.ExceptionRow.{ExceptionRow}
use Rattle.model.specs.declared.listings.Field.{Field as FieldListed}
use Rattle.model.specs.declared.listings.Method.{Method}
use Rattle.model.specs.CodeListings.{CodeListing}
use Rattle.model.specs.ClassListings.{ClassListing}
use Rattle.model.specs.contracts.listings.ExceptionRowPartialEq.TheImpl as row
use Rattle.model.specs.contracts.listings.CodePartialEq.TheImpl as code
use Rattle.model.specs.contracts.listings.MethodPartialEq.TheImpl as method
use Rattle.model.specs.contracts.listings.FieldPartialEq.TheImpl as field
use Rattle.model.specs.contracts.listings.ListingPartialEq.TheImpl as listing
use Rattle.model.specs.contracts.listings.PlacedPartialEq.TheImpl as placed
use Rattle.model.proofs.EqualOperands.{same_exception_row, same_field, same_method_flags, same_class_flags}
use Rattle.std.specs.Cmp.Lexicographic.{lists_equiv}
use Rattle.model.specs.contracts.listings.ListingEq.TheImpl.Laws as laws
use Rattle.model.proofs.EqualInstructions.{is_same, same_instruction, same_list, same_option}

-- Listings that `==` calls equal are one.

same_pc : (a b : Placed) → (placed.ghosts).eq a b ≡ true → a.pc ≡ b.pc
same_pc a b h = search rules

same_next : (a b : Placed) → (placed.ghosts).eq a b ≡ true → a.next ≡ b.next
same_next a b h = search rules

same_what : (a b : Placed) → (placed.ghosts).eq a b ≡ true → is_same a.instruction b.instruction ≡ true
same_what a b h = second_so (nat_eq a.next b.next) (is_same a.instruction b.instruction)
    (second_so (nat_eq a.pc b.pc) (nat_eq a.next b.next && is_same a.instruction b.instruction) h)

same_placed : (a b : Placed) → (placed.ghosts).eq a b ≡ true → a ≡ b
same_placed a b h = rw (same_pc a b h, same_next a b h, same_instruction a.instruction b.instruction (same_what a b h))
    refl

same_rows : (a b : List ExceptionRow) → pointwise (row.ghosts).eq a b ≡ true → a ≡ b
same_rows = same_list (row.ghosts).eq same_exception_row

same_instructions : (a b : List Placed) → pointwise (placed.ghosts).eq a b ≡ true → a ≡ b
same_instructions = same_list (placed.ghosts).eq same_placed

same_code : (a b : CodeListing) → (code.ghosts).eq a b ≡ true → a ≡ b
same_code a b h =
    let limits = nat_eq a.max_stack b.max_stack && nat_eq a.max_locals b.max_locals in
    let lists = pointwise (row.ghosts).eq a.rows b.rows && pointwise (placed.ghosts).eq a.instructions b.instructions in
    let l : limits ≡ true = first_so limits lists h in
    let m : lists ≡ true = second_so limits lists h in
    rw (
      eqb-true a.max_stack b.max_stack (first_so (nat_eq a.max_stack b.max_stack) (nat_eq a.max_locals b.max_locals) l),
      eqb-true a.max_locals b.max_locals (second_so (nat_eq a.max_stack b.max_stack) (nat_eq a.max_locals b.max_locals)
          l),
      same_rows a.rows b.rows (first_so (pointwise (row.ghosts).eq a.rows b.rows)
          (pointwise (placed.ghosts).eq a.instructions b.instructions) m),
      same_instructions a.instructions b.instructions (second_so (pointwise (row.ghosts).eq a.rows b.rows)
          (pointwise (placed.ghosts).eq a.instructions b.instructions) m),
    ) refl

same_method : (a b : Method) → (method.ghosts).eq a b ≡ true → a ≡ b
same_method a b h =
    let flags : a.flags ≡ b.flags = search (rules, same_method_flags) in
    let name : a.name ≡ b.name = search (rules, same_text) in
    let descriptor : a.descriptor ≡ b.descriptor = search (rules, same_text) in
    let body = option_eq (code.ghosts).eq a.code b.code in
    let d = bytes_eq a.descriptor b.descriptor in
    let n = bytes_eq a.name b.name in
    let code : a.code ≡ b.code =
    same_option (code.ghosts).eq same_code a.code b.code
    (second_so d body (second_so n (d && body) (second_so ((method_flags.ghosts).eq a.flags b.flags)
    (n && (d && body)) h))) in
    rw (flags, name, descriptor, code) refl

same_names : (a b : List (List ℕ)) → pointwise bytes_eq a b ≡ true → a ≡ b
same_names = same_list bytes_eq (λ a b h. same_text a b (sym h))

same_fields : (a b : List FieldListed) → pointwise (field.ghosts).eq a b ≡ true → a ≡ b
same_fields = same_list (field.ghosts).eq same_field

same_methods : (a b : List Method) → pointwise (method.ghosts).eq a b ≡ true → a ≡ b
same_methods = same_list (method.ghosts).eq same_method

pub same_listing : (a b : ClassListing) → (listing.ghosts).eq a b ≡ true → a ≡ b
same_listing a b h =
    let names = bytes_eq a.name b.name && (flags.ghosts).eq a.flags b.flags in
    let parents = bytes_eq a.superclass b.superclass && pointwise bytes_eq a.interfaces b.interfaces in
    let members = pointwise (field.ghosts).eq a.fields b.fields && pointwise (method.ghosts).eq a.methods b.methods in
    let head : (names && parents) ≡ true = first_so (names && parents) members h in
    let n : names ≡ true = first_so names parents head in
    let p : parents ≡ true = second_so names parents head in
    let m : members ≡ true = second_so (names && parents) members h in
    rw (
      same_text a.name b.name (sym (first_so (bytes_eq a.name b.name) ((flags.ghosts).eq a.flags b.flags) n)),
      same_class_flags a.flags b.flags (second_so (bytes_eq a.name b.name) ((flags.ghosts).eq a.flags b.flags) n),
      same_text a.superclass b.superclass
          (sym (first_so (bytes_eq a.superclass b.superclass) (pointwise bytes_eq a.interfaces b.interfaces) p)),
      same_names a.interfaces b.interfaces (second_so (bytes_eq a.superclass b.superclass)
          (pointwise bytes_eq a.interfaces b.interfaces) p),
      same_fields a.fields b.fields (first_so (pointwise (field.ghosts).eq a.fields b.fields)
          (pointwise (method.ghosts).eq a.methods b.methods) m),
      same_methods a.methods b.methods (second_so (pointwise (field.ghosts).eq a.fields b.fields)
          (pointwise (method.ghosts).eq a.methods b.methods) m),
    ) refl

-- and lists of listings, both ways
pub same_listings : (a b : List ClassListing) → pointwise (listing.ghosts).eq a b ≡ true → a ≡ b
same_listings = same_list (listing.ghosts).eq same_listing

pub listings_same : (a : List ClassListing) → pointwise (listing.ghosts).eq a a ≡ true
listings_same = (lists_equiv laws.laws-law).refl
