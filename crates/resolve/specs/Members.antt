use Rattle.std.specs.Prelude.{◌≡◌, ◌&&◌, ◌||◌, cond, not, ℕ, List, Option, Some, None}
use Rattle.std.specs.Borrow.{Bor}
use Rattle.std.specs.List.{find}
use Rattle.std.specs.Map.{lookup}
use Rattle.std.specs.Option.{option_map}
use Rattle.std.specs.Str.{bytes_eq}
use Rattle.model.specs.declared.listings.Field.{Field}
use Rattle.model.specs.declared.listings.Method.{Method}
use Rattle.model.specs.ClassListings.{ClassListing}
use Rattle.model.specs.Classes.Flags.{is_private, is_static}
use Rattle.model.specs.Classes.Named.{or_else}
use Rattle.resolve.specs.declared.keys.NameKey.{NameKey}

-- members by their names and descriptors
abbrev pub Signed : Type 0 → Type 0
Signed M = List ((NameKey × NameKey) × Bor M)

-- the member that a map's entries have under a name and descriptor
abbrev pub found_under : {M : Type 0} → Signed M → List ℕ → List ℕ → Option M
found_under entries name descriptor = option_map (λ m. m.now)
    (lookup (λ k. bytes_eq name k.0.bytes.now && bytes_eq descriptor k.1.bytes.now) entries)

-- entries with a member more, where none of its name and descriptor was there
abbrev pub IsAdded : {M : Type 0} → Signed M → Signed M → List ℕ → List ℕ → M → Type 0
IsAdded before after name descriptor member =
    (n d : List ℕ)
    → found_under after n d
    ≡ or_else (found_under before n d) (cond (bytes_eq name n && bytes_eq descriptor d) (Some member) None)

-- the first of these fields of each name and descriptor
abbrev pub FieldsAre : List Field → Signed Field → Type 0
FieldsAre fields entries =
    (name descriptor : List ℕ)
    → found_under entries name descriptor
    ≡ find (λ (f : Field). bytes_eq f.name name && bytes_eq f.descriptor descriptor) fields

-- the first of these methods of each name and descriptor
abbrev pub MethodsAre : List Method → Signed Method → Type 0
MethodsAre methods entries =
    (name descriptor : List ℕ)
    → found_under entries name descriptor
    ≡ find (λ (m : Method). bytes_eq m.name name && bytes_eq m.descriptor descriptor) methods

-- the same of those that are neither static nor private
abbrev pub VirtualsAre : List Method → Signed Method → Type 0
VirtualsAre methods entries =
    (name descriptor : List ℕ)
    → found_under entries name descriptor
    ≡ find (λ (m : Method). bytes_eq m.name name && bytes_eq m.descriptor descriptor
    && not (is_static m || is_private m)) methods

-- the members of a class: its fields, its methods, and those methods that are neither static nor private
pub record AreMembers (c : ClassListing) (fields : Signed Field) (methods virtuals : Signed Method) : Type 0 where
  pub fields_are : FieldsAre c.fields fields
  pub methods_are : MethodsAre c.methods methods
  pub virtuals_are : VirtualsAre c.methods virtuals
