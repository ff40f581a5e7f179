use Rattle.std.specs.Prelude.{List, Bool, ◌&&◌, ◌||◌, nat_lt, count_by}
use Rattle.std.specs.List.{list_any}
use Rattle.std.specs.Str.{bytes_eq}
use Rattle.model.specs.declared.listings.Field.{Field}
use Rattle.model.specs.declared.listings.Method.{Method}
use Rattle.model.specs.ClassListings.{ClassListing}

abbrev pub is_same_field : Field → Field → Bool
is_same_field f g = bytes_eq g.name f.name && bytes_eq g.descriptor f.descriptor

abbrev pub is_same_method : Method → Method → Bool
is_same_method m n = bytes_eq n.name m.name && bytes_eq n.descriptor m.descriptor

abbrev pub has_field_twice : List Field → Bool
has_field_twice fields = list_any (λ f. nat_lt 1 (count_by (is_same_field f) fields)) fields

abbrev pub has_method_twice : List Method → Bool
has_method_twice methods = list_any (λ m. nat_lt 1 (count_by (is_same_method m) methods)) methods

-- L5: two fields of the class have one name and descriptor, or two methods
unfoldable pub has_member_twice : ClassListing → Bool
has_member_twice c = has_field_twice c.fields || has_method_twice c.methods
