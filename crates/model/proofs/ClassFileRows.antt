-- Worked rows of class files, which compute.
use Rattle.std.proofs.Common.{◌≡◌, List, [], ◌∷◌, true, false, Some, None, refl}
use Rattle.std.specs.Prelude.{codes, pos}
use Rattle.model.specs.declared.class_files.Entry.{Entry}
use Rattle.model.specs.declared.class_files.Entry.TheVariants.{Utf8, Integer, Long, Class}
use Rattle.model.specs.ClassFiles.Pools.{pool_count, entry_at}
use Rattle.model.specs.ClassFiles.References.{names_class, is_method, is_field}
use Rattle.model.specs.ClassFiles.Fields.{are_field_flags}
use Rattle.model.specs.ClassFiles.Heads.{are_class_flags}
use Rattle.model.specs.ClassFiles.Codes.{has_tag}
use Rattle.model.specs.ClassFiles.Methods.{are_method_flags, wants_code}

-- a class, a long and an int: the long takes two numbers
abbrev pool : List Entry
pool = Utf8 (codes "E") ∷ Class 1 ∷ Long (pos 7) ∷ Integer (pos 8) ∷ []

count_is_6 : pool_count pool ≡ 6
count_is_6 = refl

int_is_5 : entry_at pool 5 ≡ Some (Integer (pos 8))
int_is_5 = refl

nothing_is_4 : entry_at pool 4 ≡ None
nothing_is_4 = refl

long_is_3 : has_tag pool 5 3 ≡ true
long_is_3 = refl

public_class : are_class_flags 0x0021 ≡ true
public_class = refl

final_abstract_class : are_class_flags 0x0410 ≡ false
final_abstract_class = refl

interface_not_abstract : are_class_flags 0x0200 ≡ false
interface_not_abstract = refl

static_main : are_method_flags 0x0021 0x0009 ≡ true
static_main = refl

interface_method : are_method_flags 0x0600 0x0001 ≡ false
interface_method = refl

native_has_no_code : wants_code 0x0101 ≡ false
native_has_no_code = refl

interface_field : are_field_flags 0x0600 0x0019 ≡ true
interface_field = refl

array_of_arrays : names_class (codes "[[I") ≡ true
array_of_arrays = refl

main_is_method : is_method (codes "main") (codes "()V") ≡ true
main_is_method = refl

init_is_no_field : is_field (codes "<init>") (codes "I") ≡ false
init_is_no_field = refl
