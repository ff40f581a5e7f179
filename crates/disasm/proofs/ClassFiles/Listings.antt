-- A class file's listing is one that a text spells, but for what no text can say, and it assembles.
use Rattle.std.proofs.Common.{◌≡◌, ℕ, ◌<◌, ◌^◌, Bool, true, ◌&&◌, List, [], ◌∷◌, ◌++◌, map, flat_map, length, Option}
use Rattle.std.proofs.Common.{Some, None, refl, ap, ◌∙◌, arith}
use Rattle.std.specs.Prelude.{nat_le}
use Rattle.std.specs.List.{AllByRecursion, list_all}
use Rattle.std.specs.Option.{option_map}
use Rattle.std.proofs.lemmas.Bool.{and_parts, and_from, le-leb}
use Rattle.std.proofs.lemmas.List.{length-map}
use Rattle.model.specs.declared.class_files.Entry.{Entry}
use Rattle.model.specs.ClassFiles.Classes.{ClassPart}
use Rattle.model.specs.ClassFiles.Codes.{CodePart}
use Rattle.model.specs.ClassFiles.Entries.{EntryFits}
use Rattle.model.specs.ClassFiles.Items.{class_items, field_items, method_items, listing_items}
use Rattle.model.specs.ClassFiles.Listing.{class_at, listed_field, listed_code, listed_method, listing_in, listing_of}
use Rattle.model.specs.ClassFiles.Methods.{MethodPart, wants_code}
use Rattle.model.specs.ClassFiles.References.{AreSound}
use Rattle.model.specs.Texts.Assembling.{is_countable, body_assembles, method_assembles, pool_size, listing_assembles}
use Rattle.model.specs.Texts.Flags.{has}
use Rattle.model.specs.Texts.Names.{is_class_name}
use Rattle.model.specs.Texts.Spelled.{field_is_spelled, method_is_spelled, head_is_spelled, ldc_numbers, is_spelled}
use Rattle.model.specs.Texts.Widths.{different}
use Rattle.classfile.specs.Classes.{IsClass}
use Rattle.classfile.specs.Sound.{CodesStand, MethodStands, ClassStands}
use Rattle.classfile.proofs.SoundLaws.{standing_head, standing_methods, standing_code}
use Rattle.disasm.specs.Sayable.{body_is_sayable, method_is_sayable, superclass_is_sayable, is_sayable}
use Rattle.disasm.proofs.ClassFiles.Codes.{code_made}
use Rattle.disasm.proofs.ClassFiles.Items.{no_larger, AreSaid, both_said, plain_said, plains_said, fields_said}
use Rattle.disasm.proofs.ClassFiles.Items.{methods_said}
use Rattle.disasm.proofs.ClassFiles.Members.{interface_still, head_spelled, fields_spelled, method_spelled}
use Rattle.disasm.proofs.ClassFiles.Numbers.{few_numbers}
use Rattle.disasm.proofs.ClassFiles.Operands.{two_bytes}
use Rattle.disasm.proofs.ClassFiles.Pools.{plain_under}

module _ (pool : List Entry) where
  classes_spelled : (ns : List ℕ) → AreSound pool → AllByRecursion (ClassStands pool) ns
      → list_all is_class_name (map (class_at pool) ns) ≡ true
  classes_spelled [] sound all = refl
  classes_spelled (n ∷ ns) sound all =
      and_from (is_class_name (class_at pool n)) (list_all is_class_name (map (class_at pool) ns))
      (plain_under pool n sound all.0.1).0 (classes_spelled ns sound all.1)

  methods_spelled : (class plain : ℕ) (ms : List MethodPart) → has plain 0x0200 ≡ has class 0x0200
      → AllByRecursion EntryFits pool → AreSound pool → AllByRecursion (MethodStands pool class) ms
      → list_all method_is_sayable (map (listed_method pool) ms) ≡ true
      → list_all (method_is_spelled plain) (map (listed_method pool) ms) ≡ true
  methods_spelled class plain [] same entries sound all say = refl
  methods_spelled class plain (m ∷ ms) same entries sound all say =
      let says = and_parts (body_is_sayable (option_map (listed_code pool) m.code))
      (list_all method_is_sayable (map (listed_method pool) ms)) say in
      and_from (method_is_spelled plain (listed_method pool m))
      (list_all (method_is_spelled plain) (map (listed_method pool) ms))
      (method_spelled pool class plain m same entries sound all.0 says.0) (methods_spelled class plain ms same entries
      sound all.1 says.1)

  codes_stand : (class : ℕ) (ms : List MethodPart) → AllByRecursion (MethodStands pool class) ms
      → AllByRecursion (λ m. CodesStand pool (wants_code m.flags.0) m.code) ms
  codes_stand class [] all = tt
  codes_stand class (m ∷ ms) all = (standing_code pool class m all.0, codes_stand class ms all.1)

  body_made : (wanted : Bool) (o : Option CodePart) → CodesStand pool wanted o
      → body_assembles (option_map (listed_code pool) o) ≡ true
  body_made wanted None stand = refl
  body_made wanted (Some c) stand = code_made pool _ c stand.1.spells

  methods_made : (class : ℕ) (ms : List MethodPart) → AllByRecursion (MethodStands pool class) ms
      → list_all method_assembles (map (listed_method pool) ms) ≡ true
  methods_made class [] all = refl
  methods_made class (m ∷ ms) all =
      and_from (method_assembles (listed_method pool m)) (list_all method_assembles (map (listed_method pool) ms))
      (body_made (wants_code m.flags.0) m.code (standing_code pool class m all.0)) (methods_made class ms all.1)

-- a class file's listing is one that a text spells, but for what no text can say
pub file_is_spelled : (c : ClassPart) → IsClass c → is_sayable (listing_of c) ≡ true → is_spelled (listing_of c) ≡ true
unfolding is_sayable is_spelled listing_of
file_is_spelled c is say =
    let pool = c.head.pool in
    let l = listing_in pool c in
    let plain = l.flags.0 in
    let head = is.1.head_spells in
    let h = standing_head c.head (is.1.head_bytes, head) in
    let entries : AllByRecursion EntryFits pool = head.pool_fits.1 in
    let sound : AreSound pool = head.pool_is_sound in
    let methods = (standing_methods c is).1 in
    let same = interface_still c.head.flags.0 in
    let says = and_parts (superclass_is_sayable plain l.superclass) (list_all method_is_sayable l.methods) say in
    let one = head_is_spelled plain l.superclass in
    let two = one && is_class_name l.name in
    let three = two && is_class_name l.superclass in
    let four = three && list_all is_class_name l.interfaces in
    let five = four && list_all (field_is_spelled plain) l.fields in
    let six = five && list_all (method_is_spelled plain) l.methods in
    and_from six (nat_le (length (different (ldc_numbers l.methods))) 255)
    (and_from five (list_all (method_is_spelled plain) l.methods)
    (and_from four (list_all (field_is_spelled plain) l.fields)
    (and_from three (list_all is_class_name l.interfaces)
    (and_from two (is_class_name l.superclass)
    (and_from one (is_class_name l.name)
    (head_spelled c.head.flags.0 l.superclass head.following.flags_fit h.agree says.0)
    (plain_under pool c.head.class sound h.class.1).0)
    (plain_under pool c.head.superclass sound h.superclass.1).0)
    (classes_spelled pool c.head.interfaces sound h.interfaces))
    (fields_spelled pool c.head.flags.0 plain c.head.fields same entries h.fields))
    (methods_spelled pool c.head.flags.0 plain c.methods same entries sound methods says.1))
    (few_numbers pool c.methods (codes_stand pool c.head.flags.0 c.methods methods))

-- all that it names stands in the file's pool
file_said : (c : ClassPart) → IsClass c → AreSaid c.head.pool (listing_items (listing_of c))
unfolding listing_items listing_of
file_said c is =
    let pool = c.head.pool in
    let l = listing_in pool c in
    let head = is.1.head_spells in
    let h = standing_head c.head (is.1.head_bytes, head) in
    let entries : AllByRecursion EntryFits pool = head.pool_fits.1 in
    let sound : AreSound pool = head.pool_is_sound in
    let fields = flat_map field_items l.fields in
    let methods = flat_map method_items l.methods in
    let interfaces = flat_map class_items l.interfaces in
    both_said pool (class_items l.name) (class_items l.superclass ++ (interfaces ++ (fields ++ methods)))
    (plain_said pool c.head.class sound h.class)
    (both_said pool (class_items l.superclass) (interfaces ++ (fields ++ methods))
    (plain_said pool c.head.superclass sound h.superclass)
    (both_said pool interfaces (fields ++ methods) (plains_said pool c.head.interfaces sound h.interfaces)
    (both_said pool fields methods (fields_said pool c.head.flags.0 c.head.fields h.fields)
    (methods_said pool c.head.flags.0 c.methods entries sound (standing_methods c is).1))))

small_pool : (c : ClassPart) → IsClass c → is_countable (pool_size (listing_of c)) ≡ true
unfolding pool_size
small_pool c is =
    le-leb (pool_size (listing_of c)) 65535
    (omega (
      arith,
      no_larger c.head.pool (listing_items (listing_of c)) (file_said c is),
      is.1.head_spells.pool_fits.0,
    ))

mapped : {A B : Type 0} (f : A → B) (xs : List A) → length xs < 2 ^ 16 → is_countable (length (map f xs)) ≡ true
mapped f xs few = ap is_countable (length-map xs f) ∙ two_bytes (length xs) few

-- and assembles
pub file_assembles : (c : ClassPart) → IsClass c → listing_assembles (listing_of c) ≡ true
unfolding listing_assembles listing_of
file_assembles c is =
    let pool = c.head.pool in
    let l = listing_in pool c in
    let h = standing_head c.head (is.1.head_bytes, is.1.head_spells) in
    let methods = standing_methods c is in
    let one = list_all method_assembles l.methods in
    let two = one && is_countable (length l.interfaces) in
    let three = two && is_countable (length l.fields) in
    let four = three && is_countable (length l.methods) in
    and_from four (is_countable (pool_size l))
    (and_from three (is_countable (length l.methods))
    (and_from two (is_countable (length l.fields))
    (and_from one (is_countable (length l.interfaces)) (methods_made pool c.head.flags.0 c.methods methods.1)
    (mapped (class_at pool) c.head.interfaces h.few))
    (mapped (listed_field pool) c.head.fields h.count))
    (mapped (listed_method pool) c.methods methods.0))
    (small_pool c is)
