-- The listing of each text and of each class file names classes and types by names (JVMS 4.2.1, 4.4.1).
use Rattle.std.proofs.Common.{◌≡◌, ℕ, zero, suc, Bool, true, false, List, [], ◌∷◌, Option, Some, None, map, refl, sym}
use Rattle.std.proofs.Common.{ap, subst}
use Rattle.std.specs.Prelude.{◌&&◌, ◌==◌, nat_le, length, slice_get, if◌then◌else◌}
use Rattle.std.specs.List.{list_all, AllByRecursion}
use Rattle.std.specs.Option.{option_map, option_and_then, unwrap_or}
use Rattle.model.specs.declared.bytecode.Located.{Located}
use Rattle.model.specs.declared.class_files.Entry.{Entry}
use Rattle.model.specs.declared.class_files.Entry.TheVariants.{Utf8, Integer, Long, Class as ClassEntry, Fieldref}
use Rattle.model.specs.declared.class_files.Entry.TheVariants.{Methodref, InterfaceMethodref, NameAndType}
use Rattle.model.specs.declared.class_files.FormatFault.TheVariants.{Name}
use Rattle.model.specs.declared.instructions.ArrayOperation.{ArrayOperation}
use Rattle.model.specs.declared.instructions.ArrayOperation.TheVariants as array
use Rattle.model.specs.declared.instructions.ClassOperation.{ClassOperation}
use Rattle.model.specs.declared.instructions.ClassOperation.TheVariants as class
use Rattle.model.specs.declared.instructions.Instruction.TheVariants as instruction
use Rattle.model.specs.declared.listings.Method.{Method}
use Rattle.model.specs.declared.listings.Placed.{Placed}
use Rattle.model.specs.Bytecode.Opcodes.{Instr}
use Rattle.model.specs.ClassFiles.Attributes.{Attribute, passes}
use Rattle.model.specs.ClassFiles.Classes.{ClassPart, IsClassFile}
use Rattle.model.specs.ClassFiles.Codes.{CodePart, has_tag, tag_of, is_sound, is_sound_array}
use Rattle.model.specs.ClassFiles.Codes.{is_sound_class}
use Rattle.model.specs.ClassFiles.Listing.{class_at, listed, listed_array, listed_code, listed_method}
use Rattle.model.specs.ClassFiles.Listing.{listing_of, name_at, placed}
use Rattle.model.specs.ClassFiles.Lists.{SpellsAll}
use Rattle.model.specs.ClassFiles.Methods.{MethodPart, SpellCode, SpellsMethod, are_method_flags, units_fit, wants_code}
use Rattle.model.specs.ClassFiles.Pools.{entry_at, held, slots_of}
use Rattle.model.specs.ClassFiles.References.{AreSound, class_fault, class_of, entry_fault, names_class, text_at}
use Rattle.model.specs.ClassListings.{ClassListing}
use Rattle.model.specs.CodeListings.{CodeListing}
use Rattle.model.specs.Table.Next.{Listed}
use Rattle.model.specs.Texts.{tree_of}
use Rattle.model.specs.Texts.Descriptors.{arguments_of}
use Rattle.model.specs.Texts.Disassembling.{targets}
use Rattle.model.specs.Texts.Flags.{has}
use Rattle.model.specs.Texts.Names.{is_class_name, is_method_name}
use Rattle.model.specs.Texts.Spelled.{array_is_spelled, body_is_spelled, field_is_spelled, head_is_spelled, is_pc}
use Rattle.model.specs.Texts.Spelled.{is_u2, ldc_numbers, row_is_spelled, stand_from, class_is_spelled, code_is_spelled}
use Rattle.model.specs.Texts.Spelled.{instruction_is_spelled, is_spelled, method_is_spelled, operands_are_spelled}
use Rattle.model.specs.Texts.ListingOfTree as texts
use Rattle.model.specs.Texts.Trees.{Tree}
use Rattle.model.specs.Texts.Widths.{different}
use Rattle.model.specs.WellNamed.{array_is_named, class_is_named, is_well_named, type_is_named, types_are_named}
use Rattle.model.specs.WellNamed.{types_are_named_in}
use Rattle.launcher.specs.Launching.{AreListings, IsListingBy, begins_as_class}

left : (a b : Bool) → (a && b) ≡ true → a ≡ true
left true b e = refl
left false b e = absurd cc

right : (a b : Bool) → (a && b) ≡ true → b ≡ true
right true b e = e
right false b e = absurd cc

join : (a b : Bool) → a ≡ true → b ≡ true → (a && b) ≡ true
join true b p q = q
join false b p q = absurd cc

-- what holds of each where another thing does
each : {A : Type 0} (P Q : A → Bool) → ((x : A) → P x ≡ true → Q x ≡ true) → (xs : List A) → list_all P xs ≡ true
    → list_all Q xs ≡ true
each P Q f [] all = refl
each P Q f (x ∷ xs) all = join (Q x) (list_all Q xs) (f x (left (P x) (list_all P xs) all))
    (each P Q f xs (right (P x) (list_all P xs) all))

-- ---- texts

spelled_array : (op : ArrayOperation (List ℕ)) → array_is_spelled op ≡ true → array_is_named op ≡ true
spelled_array (array.New p) h = refl
spelled_array (array.NewOf c) h = h
spelled_array array.Length h = refl
spelled_array (array.Load k) h = refl
spelled_array (array.Store k) h = refl

spelled_class : (op : ClassOperation) (c : List ℕ) → class_is_spelled op c ≡ true → class_is_named op c ≡ true
spelled_class class.New c h = refl
spelled_class class.CheckCast c h = h
spelled_class class.InstanceOf c h = h

spelled_type : (i : Listed) → operands_are_spelled i ≡ true → type_is_named i ≡ true
spelled_type instruction.Nop h = refl
spelled_type (instruction.Constant c) h = refl
spelled_type (instruction.Local a) h = refl
spelled_type (instruction.Stack op) h = refl
spelled_type (instruction.Number op) h = refl
spelled_type (instruction.Branch t target) h = refl
spelled_type (instruction.TableSwitch t) h = refl
spelled_type (instruction.LookupSwitch l) h = refl
spelled_type (instruction.Return kind) h = refl
spelled_type (instruction.Static a m) h = refl
spelled_type (instruction.Field a m) h = refl
spelled_type (instruction.Array op) h = spelled_array op h
spelled_type (instruction.Class op c) h = spelled_class op c h
spelled_type (instruction.Invoke how m) h = refl
spelled_type instruction.Throw h = refl
spelled_type (instruction.Monitor op) h = refl

spelled_code : (c : CodeListing) → code_is_spelled c ≡ true → types_are_named_in (Some c) ≡ true
spelled_code c h =
    let own = list_all (instruction_is_spelled c.instructions) c.instructions in
    let rows = list_all (row_is_spelled c.instructions) c.rows in
    let stands = stand_from 0 c.instructions in
    let front = is_u2 c.max_stack && is_u2 c.max_locals && stands in
    each (instruction_is_spelled c.instructions) (λ (i : Placed). type_is_named i.instruction)
    (λ (p : Placed) q. spelled_type p.instruction (left (operands_are_spelled p.instruction)
    (list_all (is_pc c.instructions) (targets p.instruction)) q)) c.instructions
    (right front own (left (front && own) rows h))

spelled_body : (wanted : Bool) (code : Option CodeListing) → body_is_spelled wanted code ≡ true
    → types_are_named_in code ≡ true
spelled_body wanted None h = refl
spelled_body wanted (Some c) h = spelled_code c (right wanted (code_is_spelled c) h)

spelled_method : (class : ℕ) (m : Method) → method_is_spelled class m ≡ true → types_are_named_in m.code ≡ true
spelled_method class m h =
    let body = body_is_spelled (wants_code m.flags.0) m.code in
    let front = is_u2 m.flags.0 && are_method_flags class m.flags.0 && is_method_name m.name
    && units_fit (has m.flags.0 0x0008) (arguments_of m.descriptor) in
    spelled_body (wants_code m.flags.0) m.code (right front body h)

pub spelled_is_well_named : (l : ClassListing) → is_spelled l ≡ true → is_well_named l ≡ true
unfolding is_spelled is_well_named
spelled_is_well_named l h =
    let few = nat_le (length (different (ldc_numbers l.methods))) 255 in
    let methods = list_all (method_is_spelled l.flags.0) l.methods in
    let head = head_is_spelled l.flags.0 l.superclass && is_class_name l.name in
    let front = head && is_class_name l.superclass && list_all is_class_name l.interfaces
    && list_all (field_is_spelled l.flags.0) l.fields in
    let parts = left (front && methods) few h in
    let above = left head (is_class_name l.superclass) (left (head && is_class_name l.superclass)
    (list_all is_class_name l.interfaces)
    (left (head && is_class_name l.superclass && list_all is_class_name l.interfaces)
    (list_all (field_is_spelled l.flags.0) l.fields) (left front methods parts))) in
    join (is_class_name l.name) (types_are_named l.methods) (right (head_is_spelled l.flags.0 l.superclass)
    (is_class_name l.name) above)
    (each (method_is_spelled l.flags.0) (λ (m : Method). types_are_named_in m.code) (spelled_method l.flags.0) l.methods
    (right front methods parts))

-- ---- class files

-- an entry under a number is sound where the first one is, and the others are
module _ (pool : List Entry) (others : List (Option Entry)) (rest : (n : ℕ) (e : Entry) → held (slice_get others n)
    ≡ Some e → entry_fault pool e ≡ None) (x : Entry) (sound : entry_fault pool x ≡ None) where
  sound_one : (n : ℕ) (e : Entry) → held (slice_get (Some x ∷ others) n) ≡ Some e → entry_fault pool e ≡ None
  sound_one zero e is = subst (λ (y : Entry). entry_fault pool y ≡ None) (ap (λ (o : Option Entry). unwrap_or o x) is)
      sound
  sound_one (suc n) e is = rest n e is

  sound_two : (n : ℕ) (e : Entry) → held (slice_get (Some x ∷ None ∷ others) n) ≡ Some e → entry_fault pool e ≡ None
  sound_two zero e is = subst (λ (y : Entry). entry_fault pool y ≡ None) (ap (λ (o : Option Entry). unwrap_or o x) is)
      sound
  sound_two (suc zero) e is = absurd cc
  sound_two (suc (suc n)) e is = rest n e is

sound_under : (pool es : List Entry) → AllByRecursion (λ e. entry_fault pool e ≡ None) es → (n : ℕ) (e : Entry)
    → held (slice_get (slots_of es) n) ≡ Some e → entry_fault pool e ≡ None
sound_under pool [] all = λ n e is. absurd cc
sound_under pool (Utf8 text ∷ es) all = sound_one pool (slots_of es) (sound_under pool es all.1) (Utf8 text) all.0
sound_under pool (Integer z ∷ es) all = sound_one pool (slots_of es) (sound_under pool es all.1) (Integer z) all.0
sound_under pool (Long z ∷ es) all = sound_two pool (slots_of es) (sound_under pool es all.1) (Long z) all.0
sound_under pool (ClassEntry name ∷ es) all = sound_one pool (slots_of es) (sound_under pool es all.1) (ClassEntry name)
    all.0
sound_under pool (Fieldref c m ∷ es) all = sound_one pool (slots_of es) (sound_under pool es all.1) (Fieldref c m) all.0
sound_under pool (Methodref c m ∷ es) all = sound_one pool (slots_of es) (sound_under pool es all.1) (Methodref c m)
    all.0
sound_under pool (InterfaceMethodref c m ∷ es) all = sound_one pool (slots_of es) (sound_under pool es all.1)
    (InterfaceMethodref c m) all.0
sound_under pool (NameAndType a b ∷ es) all = sound_one pool (slots_of es) (sound_under pool es all.1) (NameAndType a b)
    all.0

sound_at : (pool : List Entry) (n : ℕ) (e : Entry) → AreSound pool → entry_at pool n ≡ Some e → entry_fault pool e
    ≡ None
sound_at pool zero e sound is = absurd cc
sound_at pool (suc n) e sound is = sound_under pool pool sound n e is

no_fault : (text : Option (List ℕ)) → class_fault text ≡ None → names_class (unwrap_or text []) ≡ true
no_fault None h = absurd cc
no_fault (Some name) h = named_if (names_class name) h where
  named_if : (b : Bool) → (if b then None else Some Name) ≡ None → b ≡ true
  named_if true h = refl
  named_if false h = absurd cc

-- a class entry's name is a class's or an array's
names_entry : (pool : List Entry) (o : Option Entry) → ((e : Entry) → o ≡ Some e → entry_fault pool e ≡ None)
    → (tag_of o == 7) ≡ true → names_class (name_at pool (unwrap_or (class_of o) 0)) ≡ true
names_entry pool None f h = absurd cc
names_entry pool (Some (Utf8 text)) f h = absurd cc
names_entry pool (Some (Integer z)) f h = absurd cc
names_entry pool (Some (Long z)) f h = absurd cc
names_entry pool (Some (ClassEntry name)) f h = no_fault (text_at pool name) (f (ClassEntry name) refl)
names_entry pool (Some (Fieldref c m)) f h = absurd cc
names_entry pool (Some (Methodref c m)) f h = absurd cc
names_entry pool (Some (InterfaceMethodref c m)) f h = absurd cc
names_entry pool (Some (NameAndType a b)) f h = absurd cc

names_at : (pool : List Entry) (n : ℕ) → AreSound pool → has_tag pool 7 n ≡ true → names_class (class_at pool n) ≡ true
names_at pool n sound h = names_entry pool (entry_at pool n) (λ e is. sound_at pool n e sound is) h

sound_array : (pool : List Entry) (op : ArrayOperation ℕ) → AreSound pool → is_sound_array pool op ≡ true
    → array_is_named (listed_array pool op) ≡ true
sound_array pool (array.New type) sound h = refl
sound_array pool (array.NewOf n) sound h = names_at pool n sound h
sound_array pool array.Length sound h = refl
sound_array pool (array.Load kind) sound h = refl
sound_array pool (array.Store kind) sound h = refl

sound_class : (pool : List Entry) (op : ClassOperation) (n : ℕ) → AreSound pool → is_sound_class pool op n ≡ true
    → class_is_named op (class_at pool n) ≡ true
sound_class pool class.New n sound h = refl
sound_class pool class.CheckCast n sound h = names_at pool n sound h
sound_class pool class.InstanceOf n sound h = names_at pool n sound h

sound_type : (pool : List Entry) (i : Instr) → AreSound pool → is_sound pool i ≡ true → type_is_named (listed pool i)
    ≡ true
sound_type pool instruction.Nop sound h = refl
sound_type pool (instruction.Constant c) sound h = refl
sound_type pool (instruction.Local a) sound h = refl
sound_type pool (instruction.Stack op) sound h = refl
sound_type pool (instruction.Number op) sound h = refl
sound_type pool (instruction.Branch t target) sound h = refl
sound_type pool (instruction.TableSwitch t) sound h = refl
sound_type pool (instruction.LookupSwitch l) sound h = refl
sound_type pool (instruction.Return kind) sound h = refl
sound_type pool (instruction.Static a m) sound h = refl
sound_type pool (instruction.Field a m) sound h = refl
sound_type pool (instruction.Array op) sound h = sound_array pool op sound h
sound_type pool (instruction.Class op n) sound h = sound_class pool op n sound h
sound_type pool (instruction.Invoke how m) sound h = refl
sound_type pool instruction.Throw sound h = refl
sound_type pool (instruction.Monitor op) sound h = refl

sound_types : (pool : List Entry) (xs : List Located) → AreSound pool
    → AllByRecursion (λ x. is_sound pool x.instruction ≡ true) xs
    → list_all (λ (i : Placed). type_is_named i.instruction) (map (placed pool) xs) ≡ true
sound_types pool [] sound all = refl
sound_types pool (x ∷ xs) sound all = join (type_is_named (listed pool x.instruction)) _
    (sound_type pool x.instruction sound all.0) (sound_types pool xs sound all.1)

sound_body : (pool : List Entry) (wanted : Bool) (attributes : List Attribute) (code : Option CodePart) → AreSound pool
    → SpellCode pool wanted attributes code → types_are_named_in (option_map (listed_code pool) code) ≡ true
sound_body pool wanted attributes None sound spells = refl
sound_body pool wanted attributes (Some c) sound spells = sound_types pool c.instructions sound spells.3.sound

sound_methods : (pool : List Entry) (class : ℕ) (bytes : List ℕ) (ms : List MethodPart) → AreSound pool
    → SpellsAll (SpellsMethod pool class) bytes ms → types_are_named (map (listed_method pool) ms) ≡ true
sound_methods pool class bytes [] sound spells = refl
sound_methods pool class bytes (m ∷ ms) sound spells =
    join (types_are_named_in (option_map (listed_code pool) m.code)) _
    (sound_body pool _ _ m.code sound spells.3.code_is) (sound_methods pool class spells.1 ms sound spells.4)

passed_name : (pool : List Entry) (n : Option ℕ) → passes is_class_name (option_and_then (text_at pool) n) ≡ true
    → is_class_name (name_at pool (unwrap_or n 0)) ≡ true
passed_name pool None h = absurd cc
passed_name pool (Some n) h = passed_text (text_at pool n) h where
  passed_text : (text : Option (List ℕ)) → passes is_class_name text ≡ true → is_class_name (unwrap_or text []) ≡ true
  passed_text None h = absurd cc
  passed_text (Some text) h = h

pub class_file_is_well_named : (bytes : List ℕ) (c : ClassPart) → IsClassFile bytes c → is_well_named (listing_of c)
    ≡ true
unfolding is_well_named listing_of
class_file_is_well_named bytes c is =
    let sound = is.head_spells.pool_is_sound in
    join (is_class_name (class_at c.head.pool c.head.class))
    (types_are_named (map (listed_method c.head.pool) c.methods))
    (passed_name c.head.pool (class_of (entry_at c.head.pool c.head.class)) is.head_spells.following.class_spells.2)
    (sound_methods c.head.pool c.head.flags.0 is.methods_spell.body c.methods sound is.methods_spell.all)

-- ---- sources

module _ (spelled : (text : List ℕ) (t : Tree) → tree_of text ≡ Some t → is_spelled (texts.listing_of t) ≡ true) where
  listing_by : (is_class : Bool) (source : List ℕ) (l : ClassListing) → IsListingBy is_class source l → is_well_named l
      ≡ true
  listing_by true source l is = subst (λ (x : ClassListing). is_well_named x ≡ true) (sym is.2)
      (class_file_is_well_named source is.0 is.1)
  listing_by false source l is = subst (λ (x : ClassListing). is_well_named x ≡ true) (sym is.3)
      (spelled_is_well_named (texts.listing_of is.0) (spelled source is.0 is.1))

  pub listings_are_well_named : (sources : List (List ℕ)) (ls : List ClassListing) → AreListings sources ls
      → list_all is_well_named ls ≡ true
  listings_are_well_named [] [] all = refl
  listings_are_well_named [] (l ∷ ls) all = absurd all
  listings_are_well_named (s ∷ ss) [] all = absurd all
  listings_are_well_named (s ∷ ss) (l ∷ ls) all = join (is_well_named l) (list_all is_well_named ls)
      (listing_by (begins_as_class s) s l all.0) (listings_are_well_named ss ls all.1)
