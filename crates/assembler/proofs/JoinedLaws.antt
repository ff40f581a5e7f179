-- The class file of a tree has its listing, and a tree that has one can be assembled.
use Rattle.std.specs.Prelude.{◌⊎◌}
use Rattle.std.proofs.Common.{◌≡◌, ℕ, ℤ, ◌<◌, ◌^◌, true, false, ◌&&◌, List, [], ◌∷◌, ◌++◌, length, map, refl, ◌∙◌, ap}
use Rattle.std.proofs.Common.{subst, arith, inl, inr, Option, Some, None, codes, ◌+◌}
use Rattle.std.specs.List.{flat_map, list_all}
use Rattle.std.specs.Option.{option_map}
use Rattle.std.proofs.lemmas.Bool.{le-leb}
use Rattle.model.specs.ClassFiles.Classes.{ClassPart}
use Rattle.model.specs.ClassFiles.Items.{Item, is_item_of, with_items, instruction_items, placed_items, row_items}
use Rattle.model.specs.ClassFiles.Items.{code_items, method_items, listing_items, class_items, field_items}
use Rattle.model.specs.ClassFiles.Items.Item.{text_item, int_item}
use Rattle.model.specs.ClassFiles.Listing.{listing_of as file_listing, listed_flags}
use Rattle.model.specs.CodeListings.{CodeListing}
use Rattle.model.specs.Sizes.{size_at}
use Rattle.model.specs.Texts.Assembling.{is_countable, method_assembles, body_assembles, pool_size, listing_assembles}
use Rattle.model.specs.Texts.Assembling.{assembles}
use Rattle.model.specs.Texts.Bodies.{Body}
use Rattle.model.specs.Texts.Flags.{has}
use Rattle.model.specs.Texts.Instructions.{Written}
use Rattle.model.specs.Texts.Labels.{pc_of, with_targets}
use Rattle.model.specs.Texts.ListingOfTree.{placed_from, code_listing, method_listing, listing_of}
use Rattle.model.specs.Texts.Trees.{Tree}
use Rattle.model.specs.Texts.Widths.{used_before, used_in, used_in_body, used_in_methods, narrow_numbers, widened}
use Rattle.model.specs.Texts.Widths.{widened_line}
use Rattle.model.specs.declared.flags.ClassFlags.{ClassFlags}
use Rattle.model.specs.declared.instructions.Constant.TheVariants as constant
use Rattle.model.specs.declared.instructions.Instruction.TheVariants as instruction
use Rattle.model.specs.declared.instructions.Width.TheVariants.{Narrow, Wide}
use Rattle.model.specs.declared.listings.Method.{Method}
use Rattle.model.specs.declared.trees.MethodTree.{MethodTree}
use Rattle.model.specs.declared.trees.TextLine.{TextLine}
use Rattle.model.specs.declared.trees.TextLine.TheVariants.{Label, Instruction}
use Rattle.assembler.specs.Assembled.{file_flags, assembled, tree_items, assembled_tree}
use Rattle.assembler.specs.Checks.{few_rows, has_few_rows, has_short_lists, body_is_right, method_is_right}
use Rattle.assembler.specs.Numbering.{IsPool, are_items_of}
use Rattle.assembler.proofs.NumberingClasses.{class_listed}
use Rattle.assembler.proofs.NumberingCounts.{listing_there, listing_count}
use Rattle.assembler.proofs.NumberingFlags.{left_out, again}
use Rattle.assembler.proofs.NumberingItems.{among_left, among_right, among_cases, all_from}
use Rattle.assembler.proofs.Bools.{bool_tells, and_tells}

-- ---- numbers of `ldc` are items of the listing

-- whether an item is among the numbers, or stands after them
used_there : (f : List ℕ → ℕ) (narrow : List ℤ) (pc : ℕ) (lines : List TextLine) (x : Item)
    → is_item_of (map int_item (used_in lines)) x ≡ true
    → is_item_of (flat_map placed_items (placed_from f pc (map (widened_line narrow) lines))) x ≡ true
used_there f narrow pc [] x h = cc
used_there f narrow pc (Label l ∷ lines) x h = used_there f narrow pc lines x h
used_there f narrow pc (Instruction i ∷ lines) x h =
    let rest = flat_map placed_items (placed_from f (pc + size_at pc (widened narrow i))
    (map (widened_line narrow) lines)) in
    elim (first i h) [
      | inl here ↦ among_left (instruction_items (with_targets f (widened narrow i))) rest x here
      | inr there ↦ among_right (instruction_items (with_targets f (widened narrow i))) rest x
          (used_there f narrow (pc + size_at pc (widened narrow i)) lines x there)
    ]
  where
    first : (i : Written) → is_item_of (map int_item (used_before i (used_in lines))) x ≡ true
        → (is_item_of (instruction_items (with_targets f (widened narrow i))) x ≡ true) ⊎
        (is_item_of (map int_item (used_in lines)) x ≡ true)
    first instruction.Nop h = inr h
    first (instruction.Constant constant.Null) h = inr h
    first (instruction.Constant (constant.SmallInt n)) h = inr h
    first (instruction.Constant (constant.SmallLong n)) h = inr h
    first (instruction.Constant (constant.Byte z)) h = inr h
    first (instruction.Constant (constant.Short z)) h = inr h
    first (instruction.Constant (constant.Int Narrow z)) h = among_cases (int_item z ∷ []) (map
        int_item (used_in lines)) x h
    first (instruction.Constant (constant.Int Wide z)) h = inr h
    first (instruction.Constant (constant.Long z)) h = inr h
    first (instruction.Local a) h = inr h
    first (instruction.Stack op) h = inr h
    first (instruction.Number op) h = inr h
    first (instruction.Branch t target) h = inr h
    first (instruction.TableSwitch s) h = inr h
    first (instruction.LookupSwitch s) h = inr h
    first (instruction.Return kind) h = inr h
    first (instruction.Static a m) h = inr h
    first (instruction.Field a m) h = inr h
    first (instruction.Array op) h = inr h
    first (instruction.Class op name) h = inr h
    first (instruction.Invoke how m) h = inr h
    first instruction.Throw h = inr h
    first (instruction.Monitor op) h = inr h

body_there : (narrow : List ℤ) (o : Option Body) (x : Item) → is_item_of (map int_item (used_in_body o)) x ≡ true
    → is_item_of (code_items (option_map (code_listing narrow) o)) x ≡ true
body_there narrow None x h = cc
body_there narrow (Some b) x h =
    let lines = map (widened_line narrow) b.lines in
    let c = code_listing narrow b in
    among_right (text_item (codes "Code") ∷ []) (flat_map placed_items c.instructions ++ flat_map row_items c.rows) x
    (among_left (flat_map placed_items c.instructions) (flat_map row_items c.rows) x
    (used_there (pc_of 0 lines) narrow 0 b.lines x h))

pub ints_append : (xs ys : List ℤ) → map int_item (xs ++ ys) ≡ map int_item xs ++ map int_item ys
ints_append [] ys = refl
ints_append (x ∷ xs) ys = ap (λ zs. int_item x ∷ zs) (ints_append xs ys)

methods_there : (narrow : List ℤ) (ms : List MethodTree) (x : Item) → is_item_of (map int_item (used_in_methods ms)) x
    ≡ true → is_item_of (flat_map method_items (map (method_listing narrow) ms)) x ≡ true
methods_there narrow [] x h = cc
methods_there narrow (m ∷ ms) x h =
    let rest = flat_map method_items (map (method_listing narrow) ms) in
    elim (among_cases (map int_item (used_in_body m.body)) (map int_item (used_in_methods ms)) x
    (rw (ints_append (used_in_body m.body) (used_in_methods ms)) at h)) [
      | inl here ↦ among_left (method_items (method_listing narrow m)) rest x
          (among_right (text_item m.name ∷ text_item m.descriptor ∷ [])
          (code_items (option_map (code_listing narrow) m.body)) x (body_there narrow m.body x here))
      | inr there ↦ among_right (method_items (method_listing narrow m)) rest x (methods_there narrow ms x there)
    ]

pub ints_there : (t : Tree) → are_items_of (listing_items (listing_of t)) (map int_item (used_in_methods t.methods))
    ≡ true
unfolding listing_items listing_of
ints_there t =
    let l = listing_of t in
    let methods = flat_map method_items l.methods in
    let fields = flat_map field_items l.fields in
    let interfaces = flat_map class_items l.interfaces in
    all_from (listing_items l) (map int_item (used_in_methods t.methods)) (λ x h.
    among_right (class_items l.name) (class_items l.superclass ++ (interfaces ++ (fields ++ methods))) x
    (among_right (class_items l.superclass) (interfaces ++ (fields ++ methods)) x
    (among_right interfaces (fields ++ methods) x
    (among_right fields methods x (methods_there (narrow_numbers t.methods) t.methods x h)))))

-- ---- a tree that has a class file can be assembled

both_right : (o : Option CodeListing) → body_is_right o ≡ true → few_rows o ≡ true → body_assembles o ≡ true
both_right None h g = refl
both_right (Some c) h g = rw (h, g) refl

all_right : (ms : List Method) → list_all method_is_right ms ≡ true → list_all has_few_rows ms ≡ true
    → list_all method_assembles ms ≡ true
all_right [] h g = refl
all_right (m ∷ ms) h g =
    let p = and_tells (method_is_right m) (list_all method_is_right ms) h in
    let q = and_tells (has_few_rows m) (list_all has_few_rows ms) g in
    rw (both_right m.code p.0 q.0, all_right ms p.1 q.1) refl

pub it_assembles : (t : Tree) → list_all method_is_right (listing_of t).methods ≡ true → has_short_lists (listing_of t)
    ≡ true → IsPool (with_items [] (tree_items t)) → assembles t ≡ true
unfolding assembles listing_assembles
it_assembles t right short pool =
    let l = listing_of t in
    let i = is_countable (length l.interfaces) in
    let f = is_countable (length l.fields) in
    let m = is_countable (length l.methods) in
    let three = and_tells (i && f && m) (list_all has_few_rows l.methods) short in
    let two = and_tells (i && f) m three.0 in
    let one = and_tells i f two.0 in
    let same = listing_count (used_in_methods t.methods) l (ints_there t) in
    let fits = pool.fits in
    rw (all_right l.methods right three.1, one.0, one.1, two.1, le-leb (pool_size l) 65535 (omega (arith, same, fits)))
    refl

-- ---- the listing of the class file

flags_kept : (flags : ClassFlags) → flags.0 < 2 ^ 16 → has flags.0 0x0020 ≡ false → listed_flags (file_flags flags)
    ≡ flags
flags_kept flags small h =
    elim (bool_tells (has flags.0 0x0200)) [
      | inl t ↦ rw t (ap (λ (n : ℕ). class_flags n) (left_out flags.0 small h))
      | inr f ↦ rw f (ap (λ (n : ℕ). class_flags n) (again flags.0 small h))
    ]
  where
    class_flags : ℕ → ClassFlags
    class_flags n = record { 0 = n }

pub listed_again : (t : Tree) → IsPool (with_items [] (tree_items t)) → (listing_of t).flags.0 < 2 ^ 16
    → has (listing_of t).flags.0 0x0020 ≡ false → file_listing (assembled (with_items [] (tree_items t)) (listing_of t))
    ≡ listing_of t
listed_again t pool small h =
    let l = listing_of t in
    class_listed (with_items [] (tree_items t)) (file_flags l.flags) l pool.closed
    (listing_there (used_in_methods t.methods) l) (flags_kept l.flags small h)

pub joined : (file : ClassPart) (items : List Item) (a : ClassPart) (t : Tree) → items ≡ with_items [] (tree_items t)
    → a ≡ assembled_tree t → list_all method_is_right (listing_of t).methods ≡ true → has_short_lists (listing_of t)
    ≡ true
    → has (listing_of t).flags.0 0x0020 ≡ false → (listing_of t).flags.0 < 2 ^ 16 → file ≡ a → IsPool items
    → (file_listing file ≡ listing_of t) × (assembles t ≡ true)
unfolding assembled_tree
joined file items a t e same right short super small is pools =
    let pool = subst IsPool e pools in
    (ap file_listing (is ∙ same) ∙ listed_again t pool small super, it_assembles t right short pool)
