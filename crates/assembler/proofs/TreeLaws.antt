-- What a text's tree tells of its listing and of the pool of its class file.
use Rattle.std.proofs.Common.{◌≡◌, ℕ, ℤ, ◌+◌, Bool, true, false, not, ◌&&◌, nat_le, List, [], ◌∷◌, ◌++◌, length, map}
use Rattle.std.proofs.Common.{refl, sym, ◌∙◌, ap, subst, Option, Some, None, codes, ◌||◌}
use Rattle.std.specs.List.{list_all}
use Rattle.std.specs.Option.{option_map}
use Rattle.std.specs.Str.{bytes_eq}
use Rattle.std.proofs.lemmas.Bool.{eq-eqb}
use Rattle.std.proofs.lemmas.List.{length-map}
use Rattle.classfile.specs.Classes.{IsClass}
use Rattle.model.specs.ClassFiles.Heads.{are_class_flags}
use Rattle.model.specs.ClassFiles.Items.{Item, with_items, listing_items}
use Rattle.model.specs.ClassFiles.Items.Item.{int_item}
use Rattle.model.specs.ClassListings.{ClassListing}
use Rattle.model.specs.CodeListings.{CodeListing}
use Rattle.model.specs.Sizes.{size_at}
use Rattle.model.specs.Texts.Assembling.{is_countable, method_assembles, body_assembles, pool_size, listing_assembles}
use Rattle.model.specs.Texts.Bodies.{Body}
use Rattle.model.specs.Texts.Flags.{has}
use Rattle.model.specs.Texts.Instructions.{Written}
use Rattle.model.specs.Texts.Labels.{pc_of, with_targets}
use Rattle.model.specs.Texts.ListingOfTree.{placed_from, code_listing, method_listing, listing_of}
use Rattle.model.specs.Texts.Names.{is_class_name}
use Rattle.model.specs.Texts.Spelled.{stand_from, is_u2, head_is_spelled, field_is_spelled, method_is_spelled}
use Rattle.model.specs.Texts.Spelled.{ldc_numbers, is_spelled}
use Rattle.model.specs.Texts.Trees.{Tree}
use Rattle.model.specs.Texts.Widths.{different, narrow_numbers, used_in_methods, widened_line}
use Rattle.model.specs.declared.instructions.Instruction.TheVariants as instruction
use Rattle.model.specs.declared.listings.Method.{Method}
use Rattle.model.specs.declared.trees.MethodTree.{MethodTree}
use Rattle.model.specs.declared.trees.TextLine.{TextLine}
use Rattle.model.specs.declared.trees.TextLine.TheVariants.{Label, Instruction}
use Rattle.assembler.specs.Assembled.{Grows, HasRoom, code_stands, tree_items, assembled, assembled_tree}
use Rattle.assembler.specs.Checks.{few_rows, has_few_rows, has_short_lists, code_is_right}
use Rattle.assembler.proofs.FileLaws.{has_room}
use Rattle.assembler.proofs.Bools.{and_tells}

-- ---- instructions stand one after the other

target_size : (f : List ℕ → ℕ) (pc : ℕ) (i : Written) → size_at pc (with_targets f i) ≡ size_at pc i
target_size f pc instruction.Nop = refl
target_size f pc (instruction.Constant c) = refl
target_size f pc (instruction.Local a) = refl
target_size f pc (instruction.Stack op) = refl
target_size f pc (instruction.Number op) = refl
target_size f pc (instruction.Branch t target) = refl
target_size f pc (instruction.TableSwitch s) = rw (length-map s.targets f) refl
target_size f pc (instruction.LookupSwitch s) = rw (length-map {B = ℤ × ℕ} s.pairs (λ p. (p.0, f p.1))) refl
target_size f pc (instruction.Return kind) = refl
target_size f pc (instruction.Static a m) = refl
target_size f pc (instruction.Field a m) = refl
target_size f pc (instruction.Array op) = refl
target_size f pc (instruction.Class op name) = refl
target_size f pc (instruction.Invoke how m) = refl
target_size f pc instruction.Throw = refl
target_size f pc (instruction.Monitor op) = refl

placed_stand : (f : List ℕ → ℕ) (pc : ℕ) (lines : List TextLine) → stand_from pc (placed_from f pc lines) ≡ true
placed_stand f pc [] = refl
placed_stand f pc (Label l ∷ lines) = placed_stand f pc lines
placed_stand f pc (Instruction i ∷ lines) =
    rw (
      eq-eqb pc pc refl,
      eq-eqb (pc + size_at pc i) (pc + size_at pc (with_targets f i))
          (ap (λ n. pc + n) (sym (target_size f pc i))),
      placed_stand f (pc + size_at pc i) lines,
    ) refl

body_stands : (narrow : List ℤ) (o : Option Body) → code_stands (option_map (code_listing narrow) o) ≡ true
body_stands narrow None = refl
body_stands narrow (Some b) = placed_stand (pc_of 0 (map (widened_line narrow) b.lines)) 0
    (map (widened_line narrow) b.lines)

methods_stand : (narrow : List ℤ) (ms : List MethodTree)
    → list_all (λ m. code_stands m.code) (map (method_listing narrow) ms) ≡ true
methods_stand narrow [] = refl
methods_stand narrow (m ∷ ms) = rw (body_stands narrow m.body, methods_stand narrow ms) refl

pub listing_stands : (t : Tree) → list_all (λ m. code_stands m.code) (listing_of t).methods ≡ true
unfolding listing_of
listing_stands t = methods_stand (narrow_numbers t.methods) t.methods

-- ---- tests

body_few : (o : Option CodeListing) → body_assembles o ≡ true → few_rows o ≡ true
body_few None h = refl
body_few (Some c) h = (and_tells (code_is_right c) (is_countable (length c.rows)) h).1

methods_few : (ms : List Method) → list_all method_assembles ms ≡ true → list_all has_few_rows ms ≡ true
methods_few [] h = refl
methods_few (m ∷ ms) h = let both = and_tells (method_assembles m) (list_all method_assembles ms) h
    in rw (body_few m.code both.0, methods_few ms both.1) refl

pub short_lists : (l : ClassListing) → listing_assembles l ≡ true → has_short_lists l ≡ true
unfolding listing_assembles
short_lists l h =
    let i = is_countable (length l.interfaces) in
    let f = is_countable (length l.fields) in
    let m = is_countable (length l.methods) in
    let a = list_all method_assembles l.methods in
    let four = and_tells (a && i && f && m) (is_countable (pool_size l)) h in
    let three = and_tells (a && i && f) m four.0 in
    let two = and_tells (a && i) f three.0 in
    let one = and_tells a i two.0 in
    rw (one.1, two.1, three.1, methods_few l.methods one.0) refl

not_true : (b : Bool) → not b ≡ true → b ≡ false
not_true true h = cc
not_true false h = refl

pub no_super : (l : ClassListing) → is_spelled l ≡ true → has l.flags.0 0x0020 ≡ false
unfolding is_spelled
no_super l h =
    let head = head_is_spelled l.flags.0 l.superclass in
    let n = is_class_name l.name in
    let s = is_class_name l.superclass in
    let i = list_all is_class_name l.interfaces in
    let f = list_all (field_is_spelled l.flags.0) l.fields in
    let m = list_all (method_is_spelled l.flags.0) l.methods in
    let six = and_tells (head && n && s && i && f && m) (nat_le (length (different (ldc_numbers l.methods))) 255) h in
    let five = and_tells (head && n && s && i && f) m six.0 in
    let four = and_tells (head && n && s && i) f five.0 in
    let three = and_tells (head && n && s) i four.0 in
    let two = and_tells (head && n) s three.0 in
    let one = and_tells head n two.0 in
    let last = and_tells (is_u2 l.flags.0 && are_class_flags l.flags.0 && not (has l.flags.0 0x0020))
    (not (has l.flags.0 0x0200) || bytes_eq l.superclass (codes "java/lang/Object")) one.0 in
    not_true (has l.flags.0 0x0020)
    ((and_tells (is_u2 l.flags.0 && are_class_flags l.flags.0) (not (has l.flags.0 0x0020)) last.0).1)

-- ---- the pool

module _ (t : Tree) (old new : List Item) (used : List ℤ) (none : old ≡ []) (same : used ≡ used_in_methods t.methods)
  where
    whole : with_items old (map int_item used ++ listing_items (listing_of t)) ≡ with_items [] (tree_items t)
    whole = ap (λ items. with_items items (map int_item used ++ listing_items (listing_of t))) none
        ∙ ap (λ zs. with_items [] (map int_item zs ++ listing_items (listing_of t))) same

    pub tree_pool : Grows old (map int_item used) new → (l : ClassListing) → l ≡ listing_of t
        → assembled (with_items new (listing_items l)) l ≡ assembled_tree t
    unfolding assembled_tree
    tree_pool grown l e =
        ap (λ k. assembled (with_items new (listing_items k)) k) e
        ∙ ap (λ items. assembled items (listing_of t)) (sym (grown (listing_items (listing_of t))) ∙ whole)

    pub tree_room : IsClass (assembled_tree t)
        → HasRoom (with_items old (map int_item used ++ listing_items (listing_of t)))
    unfolding assembled_tree
    tree_room is = subst HasRoom (sym whole) (has_room (with_items [] (tree_items t)) (listing_of t) is)

    pub tree_items_are : Grows old (map int_item used) new → (l : ClassListing) → l ≡ listing_of t
        → with_items new (listing_items l) ≡ with_items [] (tree_items t)
    tree_items_are grown l e = ap (λ k. with_items new (listing_items k)) e ∙ sym (grown (listing_items (listing_of t)))
        ∙ whole
