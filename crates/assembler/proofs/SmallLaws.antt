-- A tree that some text spells, and that can be assembled, has a class file: the numbers of its `ldc` have one byte
-- each.
use Rattle.std.proofs.Common.{◌≡◌, ℕ, ℤ, ◌+◌, ◌≤◌, ◌<◌, ◌^◌, true, List, [], ◌∷◌, ◌++◌, filter, length, map, take, drop}
use Rattle.std.proofs.Common.{refl, sym, ◌∙◌, ap, subst, arith, inl, inr, append_assoc, append-nil, Option, Some, None}
use Rattle.std.specs.List.{flat_map, list_all, AllByRecursion}
use Rattle.std.specs.Option.{option_map}
use Rattle.std.specs.Ordering.{int_eq}
use Rattle.std.proofs.lemmas.Bool.{leb-true}
use Rattle.std.proofs.lemmas.List.{length-take, take-append-drop}
use Rattle.std.proofs.lemmas.Bool.Decides.{Decides-int_eq}
use Rattle.classfile.specs.Classes.{IsClass}
use Rattle.model.specs.ClassFiles.Heads.{are_class_flags}
use Rattle.model.specs.ClassFiles.Items.{Item, is_item_of, is_same_item, with_items, code_items, method_items}
use Rattle.model.specs.ClassFiles.Items.{listing_items}
use Rattle.model.specs.ClassFiles.Items.Item.{text_item, int_item}
use Rattle.model.specs.ClassFiles.Methods.{wants_code}
use Rattle.model.specs.ClassListings.{ClassListing}
use Rattle.model.specs.Sizes.{size_at}
use Rattle.model.specs.Texts.Assembling.{is_countable, method_assembles, pool_size, listing_assembles, assembles}
use Rattle.model.specs.Texts.Bodies.{Body}
use Rattle.model.specs.Texts.Flags.{has}
use Rattle.model.specs.Texts.Instructions.{Written}
use Rattle.model.specs.Texts.Labels.{pc_of, with_targets}
use Rattle.model.specs.Texts.ListingOfTree.{placed_from, code_listing, method_listing, listing_of}
use Rattle.model.specs.Texts.Spelled.{narrow_number, body_is_spelled, method_is_spelled, is_spelled}
use Rattle.model.specs.Texts.Trees.{Tree}
use Rattle.model.specs.Texts.Widths.{is_among, different, used_in_methods, narrow_numbers, widened, widened_line}
use Rattle.model.specs.declared.flags.ClassFlags.{ClassFlags}
use Rattle.model.specs.declared.instructions.Constant.TheVariants as constant
use Rattle.model.specs.declared.instructions.Instruction.TheVariants as instruction
use Rattle.model.specs.declared.instructions.Width.TheVariants.{Narrow, Wide}
use Rattle.model.specs.declared.trees.MethodTree.{MethodTree}
use Rattle.model.specs.declared.trees.TextLine.{TextLine}
use Rattle.model.specs.declared.trees.TextLine.TheVariants.{Label, Instruction}
use Rattle.assembler.specs.Assembled.{file_flags, tree_items, assembled_tree}
use Rattle.assembler.specs.Numbering.{IsPool, number_from, number_of, are_items_of}
use Rattle.assembler.proofs.JoinedLaws.{ints_append, ints_there}
use Rattle.assembler.proofs.NarrowLemmas.{others, known_rest, new_rest, all_left}
use Rattle.assembler.proofs.NumberingClasses.{listing_parts}
use Rattle.assembler.proofs.NumberingCounts.{listing_pool, listing_there, listing_count}
use Rattle.assembler.proofs.NumberingEntries.{number_here, number_after, number_left, still_numbers}
use Rattle.assembler.proofs.NumberingFits.{AreSmall}
use Rattle.assembler.proofs.NumberingFlags.{interface_still, agree_still, or_is_short}
use Rattle.assembler.proofs.NumberingItems.{item_known, item_new, among_left, one_of, with_items-append}
use Rattle.assembler.proofs.NumberingListed.{all_parts}
use Rattle.assembler.proofs.NumberingSpelled.{good_one, good_from, both_good, listing_good, pool_is_good}
use Rattle.assembler.proofs.NumberingStands.{HasBytes, HasSmall, AreLike, body_has_bytes, class_file_stands}
use Rattle.assembler.proofs.NumberingStands.{spelled_flags}
use Rattle.assembler.proofs.Bools.{bool_tells, and_tells}

-- ---- numbers that stand first

equal_both : (a b : ℤ) → int_eq a b ≡ int_eq b a
equal_both a b =
    elim (bool_tells (int_eq a b)) [
      | inl t ↦ t ∙ sym ((Decides-int_eq b a).1 (sym ((Decides-int_eq a b).0 t)))
      | inr f ↦ elim (bool_tells (int_eq b a)) [
        | inl t ↦ let e = (Decides-int_eq a b).1 (sym ((Decides-int_eq b a).0 t)) in cc
        | inr g ↦ f ∙ sym g
      ]
    ]

ints_among : (noted : List ℤ) (z : ℤ) → is_item_of (map int_item noted) (int_item z) ≡ is_among noted z
ints_among [] z = refl
ints_among (n ∷ noted) z = rw (equal_both z n, ints_among noted z) refl

ints_are : (noted zs : List ℤ) → with_items (map int_item noted) (map int_item zs) ≡ map
    int_item (noted ++ filter (others noted) (different zs))
ints_are noted [] = ap (map int_item) (sym (append-nil noted))
ints_are noted (z ∷ zs) =
    elim (bool_tells (is_among noted z)) [
      | inl t ↦
          ap (λ items. with_items items (map int_item zs)) (item_known (map int_item noted) (int_item z)
          (ints_among noted z ∙ t))
          ∙ ints_are noted zs
          ∙ ap (λ ys. map int_item (noted ++ ys)) (sym (known_rest noted z zs t))
      | inr f ↦
          ap (λ items. with_items items (map int_item zs)) (item_new (map int_item noted) (int_item z)
          (ints_among noted z ∙ f) ∙ sym (ints_append noted (z ∷ [])))
          ∙ ints_are (noted ++ z ∷ []) zs
          ∙ ap (map int_item) (append_assoc noted (z ∷ []) (filter (others (noted ++ z ∷ [])) (different zs)))
          ∙ ap (λ ys. map int_item (noted ++ ys)) (sym (new_rest noted z zs f))
    ]

ints_first : (zs : List ℤ) (rest : List Item) → with_items [] (map int_item zs ++ rest)
    ≡ with_items (map int_item (different zs)) rest
ints_first zs rest = with_items-append [] (map int_item zs) rest ∙ ap (λ items. with_items items rest) (ints_are [] zs
    ∙ ap (map int_item) (all_left (different zs)))

int_place : (n : ℕ) (zs : List ℤ) (z : ℤ) → is_item_of (map int_item zs) (int_item z) ≡ true
    → number_from n (map int_item zs) (int_item z) < n + length zs
int_place n [] z h = cc
int_place n (x ∷ zs) z h =
    elim (bool_tells (is_same_item (int_item z) (int_item x))) [
      | inl t ↦ omega (arith, number_here n (int_item x) (int_item z) (map int_item zs) t)
      | inr f ↦ omega (
        arith,
        number_after n (int_item x) (int_item z) (map int_item zs) f,
        int_place (n + 1) zs z (rw f at h),
      )
    ]

-- the first 255 different numbers have numbers of one byte
small : (zs : List ℤ) (rest : List Item) (z : ℤ) → is_among (take 255 (different zs)) z ≡ true
    → number_of (with_items [] (map int_item zs ++ rest)) (int_item z) ≤ 255
small zs rest z h =
    let all = different zs in
    let first = take 255 all in
    let here : is_item_of (map int_item first) (int_item z) ≡ true = ints_among first z ∙ h in
    let split : map int_item all ≡ map int_item first ++ map
    int_item (drop 255 all) = ap (map int_item) (sym (take-append-drop 255 all)) ∙
    ints_append first (drop 255 all) in
    let there : is_item_of (map int_item all) (int_item z) ≡ true = subst (λ items. is_item_of items (int_item z)
    ≡ true) (sym split) (among_left (map int_item first) (map int_item (drop 255 all)) (int_item z) here) in
    let number : number_of (with_items [] (map int_item zs ++ rest)) (int_item z)
    ≡ number_from 1 (map int_item first) (int_item z) =
    ap (λ items. number_of items (int_item z)) (ints_first zs rest)
    ∙ still_numbers (map int_item all) rest (int_item z) there
    ∙ ap (λ items. number_of items (int_item z)) split
    ∙ number_left 1 (map int_item first) (map int_item (drop 255 all)) (int_item z) here in
    omega (arith, number, int_place 1 first z here, length-take 255 all)

-- ---- code

module _ (items : List Item) (narrow : List ℤ) (each : (z : ℤ) → is_among narrow z ≡ true
    → number_of items (int_item z) ≤ 255) where
  one_small : (f : List ℕ → ℕ) (i : Written) → AreSmall items (narrow_number (with_targets f (widened narrow i)))
  one_small f instruction.Nop = tt
  one_small f (instruction.Constant constant.Null) = tt
  one_small f (instruction.Constant (constant.SmallInt n)) = tt
  one_small f (instruction.Constant (constant.SmallLong n)) = tt
  one_small f (instruction.Constant (constant.Byte z)) = tt
  one_small f (instruction.Constant (constant.Short z)) = tt
  one_small f (instruction.Constant (constant.Int Narrow z)) = elim (bool_tells (is_among narrow z)) [
    | inl t ↦ rw t (each z t, tt)
    | inr g ↦ rw g tt
  ]
  one_small f (instruction.Constant (constant.Int Wide z)) = tt
  one_small f (instruction.Constant (constant.Long z)) = tt
  one_small f (instruction.Local a) = tt
  one_small f (instruction.Stack op) = tt
  one_small f (instruction.Number op) = tt
  one_small f (instruction.Branch t target) = tt
  one_small f (instruction.TableSwitch s) = tt
  one_small f (instruction.LookupSwitch s) = tt
  one_small f (instruction.Return kind) = tt
  one_small f (instruction.Static a m) = tt
  one_small f (instruction.Field a m) = tt
  one_small f (instruction.Array op) = tt
  one_small f (instruction.Class op name) = tt
  one_small f (instruction.Invoke how m) = tt
  one_small f instruction.Throw = tt
  one_small f (instruction.Monitor op) = tt

  lines_small : (f : List ℕ → ℕ) (pc : ℕ) (lines : List TextLine)
      → AllByRecursion (λ p. AreSmall items (narrow_number p.instruction))
      (placed_from f pc (map (widened_line narrow) lines))
  lines_small f pc [] = tt
  lines_small f pc (Label l ∷ lines) = lines_small f pc lines
  lines_small f pc (Instruction i ∷ lines) = (one_small f i, lines_small f (pc + size_at pc (widened narrow i)) lines)

  body_small : (o : Option Body) → HasSmall items (option_map (code_listing narrow) o)
  body_small None = tt
  body_small (Some b) = lines_small (pc_of 0 (map (widened_line narrow) b.lines)) 0 b.lines

  pub methods_bytes : (class : ℕ) (ms : List MethodTree) → IsPool items
      → are_items_of items (flat_map method_items (map (method_listing narrow) ms)) ≡ true
      → list_all (method_is_spelled class) (map (method_listing narrow) ms) ≡ true
      → list_all method_assembles (map (method_listing narrow) ms) ≡ true
      → AllByRecursion (λ m. HasBytes items m.code) (map (method_listing narrow) ms)
  methods_bytes class [] pool all spelled fits = tt
  methods_bytes class (t ∷ ts) pool all spelled fits =
      let m = method_listing narrow t in
      let ms = map (method_listing narrow) ts in
      let parts = all_parts items (method_items m) (flat_map method_items ms) all in
      let code = all_parts items (text_item m.name ∷ text_item m.descriptor ∷ []) (code_items m.code) parts.0 in
      let s = and_tells (method_is_spelled class m) (list_all (method_is_spelled class) ms) spelled in
      let a = and_tells (method_assembles m) (list_all method_assembles ms) fits in
      let body = and_tells _ (body_is_spelled (wants_code m.flags.0) m.code) s.0 in (
        body_has_bytes items (wants_code m.flags.0) m.code pool code.1 body.1 a.0 (body_small t.body),
        methods_bytes class ts pool parts.1 s.1 a.1,
      )

-- ---- the class

flags_small : (flags : ClassFlags) → flags.0 < 2 ^ 16 → are_class_flags flags.0 ≡ true → ((file_flags flags).0 < 2 ^ 16)
    × (are_class_flags (file_flags flags).0 ≡ true) × AreLike (file_flags flags).0 flags.0
flags_small flags few agree =
    elim (bool_tells (has flags.0 0x0200)) [
      | inl t ↦ rw t (few, agree, t)
      | inr f ↦ rw f (or_is_short flags.0 few, agree_still flags.0 ∙ agree, interface_still flags.0 ∙ f)
    ]

pool_of : (t : Tree) → assembles t ≡ true → IsPool (with_items [] (tree_items t))
unfolding assembles listing_assembles
pool_of t whole =
    let l = listing_of t in
    let count = listing_count (used_in_methods t.methods) l (ints_there t) in
    let fits = leb-true (pool_size l) 65535 ((and_tells _ (is_countable (pool_size l)) whole).1) in
    listing_pool (used_in_methods t.methods) l (omega (arith, count, fits))

spelled_methods : (l : ClassListing) → is_spelled l ≡ true → list_all (method_is_spelled l.flags.0) l.methods ≡ true
unfolding is_spelled
spelled_methods l spelled = (and_tells _ (list_all (method_is_spelled l.flags.0) l.methods)
    ((and_tells _ _ spelled).0)).1

assembled_methods : (l : ClassListing) → listing_assembles l ≡ true → list_all method_assembles l.methods ≡ true
unfolding listing_assembles
assembled_methods l h =
    let four = and_tells _ (is_countable (pool_size l)) h in
    let three = and_tells _ (is_countable (length l.methods)) four.0 in
    let two = and_tells _ (is_countable (length l.fields)) three.0 in
    (and_tells (list_all method_assembles l.methods) (is_countable (length l.interfaces)) two.0).0

tree_bytes : (t : Tree) (items : List Item) → items ≡ with_items [] (tree_items t) → IsPool items
    → are_items_of items (flat_map method_items (listing_of t).methods) ≡ true → is_spelled (listing_of t) ≡ true
    → listing_assembles (listing_of t) ≡ true
    → AllByRecursion (λ m. HasBytes items m.code) (listing_of t).methods
unfolding listing_of
tree_bytes t items same pool all spelled fits =
    methods_bytes items (narrow_numbers t.methods) (λ z h. subst (λ xs. number_of xs (int_item z) ≤ 255) (sym same)
    (small (used_in_methods t.methods) (listing_items (listing_of t)) z h)) t.flags.0 t.methods pool all
    (spelled_methods (listing_of t) spelled) (assembled_methods (listing_of t) fits)

-- a tree that a text spells and that can be assembled has a class file
pub has_class : (t : Tree) → is_spelled (listing_of t) ≡ true → assembles t ≡ true → IsClass (assembled_tree t)
unfolding assembled_tree assembles
has_class t spelled whole =
    let l = listing_of t in
    let items = with_items [] (tree_items t) in
    let pool = pool_of t whole in
    let listed = listing_good l spelled in
    let ints = good_from (map int_item (used_in_methods t.methods)) (λ x h. good_one (listing_items l) x listed
    (one_of (listing_items l) (map int_item (used_in_methods t.methods)) x (ints_there t) h)) in
    let good = pool_is_good (tree_items t) (both_good (map int_item (used_in_methods t.methods)) (listing_items l)
    ints listed) in
    let all = listing_there (used_in_methods t.methods) l in
    let flags = spelled_flags l spelled in
    let kept = flags_small l.flags flags.0 flags.1 in
    class_file_stands items (file_flags l.flags) l pool good all spelled whole kept.0 kept.1 kept.2
    (tree_bytes t items refl pool (listing_parts items l all).methods spelled whole)
