-- How the methods of a class follow one another.
use Rattle.std.proofs.Common.{◌≡◌, ℕ, ◌≤◌, true, false, List, [], ◌∷◌, ◌++◌, length, refl, sym, ◌∙◌, ap, arith, inl}
use Rattle.std.proofs.Common.{inr, Some, None, Option, append_assoc, append-nil, codes}
use Rattle.std.specs.Option.{option_and_then, option_map}
use Rattle.std.specs.Str.{bytes_eq}
use Rattle.std.specs.Prelude.{bit_and, ◌≢◌}
use Rattle.std.proofs.lemmas.Bool.Decides.{eqb_tells}
use Rattle.jasmin_words.proofs.Places.{bool_tells}
use Rattle.model.specs.declared.flags.ClassFlags.{ClassFlags}
use Rattle.model.specs.declared.trees.MethodTree.{MethodTree}
use Rattle.model.specs.Texts.Classes.{is_end, in_first_block, blocks_of, each, said_before, methods_of}
use Rattle.model.specs.Texts.Flags.{has}
use Rattle.model.specs.Texts.Heads.{MethodHead, method_of}
use Rattle.model.specs.Texts.Methods.{body_of, method_tree, method_under, method_with, method_without}
use Rattle.model.specs.Texts.Statements.{Statement}
use Rattle.jasmin.specs.Bodies.{block_of, in_block, after_block, first_body, first_method}
use Rattle.jasmin.proofs.BodyLemmas.{word_is, after_end}

-- a method's head is no `.end method`
head_is_no_end : (class : ClassFlags) (s : Statement) (head : MethodHead) → method_of class s ≡ Some head
    → is_end s ≡ false
head_is_no_end class None head h = refl
head_is_no_end class (Some []) head h = refl
head_is_no_end class (Some (word ∷ words)) head h =
    elim (bool_tells (bytes_eq word (codes ".method"))) [
      | inl t ↦ rw (word_is word (codes ".method") t) refl
      | inr f ↦ let g = rw f at h in cc
    ]

-- the first block and those that follow
onto_block : (s : Statement) (block : List Statement) (blocks : Option (List (List Statement)))
    → in_first_block s (option_map (λ bs. block ∷ bs) blocks) ≡ option_map (λ bs. (s ∷ block) ∷ bs) blocks
onto_block s block None = refl
onto_block s block (Some bs) = refl

block_onto : (s : Statement) (ss block : List Statement) (o : Option (List Statement)) → block_of ss ≡ o → in_block s o
    ≡ Some block
    → ((b : List Statement) → block_of ss ≡ Some b → blocks_of ss
    ≡ option_map (λ bs. b ∷ bs) (blocks_of (after_block ss)))
    → in_first_block s (blocks_of ss) ≡ option_map (λ bs. block ∷ bs) (blocks_of (after_block ss))
block_onto s ss block None e g rest = cc
block_onto s ss block (Some b) e g rest = let eq : s ∷ b ≡ block = cc in ap (in_first_block s) (rest b e)
    ∙ onto_block s b (blocks_of (after_block ss)) ∙ rw eq refl

blocks_first : (ss : List Statement) (block : List Statement) → block_of ss ≡ Some block → blocks_of ss
    ≡ option_map (λ bs. block ∷ bs) (blocks_of (after_block ss))
blocks_first [] block h = cc
blocks_first (s ∷ ss) block h =
    elim (bool_tells (is_end s)) [
      | inl t ↦ let e : [] ≡ block = (let g = rw t at h in cc) in rw (t, ← e) refl
      | inr f ↦ rw f (block_onto s ss block (block_of ss) refl (rw f at h) (blocks_first ss))
    ]

-- statements that do not end in a block
blocks_unended : (ss : List Statement) → block_of ss ≡ None → (s : Statement) → in_first_block s (blocks_of ss) ≡ None
blocks_unended [] h s = refl
blocks_unended (t ∷ ss) h s =
    elim (bool_tells (is_end t)) [
      | inl e ↦ let g = rw e at h in cc
      | inr f ↦ rw (f, blocks_unended ss (by (block_of ss) (rw f at h)) t) refl
    ]
  where
    by : (o : Option (List Statement)) → in_block t o ≡ None → o ≡ None
    by None g = refl
    by (Some b) g = cc

-- a method before others
with_first : Option MethodTree → Option (List MethodTree) → Option (List MethodTree)
with_first None rest = None
with_first (Some m) rest = option_map (λ ms. m ∷ ms) rest

before_tree : (m : MethodTree) (o : Option (List MethodTree)) → said_before (Some m) o ≡ option_map (λ ms. m ∷ ms) o
before_tree m None = refl
before_tree m (Some ms) = refl

nothing_first : (o : Option (List MethodTree)) → with_first None o ≡ None
unfolding with_first
nothing_first o = refl

-- the methods of blocks, the first of which is under a head
method_first : (class : ClassFlags) (s : Statement) (block : List Statement) (blocks : Option (List (List Statement)))
    (tree : Option MethodTree) → method_tree class (s ∷ block) ≡ tree
    → option_and_then (each (method_tree class)) (option_map (λ bs. (s ∷ block) ∷ bs) blocks)
    ≡ with_first tree (option_and_then (each (method_tree class)) blocks)
unfolding with_first
method_first class s block None None h = refl
method_first class s block None (Some m) h = refl
method_first class s block (Some bs) None h = rw h refl
method_first class s block (Some bs) (Some m) h = rw h (before_tree m (each (method_tree class) bs))

-- the methods that statements spell, after those so far
pub methods_with : ClassFlags → List MethodTree → List Statement → Option (List MethodTree)
methods_with class methods ss = option_map (λ more. methods ++ more) (methods_of class ss)

pub with_start : (class : ClassFlags) (ss : List Statement) → methods_with class [] ss ≡ methods_of class ss
unfolding methods_with
with_start class ss = by (methods_of class ss)
  where
    by : (o : Option (List MethodTree)) → option_map (λ more. [] ++ more) o ≡ o
    by None = refl
    by (Some more) = refl

pub with_end : (class : ClassFlags) (methods : List MethodTree) (before : List Statement) → before ≡ []
    → methods_with class methods before ≡ Some methods
unfolding methods_with
with_end class methods before e = rw e (simp append-nil refl)

none_more : (class : ClassFlags) (methods : List MethodTree) (ss : List Statement) → methods_of class ss ≡ None
    → methods_with class methods ss ≡ None
unfolding methods_with
none_more class methods ss h = rw h refl

-- a statement that is no method's head
no_head : (class : ClassFlags) (s : Statement) (ss : List Statement) → method_of class s ≡ None
    → methods_of class (s ∷ ss) ≡ None
no_head class s ss h =
    elim (bool_tells (is_end s)) [
      | inl t ↦ rw t (empty (blocks_of ss))
      | inr f ↦ rw f (headless (blocks_of ss))
    ]
  where
    empty : (o : Option (List (List Statement)))
        → option_and_then (each (method_tree class)) (option_map (λ bs. [] ∷ bs) o) ≡ None
    empty None = refl
    empty (Some bs) = refl

    headless : (o : Option (List (List Statement))) → option_and_then (each (method_tree class)) (in_first_block s o)
        ≡ None
    headless None = refl
    headless (Some []) = refl
    headless (Some (b ∷ bs)) = rw h refl

pub with_no_head : (class : ClassFlags) (methods : List MethodTree) (before : List Statement) (s : Statement)
    (ss : List Statement) → before ≡ s ∷ ss → method_of class s ≡ None → methods_with class methods before ≡ None
with_no_head class methods before s ss e h = rw e (none_more class methods (s ∷ ss) (no_head class s ss h))

pub with_unread : (class : ClassFlags) (methods : List MethodTree) (before ss : List Statement) → before ≡ None ∷ ss
    → methods_with class methods before ≡ None
with_unread class methods before ss e = with_no_head class methods before None ss e refl

-- a method's head and the statements after it
under_head : (class : ClassFlags) (s : Statement) (ss : List Statement) (head : MethodHead) (tree : Option MethodTree)
    → method_of class s ≡ Some head → first_method head ss ≡ tree
    → methods_of class (s ∷ ss) ≡ with_first tree (methods_of class (after_block ss))
under_head class s ss head tree h m = rw (head_is_no_end class s head h) (by (block_of ss) refl m)
  where
    by : (o : Option (List Statement)) → block_of ss ≡ o → option_and_then (method_under (Some head)) o ≡ tree
        → option_and_then (each (method_tree class)) (in_first_block s (blocks_of ss))
        ≡ with_first tree (methods_of class (after_block ss))
    by None e g = rw (blocks_unended ss e s, ← g) (sym (nothing_first (methods_of class (after_block ss))))
    by (Some block) e g =
        rw (blocks_first ss block e, onto_block s block (blocks_of (after_block ss)))
        (method_first class s block (blocks_of (after_block ss)) tree (rw h g))

pub with_method : (class : ClassFlags) (methods : List MethodTree) (before : List Statement) (s : Statement)
    (ss after : List Statement) (head : MethodHead) (m : MethodTree) → before ≡ s ∷ ss → method_of class s ≡ Some head
    → first_method head ss ≡ Some m → after ≡ after_block ss → methods_with class methods before
    ≡ methods_with class (methods ++ m ∷ []) after
unfolding methods_with with_first
with_method class methods before s ss after head m e h f a = rw (e, a, under_head class s ss head (Some m) h f)
    (by (methods_of class (after_block ss)))
  where
    by : (o : Option (List MethodTree)) → option_map (λ more. methods ++ more) (with_first (Some m) o)
        ≡ option_map (λ more. (methods ++ m ∷ []) ++ more) o
    by None = refl
    by (Some ms) = rw append_assoc refl

pub with_no_method : (class : ClassFlags) (methods : List MethodTree) (before : List Statement) (s : Statement)
    (ss : List Statement) (head : MethodHead) → before ≡ s ∷ ss → method_of class s ≡ Some head
    → first_method head ss ≡ None → methods_with class methods before ≡ None
with_no_method class methods before s ss head e h f =
    rw e (none_more class methods (s ∷ ss) (under_head class s ss head None h f
    ∙ nothing_first (methods_of class (after_block ss))))

-- the statements after a block are no more
pub after_shorter : (ss : List Statement) → length (after_block ss) ≤ length ss
after_shorter [] = omega arith
after_shorter (s ∷ ss) = elim (bool_tells (is_end s)) [
  | inl t ↦ rw t (omega arith)
  | inr f ↦ rw f (omega (arith, after_shorter ss))
]

pub ruleset methods = (with_start, with_end, with_no_head, with_unread, with_method, with_no_method, after_shorter)

-- a method with a body, and one without
pub first_with_body : (head : MethodHead) (ss : List Statement) (flags : ℕ) → flags ≡ head.flags.0 → has flags 0x0500
    ≡ false → first_method head ss ≡ option_map (method_with head) (first_body ss)
first_with_body head ss flags e h = let g = rw e at h in by g (block_of ss)
  where
    by : has head.flags.0 0x0500 ≡ false → (o : Option (List Statement)) → option_and_then (method_under (Some head)) o
        ≡ option_map (method_with head) (option_and_then body_of o)
    by g None = refl
    by g (Some block) = rw g refl

pub first_without_body : (head : MethodHead) (ss : List Statement) (flags : ℕ) → flags ≡ head.flags.0 → has flags 0x0500
    ≡ true → first_method head ss ≡ option_and_then (method_without head) (block_of ss)
first_without_body head ss flags e h = let g = rw e at h in by g (block_of ss)
  where
    by : has head.flags.0 0x0500 ≡ true → (o : Option (List Statement)) → option_and_then (method_under (Some head)) o
        ≡ option_and_then (method_without head) o
    by g None = refl
    by g (Some block) = rw g refl

pub has_from : (flags bit : ℕ) → bit_and flags bit ≢ 0 → has flags bit ≡ true
has_from flags bit h = elim (eqb_tells (bit_and flags bit) 0) [ inl t ↦ absurd (h t.1) | inr f ↦ rw f.0 refl ]

-- a method without a body that has a statement, or no end
pub not_alone : (before : List Statement) (s : Statement) (ss : List Statement) (head : MethodHead) → before ≡ s ∷ ss
    → is_end s ≡ false → option_and_then (method_without head) (block_of before) ≡ None
not_alone before s ss head e h = rw (e, h) (by (block_of ss))
  where
    by : (o : Option (List Statement)) → option_and_then (method_without head) (in_block s o) ≡ None
    by None = refl
    by (Some block) = refl

pub alone_ends : (before : List Statement) (s : Statement) (ss : List Statement) → before ≡ s ∷ ss → is_end s ≡ true
    → block_of before ≡ Some []
alone_ends before s ss e h = rw (e, h) refl

pub ruleset alone = (first_with_body, first_without_body)

pub ruleset ends = (not_alone, alone_ends, after_end)
