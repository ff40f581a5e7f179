-- The statements of methods fall into the blocks of the methods.
use Rattle.std.proofs.Common.{◌≡◌, ℕ, Bool, true, false, not, ◌&&◌, List, [], ◌∷◌, ◌++◌, codes, bytes_eq, Option, Some}
use Rattle.std.proofs.Common.{None, refl, sym, ap, ap₂, ◌∙◌}
use Rattle.std.specs.List.{list_all}
use Rattle.std.specs.Option.{option_map}
use Rattle.std.proofs.lemmas.Bool.{and_parts, and_from}
use Rattle.std.proofs.lemmas.Slice.Eq.{bytes_eq-Decides}
use Rattle.model.specs.Texts.Classes.{is_end_spelled, is_end, in_first_block, block_before, blocks_of}
use Rattle.model.specs.Texts.Methods.{Part, Saying, part, opens, saying_of, part_before, parts_by, parts_from}
use Rattle.model.specs.Texts.Mnemonics.{mnemonic_of}
use Rattle.model.specs.Texts.Statements.{Statement}
use Rattle.model.specs.Texts.Switches.{Switch, table, lookup}
use Rattle.disasm.specs.Statements.{end_words}

-- ---- what says something is no end

end_is : (words : List (List ℕ)) → is_end_spelled words ≡ true → words ≡ end_words
end_is [] e = absurd cc
end_is (word ∷ []) e = absurd (no_more (bytes_eq word (codes ".end")) e)
  where
    no_more : (b : Bool) → (b && false) ≡ true → ⊥
    no_more true e = cc
    no_more false e = cc
end_is (word ∷ next ∷ []) e =
    let parts = and_parts (bytes_eq word (codes ".end")) (bytes_eq next (codes "method")) e in
    ap₂ (λ a b. a ∷ b ∷ []) ((bytes_eq-Decides word (codes ".end")).0 parts.0)
    ((bytes_eq-Decides next (codes "method")).0 parts.1)
end_is (word ∷ next ∷ other ∷ words) e = absurd (no_more (bytes_eq word (codes ".end")) e)
  where
    no_more : (b : Bool) → (b && false) ≡ true → ⊥
    no_more true e = cc
    no_more false e = cc

end_says_nothing : (current : Option Switch) → saying_of current (Some end_words) ≡ None
unfolding mnemonic_of
end_says_nothing None = refl
end_says_nothing (Some (table low labels)) = refl
end_says_nothing (Some (lookup pairs)) = refl

end_says : (current : Option Switch) (s : Statement) → is_end s ≡ true → saying_of current s ≡ None
end_says current None e = absurd cc
end_says current (Some words) e = ap (λ ws. saying_of current (Some ws)) (end_is words e) ∙ end_says_nothing current

none_is_some : {A : Type 0} (a : A) → None ≡ Some a → ⊥
none_is_some a e = cc

before_said : (p : Part) (rest : Option (List Part)) (ps : List Part) → part_before p rest ≡ Some ps → (qs : List Part)
    × (rest ≡ Some qs)
before_said p None ps e = absurd (none_is_some ps e)
before_said p (Some qs) ps e = (qs, refl)

-- the parts of the rest
rest_said : (o : Option Saying) (rest : Option Switch → Option (List Part)) (ps : List Part) → parts_by o rest ≡ Some ps
    → (current : Option Switch) × (qs : List Part) × (rest current ≡ Some qs)
rest_said None rest ps e = absurd (none_is_some ps e)
rest_said (Some (part p)) rest ps e = let more = before_said p (rest None) ps e in (None, more.0, more.1)
rest_said (Some (opens switch)) rest ps e = (Some switch, ps, e)

not_end : (b : Bool) (o : Option Saying) (rest : Option Switch → Option (List Part)) (ps : List Part)
    → (b ≡ true → o ≡ None) → parts_by o rest ≡ Some ps → not b ≡ true
not_end false o rest ps none e = refl
not_end true o rest ps none e = absurd (none_is_some ps (sym (ap (λ x. parts_by x rest) (none refl)) ∙ e))

pub none_ends : (ss : List Statement) (current : Option Switch) (ps : List Part) → parts_from ss current ≡ Some ps
    → list_all (λ s. not (is_end s)) ss ≡ true
none_ends [] current ps e = refl
none_ends (s ∷ ss) current ps e =
    let more = rest_said (saying_of current s) (parts_from ss) ps e in
    and_from (not (is_end s)) (list_all (λ s. not (is_end s)) ss) (not_end (is_end s) (saying_of current s)
    (parts_from ss) ps (end_says current s) e) (none_ends ss more.0 more.1 more.2)

-- ---- blocks

block_step : (b : Bool) (s : Statement) (block : List Statement) (blocks : List (List Statement))
    (o : Option (List (List Statement))) → not b ≡ true → o ≡ Some (block ∷ blocks) → block_before b s o
    ≡ Some ((s ∷ block) ∷ blocks)
block_step true s block blocks o e f = absurd cc
block_step false s block blocks o e f = ap (in_first_block s) f

pub block_read : (ss rest : List Statement) (blocks : List (List Statement)) → list_all (λ s. not (is_end s)) ss ≡ true
    → blocks_of rest ≡ Some blocks → blocks_of (ss ++ (Some end_words ∷ rest)) ≡ Some (ss ∷ blocks)
block_read [] rest blocks e f = ap (option_map (λ bs. [] ∷ bs)) f
block_read (s ∷ ss) rest blocks e f =
    let parts = and_parts (not (is_end s)) (list_all (λ s. not (is_end s)) ss) e in
    block_step (is_end s) s ss blocks (blocks_of (ss ++ (Some end_words ∷ rest))) parts.0
    (block_read ss rest blocks parts.1 f)
