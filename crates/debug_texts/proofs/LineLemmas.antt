-- How a line grows, byte by byte.
use Rattle.std.proofs.Common.{◌≡◌, ◌≢◌, ◌⊎◌, inl, inr, ◌<◌, ◌≤◌, ◌+◌, ℕ, suc, Bool, true, false, List, [], ◌∷◌, ◌++◌, ◌∙◌, Option}
use Rattle.std.proofs.Common.{Some, None, not, nat_eq, length, take, refl, sym, ap, subst, arith, append_assoc, length-append}
use Rattle.std.proofs.Math.Dec.{eqb-suc-zero}
use Rattle.std.specs.Prelude.{IsSome}
use Rattle.std.specs.Io.KnownBytes.{Consumes, IsAtEnd, Keeps}
use Rattle.debug_texts.specs.Lines.{IsLine, ReadsLine}
use Rattle.debug_texts.specs.Streams.{Gives}
use Rattle.debug_texts.proofs.Kept.{kept_more}

pub consumes_none : (a : Option (List ℕ)) → Consumes a a []
consumes_none None = tt
consumes_none (Some xs) = refl

pub consumes_more : (a b c : Option (List ℕ)) (x y : List ℕ) → Consumes a b x → Consumes b c y → Consumes a c (x ++ y)
consumes_more None b c x y h k = tt
consumes_more (Some xs) None c x y h k = absurd h
consumes_more (Some xs) (Some ys) None x y h k = absurd k
consumes_more (Some xs) (Some ys) (Some zs) x y h k = h ∙ ap (λ bs. x ++ bs) k ∙ sym (append_assoc x y zs)

-- what keeps all consumes nothing more
pub consumes_kept : (a b c : Option (List ℕ)) (x : List ℕ) → Consumes a b x → Keeps b c → Consumes a c x
consumes_kept None b c x h k = tt
consumes_kept (Some xs) None c x h k = absurd h
consumes_kept (Some xs) (Some ys) None x h k = absurd k
consumes_kept (Some xs) (Some ys) (Some zs) x h k = h ∙ ap (λ bs. x ++ bs) (sym k)

pub line_more : (text : List ℕ) (b : ℕ) → IsLine text → b ≢ 10 → IsLine (text ++ b ∷ [])
line_more [] b h k = (k, tt)
line_more (x ∷ xs) b h k = (h.0, line_more xs b h.1 k)

-- what was read of a line, so far
abbrev pub Read : Option (List ℕ) → Option (List ℕ) → List ℕ → ℕ → ℕ → Type 0
Read before now line patience left =
    (text : List ℕ) × IsLine text × (line ≡ take 201 text) × Consumes before now text × (length text + left ≤ patience)

pub read_none : (a : Option (List ℕ)) (line : List ℕ) (p : ℕ) → line ≡ [] → Read a a line p p
read_none a line p e = ([], tt, e, consumes_none a, omega arith)

pub read_more : (a b c : Option (List ℕ)) (line : List ℕ) (o : Option ℕ) (x p q r : ℕ) → Read a b line p q → o ≡ Some x
    → Gives o b c → x ≢ 10 → (IsSome o → r < q) → Read a c (take 201 (line ++ x ∷ [])) p r
read_more a b c line o x p q r (text, is, kept, consumed, bound) some gives other ends =
    let E : Option ℕ → Type 0 = λ g. IsSome g → r < q in
    let less : r < q = subst E some ends refl in
    let G : Option ℕ → Type 0 = λ g. Gives g b c in
    let more : length (text ++ x ∷ []) ≡ length text + 1 = length-append text (x ∷ []) in (
      text ++ x ∷ [],
      line_more text x is other,
      ap (λ bs. take 201 (bs ++ x ∷ [])) kept ∙ kept_more 201 text (x ∷ []),
      consumes_more a b c text (x ∷ []) consumed (subst G some gives),
      omega (arith, more, bound, less),
    )

-- the line is whole
pub line_ends : (a b c : Option (List ℕ)) (line : List ℕ) (o : Option ℕ) (x p q : ℕ) → Read a b line p q → o ≡ Some x
    → Gives o b c → x ≡ 10 → (text : List ℕ) × IsLine text × (line ≡ take 201 text) × ReadsLine a c text
line_ends a b c line o x p q (text, is, kept, consumed, bound) some gives newline =
    let G : Option ℕ → Type 0 = λ g. Gives g b c in
    let N : ℕ → Type 0 = λ n. Consumes a c (text ++ n ∷ []) in
    (text, is, kept, inl (subst N newline (consumes_more a b c text (x ∷ []) consumed (subst G some gives))))

-- the source is at its end
pub last_line : (a b c : Option (List ℕ)) (line : List ℕ) (o : Option ℕ) (p q : ℕ) → Read a b line p q → o ≡ None
    → Gives o b c → (text : List ℕ) × IsLine text × (line ≡ take 201 text) × ReadsLine a c text
last_line a b c line o p q (text, is, kept, consumed, bound) none gives =
    let G : Option ℕ → Type 0 = λ g. Gives g b c in
    let end : Keeps b c × IsAtEnd c = subst G none gives in
    (text, is, kept, inr (consumes_kept a b c text consumed end.0, end.1))

empty_line : (text line : List ℕ) (e : Bool) → line ≡ take 201 text → e ≡ nat_eq (length line) 0 → not e ≡ true
    → 0 < length text
empty_line [] line e kept is h = cc (ap (λ (bs : List ℕ). nat_eq (length bs) 0) kept)
empty_line (x ∷ xs) line e kept is h = omega arith

pub some_was_read : (a b : Option (List ℕ)) (line : List ℕ) (p q r : ℕ) (e : Bool) → Read a b line p q
    → e ≡ nat_eq (length line) 0 → r ≤ q → not e ≡ true → r < p
some_was_read a b line p q r e (text, is, kept, consumed, bound) empty less h =
    let some = empty_line text line e kept empty h in omega (arith, some, bound, less)

no_line_of : (n : ℕ) (text line : List ℕ) (e : Bool) → line ≡ take (suc n) text → e ≡ nat_eq (length line) 0
    → not e ≡ false → text ≡ []
no_line_of n [] line e kept is h = refl
no_line_of n (x ∷ xs) line e kept is h =
    let none : e ≡ false = is ∙ ap (λ (bs : List ℕ). nat_eq (length bs) 0) kept
    ∙ eqb-suc-zero (length (take n xs)) in
    let some : not e ≡ true = ap not none in
    cc

no_line : (text line : List ℕ) (e : Bool) → line ≡ take 201 text → e ≡ nat_eq (length line) 0 → not e ≡ false
    → text ≡ []
no_line text line e kept is h = no_line_of 200 text line e kept is h

pub nothing_read : (a b c : Option (List ℕ)) (line : List ℕ) (o : Option ℕ) (p q : ℕ) (e : Bool) → Read a b line p q
    → o ≡ None → Gives o b c → e ≡ nat_eq (length line) 0 → not e ≡ false → Consumes a c [] × IsAtEnd c
nothing_read a b c line o p q e (text, is, kept, consumed, bound) none gives empty h =
    let G : Option ℕ → Type 0 = λ g. Gives g b c in
    let end : Keeps b c × IsAtEnd c = subst G none gives in
    let C : List ℕ → Type 0 = λ bs. Consumes a c bs in
    (subst C (no_line text line e kept empty h) (consumes_kept a b c text consumed end.0), end.1)

pub part_read : (a b c : Option (List ℕ)) (line : List ℕ) (p q : ℕ) → Read a b line p q → Keeps b c
    → (text : List ℕ) × IsLine text × Consumes a c text
part_read a b c line p q (text, is, kept, consumed, bound) k = (text, is, consumes_kept a b c text consumed k)
