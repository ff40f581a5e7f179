-- Bytes that are written one after another.
use Rattle.std.proofs.Common.{◌≡◌, ℕ, List, [], ◌∷◌, ◌++◌, ◌∙◌, ◌<◌, ◌≤◌, ◌+◌, Bor, Option, Some, None, add-one, drop, length, refl, slice_index_or, subst, sym, take, ap}
use Rattle.std.proofs.lemmas.List.{append-nil, append_assoc, take-append-drop}
use Rattle.std.proofs.Math.Seq.{drop-cons}
use Rattle.std.specs.List.{flat_map}
use Rattle.std.specs.Io.KnownBytes.{Appends, Keeps}
use Rattle.debug_texts.specs.Streams.{AppendsPart}

pub appends_none : (a : Option (List ℕ)) → Appends a a []
appends_none None = tt
appends_none (Some xs) = sym (append-nil xs)

pub appends_more : (a b c : Option (List ℕ)) (x y : List ℕ) → Appends a b x → Appends b c y → Appends a c (x ++ y)
appends_more None b c x y h k = tt
appends_more (Some xs) None c x y h k = absurd h
appends_more (Some xs) (Some ys) None x y h k = absurd k
appends_more (Some xs) (Some ys) (Some zs) x y h k = k ∙ ap (λ bs. bs ++ y) h ∙ append_assoc xs x y

-- all of some bytes, and a beginning of others
pub part_after : (a b c : Option (List ℕ)) (x y : List ℕ) → Appends a b x → AppendsPart b c y → AppendsPart a c (x ++ y)
part_after a b c x y h (part, rest, is, k) =
    (x ++ part, rest, ap (λ bs. x ++ bs) is ∙ sym (append_assoc x part rest), appends_more a b c x part h k)

-- a beginning of some bytes begins them with others after them
pub part_before : (a b : Option (List ℕ)) (y z : List ℕ) → AppendsPart a b y → AppendsPart a b (y ++ z)
part_before a b y z (part, rest, is, h) =
    (part, rest ++ z, ap (λ bs. bs ++ z) is ∙ append_assoc part rest z, h)

-- as part of the whole
pub part_within : (a b c : Option (List ℕ)) (x y z whole : List ℕ) → Appends a b x → AppendsPart b c y
    → x ++ (y ++ z) ≡ whole → AppendsPart a c whole
part_within a b c x y z whole h k is =
    let P : List ℕ → Type 0 = λ bs. AppendsPart a c bs in
    subst P (append_assoc x y z ∙ is) (part_before a c (x ++ y) z (part_after a b c x y h k))

-- ---- pieces that are left

abbrev pub text_of : Bor (List ℕ) → List ℕ
text_of piece = piece.now

pub first_left : (pieces : List (Bor (List ℕ))) (i : ℕ) (d : Bor (List ℕ)) → i < length pieces
    → flat_map text_of (drop i pieces) ≡ (slice_index_or pieces i d).now ++ flat_map text_of (drop (i + 1) pieces)
first_left pieces i d h = rw (add-one, drop-cons pieces i d h) refl

-- what was written of some pieces, and those that are left
abbrev pub Written : Option (List ℕ) → Option (List ℕ) → List (Bor (List ℕ)) → ℕ → Type 0
Written a b pieces i = (done : List ℕ) × Appends a b done × (done ++ flat_map text_of (drop i pieces)
    ≡ flat_map text_of pieces)

pub piece_more : (a b c : Option (List ℕ)) (pieces : List (Bor (List ℕ))) (i : ℕ) (d : Bor (List ℕ)) → i < length pieces
    → Written a b pieces i → Appends b c (slice_index_or pieces i d).now → Written a c pieces (i + 1)
piece_more a b c pieces i d h (done, written, all) k = (
  done ++ (slice_index_or pieces i d).now,
  appends_more a b c done (slice_index_or pieces i d).now written k,
  append_assoc done (slice_index_or pieces i d).now (flat_map text_of (drop (i + 1) pieces))
      ∙ ap (λ (bs : List ℕ). done ++ bs) (sym (first_left pieces i d h)) ∙ all,
)

pub piece_part : (a b c : Option (List ℕ)) (pieces : List (Bor (List ℕ))) (i : ℕ) (d : Bor (List ℕ)) → i < length pieces
    → Written a b pieces i → AppendsPart b c (slice_index_or pieces i d).now
    → AppendsPart a c (flat_map text_of pieces)
piece_part a b c pieces i d h (done, written, all) k =
    part_within a b c done (slice_index_or pieces i d).now (flat_map text_of (drop (i + 1) pieces))
    (flat_map text_of pieces) written k (ap (λ (bs : List ℕ). done ++ bs) (sym (first_left pieces i d h)) ∙ all)

-- what was written of some bytes, and the rest
abbrev pub Put : Option (List ℕ) → Option (List ℕ) → List ℕ → List ℕ → Type 0
Put a b rest whole = (done : List ℕ) × Appends a b done × (done ++ rest ≡ whole)

pub put_more : (a b c : Option (List ℕ)) (rest whole : List ℕ) (n : ℕ) → Put a b rest whole
    → Appends b c (take n rest) → Put a c (drop n rest) whole
put_more a b c rest whole n (done, written, all) k = (
  done ++ take n rest,
  appends_more a b c done (take n rest) written k,
  append_assoc done (take n rest) (drop n rest)
      ∙ ap (λ (bs : List ℕ). done ++ bs) (take-append-drop n rest) ∙ all,
)

-- what is kept grows by nothing
pub keeps_all : (a b : Option (List ℕ)) → Keeps a b → Appends a b []
keeps_all None b h = tt
keeps_all (Some xs) None h = absurd h
keeps_all (Some xs) (Some ys) h = h ∙ sym (append-nil xs)

-- all of it is a beginning of it
pub whole_part : (a b : Option (List ℕ)) (x : List ℕ) → Appends a b x → AppendsPart a b x
whole_part a b x h = (x, [], sym (append-nil x), h)

-- and nothing goes after it
pub part_kept : (a b c : Option (List ℕ)) (x : List ℕ) → Appends a b x → Keeps b c → Appends a c x
part_kept None b c x h k = tt
part_kept (Some xs) None c x h k = absurd h
part_kept (Some xs) (Some ys) None x h k = absurd k
part_kept (Some xs) (Some ys) (Some zs) x h k = k ∙ h
