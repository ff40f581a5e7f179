-- the births among values
use Rattle.std.proofs.Common.{◌≡◌, ℕ, ◌+◌, ◌<◌, List, [], ◌∷◌, ◌++◌, length, take, get_or, slice_set, append-nil, Some}
use Rattle.std.proofs.Common.{None, refl, ap, sym, ◌∙◌}
use Rattle.std.proofs.lemmas.List.{take_more, take_more_set}
use Rattle.model.specs.declared.values.Value.{Value}
use Rattle.model.specs.declared.values.Value.TheVariants.{Int, Long, Ref}
use Rattle.model.specs.Values.{births_of}

pub births_of-append : (vs ws : List Value) → births_of (vs ++ ws) ≡ births_of vs ++ births_of ws
births_of-append [] ws = refl
births_of-append (Int z ∷ vs) ws = births_of-append vs ws
births_of-append (Long z ∷ vs) ws = births_of-append vs ws
births_of-append (Ref None ∷ vs) ws = births_of-append vs ws
births_of-append (Ref (Some b) ∷ vs) ws = ap (λ (bs : List ℕ). b ∷ bs) (births_of-append vs ws)

-- so far the births among the first i values stand at the front of a list, k of them; one value more is a birth, or is
-- none
pub births_of-next : (vs : List Value) (i : ℕ) (d : Value) (bs : List ℕ) (k b : ℕ) → i < length vs → k < length bs
    → take k bs ≡ births_of (take i vs) → births_of (get_or vs i d ∷ []) ≡ b ∷ [] → take (k + 1) (slice_set bs k b)
    ≡ births_of (take (i + 1) vs)
births_of-next vs i d bs k b within room so_far is =
    take_more_set bs k b room ∙ (ap (λ (l : List ℕ). l ++ b ∷ []) so_far
    ∙ (ap (λ (l : List ℕ). births_of (take i vs) ++ l) (sym is)
    ∙ (sym (births_of-append (take i vs) (get_or vs i d ∷ [])) ∙ sym (ap births_of (take_more vs i d within)))))

pub births_of-skip : (vs : List Value) (i : ℕ) (d : Value) (bs : List ℕ) → i < length vs → bs ≡ births_of (take i vs)
    → births_of (get_or vs i d ∷ []) ≡ [] → bs ≡ births_of (take (i + 1) vs)
births_of-skip vs i d bs within so_far is =
    so_far ∙ (sym (append-nil (births_of (take i vs))) ∙ (ap (λ (l : List ℕ). births_of (take i vs) ++ l) (sym is)
    ∙ (sym (births_of-append (take i vs) (get_or vs i d ∷ [])) ∙ sym (ap births_of (take_more vs i d within)))))

pub ruleset births = (births_of-next, births_of-skip)
