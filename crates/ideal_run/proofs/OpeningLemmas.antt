-- the objects of the opening world, one after another
use Rattle.std.proofs.Common.{◌≡◌, List, [], ◌∷◌, ◌++◌, ap, ◌∙◌}
use Rattle.model.specs.Worlds.{Object}

pub in_turn : (a b c : Object) (none one two all : List Object) → none ≡ [] → one ≡ none ++ a ∷ [] → two ≡ one ++ b ∷ []
    → all ≡ two ++ c ∷ [] → all ≡ a ∷ b ∷ c ∷ []
in_turn a b c none one two all is one-is two-is all-is =
    all-is ∙ ap (λ (l : List Object). l ++ c ∷ []) (two-is ∙ ap (λ (l : List Object). l ++ b ∷ []) (one-is
    ∙ ap (λ (l : List Object). l ++ a ∷ []) is))

pub ruleset three = (in_turn)
