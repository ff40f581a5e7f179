-- Statements that begin with one directive, and what each of them says.
use Rattle.std.proofs.Common.{◌≡◌, ℕ, true, false, List, [], ◌∷◌, ◌++◌, refl, sym, Some, None, Option, append_assoc}
use Rattle.std.proofs.Common.{append-nil}
use Rattle.std.specs.Option.{option_map}
use Rattle.std.specs.Prelude.{MatchOption}
use Rattle.jasmin_words.specs.declared.statements.Statement.{Statement as Held}
use Rattle.jasmin.specs.Statements.{ahead}
use Rattle.model.specs.Texts.Classes.{each, said_before, begins_otherwise, led_by, after_led}
use Rattle.model.specs.Texts.Statements.{Statement}

-- the statements that are left, by what was read of them
pub ahead_is : (found : Option Held) (before after : List Statement)
    → MatchOption found ((before ≡ []) × (after ≡ [])) (λ s. before ≡ Some (s.first.now ∷ s.operands) ∷ after)
    → ahead found after ≡ before
ahead_is None before after h = sym h.0
ahead_is (Some s) before after h = sym h

-- what statements with a word say, after what was said so far
pub said_with : {A : Type 0} → List ℕ → (Statement → Option A) → List A → List Statement → Option (List A)
said_with word said xs ss = option_map (λ more. xs ++ more) (each said (led_by word ss))

pub said_start : {A : Type 0} (word : List ℕ) (said : Statement → Option A) (ss : List Statement)
    → said_with word said [] ss ≡ each said (led_by word ss)
unfolding said_with
said_start {A} word said ss = by (each said (led_by word ss))
  where
    by : (o : Option (List A)) → option_map (λ more. [] ++ more) o ≡ o
    by None = refl
    by (Some more) = refl

pub said_end : {A : Type 0} (word : List ℕ) (said : Statement → Option A) (xs : List A) → said_with word said xs []
    ≡ Some xs
unfolding said_with
said_end word said xs = simp append-nil refl

pub said_stop : {A : Type 0} (word : List ℕ) (said : Statement → Option A) (xs : List A) (s : Statement)
    (ss : List Statement) → begins_otherwise word s ≡ true → said_with word said xs (s ∷ ss) ≡ Some xs
unfolding said_with
said_stop word said xs s ss h = rw h (simp append-nil refl)

pub said_step : {A : Type 0} (word : List ℕ) (said : Statement → Option A) (xs : List A) (s : Statement)
    (ss : List Statement) (x : A) → begins_otherwise word s ≡ false → said s ≡ Some x
    → said_with word said xs (s ∷ ss) ≡ said_with word said (xs ++ x ∷ []) ss
unfolding said_with
said_step {A} word said xs s ss x h e = rw (h, e) (by (each said (led_by word ss)))
  where
    by : (o : Option (List A)) → option_map (λ more. xs ++ more) (said_before (Some x) o)
        ≡ option_map (λ more. (xs ++ x ∷ []) ++ more) o
    by None = refl
    by (Some more) = rw append_assoc refl

pub said_wrong : {A : Type 0} (word : List ℕ) (said : Statement → Option A) (xs : List A) (s : Statement)
    (ss : List Statement) → begins_otherwise word s ≡ false → said s ≡ None → said_with word said xs (s ∷ ss) ≡ None
unfolding said_with
said_wrong word said xs s ss h e = rw (h, e) refl

pub said_unread : {A : Type 0} (word : List ℕ) (said : Statement → Option A) (xs : List A) (before ss : List Statement)
    → said None ≡ None → before ≡ None ∷ ss → said_with word said xs before ≡ None
unfolding said_with
said_unread word said xs before ss h e = rw (e, h) refl

pub after_stop : (word : List ℕ) (s : Statement) (ss : List Statement) → begins_otherwise word s ≡ true
    → after_led word (s ∷ ss) ≡ s ∷ ss
after_stop word s ss h = rw h refl

pub following_step : (word : List ℕ) (s : Statement) (ss : List Statement) → begins_otherwise word s ≡ false
    → after_led word (s ∷ ss) ≡ after_led word ss
following_step word s ss h = rw h refl

pub ruleset declarations = (said_start, said_end, said_stop, said_step, said_wrong, after_stop, following_step)
