-- The end line is reported from all other texts.
use Rattle.std.proofs.Common.{◌≡◌, ℕ, List, [], ◌∷◌, ◌++◌, codes, Some, None, IfSome, decimal, sym, ap, subst, ◌∙◌}
use Rattle.model.specs.JournalTexts.{number_text, end_line}
use Rattle.journal_texts.specs.JournalReading.{following}
use Rattle.journal_texts.proofs.JournalReading.Readers.{after_back, after_says}

module _ (text : List ℕ) (n : ℕ) where
  -- what stands after the word of an end line, and after its number
  word_after : text ≡ end_line n → following (codes "end ") text ≡ Some (number_text n 10)
  word_after is = ap (following (codes "end ")) is ∙ after_back (codes "end ") (number_text n 10)

  pub no_word : following (codes "end ") text ≡ None → ¬ (text ≡ end_line n)
  no_word none is = let e = sym none ∙ word_after is in cc

  module _ (rest : List ℕ) (led : following (codes "end ") text ≡ Some rest) where
    rest_is : text ≡ end_line n → rest ≡ number_text n 10
    rest_is is = let e = sym led ∙ word_after is in cc

    number_after : text ≡ end_line n → following (decimal n) rest ≡ Some (10 ∷ [])
    number_after is = ap (following (decimal n)) (rest_is is) ∙ after_back (decimal n) (10 ∷ [])

    pub no_number : following (decimal n) rest ≡ None → ¬ (text ≡ end_line n)
    no_number none is = let e = sym none ∙ number_after is in cc

    module _ (last : List ℕ) (counted : following (decimal n) rest ≡ Some last) where
      pub last_is : text ≡ end_line n → last ≡ 10 ∷ []
      last_is is = let e = sym counted ∙ number_after is in cc

      pub is_end : last ≡ 10 ∷ [] → text ≡ end_line n
      is_end e =
          let word : text ≡ codes "end " ++ rest = subst (λ o. IfSome o (λ r. text ≡ codes "end " ++ r)) led
          (after_says (codes "end ") text) in
          let number : rest ≡ decimal n ++ last = subst (λ o. IfSome o (λ r. rest ≡ decimal n ++ r)) counted
          (after_says (decimal n) rest) in
          word ∙ ap (λ r. codes "end " ++ r) (number ∙ ap (λ l. decimal n ++ l) e)
