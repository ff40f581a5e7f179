-- Readers of words and numbers: what is printed is read back, and what is read was printed.
use Rattle.std.proofs.Common.{◌≡◌, ◌≢◌, ℕ, suc, ◌+◌, ◌<◌, ◌^◌, ◌==◌, ◌&&◌, Bool, true, false, not, nat_lt, cond, List}
use Rattle.std.proofs.Common.{[], ◌∷◌, ◌++◌, length, take, drop, Option, Some, None, option_map, option_and_then}
use Rattle.std.proofs.Common.{IfSome, decimal, bytes_eq, refl, sym, ap, ◌∙◌, arith, lt-ltb, ltb-true, eq-eqb, eqb-true}
use Rattle.std.proofs.Common.{ne_eqb, if◌then◌else◌}
use Rattle.std.proofs.lemmas.Bool.{and_parts}
use Rattle.std.proofs.lemmas.Fmt.{decimal_is_IsNumeral}
use Rattle.std.proofs.lemmas.List.{append_assoc, take_at, drop_at, take-append-drop}
use Rattle.std.proofs.lemmas.Slice.Eq.{bytes_eq-Decides}
use Rattle.std.proofs.lemmas.Str.Parse.{digit_from_value}
use Rattle.std.specs.List.{position_or_len}
use Rattle.std.specs.Str.Parse.{AllDigits, digits_value}
use Rattle.model.specs.JournalTexts.{number_text}
use Rattle.journal_texts.specs.JournalReading.{Read, both, kept, shaped, following, led, number_of, number_then}
use Rattle.journal_texts.specs.JournalReading.{number_at}

-- what was read is what a text begins with
abbrev pub IsRead : {A : Type 0} → (A → List ℕ) → (A → Type 0) → List ℕ → A × List ℕ → Type 0
IsRead print fits text r = (text ≡ print r.0 ++ r.1) × fits r.0

-- a reader reads what a printer prints of the things that fit, and nothing else
pub record Reads {A : Type 0} (print : A → List ℕ) (fits : A → Type 0) (read : List ℕ → Read A) : Type 0 where
  pub back : (a : A) (rest : List ℕ) → fits a → read (print a ++ rest) ≡ Some (a, rest)
  pub says : (text : List ℕ) → IfSome (read text) (IsRead print fits text)

-- ---- one thing after another

module _ {A B : Type 0} {p : A → List ℕ} {P : A → Type 0} {f : List ℕ → Read A} {q : B → List ℕ} {Q : B
    → Type 0} {g : List ℕ → Read B} (F : Reads p P f) (G : Reads q Q g) where
  abbrev Says : List ℕ → Read (A × B) → Type 0
  Says text o = IfSome o (IsRead (λ (r : A × B). p r.0 ++ q r.1) (λ (r : A × B). P r.0 × Q r.1) text)

  says_second : (text : List ℕ) (a : A × List ℕ) → IsRead p P text a → (o : Read B) → IfSome o (IsRead q Q a.1)
      → Says text (option_map (λ b. ((a.0, b.0), b.1)) o)
  says_second text a h None k = tt
  says_second text a h (Some b) k = (
    h.0 ∙ ap (λ l. p a.0 ++ l) k.0 ∙ sym (append_assoc (p a.0) (q b.0) b.1),
    (h.1, k.1),
  )

  says_first : (text : List ℕ) (o : Read A) → IfSome o (IsRead p P text)
      → Says text (option_and_then (λ a. option_map (λ b. ((a.0, b.0), b.1)) (g a.1)) o)
  says_first text None h = tt
  says_first text (Some a) h = says_second text a h (g a.1) (G.says a.1)

  pub reads_both : Reads (λ (r : A × B). p r.0 ++ q r.1) (λ (r : A × B). P r.0 × Q r.1) (both f g)
  reads_both = record {
    back = λ r rest fits.
        ap (both f g) (append_assoc (p r.0) (q r.1) rest)
        ∙ ap (λ o. option_and_then (λ a. option_map (λ b. ((a.0, b.0), b.1)) (g a.1)) o)
        (F.back r.0 (q r.1 ++ rest) fits.0)
        ∙ ap (λ o. option_map (λ b. ((r.0, b.0), b.1)) o) (G.back r.1 rest fits.1);
    says = λ text. says_first text (f text) (F.says text);
  }

-- ---- other things read in the same way

module _ {A : Type 0} {p : A → List ℕ} {P : A → Type 0} {f : List ℕ → Read A} (F : Reads p P f) where
  -- a thing that stands for another
  pub reads_shaped : {B : Type 0} (to : A → B) (from : B → A) → ((b : B) → to (from b) ≡ b)
      → ((a : A) → from (to a) ≡ a) → Reads (λ b. p (from b)) (λ b. P (from b)) (shaped to f)
  reads_shaped {B} to from there and_back = record {
    back = λ b rest fits. ap (λ o. option_map (λ a. (to a.0, a.1)) o) (F.back (from b) rest fits)
        ∙ ap (λ c. Some (c, rest)) (there b);
    says = λ text. says_shaped text (f text) (F.says text);
  }
    where
      says_shaped : (text : List ℕ) (o : Read A) → IfSome o (IsRead p P text)
          → IfSome (option_map (λ a. (to a.0, a.1)) o) (IsRead (λ b. p (from b)) (λ b. P (from b)) text)
      says_shaped text None h = tt
      says_shaped text (Some a) h = rw (and_back a.0) h

  -- a thing of which a test is true
  pub reads_kept : (test : A → Bool) (Q : A → Type 0) → ((a : A) → Q a → test a ≡ true)
      → ((a : A) → test a ≡ true → Q a) → Reads p (λ a. P a × Q a) (kept test f)
  reads_kept test Q passes tells = record {
    back = λ a rest fits. ap (λ o. option_and_then (λ a. if test a.0 then Some a else None) o) (F.back a rest fits.0)
        ∙ ap (λ b. if b then Some (a, rest) else None) (passes a fits.1);
    says = λ text. says_kept text (f text) (F.says text);
  }
    where
      by_test : (text : List ℕ) (a : A × List ℕ) → IsRead p P text a → (b : Bool) → test a.0 ≡ b
          → IfSome (if b then Some a else None) (IsRead p (λ a. P a × Q a) text)
      by_test text a h true e = (h.0, (h.1, tells a.0 e))
      by_test text a h false e = tt

      says_kept : (text : List ℕ) (o : Read A) → IfSome o (IsRead p P text)
          → IfSome (option_and_then (λ a. if test a.0 then Some a else None) o) (IsRead p (λ a. P a × Q a) text)
      says_kept text None h = tt
      says_kept text (Some a) h = by_test text a h (test a.0) refl

  -- a printer that prints the same, of what is said in other words
  pub reads_same : (q : A → List ℕ) (Q : A → Type 0) → ((a : A) → q a ≡ p a) → ((a : A) → Q a → P a)
      → ((a : A) → P a → Q a) → Reads q Q f
  reads_same q Q same to from = record {
    back = λ a rest fits. ap (λ l. f (l ++ rest)) (same a) ∙ F.back a rest (to a fits);
    says = λ text. says_same text (f text) (F.says text);
  }
    where
      says_same : (text : List ℕ) (o : Read A) → IfSome o (IsRead p P text) → IfSome o (IsRead q Q text)
      says_same text None h = tt
      says_same text (Some a) h = (h.0 ∙ ap (λ l. l ++ a.1) (sym (same a.0)), from a.0 h.1)

-- ---- words

pub after_back : (word rest : List ℕ) → following word (word ++ rest) ≡ Some rest
after_back word rest =
    let same = (bytes_eq-Decides word word).1 refl in
    rw (take_at word rest (length word) refl, same, drop_at word rest (length word) refl) refl

pub after_says : (word text : List ℕ) → IfSome (following word text) (λ rest. text ≡ word ++ rest)
after_says word text = by (bytes_eq (take (length word) text) word) refl
  where
    by : (b : Bool) → bytes_eq (take (length word) text) word ≡ b → IfSome (if b then Some (drop (length word) text)
        else None) (λ rest. text ≡ word ++ rest)
    by true e = sym (take-append-drop (length word) text)
        ∙ ap (λ w. w ++ drop (length word) text) ((bytes_eq-Decides (take (length word) text) word).0 e)
    by false e = tt

module _ {A : Type 0} {p : A → List ℕ} {P : A → Type 0} {f : List ℕ → Read A} (word : List ℕ) (F : Reads p P f) where
  says_led : (text : List ℕ) (o : Option (List ℕ)) → IfSome o (λ rest. text ≡ word ++ rest)
      → IfSome (option_and_then f o) (IsRead (λ a. word ++ p a) P text)
  says_led text None h = tt
  says_led text (Some rest) h = under (f rest) (F.says rest)
    where
      under : (o : Read A) → IfSome o (IsRead p P rest) → IfSome o (IsRead (λ a. word ++ p a) P text)
      under None k = tt
      under (Some a) k = (h ∙ ap (λ l. word ++ l) k.0 ∙ sym (append_assoc word (p a.0) a.1), k.1)

  -- a thing after a word
  pub reads_led : Reads (λ a. word ++ p a) P (led word f)
  reads_led = record {
    back = λ a rest fits.
        ap (led word f) (append_assoc word (p a) rest)
        ∙ ap (λ o. option_and_then f o) (after_back word (p a ++ rest))
        ∙ F.back a rest fits;
    says = λ text. says_led text (following word text) (after_says word text);
  }

-- ---- numbers

-- a word is the text of a number
abbrev pub Prints : List ℕ → ℕ → Type 0
Prints word n = (word ≡ decimal n) × (n < 2 ^ 32)

pub number_back : (n : ℕ) → n < 2 ^ 32 → number_of (decimal n) ≡ Some n
number_back n small =
    let value = (decimal_is_IsNumeral n (omega (arith, small))).1 in
    let same = (bytes_eq-Decides (decimal n) (decimal n)).1 refl in
    rw (value, same, lt-ltb n (2 ^ 32) small) refl

pub number_says : (word : List ℕ) → IfSome (number_of word) (Prints word)
number_says word = by (bytes_eq (decimal (digits_value 10 word)) word && nat_lt (digits_value 10 word) (2 ^ 32)) refl
  where
    by : (b : Bool) → (bytes_eq (decimal (digits_value 10 word)) word && nat_lt (digits_value 10 word) (2 ^ 32)) ≡ b
        → IfSome (if b then Some (digits_value 10 word) else None) (Prints word)
    by true e =
        let parts = and_parts (bytes_eq (decimal (digits_value 10 word)) word) (nat_lt (digits_value 10 word) (2 ^ 32))
        e in (
          sym ((bytes_eq-Decides (decimal (digits_value 10 word)) word).0 parts.0),
          ltb-true (digits_value 10 word) (2 ^ 32) parts.1,
        )
    by false e = tt

-- a word that no number prints is none
pub no_number : (word : List ℕ) → ((n : ℕ) → n < 2 ^ 32 → word ≢ decimal n) → number_of word ≡ None
no_number word none = by (number_of word) (number_says word)
  where
    by : (o : Option ℕ) → IfSome o (Prints word) → o ≡ None
    by None h = refl
    by (Some n) h = absurd (none n h.1 h.0)

module _ (end : ℕ) (no_digit : end < 48) where
  -- digits go on to the first byte that is none
  digits_end : (ds rest : List ℕ) → AllDigits 10 ds → position_or_len (λ b. b == end) (ds ++ end ∷ rest) ≡ length ds
  digits_end [] rest h = rw (eq-eqb end end refl) refl
  digits_end (d ∷ ds) rest h =
      let digit = digit_from_value d h.0 in
      rw (ne_eqb d end (λ e. omega (arith, e, digit.0)), digits_end ds rest h.1) (omega arith)

  -- a word's end is that byte
  abbrev Ends : List ℕ → Type 0
  Ends [] = Unit {0}
  Ends (b ∷ bs) = b ≡ end

  word_ends : (text : List ℕ) → Ends (drop (position_or_len (λ b. b == end) text) text)
  word_ends [] = tt
  word_ends (b ∷ bs) = by (b == end) refl (word_ends bs)
    where
      by : (t : Bool) → (b == end) ≡ t → Ends (drop (position_or_len (λ b. b == end) bs) bs)
          → Ends (drop (cond (not t) (1 + position_or_len (λ b. b == end) bs) 0) (b ∷ bs))
      by true e rest = eqb-true b end e
      by false e rest = let step : 1 + position_or_len (λ b. b == end) bs
          ≡ suc (position_or_len (λ b. b == end) bs) = omega arith in rw step rest

  says_number : (text word tail : List ℕ) → text ≡ word ++ tail → Ends tail
      → IfSome (number_then word tail) (IsRead (λ n. number_text n end) (λ n. n < 2 ^ 32) text)
  says_number text word [] cut e = tt
  says_number text word (b ∷ rest) cut e = by (number_of word) (number_says word)
    where
      by : (o : Option ℕ) → IfSome o (Prints word)
          → IfSome (option_map (λ n. (n, rest)) o) (IsRead (λ n. number_text n end) (λ n. n < 2 ^ 32) text)
      by None h = tt
      by (Some n) h = (
        cut ∙ ap (λ w. w ++ b ∷ rest) h.0 ∙ ap (λ c. decimal n ++ c ∷ rest) e
            ∙ sym (append_assoc (decimal n) (end ∷ []) rest),
        h.1,
      )

  pub reads_number : Reads (λ n. number_text n end) (λ n. n < 2 ^ 32) (number_at end)
  reads_number = record {
    back = λ n rest small.
        let digits = (decimal_is_IsNumeral n (omega (arith, small))).0.1 in
        let cut = digits_end (decimal n) rest digits in
        ap (number_at end) (append_assoc (decimal n) (end ∷ []) rest)
        ∙ rw (
          cut,
          take_at (decimal n) (end ∷ rest) (length (decimal n)) refl,
          drop_at (decimal n) (end ∷ rest) (length (decimal n)) refl,
        ) (ap (λ o. option_map (λ n. (n, rest)) o)
        (number_back n small));
    says = λ text. let n = position_or_len (λ b. b == end) text
        in says_number text (take n text) (drop n text) (sym (take-append-drop n text))
        (word_ends text);
  }
