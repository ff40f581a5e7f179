-- The rows of a journal's text are read back, and no others.
use Rattle.std.proofs.Common.{◌≡◌, ◌≢◌, ℕ, suc, ◌<◌, ◌^◌, ◌==◌, Bool, true, false, nat_lt, List, [], ◌∷◌, ◌++◌, length}
use Rattle.std.proofs.Common.{length-append, drop, All, codes, Option, Some, None, option_map, IfSome, decimal, refl}
use Rattle.std.proofs.Common.{sym, ap, ◌∙◌, subst, arith, lt-ltb, ltb-true, eqb-true, if◌then◌else◌}
use Rattle.std.proofs.lemmas.Fmt.{decimal_is_IsNumeral}
use Rattle.std.proofs.lemmas.List.{append_assoc, append-nil}
use Rattle.std.proofs.lemmas.Str.Parse.{digit_from_value}
use Rattle.std.proofs.lemmas.Bool.Decides.{Decides-eqb}
use Rattle.std.proofs.lemmas.Slice.Eq.{starts_is}
use Rattle.std.specs.Str.Parse.{AllDigits}
use Rattle.model.specs.declared.journals.Outcome.{Outcome}
use Rattle.model.specs.declared.journals.Outcome.TheVariants.{Done, Object, NoRoom, Fault}
use Rattle.model.specs.declared.journals.Row.{Row}
use Rattle.model.specs.declared.turns.Actor.{Actor}
use Rattle.model.specs.declared.turns.Actor.TheVariants.{Thread, Collector}
use Rattle.model.specs.JournalTexts.{outcome_letter, actor_word, number_text, lines_of_rows, end_line}
use Rattle.journal_texts.specs.declared.heads.Version.{Version}
use Rattle.journal_texts.specs.declared.heads.Version.TheVariants.{One, Two}
use Rattle.journal_texts.specs.JournalReading.{Read, FitsActor, FitsRow, FitsVersion, HasRows, kept, shaped, following}
use Rattle.journal_texts.specs.JournalReading.{number_at, actor_else, actor_at, outcome_at, worker_at, row_of, row_at}
use Rattle.journal_texts.specs.JournalReading.{is_over, line_by}
use Rattle.journal_texts.proofs.JournalReading.Readers.{IsRead, Reads, reads_both, reads_kept, reads_shaped, reads_same}
use Rattle.journal_texts.proofs.JournalReading.Readers.{reads_led, reads_number, after_back, after_says}

-- ---- actors

reads_thread : Reads (λ t. number_text t 32) (λ t. (t < 2 ^ 32) × (t < 256)) (kept (λ n. nat_lt n 256) (number_at 32))
reads_thread = reads_kept (reads_number 32 (omega arith)) (λ n. nat_lt n 256) (λ n. n < 256) (λ n h. lt-ltb n 256 h)
    (λ n e. ltb-true n 256 e)

abbrev pub actor_text : Actor → List ℕ
actor_text actor = actor_word actor ++ 32 ∷ []

digit_first : (ds x more : List ℕ) (c : ℕ) → 0 < length ds → AllDigits 10 ds → ds ++ x ≡ c ∷ more → c < 58
digit_first [] x more c some digits e = absurd (omega (arith, some))
digit_first (d ∷ ds) x more c some digits e = let same : d ≡ c = cc in omega (arith, same, digit_from_value d digits.0)

-- a thread's number begins with a digit
digit_begins : (t : ℕ) (x more : List ℕ) (c : ℕ) → t < 256 → decimal t ++ x ≡ c ∷ more → c < 58
digit_begins t x more c small e = let numeral = (decimal_is_IsNumeral t (omega (arith, small))).0
    in digit_first (decimal t) x more c numeral.0 numeral.1 e

module _ (t : ℕ) (rest : List ℕ) (fits : t < 256) where
  thread_back : shaped Thread (kept (λ n. nat_lt n 256) (number_at 32)) (number_text t 32 ++ rest)
      ≡ Some (Thread t, rest)
  thread_back = ap (λ o. option_map (λ a. (Thread a.0, a.1)) o) (reads_thread.back t rest (omega (arith, fits), fits))

  no_collector : (o : Option (List ℕ)) → IfSome o (λ more. number_text t 32 ++ rest ≡ codes "c " ++ more)
      → actor_else o (shaped Thread (kept (λ n. nat_lt n 256) (number_at 32)) (number_text t 32 ++ rest))
      ≡ Some (Thread t, rest)
  no_collector None h = thread_back
  no_collector (Some more) h = absurd
      (omega (
        arith,
        digit_begins t (32 ∷ rest) (32 ∷ more) 99 fits (sym (append_assoc (decimal t) (32 ∷ []) rest)
            ∙ h),
      ))

actor_back : (actor : Actor) (rest : List ℕ) → FitsActor actor → actor_at (actor_text actor ++ rest)
    ≡ Some (actor, rest)
actor_back Collector rest fits = ap
    (λ o. actor_else o (shaped Thread (kept (λ n. nat_lt n 256) (number_at 32)) (actor_text Collector ++ rest)))
    (after_back (codes "c ") rest)
actor_back (Thread t) rest fits = no_collector t rest fits (following (codes "c ") (number_text t 32 ++ rest))
    (after_says (codes "c ") (number_text t 32 ++ rest))

thread_says : (text : List ℕ) (o : Read ℕ)
    → IfSome o (IsRead (λ t. number_text t 32) (λ t. (t < 2 ^ 32) × (t < 256)) text)
    → IfSome (option_map (λ a. (Thread a.0, a.1)) o) (IsRead actor_text FitsActor text)
thread_says text None h = tt
thread_says text (Some a) h = (h.0, h.1.1)

actor_says : (text : List ℕ) (o : Option (List ℕ)) → IfSome o (λ rest. text ≡ codes "c " ++ rest)
    → IfSome (actor_else o (shaped Thread (kept (λ n. nat_lt n 256) (number_at 32)) text))
    (IsRead actor_text FitsActor text)
actor_says text None h = thread_says text (kept (λ n. nat_lt n 256) (number_at 32) text) (reads_thread.says text)
actor_says text (Some rest) h = (h, tt)

reads_actor : Reads actor_text FitsActor actor_at
reads_actor = record {
  back = actor_back;
  says = λ text. actor_says text (following (codes "c ") text) (after_says (codes "c ") text);
}

-- ---- outcomes

abbrev pub outcome_text : Outcome → List ℕ
outcome_text outcome = outcome_letter outcome ∷ []

abbrev pub Any : Outcome → Type 0
Any outcome = Unit {0}

outcome_back : (o : Outcome) (rest : List ℕ) → outcome_at (outcome_text o ++ rest) ≡ Some (o, rest)
outcome_back Done rest = refl
outcome_back Object rest = refl
outcome_back NoRoom rest = refl
outcome_back Fault rest = refl

letter_says : (b : ℕ) (rest : List ℕ) (d o n f : Bool) → (b == 100) ≡ d → (b == 111) ≡ o → (b == 110) ≡ n → (b == 102)
    ≡ f
    → IfSome (option_map (λ o. (o, rest)) (if d then Some Done else if o then Some Object else if n then Some NoRoom
    else if f then Some Fault else None)) (IsRead outcome_text Any (b ∷ rest))
letter_says b rest true o n f p q r s = (ap (λ c. c ∷ rest) (eqb-true b 100 p), tt)
letter_says b rest false true n f p q r s = (ap (λ c. c ∷ rest) (eqb-true b 111 q), tt)
letter_says b rest false false true f p q r s = (ap (λ c. c ∷ rest) (eqb-true b 110 r), tt)
letter_says b rest false false false true p q r s = (ap (λ c. c ∷ rest) (eqb-true b 102 s), tt)
letter_says b rest false false false false p q r s = tt

outcome_says : (text : List ℕ) → IfSome (outcome_at text) (IsRead outcome_text Any text)
outcome_says [] = tt
outcome_says (b ∷ rest) = letter_says b rest (b == 100) (b == 111) (b == 110) (b == 102) refl refl refl refl

reads_outcome : Reads outcome_text Any outcome_at
reads_outcome = record { back = λ o rest fits. outcome_back o rest; says = outcome_says }

-- ---- workers

abbrev pub worker_text : Version → ℕ → List ℕ
worker_text One worker = 10 ∷ []
worker_text Two worker = 32 ∷ number_text worker 10

first_says : (workers : ℕ) (text : List ℕ) (o : Option (List ℕ)) → workers ≡ 1 → IfSome o (λ rest. text ≡ 10 ∷ rest)
    → IfSome (option_map (λ rest. (0, rest)) o) (IsRead (worker_text One) (λ w. w < workers) text)
first_says workers text None one h = tt
first_says workers text (Some rest) one h = (h, omega (arith, one))

reads_worker : (version : Version) (workers : ℕ) → FitsVersion version workers
    → Reads (worker_text version) (λ w. w < workers) (worker_at version workers)
reads_worker One workers one = record {
  back = λ w rest below.
      let first : 0 ≡ w = omega (arith, one, below) in
      ap (λ o. option_map (λ rest. (0, rest)) o) (after_back (10 ∷ []) rest) ∙ ap (λ n. Some (n, rest)) first;
  says = λ text. first_says workers text (following (10 ∷ []) text) one (after_says (10 ∷ []) text);
}
reads_worker Two workers nine =
    let number = reads_kept (reads_number 10 (omega arith)) (λ n. nat_lt n workers) (λ n. n < workers)
    (λ n h. lt-ltb n workers h) (λ n e. ltb-true n workers e) in
    reads_same (reads_led (32 ∷ []) number) (worker_text Two) (λ w. w < workers) (λ w. refl)
    (λ w below. (omega (arith, nine, below), below)) (λ w h. h.1)

-- ---- rows

abbrev parts : Row → Actor × (Outcome × ℕ)
parts row = (row.actor, (row.outcome, row.worker))

same_line : (version : Version) (row : Row) → line_by version row ≡ actor_text row.actor
    ++ (outcome_text row.outcome ++ worker_text version row.worker)
same_line One row =
    append_assoc (actor_word row.actor) (32 ∷ outcome_letter row.outcome ∷ []) (10 ∷ [])
    ∙ sym (append_assoc (actor_word row.actor) (32 ∷ []) (outcome_letter row.outcome ∷ 10 ∷ []))
same_line Two row =
    append_assoc (actor_word row.actor) (32 ∷ outcome_letter row.outcome ∷ []) (32 ∷ number_text row.worker 10)
    ∙ sym (append_assoc (actor_word row.actor) (32 ∷ []) (outcome_letter row.outcome ∷ 32 ∷ number_text row.worker 10))

module _ (version : Version) (workers : ℕ) (fitting : FitsVersion version workers) where
  reads_row : Reads (line_by version) (FitsRow workers) (row_at version workers)
  reads_row =
      let row = reads_shaped (reads_both reads_actor (reads_both reads_outcome (reads_worker version workers fitting)))
      row_of parts (λ r. refl) (λ p. refl) in
      reads_same row (line_by version) (FitsRow workers) (same_line version) (λ r h. (h.1, (tt, h.0)))
      (λ r h. (h.1.1, h.0))

  pair_parts : (r s : Row) (x y : List ℕ) → ◌≡◌ {A = Read Row} (Some (r, x)) (Some (s, y)) → (r ≡ s) × (x ≡ y)
  pair_parts r s x y e = let pair : ◌≡◌ {A = Row × List ℕ} (r, x) (s, y) = cc
      in (ap (λ p. p.0) pair, ap (λ p. p.1) pair)

  first_fits : (r : Row) (rows : List Row) → All (FitsRow workers) (r ∷ rows) → FitsRow workers r
  first_fits r rows h = h 0 r (omega arith)

  others_fit : (r : Row) (rows : List Row) → All (FitsRow workers) (r ∷ rows) → All (FitsRow workers) rows
  others_fit r rows h k d lt = h (suc k) d (omega (arith, lt))

  heads : (a b : ℕ) (xs ys : List ℕ) → a ∷ xs ≡ b ∷ ys → a ≡ b
  heads a b xs ys e = cc

  -- a row begins with a digit or a c
  actor_begins : (actor : Actor) (x more : List ℕ) → FitsActor actor → actor_word actor ++ x ≢ 101 ∷ more
  actor_begins (Thread t) x more fits e = omega (arith, digit_begins t x more 101 fits e)
  actor_begins Collector x more fits e = omega (arith, heads 99 101 x more e)

  no_e : (row : Row) (x more : List ℕ) → FitsRow workers row → line_by version row ++ x ≢ 101 ∷ more
  no_e row x more fits e =
      let turn = outcome_text row.outcome ++ worker_text version row.worker in
      let line = ap (λ l. l ++ x) (same_line version row) ∙ append_assoc (actor_text row.actor) turn x
      ∙ append_assoc (actor_word row.actor) (32 ∷ []) (turn ++ x) in
      actor_begins row.actor (32 ∷ turn ++ x) more fits.1 (sym line ∙ e)

  same_row : (r s : Row) (x y : List ℕ) → FitsRow workers r → FitsRow workers s → line_by version r ++ x
      ≡ line_by version s ++ y → (r ≡ s) × (x ≡ y)
  same_row r s x y f g e = let same = sym (reads_row.back r x f) ∙ ap (row_at version workers) e ∙ reads_row.back s y g
      in pair_parts r s x y same

  abbrev lines : List Row → List ℕ
  lines rows = lines_of_rows (line_by version) rows

  -- what follows the rows that were read
  abbrev Left : List Row → List Row → ℕ → List ℕ → Type 0
  Left got rows n rest = (more : List Row) × (rows ≡ got ++ more) × (rest ≡ lines more ++ end_line n)
      × All (FitsRow workers) more

  left : (got rows : List Row) (n : ℕ) (rest : List ℕ) → All (FitsRow workers) got → All (FitsRow workers) rows
      → lines got ++ rest ≡ lines rows ++ end_line n → Left got rows n rest
  left [] rows n rest f g e = (rows, refl, e, g)
  left (r ∷ got) [] n rest f g e = absurd (no_e r (lines got ++ rest) (110 ∷ 100 ∷ 32 ∷ number_text n 10)
      (first_fits r got f) (sym (append_assoc (line_by version r) (lines got) rest) ∙ e))
  left (r ∷ got) (s ∷ rows) n rest f g e =
      let same = same_row r s (lines got ++ rest) (lines rows ++ end_line n) (first_fits r got f) (first_fits s rows g)
      (sym (append_assoc (line_by version r) (lines got) rest) ∙ e ∙ append_assoc (line_by version s) (lines rows)
      (end_line n)) in
      let (more, is, following, fits) = left got rows n rest (others_fit r got f) (others_fit s rows g) same.1 in
      (more, (λ i. sym same.0 i ∷ is i), following, fits)

  -- where the rows are over there is no row
  over_begins : (text : List ℕ) (r : Row) (x : List ℕ) → FitsRow workers r → is_over text ≡ true
      → text ≢ line_by version r ++ x
  over_begins [] r x fits over e = let none = ap (row_at version workers) e ∙ reads_row.back r x fits
      in no_row version none
    where
      no_row : (v : Version) → row_at v workers [] ≡ Some (r, x) → ⊥
      no_row One e = cc
      no_row Two e = cc
  over_begins (b ∷ bs) r x fits over e =
      let word = (starts_is Decides-eqb (b ∷ bs) (codes "end") (is_over (b ∷ bs)) refl).0 over in
      no_e r x (110 ∷ 100 ∷ drop 3 (b ∷ bs)) fits (sym e ∙ word)

  module _ (text : List ℕ) (got : List Row) (rest : List ℕ) (fits : All (FitsRow workers) got) (cut : text ≡ lines got
      ++ rest) where
    -- a faulty row
    pub faulty : is_over rest ≡ false → row_at version workers rest ≡ None → ¬ HasRows version workers text
    faulty goes_on none (rows, n, fit, is) = by (left got rows n rest fits fit (sym cut ∙ is))
      where
        by : Left got rows n rest → ⊥
        by ([], same, after, more) = let over = ap is_over after in cc
        by (r ∷ rows, same, after, more) =
            let row = sym none ∙ ap (row_at version workers) (after ∙ append_assoc (line_by version r) (lines rows)
            (end_line n)) ∙ reads_row.back r (lines rows ++ end_line n) (first_fits r rows more) in
            cc

    -- where the rows are over, their number stands in the end line
    pub counted : is_over rest ≡ true → (rows : List Row) → All (FitsRow workers) rows
        → text ≡ lines rows ++ end_line (length rows) → rest ≡ end_line (length got)
    counted over rows fit is = by (left got rows (length rows) rest fits fit (sym cut ∙ is))
      where
        by : Left got rows (length rows) rest → rest ≡ end_line (length got)
        by ([], same, after, more) = after ∙ ap (λ l. end_line (length l)) (same ∙ append-nil got)
        by (r ∷ others, same, after, more) =
            absurd (over_begins rest r (lines others ++ end_line (length rows)) (first_fits r others more) over (after
            ∙ append_assoc (line_by version r) (lines others) (end_line (length rows))))

  -- ---- one row more

  lines_push : (got : List Row) (r : Row) → lines (got ++ r ∷ []) ≡ lines got ++ line_by version r
  lines_push [] r = append-nil (line_by version r)
  lines_push (g ∷ got) r = ap (λ l. line_by version g ++ l) (lines_push got r)
      ∙ sym (append_assoc (line_by version g) (lines got) (line_by version r))

  module _ (text : List ℕ) (row : Row) (rest : List ℕ) (read : row_at version workers text ≡ Some (row, rest)) where
    is_read : IsRead (line_by version) (FitsRow workers) text (row, rest)
    is_read = subst (λ o. IfSome o (IsRead (line_by version) (FitsRow workers) text)) read (reads_row.says text)

    pub row_fits : FitsRow workers row
    row_fits = is_read.1

    -- there is less text after it
    pub row_ends : length rest < length text
    row_ends =
        let turn = outcome_text row.outcome ++ worker_text version row.worker in
        let size = length-append (line_by version row) rest in
        let line = ap length (same_line version row) ∙ length-append (actor_text row.actor) turn in
        let begins = length-append (actor_word row.actor) (32 ∷ []) in
        omega (arith, ap length is_read.0, size, line, begins)

    pub row_after : (whole : List ℕ) (got : List Row) → whole ≡ lines got ++ text → whole ≡ lines (got ++ row ∷ [])
        ++ rest
    row_after whole got e =
        e ∙ ap (λ l. lines got ++ l) is_read.0 ∙ sym (append_assoc (lines got) (line_by version row) rest)
        ∙ ap (λ l. l ++ rest) (sym (lines_push got row))
