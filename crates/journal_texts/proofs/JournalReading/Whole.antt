-- A journal's text as a whole: its head, its rows and its end.
use Rattle.std.proofs.Common.{◌≡◌, ℕ, inl, inr, true, List, [], ◌++◌, codes, length, All, Some, None, IfSome, refl, sym}
use Rattle.std.proofs.Common.{ap, subst, ◌∙◌, arith}
use Rattle.std.proofs.lemmas.List.{append_assoc, append-nil}
use Rattle.model.specs.declared.journals.HeapShape.{HeapShape}
use Rattle.model.specs.declared.journals.Limits.{Limits}
use Rattle.model.specs.declared.journals.Row.{Row}
use Rattle.model.specs.Journals.{JournalValue, HeadFits}
use Rattle.model.specs.JournalTexts.{heap_line, limits_line, workers_line, row_line, row_line_1, lines_of_rows}
use Rattle.model.specs.JournalTexts.{end_line, journal_text, journal_text_1, IsTextOf}
use Rattle.journal_texts.specs.declared.heads.Head.{Head}
use Rattle.journal_texts.specs.declared.heads.Version.{Version}
use Rattle.journal_texts.specs.declared.heads.Version.TheVariants.{One, Two}
use Rattle.journal_texts.specs.JournalReading.{Read, FitsRow, FitsVersion, Fits, IsJournal, HasJournal, HasRows}
use Rattle.journal_texts.specs.JournalReading.{line_by, is_over, head_at}
use Rattle.journal_texts.proofs.JournalReading.Heads.{first_line, after_text, Reported, Small, parts, BeginsWith}
use Rattle.journal_texts.proofs.JournalReading.Heads.{head_back, head_says}
use Rattle.journal_texts.proofs.JournalReading.Rows.{counted}

-- ---- six parts of a text, in groups

module _ (j h l : List ℕ) where
  in_groups : (w r e : List ℕ) → j ++ h ++ l ++ w ++ r ++ e ≡ j ++ ((h ++ (l ++ w)) ++ (r ++ e))
  in_groups w r e =
      append_assoc (j ++ h ++ l ++ w) r e
      ∙ append_assoc (j ++ h ++ l) w (r ++ e)
      ∙ append_assoc (j ++ h) l (w ++ (r ++ e))
      ∙ append_assoc j h (l ++ (w ++ (r ++ e)))
      ∙ ap (λ x. j ++ x) (ap (λ x. h ++ x) (sym (append_assoc l w (r ++ e))) ∙ sym (append_assoc h (l ++ w) (r ++ e)))

  in_groups_1 : (r e : List ℕ) → j ++ h ++ l ++ r ++ e ≡ j ++ ((h ++ (l ++ [])) ++ (r ++ e))
  in_groups_1 r e = ap (λ x. x ++ r ++ e) (sym (append-nil (j ++ h ++ l))) ∙ in_groups [] r e

module _ (shape : HeapShape) (limits : Limits) (workers : ℕ) (rows : List Row) where
  abbrev journal : JournalValue
  journal = record { shape = shape; limits = limits; workers = workers; rows = rows }

  abbrev rows_text : Version → List ℕ
  rows_text version = lines_of_rows (line_by version) rows ++ end_line (length rows)

  abbrev grouped : Version → List ℕ
  grouped version = first_line version ++ (after_text version (shape, (limits, workers)) ++ rows_text version)

  text_2 : journal_text journal ≡ grouped Two
  unfolding journal_text
  text_2 = in_groups (codes "JVMJ 2\n") (heap_line shape) (limits_line limits) (workers_line workers)
      (lines_of_rows row_line rows) (end_line (length rows))

  text_1 : journal_text_1 journal ≡ grouped One
  unfolding journal_text_1
  text_1 = in_groups_1 (codes "JVMJ 1\n") (heap_line shape) (limits_line limits) (lines_of_rows row_line_1 rows)
      (end_line (length rows))

  all_first : workers ≡ 1 → All (FitsRow workers) rows → All (λ (row : Row). row.worker ≡ 0) rows
  all_first one fit k d lt = let below = (fit k d lt).0 in omega (arith, one, below)

  is_text : (text : List ℕ) (version : Version) → Reported version workers → All (FitsRow workers) rows
      → text ≡ grouped version → IsTextOf text journal
  is_text text One one fit e = inr (e ∙ sym text_1, record { one = one; first = all_first one fit })
  is_text text Two small fit e = inl (e ∙ sym text_2)

-- the numbers of a head in range are small
small_of : (version : Version) (shape : HeapShape) (limits : Limits) (workers : ℕ) → HeadFits shape limits workers
    → Reported version workers → Small version (shape, (limits, workers))
small_of version shape limits workers fits reported =
    let cells = fits.cells in
    let bounds = fits.bounds in (
      (omega (arith, cells.1), (omega (arith, cells.1), omega (arith, cells.1))),
      ((omega (arith, bounds.1), omega (arith, bounds.2)), reported),
    )

-- ---- a text that is a journal's

-- what is read of it
abbrev Leads : Head × List ℕ → Type 0
Leads r = Fits r.0 × (rows : List Row) × All (FitsRow r.0.workers) rows
    × (r.1 ≡ lines_of_rows (line_by r.0.version) rows ++ end_line (length rows))

abbrev Has : Read Head → Type 0
Has None = ⊥
Has (Some r) = Leads r

leads_by : (text : List ℕ) (version : Version) (journal : JournalValue) → IsJournal journal
    → Reported version journal.workers → text ≡ grouped journal.shape journal.limits journal.workers journal.rows
    version → Has (head_at text)
leads_by text version journal is reported e =
    let small = small_of version journal.shape journal.limits journal.workers is.head reported in
    let read = ap head_at e ∙ head_back version (journal.shape, (journal.limits, journal.workers))
    (rows_text journal.shape journal.limits journal.workers journal.rows version) small in
    subst Has (sym read) (is.head, journal.rows, is.rows, refl)

leads : (text : List ℕ) → HasJournal text → Has (head_at text)
leads text (journal, is, inl e) =
    let nine = is.head.nine in
    leads_by text Two journal is (omega (arith, nine)) (e ∙ text_2 journal.shape journal.limits journal.workers
    journal.rows)
leads text (journal, is, inr e) = leads_by text One journal is e.1.one (e.0
    ∙ text_1 journal.shape journal.limits journal.workers journal.rows)

pub no_head : (text : List ℕ) → IfSome (head_at text) (λ r. ¬ Fits r.0) → ¬ HasJournal text
no_head text none has = by (head_at text) none (leads text has)
  where
    by : (o : Read Head) → IfSome o (λ r. ¬ Fits r.0) → Has o → ⊥
    by None h k = k
    by (Some r) h k = h k.0

module _ (text : List ℕ) (head : Head) (rest : List ℕ) (read : head_at text ≡ Some (head, rest)) where
  pub no_rows : ¬ HasRows head.version head.workers rest → ¬ HasJournal text
  no_rows none has = let (fits, rows, fit, is) = subst Has read (leads text has) in none (rows, length rows, fit, is)

  begins : BeginsWith text (head, rest)
  begins = subst (λ o. IfSome o (BeginsWith text)) read (head_says text)

  -- version 1 has one worker, and no version has more than nine
  pub reported_workers : Fits head → FitsVersion head.version head.workers
  reported_workers fits = by head.version begins.1.1.1
    where
      by : (version : Version) → Reported version head.workers → FitsVersion version head.workers
      by One one = one
      by Two small = fits.nine

  module _ (got : List Row) (last : List ℕ) (fits : Fits head) (fit : All (FitsRow head.workers) got) (cut : rest
      ≡ lines_of_rows (line_by head.version) got ++ last) where
    pub no_end : is_over last ≡ true → ¬ (last ≡ end_line (length got)) → ¬ HasJournal text
    no_end over other has =
        let (_, rows, all, is) = subst Has read (leads text has) in
        other (counted head.version head.workers (reported_workers fits) rest got last fit cut over rows all is)

    pub is_journal : last ≡ end_line (length got) → IsTextOf text (journal head.shape head.limits head.workers got)
    is_journal end =
        let whole = begins.0 ∙ ap (λ l. first_line head.version ++ (after_text head.version (parts head) ++ l)) (cut
        ∙ ap (λ l. lines_of_rows (line_by head.version) got ++ l) end) in
        is_text head.shape head.limits head.workers got text head.version begins.1.1.1 fit whole
