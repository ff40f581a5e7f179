-- The head of a journal's text is read back.
use Rattle.std.proofs.Common.{◌≡◌, ℕ, ◌<◌, ◌^◌, List, [], ◌++◌, codes, Option, Some, None, option_map, option_and_then}
use Rattle.std.proofs.Common.{IfSome, refl, sym, ap, ◌∙◌, arith}
use Rattle.std.proofs.lemmas.List.{append_assoc}
use Rattle.model.specs.declared.journals.HeapShape.{HeapShape}
use Rattle.model.specs.declared.journals.Limits.{Limits}
use Rattle.model.specs.JournalTexts.{number_text, heap_line, limits_line, workers_line}
use Rattle.journal_texts.specs.declared.heads.Head.{Head}
use Rattle.journal_texts.specs.declared.heads.Version.{Version}
use Rattle.journal_texts.specs.declared.heads.Version.TheVariants.{One, Two}
use Rattle.journal_texts.specs.JournalReading.{Read, following, version_else, version_at, shape_of, heap_at, limits_of}
use Rattle.journal_texts.specs.JournalReading.{limits_at, workers_at, following_first, head_of, head_at}
use Rattle.journal_texts.proofs.JournalReading.Readers.{IsRead, Reads, reads_both, reads_shaped, reads_same, reads_led}
use Rattle.journal_texts.proofs.JournalReading.Readers.{reads_number, after_back, after_says}

abbrev sizes : HeapShape → ℕ × (ℕ × ℕ)
sizes s = (s.small, (s.medium, s.large))

abbrev bounds : Limits → ℕ × ℕ
bounds l = (l.steps, l.output)

same_heap : (s : HeapShape) → heap_line s ≡ codes "heap "
    ++ (number_text s.small 32 ++ (number_text s.medium 32 ++ number_text s.large 10))
same_heap s =
    append_assoc (codes "heap " ++ number_text s.small 32) (number_text s.medium 32) (number_text s.large 10)
    ∙ append_assoc (codes "heap ") (number_text s.small 32) (number_text s.medium 32 ++ number_text s.large 10)

reads_heap : Reads heap_line (λ s. (s.small < 2 ^ 32) × ((s.medium < 2 ^ 32) × (s.large < 2 ^ 32))) heap_at
reads_heap =
    let space = reads_number 32 (omega arith) in
    let heap = reads_shaped
    (reads_led (codes "heap ") (reads_both space (reads_both space (reads_number 10 (omega arith))))) shape_of
    sizes (λ s. refl) (λ p. refl) in
    reads_same heap heap_line (λ s. (s.small < 2 ^ 32) × ((s.medium < 2 ^ 32) × (s.large < 2 ^ 32))) same_heap
    (λ s h. h) (λ s h. h)

reads_limits : Reads limits_line (λ l. (l.steps < 2 ^ 32) × (l.output < 2 ^ 32)) limits_at
reads_limits =
    let limits = reads_shaped
    (reads_led (codes "limits ") (reads_both (reads_number 32 (omega arith)) (reads_number 10 (omega arith))))
    limits_of bounds (λ l. refl) (λ p. refl) in
    reads_same limits limits_line (λ l. (l.steps < 2 ^ 32) × (l.output < 2 ^ 32))
    (λ l. append_assoc (codes "limits ") (number_text l.steps 32) (number_text l.output 10)) (λ l h. h) (λ l h. h)

abbrev pub workers_text : Version → ℕ → List ℕ
workers_text One workers = []
workers_text Two workers = workers_line workers

abbrev pub Reported : Version → ℕ → Type 0
Reported One workers = workers ≡ 1
Reported Two workers = workers < 2 ^ 32

reads_workers : (version : Version) → Reads (workers_text version) (Reported version) (workers_at version)
reads_workers One = record {
  back = λ workers rest one. ap (λ n. Some (n, rest)) (sym one);
  says = λ text. (refl, refl);
}
reads_workers Two = reads_led (codes "workers ") (reads_number 10 (omega arith))

-- what stands after the first line, and what its numbers are
abbrev pub after_text : Version → HeapShape × (Limits × ℕ) → List ℕ
after_text version p = heap_line p.0 ++ (limits_line p.1.0 ++ workers_text version p.1.1)

abbrev pub Small : Version → HeapShape × (Limits × ℕ) → Type 0
Small version p = ((p.0.small < 2 ^ 32) × ((p.0.medium < 2 ^ 32) × (p.0.large < 2 ^ 32)))
    × (((p.1.0.steps < 2 ^ 32) × (p.1.0.output < 2 ^ 32)) × Reported version p.1.1)

reads_after : (version : Version) → Reads (after_text version) (Small version) (following_first version)
reads_after version = reads_both reads_heap (reads_both reads_limits (reads_workers version))

abbrev pub first_line : Version → List ℕ
first_line One = codes "JVMJ 1\n"
first_line Two = codes "JVMJ 2\n"

version_back : (version : Version) (rest : List ℕ) → version_at (first_line version ++ rest) ≡ Some (version, rest)
version_back One rest = ap (λ o. version_else o (following (codes "JVMJ 2\n") (codes "JVMJ 1\n" ++ rest)))
    (after_back (codes "JVMJ 1\n") rest)
version_back Two rest = refl

version_says : (text : List ℕ) → IfSome (version_at text) (λ r. text ≡ first_line r.0 ++ r.1)
version_says text = by (following (codes "JVMJ 1\n") text) (following (codes "JVMJ 2\n") text)
    (after_says (codes "JVMJ 1\n") text) (after_says (codes "JVMJ 2\n") text)
  where
    by : (first second : Option (List ℕ)) → IfSome first (λ rest. text ≡ codes "JVMJ 1\n" ++ rest)
        → IfSome second (λ rest. text ≡ codes "JVMJ 2\n" ++ rest)
        → IfSome (version_else first second) (λ r. text ≡ first_line r.0 ++ r.1)
    by (Some rest) second h k = h
    by None (Some rest) h k = k
    by None None h k = tt

pub head_back : (version : Version) (p : HeapShape × (Limits × ℕ)) (rest : List ℕ) → Small version p
    → head_at (first_line version ++ (after_text version p ++ rest)) ≡ Some (head_of version p, rest)
head_back version p rest small =
    ap (option_and_then (λ v. option_map (λ p. (head_of v.0 p.0, p.1)) (following_first v.0 v.1)))
    (version_back version (after_text version p ++ rest))
    ∙ ap (option_map (λ p. (head_of version p.0, p.1))) ((reads_after version).back p rest small)

-- a text that begins with a head's lines
abbrev pub parts : Head → HeapShape × (Limits × ℕ)
parts head = (head.shape, (head.limits, head.workers))

abbrev pub BeginsWith : List ℕ → Head × List ℕ → Type 0
BeginsWith text r = (text ≡ first_line r.0.version ++ (after_text r.0.version (parts r.0) ++ r.1))
    × Small r.0.version (parts r.0)

pub head_says : (text : List ℕ) → IfSome (head_at text) (BeginsWith text)
head_says text = by (version_at text) (version_says text)
  where
    rest_of : (v : Version × List ℕ) → text ≡ first_line v.0 ++ v.1 → (o : Read (HeapShape × (Limits × ℕ)))
        → IfSome o (IsRead (after_text v.0) (Small v.0) v.1)
        → IfSome (option_map (λ p. (head_of v.0 p.0, p.1)) o) (BeginsWith text)
    rest_of v h None k = tt
    rest_of v h (Some p) k = (h ∙ ap (λ l. first_line v.0 ++ l) k.0, k.1)

    by : (o : Read Version) → IfSome o (λ r. text ≡ first_line r.0 ++ r.1)
        → IfSome (option_and_then (λ v. option_map (λ p. (head_of v.0 p.0, p.1)) (following_first v.0 v.1)) o)
        (BeginsWith text)
    by None h = tt
    by (Some v) h = rest_of v h (following_first v.0 v.1) ((reads_after v.0).says v.1)
