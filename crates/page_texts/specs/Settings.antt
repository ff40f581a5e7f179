use Rattle.std.specs.Prelude.{◌≡◌, ℕ, List, codes, Option, Some, None, option_and_then, MatchOption, drop, length, nat_le, take}
use Rattle.std.specs.Prelude.{if◌then◌else◌}
use Rattle.std.specs.Borrow.{Bor}
use Rattle.journal_texts.specs.JournalReading.{Read, led, number_at}

-- What a page says before its requests.

abbrev pub sources_count_at : List ℕ → Read ℕ
sources_count_at text = led (codes "sources ") (number_at 10) text

-- so many bytes
abbrev pub bytes_at : ℕ × List ℕ → Read (List ℕ)
bytes_at read = if nat_le read.0 (length read.1) then Some (take read.0 read.1, drop read.0 read.1) else None

-- a source, after its length
abbrev pub source_at : List ℕ → Read (List ℕ)
source_at text = option_and_then bytes_at (led (codes "source ") (number_at 10) text)

-- code answers which source stands there
abbrev pub TellsSource : Option (Bor (List ℕ) × Bor (List ℕ)) → Read (List ℕ) → Type 0
TellsSource result read = MatchOption result (read ≡ None) (λ r. read ≡ Some (r.0.now, r.1.now))
