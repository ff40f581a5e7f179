use Rattle.std.specs.Prelude.{ℕ, List, ◌∷◌, [], Bool, true, false, codes, Option, Some, None, option_map, option_and_then}
use Rattle.std.specs.Prelude.{if◌then◌else◌}
use Rattle.std.specs.Str.{bytes_eq}
use Rattle.journal_texts.specs.JournalReading.{following, number_at, number_of}
use Rattle.page_texts.specs.declared.requests.Request.{Request}
use Rattle.page_texts.specs.declared.requests.Request.TheVariants.{Rounds, State, Threads, Held, Statics, Methods, Rows}
use Rattle.page_texts.specs.declared.requests.Request.TheVariants.{Lists, Listing, Explore, Output, Journal}

-- What a request says. One space stands between two words; a number prints as it stands there.

abbrev pub alone : List ℕ → Option Request
alone line =
    if bytes_eq line (codes "state") then Some State
    else if bytes_eq line (codes "threads") then Some Threads
    else if bytes_eq line (codes "held") then Some Held
    else if bytes_eq line (codes "lists") then Some Lists
    else if bytes_eq line (codes "statics") then Some Statics
    else if bytes_eq line (codes "methods") then Some Methods
    else if bytes_eq line (codes "output") then Some Output
    else if bytes_eq line (codes "journal") then Some Journal
    else None

abbrev pub two_numbers : List ℕ → Option (ℕ × ℕ)
two_numbers text = option_and_then
    (λ (read : ℕ × List ℕ). option_map (λ (second : ℕ). (read.0, second)) (number_of read.1))
    (number_at 32 text)

abbrev pub rounds_of : List ℕ → Option Request
rounds_of line = option_map (λ (n : ℕ × ℕ). Rounds n.0 n.1) (option_and_then two_numbers (following (codes "rounds ") line))

abbrev pub rows_of : List ℕ → Option Request
rows_of line = option_map (λ (n : ℕ × ℕ). Rows n.0 n.1) (option_and_then two_numbers (following (codes "rows ") line))

abbrev pub listing_of : List ℕ → Option Request
listing_of line = option_map (λ (n : ℕ). Listing n) (option_and_then number_of (following (codes "listing ") line))

abbrev pub explore_of : Bool → List ℕ → Option Request
explore_of no_room text = option_map (λ (n : ℕ). Explore n no_room) (number_of text)

-- what stands after `explore no-room`, or else after `explore`
abbrev pub exploring_in : Option (List ℕ) → List ℕ → Option Request
exploring_in (Some rest) line = explore_of true rest
exploring_in None line = option_and_then (explore_of false) (following (codes "explore ") line)

abbrev pub exploring_of : List ℕ → Option Request
exploring_of line = exploring_in (following (codes "explore no-room ") line) line

-- the first of two that says something
abbrev pub or_else : Option Request → Option Request → Option Request
or_else None other = other
or_else (Some request) other = Some request

abbrev pub request_of : List ℕ → Option Request
request_of line =
    or_else (alone line) (or_else (rounds_of line) (or_else (rows_of line) (or_else (listing_of line) (exploring_of line))))
