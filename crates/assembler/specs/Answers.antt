-- What calls that add items to a pool answer.
use Rattle.std.specs.Prelude.{◌≡◌, ℕ, List, ◌++◌, Result, IfOk, IfErr}
use Rattle.model.specs.ClassFiles.Items.{Item, with_items}
use Rattle.assembler.specs.Assembled.{Stays, HasRoom}
use Rattle.assembler.specs.Numbering.{number_of}
use Rattle.assembler.specs.declared.error.AsmError.{AsmError}
use Rattle.assembler.specs.declared.error.AsmError.TheVariants as error

-- an answer is a value that stays
abbrev pub Gives : {A : Type 0} → List Item → List Item → List Item → (List Item → A) → Result A AsmError → Type 0
Gives old added new value answer = IfOk answer (Stays old added new value)

-- an answer is the number that an item keeps
abbrev pub HasNumber : List Item → List Item → List Item → Item → Result ℕ AsmError → Type 0
HasNumber old added new item answer = Gives old added new (λ items. number_of items item) answer

-- these items are refused for a full pool alone, unless memory ran out
abbrev pub OnlyFull : {A : Type 0} → List Item → List Item → Result A AsmError → Type 0
OnlyFull old added answer = IfErr answer (λ e. (later : List Item) → HasRoom (with_items old (added ++ later))
    → e ≡ error.Memory)

-- the same where the whole pool also meets another condition
abbrev pub OnlyFullWhere : {A : Type 0} → List Item → List Item → (List Item → Type 0) → Result A AsmError → Type 0
OnlyFullWhere old added Meets answer =
    IfErr answer (λ e. (later : List Item) → HasRoom (with_items old (added ++ later))
    → Meets (with_items old (added ++ later)) → e ≡ error.Memory)
