-- The words of mnemonics.
use Rattle.std.specs.Prelude.{ℕ, List, [], ◌∷◌, ◌++◌, if◌then◌else◌}
use Rattle.model.specs.contracts.mnemonics.MnemonicPartialEq.TheImpl as equality
use Rattle.model.specs.declared.mnemonics.Mnemonic.{Mnemonic}
use Rattle.model.specs.Texts.Mnemonics.{constant_mnemonics, local_mnemonics, stack_mnemonics, number_mnemonics}
use Rattle.model.specs.Texts.Mnemonics.{branch_mnemonics, call_mnemonics, object_mnemonics, array_mnemonics}

abbrev pub mnemonics : List (List ℕ × Mnemonic)
mnemonics = constant_mnemonics ++ local_mnemonics ++ stack_mnemonics ++ number_mnemonics ++ branch_mnemonics
    ++ call_mnemonics ++ object_mnemonics ++ array_mnemonics

-- the first word of a table that says a mnemonic, empty where none does
abbrev pub word_in : List (List ℕ × Mnemonic) → Mnemonic → List ℕ
word_in [] m = []
word_in (row ∷ rows) m = if (equality.ghosts).eq row.1 m then row.0 else word_in rows m

-- the word of a mnemonic
unfoldable pub word_of : Mnemonic → List ℕ
word_of m = word_in mnemonics m
