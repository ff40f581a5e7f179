use Rattle.std.proofs.Common.{◌≡◌, map, drop}
use Rattle.jasmin.specs.Words.{word_in}
use Rattle.jasmin.proofs.mnemonics.word_in.Given as goal

-- none of the rows so far has the mnemonic
abbrev pub invariant-loop-word : goal.invariant-loop-word
invariant-loop-word l = word_in (map (λ row. (row.0.now, row.1)) (drop l.word-index l.table)) l.mnemonic
    ≡ word_in (map (λ row. (row.0.now, row.1)) l.table) l.mnemonic
