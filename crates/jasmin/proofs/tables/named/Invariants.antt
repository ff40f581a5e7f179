use Rattle.std.proofs.Common.{◌≡◌, map, drop}
use Rattle.model.specs.Texts.Tables.{named}
use Rattle.jasmin.proofs.tables.named.Given as goal

-- none of the rows so far has the word
abbrev pub invariant-loop-name : goal.invariant-loop-name
invariant-loop-name g l = named (map (λ row. (row.0.now, row.1)) (drop l.name-index l.table)) l.word
    ≡ named (map (λ row. (row.0.now, row.1)) l.table) l.word
