use Rattle.std.proofs.Common.{◌≡◌, map, Some, length}
use Rattle.model.specs.Texts.Flags.{flagged, flags_and_word}
use Rattle.jasmin.proofs.flags.flags_and_word.Given as goal

-- the flags so far, and those that follow
abbrev pub invariant-loop-next : goal.invariant-loop-next
invariant-loop-next l =
    flagged (map (λ row. (row.0.now, row.1)) l.table) (Some l.flags) l.last l.words
    ≡ flags_and_word (map (λ row. (row.0.now, row.1)) l.table) l.fn.words

abbrev pub decreases-loop-next : goal.decreases-loop-next
decreases-loop-next l = length l.words
