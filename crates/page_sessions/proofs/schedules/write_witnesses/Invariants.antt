use Rattle.std.proofs.Common.{◌≡◌, ◌++◌, drop}
use Rattle.std.specs.List.{flat_map}
use Rattle.page_sessions.specs.Texts.{witness_text}
use Rattle.page_sessions.proofs.schedules.write_witnesses.Given as goal

-- the text so far, and the witnesses that are left
abbrev pub invariant-loop-each : goal.invariant-loop-each
invariant-loop-each l =
    l.text.items ++ flat_map witness_text (drop l.each-index l.found) ≡ l.initial.text.items ++ flat_map witness_text l.found
