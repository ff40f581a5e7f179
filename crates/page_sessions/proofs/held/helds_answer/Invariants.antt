use Rattle.std.proofs.Common.{◌≡◌, ◌++◌, drop}
use Rattle.page_sessions.specs.Texts.{helds_from}
use Rattle.page_sessions.proofs.held.helds_answer.Given as goal

-- the text so far, and the cells that are left
abbrev pub invariant-loop-number : goal.invariant-loop-number
invariant-loop-number l = l.text.items ++ helds_from l.number (drop l.number l.helds) ≡ helds_from 0 l.helds
