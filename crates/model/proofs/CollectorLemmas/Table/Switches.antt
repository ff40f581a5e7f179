use Rattle.std.proofs.Common.{ℕ, ℤ, [], Result, Ok, Err}
use Rattle.model.specs.declared.turns.Fault.{Fault}
use Rattle.model.specs.Switches.{Table, Lookup}
use Rattle.model.specs.Frames.{Frame, int_on}
use Rattle.model.specs.Worlds.{World}
use Rattle.model.specs.Table.Switches.{table_target, lookup_target, table_switched_on, lookup_switched_on}
use Rattle.model.specs.Table.Switches.{table_switched, lookup_switched}
use Rattle.model.specs.Collector.Moves.{ResultMoves}
use Rattle.model.proofs.CollectorLemmas.Stepping.{replaced_lawful}

-- the key goes, and nothing is pushed
table_on_lawful : (w : World) (table : Table ℕ) (f : Frame) (r : Result ℤ Fault)
    → ResultMoves w f (table_switched_on table f r)
table_on_lawful w table f (Err e) = tt
table_on_lawful w table f (Ok z) = replaced_lawful w (table_target table z) f 1 [] tt

lookup_on_lawful : (w : World) (lookup : Lookup ℕ) (f : Frame) (r : Result ℤ Fault)
    → ResultMoves w f (lookup_switched_on lookup f r)
lookup_on_lawful w lookup f (Err e) = tt
lookup_on_lawful w lookup f (Ok z) = replaced_lawful w (lookup_target lookup z) f 1 [] tt

pub table_switched_lawful : (w : World) (table : Table ℕ) (f : Frame) → ResultMoves w f (table_switched table f)
table_switched_lawful w table f = table_on_lawful w table f (int_on f.stack)

pub lookup_switched_lawful : (w : World) (lookup : Lookup ℕ) (f : Frame) → ResultMoves w f (lookup_switched lookup f)
lookup_switched_lawful w lookup f = lookup_on_lawful w lookup f (int_on f.stack)
