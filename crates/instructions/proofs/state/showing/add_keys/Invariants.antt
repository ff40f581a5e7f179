use Rattle.std.proofs.Common.{◌≡◌, ◌++◌, drop}
use Rattle.instructions.specs.StaticKeys.{keys_of}
use Rattle.instructions.proofs.state.showing.add_keys.Given as goal

-- the fields that are left complete those of all
abbrev pub invariant-loop-field : goal.invariant-loop-field
invariant-loop-field l = l.keys.items ++ keys_of l.class (drop l.field-index l.fields) ≡ l.fn.keys.items
    ++ keys_of l.class l.fields
