use Rattle.assembler.proofs.checks.switch_agrees.Goals as goal

pub returns-in-LookupSwitch : goal.returns-in-LookupSwitch
returns-in-LookupSwitch c narrow f =
    rw (c.in-LookupSwitch.is, ← c.lookup.view_is, ← c.as_slice.ensures.value) (c.keys_rise.ensures f)
