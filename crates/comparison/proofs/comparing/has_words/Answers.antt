use Rattle.comparison.proofs.comparing.has_words.Goals as goal

pub returns-in-Instance : goal.returns-in-Instance
returns-in-Instance c = rw (c.in-Instance.is, ← c.deref.ensures.value) c.hold.ensures
