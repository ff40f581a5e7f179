use Rattle.launcher.proofs.sources.class_listing.Goals as goal

pub returns-in-Err-clause-refused : goal.returns-in-Err-clause-refused
returns-in-Err-clause-refused c = λ may listing is. may (c.in-Err.ensures.only is.0 is.1)
