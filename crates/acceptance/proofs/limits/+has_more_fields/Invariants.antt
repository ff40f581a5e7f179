use Rattle.acceptance.proofs.limits.+has_more_fields.Given as goal

abbrev pub decreases-has_more_fields : goal.decreases-has_more_fields
decreases-has_more_fields l = l.steps
