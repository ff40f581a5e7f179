use Rattle.model.specs.Texts.{tree_of}
use Rattle.jasmin.proofs.reader.read_watched.Goals as goal

pub returns-in-Ok-class_tree : goal.returns-in-Ok-class_tree
unfolding tree_of
returns-in-Ok-class_tree g c = rw (← c.new-statements.ensures) c.in-Ok-class_tree.ensures

pub returns : goal.returns
unfolding tree_of
returns g c = λ h. rw (← c.new-statements.ensures) (c.in-Err.ensures (λ e. h (c.reported.ensures e)))
