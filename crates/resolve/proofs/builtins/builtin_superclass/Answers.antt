use Rattle.std.proofs.Common.{sym, ◌∙◌}
use Rattle.model.specs.Classes.Builtin.{builtin_classes}
use Rattle.resolve.proofs.BuiltinLemmas.{option_map-find}
use Rattle.resolve.proofs.builtins.builtin_superclass.Goals as goal

pub returns : goal.returns
unfolding builtin_classes
returns c = c.superclass_among.ensures ∙ sym (option_map-find builtin_classes c.args.name.now)
