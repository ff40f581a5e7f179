use Rattle.jasmin.proofs.Spelled.Classes.{text_is_spelled}
use Rattle.jasmin.proofs.laws.texts_are_spelled.Goals as goal

pub returns : goal.returns
returns c = text_is_spelled
