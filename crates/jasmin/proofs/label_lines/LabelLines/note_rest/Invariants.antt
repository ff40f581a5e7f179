use Rattle.std.proofs.Common.{length}
use Rattle.jasmin.proofs.label_lines.LabelLines.note_rest.Given as goal

abbrev pub decreases-loop-text : goal.decreases-loop-text
decreases-loop-text l = length l.lines
