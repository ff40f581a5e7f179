use Rattle.std.proofs.Common.{◌++◌, refl}
use Rattle.debug_texts.proofs.Pieces.{part_before, part_within}
use Rattle.explore_texts.specs.Reports.{end_line, numbered_texts, tail_text}
use Rattle.explore_texts.proofs.Numbered.{puts_after}
use Rattle.explore_texts.proofs.reports.put_parts.Goals as goal

pub returns-in-Err-clause-puts : goal.returns-in-Err-clause-puts
returns-in-Err-clause-puts g c =
    part_before _ _ _ (numbered_texts end_line 0 c.args.ends.now ++ tail_text c.args.turns c.args.output.now)
    c.in-Err.ensures.puts

pub returns-in-Err-put_ends-clause-puts : goal.returns-in-Err-put_ends-clause-puts
returns-in-Err-put_ends-clause-puts g c =
    part_within _ _ _ _ _ (tail_text c.args.turns c.args.output.now) _ c.in-Ok.ensures.puts
    c.in-Err-put_ends.ensures.puts refl

pub returns-in-Ok-put_ends-clause-puts : goal.returns-in-Ok-put_ends-clause-puts
returns-in-Ok-put_ends-clause-puts g c =
    puts_after c.put_tail.result _ _ _ _ _ c.in-Ok.ensures.puts
    (puts_after c.put_tail.result _ _ _ _ _ c.in-Ok-put_ends.ensures.puts c.put_tail.ensures.puts)
