use Rattle.debug_texts.proofs.Pieces.{part_before}
use Rattle.explore_texts.specs.Reports.{last_line}
use Rattle.explore_texts.proofs.reports.put_whole.Goals as goal

pub returns-in-Err-clause-puts : goal.returns-in-Err-clause-puts
returns-in-Err-clause-puts g c =
    part_before _ _ _ (last_line c.args.states c.args.turns c.args.cut) c.in-Err.ensures.puts
