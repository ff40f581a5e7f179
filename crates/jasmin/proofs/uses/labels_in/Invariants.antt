use Rattle.std.proofs.Common.{◌≡◌, ◌≤◌, true, ◌++◌, drop}
use Rattle.model.specs.Texts.Uses.{labels_from, labels_in, count_from, count_in, are_different}
use Rattle.jasmin.proofs.uses.labels_in.Given as goal

-- the labels so far, which are different, and those that follow
abbrev pub invariant-loop-line : goal.invariant-loop-line
invariant-loop-line l = record {
  labels : l.labels ++ labels_from l.count (drop l.line-index l.lines) ≡ labels_in l.lines;
  counted : count_from l.count (drop l.line-index l.lines) ≡ count_in l.lines;
  different : are_different l.labels ≡ true;
  few : l.count ≤ l.line-index;
}
