use Rattle.std.proofs.Common.{◌≡◌, ◌+◌, ◌==◌, ◌≤◌, not, length, take}
use Rattle.std.specs.List.{suffix_len}
use Rattle.jasmin.proofs.signatures.after_last_slash.Given as goal

-- no slash stands after the place
abbrev pub invariant-loop-place : goal.invariant-loop-place
invariant-loop-place l = record {
  clear : l.place + suffix_len (λ b. not (b == 47)) l.path ≡ length l.path + suffix_len (λ b. not (b == 47))
      (take l.place l.path);
  within : l.place ≤ length l.path;
}

abbrev pub decreases-loop-place : goal.decreases-loop-place
decreases-loop-place l = l.place
