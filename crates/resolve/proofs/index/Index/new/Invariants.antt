use Rattle.std.proofs.Common.{◌≡◌, map, take, slice_get, Some}
use Rattle.std.specs.List.{All, position}
use Rattle.std.specs.Str.{bytes_eq}
use Rattle.resolve.specs.Numbers.{name_of}
use Rattle.resolve.proofs.IndexLemmas.{Finds}
use Rattle.resolve.proofs.index.Index.new.Given as goal

abbrev pub invariant-loop-number : goal.invariant-loop-number
invariant-loop-number l = record {
  finds : Finds (λ k. k.bytes.now) (λ c. c.class.now) l.classes.entries (take l.number l.program);
  placed : All (λ e. slice_get l.program e.1.number ≡ Some e.1.class.now) l.classes.entries;
  first : All (λ e. position (bytes_eq e.1.class.now.name) (map name_of l.program) ≡ Some e.1.number) l.classes.entries;
}
