use Rattle.std.proofs.Common.{◌≡◌, ◌+◌, ◌-◌, ◌++◌, length}
use Rattle.model.specs.Accounts.{numbers_up}
use Rattle.colours.proofs.queues.numbers.Given as goal

abbrev pub invariant-loop-number : goal.invariant-loop-number
invariant-loop-number l = record {
  room : l.list.capacity ≡ l.capacity;
  count : length l.list.items + l.first ≡ l.number;
  items : l.list.items ++ numbers_up l.number (l.first + l.count - l.number) ≡ numbers_up l.first l.count;
}
