-- What the board's words and the seats' views have to do with each other, and what each step tells its seat.
use Rattle.std.specs.Prelude.{◌≡◌, ◌≢◌, ◌≤◌, ◌<◌, ℕ, ◌+◌, List, [], length, slice_index, replicate, true, false, ◌||◌}
use Rattle.std.specs.Prelude.{nat_eq, not, IfSome, unwrap_or, None, Some}
use mathlib.Core.Option.{some}
use lib.ListN.{get_elem?}
use Rattle.atomic_table.specs.Table.{State, Me, Step}
use Rattle.board.specs.declared.views.View.{View}
use Rattle.board.specs.Marks.{mark_of, changed, found, without, only, together, is_own, Stands}

-- a view that stands for a guest besides stands for two workers
abbrev pub GuestIsOther : View → Type 0
GuestIsOther v = IfSome v.guest (λ guest. v.worker ≢ guest)

-- word 0 is the stop, and word w + 1 the count of worker w
pub record Fits (words : List ℕ) (v : View) : Type 0 where
  pub counts : (w : ℕ) → Stands (slice_index words (w + 1)) (mark_of v.marks w)
  pub stop : v.stop ≡ true → slice_index words 0 ≢ 0
  pub guest : GuestIsOther v

-- what the seats know is right, and no count has two owners
pub record IsKept (S : Type 0) (workers : ℕ) (s : State S View) : Type 0 where
  pub long : length s.words ≡ workers + 1
  pub fits : (seat : ℕ) (v : View) → get_elem? s.views seat ≡ some v → Fits s.words v
  pub apart : (i j : ℕ) (u v : View) → get_elem? s.views i ≡ some u → get_elem? s.views j ≡ some v
      → (w : ℕ) → is_own u.marks w ≡ true → is_own v.marks w ≡ true → i ≡ j

-- ---- how views come about

-- all counts, each 0; worker 0 gets its seat next
abbrev pub unseated : ℕ → View
unseated workers = record {
  worker = 0;
  guest = None;
  marks = replicate workers (record { seen = 0; own = Some 0 });
  stop = false;
}

-- nothing is known or owned
abbrev pub spent : View
spent = record { worker = 0; guest = None; marks = []; stop = false }

-- the seat of the next worker, and what is left
abbrev pub seated : View → View
seated v = record { worker = v.worker; guest = None; marks = only v.marks v.worker; stop = v.stop }

abbrev pub seats_left : View → View
seats_left v = record { worker = v.worker + 1; guest = None; marks = without v.marks v.worker; stop = v.stop }

-- a seat that has taken in another's view, as its guest or for good
abbrev pub hosting : View → View → View
hosting v w = record {
  worker = v.worker;
  guest = Some w.worker;
  marks = together v.marks w.marks;
  stop = v.stop || w.stop;
}

abbrev pub gathered : View → View → View
gathered v w = record { worker = v.worker; guest = None; marks = together v.marks w.marks; stop = v.stop || w.stop }

abbrev pub guest_of : View → ℕ
guest_of v = unwrap_or v.guest 0

-- what is left to the host, and what the guest goes with
abbrev pub host_after : View → View
host_after v = record { worker = v.worker; guest = None; marks = without v.marks (guest_of v); stop = v.stop }

abbrev pub guest_after : View → View
guest_after v = record { worker = guest_of v; guest = None; marks = only v.marks (guest_of v); stop = v.stop }

-- ---- what a step tells: the number found is right by the view before, and the view after has it

abbrev pub count_found : View → ℕ → ℕ → View
count_found v w n = record { worker = v.worker; guest = v.guest; marks = changed (found n) v.marks w; stop = v.stop }

abbrev pub stop_found : View → ℕ → View
stop_found v n = record { worker = v.worker; guest = v.guest; marks = v.marks; stop = not (nat_eq n 0) || v.stop }

module _ {S : Type 0} where
  abbrev pub FindsCount : Step S → Me S View → ℕ → Me S View → Type 0
  FindsCount s me n after = (w : ℕ) → s.word ≡ w + 1
      → Stands n (mark_of me.0.marks w) × (after ≡ (count_found me.0 w n, me.1))

  abbrev pub AddsOne : Step S → Me S View → ℕ → Me S View → Type 0
  AddsOne s me n after = (w : ℕ) → s.word ≡ w + 1
      → Stands n (mark_of me.0.marks w) × (after ≡ (count_found me.0 w (n + 1), me.1))

  abbrev pub FindsStop : Step S → Me S View → ℕ → Me S View → Type 0
  FindsStop s me n after = (me.0.stop ≡ true → n ≢ 0) × GuestIsOther me.0 × (after ≡ (stop_found me.0 n, me.1))

  abbrev pub SetsStop : Step S → Me S View → ℕ → Me S View → Type 0
  SetsStop s me n after = after ≡ (stop_found me.0 1, me.1)

-- ---- whole looks

-- the counts of the first n workers and maybe more were looked at
pub record LooksRound (n : ℕ) (before after : View) : Type 0 where
  pub apart : GuestIsOther before
  pub worker : after.worker ≡ before.worker
  pub guest : after.guest ≡ before.guest
  pub own : (w : ℕ) → (mark_of after.marks w).own ≡ (mark_of before.marks w).own
  pub later : (w : ℕ) → (mark_of before.marks w).seen ≤ (mark_of after.marks w).seen
  pub exact : (w count : ℕ) → w < n → (mark_of before.marks w).own ≡ Some count → (mark_of after.marks w).seen ≡ count
  pub stop : before.stop ≡ true → after.stop ≡ true
