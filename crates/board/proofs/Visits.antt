-- What two seats know once one has looked at every word with what both know and own.
use Rattle.std.proofs.Common.{◌≡◌, ◌≢◌, ◌<◌, ◌≤◌, ◌+◌, ℕ, Bool, true, false, ◌||◌, [], refl, ap, sym, ◌∙◌, subst, arith}
use Rattle.std.specs.Prelude.{Option, None, Some, unwrap_or}
use Rattle.std.specs.Option.{option_or}
use mathlib.Core.Logic.{dite}
use native.Mathlib.Decide.{ℕ_discrete}
use Rattle.atomic_table.specs.Table.{Me}
use Rattle.board.specs.declared.views.Mark.{Mark}
use Rattle.board.specs.declared.views.View.{View}
use Rattle.board.specs.Marks.{mark_of, without, only}
use Rattle.board.specs.Rule.{LooksRound, hosting, guest_of, host_after, guest_after}
use Rattle.board.proofs.MarkLaws.{mark_of-only, own-together, seen-together, seen-without, seen-only, own-without}
use Rattle.board.proofs.MarkLaws.{own-without_it, own-only}
use Rattle.board.proofs.Looking.{Holds, Looked, own_count_found}

-- ---- looking round

or_right : (a b : Bool) → b ≡ true → (a || b) ≡ true
or_right true b e = refl
or_right false b e = e

or_left : (a b : Bool) → a ≡ true → (a || b) ≡ true
or_left true b e = refl
or_left false b e = absurd (cc)

pub round_goes_on : (w n : ℕ) (before mid after : View) → LooksRound w before mid → Looked w n mid after
    → LooksRound (w + 1) before after
round_goes_on w n before mid after round look = record {
  apart = round.apart;
  worker = look.worker ∙ round.worker;
  guest = look.guest ∙ round.guest;
  own = λ k. look.own k ∙ round.own k;
  later = λ k. (let a = round.later k in let b = look.later k in omega arith);
  exact = λ k count lt own. dite (ℕ_discrete k w)
      (λ e. ap (λ (j : ℕ). (mark_of after.marks j).seen) e
      ∙ (look.now ∙ own_count_found w n mid after count look (ap (λ (j : ℕ). (mark_of mid.marks j).own) (sym e)
      ∙ (round.own k ∙ own))))
      (λ ne. look.others k ne ∙ round.exact k count (omega arith) own);
  stop = λ e. look.stop ∙ round.stop e;
}

-- ---- the visit

module _ (workers a b m n : ℕ) (host guest : Me ℕ View) (h : Holds host a m) (g : Holds guest b n) (a_in : a < workers)
    (b_in : b < workers)
    (u : View) (round : LooksRound workers (hosting host.0 guest.0) u) where
  abbrev all : View
  all = hosting host.0 guest.0

  apart : a ≢ b
  apart e = round.apart (h.worker_is ∙ (e ∙ sym g.worker_is))

  all_own_a : (mark_of all.marks a).own ≡ Some m
  all_own_a = own-together host.0.marks guest.0.marks a
      ∙ ap (λ (o : Option ℕ). option_or o (mark_of guest.0.marks a).own) h.own

  all_own_b : (mark_of all.marks b).own ≡ Some n
  all_own_b = own-together host.0.marks guest.0.marks b
      ∙ (ap (λ (o : Option ℕ). option_or o (mark_of guest.0.marks b).own) (h.no_other b (λ e. apart (sym e))) ∙ g.own)

  own_else : (w : ℕ) → w ≢ a → w ≢ b → (mark_of u.marks w).own ≡ None
  own_else w x y = round.own w ∙ (own-together host.0.marks guest.0.marks w
      ∙ (ap (λ (o : Option ℕ). option_or o (mark_of guest.0.marks w).own) (h.no_other w x) ∙ g.no_other w y))

  pub seen_a : (mark_of u.marks a).seen ≡ m
  seen_a = round.exact a m a_in all_own_a

  pub seen_b : (mark_of u.marks b).seen ≡ n
  seen_b = round.exact b n b_in all_own_b

  guest_is : guest_of u ≡ b
  guest_is = ap (λ (o : Option ℕ). unwrap_or o 0) round.guest ∙ g.worker_is

  -- a view in which all is seen that was seen on the look round
  abbrev pub Sees : View → Type 0
  Sees v = ((w : ℕ) → (mark_of v.marks w).seen ≡ (mark_of u.marks w).seen) × (v.stop ≡ u.stop)

  pub as_host : (v : View) → Sees v → ((w : ℕ) → (mark_of host.0.marks w).seen ≤ (mark_of v.marks w).seen)
      × (host.0.stop ≡ true → v.stop ≡ true)
  as_host v sees = (
    (λ w. let e = sees.0 w in let x = (seen-together host.0.marks guest.0.marks w).0
        in let y = round.later w in omega arith),
    (λ e. sees.1 ∙ round.stop (or_left host.0.stop guest.0.stop e)),
  )

  pub as_guest : (v : View) → Sees v → ((w : ℕ) → (mark_of guest.0.marks w).seen ≤ (mark_of v.marks w).seen)
      × (guest.0.stop ≡ true → v.stop ≡ true)
  as_guest v sees = (
    (λ w. let e = sees.0 w in let x = (seen-together host.0.marks guest.0.marks w).1
        in let y = round.later w in omega arith),
    (λ e. sees.1 ∙ round.stop (or_right host.0.stop guest.0.stop e)),
  )

  pub host_sees : (new : Me ℕ View) → new.0 ≡ host_after u → Sees new.0
  host_sees new is = (
    (λ w. ap (λ (v : View). (mark_of v.marks w).seen) is ∙ seen-without u.marks (guest_of u) w),
    ap (λ (v : View). v.stop) is,
  )

  pub guest_sees : (new : Me ℕ View) → new.0 ≡ guest_after u → Sees new.0
  guest_sees new is = (
    (λ w. ap (λ (v : View). (mark_of v.marks w).seen) is ∙ seen-only u.marks (guest_of u) w),
    ap (λ (v : View). v.stop) is,
  )

  pub host_holds : (new : Me ℕ View) → new.0 ≡ host_after u → new.1 ≡ [] → Holds new a m
  host_holds new is slots = record {
    no_slot = slots;
    worker_is = ap (λ (v : View). v.worker) is ∙ (round.worker ∙ h.worker_is);
    own = ap (λ (v : View). (mark_of v.marks a).own) is
        ∙ (own-without u.marks (guest_of u) a (λ e. apart (e ∙ guest_is)) ∙ (round.own a ∙ all_own_a));
    no_other = λ w ne. ap (λ (v : View). (mark_of v.marks w).own) is ∙ dite (ℕ_discrete w (guest_of u))
        (λ e. ap (λ (k : ℕ). (mark_of (without u.marks (guest_of u)) k).own) e ∙ own-without_it u.marks (guest_of u))
        (λ other. own-without u.marks (guest_of u) w other ∙ own_else w ne (λ e. other (e ∙ sym guest_is)));
  }

  pub guest_holds : (new : Me ℕ View) → new.0 ≡ guest_after u → new.1 ≡ [] → Holds new b n
  guest_holds new is slots = record {
    no_slot = slots;
    worker_is = ap (λ (v : View). v.worker) is ∙ guest_is;
    own = ap (λ (v : View). (mark_of v.marks b).own) is ∙ (ap (λ (k : ℕ). (mark_of (only u.marks k) b).own) guest_is
        ∙ (ap (λ (x : Mark). x.own) (mark_of-only u.marks b) ∙ (round.own b ∙ all_own_b)));
    no_other = λ w ne. ap (λ (v : View). (mark_of v.marks w).own) is
        ∙ own-only u.marks (guest_of u) w (λ e. ne (e ∙ guest_is));
  }

pub round_of_both : (workers : ℕ) (host guest handed joined : Me ℕ View) (u : View) → handed ≡ (guest.0, [])
    → joined ≡ (hosting host.0 handed.0, host.1) → LooksRound workers joined.0 u
    → LooksRound workers (hosting host.0 guest.0) u
round_of_both workers host guest handed joined u over in_it round =
    subst (λ (v : View). LooksRound workers v u) (ap (λ (m : Me ℕ View). m.0) in_it
    ∙ ap (λ (m : Me ℕ View). hosting host.0 m.0) over) round
