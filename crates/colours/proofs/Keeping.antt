use Rattle.std.proofs.Common.{◌≡◌, ◌⊎◌, inl, inr, ℕ, ◌+◌, ◌<◌, ◌≤◌, Bool, true, false, List, [], ◌∷◌, ◌++◌, length, set}
use Rattle.std.proofs.Common.{nat_le, nat_lt, drop, slice_get, option_map, Option, Some, None, refl, sym, ◌∙◌, ap}
use Rattle.std.proofs.Common.{arith, length-set}
use Rattle.std.specs.Option.{IfSome}
use Rattle.std.proofs.lemmas.List.{length-append}
use Rattle.circular_buffer.specs.Buffer.{Buffer, buffer}
use Rattle.model.specs.declared.colours.Cell.{Cell}
use Rattle.model.specs.declared.colours.Cell.TheVariants.{Free, Taken}
use Rattle.model.specs.declared.colours.Colour.{Colour}
use Rattle.model.specs.declared.colours.Phase.{Phase}
use Rattle.model.specs.declared.journals.HeapShape.{HeapShape}
use Rattle.model.specs.Accounts.{Account, first_cell, or_larger, take_cell}
use Rattle.model.specs.Collector.Table.{cell_at, listed_in, with_free}
use Rattle.model.proofs.CollectorLemmas.Cells.{same_or_not, taken_within}
use Rattle.colours.specs.declared.free_lists.FreeLists.{FreeLists}
use Rattle.colours.specs.FreeLists.{listing, capacities, account_of}
use Rattle.colours.specs.Sound.{free_in, grey_in, free_at, one_if, times, times_listed, how_many_listed, Sound}
use Rattle.colours.specs.Sound.{HasRoomForAll}
use Rattle.colours.proofs.Counting.{one_if-same, one_if-other, times-push, free_in_one, grey_in_one, total-set}
use Rattle.colours.proofs.Counting.{total-fewer, free_at_cell, free_at_within, free_at_free, free_at_found, free_at_one}
use Rattle.colours.proofs.Counting.{free_at-set_same, free_at-set_other}

-- each step on an account keeps it sound

-- ---- room

pub room_kept : (cells new : List Cell) (free lists : FreeLists) (queue grey : Buffer ℕ) → length new ≡ length cells
    → capacities lists ≡ capacities free → grey.capacity ≡ queue.capacity → HasRoomForAll cells free queue
    → HasRoomForAll new lists grey
room_kept cells new free lists queue grey same e f h = record {
  small = ap (λ (x : ℕ × ℕ × ℕ). x.0) e ∙ h.small ∙ sym same;
  medium = ap (λ (x : ℕ × ℕ × ℕ). x.1) e ∙ h.medium ∙ sym same;
  large = ap (λ (x : ℕ × ℕ × ℕ). x.2) e ∙ h.large ∙ sym same;
  grey = f ∙ h.grey ∙ sym same;
}

-- where a cell isn't grey the grey list has room for one more
pub room_for_grey : (a : Account) (c : ℕ) → Sound a → c < length a.cells → grey_in (cell_at a.cells c) ≡ 0
    → length a.grey < length a.cells
room_for_grey a c h l e = let few = total-fewer grey_in grey_in_one a.cells c l e
    in let g = h.grey in omega (arith, few, g)

-- where a cell isn't free the free lists have, together
pub room_for_free : (a : Account) (c : ℕ) → Sound a → c < length a.cells → free_in (cell_at a.cells c) ≡ 0
    → how_many_listed a < length a.cells
room_for_free a c h l e = let few = total-fewer free_in free_in_one a.cells c l e
    in let f = h.free in omega (arith, few, f)

pub pushed : (queue grey : Buffer ℕ) (r : ℕ) → grey ≡ buffer (queue.items ++ r ∷ []) queue.capacity
    → (length grey.items ≡ length queue.items + 1) × (grey.capacity ≡ queue.capacity)
pushed queue grey r e =
    let n = ap (λ (q : Buffer ℕ). length q.items) e in
    let m = length-append queue.items (r ∷ []) in
    (omega (arith, n, m), ap (λ (q : Buffer ℕ). q.capacity) e)

pub popped : (queue grey : Buffer ℕ) (r : ℕ) → Some r ≡ slice_get queue.items 0
    → grey ≡ buffer (drop 1 queue.items) queue.capacity → (length grey.items + 1 ≡ length queue.items)
    × (grey.capacity ≡ queue.capacity)
popped queue grey r f e = (
  go queue.items f (ap (λ (q : Buffer ℕ). length q.items) e),
  ap (λ (q : Buffer ℕ). q.capacity) e,
)
  where
    go : (items : List ℕ) → Some r ≡ slice_get items 0 → length grey.items ≡ length (drop 1 items)
        → length grey.items + 1 ≡ length items
    go [] f n = absurd (cc)
    go (x ∷ items) f n = omega (arith, n)

-- ---- one cell is written

-- what the lists after it have to meet
record Follows (a : Account) (c : ℕ) (x : Cell) (b : Account) : Type 0 where
  cells : b.cells ≡ set a.cells c x
  grey : length b.grey + grey_in (cell_at a.cells c) ≤ length a.grey + grey_in x
  free : how_many_listed b + free_in (cell_at a.cells c) ≤ how_many_listed a + free_in x
  here : times_listed c b ≤ free_in x
  elsewhere : (d : ℕ) → (d ≡ c → ⊥) → times_listed d b ≤ times_listed d a

written : (a : Account) (c : ℕ) (x : Cell) (b : Account) → Sound a → c < length a.cells → Follows a c x b → Sound b
written a c x b h l f =
    let greys = total-set grey_in a.cells c x l in
    let frees = total-set free_in a.cells c x l in
    let same = length-set a.cells c x in
    record {
      few = rw f.cells (let n = h.few in omega (arith, n, same));
      grey = rw f.cells (let g = h.grey in let k = f.grey in omega (arith, g, k, greys));
      free = rw f.cells (let g = h.free in let k = f.free in omega (arith, g, k, frees));
      listed = λ d. rw f.cells (elim (same_or_not c d) [
        | inl e ↦ rw e (let k = f.here in let z = free_at-set_same a.cells c x l in omega (arith, k, z))
        | inr n ↦ (let k = f.elsewhere d n in let z = free_at-set_other a.cells c d x n
            in let g = h.listed d in omega (arith, k, z, g))
      ]);
    }

-- no list has a cell that isn't free
unlisted : (a : Account) (c : ℕ) → Sound a → c < length a.cells → free_in (cell_at a.cells c) ≡ 0 → times_listed c a ≡ 0
unlisted a c h l e = let k = h.listed c in let z = free_at_cell a.cells c l in omega (arith, k, z, e)

-- a cell that holds a birth gets another colour, and the grey list follows
pub coloured : (a : Account) (c b b' : ℕ) (old new : Colour) (grey : List ℕ) → Sound a → cell_at a.cells c ≡ Taken b old
    → length grey + grey_in (Taken b old) ≤ length a.grey + grey_in (Taken b' new)
    → Sound (record a { cells = set a.cells c (Taken b' new); grey = grey })
coloured a c b b' old new grey h e f =
    let l = taken_within a.cells c b old e in
    let none : free_in (cell_at a.cells c) ≡ 0 = rw e refl in
    let out = unlisted a c h l none in
    written a c (Taken b' new) _ h l (record {
      cells = refl;
      grey = rw e f;
      free = omega (arith, none);
      here = omega (arith, out);
      elsewhere = λ d n. omega arith;
    })

-- ---- a cell is taken off its list

-- what leaves the lists where a cell is taken
pub record Leaves (a : Account) (c : ℕ) (b : Account) : Type 0 where
  pub times : (d : ℕ) → times_listed d a ≡ one_if d c + times_listed d b
  pub fewer : how_many_listed a ≡ how_many_listed b + 1

-- the front cell of a list that fits, or what the greater sizes have
pub front_taken : (fits : Bool) (without : List ℕ → Account) (free : List ℕ) (larger : Option
    (ℕ × Account)) (r : ℕ × Account) → or_larger fits without (first_cell free) larger ≡ Some r
    → ((cs : List ℕ) × (free ≡ r.0 ∷ cs) × (r.1 ≡ without cs) × (fits ≡ true)) ⊎ (larger ≡ Some r)
front_taken true without (c ∷ cs) larger r e =
    let k : (c, without cs) ≡ r = cc in
    let f : r.0 ≡ c = sym (ap (λ (p : ℕ × Account). p.0) k) in
    inl (cs, rw f refl, sym (ap (λ (p : ℕ × Account). p.1) k), refl)
front_taken true without [] larger r e = inr e
front_taken false without free larger r e = inr e

pub leaves : (a : Account) (words : ℕ) (r : ℕ × Account) → take_cell a words ≡ Some r → Leaves a r.0 r.1
leaves a words r e =
    elim (front_taken (nat_le words 4) (λ cs. record a { small = cs }) a.small _ r e) [
      | inl k ↦ rw k.2 (record {
        times = λ d. let m = ap (times d) k.1 in omega (arith, m);
        fewer = (let m = ap length k.1 in omega (arith, m));
      })
      | inr f ↦ elim (front_taken (nat_le words 32) (λ cs. record a { medium = cs }) a.medium _ r f) [
        | inl k ↦ rw k.2 (record {
          times = λ d. let m = ap (times d) k.1 in omega (arith, m);
          fewer = (let m = ap length k.1 in omega (arith, m));
        })
        | inr g ↦ elim (front_taken (nat_le words 256) (λ cs. record a { large = cs }) a.large _ r g) [
          | inl k ↦ rw k.2 (record {
            times = λ d. let m = ap (times d) k.1 in omega (arith, m);
            fewer = (let m = ap length k.1 in omega (arith, m));
          })
          | inr n ↦ absurd (cc)
        ]
      ]
    ]

-- as the code takes it
module _ (cells : List Cell) (old new : FreeLists) (queue : Buffer ℕ) (phase : Phase) (words c : ℕ) (r : Option ℕ)
    (taken : (a : Account) → take_cell (listing a old) words ≡ option_map (λ d. (d, listing a new)) r) (is : r ≡ Some c)
  where
    pub takes : take_cell (account_of cells old queue phase) words ≡ Some (c, account_of cells new queue phase)
    takes = taken (account_of cells old queue phase) ∙ ap (option_map (λ d. (d, account_of cells new queue phase))) is

    pub takes_leave : Leaves (account_of cells old queue phase) c (account_of cells new queue phase)
    takes_leave = leaves _ words (c, account_of cells new queue phase) takes

-- what is taken is there and free
pub is_free : (a : Account) (c : ℕ) (b : Account) → Sound a → Leaves a c b → 1 ≤ free_at a.cells c
is_free a c b h k = let t = k.times c in let one = one_if-same c in let m = h.listed c in omega (arith, t, one, m)

pub is_within : (a : Account) (c : ℕ) (b : Account) → Sound a → Leaves a c b → c < length a.cells
is_within a c b h k = free_at_within a.cells c (is_free a c b h k)

-- the cell that is taken, if one has room, is one of the heap's
pub taken_there : (a : Account) (words : ℕ) → Sound a → IfSome (take_cell a words) (λ taken. taken.0 < length a.cells)
taken_there a words h = by (take_cell a words) refl
  where
    by : (o : Option (ℕ × Account)) → take_cell a words ≡ o → IfSome o (λ taken. taken.0 < length a.cells)
    by None e = tt
    by (Some r) e = is_within a r.0 r.1 h (leaves a words r e)

pub is_free_there : (a : Account) (c : ℕ) (b : Account) → Sound a → Leaves a c b → slice_get a.cells c ≡ Some Free
is_free_there a c b h k = free_at_found a.cells c (is_free a c b h k)

pub is_not_grey : (a : Account) (c : ℕ) (b : Account) → Sound a → Leaves a c b → grey_in (cell_at a.cells c) ≡ 0
is_not_grey a c b h k = let free = free_at_free a.cells c (is_free a c b h k) in rw free refl

-- a birth comes into it, and the grey list follows
pub came : (a : Account) (c : ℕ) (b : Account) (birth : ℕ) (colour : Colour) (grey : List ℕ) → Sound a → Leaves a c b
    → length grey ≤ length a.grey + grey_in (Taken birth colour)
    → Sound (record b { cells = set a.cells c (Taken birth colour); grey = grey })
came a c b birth colour grey h k f =
    let one = is_free a c b h k in
    let l = free_at_within a.cells c one in
    let free : cell_at a.cells c ≡ Free = free_at_free a.cells c one in
    let was : grey_in (cell_at a.cells c) ≡ 0 = rw free refl in
    let is : free_in (cell_at a.cells c) ≡ 1 = rw free refl in
    let fewer = k.fewer in
    let t = k.times c in
    let same = one_if-same c in
    let m = h.listed c in
    let most = free_at_one a.cells c in
    written a c (Taken birth colour) _ h l (record {
      cells = refl;
      grey = omega (arith, was, f);
      free = omega (arith, is, fewer);
      here = omega (arith, t, same, m, most);
      elsewhere = λ d n. let u = k.times d in omega (arith, u);
    })

-- ---- a cell is given back

-- at the end of one of the lists
listed_more : (a : Account) (c d : ℕ) (small medium : Bool)
    → (times_listed d (listed_in a c small medium) ≡ times_listed d a + one_if d c)
    × (how_many_listed (listed_in a c small medium) ≡ how_many_listed a + 1)
listed_more a c d true medium = let k = times-push d a.small c
    in let n = length-append a.small (c ∷ []) in (omega (arith, k), omega (arith, n))
listed_more a c d false true = let k = times-push d a.medium c
    in let n = length-append a.medium (c ∷ []) in (omega (arith, k), omega (arith, n))
listed_more a c d false false = let k = times-push d a.large c
    in let n = length-append a.large (c ∷ []) in (omega (arith, k), omega (arith, n))

pub given : (cells : List Cell) (old new : FreeLists) (queue : Buffer ℕ) (phase : Phase) (shape : HeapShape) (c : ℕ)
    → Sound (account_of cells old queue phase) → c < length cells → free_in (cell_at cells c) ≡ 0
    → grey_in (cell_at cells c) ≡ 0 → ((a : Account) → listing a new ≡ with_free shape (listing a old) c)
    → Sound (account_of (set cells c Free) new queue phase)
given cells old new queue phase shape c h l none white lists =
    let a = account_of cells old queue phase in
    let more = λ (d : ℕ). listed_more a c d (nat_lt c shape.small) (nat_lt c (shape.small + shape.medium)) in
    let here = more c in
    let e = lists a in
    let t = λ (d : ℕ). ap (times_listed d) e ∙ (more d).0 in
    let many = ap how_many_listed e ∙ here.1 in
    let at_c = t c in
    let same = one_if-same c in
    let out = unlisted a c h l none in
    written a c Free _ h l (record {
      cells = refl;
      grey = omega (arith, white);
      free = omega (arith, none, many);
      here = omega (arith, at_c, same, out);
      elsewhere = λ d n. let u = t d in let z = one_if-other d c n in omega (arith, u, z);
    })
