use Rattle.std.proofs.Common.{◌≡◌, ◌⊎◌, inl, inr, ℕ, zero, suc, ◌+◌, ◌<◌, ◌≤◌, List, [], ◌++◌, length, set, replicate}
use Rattle.std.proofs.Common.{Some, refl, ap, arith}
use Rattle.model.specs.declared.colours.Colour.{Colour}
use Rattle.model.specs.declared.colours.Colour.TheVariants.{White, Grey, Black}
use Rattle.model.specs.declared.colours.Phase.TheVariants.{Idle}
use Rattle.model.specs.declared.journals.HeapShape.{HeapShape}
use Rattle.model.specs.Accounts.{Account, numbers_up, empty_account, opening_account, placed, take_cell}
use Rattle.model.specs.declared.colours.Cell.{Cell}
use Rattle.model.specs.declared.colours.Cell.TheVariants.{Free, Taken}
use Rattle.model.specs.ClassListings.{ClassListing}
use Rattle.model.specs.Frames.{Frame}
use Rattle.model.specs.Programs.{main_in}
use Rattle.model.specs.Initialisation.{main_frames, initializer_frames, first_claim, opening_frames}
use Rattle.model.specs.Worlds.{opening_world, opening_objects}
use Rattle.model.specs.Collector.Moves.{FramesMove}
use Rattle.model.proofs.CollectorLemmas.Moving.{refs-at, entries-at, monitor-at}
use Rattle.model.proofs.CollectorLemmas.Table.Initialisation.{both_move, waiting_move, main_moves, initializers_move}
use Rattle.model.specs.Collector.Places.{Place, ref_at, entries_at, monitor_at, words_of, root_at, word_at}
use Rattle.model.specs.Collector.Places.Place.{MemoryError, StackError, Slot, FrameEntry, MethodMonitor}
use Rattle.model.specs.Collector.Table.{cell_at}
use Rattle.model.specs.Collector.Invariant.{In, Distinct, Spare, Tidy, Invariant}
use Rattle.model.proofs.CollectorLemmas.Cells.{same_or_not}
use Rattle.model.proofs.CollectorLemmas.Words.{nowhere_at, opening_nowhere}
use Rattle.model.proofs.CollectorLemmas.Taking.{relisted, Takes, takes, came_before, came_after, came_here, placed_is}
use Rattle.model.proofs.CollectorLemmas.Taking.{room_for_none}

-- the opening meets the invariant

-- ---- the account without a birth

no_birth : (n c b : ℕ) (x : Colour) → cell_at (replicate n Free) c ≡ Taken b x → ⊥
no_birth zero c b x e = cc
no_birth (suc n) zero b x e = cc
no_birth (suc n) (suc c) b x e = no_birth n c b x e

all_free : (n c : ℕ) → cell_at (replicate n Free) c ≡ Free
all_free zero c = refl
all_free (suc n) zero = refl
all_free (suc n) (suc c) = all_free n c

length-free : (n : ℕ) → length (replicate n Free) ≡ n
length-free zero = refl
length-free (suc n) = ap suc (length-free n)

numbers-within : (n first c : ℕ) → In c (numbers_up first n) → (first ≤ c) × (c < first + n)
numbers-within zero first c h = absurd h
numbers-within (suc n) first c (inl e) = (omega arith, omega arith)
numbers-within (suc n) first c (inr h) = let k = numbers-within n (first + 1) c h in (omega arith, omega arith)

numbers-all : (n first c : ℕ) → first ≤ c → c < first + n → In c (numbers_up first n)
numbers-all zero first c l u = absurd (omega arith)
numbers-all (suc n) first c l u = elim (same_or_not first c) [
  | inl e ↦ inl e
  | inr ne ↦
      inr (numbers-all n (first + 1) c (grind arith) (omega arith))
]

numbers-distinct : (n first : ℕ) → Distinct (numbers_up first n)
numbers-distinct zero first = tt
numbers-distinct (suc n) first = (
  λ h. let k = numbers-within n (first + 1) first h in omega arith,
  numbers-distinct n (first + 1),
)

length-numbers : (n first : ℕ) → length (numbers_up first n) ≡ n
length-numbers zero first = refl
length-numbers (suc n) first = ap suc (length-numbers n (first + 1))

spare-opening : (cells first past n : ℕ) → past ≡ first + n
    → Spare (replicate cells Free) first past (numbers_up first n)
spare-opening cells first past n e = record {
  unused = λ c h. all_free cells c;
  fits = λ c h. (let k = numbers-within n first c h in (k.0, (let u = k.1 in omega arith)));
  listed = λ c l u h. numbers-all n first c l (omega arith);
  once = numbers-distinct n first;
}

tidy-empty : (shape : HeapShape) → Tidy shape 1 (empty_account shape)
tidy-empty shape =
    let cells = shape.small + shape.medium + shape.large in
    record {
      sized = length-free cells;
      one = λ c d b x y k l. absurd (no_birth cells c b x k);
      some = λ c x k. no_birth cells c 0 x k;
      born = λ c b x k. absurd (no_birth cells c b x k);
      listed = λ b c k. absurd (no_birth cells c b Grey k);
      only_grey = λ b h. absurd h;
      once = tt;
      small = spare-opening cells 0 shape.small shape.small (omega arith);
      medium = spare-opening cells shape.small (shape.small + shape.medium) shape.medium refl;
      large = spare-opening cells (shape.small + shape.medium) (shape.small + shape.medium + shape.large) shape.large
          refl;
    }

-- ---- births 1 and 2 come

-- what the opening account is: births 1 and 2 in two cells, white, no other birth, none grey
record Opens (shape : HeapShape) (o : Account) : Type 0 where
  cells : List Cell
  small : List ℕ
  medium : List ℕ
  large : List ℕ
  is : o ≡ record { cells = cells; small = small; medium = medium; large = large; grey = []; phase = Idle }
  tidy : Tidy shape 3 (record { cells = cells; small = small; medium = medium; large = large; grey = []; phase = Idle })
  memory : (c : ℕ) × (cell_at cells c ≡ Taken 1 White)
  stack : (c : ℕ) × (cell_at cells c ≡ Taken 2 White)
  white : (c b : ℕ) (x : Colour) → cell_at cells c ≡ Taken b x → x ≡ White

-- the first birth came
record Begins (shape : HeapShape) (o : Account) : Type 0 where
  cells : List Cell
  small : List ℕ
  medium : List ℕ
  large : List ℕ
  is : o ≡ record { cells = cells; small = small; medium = medium; large = large; grey = []; phase = Idle }
  tidy : Tidy shape 2 (record { cells = cells; small = small; medium = medium; large = large; grey = []; phase = Idle })
  memory : (c : ℕ) × (cell_at cells c ≡ Taken 1 White)
  white : (c b : ℕ) (x : Colour) → cell_at cells c ≡ Taken b x → x ≡ White
  left : 1 ≤ length small + length medium + length large

begins : (shape : HeapShape) → 2 ≤ shape.small + shape.medium + shape.large
    → Begins shape (placed (empty_account shape) 1 0 White)
begins shape two =
    let o = empty_account shape in
    let a = length-numbers shape.small 0 in
    let b = length-numbers shape.medium shape.small in
    let d = length-numbers shape.large (shape.small + shape.medium) in
    let room = room_for_none o o.small o.medium o.large (omega arith) in
    let t = takes shape 1 o 0 room.0 room.1 (tidy-empty shape) in
    let c = room.0.0 in
    let came = came_here 1 c White o.cells t.within t.was_free in
    record {
      cells = set o.cells c (Taken 1 White);
      small = t.small;
      medium = t.medium;
      large = t.large;
      is = placed_is shape 1 o 0 White room.0 t room.1;
      tidy = t.tidy White (omega arith);
      memory = (c, came.here);
      white = λ e y x k. elim (came_before 1 c White _ _ came e y x k) [
        | inl s ↦ s.2
        | inr s ↦ absurd (no_birth _ e y x s)
      ];
      left = (let l = t.left in omega arith);
    }

-- birth 2 comes into an account that is known
second_is : (shape : HeapShape) (a b : Account) (r : ℕ × Account) (t : Takes shape 2 b r.0 r.1) → a ≡ b → take_cell b 0
    ≡ Some r → placed a 2 0 White ≡ record (relisted b t.small t.medium t.large)
    { cells = set b.cells r.0 (Taken 2 White) }
second_is shape a b r t e f = rw e (placed_is shape 2 b 0 White r t f)

opens : (shape : HeapShape) → 2 ≤ shape.small + shape.medium + shape.large → Opens shape (opening_account shape)
opens shape two =
    let f = begins shape two in
    let o : Account = record {
      cells = f.cells;
      small = f.small;
      medium = f.medium;
      large = f.large;
      grey = [];
      phase = Idle;
    } in
    let room = room_for_none o f.small f.medium f.large f.left in
    let t = takes shape 2 o 0 room.0 room.1 f.tidy in
    let c = room.0.0 in
    let came = came_here 2 c White f.cells t.within t.was_free in
    record {
      cells = set f.cells c (Taken 2 White);
      small = t.small;
      medium = t.medium;
      large = t.large;
      is = second_is shape (placed (empty_account shape) 1 0 White) o room.0 t f.is room.1;
      tidy = t.tidy White (omega arith);
      memory = (f.memory.0, came_after 2 c White _ _ came f.memory.0 1 White f.memory.1);
      stack = (c, came.here);
      white = λ e y x k. elim (came_before 2 c White _ _ came e y x k) [ inl s ↦ s.2 | inr s ↦ f.white e y x s ];
    }

-- ---- the opening world leads to no other birth

-- frames at their starts lead nowhere
abbrev Nowhere : ℕ → Type 0
Nowhere b = ⊥

opening_nowhere_led : (program : List ClassListing) → FramesMove Nowhere [] (opening_frames program)
opening_nowhere_led program =
    let main = main_frames program (main_in program) in
    let initializers = initializer_frames program (first_claim program) in
    waiting_move Nowhere (main ++ initializers)
    (both_move Nowhere main initializers (main_moves Nowhere program (main_in program))
    (initializers_move Nowhere program (first_claim program)))

no_entry : (frames : List Frame) (d j b : ℕ) → FramesMove Nowhere [] frames → ref_at (entries_at frames d) j ≡ Some b
    → ⊥
no_entry frames d j b h e = elim (refs-at Nowhere [] (entries_at frames d) j b (entries-at Nowhere [] frames d h) e) [
  | inl l ↦ cc
  | inr n ↦ n
]

no_monitor : (frames : List Frame) (d b : ℕ) → FramesMove Nowhere [] frames → monitor_at frames d ≡ Some b → ⊥
no_monitor frames d b h e = elim (monitor-at Nowhere [] frames d h b e) [ inl l ↦ cc | inr n ↦ n ]

opening_roots : (program : List ClassListing) (p : Place) (b : ℕ) → root_at (opening_world program) p ≡ Some b
    → (b ≡ 1) ⊎ (b ≡ 2)
unfolding root_at
opening_roots program MemoryError b e = inl cc
opening_roots program StackError b e = inr cc
opening_roots program (Slot s) b e = absurd (nowhere_at _ s b (opening_nowhere program) e)
opening_roots program (FrameEntry zero d j) b e = absurd (no_entry (opening_frames program) d j b
    (opening_nowhere_led program) e)
opening_roots program (FrameEntry (suc t) d j) b e = absurd (no_entry [] d j b tt e)
opening_roots program (MethodMonitor zero d) b e = absurd (no_monitor (opening_frames program) d b
    (opening_nowhere_led program) e)
opening_roots program (MethodMonitor (suc t) d) b e = absurd (no_monitor [] d b tt e)

no_word : (x k b : ℕ) → ref_at (words_of opening_objects x) k ≡ Some b → ⊥
no_word zero k b e = cc
no_word (suc zero) k b e = cc
no_word (suc (suc zero)) k b e = cc
no_word (suc (suc (suc x))) k b e = cc

opening_words : (program : List ClassListing) (x k b : ℕ) → word_at (opening_world program) x k ≡ Some b → ⊥
unfolding word_at
opening_words program x k b e = no_word x k b e

pub opening_keeps : (program : List ClassListing) (shape : HeapShape) → 2 ≤ shape.small + shape.medium + shape.large
    → Invariant shape (opening_world program) 3 (opening_account shape)
opening_keeps program shape two =
    let o = opens shape two in
    rw o.is (record {
      tidy = o.tidy;
      roots = λ p b e. elim (opening_roots program p b e) [
        | inl s ↦ record { cell = o.memory.0; colour = White; held = rw s (o.memory.1); kept = tt }
        | inr s ↦ record { cell = o.stack.0; colour = White; held = rw s (o.stack.1); kept = tt }
      ];
      words = λ c b x k b' h kept e. absurd (opening_words program b k b' e);
      scanned = λ p b s e. absurd s;
      unblack = λ c b h u. (let k = o.white c b Black h in cc);
      marked = λ c b k b' m h e. absurd m;
      front = λ b k b' f e. absurd f;
      begun = tt;
    })
