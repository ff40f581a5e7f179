use Rattle.std.proofs.Common.{◌≡◌, ◌⊎◌, inl, inr, ℕ, ◌+◌, ◌≤◌, true, List, [], ◌∷◌, ◌++◌, set, Option, Some, None}
use Rattle.std.proofs.Common.{IsTrue, is_some, refl, arith}
use Rattle.model.specs.declared.colours.Colour.TheVariants.{White, Grey, Black}
use Rattle.model.specs.declared.colours.Phase.{Phase}
use Rattle.model.specs.declared.journals.HeapShape.{HeapShape}
use Rattle.model.specs.Accounts.{Account, take_cell, in_cell, new_object, shade_all}
use Rattle.model.specs.declared.colours.Cell.{Cell}
use Rattle.model.specs.declared.colours.Cell.TheVariants.{Taken}
use Rattle.model.specs.Worlds.{World, next_birth}
use Rattle.model.specs.Collector.Places.{Place, root_at, word_at}
use Rattle.model.specs.Collector.Places.Place.{MemoryError}
use Rattle.model.specs.Collector.Invariant.{In, HasKept, NotWhite, Tidy, Invariant}
use Rattle.model.specs.Collector.Changes.{Change, IsNew, births_after, Fresh, Allowed, RoomFor, changed}
use Rattle.model.proofs.CollectorLemmas.Cells.{kept-grey}
use Rattle.model.proofs.CollectorLemmas.Shading.{reach_kept, one_colour, fronted_before, begun_after, kept_in_all}
use Rattle.model.proofs.CollectorLemmas.Shading.{not_white_in_all, shaded_not_white, shade_all_keeps}
use Rattle.model.proofs.CollectorLemmas.Taking.{relisted, Takes, takes, Came, came_before, came_after, came_here}
use Rattle.model.proofs.CollectorLemmas.Taking.{came_in}
use Rattle.model.proofs.CollectorLemmas.Bounds.{words_made}

-- a thread's turn keeps the invariant: the new birth comes, the writes are shaded one by one, and then the world
-- changes

-- ---- the world changes

pub record Safe (a : Account) (b : ℕ) : Type 0 where
  pub kept : HasKept a.phase a.cells b
  pub not_white : NotWhite a.cells b

pub record Follows (w v : World) (a : Account) : Type 0 where
  pub roots : (p : Place) (b : ℕ) → root_at v p ≡ Some b → (root_at w p ≡ Some b) ⊎ Safe a b
  pub words : (x k b : ℕ) → word_at v x k ≡ Some b → (word_at w x k ≡ Some b) ⊎ Safe a b

pub world_keeps : (shape : HeapShape) (w v : World) (n : ℕ) (a : Account) → Follows w v a → Invariant shape w n a
    → Invariant shape v n a
world_keeps shape w v n a f i = record {
  tidy = i.tidy;
  roots = λ p b e. elim (f.roots p b e) [ inl o ↦ i.roots p b o | inr s ↦ s.kept ];
  words = λ c x y k b h kept e. elim (f.words x k b e) [ inl o ↦ i.words c x y k b h kept o | inr s ↦ s.kept ];
  scanned = λ p b s e. elim (f.roots p b e) [ inl o ↦ i.scanned p b s o | inr s ↦ s.not_white ];
  unblack = i.unblack;
  marked = λ c x k b m h e. elim (f.words x k b e) [ inl o ↦ i.marked c x k b m h o | inr s ↦ s.not_white ];
  front = λ x k b h e. elim (f.words x k b e) [ inl o ↦ i.front x k b h o | inr s ↦ s.not_white ];
  begun = i.begun;
}

-- ---- the new birth comes

came_kept : (n c : ℕ) (old new : List Cell) → Came n c Grey old new → (phase : Phase) (b : ℕ) → HasKept phase old b
    → HasKept phase new b
came_kept n c old new h phase b k = record {
  cell = k.cell;
  colour = k.colour;
  held = came_after n c Grey old new h k.cell b k.colour k.held;
  kept = k.kept;
}

came_not_white : (n c : ℕ) (old new : List Cell) → Came n c Grey old new → (b : ℕ) → NotWhite old b → NotWhite new b
came_not_white n c old new h b k = record {
  never = λ d e. elim (came_before n c Grey old new h d b White e) [
    | inl s ↦ (let z = s.2 in cc)
    | inr s ↦ k.never d s
  ];
}

-- after the new birth came
pub record Opened (shape : HeapShape) (w : World) (object : Option ℕ) (a b : Account) : Type 0 where
  pub inv : Invariant shape w (births_after object (next_birth w)) b
  pub new : (x : ℕ) → IsNew object (next_birth w) x → Safe b x
  pub old : (x : ℕ) → HasKept a.phase a.cells x → HasKept b.phase b.cells x

-- birth 1 was made before
some_birth : (shape : HeapShape) (w : World) (n : ℕ) (a : Account) → Invariant shape w n a → 1 ≤ n
unfolding root_at
some_birth shape w n a i = let k = i.roots MemoryError 1 refl
    in let lt = i.tidy.born k.cell 1 k.colour k.held in omega arith

-- the new birth has no words yet
came_keeps : (shape : HeapShape) (w : World) (n c : ℕ) (a : Account) (s m l : List ℕ)
    → Came n c Grey a.cells (set a.cells c (Taken n Grey)) → Tidy shape (n + 1) (came_in (relisted a s m l) c n Grey)
    → ((k b : ℕ) → word_at w n k ≡ Some b → ⊥) → Invariant shape w n a
    → Invariant shape w (n + 1) (came_in (relisted a s m l) c n Grey)
came_keeps shape w n c a s m l came tidy none i =
    let new = set a.cells c (Taken n Grey) in
    let kept = came_kept n c a.cells new came a.phase in
    let light = came_not_white n c a.cells new came in
    record {
      tidy = tidy;
      roots = λ p b r. kept b (i.roots p b r);
      words = λ d b x k b' h q f. elim (came_before n c Grey a.cells new came d b x h) [
        | inl s ↦ absurd (none k b' (rw s.1 at f))
        | inr s ↦ kept b' (i.words d b x k b' s q f)
      ];
      scanned = λ p b s r. light b (i.scanned p b s r);
      unblack = λ d b h u. elim (came_before n c Grey a.cells new came d b Black h) [
        | inl s ↦ (let z = s.2 in cc)
        | inr s ↦ i.unblack d b s u
      ];
      marked = λ d b k b' m h f. elim (came_before n c Grey a.cells new came d b Black h) [
        | inl s ↦ (let z = s.2 in absurd (cc))
        | inr s ↦ light b' (i.marked d b k b' m s f)
      ];
      front = λ x k b' f h. light b' (i.front x k b' (fronted_before a.phase a.grey n true x k i.begun f) h);
      begun = begun_after a.phase a.grey n true i.begun;
    }

opened_here : (shape : HeapShape) (w : World) (words c : ℕ) (a b : Account) → Takes shape (next_birth w) a c b
    → Invariant shape w (next_birth w) a
    → Opened shape w (Some words) a (record b {
      cells = set b.cells c (Taken (next_birth w) Grey);
      grey = b.grey ++ next_birth w ∷ [];
    })
opened_here shape w words c a b t i =
    let n = next_birth w in
    let base = relisted a t.small t.medium t.large in
    let came = came_here n c Grey a.cells t.within t.was_free in
    let tidy = t.tidy Grey (some_birth shape w n a i) in
    let kept = came_kept n c a.cells (set a.cells c (Taken n Grey)) came a.phase in
    rw t.is (record {
      inv = came_keeps shape w n c a t.small t.medium t.large came tidy
          (λ k x e. (let lt = words_made w n k x e in omega arith)) i;
      new = λ x s. rw s (record {
        kept = record { cell = c; colour = Grey; held = came.here; kept = kept-grey a.phase c };
        not_white = record {
          never = λ d k. (let z = one_colour shape (n + 1) (came_in base c n Grey) tidy c d n Grey
              White came.here k in cc);
        };
      });
      old = λ x k. kept x k;
    })

opened_by : (shape : HeapShape) (w : World) (words : ℕ) (a : Account) (o : Option (ℕ × Account)) → take_cell a words ≡ o
    → IsTrue (is_some o) → Invariant shape w (next_birth w) a
    → Opened shape w (Some words) a (record (in_cell a (next_birth w) Grey o)
    { grey = (in_cell a (next_birth w) Grey o).grey ++ next_birth w ∷ [] })
opened_by shape w words a (Some r) e room i = opened_here shape w words r.0 a r.1
    (takes shape (next_birth w) a words r e i.tidy) i
opened_by shape w words a None e room i = absurd (cc)

pub opened : (shape : HeapShape) (w : World) (object : Option ℕ) (a : Account) → RoomFor object a
    → Invariant shape w (next_birth w) a → Opened shape w object a (new_object a (next_birth w) object)
opened shape w (Some words) a room i = opened_by shape w words a (take_cell a words) refl room i
opened shape w None a room i = record { inv = i; new = λ x s. absurd s; old = λ x k. k }

-- ---- the turn

pub changed_keeps : (shape : HeapShape) (w : World) (a : Account) (c : Change) → RoomFor c.object a → Allowed w c
    → Invariant shape w (next_birth w) a → Invariant shape c.after (next_birth c.after) (changed w a c)
unfolding changed
changed_keeps shape w a c room h i =
    let n = next_birth w in
    let b = new_object a n c.object in
    let o = opened shape w c.object a room i in
    let e = shade_all b c.writes in
    let written = λ (x : ℕ) (k : In x c.writes). elim (h.writes x k) as (λ _. HasKept b.phase b.cells x) [
      | inl s ↦ (o.new x s).kept
      | inr r ↦ o.old x (reach_kept shape w n a x i r)
    ] in
    let shaded = shade_all_keeps shape w (births_after c.object n) c.writes b written o.inv in
    let safe = λ (x : ℕ) (f : Fresh w c x). elim f as (λ _. Safe e x) [
      | inl s ↦ record {
        kept = kept_in_all c.writes b x (o.new x s).kept;
        not_white = not_white_in_all c.writes b x (o.new x s).not_white;
      }
      | inr k ↦ record { kept = kept_in_all c.writes b x (written x k); not_white = shaded_not_white c.writes b x k }
    ] in
    let follows : Follows w c.after e = record {
      roots = λ p x r. elim (h.roots p x r) [ inl y ↦ inl y | inr f ↦ inr (safe x f) ];
      words = λ y k x r. elim (h.words y k x r) [ inl z ↦ inl z | inr f ↦ inr (safe x f) ];
    } in
    rw h.counted (world_keeps shape w c.after (births_after c.object n) e follows shaded)
