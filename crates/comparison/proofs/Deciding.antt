-- What `==` and comparisons part by part tell.
use Rattle.std.proofs.Common.{rules, ◌≡◌, ◌<◌, ◌≤◌, ◌-◌, Decides, Bool, true, false, ◌&&◌, ℕ, suc, List, [], ◌∷◌}
use Rattle.std.proofs.Common.{length, slice_get, refl, ap, arith}
use Rattle.std.proofs.lemmas.Slice.Eq.{slice_eq-Decides}
use Rattle.std.specs.Cmp.Lexicographic.{pointwise}
use Rattle.model.specs.declared.turns.ClassState.{ClassState}
use Rattle.model.specs.declared.values.Entry.{Entry}
use Rattle.model.specs.declared.values.Value.{Value}
use Rattle.model.specs.contracts.turns.ClassStatePartialEq.TheImpl as state
use Rattle.model.specs.contracts.values.EntryPartialEq.TheImpl as entry
use Rattle.model.specs.contracts.values.ValuePartialEq.TheImpl as value
use Rattle.model.specs.Frames.{Frame}
use Rattle.model.specs.Shows.{Held, kind_of_contents, values_in}
use Rattle.model.specs.Worlds.{Object}
use Rattle.instructions.specs.HeldOnCells.{held_of}

value_decides : (a b : Value) → Decides ((value.ghosts).eq a b) (a ≡ b)
value_decides a b = search rules

entry_decides : (a b : Entry) → Decides ((entry.ghosts).eq a b) (a ≡ b)
entry_decides a b = search (rules, value_decides)

state_decides : (a b : ClassState) → Decides ((state.ghosts).eq a b) (a ≡ b)
state_decides a b = search rules

pub values_decide : (a b : List Value) (r : Bool) → r ≡ pointwise (value.ghosts).eq a b → Decides r (a ≡ b)
values_decide = slice_eq-Decides value_decides

pub entries_decide : (a b : List Entry) (r : Bool) → r ≡ pointwise (entry.ghosts).eq a b → Decides r (a ≡ b)
entries_decide = slice_eq-Decides entry_decides

pub states_decide : (a b : List ClassState) (r : Bool) → r ≡ pointwise (state.ghosts).eq a b → Decides r (a ≡ b)
states_decide = slice_eq-Decides state_decides

-- a frame by its parts
abbrev SamePlace : Frame → Frame → Type 0
SamePlace f g = (f.method ≡ g.method) × (f.pc ≡ g.pc)

abbrev SameGuard : Frame → Frame → Type 0
SameGuard f g = (f.room ≡ g.room) × (f.monitor ≡ g.monitor) × (f.mark ≡ g.mark)

pub frame_decides : (f g : Frame) (stack locals place guard : Bool) → Decides stack (f.stack ≡ g.stack)
    → Decides locals (f.locals ≡ g.locals)
    → Decides place (SamePlace f g) → Decides guard (SameGuard f g) → Decides (((stack && locals) && place) && guard) (f
    ≡ g)
frame_decides f g true true true true s l p u =
    (λ e. rw (s.0 refl, l.0 refl, (p.0 refl).0, (p.0 refl).1, (u.0 refl).0, (u.0 refl).1, (u.0 refl).2) refl, λ e. refl)
frame_decides f g false locals place guard s l p u = (λ e. absurd (cc), λ e. s.1 (ap (λ (h : Frame). h.stack) e))
frame_decides f g true false place guard s l p u = (λ e. absurd (cc), λ e. l.1 (ap (λ (h : Frame). h.locals) e))
frame_decides f g true true false guard s l p u = (
  λ e. absurd (cc),
  λ e. p.1 (
    ap (λ (h : Frame). h.method) e,
    ap (λ (h : Frame). h.pc) e,
  ),
)
frame_decides f g true true true false s l p u = (
  λ e. absurd (cc),
  λ e. u.1 (
    ap (λ (h : Frame). h.room) e,
    ap (λ (h : Frame). h.monitor) e,
    ap (λ (h : Frame). h.mark) e,
  ),
)

-- an object by its parts
abbrev SameOwned : Object → Held → Type 0
SameOwned o h = (o.monitor ≡ h.monitor) × (o.thread ≡ h.thread)

pub object_decides : (o : Object) (h : Held) (kind words owned : Bool)
    → Decides kind (kind_of_contents o.contents ≡ h.kind)
    → Decides words (values_in o.contents ≡ h.words) → Decides owned (SameOwned o h)
    → Decides ((kind && words) && owned) (held_of h.birth o ≡ h)
object_decides o h true true true k w u = (λ e. rw (k.0 refl, w.0 refl, (u.0 refl).0, (u.0 refl).1) refl, λ e. refl)
object_decides o h false words owned k w u = (λ e. absurd (cc), λ e. k.1 (ap (λ (g : Held). g.kind) e))
object_decides o h true false owned k w u = (λ e. absurd (cc), λ e. w.1 (ap (λ (g : Held). g.words) e))
object_decides o h true true false k w u = (
  λ e. absurd (cc),
  λ e. u.1 (
    ap (λ (g : Held). g.monitor) e,
    ap (λ (g : Held). g.thread) e,
  ),
)

-- two lists, element by element: the first ones are the same
abbrev pub Agree : {A : Type 0} → ℕ → List A → List A → Type 0
Agree n xs ys = (k : ℕ) → k < n → slice_get xs k ≡ slice_get ys k

pub agree_all : {A : Type 0} (xs ys : List A) (n : ℕ) → length xs ≡ length ys → length xs ≤ n → Agree n xs ys → xs ≡ ys
agree_all [] [] n same end agree = refl
agree_all [] (y ∷ ys) n same end agree = absurd (omega (arith, same))
agree_all (x ∷ xs) [] n same end agree = absurd (omega (arith, same))
agree_all (x ∷ xs) (y ∷ ys) n same end agree =
    let first : x ≡ y = let e = agree 0 (omega (arith, end)) in cc in
    let rest : xs ≡ ys = agree_all xs ys (n - 1) (omega (arith, same)) (omega (arith, end))
    (λ k below. agree (suc k) (omega (arith, below))) in
    rw (first, rest) refl

pub agreed : {A : Type 0} (xs ys : List A) (n : ℕ) → length xs ≡ length ys → length xs ≤ n → Agree n xs ys
    → Decides true (xs ≡ ys)
agreed xs ys n same end agree = (λ e. agree_all xs ys n same end agree, λ e. refl)

pub ruleset deciding = (values_decide, entries_decide, states_decide, frame_decides, object_decides)
