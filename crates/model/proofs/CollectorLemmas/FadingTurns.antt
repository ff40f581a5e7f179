use Rattle.std.proofs.Common.{◌≡◌, inl, inr, ℕ, ◌<◌, List, [], ◌∷◌, set, Option, Some, None, IsTrue, is_some, refl}
use Rattle.std.proofs.Common.{arith}
use Rattle.model.specs.declared.colours.Colour.TheVariants.{Grey}
use Rattle.model.specs.declared.journals.HeapShape.{HeapShape}
use Rattle.model.specs.Accounts.{Account, shade, shade_all, take_cell, in_cell, new_object}
use Rattle.model.specs.declared.colours.Cell.TheVariants.{Taken}
use Rattle.model.specs.Worlds.{World, next_birth}
use Rattle.model.specs.Collector.Invariant.{In, Tidy}
use Rattle.model.specs.Collector.Changes.{Change, IsNew, births_after, Fresh, Allowed, RoomFor, changed}
use Rattle.model.proofs.CollectorLemmas.Shading.{shade_darker, shade_phase}
use Rattle.model.proofs.CollectorLemmas.Taking.{Takes, takes, came_before, came_here}
use Rattle.model.proofs.CollectorLemmas.Fading.{Fades, Apart, not_reached, darker_fades}

-- what no path reaches fades over a thread's turn: nothing that is lost is written, and the new birth isn't lost
module _ (L : ℕ → Type 0) where
  new_not_lost : (object : Option ℕ) (n b : ℕ) → ((x : ℕ) → L x → x < n) → IsNew object n b → L b → ⊥
  new_not_lost (Some words) n b old e l = let lt = old b l in omega arith
  new_not_lost None n b old e l = e

  written_not_lost : (w : World) (c : Change) (b : ℕ) → Allowed w c → Apart L w → ((x : ℕ) → L x → x < next_birth w)
      → In b c.writes → L b → ⊥
  written_not_lost w c b h a old k l = elim (h.writes b k) [
    | inl s ↦ new_not_lost c.object (next_birth w) b old s l
    | inr r ↦ not_reached L w b a r l
  ]

  fresh_not_lost : (w : World) (c : Change) (b : ℕ) → Allowed w c → Apart L w → ((x : ℕ) → L x → x < next_birth w)
      → Fresh w c b → L b → ⊥
  fresh_not_lost w c b h a old (inl s) l = new_not_lost c.object (next_birth w) b old s l
  fresh_not_lost w c b h a old (inr k) l = written_not_lost w c b h a old k l

  pub apart_after : (w : World) (c : Change) → Allowed w c → Apart L w → ((x : ℕ) → L x → x < next_birth w)
      → Apart L c.after
  apart_after w c h a old = record {
    roots = λ p b e l. elim (h.roots p b e) [ inl o ↦ a.roots p b o l | inr f ↦ fresh_not_lost w c b h a old f l ];
    words = λ x k b e l. elim (h.words x k b e) [
      | inl o ↦ a.words x k b o l
      | inr f ↦ absurd (fresh_not_lost w c b h a old f l)
    ];
  }

  all_fades : (s : ℕ) (bs : List ℕ) (a : Account) → ((b : ℕ) → In b bs → L b → ⊥) → Fades L s a.phase a.cells
      → Fades L s (shade_all a bs).phase (shade_all a bs).cells
  all_fades s [] a n f = f
  all_fades s (b ∷ bs) a n f =
      all_fades s bs (shade a b) (λ x k. n x (inr k))
      (rw (shade_phase a b) (darker_fades L s a.phase b a.cells (shade a b).cells (shade_darker a b)
      (n b (inl refl)) f))

  here_fades : (shape : HeapShape) (s n c : ℕ) (a b : Account) → Takes shape n a c b → ((x : ℕ) → L x → x < n)
      → Fades L s a.phase a.cells → Fades L s b.phase (set b.cells c (Taken n Grey))
  here_fades shape s n c a b t old f = rw t.is (record {
    at = λ d y x k l. elim (came_before n c Grey a.cells (set a.cells c (Taken n Grey))
        (came_here n c Grey a.cells t.within t.was_free) d y x k) [
          | inl o ↦ (let lt = old y l in let o1 = o.1 in absurd (omega arith))
          | inr o ↦ f.at d y x o l
        ];
  })

  placed_fades : (shape : HeapShape) (s n words : ℕ) (a : Account) (o : Option (ℕ × Account)) → take_cell a words ≡ o
      → IsTrue (is_some o) → Tidy shape n a → ((x : ℕ) → L x → x < n) → Fades L s a.phase a.cells
      → Fades L s (in_cell a n Grey o).phase (in_cell a n Grey o).cells
  placed_fades shape s n words a (Some r) e room h old f = here_fades shape s n r.0 a r.1 (takes shape n a words r e h)
      old f
  placed_fades shape s n words a None e room h old f = f

  object_fades : (shape : HeapShape) (s n : ℕ) (object : Option ℕ) (a : Account) → RoomFor object a → Tidy shape n a
      → ((x : ℕ) → L x → x < n) → Fades L s a.phase a.cells
      → Fades L s (new_object a n object).phase (new_object a n object).cells
  object_fades shape s n (Some words) a room h old f = placed_fades shape s n words a (take_cell a words) refl room h
      old f
  object_fades shape s n None a room h old f = f

  pub changed_fades : (shape : HeapShape) (s : ℕ) (w : World) (a : Account) (c : Change) → RoomFor c.object a
      → Tidy shape (next_birth w) a → Allowed w c → Apart L w → ((x : ℕ) → L x → x < next_birth w)
      → Fades L s a.phase a.cells → Fades L s (changed w a c).phase (changed w a c).cells
  unfolding changed
  changed_fades shape s w a c room i h apart old f =
      all_fades s c.writes (new_object a (next_birth w) c.object) (λ b k l. written_not_lost w c b h apart old k l)
      (object_fades shape s (next_birth w) c.object a room i old f)

  pub more_births : (object : Option ℕ) (n x : ℕ) → x < n → x < births_after object n
  more_births (Some words) n x h = omega arith
  more_births None n x h = h
