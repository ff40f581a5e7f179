use Rattle.std.proofs.Common.{◌≡◌, inl, inr, ℕ, zero, suc, ◌+◌, ◌<◌, ◌≤◌, Bool, true, false, List, [], ◌∷◌, length, map}
use Rattle.std.proofs.Common.{Option, Some, None, nat_lt, refl, ap, arith, ltb-false}
use Rattle.model.specs.declared.colours.Colour.{Colour}
use Rattle.model.specs.declared.colours.Colour.TheVariants.{White, Grey, Black}
use Rattle.model.specs.declared.colours.Phase.{Phase}
use Rattle.model.specs.declared.colours.Phase.TheVariants.{Idle, Statics, Frames, Mark, Append}
use Rattle.model.specs.declared.journals.HeapShape.{HeapShape}
use Rattle.model.specs.Accounts.{Account, shade}
use Rattle.model.specs.declared.colours.Cell.{Cell}
use Rattle.model.specs.declared.colours.Cell.TheVariants.{Free, Taken}
use Rattle.model.specs.Worlds.{World}
use Rattle.model.specs.Collector.Places.{Place, root_at, word_at, words_of, slots_of, Reach}
use Rattle.model.specs.Collector.Places.Place.{MemoryError, StackError, Slot, FrameEntry, MethodMonitor}
use Rattle.model.specs.Collector.Places.Reach.{at_root, by_word}
use Rattle.model.specs.Collector.Table.{cell_at, shade_ref, blackened, with_cell, collected, step_in, statics_step}
use Rattle.model.specs.Collector.Table.{frames_step, word_step, mark_step, swept, append_step}
use Rattle.model.specs.Collector.Invariant.{In, Tidy}
use Rattle.model.specs.Collector.Reclaim.{counted_end, ended_in}
use Rattle.model.proofs.CollectorLemmas.Cells.{Darker, before, taken_within}
use Rattle.model.proofs.CollectorLemmas.Shading.{shade_darker}
use Rattle.model.proofs.CollectorLemmas.Marking.{blackened_before}
use Rattle.model.proofs.CollectorLemmas.Sweeping.{freed_before, white_before}
use Rattle.model.proofs.CollectorLemmas.Holding.{listed_cells}

-- what no path reaches fades: the colours that it may have when s cycles have ended, over the collector's steps

abbrev pub Plain : ℕ → Colour → Type 0
Plain zero x = Unit {0}
Plain (suc zero) White = Unit {0}
Plain (suc zero) Grey = ⊥
Plain (suc zero) Black = ⊥
Plain (suc (suc s)) x = ⊥

abbrev pub Unswept : ℕ → ℕ → ℕ → Colour → Type 0
Unswept zero p c White = Unit {0}
Unswept zero p c Grey = ⊥
Unswept zero p c Black = p ≤ c
Unswept (suc zero) p c White = p ≤ c
Unswept (suc zero) p c Grey = ⊥
Unswept (suc zero) p c Black = ⊥
Unswept (suc (suc s)) p c x = ⊥

abbrev pub May : ℕ → Phase → ℕ → Colour → Type 0
May s Idle c x = Plain s x
May s (Statics i) c x = Plain s x
May s (Frames t d j) c x = Plain s x
May s (Mark q) c x = Plain s x
May s (Append p) c x = Unswept s p c x

-- L: the births that are lost
module _ (L : ℕ → Type 0) where
  pub record Fades (s : ℕ) (phase : Phase) (cells : List Cell) : Type 0 where
    pub at : (c b : ℕ) (x : Colour) → cell_at cells c ≡ Taken b x → L b → May s phase c x

  -- no root is lost, and what leads to a lost birth is lost
  pub record Apart (w : World) : Type 0 where
    pub roots : (p : Place) (b : ℕ) → root_at w p ≡ Some b → L b → ⊥
    pub words : (x k b : ℕ) → word_at w x k ≡ Some b → L b → L x

  pub not_reached : (w : World) (b : ℕ) → Apart w → Reach w b → L b → ⊥
  not_reached w b h (at_root p e) l = h.roots p b e l
  not_reached w b h (by_word x k r e) l = not_reached w x h r (h.words x k b e l)

  pub darker_fades : (s : ℕ) (phase : Phase) (b : ℕ) (old new : List Cell) → Darker b old new → (L b → ⊥)
      → Fades s phase old → Fades s phase new
  darker_fades s phase b old new d never f = record {
    at = λ c a x e l. elim (before d c a x e) [
      | inl k ↦ f.at c a x k l
      | inr k ↦ absurd (never (rw k.0 at l))
    ];
  }

  -- a root is shaded
  root_fades : (s : ℕ) (w : World) (a : Account) (p : Place) (r : Option ℕ) (phase : Phase) → root_at w p ≡ r → Apart w
      → Fades s phase a.cells → Fades s phase (shade_ref a r).cells
  root_fades s w a p None phase e h f = f
  root_fades s w a p (Some b) phase e h f = darker_fades s phase b a.cells (shade a b).cells (shade_darker a b)
      (h.roots p b e) f

  idle_fades : (s : ℕ) (w : World) (a : Account) → Apart w → Fades s Idle a.cells
      → Fades s (Statics 0) (shade (shade a 1) 2).cells
  unfolding root_at
  idle_fades s w a h f =
      let one = root_fades s w a MemoryError (Some 1) Idle refl h f in
      let two = root_fades s w (shade a 1) StackError (Some 2) Idle refl h one in
      record { at = two.at }

  statics_fades : (s : ℕ) (w : World) (a : Account) (i : ℕ) (more : Bool) → Apart w → Fades s (Statics i) a.cells
      → Fades s (statics_step w a i more).phase (statics_step w a i more).cells
  statics_fades s w a i true h f = let k = root_fades s w a (Slot i) (root_at w (Slot i)) (Statics i) refl h f
      in record { at = k.at }
  statics_fades s w a i false h f = record { at = f.at }

  frames_fades : (s : ℕ) (w : World) (a : Account) (t d j : ℕ) (x y z : Bool) → Apart w → Fades s (Frames t d j) a.cells
      → Fades s (frames_step w a t d j x y z).phase (frames_step w a t d j x y z).cells
  frames_fades s w a t d j true true true h f = let k = root_fades s w a (FrameEntry t d j)
      (root_at w (FrameEntry t d j)) (Frames t d j) refl h f
      in record { at = k.at }
  frames_fades s w a t d j true true false h f = let k = root_fades s w a (MethodMonitor t d)
      (root_at w (MethodMonitor t d)) (Frames t d j) refl h f
      in record { at = k.at }
  frames_fades s w a t d j true false z h f = record { at = f.at }
  frames_fades s w a t d j false y z h f = record { at = f.at }

  -- ---- marking

  -- in the second cycle the front birth isn't lost, since it is grey
  front_not_lost : (s q y : ℕ) (cells : List Cell) → (c : ℕ) × (cell_at cells c ≡ Taken y Grey)
      → Fades (suc s) (Mark q) cells → L y → ⊥
  front_not_lost zero q y cells k f l = f.at k.0 y Grey k.1 l
  front_not_lost (suc s) q y cells k f l = f.at k.0 y Grey k.1 l

  word_fades : (s : ℕ) (w : World) (a : Account) (q y : ℕ) (r : Option ℕ) → word_at w y q ≡ r → (c : ℕ)
      × (cell_at a.cells c ≡ Taken y Grey) → Apart w → Fades s (Mark q) a.cells
      → Fades s (Mark (q + 1)) (shade_ref a r).cells
  word_fades s w a q y None e i h f = record { at = f.at }
  word_fades zero w a q y (Some b) e i h f = record { at = λ c a x k l. tt }
  word_fades (suc s) w a q y (Some b) e i h f =
      let k = darker_fades (suc s) (Mark q) b a.cells (shade a b).cells (shade_darker a b)
      (λ l. front_not_lost s q y a.cells i f (h.words y q b e l)) f in
      record { at = k.at }

  black_fades : (s : ℕ) (cells : List Cell) (q y : ℕ) → (c : ℕ) × (cell_at cells c ≡ Taken y Grey)
      → Fades s (Mark q) cells → Fades s (Mark 0) (map (blackened y) cells)
  black_fades zero cells q y i f = record { at = λ c a x k l. tt }
  black_fades (suc s) cells q y i f = record {
    at = λ c a x k l. elim (blackened_before y cells c a x k) [
      | inl o ↦ f.at c a x o.0 l
      | inr o ↦ absurd (front_not_lost s q y cells i f (rw o.0 at l))
    ];
  }

  mark_end_by : (s : ℕ) (cells : List Cell) → ((b c : ℕ) → cell_at cells c ≡ Taken b Grey → ⊥) → (c b : ℕ) (x : Colour)
      → cell_at cells c ≡ Taken b x → Plain s x → Unswept s 0 c x
  mark_end_by zero cells i c b White e h = tt
  mark_end_by zero cells i c b Grey e h = i b c e
  mark_end_by zero cells i c b Black e h = omega arith
  mark_end_by (suc zero) cells i c b White e h = omega arith
  mark_end_by (suc zero) cells i c b Grey e h = h
  mark_end_by (suc zero) cells i c b Black e h = h
  mark_end_by (suc (suc s)) cells i c b x e h = h

  mark_fades : (s : ℕ) (w : World) (a : Account) (q : ℕ) (grey : List ℕ) → ((b c : ℕ) → cell_at a.cells c ≡ Taken b Grey
      → In b grey) → ((b : ℕ) → In b grey → (c : ℕ) × (cell_at a.cells c ≡ Taken b Grey)) → Apart w
      → Fades s (Mark q) a.cells → Fades s (mark_step w a q grey).phase (mark_step w a q grey).cells
  mark_fades s w a q [] listed only h f = record {
    at = λ c b x k l. mark_end_by s a.cells listed c b x k
        (f.at c b x k l);
  }
  mark_fades s w a q (y ∷ rest) listed only h f = go (nat_lt q (length (words_of w.objects y)))
    where
      go : (more : Bool) → Fades s (word_step w a q y rest more).phase (word_step w a q y rest more).cells
      go true = word_fades s w a q y (word_at w y q) refl (only y (inl refl)) h f
      go false = black_fades s a.cells q y (only y (inl refl)) f

  -- ---- appending

  unswept_on : (s p c : ℕ) (x : Colour) → (c ≡ p → ⊥) → Unswept s p c x → Unswept s (p + 1) c x
  unswept_on zero p c White ne h = tt
  unswept_on zero p c Grey ne h = h
  unswept_on zero p c Black ne h = grind arith
  unswept_on (suc zero) p c White ne h = grind arith
  unswept_on (suc zero) p c Grey ne h = h
  unswept_on (suc zero) p c Black ne h = h
  unswept_on (suc (suc s)) p c x ne h = h

  grey_gone : (s p c : ℕ) → Unswept s p c Grey → ⊥
  grey_gone zero p c h = h
  grey_gone (suc zero) p c h = h
  grey_gone (suc (suc s)) p c h = h

  black_to_white : (s p c q : ℕ) → Unswept s p c Black → Unswept s q c White
  black_to_white zero p c q h = tt
  black_to_white (suc zero) p c q h = absurd h
  black_to_white (suc (suc s)) p c q h = h

  swept_fades : (shape : HeapShape) (s : ℕ) (a : Account) (p : ℕ) (x : Cell) → cell_at a.cells p ≡ x
      → Fades s (Append p) a.cells → Fades s (Append (p + 1)) (swept shape a p x).cells
  swept_fades shape s a p Free e f = record {
    at = λ c b y k l. unswept_on s p c y
        (λ h. let z = ap (cell_at a.cells) h in cc) (f.at c b y k l);
  }
  swept_fades shape s a p (Taken b White) e f = record {
    at = λ c d y k l. (
        let o = freed_before a.cells p (taken_within a.cells p b White e) c d y
        (rw (listed_cells (with_cell a p Free) p _ _) at k) in
        unswept_on s p c y o.0 (f.at c d y o.1 l));
  }
  swept_fades shape s a p (Taken b Grey) e f = record {
    at = λ c d y k l. unswept_on s p c y
        (λ h. (let z = ap (cell_at a.cells) h in let same : y ≡ Grey = cc
        in grey_gone s p c (rw same at (f.at c d y k l)))) (f.at c d y k l);
  }
  swept_fades shape s a p (Taken b Black) e f = record {
    at = λ c d y k l. elim (white_before a.cells p b e c d y k) [
      | inl o ↦ (rw o.2 (black_to_white s p c (p + 1)
          (f.at c d Black (let o0 = o.0 in let o1 = o.1 in let z = ap (cell_at a.cells) o0 in cc) l)))
      | inr o ↦ unswept_on s p c y o.0 (f.at c d y o.1 l)
    ];
  }

  cycle_end : (s p c : ℕ) (x : Colour) → c < p → Unswept s p c x → Plain (s + 1) x
  cycle_end zero p c White lt h = tt
  cycle_end zero p c Grey lt h = h
  cycle_end zero p c Black lt h = omega arith
  cycle_end (suc zero) p c White lt h = omega arith
  cycle_end (suc zero) p c Grey lt h = h
  cycle_end (suc zero) p c Black lt h = h
  cycle_end (suc (suc s)) p c x lt h = absurd h

  append_fades : (shape : HeapShape) (s : ℕ) (a : Account) (p : ℕ) (more : Bool) → nat_lt p (length a.cells) ≡ more
      → Fades s (Append p) a.cells → Fades (counted_end s more) (append_step shape a p more).phase
      (append_step shape a p more).cells
  append_fades shape s a p true e f = swept_fades shape s a p (cell_at a.cells p) refl f
  append_fades shape s a p false e
      f = record {
        at = λ c b x k l. (let lt = taken_within a.cells c b x k
            in let le = ltb-false p (length a.cells) e
            in cycle_end s p c x (omega arith) (f.at c b x k l));
      }

  -- ---- each step

  step_fades : (shape : HeapShape) (s n : ℕ) (w : World) (a : Account) (phase : Phase) → Tidy shape n a → Apart w
      → Fades s phase a.cells → Fades (ended_in s phase (length a.cells)) (step_in shape w a phase).phase
      (step_in shape w a phase).cells
  step_fades shape s n w a Idle i h f = idle_fades s w a h f
  step_fades shape s n w a (Statics k) i h f = statics_fades s w a k (nat_lt k (length (slots_of w))) h f
  step_fades shape s n w a (Frames t d j) i h f = frames_fades s w a t d j _ _ _ h f
  step_fades shape s n w a (Mark q) i h f = mark_fades s w a q a.grey i.listed i.only_grey h f
  step_fades shape s n w a (Append p) i h f = append_fades shape s a p (nat_lt p (length a.cells)) refl f

  pub collected_fades : (shape : HeapShape) (s n : ℕ) (w : World) (a : Account) → Tidy shape n a → Apart w
      → Fades s a.phase a.cells → Fades (ended_in s a.phase (length a.cells)) (collected shape w a).phase
      (collected shape w a).cells
  unfolding collected
  collected_fades shape s n w a i h f = step_fades shape s n w a a.phase i h f
