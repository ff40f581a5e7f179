use Rattle.std.proofs.Common.{◌≡◌, inl, ℕ, zero, suc, ◌+◌, List, [], ◌∷◌, length, map, set, nat_lt, nat_eq, Bool, true}
use Rattle.std.proofs.Common.{false, if◌then◌else◌, Option, Some, None, refl, sym, ◌∙◌, ap, arith, eq-eqb, ltb-false}
use Rattle.std.proofs.Common.{◌≤◌}
use Rattle.std.proofs.lemmas.List.{map-set, set-get_or, length-map}
use Rattle.model.specs.declared.colours.Colour.{Colour}
use Rattle.model.specs.declared.colours.Colour.TheVariants.{White, Grey, Black}
use Rattle.model.specs.declared.colours.Phase.{Phase}
use Rattle.model.specs.declared.colours.Phase.TheVariants.{Idle, Statics, Frames, Mark, Append}
use Rattle.model.specs.declared.journals.HeapShape.{HeapShape}
use Rattle.model.specs.Accounts.{Account, shade}
use Rattle.model.specs.declared.colours.Cell.{Cell}
use Rattle.model.specs.declared.colours.Cell.TheVariants.{Free, Taken}
use Rattle.model.specs.Worlds.{World, frames_at, next_birth}
use Rattle.model.specs.Machines.{Machine}
use Rattle.model.specs.Collector.Places.{root_at, word_at, words_of, slots_of, entries_at}
use Rattle.model.specs.Collector.Places.Place.{Slot, FrameEntry, MethodMonitor}
use Rattle.model.specs.Collector.Table.{cell_at, at_phase, shade_ref, statics_step, frames_step, blackened, word_step}
use Rattle.model.specs.Collector.Table.{mark_step, listed_in, with_cell, swept, append_step, step_in, collected}
use Rattle.model.specs.Collector.Invariant.{Invariant, In}
use Rattle.model.proofs.CollectorLemmas.Holding.{collected_held, listed_cells}
use Rattle.model.proofs.CollectorLemmas.Cells.{kept-grey}
use Rattle.model.proofs.CollectorLemmas.Known.{memory_error_known, stack_error_known}
use Rattle.join.specs.Naming.{Naming, named_ref, Named}
use Rattle.join.specs.OnCells.{held_object, nobody, on_cells, InCell}
use Rattle.join.specs.TurnsOnCells.{CellMachine, shade_cell, shade_cell_if, blacken_cell, statics_on, frames_on}
use Rattle.join.specs.TurnsOnCells.{word_on, mark_on, step_on, emptied, swept_on, collected_on}
use Rattle.join.specs.Joined.{named_account, Joined}
use Rattle.join.proofs.Shading.{written, black_other, shade_on_cells, named_shade, in_cell_shade, on_shade}
use Rattle.join.proofs.Places.{entries_on_cells, slots_on_cells, slot_on_cells, entry_on_cells, method_on_cells}
use Rattle.join.proofs.Places.{words_on_cells, word_on_cells}
use Rattle.join.proofs.Reached.{in_cell_at, kept_in_cell, reached_in_cell, root_in_cell}
use Rattle.join.proofs.Frames.{frames_on_cells}

-- a collector's step on cells is the table's step on births. It moves nobody: the naming stays, and the world on cells
-- changes in the cell that is given back alone

-- ---- what a step does to the account

module _ (h : Naming) where
  swept_on_cells : (shape : HeapShape) (a : Account) (p : ℕ) (z : Cell) → swept shape (named_account h a) p z
      ≡ named_account h (swept shape a p z)
  swept_on_cells shape a p Free = refl
  swept_on_cells shape a p (Taken b White) = go (nat_lt p shape.small) (nat_lt p (shape.small + shape.medium))
    where
      go : (s m : Bool) → listed_in (with_cell (named_account h a) p Free) p s m
          ≡ named_account h (listed_in (with_cell a p Free) p s m)
      go true m = refl
      go false true = refl
      go false false = refl
  swept_on_cells shape a p (Taken b Grey) = refl
  swept_on_cells shape a p (Taken b Black) = refl

  append_on_cells : (shape : HeapShape) (a : Account) (p : ℕ) (more : Bool)
      → append_step shape (named_account h a) p more ≡ named_account h (append_step shape a p more)
  append_on_cells shape a p true = ap (λ x. at_phase x (Append (p + 1))) (swept_on_cells shape a p (cell_at a.cells p))
  append_on_cells shape a p false = refl

  module _ (shape : HeapShape) (w : World) (a : Account) (named : Named h a.cells)
      (i : Invariant shape w (next_birth w) a) where
    abbrev on : World
    on = on_cells h a.cells w

    ref_on_cells : (r : Option ℕ) → ((b : ℕ) → r ≡ Some b → InCell h a.cells w b)
        → shade_cell_if (named_account h a) (named_ref h r) ≡ named_account h (shade_ref a r)
    ref_on_cells None k = refl
    ref_on_cells (Some b) k = shade_on_cells h a w b named (k b refl)

    statics_on_cells : (s : ℕ) (more : Bool) → statics_on on (named_account h a) s more
        ≡ named_account h (statics_step w a s more)
    statics_on_cells s true = ap (λ x. at_phase x (Statics (s + 1)))
        (ap (shade_cell_if (named_account h a)) (slot_on_cells h a.cells w s)
        ∙ ref_on_cells (root_at w (Slot s)) (root_in_cell h shape w a named i (Slot s)))
    statics_on_cells s false = refl

    frames_step_on_cells : (t d j : ℕ) (x y z : Bool) → frames_on on (named_account h a) t d j x y z
        ≡ named_account h (frames_step w a t d j x y z)
    frames_step_on_cells t d j true true true = ap (λ x. at_phase x (Frames t d (j + 1)))
        (ap (shade_cell_if (named_account h a)) (entry_on_cells h a.cells w t d j)
        ∙ ref_on_cells (root_at w (FrameEntry t d j)) (root_in_cell h shape w a named i (FrameEntry t d j)))
    frames_step_on_cells t d j true true false = ap (λ x. at_phase x (Frames t (d + 1) 0))
        (ap (shade_cell_if (named_account h a)) (method_on_cells h a.cells w t d)
        ∙ ref_on_cells (root_at w (MethodMonitor t d)) (root_in_cell h shape w a named i (MethodMonitor t d)))
    frames_step_on_cells t d j true false z = refl
    frames_step_on_cells t d j false y z = refl

    blacken_on_cells : (b : ℕ) → InCell h a.cells w b → blacken_cell (named_account h a) (h b)
        ≡ map (blackened b) a.cells
    blacken_on_cells b s = rw (
      s.named,
      s.held,
    ) (sym (written h (blackened b) a.cells s.cell b s.colour named (black_other b) s.held
        ∙ ap (set a.cells s.cell) (black b)))
      where
        go : (d : ℕ) (x : Colour) (t : Bool) → nat_eq d d ≡ t → (if t then Taken d Black else Taken d x) ≡ Taken d Black
        go d x true e = refl
        go d x false e = (let r = eq-eqb d d refl in absurd (cc))

        black : (d : ℕ) → blackened d (Taken d s.colour) ≡ Taken d Black
        black d = go d s.colour (nat_eq d d) refl

    word_step_on_cells : (q b : ℕ) (rest : List ℕ) → InCell h a.cells w b
        → ((b' : ℕ) → word_at w b q ≡ Some b' → InCell h a.cells w b') → (more : Bool)
        → word_on on (named_account h a) q (h b) (map h rest) more ≡ named_account h (word_step w a q b rest more)
    word_step_on_cells q b rest s k true = ap (λ x. at_phase x (Mark (q + 1)))
        (ap (shade_cell_if (named_account h a)) (word_on_cells h a.cells w b q s) ∙ ref_on_cells (word_at w b q) k)
    word_step_on_cells q b rest s k false = ap (λ cells. record a { cells = cells; grey = map h rest; phase = Mark 0 })
        (blacken_on_cells b s)

    mark_on_cells : (q : ℕ) (grey : List ℕ) → ((b : ℕ) → In b grey → InCell h a.cells w b)
        → ((b b' : ℕ) → In b grey → word_at w b q ≡ Some b' → InCell h a.cells w b')
        → mark_on on (named_account h a) q (map h grey) ≡ named_account h (mark_step w a q grey)
    mark_on_cells q [] k l = refl
    mark_on_cells q (b ∷ rest) k l =
        let s = k b (inl refl) in
        ap (λ rs. word_on on (named_account h a) q (h b) (map h rest) (nat_lt q (length rs)))
        (words_on_cells h a.cells w b s)
        ∙ ap (λ n. word_on on (named_account h a) q (h b) (map h rest) (nat_lt q n))
        (length-map (words_of w.objects b) (named_ref h))
        ∙ word_step_on_cells q b rest s (λ b'. l b b' (inl refl)) _

    grey_in_cells : (b : ℕ) → In b a.grey → InCell h a.cells w b
    grey_in_cells b k = let g = i.tidy.only_grey b k in in_cell_at h shape w a named i g.0 b Grey g.1

    frames_tests : (t d j : ℕ) → frames_on on (named_account h a) t d j (nat_lt t (length on.threads))
        (nat_lt d (length (frames_at on t))) (nat_lt j (length (entries_at (frames_at on t) d)))
        ≡ frames_on on (named_account h a) t d j (nat_lt t (length w.threads)) (nat_lt d (length (frames_at w t)))
        (nat_lt j (length (entries_at (frames_at w t) d)))
    frames_tests t d j =
        let x : length on.threads ≡ length w.threads = length-map w.threads _ in
        let y : length (frames_at on t) ≡ length (frames_at w t) = ap length (frames_on_cells h a.cells w t)
        ∙ length-map (frames_at w t) _ in
        let z : length (entries_at (frames_at on t) d) ≡ length (entries_at (frames_at w t) d) = ap length
        (entries_on_cells h a.cells w t d) ∙ length-map (entries_at (frames_at w t) d) _ in
        rw (x, y, z) refl

    step_on_cells : h 1 ≡ 1 → h 2 ≡ 2 → (phase : Phase) → step_on shape on (named_account h a) phase
        ≡ named_account h (step_in shape w a phase)
    step_on_cells e1 e2 Idle =
        let one = reached_in_cell h shape w a named i 1 (memory_error_known w) in
        let two = reached_in_cell h shape w a named i 2 (stack_error_known w) in
        ap (λ (r : ℕ). at_phase (shade_cell (shade_cell (named_account h a) 1) r) (Statics 0)) (sym e2)
        ∙ ap (λ (r : ℕ). at_phase (shade_cell (shade_cell (named_account h a) r) (h 2)) (Statics 0)) (sym e1)
        ∙ ap (λ x. at_phase (shade_cell x (h 2)) (Statics 0)) (shade_on_cells h a w 1 named one)
        ∙ ap (λ x. at_phase x (Statics 0)) (shade_on_cells h (shade a 1) w 2 (named_shade h a 1 named)
        (in_cell_shade h a w 1 2 two))
    step_on_cells e1 e2 (Statics s) = ap (λ rs. statics_on on (named_account h a) s (nat_lt s (length rs)))
        (slots_on_cells h a.cells w) ∙ ap (λ n. statics_on on (named_account h a) s (nat_lt s n))
        (length-map (slots_of w) (named_ref h)) ∙ statics_on_cells s _
    step_on_cells e1 e2 (Frames t d j) = frames_tests t d j ∙ frames_step_on_cells t d j _ _ _
    step_on_cells e1 e2 (Mark q) = mark_on_cells q a.grey grey_in_cells
        (λ b b' k f. (let g = i.tidy.only_grey b k
        in kept_in_cell h shape w a named i b' (i.words g.0 b Grey q b' g.1 (kept-grey a.phase g.0)
        f)))
    step_on_cells e1 e2 (Append p) = append_on_cells shape a p _

-- ---- what a step does to the world on cells: nothing, but that a cell is emptied

module _ (h : Naming) (w : World) where
  colours : (cells more : List Cell) → map (held_object h w.objects) more ≡ map (held_object h w.objects) cells
      → on_cells h cells w ≡ on_cells h more w
  colours cells more e = ap (λ os. record (on_cells h cells w) { objects = nobody ∷ os }) (sym e)

  ref_colours : (a : Account) (r : Option ℕ) → on_cells h a.cells w ≡ on_cells h (shade_ref a r).cells w
  ref_colours a None = refl
  ref_colours a (Some b) = sym (on_shade h a w b)

  black_held : (b : ℕ) (cells : List Cell) → map (held_object h w.objects) (map (blackened b) cells)
      ≡ map (held_object h w.objects) cells
  black_held b [] = refl
  black_held b (Free ∷ cells) = ap (λ os. nobody ∷ os) (black_held b cells)
  black_held b (Taken d x ∷ cells) = ap (λ os. held_object h w.objects (if nat_eq d b then Taken d Black else Taken d x)
      ∷ os) (black_held b cells) ∙ ap (λ o. o ∷ map (held_object h w.objects) cells) (go (nat_eq d b))
    where
      go : (t : Bool) → held_object h w.objects (if t then Taken d Black else Taken d x)
          ≡ held_object h w.objects (Taken d x)
      go true = refl
      go false = refl

  statics_colours : (a : Account) (s : ℕ) (more : Bool) → on_cells h a.cells w
      ≡ on_cells h (statics_step w a s more).cells w
  statics_colours a s true = ref_colours a (root_at w (Slot s))
  statics_colours a s false = refl

  frames_colours : (a : Account) (t d j : ℕ) (x y z : Bool) → on_cells h a.cells w
      ≡ on_cells h (frames_step w a t d j x y z).cells w
  frames_colours a t d j true true true = ref_colours a (root_at w (FrameEntry t d j))
  frames_colours a t d j true true false = ref_colours a (root_at w (MethodMonitor t d))
  frames_colours a t d j true false z = refl
  frames_colours a t d j false y z = refl

  word_colours : (a : Account) (q b : ℕ) (rest : List ℕ) (more : Bool) → on_cells h a.cells w
      ≡ on_cells h (word_step w a q b rest more).cells w
  word_colours a q b rest true = ref_colours a (word_at w b q)
  word_colours a q b rest false = colours a.cells (map (blackened b) a.cells) (black_held b a.cells)

  mark_colours : (a : Account) (q : ℕ) (grey : List ℕ) → on_cells h a.cells w
      ≡ on_cells h (mark_step w a q grey).cells w
  mark_colours a q [] = refl
  mark_colours a q (b ∷ rest) = word_colours a q b rest _

  swept_world : (shape : HeapShape) (a : Account) (p : ℕ) (z : Cell) → cell_at a.cells p ≡ z
      → emptied (on_cells h a.cells w) p z ≡ on_cells h (swept shape a p z).cells w
  swept_world shape a p Free e = refl
  swept_world shape a p (Taken b White) e =
      ap (λ os. record (on_cells h a.cells w) { objects = nobody ∷ os })
      (sym (map-set (held_object h w.objects) a.cells p Free))
      ∙ ap (λ cells. on_cells h cells w)
      (sym (listed_cells (with_cell a p Free) p (nat_lt p shape.small) (nat_lt p (shape.small + shape.medium))))
  swept_world shape a p (Taken b Grey) e = refl
  swept_world shape a p (Taken b Black) e =
      colours a.cells (set a.cells p (Taken b White))
      (map-set (held_object h w.objects) a.cells p (Taken b White)
      ∙ sym (map-set (held_object h w.objects) a.cells p (Taken b Black))
      ∙ ap (map (held_object h w.objects)) (ap (set a.cells p) (sym e) ∙ set-get_or a.cells p Free))

  append_world : (shape : HeapShape) (a : Account) (p : ℕ) (more : Bool) → nat_lt p (length a.cells) ≡ more
      → emptied (on_cells h a.cells w) p (cell_at a.cells p) ≡ on_cells h (append_step shape a p more).cells w
  append_world shape a p true e = swept_world shape a p (cell_at a.cells p) refl
  append_world shape a p false e = past a.cells p (ltb-false p (length a.cells) e)
    where
      past : (cells : List Cell) (q : ℕ) → length cells ≤ q → emptied (on_cells h a.cells w) p (cell_at cells q)
          ≡ on_cells h a.cells w
      past [] q k = refl
      past (z ∷ cells) zero k = absurd (omega arith)
      past (z ∷ cells) (suc q) k = past cells q (omega arith)

  world_on_cells : (shape : HeapShape) (a : Account) (phase : Phase)
      → swept_on (on_cells h a.cells w) (named_account h a) phase ≡ on_cells h (step_in shape w a phase).cells w
  world_on_cells shape a Idle = sym (on_shade h (shade a 1) w 2 ∙ on_shade h a w 1)
  world_on_cells shape a (Statics s) = statics_colours a s _
  world_on_cells shape a (Frames t d j) = frames_colours a t d j _ _ _
  world_on_cells shape a (Mark q) = mark_colours a q a.grey
  world_on_cells shape a (Append p) = append_world shape a p _ refl

-- ---- the whole

pub collected_on_cells : (h : Naming) (shape : HeapShape) (on : CellMachine) (m : Machine)
    → Invariant shape m.world (next_birth m.world) m.account → Joined h on m
    → Joined h (collected_on shape on) (record { world = m.world; account = collected shape m.world m.account })
unfolding collected collected_on
collected_on_cells h shape on m i j = record {
  world = rw (j.world, j.account) (world_on_cells h m.world shape m.account m.account.phase);
  account = rw (j.world, j.account) (step_on_cells h shape m.world m.account j.named i j.memory_error j.stack_error
      m.account.phase);
  births = j.births;
  named = λ c b x e. (let k = collected_held shape m.world m.account c b x e in j.named c b k.0 k.1);
  memory_error = j.memory_error;
  stack_error = j.stack_error;
}
