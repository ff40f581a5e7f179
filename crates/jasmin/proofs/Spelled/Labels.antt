-- A label that is given names the pc of an instruction, or the one after the last.
use Rattle.std.proofs.Common.{◌≡◌, ℕ, suc, ◌+◌, Bool, true, false, ◌&&◌, ◌||◌, ◌==◌, List, [], ◌∷◌, refl, sym, ◌∙◌}
use Rattle.std.proofs.Common.{arith, inl, inr, is_some}
use Rattle.std.specs.Prelude.{nat_lt}
use Rattle.std.specs.Str.{bytes_eq}
use Rattle.std.proofs.lemmas.Bool.Decides.{eqb_tells, leb_tells}
use Rattle.std.proofs.lemmas.Slice.Eq.{bytes_eq-Decides}
use Rattle.std.proofs.lemmas.List.{length-map}
use Rattle.model.specs.declared.instructions.Instruction.TheVariants.{Nop, Constant, Local, Stack, Number, Branch}
use Rattle.model.specs.declared.instructions.Instruction.TheVariants.{TableSwitch, LookupSwitch, Return, Static, Field}
use Rattle.model.specs.declared.instructions.Instruction.TheVariants.{Array, Class, Invoke, Throw, Monitor}
use Rattle.model.specs.declared.trees.TextLine.{TextLine}
use Rattle.model.specs.declared.trees.TextLine.TheVariants as line
use Rattle.model.specs.Sizes.{size_at}
use Rattle.model.specs.Texts.Assembling.{end_from}
use Rattle.model.specs.Texts.Instructions.{Written}
use Rattle.model.specs.Texts.Labels.{pc_of, with_targets}
use Rattle.model.specs.Texts.ListingOfTree.{placed_from}
use Rattle.model.specs.Texts.Spelled.{is_pc, stand_from}
use Rattle.model.specs.Texts.Tables.{named}
use Rattle.model.specs.Texts.Uses.{labels_from, count_from, is_before}
use Rattle.jasmin_words.proofs.Places.{bool_tells}
use Rattle.jasmin.proofs.Spelled.Partial.{and_true, or_left, or_right}

-- two tests that follow from one another
alike : (a b : Bool) → (a ≡ true → b ≡ true) → (b ≡ true → a ≡ true) → a ≡ b
alike true true h k = refl
alike true false h k = sym (h refl)
alike false true h k = k refl
alike false false h k = refl

bytes_eq_symmetric : (a b : List ℕ) → bytes_eq a b ≡ bytes_eq b a
bytes_eq_symmetric a b =
    alike (bytes_eq a b) (bytes_eq b a)
    (λ t. (bytes_eq-Decides b a).1 (sym ((bytes_eq-Decides a b).0 t)))
    (λ t. (bytes_eq-Decides a b).1 (sym ((bytes_eq-Decides b a).0 t)))

same_number : (n : ℕ) → (n == n) ≡ true
same_number n = elim (eqb_tells n n) [ inl t ↦ t.0 | inr f ↦ absurd (f.1 refl) ]

-- ---- instructions one after the other

pub same_size : (f : List ℕ → ℕ) (pc : ℕ) (i : Written) → size_at pc (with_targets f i) ≡ size_at pc i
same_size f pc Nop = refl
same_size f pc (Constant c) = refl
same_size f pc (Local l) = refl
same_size f pc (Stack op) = refl
same_size f pc (Number op) = refl
same_size f pc (Branch t target) = refl
same_size f pc (TableSwitch t) = simp length-map
same_size f pc (LookupSwitch l) = simp length-map
same_size f pc (Return kind) = refl
same_size f pc (Static a m) = refl
same_size f pc (Field a m) = refl
same_size f pc (Array a) = refl
same_size f pc (Class op c) = refl
same_size f pc (Invoke how m) = refl
same_size f pc Throw = refl
same_size f pc (Monitor op) = refl

module _ (f : List ℕ → ℕ) where
  pub placed_stand : (pc : ℕ) (lines : List TextLine) → stand_from pc (placed_from f pc lines) ≡ true
  placed_stand pc [] = refl
  placed_stand pc (line.Label l ∷ lines) = placed_stand pc lines
  placed_stand pc (line.Instruction i ∷ lines) =
      and_true ((pc == pc) && (pc + size_at pc i) == (pc + size_at pc (with_targets f i)))
      (stand_from (pc + size_at pc i) (placed_from f (pc + size_at pc i) lines))
      (and_true (pc == pc) ((pc + size_at pc i) == (pc + size_at pc (with_targets f i))) (same_number pc)
      (rw (same_size f pc i) (same_number (pc + size_at pc i))))
      (placed_stand (pc + size_at pc i) lines)

  -- ---- where an instruction follows

  follows : (n pc : ℕ) (lines : List TextLine) → nat_lt n (count_from n lines) ≡ true
      → is_pc (placed_from f pc lines) pc ≡ true
  follows n pc [] h = absurd (none n h)
    where
      none : (n : ℕ) → nat_lt n n ≡ true → ⊥
      none n h = elim (leb_tells (suc n) n) [ inl t ↦ omega arith | inr g ↦ (let k : true ≡ false = sym h ∙ g.0 in cc) ]
  follows n pc (line.Label l ∷ lines) h = follows n pc lines h
  follows n pc (line.Instruction i ∷ lines) h = or_left (pc == pc) (is_pc (placed_from f (pc + size_at pc i) lines) pc)
      (same_number pc)

  follows_or_ends : (pc : ℕ) (lines : List TextLine)
      → (is_pc (placed_from f pc lines) pc || (end_from pc (placed_from f pc lines) == pc)) ≡ true
  follows_or_ends pc [] = same_number pc
  follows_or_ends pc (line.Label l ∷ lines) = follows_or_ends pc lines
  follows_or_ends pc (line.Instruction i ∷ lines) =
      or_left ((pc == pc) || is_pc (placed_from f (pc + size_at pc i) lines) pc)
      (end_from (pc + size_at pc i) (placed_from f (pc + size_at pc i) lines) == pc)
      (or_left (pc == pc) (is_pc (placed_from f (pc + size_at pc i) lines) pc) (same_number pc))

  -- ---- labels

  pub at_pc : (n pc : ℕ) (lines : List TextLine) (name : List ℕ)
      → is_before (count_from n lines) (named (labels_from n lines) name) ≡ true
      → is_pc (placed_from f pc lines) (pc_of pc lines name) ≡ true
  at_pc n pc [] name h = absurd cc
  at_pc n pc (line.Label l ∷ lines) name h =
      elim (bool_tells (bytes_eq l name)) [
        | inl t ↦ rw t (follows n pc lines (rw (bytes_eq_symmetric name l, t) at h))
        | inr g ↦ rw g (at_pc n pc lines name (rw (bytes_eq_symmetric name l, g) at h))
      ]
  at_pc n pc (line.Instruction i ∷ lines) name h =
      or_right (pc == pc_of (pc + size_at pc i) lines name) (is_pc (placed_from f (pc + size_at pc i) lines)
      (pc_of (pc + size_at pc i) lines name))
      (at_pc (n + 1) (pc + size_at pc i) lines name h)

  pub at_bound : (n pc : ℕ) (lines : List TextLine) (name : List ℕ) → is_some (named (labels_from n lines) name) ≡ true
      → (is_pc (placed_from f pc lines) (pc_of pc lines name)
      || (end_from pc (placed_from f pc lines) == pc_of pc lines name)) ≡ true
  at_bound n pc [] name h = absurd cc
  at_bound n pc (line.Label l ∷ lines) name h =
      elim (bool_tells (bytes_eq l name)) [
        | inl t ↦ rw t (follows_or_ends pc lines)
        | inr g ↦ rw g (at_bound n pc lines name (rw (bytes_eq_symmetric name l, g) at h))
      ]
  at_bound n pc (line.Instruction i ∷ lines) name h =
      further (pc == pc_of (pc + size_at pc i) lines name) (is_pc (placed_from f (pc + size_at pc i) lines)
      (pc_of (pc + size_at pc i) lines name))
      (end_from (pc + size_at pc i) (placed_from f (pc + size_at pc i) lines) == pc_of (pc + size_at pc i) lines name)
      (at_bound (n + 1) (pc + size_at pc i) lines name h)
    where
      further : (a b c : Bool) → (b || c) ≡ true → ((a || b) || c) ≡ true
      further true b c h = refl
      further false b c h = h
