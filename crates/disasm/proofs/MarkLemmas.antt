-- A table in which one more pc is marked.
use Rattle.std.proofs.Common.{◌≡◌, ◌≢◌, ℕ, ◌<◌, List, length, get_or, set, Bool, true, false, cond, eqb, ap, sym, ◌∙◌}
use Rattle.std.proofs.Common.{◌⊎◌, inl, inr}
use Rattle.std.proofs.lemmas.List.{get_or-set_same, get_or-set_other}
use Rattle.std.proofs.lemmas.Bool.Decides.{eqb_tells}
use Rattle.disasm.specs.Marks.{is_marked}

-- the entry of the pc answers for it, and every other as before
marked_by : (table : List Bool) (pc k : ℕ) → pc < length table → (eqb pc k ≡ true) × (pc ≡ k) ⊎ (eqb pc k ≡ false)
    × (pc ≢ k) → is_marked (set table pc true) k ≡ cond (eqb pc k) true (is_marked table k)
marked_by table pc k inside (inl same) =
    ap (λ (j : ℕ). get_or (set table pc true) j false) (sym same.1) ∙ get_or-set_same table pc true false inside
    ∙ sym (ap (λ (b : Bool). cond b true (is_marked table k)) same.0)
marked_by table pc k inside (inr other) =
    get_or-set_other table pc k true false (λ e. other.1 (sym e))
    ∙ sym (ap (λ (b : Bool). cond b true (is_marked table k)) other.0)

pub one_marked : (table : List Bool) (pc k : ℕ) → pc < length table → is_marked (set table pc true) k
    ≡ cond (eqb pc k) true (is_marked table k)
one_marked table pc k inside = marked_by table pc k inside (eqb_tells pc k)
