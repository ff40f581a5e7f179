-- Reading attributes one after another, as a loop does.
use Rattle.std.proofs.Common.{◌≡◌, ℕ, suc, ◌-◌, ◌+◌, ◌≤◌, ◌<◌, Bool, List, Ok, refl, sym, ap, ◌∙◌, arith}
use Rattle.model.specs.declared.class_files.Entry.{Entry}
use Rattle.pool.specs.declared.error.ReadError.{ReadError}
use Rattle.pool.specs.Reading.Steps.{Fails}
use Rattle.pool.proofs.Steps.{fails-then, fails-is}
use Rattle.classfile.specs.Reading.Attributes.{Reads, attribute_from, attributes_from}

module _ {S : Type 0} (pool : List Entry) (wanted : List ℕ → Bool) (step : S → ℕ → List ℕ → Reads S) where
  pub goes_on : (count i : ℕ) (s : S) (bytes : List ℕ) (t : S) (after : List ℕ) (total : Reads S) → i < count
      → attribute_from pool wanted step s bytes ≡ Ok (t, after)
      → attributes_from pool wanted step (count - i) s bytes ≡ total
      → attributes_from pool wanted step (count - (i + 1)) t after ≡ total
  unfolding attributes_from
  goes_on count i s bytes t after total lt h so_far =
      let k : suc (count - (i + 1)) ≡ count - i = omega arith in
      let one : attributes_from pool wanted step (suc (count - (i + 1))) s bytes
      ≡ attributes_from pool wanted step (count - (i + 1)) t after = rw h refl in
      sym one ∙ ap (λ m. attributes_from pool wanted step m s bytes) k ∙ so_far

  pub ends : (e : ReadError) (count i : ℕ) (s : S) (bytes : List ℕ) (total : Reads S) → i < count
      → Fails e (attribute_from pool wanted step s bytes)
      → attributes_from pool wanted step (count - i) s bytes ≡ total → Fails e total
  unfolding attributes_from
  ends e count i s bytes total lt h so_far =
      let k : suc (count - (i + 1)) ≡ count - i = omega arith in
      let one = fails-then e (attribute_from pool wanted step s bytes) (λ first. attributes_from pool wanted step
      (count - (i + 1)) first.0 first.1) h in
      fails-is e (attributes_from pool wanted step (suc (count - (i + 1))) s bytes) total
      (ap (λ m. attributes_from pool wanted step m s bytes) k ∙ so_far) one

  pub is_done : (count i : ℕ) (s : S) (bytes : List ℕ) (total : Reads S) → count ≤ i
      → attributes_from pool wanted step (count - i) s bytes ≡ total → total ≡ Ok (s, bytes)
  unfolding attributes_from
  is_done count i s bytes total le so_far =
      let k : count - i ≡ 0 = omega arith in
      sym so_far ∙ ap (λ m. attributes_from pool wanted step m s bytes) k
