-- how a world stands
use Rattle.std.proofs.Common.{◌≡◌, ℕ, zero, suc, ◌+◌, ◌<◌, ◌≤◌, arith, List, [], ◌∷◌, length, drop, Bool, true, false, ◌&&◌, ◌||◌, not}
use Rattle.std.proofs.Common.{is_none, Option, Some, None, refl, ap, sym, ◌∙◌}
use Rattle.std.specs.List.{list_any}
use Rattle.std.proofs.lemmas.List.{drop_more}
use Rattle.model.specs.declared.turns.Fault.{Fault}
use Rattle.model.specs.ClassListings.{ClassListing}
use Rattle.model.specs.Completions.{Completion, waits}
use Rattle.model.specs.Ready.{is_ready, numbers_from}
use Rattle.model.specs.Table.Next.{completion}
use Rattle.model.specs.Worlds.{World, Thread, is_live}
use Rattle.model.specs.Worlds.Thread.{Ended}
use Rattle.ideal_run.specs.Completed.{plainly, reported}
use Rattle.ideal_run.specs.declared.completions.Completion.{Completion as Reported}
use Rattle.ideal_run.proofs.TurnLemmas.{plain-waits}

module _ (program : List ClassListing) (w : World) (t : ℕ) where
  ready-is : (live wait : Bool) → w.fault ≡ None → is_live w t ≡ live → waits (completion program w t) ≡ wait
      → is_ready program w t ≡ (live && not wait)
  ready-is live wait clean is waiting =
      ap (λ (f : Option (Fault × ℕ)). is_none f && is_live w t && not (waits (completion program w t))) clean
      ∙ (ap (λ (b : Bool). true && b && not (waits (completion program w t))) is
      ∙ ap (λ (b : Bool). live && not b) waiting)

  pub ready-stopped : (fault : Fault × ℕ) → w.fault ≡ Some fault → false ≡ is_ready program w t
  ready-stopped fault is =
      sym (ap (λ (f : Option (Fault × ℕ)). is_none f && is_live w t && not (waits (completion program w t))) is)

  pub ready-dead : w.fault ≡ None → false ≡ is_live w t → false ≡ is_ready program w t
  ready-dead clean dead = sym (ready-is false (waits (completion program w t)) clean (sym dead) refl)

  pub ready-by : w.fault ≡ None → true ≡ is_live w t → (code : Reported)
      → reported w t code ≡ plainly (completion program w t)
      → (wait : Bool) → ((v : World) (n : ℕ) → wait ≡ waits (reported v n code)) → not wait ≡ is_ready program w t
  ready-by clean live code is wait waiting =
      sym (ready-is true wait clean (sym live)
      (sym (waiting w t ∙ ap waits is ∙ plain-waits (completion program w t))))

pub ruleset statuses = (ready-stopped, ready-dead, ready-by)

-- ---- one thread after another

module _ (f : ℕ → Bool) (ts : List Thread) (n : ℕ) where
  pub any-from : n < length ts → list_any f (numbers_from n (drop n ts))
      ≡ (f n || list_any f (numbers_from (n + 1) (drop (n + 1) ts)))
  any-from l = ap (λ (us : List Thread). list_any f (numbers_from n us)) (drop_more ts n (Ended None) l)

  pub any-found : n < length ts → true ≡ f n → true ≡ list_any f (numbers_from n (drop n ts))
  any-found l is = sym (any-from l ∙ ap (λ (b : Bool). b || list_any f (numbers_from (n + 1) (drop (n + 1) ts))) (sym is))

  pub any-later : n < length ts → false ≡ f n → list_any f (numbers_from n (drop n ts))
      ≡ list_any f (numbers_from (n + 1) (drop (n + 1) ts))
  any-later l is = any-from l ∙ ap (λ (b : Bool). b || list_any f (numbers_from (n + 1) (drop (n + 1) ts))) (sym is)

none-left : (ts : List Thread) (n : ℕ) → length ts ≤ n → drop n ts ≡ []
none-left [] zero l = refl
none-left [] (suc n) l = refl
none-left (x ∷ ts) zero l = absurd (omega (arith, l))
none-left (x ∷ ts) (suc n) l = none-left ts n (omega (arith, l))

pub any-past : (f : ℕ → Bool) (ts : List Thread) (n : ℕ) → length ts ≤ n
    → list_any f (numbers_from n (drop n ts)) ≡ false
any-past f ts n l = ap (λ (us : List Thread). list_any f (numbers_from n us)) (none-left ts n l)
