-- The text of threads, one after another.
use Rattle.std.proofs.Common.{◌≡◌, ◌<◌, ◌-◌, ◌+◌, ◌∙◌, ◌++◌, ℕ, suc, List, ap, arith, sym}
use Rattle.std.proofs.lemmas.List.{append_assoc}
use Rattle.model.specs.Machines.{Recorded}
use Rattle.page_sessions.specs.Texts.{thread_text, threads_from}

one_less : (n k : ℕ) → k < n → n - k ≡ suc (n - (k + 1))
one_less n k h = omega (arith, h)

-- one thread more
pub one_more : (v : Recorded) (count n : ℕ) (text whole : List ℕ) → n < count
    → text ++ threads_from v n (count - n) ≡ whole
    → (text ++ thread_text v n) ++ threads_from v (n + 1) (count - (n + 1)) ≡ whole
one_more v count n text whole h e =
    append_assoc text (thread_text v n) (threads_from v (n + 1) (count - (n + 1)))
    ∙ ap (λ (k : ℕ). text ++ threads_from v n k) (sym (one_less count n h)) ∙ e
