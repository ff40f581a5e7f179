-- Of a long line it is enough to keep 201 bytes.
use Rattle.std.proofs.Common.{◌≡◌, ◌<◌, ◌≤◌, ℕ, Bool, true, false, List, ◌∙◌, Option, Some, None, ap, arith, length, refl, sym, take}
use Rattle.std.specs.Prelude.{nat_le}
use Rattle.std.proofs.lemmas.List.{length-take, take_all}
use Rattle.debug_texts.specs.Commands.{command_of}

too_long : (line : List ℕ) → nat_le (length line) 200 ≡ false → command_of line ≡ None
too_long line e = rw e refl

kept_by : (text : List ℕ) (b c : Bool) → nat_le (length text) 200 ≡ b → nat_le (length (take 201 text)) 200 ≡ c
    → command_of (take 201 text) ≡ command_of text
kept_by text true c e f =
    let few : length text ≤ 200 = grind (arith, e) in
    ap command_of (take_all 201 text (omega (arith, few)))
kept_by text false false e f = too_long (take 201 text) f ∙ sym (too_long text e)
kept_by text false true e f =
    let many : 200 < length text = grind (arith, e) in
    let few : length (take 201 text) ≤ 200 = grind (arith, f) in
    let kept = length-take 201 text in
    absurd (omega (arith, many, few, kept))

pub command_kept : (text : List ℕ) → command_of (take 201 text) ≡ command_of text
command_kept text = kept_by text (nat_le (length text) 200) (nat_le (length (take 201 text)) 200) refl refl
