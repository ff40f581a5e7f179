use Rattle.std.proofs.Common.{◌≡◌, true, false, ap, sym, ◌∙◌, length, arith, rules}
use Rattle.std.proofs.lemmas.Bool.{false≢true}
use Rattle.opcodes.specs.Starts.{all_land}
use Rattle.opcodes.proofs.DecodingLaws.{none_left}
use Rattle.opcodes.proofs.EncodingLaws.{non_empty, same-code, spelled-code, spelled-lands}
use Rattle.opcodes.proofs.encoding.encode.Goals as goal

pub returns-then-is_empty-clause-only : goal.returns-then-is_empty-clause-only
returns-then-is_empty-clause-only c = λ bytes items code e.
    let same = (same-code _ _ _ c.in_ok-bytes.ensures.found bytes items code.stand e).1 in
    let some = code.some in
    let len : length c.in_ok-bytes.bytes.items ≡ length bytes = ap length same in
    let none : length c.in_ok-bytes.bytes.items ≡ 0 = none_left _ (search rules) in
    absurd (omega arith)

pub returns-then-not-each_lands_well-clause-only : goal.returns-then-not-each_lands_well-clause-only
returns-then-not-each_lands_well-clause-only c = λ bytes items code e.
    let land = spelled-lands _ _ _ bytes items c.in_ok-bytes.ensures.found code e in
    let not : all_land c.in_ok-bytes.starts.items c.args.instructions.now
    ≡ false = rw (← c.deref.ensures.value) (sym c.if-not-each_lands_well.ensures) in
    absurd (false≢true (sym not ∙ land))

pub returns-clause-found : goal.returns-clause-found
returns-clause-found c =
    let land : all_land c.in_ok-bytes.starts.items c.args.instructions.now
    ≡ true = rw (← c.deref.ensures.value) (sym c.if-not-each_lands_well.ensures) in
    let s = c.in_ok-bytes.starts.ok.0 in
    let b = c.in_ok-bytes.bytes.ok.0 in
    spelled-code _ _ _ c.in_ok-bytes.ensures.found (omega (arith, s, b, c.in_ok-bytes.ensures.len))
    (non_empty _ (search rules)) (omega (arith, b, c.in_ok-bytes.ensures.few)) land

pub returns-clause-only : goal.returns-clause-only
returns-clause-only c = λ bytes items code e. (same-code _ _ _ c.in_ok-bytes.ensures.found bytes items code.stand e).1
