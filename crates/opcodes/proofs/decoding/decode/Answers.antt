use Rattle.std.proofs.Common.{◌≡◌, true, false, sym, ◌∙◌, length, ◌≤◌, arith, rules}
use Rattle.std.proofs.lemmas.Bool.{false≢true}
use Rattle.std.proofs.lemmas.Result.{err_from_is_err_and}
use Rattle.model.specs.Bytecode.{instructions_of}
use Rattle.opcodes.specs.Starts.{all_land}
use Rattle.opcodes.proofs.CodeLaws.{code-real, code-lands, is-code}
use Rattle.opcodes.proofs.DecodingLaws.{some_left}
use Rattle.opcodes.proofs.decoding.decode.Goals as goal

pub returns-in_err-items-clause-only : goal.returns-in_err-items-clause-only
returns-in_err-items-clause-only c = λ items code.
    let p = err_from_is_err_and c.from_residual.result c.from_residual.ensures.1 in
    rw (p.1, p.2) (c.in_err-items.ensures.err items (code-real _ items code) code.stand)

pub returns-then-not-all_land_well-clause-only : goal.returns-then-not-all_land_well-clause-only
returns-then-not-all_land_well-clause-only c = λ items code.
    let same = c.in_ok-items.ensures.only items (code-real _ items code) code.stand in
    let land = code-lands _ items c.in_ok-items.starts.items (rw (← same) at c.in_ok-items.ensures.starts) code in
    let not : all_land c.in_ok-items.starts.items (instructions_of items) ≡ false = rw (
      same,
      ← c.deref.ensures.value,
      ← c.deref-2.ensures.value,
    ) (sym c.if-not-all_land_well.ensures) in
    absurd (false≢true (sym not ∙ land))

pub returns-clause-found : goal.returns-clause-found
returns-clause-found c =
    let land : all_land c.in_ok-items.starts.items (instructions_of c.in_ok-items.items.items)
    ≡ true = rw (← c.deref.ensures.value, ← c.deref-2.ensures.value) (sym c.if-not-all_land_well.ensures) in
    let few : length c.in_ok-items.starts.items ≤ length c.args.bytes.now = omega (
      arith,
      c.in_ok-items.starts.ok.0,
      c.in_ok-items.ensures.len,
    ) in
    rw c.new.ensures (is-code c.args.bytes.now c.in_ok-items.items.items c.in_ok-items.starts.items
    c.in_ok-items.ensures.found c.in_ok-items.ensures.starts few (some_left _ (search rules)) (omega arith) land)

pub returns-clause-only : goal.returns-clause-only
returns-clause-only c = λ items code. c.new.ensures
    ∙ sym (c.in_ok-items.ensures.only items (code-real _ items code) code.stand)
