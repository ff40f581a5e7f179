use Rattle.std.proofs.Common.{◌≡◌, ◌++◌, rules, pos, ◌+ℤ◌, ◌-ℤ◌, length}
use Rattle.std.specs.Int.{w32}
use Rattle.std.specs.List.{flat_map}
use Rattle.std.proofs.lemmas.Int.{ints, to_z-of_z}
use Rattle.model.specs.Bytecode.Fields.{signed, offset, pad}
use Rattle.opcodes.proofs.SwitchLaws.{pieces}
use Rattle.opcodes.proofs.put_switches.put_table_of.Goals as goal

pub returns-clause-bytes : goal.returns-clause-bytes
returns-clause-bytes c =
    let high = c.args.low +ℤ pos (length c.args.targets.now) -ℤ pos 1 in
    let e2 : c.put_i32.new.out.items ≡ c.put_pad.new.out.items ++ signed w32 (offset c.args.pc c.args.default) = search
    (rules, ints, to_z-of_z) in
    let e3 : c.put_i32-2.new.out.items ≡ c.put_i32.new.out.items ++ signed w32 c.args.low = search (
      rules,
      ints,
      to_z-of_z,
    ) in
    let e4 : c.put_i32-3.new.out.items ≡ c.put_i32-2.new.out.items ++ signed w32 high = search (rules, ints, to_z-of_z)
    in
    pieces c.args.out.now.items c.put_pad.new.out.items c.put_i32.new.out.items c.put_i32-2.new.out.items
    c.put_i32-3.new.out.items c.put_targets.new.out.items
    (pad c.args.pc) (signed w32 (offset c.args.pc c.args.default)) (signed w32 c.args.low) (signed w32 high)
    (flat_map (λ t. signed w32 (offset c.args.pc t)) c.args.targets.now)
    c.in_ok-put_pad.ensures e2 e3 e4 c.in_ok-put_targets.ensures.bytes
