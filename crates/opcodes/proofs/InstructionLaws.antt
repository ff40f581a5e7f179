-- An instruction that is read is spelled so, and what is spelled so is read again.
use Rattle.std.proofs.Common.{◌≡◌, ℕ, zero, suc, ◌^◌, ◌<◌, List, [], ◌∷◌, ◌++◌, length, Option, Some, None, Ok, refl}
use Rattle.std.proofs.Common.{sym, ap, subst, ◌∙◌, append_assoc, arith}
use Rattle.std.specs.Int.{w8, w16}
use Rattle.model.specs.Bytecode.Fields.{u2, signed}
use Rattle.model.specs.Bytecode.Opcodes.{Instr, opcode, load_opcode, store_opcode}
use Rattle.model.specs.Bytecode.Operands.{operands, primitive_number}
use Rattle.model.specs.Bytecode.Ranges.{Fits, ConstantFits, AccessFits, ArrayFits, InvokeFits}
use Rattle.model.specs.Bytecode.{spelling}
use Rattle.model.specs.declared.instructions.Width.TheVariants as width
use Rattle.model.specs.declared.instructions.Constant.{Constant}
use Rattle.model.specs.declared.instructions.Constant.TheVariants as constant
use Rattle.model.specs.declared.instructions.Local.TheVariants as local
use Rattle.model.specs.declared.instructions.Increment.TheVariants as increment
use Rattle.model.specs.declared.instructions.LocalAccess.{LocalAccess}
use Rattle.model.specs.declared.instructions.LocalAccess.TheVariants as access
use Rattle.model.specs.declared.instructions.Primitive.{Primitive}
use Rattle.model.specs.declared.instructions.ArrayOperation.{ArrayOperation}
use Rattle.model.specs.declared.instructions.ArrayOperation.TheVariants as array
use Rattle.model.specs.declared.instructions.Invocation.{Invocation}
use Rattle.model.specs.declared.instructions.Invocation.TheVariants as invoke
use Rattle.model.specs.declared.instructions.Instruction.TheVariants as instruction
use Rattle.opcodes.specs.declared.layout.Layout.{Layout}
use Rattle.opcodes.specs.declared.layout.Layout.TheVariants as layout
use Rattle.opcodes.specs.declared.layout.Named.{Named}
use Rattle.opcodes.specs.declared.layout.Named.TheVariants as named
use Rattle.opcodes.specs.Reading.Steps.{◌>>=◌, byte_at, number_at, signed_at, entry_at}
use Rattle.opcodes.specs.Reading.Tables.{bare_of, layout_of, primitives}
use Rattle.opcodes.specs.Reading.{by_name, increment_at, ends_with_zero, interface_at, new_array, new_array_at}
use Rattle.opcodes.specs.Reading.{wide_form_at, wide_at, layout_at, by_layout, by_opcode, instruction_at}
use Rattle.opcodes.specs.Starts.{Real}
use Rattle.opcodes.proofs.Loops.{ok_is}
use Rattle.opcodes.proofs.FieldLaws.{IsBytes, bind_ok, Takes, Takes-then, Takes-shorter, wide8, wide16, byte_takes}
use Rattle.opcodes.proofs.FieldLaws.{u2_takes, u2_again, signed_takes, signed_again}
use Rattle.opcodes.proofs.TableLaws.{bare_of-takes, opcode_of, layout_of-takes, primitives-take, primitives-again}
use Rattle.opcodes.proofs.TableLaws.{small_int-again, small_long-again, first_load-again, first_store-again}
use Rattle.opcodes.proofs.TableLaws.{stack-again, number-again, return-again, element_load-again, element_store-again}
use Rattle.opcodes.proofs.TableLaws.{monitor-again, layout-is_not_bare, layout-again}
use Rattle.opcodes.proofs.SwitchLaws.{IsRead, Reads, branch-takes, branch-again, table-takes, table-again, lookup-takes}
use Rattle.opcodes.proofs.SwitchLaws.{lookup-again}

-- ---- what is read is spelled so

always : {pc code : ℕ} {bytes : List ℕ} {i : Instr} {rest : List ℕ} → IsRead pc code i bytes rest
    → Reads pc code bytes (i, rest)
always {pc} {code} {bytes} {i} {rest} r = record {
  shorter = Takes-shorter bytes (operands pc i) rest r.takes;
  rest_fits = r.takes.rest_fits;
  read = λ real. r;
}

named-takes : (pc : ℕ) (what : Named) (n : ℕ) (bytes rest : List ℕ) → Takes bytes (u2 n) rest → n < 2 ^ 16
    → IsRead pc (opcode (by_name what 0)) (by_name what n) bytes rest
named-takes pc named.Int n bytes rest t lt = record { takes = t; fits = lt; opcode_is = refl }
named-takes pc named.Long n bytes rest t lt = record { takes = t; fits = lt; opcode_is = refl }
named-takes pc (named.Static a) n bytes rest t lt = record { takes = t; fits = lt; opcode_is = refl }
named-takes pc (named.Field a) n bytes rest t lt = record { takes = t; fits = lt; opcode_is = refl }
named-takes pc named.InvokeVirtual n bytes rest t lt = record { takes = t; fits = lt; opcode_is = refl }
named-takes pc named.InvokeSpecial n bytes rest t lt = record { takes = t; fits = lt; opcode_is = refl }
named-takes pc named.InvokeStatic n bytes rest t lt = record { takes = t; fits = lt; opcode_is = refl }
named-takes pc named.NewArray n bytes rest t lt = record { takes = t; fits = lt; opcode_is = refl }
named-takes pc (named.Class op) n bytes rest t lt = record { takes = t; fits = lt; opcode_is = refl }

increment-takes : (pc : ℕ) (bytes : List ℕ) (x : Instr × List ℕ) → IsBytes bytes → increment_at bytes ≡ Ok x
    → Reads pc 132 bytes x
unfolding increment_at
increment-takes pc bytes x fits e =
    let a = bind_ok (byte_at bytes) (λ n. signed_at w8 n.1
    >>= λ z. Ok (instruction.Local (access.Increment (increment.Byte n.0 z.0)), z.1)) x e in
    let b = bind_ok (signed_at w8 a.0.1) (λ z. Ok (
      instruction.Local (access.Increment (increment.Byte a.0.0 z.0)),
      z.1,
    )) x a.2 in
    let s = byte_takes bytes a.0.0 a.0.1 fits a.1 in
    let t = signed_takes w8 wide8 a.0.1 b.0.0 b.0.1 s.0.rest_fits b.1 in
    subst (Reads pc 132 bytes) (ok_is (instruction.Local (access.Increment (increment.Byte a.0.0 b.0.0)), b.0.1) x b.2)
    (always (record {
      takes = Takes-then bytes (a.0.0 ∷ []) a.0.1 (signed w8 b.0.0) b.0.1 s.0 t.0;
      fits = (s.1, t.1);
      opcode_is = refl;
    }))

zero-takes : (n count last : ℕ) (rest : List ℕ) (x : Instr × List ℕ) → ends_with_zero n count last rest ≡ Ok x
    → (last ≡ 0) × (x ≡ (instruction.Invoke (invoke.Interface count) n, rest))
zero-takes n count zero rest x e = (refl, sym (ok_is (instruction.Invoke (invoke.Interface count) n, rest) x e))
zero-takes n count (suc b) rest x e = absurd cc

interface-takes : (pc : ℕ) (bytes : List ℕ) (x : Instr × List ℕ) → IsBytes bytes → interface_at bytes ≡ Ok x
    → Reads pc 185 bytes x
unfolding interface_at
interface-takes pc bytes x fits e =
    let a = bind_ok (number_at w16 bytes) (λ n. byte_at n.1 >>= λ count. byte_at count.1
    >>= λ last. ends_with_zero n.0 count.0 last.0 last.1) x e in
    let b = bind_ok (byte_at a.0.1) (λ count. byte_at count.1 >>= λ last. ends_with_zero a.0.0 count.0 last.0 last.1) x
    a.2 in
    let c = bind_ok (byte_at b.0.1) (λ last. ends_with_zero a.0.0 b.0.0 last.0 last.1) x b.2 in
    let z = zero-takes a.0.0 b.0.0 c.0.0 c.0.1 x c.2 in
    let r = u2_takes bytes a.0.0 a.0.1 fits a.1 in
    let s = byte_takes a.0.1 b.0.0 b.0.1 r.0.rest_fits b.1 in
    let t = byte_takes b.0.1 c.0.0 c.0.1 s.0.rest_fits c.1 in
    let last : Takes b.0.1 (0 ∷ []) c.0.1 = rw z.0 at t.0 in
    subst (Reads pc 185 bytes) (sym z.1)
    (always (record {
      takes = Takes-then bytes (u2 a.0.0) a.0.1 (b.0.0 ∷ 0 ∷ []) c.0.1 r.0 (Takes-then a.0.1 (b.0.0 ∷ []) b.0.1 (0 ∷ [])
          c.0.1 s.0 last);
      fits = (r.1, s.1);
      opcode_is = refl;
    }))

type-takes : (n : ℕ) (p : Option Primitive) (rest : List ℕ) (x : Instr × List ℕ) → entry_at primitives n ≡ p
    → new_array p rest ≡ Ok x → (type : Primitive) × (primitive_number type ≡ n)
    × (x ≡ (instruction.Array (array.New type), rest))
type-takes n None rest x h e = absurd cc
type-takes n (Some type) rest x h e = (
  type,
  primitives-take n type h,
  sym (ok_is (instruction.Array (array.New type), rest) x e),
)

new_array-takes : (pc : ℕ) (bytes : List ℕ) (x : Instr × List ℕ) → IsBytes bytes → new_array_at bytes ≡ Ok x
    → Reads pc 188 bytes x
unfolding new_array_at
new_array-takes pc bytes x fits e =
    let a = bind_ok (byte_at bytes) (λ n. new_array (entry_at primitives n.0) n.1) x e in
    let t = type-takes a.0.0 (entry_at primitives a.0.0) a.0.1 x refl a.2 in
    let s = byte_takes bytes a.0.0 a.0.1 fits a.1 in
    let made : Takes bytes (primitive_number t.0 ∷ []) a.0.1 = rw t.1 s.0 in
    subst (Reads pc 188 bytes) (sym t.2) (always (record { takes = made; fits = tt; opcode_is = refl }))

-- after wide stand the opcode of a short form and these bytes
record IsWideForm (pc b : ℕ) (i : Instr) (bytes rest : List ℕ) : Type 0 where
  tail : List ℕ
  operands_are : operands pc i ≡ b ∷ tail
  takes : Takes bytes tail rest
  fits : Fits pc i
  opcode_is : opcode i ≡ 196

abbrev WideForm : ℕ → ℕ → List ℕ → Instr × List ℕ → Type 0
WideForm pc b bytes x = IsWideForm pc b x.0 bytes x.1

form-takes : (pc b : ℕ) (l : Option Layout) (bytes : List ℕ) (x : Instr × List ℕ) → layout_of b ≡ l → IsBytes bytes
    → wide_form_at l bytes ≡ Ok x → WideForm pc b bytes x
form-takes pc b None bytes x h fits e = absurd cc
form-takes pc b (Some layout.Byte) bytes x h fits e = absurd cc
form-takes pc b (Some layout.Short) bytes x h fits e = absurd cc
form-takes pc b (Some layout.NarrowInt) bytes x h fits e = absurd cc
form-takes pc b (Some (layout.Load k)) bytes x h fits e =
    let a = bind_ok (number_at w16 bytes) (λ n. Ok (instruction.Local (access.Load k (local.Wide n.0)), n.1)) x e in
    let s = u2_takes bytes a.0.0 a.0.1 fits a.1 in
    let code = layout_of-takes b (layout.Load k) h in
    subst (WideForm pc b bytes) (ok_is (instruction.Local (access.Load k (local.Wide a.0.0)), a.0.1) x a.2)
    (record { tail = u2 a.0.0; operands_are = ap (λ c. c ∷ u2 a.0.0) code; takes = s.0; fits = s.1; opcode_is = refl })
form-takes pc b (Some (layout.Store k)) bytes x h fits e =
    let a = bind_ok (number_at w16 bytes) (λ n. Ok (instruction.Local (access.Store k (local.Wide n.0)), n.1)) x e in
    let s = u2_takes bytes a.0.0 a.0.1 fits a.1 in
    let code = layout_of-takes b (layout.Store k) h in
    subst (WideForm pc b bytes) (ok_is (instruction.Local (access.Store k (local.Wide a.0.0)), a.0.1) x a.2)
    (record { tail = u2 a.0.0; operands_are = ap (λ c. c ∷ u2 a.0.0) code; takes = s.0; fits = s.1; opcode_is = refl })
form-takes pc b (Some layout.Increment) bytes x h fits e =
    let a = bind_ok (number_at w16 bytes) (λ n. signed_at w16 n.1
    >>= λ z. Ok (instruction.Local (access.Increment (increment.Wide n.0 z.0)), z.1)) x e in
    let c = bind_ok (signed_at w16 a.0.1) (λ z. Ok (
      instruction.Local (access.Increment (increment.Wide a.0.0 z.0)),
      z.1,
    )) x a.2 in
    let s = u2_takes bytes a.0.0 a.0.1 fits a.1 in
    let t = signed_takes w16 wide16 a.0.1 c.0.0 c.0.1 s.0.rest_fits c.1 in
    let code = layout_of-takes b layout.Increment h in
    subst (WideForm pc b bytes) (ok_is (instruction.Local (access.Increment (increment.Wide a.0.0 c.0.0)), c.0.1) x c.2)
    (record {
      tail = u2 a.0.0 ++ signed w16 c.0.0;
      operands_are = ap (λ d. d ∷ u2 a.0.0 ++ signed w16 c.0.0) code;
      takes = Takes-then bytes (u2 a.0.0) a.0.1 (signed w16 c.0.0) c.0.1 s.0 t.0;
      fits = (s.1, t.1);
      opcode_is = refl;
    })
form-takes pc b (Some (layout.Branch t)) bytes x h fits e = absurd cc
form-takes pc b (Some (layout.Named what)) bytes x h fits e = absurd cc
form-takes pc b (Some layout.InvokeInterface) bytes x h fits e = absurd cc
form-takes pc b (Some layout.NewArray) bytes x h fits e = absurd cc
form-takes pc b (Some layout.TableSwitch) bytes x h fits e = absurd cc
form-takes pc b (Some layout.LookupSwitch) bytes x h fits e = absurd cc
form-takes pc b (Some layout.Wide) bytes x h fits e = absurd cc

wide-takes : (pc : ℕ) (bytes : List ℕ) (x : Instr × List ℕ) → IsBytes bytes → wide_at bytes ≡ Ok x
    → Reads pc 196 bytes x
unfolding wide_at
wide-takes pc bytes x fits e =
    let a = bind_ok (byte_at bytes) (λ b. wide_form_at (layout_of b.0) b.1) x e in
    let s = byte_takes bytes a.0.0 a.0.1 fits a.1 in
    let f = form-takes pc a.0.0 (layout_of a.0.0) a.0.1 x refl s.0.rest_fits a.2 in
    always (record {
      takes = rw f.operands_are (Takes-then bytes (a.0.0 ∷ []) a.0.1 f.tail x.1 s.0 f.takes);
      fits = f.fits;
      opcode_is = f.opcode_is;
    })

layout-takes : (pc : ℕ) (l : Layout) (bytes : List ℕ) (x : Instr × List ℕ) → IsBytes bytes → layout_at pc l bytes ≡ Ok x
    → Reads pc (opcode_of l) bytes x
unfolding layout_at
layout-takes pc layout.Byte bytes x fits e =
    let a = bind_ok (signed_at w8 bytes) (λ z. Ok (instruction.Constant (constant.Byte z.0), z.1)) x e in
    let s = signed_takes w8 wide8 bytes a.0.0 a.0.1 fits a.1 in
    subst (Reads pc 16 bytes) (ok_is (instruction.Constant (constant.Byte a.0.0), a.0.1) x a.2)
    (always (record { takes = s.0; fits = s.1; opcode_is = refl }))
layout-takes pc layout.Short bytes x fits e =
    let a = bind_ok (signed_at w16 bytes) (λ z. Ok (instruction.Constant (constant.Short z.0), z.1)) x e in
    let s = signed_takes w16 wide16 bytes a.0.0 a.0.1 fits a.1 in
    subst (Reads pc 17 bytes) (ok_is (instruction.Constant (constant.Short a.0.0), a.0.1) x a.2)
    (always (record { takes = s.0; fits = s.1; opcode_is = refl }))
layout-takes pc layout.NarrowInt bytes x fits e =
    let a = bind_ok (byte_at bytes) (λ n. Ok (instruction.Constant (constant.Int width.Narrow n.0), n.1)) x e in
    let s = byte_takes bytes a.0.0 a.0.1 fits a.1 in
    subst (Reads pc 18 bytes) (ok_is (instruction.Constant (constant.Int width.Narrow a.0.0), a.0.1) x a.2)
    (always (record { takes = s.0; fits = s.1; opcode_is = refl }))
layout-takes pc (layout.Load k) bytes x fits e =
    let a = bind_ok (byte_at bytes) (λ n. Ok (instruction.Local (access.Load k (local.Byte n.0)), n.1)) x e in
    let s = byte_takes bytes a.0.0 a.0.1 fits a.1 in
    subst (Reads pc (load_opcode k) bytes) (ok_is (instruction.Local (access.Load k (local.Byte a.0.0)), a.0.1) x a.2)
    (always (record { takes = s.0; fits = s.1; opcode_is = refl }))
layout-takes pc (layout.Store k) bytes x fits e =
    let a = bind_ok (byte_at bytes) (λ n. Ok (instruction.Local (access.Store k (local.Byte n.0)), n.1)) x e in
    let s = byte_takes bytes a.0.0 a.0.1 fits a.1 in
    subst (Reads pc (store_opcode k) bytes) (ok_is (instruction.Local (access.Store k (local.Byte a.0.0)), a.0.1) x a.2)
    (always (record { takes = s.0; fits = s.1; opcode_is = refl }))
layout-takes pc layout.Increment bytes x fits e = increment-takes pc bytes x fits e
layout-takes pc (layout.Branch t) bytes x fits e = branch-takes pc t bytes x fits e
layout-takes pc (layout.Named what) bytes x fits e =
    let a = bind_ok (number_at w16 bytes) (λ n. Ok (by_name what n.0, n.1)) x e in
    let s = u2_takes bytes a.0.0 a.0.1 fits a.1 in
    subst (Reads pc (opcode (by_name what 0)) bytes) (ok_is (by_name what a.0.0, a.0.1) x a.2)
    (always (named-takes pc what a.0.0 bytes a.0.1 s.0 s.1))
layout-takes pc layout.InvokeInterface bytes x fits e = interface-takes pc bytes x fits e
layout-takes pc layout.NewArray bytes x fits e = new_array-takes pc bytes x fits e
layout-takes pc layout.TableSwitch bytes x fits e = table-takes pc bytes x fits e
layout-takes pc layout.LookupSwitch bytes x fits e = lookup-takes pc bytes x fits e
layout-takes pc layout.Wide bytes x fits e = wide-takes pc bytes x fits e

by_layout-takes : (pc b : ℕ) (l : Option Layout) (bytes : List ℕ) (x : Instr × List ℕ) → layout_of b ≡ l → IsBytes bytes
    → by_layout pc l bytes ≡ Ok x → Reads pc b bytes x
by_layout-takes pc b None bytes x h fits e = absurd cc
by_layout-takes pc b (Some l) bytes x h fits e = subst (λ (c : ℕ). Reads pc c bytes x) (layout_of-takes b l h)
    (layout-takes pc l bytes x fits e)

by_opcode-takes : (pc b : ℕ) (i : Option Instr) (bytes : List ℕ) (x : Instr × List ℕ) → bare_of b ≡ i → IsBytes bytes
    → by_opcode pc i (layout_of b) bytes ≡ Ok x → Reads pc b bytes x
by_opcode-takes pc b None bytes x h fits e = by_layout-takes pc b (layout_of b) bytes x refl fits e
by_opcode-takes pc b (Some i) bytes x h fits e =
    let t = bare_of-takes b i h in
    subst (Reads pc b bytes) (ok_is (i, bytes) x e)
    (always (record {
      takes = record { parts = rw t.nothing refl; rest_fits = fits };
      fits = t.fits pc;
      opcode_is = t.opcode_is;
    }))

-- an instruction and what is after it are the bytes
pub record IsFront (pc : ℕ) (i : Instr) (bytes rest : List ℕ) : Type 0 where
  pub parts : bytes ≡ spelling pc i ++ rest
  pub fits : Fits pc i

pub record Shortens (pc : ℕ) (i : Instr) (bytes rest : List ℕ) : Type 0 where
  pub shorter : length rest < length bytes
  pub rest_fits : IsBytes rest
  pub front : Real i → IsFront pc i bytes rest

pub instruction-takes : (pc : ℕ) (bytes : List ℕ) (i : Instr) (rest : List ℕ) → IsBytes bytes → instruction_at pc bytes
    ≡ Ok (i, rest) → Shortens pc i bytes rest
unfolding instruction_at
instruction-takes pc bytes i rest fits e =
    let a = bind_ok (byte_at bytes) (λ b. by_opcode pc (bare_of b.0) (layout_of b.0) b.1) (i, rest) e in
    let s = byte_takes bytes a.0.0 a.0.1 fits a.1 in
    let r = by_opcode-takes pc a.0.0 (bare_of a.0.0) a.0.1 (i, rest) refl s.0.rest_fits a.2 in
    let one : length bytes ≡ suc (length a.0.1) = ap length s.0.parts in
    record {
      shorter = let less = r.shorter in omega arith;
      rest_fits = r.rest_fits;
      front = λ real.
          let read = r.read real in
          let both = Takes-then bytes (a.0.0 ∷ []) a.0.1 (operands pc i) rest s.0 read.takes in
          record { parts = rw read.opcode_is both.parts; fits = read.fits };
    }

-- ---- what is spelled so is read again

by_bare : (pc b : ℕ) (i : Instr) (rest : List ℕ) → bare_of b ≡ Some i → instruction_at pc (b ∷ rest) ≡ Ok (i, rest)
unfolding instruction_at
by_bare pc b i rest h = rw h refl

with_layout : (pc : ℕ) (l : Layout) (rest : List ℕ) (x : Instr × List ℕ) → layout_at pc l rest ≡ Ok x
    → instruction_at pc (opcode_of l ∷ rest) ≡ Ok x
unfolding instruction_at
with_layout pc l rest x h = rw (layout-is_not_bare l, layout-again l) h

named-again : (pc : ℕ) (what : Named) (n : ℕ) (rest : List ℕ) → n < 2 ^ 16
    → instruction_at pc (opcode (by_name what 0) ∷ (u2 n ++ rest)) ≡ Ok (by_name what n, rest)
unfolding layout_at
named-again pc what n rest lt = with_layout pc (layout.Named what) (u2 n ++ rest) (
  by_name what n,
  rest,
) (rw (u2_again n rest lt) refl)

wide-again : (pc : ℕ) (l : Layout) (rest : List ℕ) (x : Instr × List ℕ) → wide_form_at (Some l) rest ≡ Ok x
    → instruction_at pc (196 ∷ opcode_of l ∷ rest) ≡ Ok x
unfolding layout_at wide_at
wide-again pc l rest x h = with_layout pc layout.Wide (opcode_of l ∷ rest) x (rw (layout-again l) h)

constant-again : (pc : ℕ) (c : Constant ℕ ℕ) (rest : List ℕ) → ConstantFits c
    → instruction_at pc (spelling pc (instruction.Constant c) ++ rest) ≡ Ok (instruction.Constant c, rest)
unfolding layout_at bare_of
constant-again pc constant.Null rest fits = by_bare pc 1 (instruction.Constant constant.Null) rest refl
constant-again pc (constant.SmallInt n) rest fits = by_bare pc _ (instruction.Constant (constant.SmallInt n)) rest
    (small_int-again n)
constant-again pc (constant.SmallLong n) rest fits = by_bare pc _ (instruction.Constant (constant.SmallLong n)) rest
    (small_long-again n)
constant-again pc (constant.Byte z) rest fits = with_layout pc layout.Byte (signed w8 z ++ rest)
    (instruction.Constant (constant.Byte z), rest) (rw (signed_again w8 wide8 z rest fits) refl)
constant-again pc (constant.Short z) rest fits = with_layout pc layout.Short (signed w16 z ++ rest)
    (instruction.Constant (constant.Short z), rest) (rw (signed_again w16 wide16 z rest fits) refl)
constant-again pc (constant.Int width.Narrow n) rest fits = with_layout pc layout.NarrowInt (n ∷ rest)
    (instruction.Constant (constant.Int width.Narrow n), rest) refl
constant-again pc (constant.Int width.Wide n) rest fits = named-again pc named.Int n rest fits
constant-again pc (constant.Long n) rest fits = named-again pc named.Long n rest fits

access-again : (pc : ℕ) (a : LocalAccess) (rest : List ℕ) → AccessFits a
    → instruction_at pc (spelling pc (instruction.Local a) ++ rest) ≡ Ok (instruction.Local a, rest)
unfolding layout_at increment_at
access-again pc (access.Load k (local.First n)) rest fits = by_bare pc _
    (instruction.Local (access.Load k (local.First n))) rest (first_load-again k n)
access-again pc (access.Load k (local.Byte n)) rest fits = with_layout pc (layout.Load k) (n ∷ rest)
    (instruction.Local (access.Load k (local.Byte n)), rest) refl
access-again pc (access.Load k (local.Wide n)) rest fits = wide-again pc (layout.Load k) (u2 n ++ rest)
    (instruction.Local (access.Load k (local.Wide n)), rest) (rw (u2_again n rest fits) refl)
access-again pc (access.Store k (local.First n)) rest fits = by_bare pc _
    (instruction.Local (access.Store k (local.First n))) rest (first_store-again k n)
access-again pc (access.Store k (local.Byte n)) rest fits = with_layout pc (layout.Store k) (n ∷ rest)
    (instruction.Local (access.Store k (local.Byte n)), rest) refl
access-again pc (access.Store k (local.Wide n)) rest fits = wide-again pc (layout.Store k) (u2 n ++ rest)
    (instruction.Local (access.Store k (local.Wide n)), rest) (rw (u2_again n rest fits) refl)
access-again pc (access.Increment (increment.Byte n z)) rest fits = with_layout pc layout.Increment
    (n ∷ (signed w8 z ++ rest)) (
      instruction.Local (access.Increment (increment.Byte n z)),
      rest,
    ) (rw (signed_again w8 wide8 z rest fits.1) refl)
access-again pc (access.Increment (increment.Wide n z)) rest fits =
    let read : wide_form_at (Some layout.Increment) (u2 n ++ (signed w16 z ++ rest))
    ≡ Ok (
      instruction.Local (access.Increment (increment.Wide n z)),
      rest,
    ) = rw (u2_again n (signed w16 z ++ rest) fits.0, signed_again w16 wide16 z rest fits.1) refl in
    ap (λ (bytes : List ℕ). instruction_at pc (196 ∷ 132 ∷ bytes)) (append_assoc (u2 n) (signed w16 z) rest)
    ∙ wide-again pc layout.Increment (u2 n ++ (signed w16 z ++ rest))
    (instruction.Local (access.Increment (increment.Wide n z)), rest) read

array-again : (pc : ℕ) (op : ArrayOperation ℕ) (rest : List ℕ) → ArrayFits op
    → instruction_at pc (spelling pc (instruction.Array op) ++ rest) ≡ Ok (instruction.Array op, rest)
unfolding layout_at new_array_at bare_of
array-again pc (array.New type) rest fits = with_layout pc layout.NewArray (primitive_number type ∷ rest)
    (instruction.Array (array.New type), rest) (rw (primitives-again type) refl)
array-again pc (array.NewOf n) rest fits = named-again pc named.NewArray n rest fits
array-again pc array.Length rest fits = by_bare pc 190 (instruction.Array array.Length) rest refl
array-again pc (array.Load k) rest fits = by_bare pc _ (instruction.Array (array.Load k)) rest (element_load-again k)
array-again pc (array.Store k) rest fits = by_bare pc _ (instruction.Array (array.Store k)) rest (element_store-again k)

invoke-again : (pc : ℕ) (how : Invocation) (n : ℕ) (rest : List ℕ) → InvokeFits how n
    → instruction_at pc (spelling pc (instruction.Invoke how n) ++ rest) ≡ Ok (instruction.Invoke how n, rest)
unfolding layout_at interface_at
invoke-again pc invoke.Virtual n rest fits = named-again pc named.InvokeVirtual n rest fits
invoke-again pc invoke.Special n rest fits = named-again pc named.InvokeSpecial n rest fits
invoke-again pc invoke.Static n rest fits = named-again pc named.InvokeStatic n rest fits
invoke-again pc (invoke.Interface count) n rest fits =
    let read : layout_at pc layout.InvokeInterface (u2 n ++ (count ∷ 0 ∷ rest))
    ≡ Ok (instruction.Invoke (invoke.Interface count) n, rest) = rw (u2_again n (count ∷ 0 ∷ rest) fits.0) refl in
    ap (λ (bytes : List ℕ). instruction_at pc (185 ∷ bytes)) (append_assoc (u2 n) (count ∷ 0 ∷ []) rest)
    ∙ with_layout pc layout.InvokeInterface (u2 n ++ (count ∷ 0 ∷ rest))
    (instruction.Invoke (invoke.Interface count) n, rest) read

pub instruction-again : (pc : ℕ) (i : Instr) (rest : List ℕ) → Fits pc i → Real i
    → instruction_at pc (spelling pc i ++ rest) ≡ Ok (i, rest)
unfolding layout_at bare_of
instruction-again pc instruction.Nop rest fits real = by_bare pc 0 instruction.Nop rest refl
instruction-again pc (instruction.Constant c) rest fits real = constant-again pc c rest fits
instruction-again pc (instruction.Local a) rest fits real = access-again pc a rest fits
instruction-again pc (instruction.Stack op) rest fits real = by_bare pc _ (instruction.Stack op) rest (stack-again op)
instruction-again pc (instruction.Number op) rest fits real = by_bare pc _ (instruction.Number op) rest
    (number-again op)
instruction-again pc (instruction.Branch t target) rest fits real = with_layout pc (layout.Branch t) _
    (instruction.Branch t target, rest) (branch-again pc t target rest fits real.0)
instruction-again pc (instruction.TableSwitch s) rest fits real = with_layout pc layout.TableSwitch _
    (instruction.TableSwitch s, rest) (table-again pc s rest fits real)
instruction-again pc (instruction.LookupSwitch s) rest fits real = with_layout pc layout.LookupSwitch _
    (instruction.LookupSwitch s, rest) (lookup-again pc s rest fits real)
instruction-again pc (instruction.Return k) rest fits real = by_bare pc _ (instruction.Return k) rest (return-again k)
instruction-again pc (instruction.Static a n) rest fits real = named-again pc (named.Static a) n rest fits
instruction-again pc (instruction.Field a n) rest fits real = named-again pc (named.Field a) n rest fits
instruction-again pc (instruction.Array op) rest fits real = array-again pc op rest fits
instruction-again pc (instruction.Class op n) rest fits real = named-again pc (named.Class op) n rest fits
instruction-again pc (instruction.Invoke how n) rest fits real = invoke-again pc how n rest fits
instruction-again pc instruction.Throw rest fits real = by_bare pc 191 instruction.Throw rest refl
instruction-again pc (instruction.Monitor op) rest fits real = by_bare pc _ (instruction.Monitor op) rest
    (monitor-again op)
