-- The bytes of an instruction are as many as its size says, and its size is the same with names in place of pool
-- numbers.
use Rattle.std.proofs.Common.{◌≡◌, ℕ, ℤ, ◌+◌, ◌*◌, List, [], ◌∷◌, ◌++◌, length, refl, sym, ◌∙◌, arith}
use Rattle.std.specs.Prelude.{pos}
use Rattle.std.specs.Int.{w8, w16, w32}
use Rattle.std.specs.List.{flat_map}
use Rattle.std.proofs.lemmas.List.{length-append, length-replicate}
use Rattle.model.specs.Bytecode.{spelling}
use Rattle.model.specs.Bytecode.Fields.{u2, signed, offset, pad}
use Rattle.model.specs.Bytecode.Opcodes.{Instr}
use Rattle.model.specs.Bytecode.Operands.{table_high, table_operands, lookup_operands}
use Rattle.model.specs.ClassFiles.Listing.{listed}
use Rattle.model.specs.Sizes.{pad_at, size_at}
use Rattle.model.specs.Switches.{Table, Lookup}
use Rattle.model.specs.declared.class_files.Entry.{Entry}
use Rattle.model.specs.declared.instructions.ArrayOperation.TheVariants as array
use Rattle.model.specs.declared.instructions.Constant.TheVariants as constant
use Rattle.model.specs.declared.instructions.Increment.TheVariants as increment
use Rattle.model.specs.declared.instructions.Instruction.TheVariants as instruction
use Rattle.model.specs.declared.instructions.Invocation.TheVariants as invoke
use Rattle.model.specs.declared.instructions.Local.TheVariants as local
use Rattle.model.specs.declared.instructions.LocalAccess.TheVariants as access
use Rattle.model.specs.declared.instructions.Test.TheVariants as test
use Rattle.model.specs.declared.instructions.Width.TheVariants.{Narrow, Wide}

-- ---- numbers

length-u2 : (n : ℕ) → length (u2 n) ≡ 2
unfolding u2
length-u2 n = refl

length-signed8 : (z : ℤ) → length (signed w8 z) ≡ 1
unfolding signed
length-signed8 z = refl

length-signed16 : (z : ℤ) → length (signed w16 z) ≡ 2
unfolding signed
length-signed16 z = refl

length-signed32 : (z : ℤ) → length (signed w32 z) ≡ 4
unfolding signed
length-signed32 z = refl

-- ---- switches

four_each : (pc : ℕ) (targets : List ℕ) → length (flat_map (λ t. signed w32 (offset pc t)) targets) ≡ 4 * length targets
four_each pc [] = refl
four_each pc (t ∷ ts) = omega (
  arith,
  length-append (signed w32 (offset pc t)) (flat_map (λ u. signed w32 (offset pc u)) ts),
  length-signed32 (offset pc t),
  four_each pc ts,
)

eight_each : (pc : ℕ) (pairs : List (ℤ × ℕ))
    → length (flat_map (λ p. signed w32 p.0 ++ signed w32 (offset pc p.1)) pairs) ≡ 8 * length pairs
eight_each pc [] = refl
eight_each pc (p ∷ ps) =
    let both = length-append (signed w32 p.0) (signed w32 (offset pc p.1)) in
    omega (
      arith,
      length-append (signed w32 p.0 ++ signed w32 (offset pc p.1))
          (flat_map (λ q. signed w32 q.0 ++ signed w32 (offset pc q.1)) ps),
      both,
      length-signed32 p.0,
      length-signed32 (offset pc p.1),
      eight_each pc ps,
    )

following : (z : ℤ) (rest : List ℕ) → length (signed w32 z ++ rest) ≡ 4 + length rest
following z rest = omega (arith, length-append (signed w32 z) rest, length-signed32 z)

padded : (pc : ℕ) (rest : List ℕ) → length (pad pc ++ rest) ≡ pad_at pc + length rest
padded pc rest = omega (arith, length-append (pad pc) rest, length-replicate {A = ℕ} (pad_at pc) 0)

table_size : (pc : ℕ) (s : Table ℕ) → length (table_operands pc s) ≡ pad_at pc + 12 + 4 * length s.targets
table_size pc s =
    let targets = flat_map (λ t. signed w32 (offset pc t)) s.targets in
    let high = signed w32 (table_high s) ++ targets in
    let low = signed w32 s.low ++ high in
    omega (
      arith,
      padded pc (signed w32 (offset pc s.default) ++ low),
      following (offset pc s.default) low,
      following s.low high,
      following (table_high s) targets,
      four_each pc s.targets,
    )

lookup_size : (pc : ℕ) (s : Lookup ℕ) → length (lookup_operands pc s) ≡ pad_at pc + 8 + 8 * length s.pairs
lookup_size pc s =
    let pairs = flat_map (λ p. signed w32 p.0 ++ signed w32 (offset pc p.1)) s.pairs in
    let count = signed w32 (pos (length s.pairs)) ++ pairs in
    omega (
      arith,
      padded pc (signed w32 (offset pc s.default) ++ count),
      following (offset pc s.default) count,
      following (pos (length s.pairs)) pairs,
      eight_each pc s.pairs,
    )

-- ---- all

pub spelled : (pc : ℕ) (i : Instr) → length (spelling pc i) ≡ size_at pc i
spelled pc instruction.Nop = refl
spelled pc (instruction.Constant constant.Null) = refl
spelled pc (instruction.Constant (constant.SmallInt n)) = refl
spelled pc (instruction.Constant (constant.SmallLong n)) = refl
spelled pc (instruction.Constant (constant.Byte z)) = omega (arith, length-signed8 z)
spelled pc (instruction.Constant (constant.Short z)) = omega (arith, length-signed16 z)
spelled pc (instruction.Constant (constant.Int Narrow n)) = refl
spelled pc (instruction.Constant (constant.Int Wide n)) = omega (arith, length-u2 n)
spelled pc (instruction.Constant (constant.Long n)) = omega (arith, length-u2 n)
spelled pc (instruction.Local (access.Load k (local.First n))) = refl
spelled pc (instruction.Local (access.Load k (local.Byte n))) = refl
spelled pc (instruction.Local (access.Load k (local.Wide n))) = omega (arith, length-u2 n)
spelled pc (instruction.Local (access.Store k (local.First n))) = refl
spelled pc (instruction.Local (access.Store k (local.Byte n))) = refl
spelled pc (instruction.Local (access.Store k (local.Wide n))) = omega (arith, length-u2 n)
spelled pc (instruction.Local (access.Increment (increment.Byte n z))) = omega (arith, length-signed8 z)
spelled pc (instruction.Local (access.Increment (increment.Wide n z))) = omega (
  arith,
  length-append (u2 n) (signed w16 z),
  length-u2 n,
  length-signed16 z,
)
spelled pc (instruction.Stack op) = refl
spelled pc (instruction.Number op) = refl
spelled pc (instruction.Branch (test.Always Narrow) target) = omega (arith, length-signed16 (offset pc target))
spelled pc (instruction.Branch (test.Always Wide) target) = omega (arith, length-signed32 (offset pc target))
spelled pc (instruction.Branch (test.Zero c) target) = omega (arith, length-signed16 (offset pc target))
spelled pc (instruction.Branch (test.Ints c) target) = omega (arith, length-signed16 (offset pc target))
spelled pc (instruction.Branch (test.Refs c) target) = omega (arith, length-signed16 (offset pc target))
spelled pc (instruction.Branch (test.Null c) target) = omega (arith, length-signed16 (offset pc target))
spelled pc (instruction.TableSwitch s) = omega (arith, table_size pc s)
spelled pc (instruction.LookupSwitch s) = omega (arith, lookup_size pc s)
spelled pc (instruction.Return k) = refl
spelled pc (instruction.Static a n) = omega (arith, length-u2 n)
spelled pc (instruction.Field a n) = omega (arith, length-u2 n)
spelled pc (instruction.Array (array.New type)) = refl
spelled pc (instruction.Array (array.NewOf n)) = omega (arith, length-u2 n)
spelled pc (instruction.Array array.Length) = refl
spelled pc (instruction.Array (array.Load k)) = refl
spelled pc (instruction.Array (array.Store k)) = refl
spelled pc (instruction.Class op n) = omega (arith, length-u2 n)
spelled pc (instruction.Invoke invoke.Virtual n) = omega (arith, length-u2 n)
spelled pc (instruction.Invoke invoke.Special n) = omega (arith, length-u2 n)
spelled pc (instruction.Invoke invoke.Static n) = omega (arith, length-u2 n)
spelled pc (instruction.Invoke (invoke.Interface count) n) = omega (
  arith,
  length-append (u2 n) (count ∷ 0 ∷ []),
  length-u2 n,
)
spelled pc instruction.Throw = refl
spelled pc (instruction.Monitor op) = refl

-- the size doesn't look at pool numbers
same_size : (pool : List Entry) (pc : ℕ) (i : Instr) → size_at pc (listed pool i) ≡ size_at pc i
same_size pool pc instruction.Nop = refl
same_size pool pc (instruction.Constant constant.Null) = refl
same_size pool pc (instruction.Constant (constant.SmallInt n)) = refl
same_size pool pc (instruction.Constant (constant.SmallLong n)) = refl
same_size pool pc (instruction.Constant (constant.Byte z)) = refl
same_size pool pc (instruction.Constant (constant.Short z)) = refl
same_size pool pc (instruction.Constant (constant.Int Narrow n)) = refl
same_size pool pc (instruction.Constant (constant.Int Wide n)) = refl
same_size pool pc (instruction.Constant (constant.Long n)) = refl
same_size pool pc (instruction.Local a) = refl
same_size pool pc (instruction.Stack op) = refl
same_size pool pc (instruction.Number op) = refl
same_size pool pc (instruction.Branch t target) = refl
same_size pool pc (instruction.TableSwitch s) = refl
same_size pool pc (instruction.LookupSwitch s) = refl
same_size pool pc (instruction.Return k) = refl
same_size pool pc (instruction.Static a n) = refl
same_size pool pc (instruction.Field a n) = refl
same_size pool pc (instruction.Array (array.New type)) = refl
same_size pool pc (instruction.Array (array.NewOf n)) = refl
same_size pool pc (instruction.Array array.Length) = refl
same_size pool pc (instruction.Array (array.Load k)) = refl
same_size pool pc (instruction.Array (array.Store k)) = refl
same_size pool pc (instruction.Class op n) = refl
same_size pool pc (instruction.Invoke how n) = refl
same_size pool pc instruction.Throw = refl
same_size pool pc (instruction.Monitor op) = refl

pub listed_size : (pool : List Entry) (pc : ℕ) (i : Instr) → size_at pc (listed pool i) ≡ length (spelling pc i)
listed_size pool pc i = same_size pool pc i ∙ sym (spelled pc i)
