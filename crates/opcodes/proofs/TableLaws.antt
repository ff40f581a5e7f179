-- An opcode that the tables have stands in them for what is spelled with it, and the other way.
use Rattle.std.proofs.Common.{◌≡◌, ℕ, ltb, eqb, cond, List, [], ◌∷◌, Option, Some, None, refl, inl, inr}
use Rattle.std.proofs.lemmas.Bool.{eqb-true}
use Rattle.model.specs.Bytecode.Opcodes.{Instr, opcode, load_opcode, store_opcode, access_opcode, stack_opcode}
use Rattle.model.specs.Bytecode.Opcodes.{number_opcode, return_opcode, branch_opcode, small_int_opcode}
use Rattle.model.specs.Bytecode.Opcodes.{small_long_opcode, element_load_opcode, element_store_opcode, monitor_opcode}
use Rattle.model.specs.Bytecode.Operands.{operands, primitive_number}
use Rattle.model.specs.Bytecode.Ranges.{Fits}
use Rattle.model.specs.declared.values.Kind.{Kind}
use Rattle.model.specs.declared.values.Kind.TheVariants as kind
use Rattle.model.specs.declared.instructions.FirstLocal.{FirstLocal}
use Rattle.model.specs.declared.instructions.SmallInt.{SmallInt}
use Rattle.model.specs.declared.instructions.SmallLong.{SmallLong}
use Rattle.model.specs.declared.instructions.StackOperation.{StackOperation}
use Rattle.model.specs.declared.instructions.NumberOperation.{NumberOperation}
use Rattle.model.specs.declared.instructions.ElementKind.{ElementKind}
use Rattle.model.specs.declared.instructions.Primitive.{Primitive}
use Rattle.model.specs.declared.instructions.MonitorOperation.{MonitorOperation}
use Rattle.model.specs.declared.instructions.LocalAccess.TheVariants as access
use Rattle.model.specs.declared.instructions.ArrayOperation.TheVariants as array
use Rattle.model.specs.declared.instructions.ClassOperation.TheVariants as class
use Rattle.model.specs.declared.instructions.Comparison.TheVariants as comparison
use Rattle.model.specs.declared.instructions.Constant.TheVariants as constant
use Rattle.model.specs.declared.instructions.Conversion.TheVariants as conversion
use Rattle.model.specs.declared.instructions.ElementKind.TheVariants as element
use Rattle.model.specs.declared.instructions.Access.TheVariants as field
use Rattle.model.specs.declared.instructions.FirstLocal.TheVariants as first
use Rattle.model.specs.declared.instructions.Identity.TheVariants as identity
use Rattle.model.specs.declared.instructions.Instruction.TheVariants as instruction
use Rattle.model.specs.declared.instructions.Local.TheVariants as local
use Rattle.model.specs.declared.instructions.MonitorOperation.TheVariants as monitor
use Rattle.model.specs.declared.instructions.NumberOperation.TheVariants as number
use Rattle.model.specs.declared.instructions.NumberKind.TheVariants as number_kind
use Rattle.model.specs.declared.instructions.Operator.TheVariants as operator
use Rattle.model.specs.declared.instructions.Primitive.TheVariants as primitive
use Rattle.model.specs.declared.instructions.SmallInt.TheVariants as small_int
use Rattle.model.specs.declared.instructions.SmallLong.TheVariants as small_long
use Rattle.model.specs.declared.instructions.StackOperation.TheVariants as stack
use Rattle.model.specs.declared.instructions.Test.TheVariants as test
use Rattle.model.specs.declared.instructions.Width.TheVariants as width
use Rattle.opcodes.specs.declared.layout.Layout.{Layout}
use Rattle.opcodes.specs.declared.layout.Layout.TheVariants as layout
use Rattle.opcodes.specs.declared.layout.Named.TheVariants as named
use Rattle.opcodes.specs.Reading.Steps.{entry_at}
use Rattle.opcodes.specs.Reading.Tables.{constants_and_loads, stores_and_stack, numbers_and_returns, bare_of}
use Rattle.opcodes.specs.Reading.Tables.{low_layouts, high_layouts, layout_of, primitives}
use Rattle.opcodes.specs.Reading.{by_name}
use Rattle.opcodes.proofs.FieldLaws.{chosen}

abbrev Each : {A : Type 0} → (ℕ → A → Type 0) → List (ℕ × A) → Type 0
Each P [] = Unit {0}
Each P (e ∷ entries) = P e.0 e.1 × Each P entries

some_is : {A : Type 0} (x y : A) → ◌≡◌ {A = Option A} (Some x) (Some y) → x ≡ y
some_is x y e = cc

entry : {A : Type 0} (P : ℕ → A → Type 0) (entries : List (ℕ × A)) → Each P entries → (b : ℕ) (x : A)
    → entry_at entries b ≡ Some x → P b x
entry P [] all b x e = absurd cc
entry P (a ∷ entries) all b x e =
    elim (chosen (eqb b a.0) (Some a.1) (entry_at entries b) (Some x) e) [
      | inl h ↦ let n : b ≡ a.0 = eqb-true b a.0 h.0 in let same : a.1 ≡ x = some_is a.1 x h.1 in rw (n, ← same) all.0
      | inr h ↦ entry P entries all.1 b x h.1
    ]

-- an instruction that is its opcode alone
pub record IsBare (b : ℕ) (i : Instr) : Type 0 where
  pub opcode_is : opcode i ≡ b
  pub nothing : (pc : ℕ) → operands pc i ≡ []
  pub fits : (pc : ℕ) → Fits pc i

abbrev bare : {b : ℕ} {i : Instr} → opcode i ≡ b → ((pc : ℕ) → operands pc i ≡ []) → ((pc : ℕ) → Fits pc i) → IsBare b i
bare e n f = record { opcode_is = e; nothing = n; fits = f }

constants_and_loads-bare : Each IsBare constants_and_loads
constants_and_loads-bare = (
  record { opcode_is = refl; nothing = λ pc. refl; fits = λ pc. tt },
  (
    record { opcode_is = refl; nothing = λ pc. refl; fits = λ pc. tt },
    (
      record { opcode_is = refl; nothing = λ pc. refl; fits = λ pc. tt },
      (
        record { opcode_is = refl; nothing = λ pc. refl; fits = λ pc. tt },
        (
          record { opcode_is = refl; nothing = λ pc. refl; fits = λ pc. tt },
          (
            record { opcode_is = refl; nothing = λ pc. refl; fits = λ pc. tt },
            (
              record { opcode_is = refl; nothing = λ pc. refl; fits = λ pc. tt },
              (
                record { opcode_is = refl; nothing = λ pc. refl; fits = λ pc. tt },
                (
                  record { opcode_is = refl; nothing = λ pc. refl; fits = λ pc. tt },
                  (
                    record { opcode_is = refl; nothing = λ pc. refl; fits = λ pc. tt },
                    (
                      record { opcode_is = refl; nothing = λ pc. refl; fits = λ pc. tt },
                      (
                        record { opcode_is = refl; nothing = λ pc. refl; fits = λ pc. tt },
                        (
                          record { opcode_is = refl; nothing = λ pc. refl; fits = λ pc. tt },
                          (
                            record { opcode_is = refl; nothing = λ pc. refl; fits = λ pc. tt },
                            (
                              record { opcode_is = refl; nothing = λ pc. refl; fits = λ pc. tt },
                              (
                                record { opcode_is = refl; nothing = λ pc. refl; fits = λ pc. tt },
                                (
                                  record { opcode_is = refl; nothing = λ pc. refl; fits = λ pc. tt },
                                  (
                                    record { opcode_is = refl; nothing = λ pc. refl; fits = λ pc. tt },
                                    (
                                      record { opcode_is = refl; nothing = λ pc. refl; fits = λ pc. tt },
                                      (
                                        record { opcode_is = refl; nothing = λ pc. refl; fits = λ pc. tt },
                                        (
                                          record { opcode_is = refl; nothing = λ pc. refl; fits = λ pc. tt },
                                          (
                                            record { opcode_is = refl; nothing = λ pc. refl; fits = λ pc. tt },
                                            (
                                              record { opcode_is = refl; nothing = λ pc. refl; fits = λ pc. tt },
                                              (
                                                record { opcode_is = refl; nothing = λ pc. refl; fits = λ pc. tt },
                                                (
                                                  record { opcode_is = refl; nothing = λ pc. refl; fits = λ pc. tt },
                                                  (
                                                    record { opcode_is = refl; nothing = λ pc. refl; fits = λ pc. tt },
                                                    (
                                                      record {
                                                        opcode_is = refl;
                                                        nothing = λ pc. refl;
                                                        fits = λ pc. tt;
                                                      },
                                                      (
                                                        record {
                                                          opcode_is = refl;
                                                          nothing = λ pc. refl;
                                                          fits = λ pc. tt;
                                                        },
                                                        (
                                                          record {
                                                            opcode_is = refl;
                                                            nothing = λ pc. refl;
                                                            fits = λ pc. tt;
                                                          },
                                                          tt,
                                                        ),
                                                      ),
                                                    ),
                                                  ),
                                                ),
                                              ),
                                            ),
                                          ),
                                        ),
                                      ),
                                    ),
                                  ),
                                ),
                              ),
                            ),
                          ),
                        ),
                      ),
                    ),
                  ),
                ),
              ),
            ),
          ),
        ),
      ),
    ),
  ),
)

stores_and_stack-bare : Each IsBare stores_and_stack
stores_and_stack-bare = (
  record { opcode_is = refl; nothing = λ pc. refl; fits = λ pc. tt },
  (
    record { opcode_is = refl; nothing = λ pc. refl; fits = λ pc. tt },
    (
      record { opcode_is = refl; nothing = λ pc. refl; fits = λ pc. tt },
      (
        record { opcode_is = refl; nothing = λ pc. refl; fits = λ pc. tt },
        (
          record { opcode_is = refl; nothing = λ pc. refl; fits = λ pc. tt },
          (
            record { opcode_is = refl; nothing = λ pc. refl; fits = λ pc. tt },
            (
              record { opcode_is = refl; nothing = λ pc. refl; fits = λ pc. tt },
              (
                record { opcode_is = refl; nothing = λ pc. refl; fits = λ pc. tt },
                (
                  record { opcode_is = refl; nothing = λ pc. refl; fits = λ pc. tt },
                  (
                    record { opcode_is = refl; nothing = λ pc. refl; fits = λ pc. tt },
                    (
                      record { opcode_is = refl; nothing = λ pc. refl; fits = λ pc. tt },
                      (
                        record { opcode_is = refl; nothing = λ pc. refl; fits = λ pc. tt },
                        (
                          record { opcode_is = refl; nothing = λ pc. refl; fits = λ pc. tt },
                          (
                            record { opcode_is = refl; nothing = λ pc. refl; fits = λ pc. tt },
                            (
                              record { opcode_is = refl; nothing = λ pc. refl; fits = λ pc. tt },
                              (
                                record { opcode_is = refl; nothing = λ pc. refl; fits = λ pc. tt },
                                (
                                  record { opcode_is = refl; nothing = λ pc. refl; fits = λ pc. tt },
                                  (
                                    record { opcode_is = refl; nothing = λ pc. refl; fits = λ pc. tt },
                                    (
                                      record { opcode_is = refl; nothing = λ pc. refl; fits = λ pc. tt },
                                      (
                                        record { opcode_is = refl; nothing = λ pc. refl; fits = λ pc. tt },
                                        (
                                          record { opcode_is = refl; nothing = λ pc. refl; fits = λ pc. tt },
                                          (
                                            record { opcode_is = refl; nothing = λ pc. refl; fits = λ pc. tt },
                                            (
                                              record { opcode_is = refl; nothing = λ pc. refl; fits = λ pc. tt },
                                              (
                                                record { opcode_is = refl; nothing = λ pc. refl; fits = λ pc. tt },
                                                (
                                                  record { opcode_is = refl; nothing = λ pc. refl; fits = λ pc. tt },
                                                  (
                                                    record { opcode_is = refl; nothing = λ pc. refl; fits = λ pc. tt },
                                                    (
                                                      record { opcode_is = refl; nothing = λ pc. refl; fits = λ pc. tt },
                                                      tt,
                                                    ),
                                                  ),
                                                ),
                                              ),
                                            ),
                                          ),
                                        ),
                                      ),
                                    ),
                                  ),
                                ),
                              ),
                            ),
                          ),
                        ),
                      ),
                    ),
                  ),
                ),
              ),
            ),
          ),
        ),
      ),
    ),
  ),
)

numbers_and_returns-bare : Each IsBare numbers_and_returns
numbers_and_returns-bare = (
  record { opcode_is = refl; nothing = λ pc. refl; fits = λ pc. tt },
  (
    record { opcode_is = refl; nothing = λ pc. refl; fits = λ pc. tt },
    (
      record { opcode_is = refl; nothing = λ pc. refl; fits = λ pc. tt },
      (
        record { opcode_is = refl; nothing = λ pc. refl; fits = λ pc. tt },
        (
          record { opcode_is = refl; nothing = λ pc. refl; fits = λ pc. tt },
          (
            record { opcode_is = refl; nothing = λ pc. refl; fits = λ pc. tt },
            (
              record { opcode_is = refl; nothing = λ pc. refl; fits = λ pc. tt },
              (
                record { opcode_is = refl; nothing = λ pc. refl; fits = λ pc. tt },
                (
                  record { opcode_is = refl; nothing = λ pc. refl; fits = λ pc. tt },
                  (
                    record { opcode_is = refl; nothing = λ pc. refl; fits = λ pc. tt },
                    (
                      record { opcode_is = refl; nothing = λ pc. refl; fits = λ pc. tt },
                      (
                        record { opcode_is = refl; nothing = λ pc. refl; fits = λ pc. tt },
                        (
                          record { opcode_is = refl; nothing = λ pc. refl; fits = λ pc. tt },
                          (
                            record { opcode_is = refl; nothing = λ pc. refl; fits = λ pc. tt },
                            (
                              record { opcode_is = refl; nothing = λ pc. refl; fits = λ pc. tt },
                              (
                                record { opcode_is = refl; nothing = λ pc. refl; fits = λ pc. tt },
                                (
                                  record { opcode_is = refl; nothing = λ pc. refl; fits = λ pc. tt },
                                  (
                                    record { opcode_is = refl; nothing = λ pc. refl; fits = λ pc. tt },
                                    (
                                      record { opcode_is = refl; nothing = λ pc. refl; fits = λ pc. tt },
                                      (
                                        record { opcode_is = refl; nothing = λ pc. refl; fits = λ pc. tt },
                                        (
                                          record { opcode_is = refl; nothing = λ pc. refl; fits = λ pc. tt },
                                          (
                                            record { opcode_is = refl; nothing = λ pc. refl; fits = λ pc. tt },
                                            (
                                              record { opcode_is = refl; nothing = λ pc. refl; fits = λ pc. tt },
                                              (
                                                record { opcode_is = refl; nothing = λ pc. refl; fits = λ pc. tt },
                                                (
                                                  record { opcode_is = refl; nothing = λ pc. refl; fits = λ pc. tt },
                                                  (
                                                    record { opcode_is = refl; nothing = λ pc. refl; fits = λ pc. tt },
                                                    (
                                                      record {
                                                        opcode_is = refl;
                                                        nothing = λ pc. refl;
                                                        fits = λ pc. tt;
                                                      },
                                                      (
                                                        record {
                                                          opcode_is = refl;
                                                          nothing = λ pc. refl;
                                                          fits = λ pc. tt;
                                                        },
                                                        (
                                                          record { opcode_is = refl; nothing = λ pc. refl; fits = λ pc. tt },
                                                          (
                                                            record { opcode_is = refl; nothing = λ pc. refl; fits = λ pc. tt },
                                                            (
                                                              record { opcode_is = refl; nothing = λ pc. refl; fits = λ pc. tt },
                                                              (
                                                                record { opcode_is = refl; nothing = λ pc. refl; fits = λ pc. tt },
                                                                (
                                                                  record { opcode_is = refl; nothing = λ pc. refl; fits = λ pc. tt },
                                                                  (
                                                                    record { opcode_is = refl; nothing = λ pc. refl; fits = λ pc. tt },
                                                                    (
                                                                      record { opcode_is = refl; nothing = λ pc. refl; fits = λ pc. tt },
                                                                      (
                                                                        record { opcode_is = refl; nothing = λ pc. refl; fits = λ pc. tt },
                                                                        (
                                                                          record { opcode_is = refl; nothing = λ pc. refl; fits = λ pc. tt },
                                                                          (record { opcode_is = refl; nothing = λ pc. refl; fits = λ pc. tt }, tt),
                                                                        ),
                                                                      ),
                                                                    ),
                                                                  ),
                                                                ),
                                                              ),
                                                            ),
                                                          ),
                                                        ),
                                                      ),
                                                    ),
                                                  ),
                                                ),
                                              ),
                                            ),
                                          ),
                                        ),
                                      ),
                                    ),
                                  ),
                                ),
                              ),
                            ),
                          ),
                        ),
                      ),
                    ),
                  ),
                ),
              ),
            ),
          ),
        ),
      ),
    ),
  ),
)

pub bare_of-takes : (b : ℕ) (i : Instr) → bare_of b ≡ Some i → IsBare b i
unfolding bare_of
bare_of-takes b i e =
    elim (chosen (ltb b 54) (entry_at constants_and_loads b) (cond (ltb b 96) (entry_at stores_and_stack b)
    (entry_at numbers_and_returns b)) (Some i) e) [
      | inl h ↦ entry IsBare constants_and_loads constants_and_loads-bare b i h.1
      | inr h ↦ elim (chosen (ltb b 96) (entry_at stores_and_stack b) (entry_at numbers_and_returns b) (Some i) h.1) [
        | inl k ↦ entry IsBare stores_and_stack stores_and_stack-bare b i k.1
        | inr k ↦ entry IsBare numbers_and_returns numbers_and_returns-bare b i k.1
      ]
    ]

-- the opcode in front of a layout
abbrev pub opcode_of : Layout → ℕ
opcode_of layout.Byte = 16
opcode_of layout.Short = 17
opcode_of layout.NarrowInt = 18
opcode_of (layout.Load k) = load_opcode k
opcode_of (layout.Store k) = store_opcode k
opcode_of layout.Increment = 132
opcode_of (layout.Branch t) = branch_opcode t
opcode_of (layout.Named what) = opcode (by_name what 0)
opcode_of layout.InvokeInterface = 185
opcode_of layout.NewArray = 188
opcode_of layout.TableSwitch = 170
opcode_of layout.LookupSwitch = 171
opcode_of layout.Wide = 196

low_layouts-opcodes : Each (λ b l. opcode_of l ≡ b) low_layouts
low_layouts-opcodes = (
  refl,
  (
    refl,
    (
      refl,
      (
        refl,
        (
          refl,
          (
            refl,
            (
              refl,
              (
                refl,
                (
                  refl,
                  (
                    refl,
                    (
                      refl,
                      (
                        refl,
                        (
                          refl,
                          (
                            refl,
                            (
                              refl,
                              (
                                refl,
                                (
                                  refl,
                                  (refl, (refl, (refl, (refl, (refl, (refl, (refl, (refl, (refl, (refl, tt)))))))))),
                                ),
                              ),
                            ),
                          ),
                        ),
                      ),
                    ),
                  ),
                ),
              ),
            ),
          ),
        ),
      ),
    ),
  ),
)

high_layouts-opcodes : Each (λ b l. opcode_of l ≡ b) high_layouts
high_layouts-opcodes = (
  refl,
  (
    refl,
    (
      refl,
      (
        refl,
        (
          refl,
          (
            refl,
            (
              refl,
              (
                refl,
                (
                  refl,
                  (refl, (refl, (refl, (refl, (refl, (refl, (refl, (refl, (refl, (refl, tt)))))))))),
                ),
              ),
            ),
          ),
        ),
      ),
    ),
  ),
)

pub layout_of-takes : (b : ℕ) (l : Layout) → layout_of b ≡ Some l → opcode_of l ≡ b
unfolding layout_of
layout_of-takes b l e =
    elim (chosen (ltb b 170) (entry_at low_layouts b) (entry_at high_layouts b) (Some l) e) [
      | inl h ↦ entry (λ c m. opcode_of m ≡ c) low_layouts low_layouts-opcodes b l h.1
      | inr h ↦ entry (λ c m. opcode_of m ≡ c) high_layouts high_layouts-opcodes b l h.1
    ]

pub primitives-take : (n : ℕ) (p : Primitive) → entry_at primitives n ≡ Some p → primitive_number p ≡ n
primitives-take n p e = entry (λ m q. primitive_number q ≡ m) primitives (refl, (refl, (refl, (refl, (refl, tt))))) n p
    e

pub primitives-again : (p : Primitive) → entry_at primitives (primitive_number p) ≡ Some p
primitives-again primitive.Char = refl
primitives-again primitive.Byte = refl
primitives-again primitive.Short = refl
primitives-again primitive.Int = refl
primitives-again primitive.Long = refl

-- ---- what is spelled by an opcode alone is in the tables

pub small_int-again : (n : SmallInt) → bare_of (small_int_opcode n) ≡ Some (instruction.Constant (constant.SmallInt n))
unfolding bare_of
small_int-again small_int.MinusOne = refl
small_int-again small_int.Zero = refl
small_int-again small_int.One = refl
small_int-again small_int.Two = refl
small_int-again small_int.Three = refl
small_int-again small_int.Four = refl
small_int-again small_int.Five = refl

pub small_long-again : (n : SmallLong) → bare_of (small_long_opcode n)
    ≡ Some (instruction.Constant (constant.SmallLong n))
unfolding bare_of
small_long-again small_long.Zero = refl
small_long-again small_long.One = refl

pub first_load-again : (k : Kind) (n : FirstLocal) → bare_of (access_opcode (access.Load k (local.First n)))
    ≡ Some (instruction.Local (access.Load k (local.First n)))
unfolding bare_of
first_load-again kind.Int first.Zero = refl
first_load-again kind.Int first.One = refl
first_load-again kind.Int first.Two = refl
first_load-again kind.Int first.Three = refl
first_load-again kind.Long first.Zero = refl
first_load-again kind.Long first.One = refl
first_load-again kind.Long first.Two = refl
first_load-again kind.Long first.Three = refl
first_load-again kind.Ref first.Zero = refl
first_load-again kind.Ref first.One = refl
first_load-again kind.Ref first.Two = refl
first_load-again kind.Ref first.Three = refl

pub first_store-again : (k : Kind) (n : FirstLocal) → bare_of (access_opcode (access.Store k (local.First n)))
    ≡ Some (instruction.Local (access.Store k (local.First n)))
unfolding bare_of
first_store-again kind.Int first.Zero = refl
first_store-again kind.Int first.One = refl
first_store-again kind.Int first.Two = refl
first_store-again kind.Int first.Three = refl
first_store-again kind.Long first.Zero = refl
first_store-again kind.Long first.One = refl
first_store-again kind.Long first.Two = refl
first_store-again kind.Long first.Three = refl
first_store-again kind.Ref first.Zero = refl
first_store-again kind.Ref first.One = refl
first_store-again kind.Ref first.Two = refl
first_store-again kind.Ref first.Three = refl

pub stack-again : (op : StackOperation) → bare_of (stack_opcode op) ≡ Some (instruction.Stack op)
unfolding bare_of
stack-again stack.Pop = refl
stack-again stack.Pop2 = refl
stack-again stack.Dup = refl
stack-again stack.DupX1 = refl
stack-again stack.DupX2 = refl
stack-again stack.Dup2 = refl
stack-again stack.Dup2X1 = refl
stack-again stack.Dup2X2 = refl
stack-again stack.Swap = refl

pub number-again : (op : NumberOperation) → bare_of (number_opcode op) ≡ Some (instruction.Number op)
unfolding bare_of
number-again (number.Binary number_kind.Int operator.Add) = refl
number-again (number.Binary number_kind.Int operator.Sub) = refl
number-again (number.Binary number_kind.Int operator.Mul) = refl
number-again (number.Binary number_kind.Int operator.Div) = refl
number-again (number.Binary number_kind.Int operator.Rem) = refl
number-again (number.Binary number_kind.Int operator.Shl) = refl
number-again (number.Binary number_kind.Int operator.Shr) = refl
number-again (number.Binary number_kind.Int operator.Ushr) = refl
number-again (number.Binary number_kind.Int operator.And) = refl
number-again (number.Binary number_kind.Int operator.Or) = refl
number-again (number.Binary number_kind.Int operator.Xor) = refl
number-again (number.Binary number_kind.Long operator.Add) = refl
number-again (number.Binary number_kind.Long operator.Sub) = refl
number-again (number.Binary number_kind.Long operator.Mul) = refl
number-again (number.Binary number_kind.Long operator.Div) = refl
number-again (number.Binary number_kind.Long operator.Rem) = refl
number-again (number.Binary number_kind.Long operator.Shl) = refl
number-again (number.Binary number_kind.Long operator.Shr) = refl
number-again (number.Binary number_kind.Long operator.Ushr) = refl
number-again (number.Binary number_kind.Long operator.And) = refl
number-again (number.Binary number_kind.Long operator.Or) = refl
number-again (number.Binary number_kind.Long operator.Xor) = refl
number-again (number.Negate number_kind.Int) = refl
number-again (number.Negate number_kind.Long) = refl
number-again (number.Convert conversion.IntToLong) = refl
number-again (number.Convert conversion.LongToInt) = refl
number-again (number.Convert conversion.IntToByte) = refl
number-again (number.Convert conversion.IntToChar) = refl
number-again (number.Convert conversion.IntToShort) = refl
number-again number.CompareLongs = refl

pub return-again : (k : Option Kind) → bare_of (return_opcode k) ≡ Some (instruction.Return k)
unfolding bare_of
return-again None = refl
return-again (Some kind.Int) = refl
return-again (Some kind.Long) = refl
return-again (Some kind.Ref) = refl

pub element_load-again : (k : ElementKind) → bare_of (element_load_opcode k) ≡ Some (instruction.Array (array.Load k))
unfolding bare_of
element_load-again element.Int = refl
element_load-again element.Long = refl
element_load-again element.Ref = refl
element_load-again element.Byte = refl
element_load-again element.Char = refl
element_load-again element.Short = refl

pub element_store-again : (k : ElementKind) → bare_of (element_store_opcode k)
    ≡ Some (instruction.Array (array.Store k))
unfolding bare_of
element_store-again element.Int = refl
element_store-again element.Long = refl
element_store-again element.Ref = refl
element_store-again element.Byte = refl
element_store-again element.Char = refl
element_store-again element.Short = refl

pub monitor-again : (op : MonitorOperation) → bare_of (monitor_opcode op) ≡ Some (instruction.Monitor op)
unfolding bare_of
monitor-again monitor.Enter = refl
monitor-again monitor.Exit = refl

-- ---- a layout stands in the tables at its opcode

pub layout-is_not_bare : (l : Layout) → bare_of (opcode_of l) ≡ None
unfolding bare_of
layout-is_not_bare layout.Byte = refl
layout-is_not_bare layout.Short = refl
layout-is_not_bare layout.NarrowInt = refl
layout-is_not_bare (layout.Load kind.Int) = refl
layout-is_not_bare (layout.Load kind.Long) = refl
layout-is_not_bare (layout.Load kind.Ref) = refl
layout-is_not_bare (layout.Store kind.Int) = refl
layout-is_not_bare (layout.Store kind.Long) = refl
layout-is_not_bare (layout.Store kind.Ref) = refl
layout-is_not_bare layout.Increment = refl
layout-is_not_bare (layout.Branch (test.Always width.Narrow)) = refl
layout-is_not_bare (layout.Branch (test.Always width.Wide)) = refl
layout-is_not_bare (layout.Branch (test.Zero comparison.Equal)) = refl
layout-is_not_bare (layout.Branch (test.Zero comparison.NotEqual)) = refl
layout-is_not_bare (layout.Branch (test.Zero comparison.Less)) = refl
layout-is_not_bare (layout.Branch (test.Zero comparison.GreaterOrEqual)) = refl
layout-is_not_bare (layout.Branch (test.Zero comparison.Greater)) = refl
layout-is_not_bare (layout.Branch (test.Zero comparison.LessOrEqual)) = refl
layout-is_not_bare (layout.Branch (test.Ints comparison.Equal)) = refl
layout-is_not_bare (layout.Branch (test.Ints comparison.NotEqual)) = refl
layout-is_not_bare (layout.Branch (test.Ints comparison.Less)) = refl
layout-is_not_bare (layout.Branch (test.Ints comparison.GreaterOrEqual)) = refl
layout-is_not_bare (layout.Branch (test.Ints comparison.Greater)) = refl
layout-is_not_bare (layout.Branch (test.Ints comparison.LessOrEqual)) = refl
layout-is_not_bare (layout.Branch (test.Refs identity.Same)) = refl
layout-is_not_bare (layout.Branch (test.Refs identity.Different)) = refl
layout-is_not_bare (layout.Branch (test.Null identity.Same)) = refl
layout-is_not_bare (layout.Branch (test.Null identity.Different)) = refl
layout-is_not_bare (layout.Named named.Int) = refl
layout-is_not_bare (layout.Named named.Long) = refl
layout-is_not_bare (layout.Named (named.Static field.Get)) = refl
layout-is_not_bare (layout.Named (named.Static field.Put)) = refl
layout-is_not_bare (layout.Named (named.Field field.Get)) = refl
layout-is_not_bare (layout.Named (named.Field field.Put)) = refl
layout-is_not_bare (layout.Named named.InvokeVirtual) = refl
layout-is_not_bare (layout.Named named.InvokeSpecial) = refl
layout-is_not_bare (layout.Named named.InvokeStatic) = refl
layout-is_not_bare (layout.Named named.NewArray) = refl
layout-is_not_bare (layout.Named (named.Class class.New)) = refl
layout-is_not_bare (layout.Named (named.Class class.CheckCast)) = refl
layout-is_not_bare (layout.Named (named.Class class.InstanceOf)) = refl
layout-is_not_bare layout.InvokeInterface = refl
layout-is_not_bare layout.NewArray = refl
layout-is_not_bare layout.TableSwitch = refl
layout-is_not_bare layout.LookupSwitch = refl
layout-is_not_bare layout.Wide = refl

pub layout-again : (l : Layout) → layout_of (opcode_of l) ≡ Some l
unfolding layout_of
layout-again layout.Byte = refl
layout-again layout.Short = refl
layout-again layout.NarrowInt = refl
layout-again (layout.Load kind.Int) = refl
layout-again (layout.Load kind.Long) = refl
layout-again (layout.Load kind.Ref) = refl
layout-again (layout.Store kind.Int) = refl
layout-again (layout.Store kind.Long) = refl
layout-again (layout.Store kind.Ref) = refl
layout-again layout.Increment = refl
layout-again (layout.Branch (test.Always width.Narrow)) = refl
layout-again (layout.Branch (test.Always width.Wide)) = refl
layout-again (layout.Branch (test.Zero comparison.Equal)) = refl
layout-again (layout.Branch (test.Zero comparison.NotEqual)) = refl
layout-again (layout.Branch (test.Zero comparison.Less)) = refl
layout-again (layout.Branch (test.Zero comparison.GreaterOrEqual)) = refl
layout-again (layout.Branch (test.Zero comparison.Greater)) = refl
layout-again (layout.Branch (test.Zero comparison.LessOrEqual)) = refl
layout-again (layout.Branch (test.Ints comparison.Equal)) = refl
layout-again (layout.Branch (test.Ints comparison.NotEqual)) = refl
layout-again (layout.Branch (test.Ints comparison.Less)) = refl
layout-again (layout.Branch (test.Ints comparison.GreaterOrEqual)) = refl
layout-again (layout.Branch (test.Ints comparison.Greater)) = refl
layout-again (layout.Branch (test.Ints comparison.LessOrEqual)) = refl
layout-again (layout.Branch (test.Refs identity.Same)) = refl
layout-again (layout.Branch (test.Refs identity.Different)) = refl
layout-again (layout.Branch (test.Null identity.Same)) = refl
layout-again (layout.Branch (test.Null identity.Different)) = refl
layout-again (layout.Named named.Int) = refl
layout-again (layout.Named named.Long) = refl
layout-again (layout.Named (named.Static field.Get)) = refl
layout-again (layout.Named (named.Static field.Put)) = refl
layout-again (layout.Named (named.Field field.Get)) = refl
layout-again (layout.Named (named.Field field.Put)) = refl
layout-again (layout.Named named.InvokeVirtual) = refl
layout-again (layout.Named named.InvokeSpecial) = refl
layout-again (layout.Named named.InvokeStatic) = refl
layout-again (layout.Named named.NewArray) = refl
layout-again (layout.Named (named.Class class.New)) = refl
layout-again (layout.Named (named.Class class.CheckCast)) = refl
layout-again (layout.Named (named.Class class.InstanceOf)) = refl
layout-again layout.InvokeInterface = refl
layout-again layout.NewArray = refl
layout-again layout.TableSwitch = refl
layout-again layout.LookupSwitch = refl
layout-again layout.Wide = refl
