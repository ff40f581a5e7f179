use Rattle.std.specs.Prelude.{ℕ, ◌+◌, List, [], ◌∷◌, map, if◌then◌else◌}
use Rattle.std.specs.Str.{bytes_eq}
use Rattle.model.specs.declared.instructions.Instruction.{Instruction}
use Rattle.model.specs.declared.instructions.Instruction.TheVariants.{Nop, Constant, Local, Stack, Number, Branch}
use Rattle.model.specs.declared.instructions.Instruction.TheVariants.{TableSwitch, LookupSwitch, Return, Static, Field}
use Rattle.model.specs.declared.instructions.Instruction.TheVariants.{Array, Class, Invoke, Throw, Monitor}
use Rattle.model.specs.declared.trees.TextLine.{TextLine}
use Rattle.model.specs.declared.trees.TextLine.TheVariants as line
use Rattle.model.specs.Sizes.{size_at}

-- the pc after lines that begin at a pc
abbrev pub pc_following : ℕ → List TextLine → ℕ
pc_following pc [] = pc
pc_following pc (line.Label l ∷ lines) = pc_following pc lines
pc_following pc (line.Instruction i ∷ lines) = pc_following (pc + size_at pc i) lines

-- the pc of a label among lines that begin at a pc, and 0 of a label that is not given
abbrev pub pc_of : ℕ → List TextLine → List ℕ → ℕ
pc_of pc [] name = 0
pc_of pc (line.Label l ∷ lines) name = if bytes_eq l name then pc else pc_of pc lines name
pc_of pc (line.Instruction i ∷ lines) name = pc_of (pc + size_at pc i) lines name

-- an instruction with other targets
abbrev pub with_targets : {A B Int Long Field Method Class : Type 0} → (A → B)
    → Instruction A Int Long Field Method Class → Instruction B Int Long Field Method Class
with_targets f Nop = Nop
with_targets f (Constant c) = Constant c
with_targets f (Local l) = Local l
with_targets f (Stack s) = Stack s
with_targets f (Number n) = Number n
with_targets f (Branch t target) = Branch t (f target)
with_targets f (TableSwitch t) = TableSwitch (record { low = t.low; targets = map f t.targets; default = f t.default })
with_targets f (LookupSwitch l) = LookupSwitch (record {
  pairs = map (λ p. (p.0, f p.1)) l.pairs;
  default = f l.default;
})
with_targets f (Return kind) = Return kind
with_targets f (Static a m) = Static a m
with_targets f (Field a m) = Field a m
with_targets f (Array a) = Array a
with_targets f (Class o c) = Class o c
with_targets f (Invoke i m) = Invoke i m
with_targets f Throw = Throw
with_targets f (Monitor m) = Monitor m
