-- What a function that reads may answer.
use Rattle.std.specs.Prelude.{◌≡◌, Result, Ok, Err}
use Rattle.model.specs.declared.class_files.FormatFault.{FormatFault}
use Rattle.model.specs.declared.class_files.FormatFault.TheVariants.{Index, Attribute}
use Rattle.opcodes.specs.declared.error.OpError.{OpError}
use Rattle.opcodes.specs.declared.error.OpError.TheVariants as op
use Rattle.pool.specs.declared.error.ReadError.{ReadError}
use Rattle.pool.specs.declared.error.ReadError.TheVariants as read
use Rattle.pool.specs.Reading.Steps.{Fails}
use Rattle.classfile.specs.declared.error.ClassError.{ClassError}
use Rattle.classfile.specs.declared.error.ClassError.TheVariants as error

-- a refusal as reading shows it: faulty code is a faulty Code attribute, and which fault of code it is isn't said
abbrev pub shown : ClassError → ReadError
shown (error.Format fault) = read.Format fault
shown (error.Code name descriptor fault) = read.Format Attribute
shown error.PoolFull = read.Format Index
shown error.Memory = read.Memory

-- what a function returned, seen by view, is what reading gives, unless memory ran out
abbrev pub Answers : {X Y : Type 0} → (X → Y) → Result X ClassError → Result Y FormatFault → Type 0
Answers view (Ok x) reading = reading ≡ Ok (view x)
Answers view (Err e) reading = Fails (shown e) reading

-- a fault of code is reported with its method; want of memory may be reported in its place, and is reported alone
abbrev pub Tells : OpError → ClassError → Type 0
Tells fault (error.Format f) = ⊥
Tells fault (error.Code name descriptor f) = fault ≡ op.Memory → ⊥
Tells fault error.PoolFull = ⊥
Tells fault error.Memory = Unit {0}
