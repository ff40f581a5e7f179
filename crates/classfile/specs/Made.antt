-- Class files that are made part by part (JVMS 4.1).
use Rattle.std.specs.Prelude.{◌≡◌, ℕ, Bool, true, ◌&&◌, nat_le, List, ◌++◌, length, Option, Some, None, Result, Ok, Err}
use Rattle.std.specs.List.{list_all}
use Rattle.model.specs.ClassFiles.Classes.{ClassPart}
use Rattle.model.specs.ClassFiles.Codes.{CodePart}
use Rattle.model.specs.ClassFiles.Heads.{head_bytes}
use Rattle.model.specs.ClassFiles.Methods.{MethodPart}
use Rattle.model.specs.ClassFiles.Pools.{PoolFits}
use Rattle.model.specs.declared.class_files.Entry.{Entry}
use Rattle.model.specs.declared.class_files.FieldEntry.{FieldEntry}
use Rattle.model.specs.declared.class_files.FormatFault.{FormatFault}
use Rattle.model.specs.declared.class_files.FormatFault.TheVariants.{Attribute}
use Rattle.model.specs.declared.flags.ClassFlags.{ClassFlags}
use Rattle.pool.specs.declared.error.ReadError.{ReadError}
use Rattle.pool.specs.declared.error.ReadError.TheVariants as read
use Rattle.classfile.specs.declared.error.ClassError.{ClassError}
use Rattle.classfile.specs.Reading.Answers.{shown}
use Rattle.classfile.specs.Reading.Classes.{file_from}
use Rattle.classfile.specs.Writing.{code_bytes, after_head_bytes}

-- a class file but its pool
pub record BodyPart : Type 0 where
  pub flags : ClassFlags
  pub class : ℕ
  pub superclass : ℕ
  pub interfaces : List ℕ
  pub fields : List FieldEntry
  pub methods : List MethodPart

-- the class file of a pool and a body
abbrev pub made : List Entry → BodyPart → ClassPart
made pool b = record {
  head = record {
    pool = pool;
    flags = b.flags;
    class = b.class;
    superclass = b.superclass;
    interfaces = b.interfaces;
    fields = b.fields;
  };
  methods = b.methods;
}

-- ---- the bytes that such parts would have

abbrev pub is_countable : {A : Type 0} → List A → Bool
is_countable xs = nat_le (length xs) 65535

abbrev pub code_is_countable : Option CodePart → Bool
code_is_countable None = true
code_is_countable (Some c) = is_countable (code_bytes c.instructions) && is_countable c.rows

abbrev pub method_is_countable : MethodPart → Bool
method_is_countable m = code_is_countable m.code

-- a class file can count each of its lists
abbrev pub lists_are_countable : ClassPart → Bool
lists_are_countable c =
    is_countable c.head.interfaces
    && (is_countable c.head.fields && (is_countable c.methods && list_all method_is_countable c.methods))

abbrev pub file_bytes : ClassPart → List ℕ
file_bytes c = head_bytes c.head ++ after_head_bytes c.methods

-- the fault with which reading ends; where it finds another class file, since an attribute doesn't count under its
-- name, that attribute is the fault
abbrev pub fault_of : Result ClassPart FormatFault → FormatFault
fault_of (Ok other) = Attribute
fault_of (Err fault) = fault

-- a fault is told, or want of memory
abbrev pub IsTold : FormatFault → ReadError → Type 0
IsTold fault read.Memory = Unit {0}
IsTold fault (read.Format told) = fault ≡ told

-- parts that can be written are refused as their bytes are when they are read
abbrev pub IsRefused : ClassPart → ClassError → Type 0
IsRefused c e =
    PoolFits c.head.pool → lists_are_countable c ≡ true → IsTold (fault_of (file_from (file_bytes c))) (shown e)
