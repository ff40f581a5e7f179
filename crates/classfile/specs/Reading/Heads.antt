-- Reading a class file up to its methods.
use Rattle.std.specs.Prelude.{ℕ, ◌==◌, List, Ok, Err, if◌then◌else◌}
use Rattle.std.specs.Int.{w16, w32}
use Rattle.model.specs.ClassFiles.Heads.{HeadPart, are_class_flags, is_class}
use Rattle.model.specs.declared.class_files.Entry.{Entry}
use Rattle.model.specs.declared.class_files.FormatFault.TheVariants.{Magic, Version, Index, Flags}
use Rattle.pool.specs.Reading.Steps.{◌>>=◌, number_at}
use Rattle.pool.specs.Reading.Pools.{pool_from}
use Rattle.classfile.specs.Reading.Attributes.{Reads}
use Rattle.classfile.specs.Reading.Fields.{field_from}
use Rattle.classfile.specs.Reading.Lists.{list_from}

-- the version in two numbers, and the bytes after it
unfoldable pub opening_from : List ℕ → Reads ℕ
opening_from bytes = do
  magic ← number_at w32 bytes
  minor ← if magic.0 == 0xcafebabe then number_at w16 magic.1 else Err Magic
  major ← if minor.0 == 0 then number_at w16 minor.1 else Err Version
  if major.0 == 49 then Ok major else Err Version

unfoldable pub class_flags_from : List ℕ → Reads ℕ
class_flags_from bytes = number_at w16 bytes >>= λ flags. if are_class_flags flags.0 then Ok flags else Err Flags

unfoldable pub class_from : List Entry → List ℕ → Reads ℕ
class_from pool bytes = number_at w16 bytes >>= λ n. if is_class pool n.0 then Ok n else Err Index

-- what stands after the pool
unfoldable pub after_from : List Entry → List ℕ → Reads HeadPart
after_from pool bytes = do
  flags ← class_flags_from bytes
  class ← class_from pool flags.1
  superclass ← class_from pool class.1
  interfaces ← list_from (class_from pool) superclass.1
  fields ← list_from (field_from pool flags.0) interfaces.1
  Ok (
    record {
      pool = pool;
      flags = record { 0 = flags.0 };
      class = class.0;
      superclass = superclass.0;
      interfaces =
          interfaces.0;
      fields = fields.0;
    },
    fields.1,
  )

unfoldable pub head_from : List ℕ → Reads HeadPart
head_from bytes = do
  opening ← opening_from bytes
  pool ← pool_from opening.1
  after_from pool.0 pool.1
