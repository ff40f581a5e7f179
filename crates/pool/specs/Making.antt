-- Entries that are to be a pool.
use Rattle.std.specs.Prelude.{Bool, true, ◌&&◌, nat_le, List, length, Option, Some, if◌then◌else◌}
use Rattle.std.specs.List.{list_all}
use Rattle.model.specs.ClassFiles.Entries.{is_text_byte}
use Rattle.model.specs.ClassFiles.References.{first_fault}
use Rattle.model.specs.declared.class_files.Entry.{Entry}
use Rattle.model.specs.declared.class_files.Entry.TheVariants.{Utf8, Integer, Long, Class, Fieldref, Methodref}
use Rattle.model.specs.declared.class_files.Entry.TheVariants.{InterfaceMethodref, NameAndType}
use Rattle.model.specs.declared.class_files.FormatFault.{FormatFault}
use Rattle.model.specs.declared.class_files.FormatFault.TheVariants.{Name}

-- whether a text can be written
abbrev pub has_bytes : Entry → Bool
has_bytes (Utf8 text) = nat_le (length text) 65535 && list_all is_text_byte text
has_bytes (Integer z) = true
has_bytes (Long z) = true
has_bytes (Class name) = true
has_bytes (Fieldref class member) = true
has_bytes (Methodref class member) = true
has_bytes (InterfaceMethodref class member) = true
has_bytes (NameAndType name descriptor) = true

-- what is wrong with entries: a text that can't be written is reported before what entries name
abbrev pub entries_fault : List Entry → Option FormatFault
entries_fault entries = if list_all has_bytes entries then first_fault entries entries else Some Name
