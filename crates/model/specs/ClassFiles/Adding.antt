-- A constant pool that is made entry by entry (JVMS 4.4).
use Rattle.std.specs.Prelude.{Bool, false, ◌||◌, List, [], ◌∷◌, ◌++◌, if◌then◌else◌}
use Rattle.model.specs.contracts.class_files.EntryPartialEq.TheImpl as equality
use Rattle.model.specs.declared.class_files.Entry.{Entry}

-- whether entries are of one kind and have the same content
abbrev pub is_same : Entry → Entry → Bool
is_same = (equality.ghosts).eq

abbrev pub is_among : Entry → List Entry → Bool
is_among entry [] = false
is_among entry (e ∷ es) = is_same entry e || is_among entry es

-- the entries with one more: an equal one is kept once, and a new one goes last
abbrev pub added : List Entry → Entry → List Entry
added entries entry = if is_among entry entries then entries else entries ++ entry ∷ []
