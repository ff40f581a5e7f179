use Rattle.std.specs.Prelude.{ℕ, List, length, replicate, Option, Some, None}
use Rattle.model.specs.Stores.{storage_of, default_in}
use Rattle.model.specs.Worlds.{Contents}
use Rattle.model.specs.Worlds.Contents.{Instance, Array}

-- an array of so many elements, none written yet
abbrev pub made_array : List ℕ → ℕ → Contents
made_array element n = Array element (replicate n (default_in (storage_of element)))

-- how many elements an array has
abbrev pub length_in : Contents → Option ℕ
length_in (Instance class fields) = None
length_in (Array element values) = Some (length values)
