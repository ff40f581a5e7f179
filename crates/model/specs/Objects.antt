use Rattle.std.specs.Prelude.{ℕ, List, [], ◌∷◌, ◌++◌, length, slice_get, slice_set, Option, Some, None}
use Rattle.model.specs.Worlds.{World, Contents, Object, free_monitor}
use Rattle.model.specs.Worlds.Contents.{Instance, Array}

-- The objects of a world, by their births (JVMS 2.4, 2.7).

abbrev pub object_at : World → ℕ → Option Object
object_at w birth = slice_get w.objects birth

-- the class of an object; that of an array is its descriptor
abbrev pub class_of : Contents → List ℕ
class_of (Instance class fields) = class
class_of (Array element values) = 91 ∷ element

abbrev pub class_if : Option Object → List ℕ
class_if None = []
class_if (Some o) = class_of o.contents

abbrev pub class_at : World → ℕ → List ℕ
class_at w birth = class_if (object_at w birth)

-- a field or an element of any kind takes one word
abbrev pub words_in : Contents → ℕ
words_in (Instance class fields) = length fields
words_in (Array element values) = length values

-- an object as it is made: no thread has its monitor, and none was started on it
abbrev pub made_of : Contents → Object
made_of contents = record { contents = contents; monitor = free_monitor; thread = None }

-- one object more, which gets the next birth
abbrev pub with_new : World → Object → World
with_new w object = record w { objects = w.objects ++ object ∷ [] }

-- another object of this birth
abbrev pub with_object : World → ℕ → Object → World
with_object w birth object = record w { objects = slice_set w.objects birth object }
