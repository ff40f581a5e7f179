-- Where the rows of statics, fields, arrays and objects stand: two classes, an interface, and an object or two of each
-- kind.
use Rattle.std.specs.Prelude.{ℕ, pos, negsuc, List, [], ◌∷◌, Option, Some, None, codes}
use Rattle.model.specs.declared.listings.Constant.{Constant}
use Rattle.model.specs.declared.listings.Constant.TheVariants.{Int as IntConstant, Long as LongConstant}
use Rattle.model.specs.declared.listings.Field.{Field}
use Rattle.model.specs.declared.names.Member.{Member}
use Rattle.model.specs.declared.turns.Mark.TheVariants.{Unmarked}
use Rattle.model.specs.declared.values.Value.{Value}
use Rattle.model.specs.declared.values.Value.TheVariants.{Int, Long, Ref}
use Rattle.model.specs.ClassListings.{ClassListing}
use Rattle.model.specs.Frames.{Frame, running_frame}
use Rattle.model.specs.Worlds.{World, FieldValue, Contents, Object, frames_at, opening_slots, free_monitor}
use Rattle.model.specs.Worlds.Contents.{Instance, Array}
use Rattle.model.specs.Worlds.Thread.{Live}
use Rattle.model.specs.Objects.{made_of}
use Rattle.model.specs.Completions.{Completion, Site}
use Rattle.model.specs.Completions.Completion.{Goes, Prints, Creates, Throws, Raises, Denies, Faults, Waits}

-- ---- the classes: K over P, and K implements I

abbrev static_field : List ℕ → List ℕ → Option Constant → Field
static_field name descriptor constant = record {
  flags = record { 0 = 8 };
  name = name;
  descriptor = descriptor;
  constant = constant;
}

abbrev instance_field : List ℕ → List ℕ → Field
instance_field name descriptor = record {
  flags = record { 0 = 0 };
  name = name;
  descriptor = descriptor;
  constant = None;
}

abbrev class_with : List ℕ → List ℕ → List (List ℕ) → List Field → ClassListing
class_with name superclass interfaces fields = record {
  name = name;
  flags = record { 0 = 1 };
  superclass = superclass;
  interfaces = interfaces;
  fields = fields;
  methods = [];
}

abbrev pub classes : List ClassListing
classes =
    class_with (codes "P") (codes "java/lang/Object") []
    (static_field (codes "s") (codes "S") (Some (IntConstant (pos 40000))) ∷ instance_field (codes "x") (codes "I")
    ∷ []) ∷
    class_with (codes "K") (codes "P") (codes "I" ∷ [])
    (static_field (codes "b") (codes "B") (Some (IntConstant (pos 200))) ∷ static_field (codes "c") (codes "C")
    (Some (IntConstant (negsuc 0))) ∷
    instance_field (codes "y") (codes "B") ∷ static_field (codes "j") (codes "J") (Some (LongConstant (pos 5))) ∷
    static_field (codes "r") (codes "LK;") None ∷ static_field (codes "i") (codes "I") None ∷
    instance_field (codes "l") (codes "J") ∷ instance_field (codes "n") (codes "LK;") ∷ []) ∷
    record {
      name = codes "I";
      flags = record { 0 = 0x0601 };
      superclass = codes "java/lang/Object";
      interfaces = [];
      fields = [];
      methods = [];
    } ∷ []

abbrev pub member : List ℕ → List ℕ → List ℕ → Member
member class name descriptor = record { class = class; name = name; descriptor = descriptor }

abbrev pub field_value : List ℕ → List ℕ → List ℕ → Value → FieldValue
field_value class name descriptor value = record { class = class; name = name; descriptor = descriptor; value = value }

-- ---- the objects from birth 3 on: a K, a P, and arrays of bytes, longs, Ks and arrays of ints

abbrev pub null : Value
null = Ref None

abbrev pub k_fields : Value → Value → Value → Value → List FieldValue
k_fields x y l n =
    field_value (codes "P") (codes "x") (codes "I") x ∷ field_value (codes "K") (codes "y") (codes "B") y ∷
    field_value (codes "K") (codes "l") (codes "J") l ∷ field_value (codes "K") (codes "n") (codes "LK;") n ∷ []

abbrev pub contents : List Contents
contents =
    Instance (codes "K") (k_fields (Int (pos 7)) (Int (negsuc 0)) (Long (pos 9)) (Ref (Some 3))) ∷
    Instance (codes "P") (field_value (codes "P") (codes "x") (codes "I") (Int (pos 8)) ∷ []) ∷
    Array (codes "B") (Int (pos 1) ∷ Int (pos 2) ∷ []) ∷ Array (codes "J") (Long (pos 6) ∷ []) ∷
    Array (codes "LK;") (Ref (Some 3) ∷ null ∷ []) ∷ Array (codes "[I") (null ∷ []) ∷ []

abbrev objects_of : List Contents → List Object
objects_of [] = []
objects_of (c ∷ cs) = made_of c ∷ objects_of cs

abbrev before_all : List Object → List Object
before_all objects = record { contents = Instance [] []; monitor = free_monitor; thread = None } ∷
    made_of (Instance (codes "java/lang/OutOfMemoryError") [])
    ∷ made_of (Instance (codes "java/lang/StackOverflowError") []) ∷ objects

-- ---- the site: a stack, top first, with so much room

abbrev frame : ℕ → List Value → Frame
frame room stack = record {
  method = record { class = 0; method = 0 };
  pc = 0;
  locals = [];
  stack = stack;
  room = room;
  monitor = None;
  mark = Unmarked;
}

abbrev pub world : ℕ → List Value → World
world room stack = record {
  threads = Live (frame room stack ∷ []) ∷ [];
  statics = record { fields = opening_slots classes; states = [] };
  output = [];
  objects = before_all (objects_of contents);
  fault = None;
  rows = 0;
}

abbrev pub site : ℕ → List Value → Site
site room stack = record { program = classes; world = world room stack; thread = 0; frame = frame room stack; next = 9 }

-- ---- what is told of a completion

abbrev pub after_of : Completion → World
after_of (Goes after writes) = after
after_of (Prints after bytes) = after
after_of (Creates next taken contents) = world 0 []
after_of (Throws birth) = world 0 []
after_of (Raises exception) = world 0 []
after_of (Denies states) = world 0 []
after_of (Faults fault) = world 0 []
after_of Waits = world 0 []

-- the stack of the running frame after it
abbrev pub stack_after : Completion → List Value
stack_after c = (running_frame (frames_at (after_of c) 0)).stack

abbrev pub pc_after : Completion → ℕ
pc_after c = (running_frame (frames_at (after_of c) 0)).pc

abbrev pub writes_of : Completion → List ℕ
writes_of (Goes after writes) = writes
writes_of (Prints after bytes) = []
writes_of (Creates next taken contents) = []
writes_of (Throws birth) = []
writes_of (Raises exception) = []
writes_of (Denies states) = []
writes_of (Faults fault) = []
writes_of Waits = []
