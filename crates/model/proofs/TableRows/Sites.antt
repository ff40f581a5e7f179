-- What worked rows of calls, monitors and threads are written with: classes with methods, and a world in which a frame
-- stands.
use Rattle.std.specs.Prelude.{ℕ, List, [], ◌∷◌, codes, Option, Some, None}
use Rattle.model.specs.declared.names.Member.{Member}
use Rattle.model.specs.declared.places.MethodPlace.{MethodPlace}
use Rattle.model.specs.declared.values.Value.{Value}
use Rattle.model.specs.declared.values.Entry.{Entry}
use Rattle.model.specs.declared.listings.Method.{Method}
use Rattle.model.specs.declared.turns.Mark.TheVariants.{Unmarked}
use Rattle.model.specs.ClassListings.{ClassListing}
use Rattle.model.specs.Frames.{Frame}
use Rattle.model.specs.Worlds.{World, Thread, Object, plain_object}
use Rattle.model.specs.Worlds.Contents.{Instance}
use Rattle.model.specs.Completions.{Site}
use Rattle.model.proofs.TableRows.Listings.{Sized, placed_from}

-- ---- classes

abbrev pub method : ℕ → List ℕ → List ℕ → ℕ → ℕ → List Sized → Method
method flags name descriptor stack locals code = record {
  flags = record { 0 = flags };
  name = name;
  descriptor = descriptor;
  code = Some (record { max_stack = stack; max_locals = locals; rows = []; instructions = placed_from 0 code });
}

abbrev pub abstract_method : List ℕ → List ℕ → Method
abstract_method name descriptor = record {
  flags = record { 0 = 0x0401 };
  name = name;
  descriptor = descriptor;
  code = None;
}

abbrev pub class : List ℕ → List ℕ → List (List ℕ) → List Method → ClassListing
class name superclass interfaces methods = record {
  name = name;
  flags = record { 0 = 1 };
  superclass = superclass;
  interfaces = interfaces;
  fields = [];
  methods = methods;
}

abbrev pub interface : List ℕ → List Method → ClassListing
interface name methods = record {
  name = name;
  flags = record { 0 = 0x0600 };
  superclass = codes "java/lang/Object";
  interfaces = [];
  fields = [];
  methods = methods;
}

abbrev pub member : List ℕ → List ℕ → List ℕ → Member
member class name descriptor = record { class = class; name = name; descriptor = descriptor }

-- ---- frames

abbrev pub place : ℕ → ℕ → MethodPlace
place class method = record { class = class; method = method }

abbrev pub frame : MethodPlace → ℕ → List Entry → List Value → ℕ → Option ℕ → Frame
frame method pc locals stack room monitor = record {
  method = method;
  pc = pc;
  locals = locals;
  stack = stack;
  room = room;
  monitor = monitor;
  mark = Unmarked;
}

-- ---- worlds: births 1 and 2 are the errors that were made before the run

abbrev pub object : List ℕ → Option ℕ → ℕ → Option ℕ → Object
object class owner count thread = record {
  contents = Instance class [];
  monitor = record { owner = owner; count = count };
  thread = thread;
}

abbrev pub world : List Thread → List Object → World
world threads objects = record {
  threads = threads;
  statics = record { fields = []; states = [] };
  output = codes "o";
  objects = plain_object [] ∷ plain_object (codes "java/lang/OutOfMemoryError")
      ∷ plain_object (codes "java/lang/StackOverflowError") ∷ objects;
  fault = None;
  rows = 7;
}

-- thread 0 stands there, and goes on at this pc
abbrev pub site : List ClassListing → World → Frame → ℕ → Site
site program w f next = record { program = program; world = w; thread = 0; frame = f; next = next }
