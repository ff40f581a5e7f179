-- Runs are computed in stages: the machine is written out between turns, each stage is an equation, and the equations
-- chain.
use Rattle.std.proofs.Common.{◌≡◌, ℕ, List, [], ◌∷◌, ◌++◌, replicate, Some, None, ◌∙◌, ap}
use Rattle.std.specs.Prelude.{codes}
use Rattle.model.specs.declared.colours.Phase.{Phase}
use Rattle.model.specs.declared.journals.HeapShape.{HeapShape}
use Rattle.model.specs.declared.journals.Limits.{Limits}
use Rattle.model.specs.declared.listings.Field.{Field}
use Rattle.model.specs.declared.listings.ExceptionRow.{ExceptionRow}
use Rattle.model.specs.declared.names.Member.{Member}
use Rattle.model.specs.declared.turns.Actor.{Actor}
use Rattle.model.specs.declared.turns.Actor.TheVariants.{Thread as ByThread, Collector}
use Rattle.model.specs.declared.turns.ClassState.TheVariants.{Done as Initialised}
use Rattle.model.specs.declared.turns.Mark.TheVariants.{Unmarked}
use Rattle.model.specs.declared.values.Entry.{Entry}
use Rattle.model.specs.declared.values.Value.{Value}
use Rattle.model.specs.ClassListings.{ClassListing}
use Rattle.model.specs.Accounts.{Account}
use Rattle.model.specs.declared.colours.Cell.{Cell}
use Rattle.model.specs.Worlds.{World, Thread, Object, opening_objects}
use Rattle.model.specs.Worlds.Thread.{Live}
use Rattle.model.specs.Machines.{Machine}
use Rattle.model.specs.Collector.Runs.{moved_by, moved_by_all}
use Rattle.model.proofs.TableRows.Listings.{Sized, placed_from}

-- ---- programs

-- a class with these fields and a static main with these limits
abbrev pub class_of : List ℕ → List Field → ℕ → ℕ → List ExceptionRow → List Sized → ClassListing
class_of name fields stack locals rows code = record {
  name = name;
  flags = record { 0 = 1 };
  superclass = codes "java/lang/Object";
  interfaces = [];
  fields = fields;
  methods = record {
    flags = record { 0 = 9 };
    name = codes "main";
    descriptor = codes "()V";
    code = Some (record { max_stack = stack; max_locals = locals; rows = rows; instructions = placed_from 0 code });
  } ∷ [];
}

abbrev pub field : List ℕ → List ℕ → Field
field name descriptor = record { flags = record { 0 = 0 }; name = name; descriptor = descriptor; constant = None }

abbrev pub member : List ℕ → List ℕ → List ℕ → Member
member class name descriptor = record { class = class; name = name; descriptor = descriptor }

-- ---- machines of one thread on small cells

abbrev pub small : ℕ → HeapShape
small n = record { small = n; medium = 0; large = 0 }

-- main's frame
abbrev pub main_at : ℕ → ℕ → List Entry → List Value → Thread
main_at room pc locals stack = Live (record {
  method = record { class = 0; method = 0 };
  pc = pc;
  locals = locals;
  stack = stack;
  room = room;
  monitor = None;
  mark = Unmarked;
} ∷ [])

-- with the objects from birth 3 on, and so many rows
abbrev pub world : Thread → List ℕ → List Object → ℕ → World
world thread output objects rows = record {
  threads = thread ∷ [];
  statics = record { fields = []; states = Initialised ∷ [] };
  output = output;
  objects = opening_objects ++ objects;
  fault = None;
  rows = rows;
}

abbrev pub collector : ℕ → List Actor
collector n = replicate n Collector

abbrev pub thread : ℕ → List Actor
thread n = replicate n (ByThread 0)

abbrev pub account : List Cell → List ℕ → List ℕ → Phase → Account
account cells free grey phase = record {
  cells = cells;
  small = free;
  medium = [];
  large = [];
  grey = grey;
  phase = phase;
}

abbrev pub stage : World → Account → Machine
stage w a = record { world = w; account = a }

-- ---- the chain

pub then : (program : List ClassListing) (shape : HeapShape) (l : Limits) (m n p : Machine) (first later : List Actor)
    → moved_by_all program shape l m first ≡ n → moved_by_all program shape l n later ≡ p
    → moved_by_all program shape l m (first ++ later) ≡ p
then program shape l m n p [] later h k = ap (λ x. moved_by_all program shape l x later) h ∙ k
then program shape l m n p (a ∷ first) later h k = then program shape l (moved_by program shape l m a) n p first later h
    k
