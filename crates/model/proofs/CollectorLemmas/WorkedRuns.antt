-- Worked runs of a thread and the collector, computed: the collector has turns until a fault or the step limit, beside
-- a thread that ends, and cycles are counted.
use Rattle.std.specs.Prelude.{◌≡◌, ℕ, List, [], ◌∷◌, replicate, Some, None, codes, refl}
use Rattle.model.specs.declared.colours.Colour.TheVariants.{White}
use Rattle.model.specs.declared.colours.Phase.TheVariants.{Idle, Mark, Append}
use Rattle.model.specs.declared.instructions.Constant.TheVariants.{Null}
use Rattle.model.specs.declared.instructions.Instruction.TheVariants.{Constant as Push, Return}
use Rattle.model.specs.declared.journals.HeapShape.{HeapShape}
use Rattle.model.specs.declared.journals.Limits.{Limits}
use Rattle.model.specs.declared.turns.Actor.{Actor}
use Rattle.model.specs.declared.turns.Actor.TheVariants.{Thread, Collector}
use Rattle.model.specs.ClassListings.{ClassListing}
use Rattle.model.specs.Accounts.{shade, after_turn}
use Rattle.model.specs.declared.colours.Cell.TheVariants.{Taken}
use Rattle.model.specs.Turns.{refusal}
use Rattle.model.specs.Table.Next.{completion, next}
use Rattle.model.specs.Machines.{opening_machine, machine_of, after_turn_by}
use Rattle.model.specs.Collector.Places.{root_at, word_at}
use Rattle.model.specs.Collector.Table.{collected}
use Rattle.model.specs.Collector.Runs.{moved_by, machine_after}
use Rattle.model.specs.Collector.Reclaim.{ended}

-- a main that pushes null and returns, with this room on its stack
abbrev program : ℕ → List ClassListing
program stack = record {
  name = codes "E";
  flags = record { 0 = 1 };
  superclass = codes "java/lang/Object";
  interfaces = [];
  fields = [];
  methods = record {
    flags = record { 0 = 9 };
    name = codes "main";
    descriptor = codes "()V";
    code = Some (record {
      max_stack = stack;
      max_locals = 1;
      rows = [];
      instructions = record { pc = 0; next = 1; instruction = Push Null } ∷ record {
        pc = 1;
        next = 2;
        instruction = Return None;
      } ∷ [];
    });
  } ∷ [];
} ∷ []

abbrev two_small : HeapShape
two_small = record { small = 2; medium = 0; large = 0 }

abbrev limits : ℕ → Limits
limits steps = record { steps = steps; output = 0 }

abbrev collector : ℕ → List Actor
collector n = replicate n Collector

-- a cycle over a frame with one local and an empty stack: 1 turn for the errors, 1 for the slots, 4 for the frames, 3
-- for marking, 3 for appending
one_cycle : ended (program 1) two_small (limits 100) 0 (opening_machine (program 1) two_small) (collector 12) ≡ 1
unfolding moved_by refusal next completion after_turn shade collected root_at word_at
one_cycle = refl

before_cycle : (machine_after (program 1) two_small (limits 100) (collector 11)).account
    ≡ record {
      cells = Taken 1 White ∷ Taken 2 White ∷ [];
      small = [];
      medium = [];
      large = [];
      grey = [];
      phase = Append 2;
    }
unfolding machine_after machine_of after_turn_by refusal next completion after_turn shade collected root_at word_at
before_cycle = refl

-- a value on the stack is one turn more
longer_cycle : ended (program 1) two_small (limits 100) 0 (opening_machine (program 1) two_small)
    (Thread 0 ∷ collector 12) ≡ 0
unfolding moved_by refusal next completion after_turn shade collected root_at word_at
longer_cycle = refl

longer_end : ended (program 1) two_small (limits 100) 0 (opening_machine (program 1) two_small)
    (Thread 0 ∷ collector 13) ≡ 1
unfolding moved_by refusal next completion after_turn shade collected root_at word_at
longer_end = refl

-- the thread ends between the collector's turns, and both have their rows; a turn after its end makes none
interleaved : (machine_after (program 1) two_small (limits 100) (Collector ∷ Thread 0 ∷ Collector ∷ Thread 0 ∷ Collector
    ∷ Thread 0 ∷ Collector ∷ [])).world.rows ≡ 6
unfolding machine_after machine_of after_turn_by refusal next completion after_turn shade collected root_at word_at
interleaved = refl

interleaved-phase : (machine_after (program 1) two_small (limits 100) (Collector ∷ Thread 0 ∷ Collector ∷ Thread 0
    ∷ Collector ∷ Thread 0 ∷ Collector ∷ [])).account.phase ≡ Mark 0
unfolding machine_after machine_of after_turn_by refusal next completion after_turn shade collected root_at word_at
interleaved-phase = refl

-- at the step limit, and after a fault (no room on the stack), the collector has no turn
limited : (machine_after (program 1) two_small (limits 3) (collector 12)).world.rows ≡ 3
unfolding machine_after machine_of after_turn_by refusal next completion after_turn shade collected root_at word_at
limited = refl

stopped : (machine_after (program 0) two_small (limits 100) (Thread 0 ∷ Collector ∷ [])).account.phase ≡ Idle
unfolding machine_after machine_of after_turn_by refusal next completion after_turn shade collected root_at word_at
stopped = refl
