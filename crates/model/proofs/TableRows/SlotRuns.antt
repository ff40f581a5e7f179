-- Cells of three sizes: an object of one word takes the large one, the only one that is left. Where it is dropped, its
-- cell goes back to the large ones; where a static field holds it, it stays.
use Rattle.std.specs.Prelude.{◌≡◌, ℕ, pos, List, [], ◌∷◌, Option, Some, None, codes, refl}
use Rattle.model.specs.declared.colours.Colour.TheVariants.{White, Grey}
use Rattle.model.specs.declared.colours.Phase.TheVariants.{Idle}
use Rattle.model.specs.declared.instructions.Access.TheVariants.{Put}
use Rattle.model.specs.declared.instructions.ClassOperation.TheVariants.{New}
use Rattle.model.specs.declared.instructions.Instruction.TheVariants.{Class, Stack, Static}
use Rattle.model.specs.declared.instructions.StackOperation.TheVariants.{Pop}
use Rattle.model.specs.declared.journals.HeapShape.{HeapShape}
use Rattle.model.specs.declared.listings.Constant.{Constant}
use Rattle.model.specs.declared.listings.Constant.TheVariants.{Int as IntConstant}
use Rattle.model.specs.declared.listings.Field.{Field}
use Rattle.model.specs.declared.values.Value.{Value}
use Rattle.model.specs.declared.values.Value.TheVariants.{Int, Ref}
use Rattle.model.specs.ClassListings.{ClassListing}
use Rattle.model.specs.Accounts.{Account, after_turn, shade}
use Rattle.model.specs.declared.colours.Cell.TheVariants.{Free, Taken}
use Rattle.model.specs.Classes.Builtin.{builtin_classes}
use Rattle.model.specs.Classes.Search.{upwards, interfaces_from}
use Rattle.model.specs.Collector.Places.{root_at, word_at}
use Rattle.model.specs.Collector.Runs.{moved_by, moved_by_all}
use Rattle.model.specs.Collector.Table.{collected}
use Rattle.model.specs.Machines.{Machine, opening_machine}
use Rattle.model.specs.Objects.{made_of}
use Rattle.model.specs.Table.Next.{completion, next}
use Rattle.model.specs.Turns.{refusal}
use Rattle.model.specs.Worlds.{FieldValue, Object, World}
use Rattle.model.specs.Worlds.Contents.{Instance}
use Rattle.model.proofs.TableRows.Listings.{Sized, return, ample}
use Rattle.model.proofs.TableRows.Stages.{class_of, field, member, main_at, world, collector, thread, stage}

abbrev one_each : HeapShape
one_each = record { small = 1; medium = 1; large = 1 }

abbrev new_k : Sized
new_k = (3, Class New (codes "K"))

abbrev object : Object
object = made_of (Instance (codes "K") (record {
  class = codes "K";
  name = codes "x";
  descriptor = codes "I";
  value = Int (pos 0);
} ∷ []))

-- the object has the large cell
abbrev taken : Account
taken = record {
  cells = Taken 1 White ∷ Taken 2 White ∷ Taken 3 Grey ∷ [];
  small = [];
  medium = [];
  large = [];
  grey = 3 ∷ [];
  phase = Idle;
}

-- ---- it is dropped, and the second cycle gives its cell back

abbrev dropping : List ClassListing
dropping = class_of (codes "K") (field (codes "x") (codes "I") ∷ []) 1 0 [] (new_k ∷ (1, Stack Pop) ∷ return ∷ []) ∷ []

abbrev dropped : Machine
dropped = stage (world (main_at 1 4 [] []) [] (object ∷ []) 2) taken

dropped-first : moved_by_all dropping one_each ample (opening_machine dropping one_each) (thread 2) ≡ dropped
unfolding moved_by refusal next completion after_turn shade builtin_classes upwards
dropped-first = refl

dropped-given_back : (moved_by_all dropping one_each ample dropped (collector 26)).account
    ≡ record {
      cells = Taken 1 White ∷ Taken 2 White ∷ Free ∷ [];
      small = [];
      medium = [];
      large = 2 ∷ [];
      grey = [];
      phase = Idle;
    }
unfolding moved_by refusal next completion after_turn shade collected root_at word_at builtin_classes upwards
dropped-given_back = refl

-- ---- it goes into a static field after one that begins with a constant. Each slot is a step of the collector, and two
-- cycles of 16 leave it

abbrev static_field : List ℕ → List ℕ → Option Constant → Field
static_field name descriptor constant = record {
  flags = record { 0 = 8 };
  name = name;
  descriptor = descriptor;
  constant = constant;
}

abbrev keeping : List ClassListing
keeping = class_of (codes "K") (static_field (codes "i") (codes "I") (Some (IntConstant (pos 1)))
    ∷ field (codes "x") (codes "I") ∷ static_field (codes "r") (codes "LK;") None ∷ []) 1 0 []
    (new_k ∷ (3, Static Put (member (codes "K") (codes "r") (codes "LK;"))) ∷ return ∷ []) ∷ []

abbrev slot : List ℕ → List ℕ → Value → FieldValue
slot name descriptor value = record { class = codes "K"; name = name; descriptor = descriptor; value = value }

abbrev in_slot : ℕ → World
in_slot rows = let w : World = world (main_at 1 6 [] []) [] (object ∷ []) rows in record w {
  statics = record {
    fields = slot (codes "i") (codes "I") (Int (pos 1)) ∷ slot (codes "r") (codes "LK;") (Ref (Some 3))
        ∷ [];
    states = w.statics.states;
  };
}

abbrev all_white : Account
all_white = record {
  cells = Taken 1 White ∷ Taken 2 White ∷ Taken 3 White ∷ [];
  small = [];
  medium = [];
  large = [];
  grey = [];
  phase = Idle;
}

kept-first : moved_by_all keeping one_each ample (opening_machine keeping one_each) (thread 2) ≡ stage (in_slot 2) taken
unfolding moved_by refusal next completion after_turn shade builtin_classes upwards interfaces_from
kept-first = refl

kept-cycle : moved_by_all keeping one_each ample (stage (in_slot 2) taken) (collector 16) ≡ stage (in_slot 18) all_white
unfolding moved_by refusal next completion after_turn shade collected root_at word_at builtin_classes upwards
kept-cycle = refl

kept-second : moved_by_all keeping one_each ample (stage (in_slot 18) all_white) (collector 16)
    ≡ stage (in_slot 34) all_white
unfolding moved_by refusal next completion after_turn shade collected root_at word_at builtin_classes upwards
kept-second = refl
