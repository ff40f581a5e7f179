-- A synchronized method that calls itself until 256 frames are there. The StackOverflowError leaves the monitor as
-- often as it was entered, so that main, which handles it, no longer owns the monitor.
use Rattle.std.specs.Prelude.{◌≡◌, ℕ, ◌+◌, List, [], ◌∷◌, ◌++◌, replicate, Some, None, codes, refl}
use Rattle.std.specs.Int.{int_wrap}
use Rattle.std.specs.Fmt.{digits}
use Rattle.model.specs.declared.instructions.FirstLocal.TheVariants.{Zero as FirstZero}
use Rattle.model.specs.declared.instructions.Local.TheVariants.{First}
use Rattle.model.specs.declared.instructions.LocalAccess.TheVariants.{Load, Store}
use Rattle.model.specs.declared.instructions.ClassOperation.TheVariants.{New, InstanceOf}
use Rattle.model.specs.declared.instructions.StackOperation.TheVariants.{Pop}
use Rattle.model.specs.declared.instructions.Invocation.TheVariants.{Virtual}
use Rattle.model.specs.declared.instructions.MonitorOperation.TheVariants.{Exit}
use Rattle.model.specs.declared.instructions.Instruction.TheVariants.{Local, Stack, Class, Invoke, Monitor}
use Rattle.model.specs.declared.listings.ExceptionRow.{ExceptionRow}
use Rattle.model.specs.declared.values.Kind.TheVariants.{Ref as RefKind}
use Rattle.model.specs.declared.values.Value.{Value}
use Rattle.model.specs.declared.values.Value.TheVariants.{Ref}
use Rattle.model.specs.declared.values.Entry.TheVariants.{Holds}
use Rattle.model.specs.ClassListings.{ClassListing}
use Rattle.model.specs.Classes.Builtin.{builtin_classes}
use Rattle.model.specs.Classes.Search.{upwards, interfaces_from}
use Rattle.model.specs.Classes.Subclasses.{is_within}
use Rattle.model.specs.Classes.Types.{is_subtype_within}
use Rattle.model.specs.Frames.{Frame}
use Rattle.model.specs.Worlds.{World, opening_world, opening_objects}
use Rattle.model.specs.Worlds.Thread.{Live, Ended}
use Rattle.model.specs.Table.Next.{completion, next}
use Rattle.model.specs.Turns.{refusal}
use Rattle.model.proofs.TableRows.Listings.{Sized, placed_from, print, return, after, run, more}
use Rattle.model.proofs.TableRows.Sites.{class, method, member, place, frame, object}

abbrev aload_0 : Sized
aload_0 = (1, Local (Load RefKind (First FirstZero)))

abbrev f : Sized
f = (3, Invoke Virtual (member (codes "R") (codes "f") (codes "()V")))

abbrev handles : ℕ → ℕ → ℕ → List ℕ → ExceptionRow
handles start end handler name = record { start = start; end = end; handler = handler; class = Some name }

-- the call at pc 5, the handler of its error at 9, its monitorexit at 11, and the handler of that at 13
abbrev climbing : List ClassListing
climbing = class (codes "R") (codes "java/lang/Object") [] (
    record {
      flags = record { 0 = 9 };
      name = codes "main";
      descriptor = codes "()V";
      code = Some (record {
        max_stack = 1;
        max_locals = 1;
        rows = handles 4 8 9 (codes "java/lang/StackOverflowError")
            ∷ handles 11 12 13 (codes "java/lang/IllegalMonitorStateException") ∷ [];
        instructions = placed_from 0 (
            (3, Class New (codes "R")) ∷ (1, Local (Store RefKind (First FirstZero))) ∷ aload_0 ∷ f ∷ return ∷
            (1, Stack Pop) ∷ aload_0 ∷ (1, Monitor Exit) ∷ return ∷
            (3, Class InstanceOf (codes "java/lang/IllegalMonitorStateException")) ∷ print ∷ return ∷ []);
      });
    } ∷
    method 0x0021 (codes "f") (codes "()V") 1 1 (aload_0 ∷ f ∷ return ∷ []) ∷ []) ∷ []

-- main at a pc, and frames of f at theirs
abbrev main_at : ℕ → List Value → Frame
main_at pc stack = frame (place 0 0) pc (Holds (Ref (Some 3)) ∷ []) stack 1 None

abbrev f_at : ℕ → List Value → Frame
f_at pc stack = frame (place 0 1) pc (Holds (Ref (Some 3)) ∷ []) stack 1 (Some 3)

-- n + 1 frames of f, the last at its start
abbrev climbing_on : ℕ → ℕ → World
climbing_on n rows = record (opening_world climbing) {
  threads = Live (main_at 5 [] ∷ replicate n (f_at 1 []) ++ f_at 0 [] ∷ []) ∷ [];
  objects = opening_objects ++ object (codes "R") (Some 0) (n + 1) None ∷ [];
  rows = rows;
}

-- ---- four rows to the first call, and two for each call more: 256 frames after 512

climbed_1 : run 4 climbing ≡ climbing_on 0 4
unfolding refusal next completion builtin_classes upwards interfaces_from is_within is_subtype_within int_wrap digits
climbed_1 = refl

climbed_15 : after 28 climbing (climbing_on 0 4) ≡ climbing_on 14 32
unfolding refusal next completion builtin_classes upwards interfaces_from is_within is_subtype_within int_wrap digits
climbed_15 = refl

climbed_30 : after 30 climbing (climbing_on 14 32) ≡ climbing_on 29 62
unfolding refusal next completion builtin_classes upwards interfaces_from is_within is_subtype_within int_wrap digits
climbed_30 = refl

climbed_45 : after 30 climbing (climbing_on 29 62) ≡ climbing_on 44 92
unfolding refusal next completion builtin_classes upwards interfaces_from is_within is_subtype_within int_wrap digits
climbed_45 = refl

climbed_60 : after 30 climbing (climbing_on 44 92) ≡ climbing_on 59 122
unfolding refusal next completion builtin_classes upwards interfaces_from is_within is_subtype_within int_wrap digits
climbed_60 = refl

climbed_75 : after 30 climbing (climbing_on 59 122) ≡ climbing_on 74 152
unfolding refusal next completion builtin_classes upwards interfaces_from is_within is_subtype_within int_wrap digits
climbed_75 = refl

climbed_90 : after 30 climbing (climbing_on 74 152) ≡ climbing_on 89 182
unfolding refusal next completion builtin_classes upwards interfaces_from is_within is_subtype_within int_wrap digits
climbed_90 = refl

climbed_105 : after 30 climbing (climbing_on 89 182) ≡ climbing_on 104 212
unfolding refusal next completion builtin_classes upwards interfaces_from is_within is_subtype_within int_wrap digits
climbed_105 = refl

climbed_120 : after 30 climbing (climbing_on 104 212) ≡ climbing_on 119 242
unfolding refusal next completion builtin_classes upwards interfaces_from is_within is_subtype_within int_wrap digits
climbed_120 = refl

climbed_135 : after 30 climbing (climbing_on 119 242) ≡ climbing_on 134 272
unfolding refusal next completion builtin_classes upwards interfaces_from is_within is_subtype_within int_wrap digits
climbed_135 = refl

climbed_150 : after 30 climbing (climbing_on 134 272) ≡ climbing_on 149 302
unfolding refusal next completion builtin_classes upwards interfaces_from is_within is_subtype_within int_wrap digits
climbed_150 = refl

climbed_165 : after 30 climbing (climbing_on 149 302) ≡ climbing_on 164 332
unfolding refusal next completion builtin_classes upwards interfaces_from is_within is_subtype_within int_wrap digits
climbed_165 = refl

climbed_180 : after 30 climbing (climbing_on 164 332) ≡ climbing_on 179 362
unfolding refusal next completion builtin_classes upwards interfaces_from is_within is_subtype_within int_wrap digits
climbed_180 = refl

climbed_195 : after 30 climbing (climbing_on 179 362) ≡ climbing_on 194 392
unfolding refusal next completion builtin_classes upwards interfaces_from is_within is_subtype_within int_wrap digits
climbed_195 = refl

climbed_210 : after 30 climbing (climbing_on 194 392) ≡ climbing_on 209 422
unfolding refusal next completion builtin_classes upwards interfaces_from is_within is_subtype_within int_wrap digits
climbed_210 = refl

climbed_225 : after 30 climbing (climbing_on 209 422) ≡ climbing_on 224 452
unfolding refusal next completion builtin_classes upwards interfaces_from is_within is_subtype_within int_wrap digits
climbed_225 = refl

climbed_240 : after 30 climbing (climbing_on 224 452) ≡ climbing_on 239 482
unfolding refusal next completion builtin_classes upwards interfaces_from is_within is_subtype_within int_wrap digits
climbed_240 = refl

climbed_255 : after 30 climbing (climbing_on 239 482) ≡ climbing_on 254 512
unfolding refusal next completion builtin_classes upwards interfaces_from is_within is_subtype_within int_wrap digits
climbed_255 = refl

-- row 513 is the last load; row 514 throws birth 2, and main finds it
abbrev caught : World
caught = record (opening_world climbing) {
  threads = Live (main_at 9 (Ref (Some 2) ∷ []) ∷ []) ∷ [];
  objects = opening_objects ++ object (codes "R") None 0 None ∷ [];
  rows = 514;
}

overflowed : after 2 climbing (climbing_on 254 512) ≡ caught
unfolding refusal next completion builtin_classes upwards interfaces_from is_within is_subtype_within int_wrap digits
overflowed = refl

-- six rows more: the monitor is nobody's, and 1 is printed
abbrev climbed_all : World
climbed_all = record caught {
  threads = Ended None ∷ [];
  objects = opening_objects ++ object (codes "R") None 0 None ∷ object (codes "java/lang/IllegalMonitorStateException")
      None 0 None ∷ [];
  output = codes "1\n";
  rows = 520;
}

reported : after 6 climbing caught ≡ climbed_all
unfolding refusal next completion builtin_classes upwards interfaces_from is_within is_subtype_within int_wrap digits
reported = refl

climbed-run : run 520 climbing ≡ climbed_all
climbed-run =
    let w = opening_world climbing in
    let to_15 = more 4 28 climbing w (climbing_on 0 4) (climbing_on 14 32) climbed_1 climbed_15 in
    let to_30 = more 32 30 climbing w (climbing_on 14 32) (climbing_on 29 62) to_15 climbed_30 in
    let to_45 = more 62 30 climbing w (climbing_on 29 62) (climbing_on 44 92) to_30 climbed_45 in
    let to_60 = more 92 30 climbing w (climbing_on 44 92) (climbing_on 59 122) to_45 climbed_60 in
    let to_75 = more 122 30 climbing w (climbing_on 59 122) (climbing_on 74 152) to_60 climbed_75 in
    let to_90 = more 152 30 climbing w (climbing_on 74 152) (climbing_on 89 182) to_75 climbed_90 in
    let to_105 = more 182 30 climbing w (climbing_on 89 182) (climbing_on 104 212) to_90 climbed_105 in
    let to_120 = more 212 30 climbing w (climbing_on 104 212) (climbing_on 119 242) to_105 climbed_120 in
    let to_135 = more 242 30 climbing w (climbing_on 119 242) (climbing_on 134 272) to_120 climbed_135 in
    let to_150 = more 272 30 climbing w (climbing_on 134 272) (climbing_on 149 302) to_135 climbed_150 in
    let to_165 = more 302 30 climbing w (climbing_on 149 302) (climbing_on 164 332) to_150 climbed_165 in
    let to_180 = more 332 30 climbing w (climbing_on 164 332) (climbing_on 179 362) to_165 climbed_180 in
    let to_195 = more 362 30 climbing w (climbing_on 179 362) (climbing_on 194 392) to_180 climbed_195 in
    let to_210 = more 392 30 climbing w (climbing_on 194 392) (climbing_on 209 422) to_195 climbed_210 in
    let to_225 = more 422 30 climbing w (climbing_on 209 422) (climbing_on 224 452) to_210 climbed_225 in
    let to_240 = more 452 30 climbing w (climbing_on 224 452) (climbing_on 239 482) to_225 climbed_240 in
    let to_255 = more 482 30 climbing w (climbing_on 239 482) (climbing_on 254 512) to_240 climbed_255 in
    let to_caught = more 512 2 climbing w (climbing_on 254 512) caught to_255 overflowed in
    more 514 6 climbing w caught climbed_all to_caught reported
