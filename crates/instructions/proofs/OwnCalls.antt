-- The machine's own methods: what they are called, and that the operand of one that prints is tested when it is popped.
use Rattle.std.proofs.Common.{◌≡◌, ℕ, ℤ, List, [], ◌∷◌, Bool, true, false, cond, ◌&&◌, Some, None, refl}
use Rattle.std.specs.Prelude.{codes}
use Rattle.std.specs.Option.{option_map_or}
use Rattle.std.specs.Str.{bytes_eq}
use Rattle.std.proofs.lemmas.Slice.Eq.{bytes_eq-Decides}
use Rattle.model.specs.declared.builtins.Builtin.{Builtin}
use Rattle.model.specs.declared.builtins.Builtin.TheVariants.{PrintInt, PrintLong, PutByte, Initialize, RunThread}
use Rattle.model.specs.declared.builtins.Builtin.TheVariants.{StartThread, JoinThread}
use Rattle.model.specs.declared.names.Member.{Member}
use Rattle.model.specs.declared.values.Kind.TheVariants.{Int as IntKind, Long as LongKind}
use Rattle.model.specs.declared.values.Value.{Value}
use Rattle.model.specs.declared.values.Value.TheVariants.{Int, Long, Ref}
use Rattle.model.specs.Completions.{Completion, Site}
use Rattle.model.specs.Completions.Completion.{Faults}
use Rattle.model.specs.Frames.{int_on, long_on}
use Rattle.model.specs.Programs.{builtin_of, is_member, is_own_initializer}
use Rattle.model.specs.Table.Builtins.{prints_on}
use Rattle.model.specs.Table.Invokes.{fault_in_pops}

-- ---- names

abbrev pub own_name : Builtin → List ℕ
own_name PrintInt = codes "print"
own_name PrintLong = codes "printl"
own_name PutByte = codes "putc"
own_name Initialize = codes "<init>"
own_name RunThread = codes "run"
own_name StartThread = codes "start"
own_name JoinThread = codes "join"

abbrev pub own_descriptor : Builtin → List ℕ
own_descriptor PrintInt = codes "(I)V"
own_descriptor PrintLong = codes "(J)V"
own_descriptor PutByte = codes "(I)V"
own_descriptor Initialize = codes "()V"
own_descriptor RunThread = codes "()V"
own_descriptor StartThread = codes "()V"
own_descriptor JoinThread = codes "()V"

pub record IsCalled (m : Member) (own : Builtin) : Type 0 where
  pub name : m.name ≡ own_name own
  pub descriptor : m.descriptor ≡ own_descriptor own

both : (a b : Bool) → (a && b) ≡ true → (a ≡ true) × (b ≡ true)
both true b e = (refl, e)
both false b e = cc

seven : (P : Builtin → Type 0) (a b c d e f g : Bool) (own : Builtin)
    → (a ≡ true → P PrintInt) → (b ≡ true → P PrintLong) → (c ≡ true → P PutByte) → (d ≡ true → P RunThread)
    → (e ≡ true → P StartThread) → (f ≡ true → P JoinThread) → (g ≡ true → P Initialize)
    → cond a (Some PrintInt)
    (cond b (Some PrintLong)
    (cond c (Some PutByte)
    (cond d (Some RunThread)
    (cond e (Some StartThread) (cond f (Some JoinThread) (cond g (Some Initialize) None)))))) ≡ Some own
    → P own
seven P true b c d e f g own pa pb pc pd pe pf pg is = let same : PrintInt ≡ own = cc in rw (← same) (pa refl)
seven P false true c d e f g own pa pb pc pd pe pf pg is = let same : PrintLong ≡ own = cc in rw (← same) (pb refl)
seven P false false true d e f g own pa pb pc pd pe pf pg is = let same : PutByte ≡ own = cc in rw (← same) (pc refl)
seven P false false false true e f g own pa pb pc pd pe pf pg
    is = let same : RunThread ≡ own = cc in rw (← same) (pd refl)
seven P false false false false true f g own pa pb pc pd pe pf pg
    is = let same : StartThread ≡ own = cc in rw (← same) (pe refl)
seven P false false false false false true g own pa pb pc pd pe pf pg
    is = let same : JoinThread ≡ own = cc in rw (← same) (pf refl)
seven P false false false false false false true own pa pb pc pd pe pf pg
    is = let same : Initialize ≡ own = cc in rw (← same) (pg refl)
seven P false false false false false false false own pa pb pc pd pe pf pg is = cc

module _ (m : Member) where
  as_member : (own : Builtin) (class : List ℕ) → is_member m class (own_name own) (own_descriptor own) ≡ true
      → IsCalled m own
  as_member own class e =
      let parts = both (bytes_eq m.class class && bytes_eq m.name (own_name own))
      (bytes_eq m.descriptor (own_descriptor own)) e in
      record {
        name = (bytes_eq-Decides m.name (own_name own)).0
            (both (bytes_eq m.class class) (bytes_eq m.name (own_name own)) parts.0).1;
        descriptor = (bytes_eq-Decides m.descriptor (own_descriptor own)).0 parts.1;
      }

  as_initializer : is_own_initializer m ≡ true → IsCalled m Initialize
  as_initializer e =
      let parts = both _ (bytes_eq m.descriptor (codes "()V")) e in
      record {
        name = (bytes_eq-Decides m.name (codes "<init>")).0 (both _ (bytes_eq m.name (codes "<init>")) parts.0).1;
        descriptor = (bytes_eq-Decides m.descriptor (codes "()V")).0 parts.1;
      }

  pub own_called : (own : Builtin) → builtin_of m ≡ Some own → IsCalled m own
  own_called own e =
      seven (IsCalled m) (is_member m (codes "vm/Sys") (codes "print") (codes "(I)V"))
      (is_member m (codes "vm/Sys") (codes "printl") (codes "(J)V"))
      (is_member m (codes "vm/Sys") (codes "putc") (codes "(I)V")) (is_member m (codes "java/lang/Thread") (codes "run")
      (codes "()V"))
      (is_member m (codes "java/lang/Thread") (codes "start") (codes "()V"))
      (is_member m (codes "java/lang/Thread") (codes "join") (codes "()V"))
      (is_own_initializer m) own
      (as_member PrintInt (codes "vm/Sys")) (as_member PrintLong (codes "vm/Sys")) (as_member PutByte (codes "vm/Sys"))
      (as_member RunThread (codes "java/lang/Thread")) (as_member StartThread (codes "java/lang/Thread"))
      (as_member JoinThread (codes "java/lang/Thread"))
      as_initializer e

-- ---- operands

pub popped_int : (s : Site) (bytes : ℤ → List ℕ) (stack : List Value) (further : Completion)
    → further ≡ prints_on s bytes (int_on stack)
    → option_map_or Faults (fault_in_pops (IntKind ∷ []) stack) further ≡ prints_on s bytes (int_on stack)
popped_int s bytes [] further e = refl
popped_int s bytes (Int z ∷ vs) further e = e
popped_int s bytes (Long z ∷ vs) further e = refl
popped_int s bytes (Ref r ∷ vs) further e = refl

pub popped_long : (s : Site) (bytes : ℤ → List ℕ) (stack : List Value) (further : Completion)
    → further ≡ prints_on s bytes (long_on stack)
    → option_map_or Faults (fault_in_pops (LongKind ∷ []) stack) further ≡ prints_on s bytes (long_on stack)
popped_long s bytes [] further e = refl
popped_long s bytes (Int z ∷ vs) further e = refl
popped_long s bytes (Long z ∷ vs) further e = e
popped_long s bytes (Ref r ∷ vs) further e = refl
