-- Programs of calls, run whole by thread 0: a recursion without end, selection, and the faults of calls and returns.
use Rattle.std.specs.Prelude.{◌≡◌, ℕ, List, [], ◌∷◌, replicate, Some, None, codes, refl}
use Rattle.std.specs.Int.{int_wrap}
use Rattle.std.specs.Fmt.{digits}
use Rattle.model.specs.declared.instructions.Constant.TheVariants.{SmallInt}
use Rattle.model.specs.declared.instructions.SmallInt.{SmallInt as SmallIntOf}
use Rattle.model.specs.declared.instructions.SmallInt.TheVariants.{One, Two, Three}
use Rattle.model.specs.declared.instructions.FirstLocal.TheVariants.{Zero as FirstZero}
use Rattle.model.specs.declared.instructions.Local.TheVariants.{First}
use Rattle.model.specs.declared.instructions.LocalAccess.TheVariants.{Load}
use Rattle.model.specs.declared.instructions.ClassOperation.TheVariants.{New}
use Rattle.model.specs.declared.instructions.Invocation.{Invocation}
use Rattle.model.specs.declared.instructions.Invocation.TheVariants.{Virtual, Special, Static, Interface}
use Rattle.model.specs.declared.instructions.Instruction.TheVariants.{Constant, Local, Class, Invoke, Return, Throw}
use Rattle.model.specs.declared.values.Kind.TheVariants.{Int as IntKind, Ref as RefKind}
use Rattle.model.specs.declared.values.Value.TheVariants.{Ref}
use Rattle.model.specs.declared.listings.Method.{Method}
use Rattle.model.specs.declared.turns.Fault.TheVariants.{WrongClass, WrongReturn, NoMethod}
use Rattle.model.specs.ClassListings.{ClassListing}
use Rattle.model.specs.Classes.Builtin.{builtin_classes}
use Rattle.model.specs.Classes.Search.{upwards, interfaces_from}
use Rattle.model.specs.Classes.Subclasses.{is_within}
use Rattle.model.specs.Classes.Types.{is_subtype_within}
use Rattle.model.specs.Worlds.{World, opening_world}
use Rattle.model.specs.Worlds.Thread.{Live, Ended}
use Rattle.model.specs.Table.Next.{completion, next}
use Rattle.model.specs.Turns.{refusal}
use Rattle.model.proofs.TableRows.Listings.{Sized, print, return, after, run, more}
use Rattle.model.proofs.TableRows.Sites.{class, interface, method, abstract_method, member, place, frame}

-- ---- instructions

abbrev iconst : SmallIntOf → Sized
iconst n = (1, Constant (SmallInt n))

abbrev aload_0 : Sized
aload_0 = (1, Local (Load RefKind (First FirstZero)))

abbrev new : List ℕ → Sized
new name = (3, Class New name)

abbrev ireturn : Sized
ireturn = (1, Return (Some IntKind))

abbrev invoke : Invocation → List ℕ → List ℕ → List ℕ → Sized
invoke how class name descriptor = (3, Invoke how (member class name descriptor))

abbrev object_class : List ℕ
object_class = codes "java/lang/Object"

-- a class with a static main of these limits, and other methods after it
abbrev main_class : List ℕ → ℕ → ℕ → List Sized → List Method → ClassListing
main_class name stack locals code methods = class name object_class [] (method 9 (codes "main") (codes "()V") stack
    locals code ∷ methods)

-- ---- S/f()V calls itself: the 256th turn finds 256 frames, and throws the StackOverflowError that was made before the
-- run

abbrev recursion : List ClassListing
recursion = main_class (codes "S") 0 0 (invoke Static (codes "S") (codes "f") (codes "()V") ∷ return ∷ []) (
    method 9 (codes "f") (codes "()V") 0 0 (invoke Static (codes "S") (codes "f") (codes "()V") ∷ return ∷ []) ∷ [])
    ∷ []

-- main and so many frames of f, all at their invoke, after as many turns
abbrev deep : ℕ → World
deep n = record (opening_world recursion) {
  threads = Live (frame (place 0 0) 0 [] [] 0 None ∷ replicate n (frame (place 0 1) 0 [] [] 0 None)) ∷ [];
  rows = n;
}

deep_32 : after 32 recursion (opening_world recursion) ≡ deep 32
unfolding refusal next completion builtin_classes upwards interfaces_from is_within is_subtype_within int_wrap digits
deep_32 = refl

deep_64 : after 32 recursion (deep 32) ≡ deep 64
unfolding refusal next completion builtin_classes upwards interfaces_from is_within is_subtype_within int_wrap digits
deep_64 = refl

deep_96 : after 32 recursion (deep 64) ≡ deep 96
unfolding refusal next completion builtin_classes upwards interfaces_from is_within is_subtype_within int_wrap digits
deep_96 = refl

deep_128 : after 32 recursion (deep 96) ≡ deep 128
unfolding refusal next completion builtin_classes upwards interfaces_from is_within is_subtype_within int_wrap digits
deep_128 = refl

deep_160 : after 32 recursion (deep 128) ≡ deep 160
unfolding refusal next completion builtin_classes upwards interfaces_from is_within is_subtype_within int_wrap digits
deep_160 = refl

deep_192 : after 32 recursion (deep 160) ≡ deep 192
unfolding refusal next completion builtin_classes upwards interfaces_from is_within is_subtype_within int_wrap digits
deep_192 = refl

deep_224 : after 32 recursion (deep 192) ≡ deep 224
unfolding refusal next completion builtin_classes upwards interfaces_from is_within is_subtype_within int_wrap digits
deep_224 = refl

deep_255 : after 31 recursion (deep 224) ≡ deep 255
unfolding refusal next completion builtin_classes upwards interfaces_from is_within is_subtype_within int_wrap digits
deep_255 = refl

-- 255 calls, and the last turn
too_deep : after 1 recursion (deep 255)
    ≡ record (opening_world recursion) {
      threads = Ended (Some (codes "java/lang/StackOverflowError")) ∷ [];
      rows = 256;
    }
unfolding refusal next completion builtin_classes upwards interfaces_from is_within is_subtype_within int_wrap digits
too_deep = refl

deep_all : run 256 recursion
    ≡ record (opening_world recursion) {
      threads = Ended (Some (codes "java/lang/StackOverflowError")) ∷ [];
      rows = 256;
    }
deep_all =
    let w = opening_world recursion in
    let to_64 = more 32 32 recursion w (deep 32) (deep 64) deep_32 deep_64 in
    let to_96 = more 64 32 recursion w (deep 64) (deep 96) to_64 deep_96 in
    let to_128 = more 96 32 recursion w (deep 96) (deep 128) to_96 deep_128 in
    let to_160 = more 128 32 recursion w (deep 128) (deep 160) to_128 deep_160 in
    let to_192 = more 160 32 recursion w (deep 160) (deep 192) to_160 deep_192 in
    let to_224 = more 192 32 recursion w (deep 192) (deep 224) to_192 deep_224 in
    let to_255 = more 224 31 recursion w (deep 224) (deep 255) to_224 deep_255 in
    more 255 1 recursion w (deep 255) _ to_255 too_deep

-- ---- A's f gives 1, B's private f over it 2, C over B has none: a C's f gives 1

abbrev gives : ℕ → SmallIntOf → Method
gives flags n = method flags (codes "f") (codes "()I") 1 1 (iconst n ∷ ireturn ∷ [])

abbrev past_private : List ClassListing
past_private =
    main_class (codes "M") 1 0 (new (codes "C") ∷ invoke Virtual (codes "A") (codes "f") (codes "()I") ∷ print ∷ return
    ∷ []) [] ∷
    class (codes "A") object_class [] (gives 1 One ∷ []) ∷
    class (codes "B") (codes "A") [] (gives 2 Two ∷ []) ∷
    class (codes "C") (codes "B") [] [] ∷ []

past_private-output : (run 6 past_private).output ≡ codes "1\n"
unfolding refusal next completion builtin_classes upwards interfaces_from is_within is_subtype_within int_wrap digits
past_private-output = refl

past_private-end : (run 6 past_private).threads ≡ Ended None ∷ []
unfolding refusal next completion builtin_classes upwards interfaces_from is_within is_subtype_within int_wrap digits
past_private-end = refl

-- ---- f gives 1 in A and 3 in C over B over A; B's g calls A's f, and does so on a C too

abbrev by_special : List ClassListing
by_special =
    main_class (codes "M") 1 0 (new (codes "C") ∷ invoke Virtual (codes "B") (codes "g") (codes "()I") ∷ print ∷ return
    ∷ []) [] ∷
    class (codes "A") object_class [] (gives 1 One ∷ []) ∷
    class (codes "B") (codes "A") [] (method 1 (codes "g") (codes "()I") 1 1 (aload_0 ∷
    invoke Special (codes "A") (codes "f") (codes "()I") ∷ ireturn ∷ []) ∷ []) ∷
    class (codes "C") (codes "B") [] (gives 1 Three ∷ []) ∷ []

by_special-output : (run 9 by_special).output ≡ codes "1\n"
unfolding refusal next completion builtin_classes upwards interfaces_from is_within is_subtype_within int_wrap digits
by_special-output = refl

by_special-end : (run 9 by_special).threads ≡ Ended None ∷ []
unfolding refusal next completion builtin_classes upwards interfaces_from is_within is_subtype_within int_wrap digits
by_special-end = refl

-- ---- faults; the turn after it is refused

-- D implements J without its method: F9
abbrev no_method : List ClassListing
no_method =
    main_class (codes "M") 1 0 (new (codes "D")
    ∷ (5, Invoke (Interface 1) (member (codes "J") (codes "f") (codes "()V"))) ∷ return ∷ []) [] ∷
    class (codes "D") object_class (codes "J" ∷ []) [] ∷
    interface (codes "J") (abstract_method (codes "f") (codes "()V") ∷ []) ∷ []

no_method-fault : (run 3 no_method).fault ≡ Some (NoMethod, 0)
unfolding refusal next completion builtin_classes upwards interfaces_from is_within is_subtype_within int_wrap digits
no_method-fault = refl

no_method-stays : (run 3 no_method).threads ≡ Live (frame (place 0 0) 3 [] (Ref (Some 3) ∷ []) 1 None ∷ []) ∷ []
unfolding refusal next completion builtin_classes upwards interfaces_from is_within is_subtype_within int_wrap digits
no_method-stays = refl

no_method-rows : (run 3 no_method).rows ≡ 2
unfolding refusal next completion builtin_classes upwards interfaces_from is_within is_subtype_within int_wrap digits
no_method-rows = refl

-- an Object is no Throwable: F6
abbrev no_throwable : List ClassListing
no_throwable = main_class (codes "M") 1 0 (new object_class ∷ (1, Throw) ∷ []) [] ∷ []

no_throwable-fault : (run 3 no_throwable).fault ≡ Some (WrongClass, 0)
unfolding refusal next completion builtin_classes upwards interfaces_from is_within is_subtype_within int_wrap digits
no_throwable-fault = refl

no_throwable-stays : (run 3 no_throwable).threads ≡ Live (frame (place 0 0) 3 [] (Ref (Some 3) ∷ []) 1 None ∷ []) ∷ []
unfolding refusal next completion builtin_classes upwards interfaces_from is_within is_subtype_within int_wrap digits
no_throwable-stays = refl

-- ireturn in main()V: F7
abbrev wrong_return : List ClassListing
wrong_return = main_class (codes "M") 1 0 (ireturn ∷ []) [] ∷ []

wrong_return-faulted : run 2 wrong_return ≡ record (opening_world wrong_return) {
  fault = Some (WrongReturn, 0);
  rows = 1;
}
unfolding refusal next completion builtin_classes upwards interfaces_from is_within is_subtype_within int_wrap digits
wrong_return-faulted = refl
