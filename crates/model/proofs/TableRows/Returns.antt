-- Worked rows of the returns (JVMS 6.5): a method of this descriptor runs on thread 0, called at pc 6 of main, which
-- has an operand left.
use Rattle.std.specs.Prelude.{◌≡◌, ℕ, pos, [], ◌∷◌, List, codes, Option, Some, None, refl}
use Rattle.model.specs.declared.values.Kind.{Kind}
use Rattle.model.specs.declared.values.Kind.TheVariants.{Int as IntKind, Long as LongKind, Ref as RefKind}
use Rattle.model.specs.declared.values.Value.{Value}
use Rattle.model.specs.declared.values.Value.TheVariants.{Int, Long, Ref}
use Rattle.model.specs.declared.turns.Fault.TheVariants.{StackEmpty, StackFull, WrongKind, WrongReturn}
use Rattle.model.specs.declared.instructions.Instruction.TheVariants.{Nop, Invoke}
use Rattle.model.specs.declared.instructions.Invocation.TheVariants.{Static}
use Rattle.model.specs.ClassListings.{ClassListing}
use Rattle.model.specs.Frames.{Frame}
use Rattle.model.specs.Worlds.{World, Thread}
use Rattle.model.specs.Worlds.Thread.{Live, Ended}
use Rattle.model.specs.Completions.{Completion}
use Rattle.model.specs.Completions.Completion.{Goes, Faults}
use Rattle.model.specs.Table.Returns.{returned}
use Rattle.model.proofs.TableRows.Listings.{Sized}
use Rattle.model.proofs.TableRows.Sites.{class, method, member, place, frame, object, world, site}

abbrev nops : List Sized
nops = (6, Nop) ∷ (3, Invoke Static (member (codes "A") (codes "m") (codes "()V"))) ∷ (1, Nop) ∷ []

abbrev program : List ℕ → List ClassListing
program descriptor = class (codes "A") (codes "java/lang/Object") [] (method 9 (codes "main") (codes "()V") 2 0 nops
    ∷ method 9 (codes "m") descriptor 3 1 nops ∷ []) ∷ []

abbrev main_at : ℕ → List Value → ℕ → Frame
main_at pc stack room = frame (place 0 0) pc [] stack room None

abbrev m_with : List Value → Option ℕ → Frame
m_with stack monitor = frame (place 0 1) 0 [] stack 3 monitor

-- birth 3's monitor has this owner and count
abbrev standing : Thread → Option ℕ → ℕ → World
standing thread owner count = world (thread ∷ Ended None ∷ []) (object (codes "A") owner count None ∷ [])

-- m returns with this stack to a main with so much room
abbrev back : List ℕ → Option Kind → List Value → ℕ → Completion
back descriptor kind stack room =
    returned (site (program descriptor) (standing (Live (main_at 6 (Int (pos 1) ∷ []) room ∷ m_with stack None ∷ []))
    (Some 0) 1) (m_with stack None) 1) kind

-- main goes on after its invoke; birth 3's monitor is left as it was
abbrev goes_on : List Value → ℕ → List ℕ → Completion
goes_on stack room writes = Goes (standing (Live (main_at 9 stack room ∷ [])) (Some 0) 1) writes

-- ---- the result is pushed in the caller

return_none : back (codes "()V") None [] 1 ≡ goes_on (Int (pos 1) ∷ []) 1 []
return_none = refl

-- operands that are left go with the frame
return_left : back (codes "()V") None (Int (pos 8) ∷ Ref (Some 3) ∷ []) 1 ≡ goes_on (Int (pos 1) ∷ []) 1 []
return_left = refl

return_int : back (codes "(J)I") (Some IntKind) (Int (pos 300) ∷ Int (pos 8) ∷ []) 2
    ≡ goes_on (Int (pos 300) ∷ Int (pos 1) ∷ []) 2 []
return_int = refl

-- a result isn't truncated
return_byte : back (codes "()B") (Some IntKind) (Int (pos 300) ∷ []) 2 ≡ goes_on (Int (pos 300) ∷ Int (pos 1) ∷ []) 2 []
return_byte = refl

return_long : back (codes "(Ljava/lang/Object;)J") (Some LongKind) (Long (pos 7) ∷ []) 3
    ≡ goes_on (Long (pos 7) ∷ Int (pos 1) ∷ []) 3 []
return_long = refl

return_ref : back (codes "()LA;") (Some RefKind) (Ref (Some 3) ∷ []) 2 ≡ goes_on (Ref (Some 3) ∷ Int (pos 1) ∷ []) 2
    (3 ∷ [])
return_ref = refl

return_array : back (codes "()[J") (Some RefKind) (Ref None ∷ []) 2 ≡ goes_on (Ref None ∷ Int (pos 1) ∷ []) 2 []
return_array = refl

-- ---- no room in the caller: F2

return_int_full : back (codes "()I") (Some IntKind) (Int (pos 300) ∷ []) 1 ≡ Faults StackFull
return_int_full = refl

return_long_full : back (codes "()J") (Some LongKind) (Long (pos 7) ∷ []) 2 ≡ Faults StackFull
return_long_full = refl

-- ---- another opcode than the descriptor's: F7, before the operand is looked at

return_int_of_none : back (codes "()V") (Some IntKind) [] 2 ≡ Faults WrongReturn
return_int_of_none = refl

return_none_of_int : back (codes "()I") None (Int (pos 1) ∷ []) 2 ≡ Faults WrongReturn
return_none_of_int = refl

return_int_of_long : back (codes "()J") (Some IntKind) (Int (pos 1) ∷ []) 2 ≡ Faults WrongReturn
return_int_of_long = refl

return_long_of_ref : back (codes "()[J") (Some LongKind) (Long (pos 1) ∷ []) 2 ≡ Faults WrongReturn
return_long_of_ref = refl

return_ref_of_int : back (codes "()C") (Some RefKind) (Ref None ∷ []) 2 ≡ Faults WrongReturn
return_ref_of_int = refl

-- ---- the operand

return_nothing : back (codes "()I") (Some IntKind) [] 2 ≡ Faults StackEmpty
return_nothing = refl

return_wrong : back (codes "()I") (Some IntKind) (Long (pos 1) ∷ []) 2 ≡ Faults WrongKind
return_wrong = refl

-- ---- the outermost frame's return ends its thread

return_from_main : returned (site (program (codes "()V")) (standing (Live (main_at 9 (Ref (Some 3) ∷ []) 2 ∷ []))
    (Some 0) 1) (main_at 9 (Ref (Some 3) ∷ []) 2) 10) None ≡ Goes (standing (Ended None) (Some 0) 1) []
return_from_main = refl

-- ---- the method monitor is released where the thread owns it

abbrev held : Option ℕ → ℕ → Completion
held owner count =
    returned (site (program (codes "()V")) (standing (Live (main_at 6 [] 2 ∷ m_with [] (Some 3) ∷ [])) owner count)
    (m_with [] (Some 3)) 1) None

abbrev let_go : Option ℕ → ℕ → Completion
let_go owner count = Goes (standing (Live (main_at 9 [] 2 ∷ [])) owner count) []

return_releases : held (Some 0) 1 ≡ let_go None 0
return_releases = refl

return_lowers : held (Some 0) 2 ≡ let_go (Some 0) 1
return_lowers = refl

return_of_another : held (Some 1) 1 ≡ let_go (Some 1) 1
return_of_another = refl

return_of_nobody : held None 0 ≡ let_go None 0
return_of_nobody = refl
