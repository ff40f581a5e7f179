use Rattle.std.specs.Prelude.{List, Option, Some, None}
use Rattle.model.specs.declared.listings.Method.{Method}
use Rattle.model.specs.declared.places.MethodPlace.{MethodPlace}
use Rattle.model.specs.declared.builtins.Builtin.{Builtin}
use Rattle.model.specs.CodeListings.{CodeListing}
use Rattle.model.specs.ClassListings.{ClassListing}
use Rattle.model.specs.Classes.Search.{Declared}
use Rattle.model.specs.Classes.MethodPlaces.{place_of, member_of}
use Rattle.model.specs.Programs.{builtin_of}

-- a method with code, and where the program declares it
pub record CodedMethod : Type 0 where
  pub method : Method
  pub code : CodeListing
  pub place : MethodPlace

-- What a method that was resolved or selected has to run (JVMS 2.6, 6.5).
pub data Callee : Type 0 where
  -- one of the machine's own
  Own : (builtin : Builtin) → Callee
  Coded : (method : CodedMethod) → Callee
  -- no method, or an abstract one
  NoCode : Callee

abbrev pub coded : Method → Option CodeListing → Option MethodPlace → Callee
coded method None place = NoCode
coded method (Some code) None = NoCode
coded method (Some code) (Some place) = Coded (record { method = method; code = code; place = place })

abbrev pub callee_by : List ClassListing → Declared Method → Option Builtin → Callee
callee_by program d (Some builtin) = Own builtin
callee_by program d None = coded d.member d.member.code (place_of program d)

abbrev pub callee_of : List ClassListing → Option (Declared Method) → Callee
callee_of program None = NoCode
callee_of program (Some d) = callee_by program d (builtin_of (member_of d))
