use Rattle.std.specs.Prelude.{◌≡◌, ◌≤◌, ◌+◌, ℕ, List, map, None, Some, Vec}
use Rattle.std.specs.Global.{Global}
use Rattle.model.specs.declared.listings.Placed.{Placed}
use Rattle.model.specs.declared.places.MethodPlace.{MethodPlace}
use Rattle.model.specs.ClassListings.{ClassListing}
use Rattle.model.specs.CodeListings.{CodeListing}
use Rattle.model.specs.Programs.{main_in, code_at, empty_initializer}
use Rattle.loader.specs.declared.method_codes.MethodCode.{MethodCode}
use Rattle.linking.specs.declared.tables.Tables.{Tables}
use Rattle.linking.specs.Tables.{HasTables}
use Rattle.loader.specs.KnownMethods.{all_infos, infos_of}
use Rattle.loader.specs.StepLists.{AllKnowPlaces, AreSteps, HasNoSteps, instructions_in}
use Rattle.linking.specs.CanRun.{CanRun}

-- main with its limits, the steps of all methods, each of which knows its place, and those of none, the tables and the
-- instructions of an empty initializer, in a program that can run
pub record IsPrepared (program : List ClassListing) (main : MethodPlace) (max_locals max_stack : ℕ)
    (methods : List (Vec MethodCode Global)) (none : MethodCode) (tables : Tables) (empty : List Placed) : Type 0 where
  pub code : CodeListing
  pub main_is : main_in program ≡ Some main
  pub code_is : code_at program main ≡ Some code
  pub locals_are : code.max_locals ≡ max_locals
  pub stack_is : code.max_stack ≡ max_stack
  pub fits : max_locals + max_stack ≤ 4096
  pub can_run : CanRun program
  pub steps_are : AreSteps program methods program
  pub none_is : HasNoSteps none
  pub infos_are : all_infos methods ≡ map (infos_of program) program
  pub no_info : none.info ≡ None
  pub placed : AllKnowPlaces methods
  pub tables_are : HasTables program tables
  pub empty_is : empty ≡ instructions_in empty_initializer.code
