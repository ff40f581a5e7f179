use Rattle.std.specs.Prelude.{ℕ, List, Bool, ◌&&◌, ◌||◌, not, codes, is_some}
use Rattle.std.specs.List.{list_any}
use Rattle.std.specs.Str.{bytes_eq}
use Rattle.model.specs.declared.listings.Method.{Method}
use Rattle.model.specs.ClassListings.{ClassListing}
use Rattle.model.specs.Classes.Flags.{is_static, is_synchronized, is_native}
use Rattle.model.specs.Classes.Subclasses.{is_subclass}
use Rattle.model.specs.Programs.{is_class_initializer}
use Rattle.model.specs.WellNamed.{is_well_named}

-- a class initializer that isn't static and without arguments, result or code
abbrev pub is_wrong_initializer : Method → Bool
is_wrong_initializer m = is_class_initializer m && not (is_static m && bytes_eq m.descriptor (codes "()V")
    && is_some m.code)

-- what a thread runs
abbrev pub is_run : Method → Bool
is_run m = bytes_eq m.name (codes "run") && bytes_eq m.descriptor (codes "()V")

abbrev pub is_thread : List ClassListing → List ℕ → Bool
is_thread program name = is_subclass program name (codes "java/lang/Thread")

-- of the class of this name: a wrong class initializer, a native method, a static synchronized one, or a thread's
-- synchronized `run()V`
abbrev pub is_refused : List ClassListing → List ℕ → Method → Bool
is_refused program name m =
    is_wrong_initializer m || is_native m
    || (is_synchronized m && (is_static m || (is_run m && is_thread program name)))

-- L10: a member of the class is refused. So is a class with names that the listing of no text and of no class file has
unfoldable pub has_refused_member : List ClassListing → ClassListing → Bool
has_refused_member program c = list_any (is_refused program c.name) c.methods || not (is_well_named c)
