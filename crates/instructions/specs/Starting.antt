use Rattle.std.specs.Prelude.{ℕ, List, codes, Bool, true, false, ◌&&◌, Option}
use Rattle.std.specs.Option.{option_map_or}
use Rattle.std.specs.Str.{bytes_eq}
use Rattle.model.specs.declared.builtins.Builtin.{Builtin}
use Rattle.model.specs.declared.builtins.Builtin.TheVariants.{PrintInt, PrintLong, PutByte, Initialize, RunThread}
use Rattle.model.specs.declared.builtins.Builtin.TheVariants.{StartThread, JoinThread}
use Rattle.model.specs.declared.listings.Method.{Method}
use Rattle.model.specs.ClassListings.{ClassListing}
use Rattle.model.specs.Classes.Search.{Declared}
use Rattle.linking.specs.declared.method_tables.Body.{Body}
use Rattle.linking.specs.declared.method_tables.Body.TheVariants.{NoCode, Own, Coded}
use Rattle.linking.specs.declared.selection_rows.SelectionRow.{SelectionRow}
use Rattle.linking.specs.Selections.{declared_at}
use Rattle.instructions.specs.declared.kinds.Course.{Course}
use Rattle.instructions.specs.Threads.{lives_in}

-- How the method is found with which a thread begins, and whether the thread of an object goes on.

-- whether a method is called run()V
abbrev pub is_run : Method → Bool
is_run m = bytes_eq m.name (codes "run") && bytes_eq m.descriptor (codes "()V")

-- whether a row of a selection table is that of run()V
abbrev pub is_run_row : List ClassListing → SelectionRow → Bool
is_run_row program row = option_map_or (λ (d : Declared Method). is_run d.member) (declared_at program row) false

-- the machine's own methods of that name: Thread alone has one
abbrev pub is_run_builtin : Builtin → Bool
is_run_builtin PrintInt = false
is_run_builtin PrintLong = false
is_run_builtin PutByte = false
is_run_builtin Initialize = false
is_run_builtin RunThread = true
is_run_builtin StartThread = false
is_run_builtin JoinThread = false

abbrev pub is_own_run : Body → Bool
is_own_run NoCode = false
is_own_run (Own builtin) = is_run_builtin builtin
is_own_run (Coded max_locals max_stack) = false

-- whether the thread of a number was started and goes on, the threads being in these courses
abbrev pub lives_on : List Course → Option ℕ → Bool
lives_on courses thread = option_map_or (lives_in courses) thread false
