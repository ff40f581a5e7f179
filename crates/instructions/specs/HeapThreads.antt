use Rattle.std.specs.Prelude.{ℕ, zero, suc, slice_get, slice_set, Option, Some}
use Rattle.std.specs.Option.{option_map}
use Rattle.cells.specs.Objects.{object_if, thread_if, thread_set}
use Rattle.instructions.specs.Heaps.{HeapValue, held}

-- The threads that were started on a heap's objects, by references.

-- none where there is no object
abbrev pub thread_held : HeapValue → ℕ → Option ℕ
thread_held h reference = thread_if (held h reference)

-- the object of a reference knows its thread by the thread's number
abbrev pub with_thread_on : HeapValue → ℕ → ℕ → HeapValue
with_thread_on h zero thread = h
with_thread_on h (suc cell) thread =
    record h {
      objects = slice_set h.objects cell
          (option_map (thread_set (Some thread)) (object_if (slice_get h.objects cell)));
    }
