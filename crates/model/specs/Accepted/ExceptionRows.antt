use Rattle.std.specs.Prelude.{ℕ, ◌-◌, List, length, slice_get, Bool, false, ◌&&◌, ◌||◌, not, ◌==◌, nat_lt, codes}
use Rattle.std.specs.Prelude.{Option, Some, None}
use Rattle.std.specs.List.{list_any}
use Rattle.model.specs.declared.listings.ExceptionRow.{ExceptionRow}
use Rattle.model.specs.declared.listings.Method.{Method}
use Rattle.model.specs.declared.listings.Placed.{Placed}
use Rattle.model.specs.CodeListings.{CodeListing}
use Rattle.model.specs.ClassListings.{ClassListing}
use Rattle.model.specs.Classes.Subclasses.{is_subclass}

-- a pc at which an instruction begins
abbrev pub is_instruction : CodeListing → ℕ → Bool
is_instruction code pc = list_any (λ (i : Placed). i.pc == pc) code.instructions

abbrev pub end_of : Option Placed → ℕ
end_of None = 0
end_of (Some i) = i.next

-- the code's length in bytes: the pc after its last instruction
abbrev pub code_length : CodeListing → ℕ
code_length code = end_of (slice_get code.instructions (length code.instructions - 1))

-- nothing of such a class can be thrown
abbrev pub is_no_throwable : List ClassListing → Option (List ℕ) → Bool
is_no_throwable program None = false
is_no_throwable program (Some name) = not (is_subclass program name (codes "java/lang/Throwable"))

abbrev pub is_bad_row : List ClassListing → CodeListing → ExceptionRow → Bool
is_bad_row program code row =
    not (nat_lt row.start row.end && is_instruction code row.start && is_instruction code row.handler
    && (is_instruction code row.end || row.end == code_length code))
    || is_no_throwable program row.class

abbrev pub has_bad_row_in : List ClassListing → Option CodeListing → Bool
has_bad_row_in program None = false
has_bad_row_in program (Some code) = list_any (is_bad_row program code) code.rows

-- L7: an exception row of the class (JVMS 4.7.3) doesn't begin below its end, has a bound or handler that is no
-- instruction, where its end may be the code's length, or has a class that is no Throwable
unfoldable pub has_bad_row : List ClassListing → ClassListing → Bool
has_bad_row program c = list_any (λ (m : Method). has_bad_row_in program m.code) c.methods
