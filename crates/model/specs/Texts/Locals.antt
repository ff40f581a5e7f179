use Rattle.std.specs.Prelude.{ℕ, ℤ, pos, negsuc, int_le, ◌&&◌, nat_le, List, Option, Some, None, if◌then◌else◌}
use Rattle.std.specs.Option.{option_map, option_and_then}
use Rattle.model.specs.declared.instructions.Increment.{Increment}
use Rattle.model.specs.declared.instructions.Increment.TheVariants as increment
use Rattle.model.specs.declared.instructions.Local.{Local}
use Rattle.model.specs.declared.instructions.Local.TheVariants as «local»
use Rattle.model.specs.declared.instructions.LocalAccess.{LocalAccess}
use Rattle.model.specs.declared.instructions.LocalAccess.TheVariants as access
use Rattle.model.specs.declared.instructions.Width.{Width}
use Rattle.model.specs.declared.instructions.Width.TheVariants.{Narrow, Wide}
use Rattle.model.specs.declared.mnemonics.LocalMnemonic.{LocalMnemonic}
use Rattle.model.specs.declared.mnemonics.LocalMnemonic.TheVariants.{Load, Store, Increment as Adds}
use Rattle.model.specs.Texts.Numbers.{number_in, natural_to}
use Rattle.model.specs.Texts.Operands.{both, only_natural}

-- a local in the wide form where that is asked for, or where its index asks for it (JVMS 6.5, `wide`)
abbrev pub local_form : Width → ℕ → Local
local_form Narrow n = if nat_le n 255 then «local».Byte n else «local».Wide n
local_form Wide n = «local».Wide n

-- a local and what is added to it, as above where one of both asks for the wide form
abbrev pub increment_form : Width → ℕ → ℤ → Increment
increment_form Narrow n z = if nat_le n 255 && int_le (negsuc 127) z && int_le z (pos 127) then increment.Byte n z else
    increment.Wide n z
increment_form Wide n z = increment.Wide n z

abbrev pub increment_with : Width → Option ℕ → Option ℤ → Option Increment
increment_with width None z = None
increment_with width (Some n) None = None
increment_with width (Some n) (Some z) = Some (increment_form width n z)

abbrev pub increment_of : Width → List ℕ × List ℕ → Option Increment
increment_of width words =
    increment_with width (natural_to 65535 words.0) (number_in (negsuc 32767) (pos 32767) words.1)

-- what is done to a local, by the mnemonic and its operands
abbrev pub local_by : Width → LocalMnemonic → List (List ℕ) → Option LocalAccess
local_by width (Load kind) words = option_map (λ n. access.Load kind (local_form width n)) (only_natural 65535 words)
local_by width (Store kind) words = option_map (λ n. access.Store kind (local_form width n)) (only_natural 65535 words)
local_by width Adds words = option_map access.Increment (option_and_then (increment_of width) (both words))
