use Rattle.std.specs.Prelude.{ℕ, Bool, ◌==◌, bit_and}
use Rattle.model.specs.declared.listings.Field.{Field}
use Rattle.model.specs.declared.listings.Method.{Method}
use Rattle.model.specs.ClassListings.{ClassListing}

-- Access flags by their bits (JVMS 4.1, 4.5, 4.6).

abbrev pub has_flag : ℕ → ℕ → Bool
has_flag flags flag = bit_and flags flag == flag

abbrev pub is_final : ClassListing → Bool
is_final c = has_flag c.flags.0 0x0010

abbrev pub is_interface : ClassListing → Bool
is_interface c = has_flag c.flags.0 0x0200

abbrev pub is_abstract : ClassListing → Bool
is_abstract c = has_flag c.flags.0 0x0400

abbrev pub is_static_field : Field → Bool
is_static_field f = has_flag f.flags.0 0x0008

-- ---- methods

abbrev pub is_private : Method → Bool
is_private m = has_flag m.flags.0 0x0002

abbrev pub is_static : Method → Bool
is_static m = has_flag m.flags.0 0x0008

abbrev pub is_synchronized : Method → Bool
is_synchronized m = has_flag m.flags.0 0x0020

abbrev pub is_native : Method → Bool
is_native m = has_flag m.flags.0 0x0100
