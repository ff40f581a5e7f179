-- Which listings have a class file, by the sizes of their parts and by what they name.
use Rattle.std.specs.Prelude.{ℕ, ℤ, pos, negsuc, Bool, true, ◌&&◌, nat_le, int_le, List, [], ◌∷◌, length, Option, Some}
use Rattle.std.specs.Prelude.{None}
use Rattle.std.specs.Int.Signed.{lt_z}
use Rattle.std.specs.List.{list_all}
use Rattle.model.specs.declared.instructions.Instruction.TheVariants as instruction
use Rattle.model.specs.declared.instructions.Test.{Test}
use Rattle.model.specs.declared.instructions.Test.TheVariants as test
use Rattle.model.specs.declared.instructions.Width.TheVariants.{Narrow, Wide}
use Rattle.model.specs.declared.listings.Method.{Method}
use Rattle.model.specs.declared.listings.Placed.{Placed}
use Rattle.model.specs.Bytecode.Fields.{offset}
use Rattle.model.specs.Bytecode.Operands.{table_high}
use Rattle.model.specs.ClassFiles.Items.{listing_items, items_count, with_items}
use Rattle.model.specs.ClassListings.{ClassListing}
use Rattle.model.specs.CodeListings.{CodeListing}
use Rattle.model.specs.Table.Next.{Listed}
use Rattle.model.specs.Texts.ListingOfTree.{listing_of}
use Rattle.model.specs.Texts.Trees.{Tree}

-- ---- a method

-- keys rise, each above the one before it (JVMS 6.5, lookupswitch)
abbrev pub rise_from : ℤ → List (ℤ × ℕ) → Bool
rise_from key [] = true
rise_from key (p ∷ pairs) = lt_z key p.0 && rise_from p.0 pairs

abbrev pub keys_rise : List (ℤ × ℕ) → Bool
keys_rise [] = true
keys_rise (p ∷ pairs) = rise_from p.0 pairs

-- a table ends at the greatest int at most, and the keys of a lookup rise
abbrev pub switch_agrees : Listed → Bool
switch_agrees instruction.Nop = true
switch_agrees (instruction.Constant c) = true
switch_agrees (instruction.Local a) = true
switch_agrees (instruction.Stack op) = true
switch_agrees (instruction.Number op) = true
switch_agrees (instruction.Branch t target) = true
switch_agrees (instruction.TableSwitch s) = int_le (table_high s) (pos 2147483647)
switch_agrees (instruction.LookupSwitch s) = keys_rise s.pairs
switch_agrees (instruction.Return kind) = true
switch_agrees (instruction.Static a m) = true
switch_agrees (instruction.Field a m) = true
switch_agrees (instruction.Array op) = true
switch_agrees (instruction.Class op c) = true
switch_agrees (instruction.Invoke how m) = true
switch_agrees instruction.Throw = true
switch_agrees (instruction.Monitor op) = true

-- a way that a branch has two bytes for
abbrev pub is_short_way : ℤ → Bool
is_short_way way = int_le (negsuc 32767) way && int_le way (pos 32767)

-- goto_w has four bytes for its way, which every way in a method has room in
abbrev pub branch_reaches : Test → ℤ → Bool
branch_reaches (test.Always Narrow) way = is_short_way way
branch_reaches (test.Always Wide) way = true
branch_reaches (test.Zero c) way = is_short_way way
branch_reaches (test.Ints c) way = is_short_way way
branch_reaches (test.Refs i) way = is_short_way way
branch_reaches (test.Null i) way = is_short_way way

abbrev pub reaches : ℕ → Listed → Bool
reaches pc instruction.Nop = true
reaches pc (instruction.Constant c) = true
reaches pc (instruction.Local a) = true
reaches pc (instruction.Stack op) = true
reaches pc (instruction.Number op) = true
reaches pc (instruction.Branch t target) = branch_reaches t (offset pc target)
reaches pc (instruction.TableSwitch s) = true
reaches pc (instruction.LookupSwitch s) = true
reaches pc (instruction.Return kind) = true
reaches pc (instruction.Static a m) = true
reaches pc (instruction.Field a m) = true
reaches pc (instruction.Array op) = true
reaches pc (instruction.Class op c) = true
reaches pc (instruction.Invoke how m) = true
reaches pc instruction.Throw = true
reaches pc (instruction.Monitor op) = true

-- the pc after the last instruction, after a pc
abbrev pub end_from : ℕ → List Placed → ℕ
end_from pc [] = pc
end_from pc (p ∷ ps) = end_from p.next ps

-- code has 1 to 65,535 bytes (JVMS 4.7.3)
abbrev pub size_is_right : ℕ → Bool
size_is_right size = nat_le 1 size && nat_le size 65535

-- a number of parts that a class file can count
abbrev pub is_countable : ℕ → Bool
is_countable n = nat_le n 65535

abbrev pub code_assembles : CodeListing → Bool
code_assembles c =
    list_all (λ p. switch_agrees p.instruction) c.instructions && size_is_right (end_from 0 c.instructions)
    && list_all (λ p. reaches p.pc p.instruction) c.instructions && is_countable (length c.rows)

abbrev pub body_assembles : Option CodeListing → Bool
body_assembles None = true
body_assembles (Some c) = code_assembles c

abbrev pub method_assembles : Method → Bool
method_assembles m = body_assembles m.code

-- ---- a class

-- how many numbers the pool of a class counts
unfoldable pub pool_size : ClassListing → ℕ
pool_size l = items_count (with_items [] (listing_items l))

unfoldable pub listing_assembles : ClassListing → Bool
listing_assembles l =
    list_all method_assembles l.methods && is_countable (length l.interfaces) && is_countable (length l.fields)
    && is_countable (length l.methods) && is_countable (pool_size l)

-- whether a text's tree can be assembled
unfoldable pub assembles : Tree → Bool
assembles t = listing_assembles (listing_of t)
