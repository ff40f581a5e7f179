-- The text relation: which tree a Jasmin text spells, in this project's profile of the assembler's syntax.
use Rattle.std.specs.Prelude.{ℕ, List, Option}
use Rattle.model.specs.Texts.Classes.{class_tree}
use Rattle.model.specs.Texts.Lines.{lines_of}
use Rattle.model.specs.Texts.Statements.{statements_of}
use Rattle.model.specs.Texts.Trees.{Tree}
pub mod Assembling
pub mod Bodies
pub mod Classes
pub mod Descriptors
pub mod Disassembling
pub mod Flags
pub mod Heads
pub mod Instructions
pub mod Labels
pub mod Lines
pub mod ListingOfTree
pub mod Locals
pub mod Methods
pub mod Mnemonics
pub mod Names
pub mod Numbers
pub mod Operands
pub mod Spelled
pub mod Statements
pub mod Switches
pub mod Tables
pub mod Trees
pub mod Uses
pub mod Widths
pub mod Words

-- the tree that a text spells, if it spells one
unfoldable pub tree_of : List ℕ → Option Tree
tree_of text = class_tree (statements_of (lines_of text))
