-- The tree that the text of a listing spells: labels named by their pcs, where these are named.
use Rattle.std.specs.Prelude.{ℕ, Bool, true, false, nat_le, List, [], ◌∷◌, ◌++◌, map, Option, Some, None}
use Rattle.std.specs.List.{list_all}
use Rattle.std.specs.Option.{option_map}
use Rattle.model.specs.declared.listings.ExceptionRow.{ExceptionRow}
use Rattle.model.specs.declared.listings.Method.{Method}
use Rattle.model.specs.declared.listings.Placed.{Placed}
use Rattle.model.specs.declared.trees.CatchRow.{CatchRow}
use Rattle.model.specs.declared.trees.MethodTree.{MethodTree}
use Rattle.model.specs.declared.trees.TextLine.{TextLine}
use Rattle.model.specs.declared.trees.TextLine.TheVariants.{Label, Instruction}
use Rattle.model.specs.ClassListings.{ClassListing}
use Rattle.model.specs.CodeListings.{CodeListing}
use Rattle.model.specs.Texts.Assembling.{end_from}
use Rattle.model.specs.Texts.Bodies.{Body}
use Rattle.model.specs.Texts.Disassembling.{label, is_named, named_pcs}
use Rattle.model.specs.Texts.Labels.{with_targets}
use Rattle.model.specs.Texts.Trees.{Tree}

-- the label of a pc, where it is named
abbrev pub label_back : Bool → ℕ → List TextLine
label_back false pc = []
label_back true pc = Label (label pc) ∷ []

-- instructions after a pc, each after its label; the last label may stand at the end
abbrev pub lines_back : List ℕ → ℕ → List Placed → List TextLine
lines_back pcs end [] = label_back (is_named pcs end) end
lines_back pcs end (p ∷ ps) = label_back (is_named pcs p.pc) p.pc ++ (Instruction (with_targets label p.instruction)
    ∷ lines_back pcs p.next ps)

abbrev pub row_back : ExceptionRow → CatchRow
row_back r = record { class = r.class; start = label r.start; end = label r.end; handler = label r.handler }

abbrev pub body_back : CodeListing → Body
body_back c = record {
  max_stack = c.max_stack;
  max_locals = c.max_locals;
  rows = map row_back c.rows;
  lines = lines_back (named_pcs c) 0 c.instructions;
}

abbrev pub method_back : Method → MethodTree
method_back m = record { flags = m.flags; name = m.name; descriptor = m.descriptor; body = option_map body_back m.code }

-- the tree of a listing's text
unfoldable pub tree_back : ClassListing → Tree
tree_back l = record {
  flags = l.flags;
  name = l.name;
  superclass = l.superclass;
  interfaces = l.interfaces;
  fields = l.fields;
  methods = map method_back l.methods;
}

-- code ends at a pc of two bytes
abbrev pub code_fits : Option CodeListing → Bool
code_fits None = true
code_fits (Some c) = nat_le (end_from 0 c.instructions) 65535

-- whether the pcs of a listing have two bytes, as those of a class file have
unfoldable pub pcs_fit : ClassListing → Bool
pcs_fit l = list_all (λ m. code_fits m.code) l.methods
