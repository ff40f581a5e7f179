use Rattle.std.specs.Prelude.{ℕ, ℤ, ◌+◌, List, [], ◌∷◌, map}
use Rattle.std.specs.Option.{option_map}
use Rattle.model.specs.declared.listings.ExceptionRow.{ExceptionRow}
use Rattle.model.specs.declared.listings.Method.{Method}
use Rattle.model.specs.declared.listings.Placed.{Placed}
use Rattle.model.specs.declared.trees.CatchRow.{CatchRow}
use Rattle.model.specs.declared.trees.MethodTree.{MethodTree}
use Rattle.model.specs.declared.trees.TextLine.{TextLine}
use Rattle.model.specs.declared.trees.TextLine.TheVariants.{Label, Instruction}
use Rattle.model.specs.ClassListings.{ClassListing}
use Rattle.model.specs.CodeListings.{CodeListing}
use Rattle.model.specs.Sizes.{size_at}
use Rattle.model.specs.Texts.Bodies.{Body}
use Rattle.model.specs.Texts.Labels.{pc_of, with_targets}
use Rattle.model.specs.Texts.Trees.{Tree}
use Rattle.model.specs.Texts.Widths.{narrow_numbers, widened_line}

-- instructions one after the other from a pc on, with pcs for labels
abbrev pub placed_from : (List ℕ → ℕ) → ℕ → List TextLine → List Placed
placed_from f pc [] = []
placed_from f pc (Label l ∷ lines) = placed_from f pc lines
placed_from f pc (Instruction i ∷ lines) =
    record { pc = pc; next = pc + size_at pc i; instruction = with_targets f i } ∷ placed_from f (pc + size_at pc i)
    lines

abbrev pub row_with : (List ℕ → ℕ) → CatchRow → ExceptionRow
row_with f row = record { start = f row.start; end = f row.end; handler = f row.handler; class = row.class }

-- a body with the lines whose widths are settled
abbrev pub code_with : Body → List TextLine → CodeListing
code_with body lines = record {
  max_stack = body.max_stack;
  max_locals = body.max_locals;
  rows = map (row_with (pc_of 0 lines)) body.rows;
  instructions = placed_from (pc_of 0 lines) 0 lines;
}

abbrev pub code_listing : List ℤ → Body → CodeListing
code_listing narrow body = code_with body (map (widened_line narrow) body.lines)

abbrev pub method_listing : List ℤ → MethodTree → Method
method_listing narrow m = record {
  flags = m.flags;
  name = m.name;
  descriptor = m.descriptor;
  code = option_map (code_listing narrow) m.body;
}

-- the listing of a text's tree
unfoldable pub listing_of : Tree → ClassListing
listing_of t = record {
  name = t.name;
  flags = t.flags;
  superclass = t.superclass;
  interfaces = t.interfaces;
  fields = t.fields;
  methods = map (method_listing (narrow_numbers t.methods)) t.methods;
}
