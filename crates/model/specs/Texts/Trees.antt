use Rattle.std.specs.Prelude.{ℕ, List}
use Rattle.model.specs.declared.flags.ClassFlags.{ClassFlags}
use Rattle.model.specs.declared.listings.Field.{Field}
use Rattle.model.specs.declared.trees.MethodTree.{MethodTree}

-- what a text declares, with labels in place of pcs; names are lists of bytes, SUPER is no flag of it
pub record Tree : Type 0 where
  pub flags : ClassFlags
  pub name : List ℕ
  pub superclass : List ℕ
  pub interfaces : List (List ℕ)
  pub fields : List Field
  pub methods : List MethodTree
