use Rattle.std.specs.Prelude.{ℕ, List}
use Rattle.model.specs.declared.flags.ClassFlags.{ClassFlags}
use Rattle.model.specs.declared.listings.Field.{Field}
use Rattle.model.specs.declared.listings.Method.{Method}

-- what a class declares (JVMS 4.1), with names and no pool; names are lists of bytes, SUPER is no flag of it
pub record ClassListing : Type 0 where
  pub name : List ℕ
  pub flags : ClassFlags
  pub superclass : List ℕ
  pub interfaces : List (List ℕ)
  pub fields : List Field
  pub methods : List Method
