use Rattle.std.specs.Prelude.{◌≡◌, List, Some, None}
use Rattle.model.specs.ClassListings.{ClassListing}
use Rattle.model.specs.Accepted.Refusals.{LoadRefusal, refusal_of}
use Rattle.acceptance.specs.declared.errors.LoadError.{LoadError}
use Rattle.acceptance.specs.declared.errors.LoadError.TheVariants.{InClass, InProgram, Memory}

-- the error tells this refusal, or want of memory
abbrev pub Tells : LoadRefusal → LoadError → Type 0
Tells refusal (InClass rule class) = refusal ≡ record { rule = rule; class = Some class }
Tells refusal (InProgram rule) = refusal ≡ record { rule = rule; class = None }
Tells refusal (Memory e) = Unit {0}

-- the error tells the refusal of the program, which is refused, or want of memory
abbrev pub IsRefusedBy : List ClassListing → LoadError → Type 0
IsRefusedBy program (InClass rule class) = refusal_of program ≡ Some (record { rule = rule; class = Some class })
IsRefusedBy program (InProgram rule) = refusal_of program ≡ Some (record { rule = rule; class = None })
IsRefusedBy program (Memory e) = Unit {0}
