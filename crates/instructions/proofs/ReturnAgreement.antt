-- Returns by numbers are what the instruction table says.
use Rattle.std.proofs.Common.{◌≡◌, ℕ, List, Option, Some, None, refl}
use Rattle.model.specs.declared.instructions.Instruction.TheVariants.{Return}
use Rattle.model.specs.declared.values.Kind.{Kind}
use Rattle.model.specs.declared.values.Kind.TheVariants.{Int, Long, Ref}
use Rattle.model.specs.Completions.{Site}
use Rattle.model.specs.Table.Next.{by_family}
use Rattle.linking.specs.declared.operations.Operation.TheVariants.{Invalid}
use Rattle.linking.specs.Operations.{operation_of}
use Rattle.instructions.specs.ReturnsByNumbers.{returned_by_numbers}

-- of every program, at every site
module _ (s : Site) (superclass : List ℕ) where
  pub return_agrees : (kind : Option Kind)
      → by_family s (Return kind) ≡ returned_by_numbers s (operation_of s.program superclass (Return kind))
  return_agrees None = refl
  return_agrees (Some Int) = refl
  return_agrees (Some Long) = refl
  return_agrees (Some Ref) = refl

  pub return_valid : (kind : Option Kind) → operation_of s.program superclass (Return kind) ≡ Invalid → ⊥
  return_valid None is = cc
  return_valid (Some Int) is = cc
  return_valid (Some Long) is = cc
  return_valid (Some Ref) is = cc
