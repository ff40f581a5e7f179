-- Worked rows of descriptors: the arguments of methods, their kinds and units, also of bytes that are no descriptor.
use Rattle.std.specs.Prelude.{◌≡◌, [], ◌∷◌, codes, refl, Some, None}
use Rattle.model.specs.declared.values.Kind.TheVariants.{Int, Long, Ref}
use Rattle.model.specs.Signatures.{argument_types, argument_kinds, argument_units, result_kind}

types : argument_types (codes "(I[[JLa/B;JS)V") ≡ codes "I" ∷ codes "[[J" ∷ codes "La/B;" ∷ codes "J" ∷ codes "S" ∷ []
types = refl

kinds : argument_kinds (codes "(I[[JLa/B;JS)V") ≡ Int ∷ Ref ∷ Ref ∷ Long ∷ Int ∷ []
kinds = refl

units : argument_units (codes "(I[[JLa/B;JS)V") ≡ 6
units = refl

array_of_objects : argument_types (codes "([LA;[LB;)V") ≡ codes "[LA;" ∷ codes "[LB;" ∷ []
array_of_objects = refl

no_arguments : argument_types (codes "()V") ≡ []
no_arguments = refl

no_end : argument_types (codes "(J[La") ≡ codes "J" ∷ codes "[La" ∷ []
no_end = refl

no_bytes : argument_units [] ≡ 0
no_bytes = refl

result : result_kind (codes "(J)[I") ≡ Some Ref
result = refl

no_result : result_kind (codes "(J)V") ≡ None
no_result = refl
