-- What a field keeps is the same in code and in the definitions.
use Rattle.std.proofs.Common.{◌≡◌, ℕ, ℤ, Option, refl}
use Rattle.model.specs.declared.values.IntType.TheVariants.{Byte, Char, Short, Int as AllBits}
use Rattle.model.specs.declared.values.Value.TheVariants.{Long as LongValue, Ref as RefValue}
use Rattle.model.specs.Stores.{Storage, kept}
use Rattle.model.specs.Stores.Storage.{Ints, Longs, References}
use Rattle.linking.specs.Storages.{flat, shown_storage}

pub shown_flat : (s : Storage) → shown_storage (flat s) ≡ s
shown_flat (Ints Byte) = refl
shown_flat (Ints Char) = refl
shown_flat (Ints Short) = refl
shown_flat (Ints AllBits) = refl
shown_flat Longs = refl
shown_flat References = refl

pub kept_long : (s : Storage) (z : ℤ) → kept s (LongValue z) ≡ LongValue z
kept_long (Ints type) z = refl
kept_long Longs z = refl
kept_long References z = refl

pub kept_ref : (s : Storage) (r : Option ℕ) → kept s (RefValue r) ≡ RefValue r
kept_ref (Ints type) r = refl
kept_ref Longs r = refl
kept_ref References r = refl
