use Rattle.std.specs.Prelude.{ℤ, not, List, ◌++◌, filter, take}
use Rattle.model.specs.Texts.Widths.{is_among, different}

-- the numbers that go with `ldc`, of those noted so far and those that it uses next
unfoldable pub numbers_with : List ℤ → List ℤ → List ℤ
numbers_with noted next = take 255 (noted ++ filter (λ z. not (is_among noted z)) (different next))
