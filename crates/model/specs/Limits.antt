use Rattle.std.specs.Prelude.{ℕ, ◌+◌, ◌*◌, ◌≤◌}

-- a heap has 2 to 65,535 cells, of 4, 32 and 256 words, and 1,048,576 words at most
abbrev pub ShapeFits : ℕ → ℕ → ℕ → Type 0
ShapeFits small medium large = (2 ≤ small + medium + large) × (small + medium + large ≤ 65535)
    × (4 * small + 32 * medium + 256 * large ≤ 1048576)

-- a journal has room for 1 to 16,777,215 rows, and a world prints 1,048,576 bytes at most
abbrev pub LimitsFit : ℕ → ℕ → Type 0
LimitsFit steps output = (1 ≤ steps) × (steps ≤ 16777215) × (output ≤ 1048576)
