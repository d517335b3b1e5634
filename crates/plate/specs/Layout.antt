-- Where the cells of a plate lie in its memory.
use Rattle.std.specs.Prelude.{ℕ, ◌+◌, ◌*◌}

-- The copies: plane i is the part of side × side cells that begins at i × side × side, row by row.
abbrev pub copy_at : (side i r c : ℕ) → ℕ
copy_at side i r c = i * (side * side) + (r * side + c)

-- After the copies of n planes come the voted copies, then the line, then the earlier line.
abbrev pub voted_at : (n side i r c : ℕ) → ℕ
voted_at n side i r c = n * (side * side) + copy_at side i r c

abbrev pub line_at : (n side i : ℕ) → ℕ
line_at n side i = 2 * (n * (side * side)) + i

abbrev pub earlier_at : (n side i : ℕ) → ℕ
earlier_at n side i = 2 * (n * (side * side)) + n + i

-- The cells that a plate uses.
abbrev pub size_of : (n side : ℕ) → ℕ
size_of n side = 2 * (n * (side * side)) + 2 * n
