-- Numbers spelled by bytes, the highest byte first.
use Rattle.std.specs.Prelude.{ℕ, zero, suc, ◌+◌, ◌*◌, List, slice_index}

-- The number that `count` bytes from `from` on spell.
abbrev pub number_at : List ℕ → (from count : ℕ) → ℕ
number_at bytes from zero = 0
number_at bytes from (suc count) = number_at bytes from count * 256 + slice_index bytes (from + count)
