-- A row of bits in one 64-bit word, from the highest bit down.
use Rattle.std.specs.Prelude.{◌≡◌, ℕ, ◌-◌, ◌/◌, ◌%◌, ◌^◌, ◌<◌, ◌≤◌, Bool, cond, List, ◌==◌, slice_index}
use Rattle.std.specs.Bool.{beq}
use Rattle.toom.specs.Torus.{total, next}
use Rattle.toom.specs.Vote.{vote_of}

-- Whether the word has its bit for column c.
abbrev pub column : (word c : ℕ) → Bool
column word c = word / 2 ^ (63 - c) % 2 == 1

-- The word fits 64 bits, and none of them is 1 but those of columns below the side.
abbrev pub Narrow : (side word : ℕ) → Type 0
Narrow side word = (word < 2 ^ 64) × (word % 2 ^ (64 - side) ≡ 0)

-- The word of a row of bits.
abbrev pub row_word : ℕ → (ℕ → Bool) → ℕ
row_word side row = total (λ c. cond (row c) (2 ^ (63 - c)) 0) side

-- The row `after` is the vote of the row `own`, with the row `north` of it.
pub record RowVote (side own north after : ℕ) : Type 0 where
  pub narrow : Narrow side after
  pub columns : (c : ℕ) → c < side → column after c ≡ vote_of beq (column north c) (column own (next side c)) (column own c)

-- The rows of the torus are voted, all from the old rows, and those past it stay.
pub record RowsVote (side : ℕ) (before after : List ℕ) : Type 0 where
  pub torus : (r : ℕ) → r < side → RowVote side (slice_index before r) (slice_index before (next side r)) (slice_index after r)
  pub beyond : (r : ℕ) → side ≤ r → slice_index after r ≡ slice_index before r
