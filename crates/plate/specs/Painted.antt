-- Equal cells, one after another, written into memory.
use Rattle.std.specs.Prelude.{◌≡◌, ℕ, ◌+◌, ◌*◌, ◌<◌, ◌≤◌, ◌⊎◌, List, Some, Option, slice_index, slice_index_or}
use Rattle.plate.specs.Sweep.{Swept}

-- `count` cells from `from` on are this cell, the others as they were.
abbrev pub Painted : {C : Type 0} → (from count : ℕ) → C → (before after : List C) → Type 0
Painted from count cell before after = Swept from count (λ j d x. x ≡ cell) before after

-- n blocks of w cells from `from` on, each of the cell that its byte of the tape names, the others as they were.
pub record BlocksPainted {C : Type 0} (named : ℕ → Option C) (from n w : ℕ) (tape : List ℕ) (before after : List C) : Type 0 where
  pub inside : (i j : ℕ) (d : C) → i < n → j < w → Some (slice_index_or after (from + (i * w + j)) d) ≡ named (slice_index tape i)
  pub outside : (k : ℕ) (d : C) → (k < from) ⊎ (from + n * w ≤ k) → slice_index_or after k d ≡ slice_index_or before k d
