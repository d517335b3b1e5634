-- What the laws need of a kind of cell: sameness, a cell's byte, and the cell that a byte names.
use Rattle.std.specs.Prelude.{ℕ, Bool, Option}

pub record Members (C : Type 0) : Type 0 where
  pub equal : C → C → Bool
  pub byte : C → ℕ
  pub named : ℕ → Option C
