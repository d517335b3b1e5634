-- The kinds of cell that a round file can say, by their numbers.
use Rattle.std.specs.Prelude.{◌≡◌, ℕ, zero, suc, Bool, true, false, ◌==◌}
use Rattle.rounds.specs.declared.file_kind.FileKind.{FileKind}
use Rattle.rounds.specs.declared.file_kind.FileKind.TheVariants.{Bits, MachineCells, Other}

abbrev pub file_kind : ℕ → FileKind
file_kind zero = Bits
file_kind (suc zero) = MachineCells
file_kind (suc (suc n)) = Other (suc (suc n))

abbrev pub same_kind : FileKind → FileKind → Bool
same_kind Bits Bits = true
same_kind MachineCells MachineCells = true
same_kind (Other number) (Other other) = number == other
same_kind _ _ = false

-- Each number is a kind of its own.
abbrev pub FileKindsPin : Type 0
FileKindsPin = (number other : ℕ) → file_kind number ≡ file_kind other → number ≡ other
