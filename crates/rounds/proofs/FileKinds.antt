-- A kind of a file tells its number.
use Rattle.std.proofs.Common.{◌≡◌, ℕ, zero, suc, refl}
use Rattle.plate.proofs.PinnedFaults.{undone}
use Rattle.rounds.specs.declared.file_kind.FileKind.{FileKind}
use Rattle.rounds.specs.declared.file_kind.FileKind.TheVariants.{Bits, MachineCells, Other}
use Rattle.rounds.specs.FileKind.{file_kind, FileKindsPin}

abbrev number_of : FileKind → ℕ
number_of Bits = 0
number_of MachineCells = 1
number_of (Other number) = number

numbers_undone : (number : ℕ) → number_of (file_kind number) ≡ number
numbers_undone zero = refl
numbers_undone (suc zero) = refl
numbers_undone (suc (suc n)) = refl

pub file_kinds_pin : FileKindsPin
file_kinds_pin = undone file_kind number_of numbers_undone
