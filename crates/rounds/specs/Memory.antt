-- 40,960 cells are memory enough for every round.
use Rattle.std.specs.Prelude.{◌≡◌, ℕ, ◌≤◌, List, None}
use Rattle.plate.specs.Layout.{size_of}
use Rattle.rounds.specs.declared.file_kind.FileKind.{FileKind}
use Rattle.rounds.specs.RoundFile.{planes_in, round_questions, side_in}

-- As many cells as 4,096 planes of side 2 use.
abbrev pub round_cells : ℕ
round_cells = 40960

abbrev pub MemorySuffices : Type 0
MemorySuffices = (kind : FileKind) (file : List ℕ) → round_questions kind file ≡ None → size_of (planes_in file) (side_in file) ≤ round_cells
