use Rattle.std.proofs.Common.{take}
use Rattle.std.specs.List.{flat_map}
use Rattle.reports.specs.Hex.{pair}
use Rattle.reports.specs.Text.{Appends}
use Rattle.reports.proofs.page.tape_line.Given as goal

abbrev pub invariant-loop-byte : goal.invariant-loop-byte
invariant-loop-byte l = Appends l.initial.text (flat_map pair (take l.byte-index l.tape)) l.text
