use Rattle.std.proofs.Common.{◌≡◌}
use Rattle.toom.proofs.Stretching.{LooksNext}
use Rattle.toom.proofs.shadow.stretches.StretchesIterator.next.Given as goal

abbrev pub invariant-loop-row : goal.invariant-loop-row
invariant-loop-row l = record {
  same : l.self ≡ l.fn.self;
  looks : LooksNext l.fn.self.shadow.now l.fn.self.row l.fn.self.column l.row l.column;
}
