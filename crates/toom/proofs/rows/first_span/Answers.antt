use Rattle.std.proofs.Common.{arith}
use Rattle.toom.proofs.Spans.{none_ahead, first_within, span_found}
use Rattle.toom.proofs.rows.first_span.Goals.{then-from-ge64-via-then-from-ge64, then-from-ge64-via-else-from-ge64+then-row-from-eq0}
use Rattle.toom.proofs.rows.first_span.Goals as goal

pub returns-then-from-ge64 : goal.returns-then-from-ge64
returns-then-from-ge64 c k h l =
    elim c.then-from-ge64.branch [
      | then-from-ge64-via-then-from-ge64 w ↦ absurd (omega (arith, w.if-from-ge64.true))
      | then-from-ge64-via-else-from-ge64+then-row-from-eq0 w ↦ none_ahead c.args.row c.args.from w.if-row-from-eq0.true k h l
    ]

pub overflow_shl-row-2 : goal.overflow_shl-row-2
overflow_shl-row-2 c = first_within c.args.row c.args.from c.if-from-ge64.false c.if-row-from-eq0.false

pub returns : goal.returns
returns c =
    span_found c.args.row c.args.from c.if-from-ge64.false c.if-row-from-eq0.false c.leading_ones.result c.leading_ones.ensures
