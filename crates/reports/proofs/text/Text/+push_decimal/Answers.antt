use Rattle.std.proofs.Common.{inl, inr, arith, rules}
use Rattle.reports.proofs.Decimals.{front_fits, last_fits, decimal_written}
use Rattle.reports.proofs.text.Text.+push_decimal.Goals as goal
use Rattle.reports.proofs.text.Text.+push_decimal.Goals.{then-n-ge10, else-n-ge10}

pub push_decimal-requires : goal.push_decimal-requires
push_decimal-requires t c =
    (search rules, front_fits c.args.n c.args.self.now (omega arith) c.requires c.if-n-ge10.true)

pub push-requires : goal.push-requires
push-requires t c =
    last_fits c.args.n c.args.self.now (omega arith) c.requires c.if-n-ge10.self
    (elim c.if-n-ge10.branch [
      | then-n-ge10 w ↦ inl (w.if-n-ge10.true, rw w.self-is w.push_decimal.ensures)
      | else-n-ge10 w ↦ inr (w.if-n-ge10.false, w.self-is)
    ])

pub returns : goal.returns
returns t c =
    decimal_written c.args.n c.args.self.now (omega arith) c.requires c.if-n-ge10.self
    (elim c.if-n-ge10.branch [
      | then-n-ge10 w ↦ inl (w.if-n-ge10.true, rw w.self-is w.push_decimal.ensures)
      | else-n-ge10 w ↦ inr (w.if-n-ge10.false, w.self-is)
    ]) c.push.ensures
