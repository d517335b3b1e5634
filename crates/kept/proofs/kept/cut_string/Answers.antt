use Rattle.std.proofs.Common.{arith}
use Rattle.kept.proofs.Strings.{no_length, string_cut}
use Rattle.kept.proofs.kept.cut_string.Goals as goal

pub returns-in_err-length : goal.returns-in_err-length
returns-in_err-length c = rw c.from_residual.ensures (no_length c.args.bytes.now c.in_err-length.ensures.cases)

pub returns : goal.returns
returns c =
    let cut = c.in_ok-length.ensures.cases in
    string_cut c.args.bytes.now c.in_ok-length.rest.now c.in_ok-length.length.now c.from_be_bytes.result c.split_at_checked.result
    (λ i. omega (arith, c.type_inv.bytes i)) cut.0 cut.1 (omega (arith, cut.2)) c.from_be_bytes.ensures (omega arith)
    c.split_at_checked.ensures.cases
