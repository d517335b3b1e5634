use Rattle.kept.proofs.Pairs.{no_reply}
use Rattle.kept.proofs.kept.cut_round.Goals as goal

pub returns-in_err-reply : goal.returns-in_err-reply
returns-in_err-reply c =
    rw c.from_residual-in_err-reply.ensures
    (no_reply c.args.bytes.now c.in_ok-file.file.now c.in_ok-file.rest.now c.in_ok-file.ensures c.in_err-reply.ensures)
