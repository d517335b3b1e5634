use Rattle.std.proofs.Common.{◌≡◌, ◌-◌, subst, arith, rules}
use Rattle.toom.proofs.RowVotes.{VotedBelow, voted_more, voted_all}
use Rattle.toom.proofs.rows.vote_rows.Goals as goal

pub loop-r-preserved : goal.loop-r-preserved
loop-r-preserved c =
    voted_more c.args.side c.args.rows.now c.loop-r.r c.vote_row.result c.loop-r.rows (omega arith) c.loop-r.invariant
    (search rules)

pub returns : goal.returns
returns c =
    let last : c.loop-r.r ≡ c.args.side - 1 = omega arith in
    voted_all c.args.side c.args.rows.now (c.args.side - 1) c.vote_row-2.result c.loop-r.rows (omega arith)
    (subst (λ r. VotedBelow c.args.side c.args.rows.now r c.loop-r.rows) last c.loop-r.invariant) (omega arith)
    (search rules)
