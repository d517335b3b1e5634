use Rattle.std.proofs.Common.{◌^◌, ◌<◌, length, ap, arith, rules}
use Rattle.rounds.proofs.RefusedRoom.{refused_fits}
use Rattle.rounds.proofs.refused.refused.Goals as goal

pub refused_line-requires : goal.refused_line-requires
refused_line-requires c =
    let r = c.args.refusal in
    let number : r.number < 256 = search rules in
    let place : r.place < 2 ^ 64 = search rules in
    omega (arith, refused_fits r number place, c.new-text.ensures.len, ap length c.new-text.ensures.bytes)
