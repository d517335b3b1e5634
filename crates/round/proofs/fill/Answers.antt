use Rattle.std.proofs.Common.{◌-◌, length, rules}
use Rattle.round.proofs.Filling.{read_on}
use Rattle.round.proofs.fill.Goals as goal

pub loop-len-preserved : goal.loop-len-preserved
loop-len-preserved g c =
    let before = c.loop-len.invariant in
    let got = c.in_ok-got.ensures in
    let room = length c.loop-len.buffer - c.loop-len.len in (
      search rules,
      search rules,
      read_on _ _ _ c.loop-len.len room c.in_ok-got.got c.loop-len.buffer c.read.new.buf before.0 got.bound.0 before.2 got.bytes.0,
    )
