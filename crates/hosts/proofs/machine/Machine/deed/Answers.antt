use Rattle.std.proofs.Common.{arith}
use Rattle.hosts.proofs.Deeds.{looked_up}
use Rattle.hosts.proofs.machine.Machine.deed.Goals as goal

pub returns : goal.returns
returns c =
    let m = c.args.self.now in
    let x = c.args.cell in
    rw c.byte.ensures (looked_up m x _ (omega (arith, m.told, x.fits)))
