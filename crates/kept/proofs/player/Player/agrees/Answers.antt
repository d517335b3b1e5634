use Rattle.std.proofs.Common.{refl}
use Rattle.toom.specs.declared.bit.Bit.TheVariants.{Zero, One}
use Rattle.rounds.specs.declared.file_kind.FileKind.TheVariants.{MachineCells}
use Rattle.kept.proofs.Comparing.{compared_as, compared_as_bits}
use Rattle.kept.proofs.player.Player.agrees.Goals as goal

pub returns-in-MachineCells : goal.returns-in-MachineCells
returns-in-MachineCells c =
    compared_as c.args.round.now.file.now c.args.round.now.reply.now c.agrees.result c.kind.result c.kind.ensures MachineCells c.in-MachineCells.is
    c.agrees.ensures

pub returns-in-Bits : goal.returns-in-Bits
returns-in-Bits c =
    compared_as_bits c.args.round.now.file.now c.args.round.now.reply.now c.agrees-in-Bits.result c.kind.result c.kind.ensures _
    (elim [ Zero ↦ elim [ Zero ↦ refl | One ↦ refl ] | One ↦ elim [ Zero ↦ refl | One ↦ refl ] ]) c.in-Bits.is c.agrees-in-Bits.ensures
