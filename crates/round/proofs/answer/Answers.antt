use Rattle.std.proofs.Common.{refl, ap, Some, arith}
use Rattle.toom.specs.MachineCells.{cells_equal}
use Rattle.toom.specs.declared.bit.Bit.TheVariants.{Zero, One}
use Rattle.rounds.specs.declared.file_kind.FileKind.TheVariants.{MachineCells}
use Rattle.round.proofs.Answering.{answered_as, answered_as_bits}
use Rattle.round.proofs.answer.Goals as goal

pub returns-in-MachineCells-clause-answered : goal.returns-in-MachineCells-clause-answered
returns-in-MachineCells-clause-answered c =
    answered_as c.args.file.now c.reply_of.result c.args.out.now c.reply_of.new.out c.kind.result c.kind.ensures MachineCells c.in-MachineCells.is
    c.reply_of.ensures.replied

pub returns-in-Bits-clause-answered : goal.returns-in-Bits-clause-answered
returns-in-Bits-clause-answered c =
    answered_as_bits c.args.file.now c.reply_of-in-Bits.result c.args.out.now c.reply_of-in-Bits.new.out c.kind.result c.kind.ensures _
    (elim [ Zero ↦ elim [ Zero ↦ refl | One ↦ refl ] | One ↦ elim [ Zero ↦ refl | One ↦ refl ] ]) c.in-Bits.is
    c.reply_of-in-Bits.ensures.replied

pub reply_of-requires-clause-blank : goal.reply_of-requires-clause-blank
reply_of-requires-clause-blank c = ap Some (cells_equal _ _ (omega arith))
