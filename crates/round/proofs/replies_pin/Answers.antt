use Rattle.std.proofs.Common.{refl}
use Rattle.toom.specs.declared.bit.Bit.TheVariants.{Zero, One}
use Rattle.round.proofs.Pinning.{one_reply_each}
use Rattle.round.proofs.replies_pin.Goals as goal

pub returns : goal.returns
returns c =
    one_reply_each _ (elim [ Zero ↦ elim [ Zero ↦ refl | One ↦ refl ] | One ↦ elim [ Zero ↦ refl | One ↦ refl ] ]) c.rounds_pin.ensures.reply
    c.rounds_pin-2.ensures.reply
