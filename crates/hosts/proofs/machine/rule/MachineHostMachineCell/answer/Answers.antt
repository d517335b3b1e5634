use Rattle.std.proofs.Common.{◌+◌, ◌*◌, ap, ◌∙◌}
use Rattle.hosts.proofs.Deeds.{rule_by_deeds}
use Rattle.hosts.proofs.machine.rule.MachineHostMachineCell.answer.Goals as goal

pub returns : goal.returns
returns c =
    rule_by_deeds c.args.self.now c.args.left c.args.centre c.args.right _ _ _ _ c.deed-own.ensures c.deed.ensures
    c.deed-2.ensures (c.from.ensures ∙ ap (λ h. 16 * h + c.deed-own.result.symbol) c.next_head-head.ensures.value)
