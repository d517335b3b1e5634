use Rattle.std.proofs.Common.{◌≤◌, length}
use Rattle.plate.specs.Plates.{members}
use Rattle.rounds.specs.PlayCall.{entrant}
use Rattle.round.specs.Answer.{Replied}
use Rattle.round.proofs.Replying.{ok_kept, replied}
use Rattle.round.proofs.reply_of.Goals as goal

pub returns : goal.returns
returns g c =
    let k = members g.C.PartialEq.eq g.C.Kind.byte_of g.C.Kind.cell_of in
    let e = entrant g.H.Entry.kind g.H.Entry.questions g.H.Entry.is_in g.H.Host.meaning in
    let file = c.args.file.now in
    let out = c.args.out.now in
    let out' = c.reply.new.out in
    let kept = c.map_err.ensures in
    record {
      replied = ok_kept c.reply.result c.map_err.result (λ n. Replied k e file n out out') _ kept.cases kept.variant
          (replied k e file c.reply.result _ _ _ out out' c.args.blank c.requires.blank (c.in_ok-cells.ensures.items_if_clones_equal c.requires.clones)
          c.deref_mut.ensures.value c.reply.ensures.outcome);
      within = ok_kept c.reply.result c.map_err.result (λ n. n ≤ length out') _ kept.cases kept.variant c.reply.ensures.within;
    }
